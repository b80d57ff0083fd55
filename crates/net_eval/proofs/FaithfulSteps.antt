-- What the proof about a row asks of the step of each kind of item: it is ready, and gives the machine's value; and what its wire
-- keeps is what is to be kept.
use Rattle.std.proofs.Common.{◌≡◌, ℕ, ◌<◌, List, [], ◌∷◌, map, length, get_or, ℤ, pos, sym, subst, ap, ◌∙◌}
use Rattle.std.specs.Prelude.{◌≤◌, Option, Some, None, IfSome}
use Rattle.std.proofs.Math.ListN.{get_or-map}
use Rattle.fx_core.specs.declared.word_type.Ty.{Ty}
use Rattle.fx_core.specs.Types.{Holds}
use Rattle.net_model.specs.declared.wires.WireNo.{WireNo}
use Rattle.net_model.specs.declared.wires.Kind.{Kind}
use Rattle.net_model.specs.declared.wires.Kind.TheVariants.{Num}
use Rattle.net_model.specs.declared.wires.Item.{Item}
use Rattle.net_model.specs.Wires.{NamedAxis, NetData, wire_at, inputs_of}
use Rattle.net_model.proofs.ValidityFacts.{IsInKind, IsGoodArgument, number_kind}
use Rattle.net_meaning.specs.Cells.{Cell, plain, cell_at}
use Rattle.net_meaning.specs.Blocks.{machine}
use Rattle.net_meaning.specs.Runs.{equation_of, row_of}
use Rattle.net_meaning.proofs.TableRun.{row-prefix}
use Rattle.net_eval.specs.declared.states.State.{State}
use Rattle.net_eval.specs.After.{kept_by}
use Rattle.net_eval.specs.States.{MayKeep, item_start, put_back}
use Rattle.net_eval.specs.Steps.{handed, item_step, step_value, state_behind, value_at, IsReady}
use Rattle.net_eval.specs.Typing.{AreTyped}

-- ---- values in their kinds

-- each of the first n values lies in the kind of its wire
abbrev pub AreHeld : NetData → List ℤ → ℕ → Type 0
AreHeld net values n = (k : ℕ) → k < n → IsInKind net.axes (wire_at net.wires k).kind (value_at values k)

-- a value of a type lies in the kind of a wire of the type
pub held_in_kind : (axes : List NamedAxis) (ty : Ty) (kind : Kind) (point : ℕ) (v : ℤ) → kind ≡ Num ty point → Holds ty v → IsInKind axes kind v
held_in_kind axes ty kind point v e h = subst (λ k. IsInKind axes k v) (sym e) (record { low = h.0; high = h.1 })

pub kind_held : (axes : List NamedAxis) (ty : Ty) (kind : Kind) (point : ℕ) (v : ℤ) → kind ≡ Num ty point → IsInKind axes kind v → Holds ty v
kind_held axes ty kind point v e h =
    let k : IsInKind axes (Num ty point) v = subst (λ k. IsInKind axes k v) e h in
    (k.low, k.high)

-- an argument's value is one of its type
pub given_held : (net : NetData) (values : List ℤ) (i : ℕ) (first : WireNo) (ty : Option Ty) (a : WireNo) → AreHeld net values i → IsGoodArgument net i first ty a → IfSome ty (λ t. Holds t (value_at values a.0))
given_held net values i first (Some ty) a held g =
    let k = number_kind ty (wire_at net.wires a.0).kind g.number in kind_held net.axes ty _ k.0 _ k.1 (held a.0 g.earlier)
given_held net values i first None a held g = tt

-- ---- a row's cells

-- their values
abbrev pub values_in : List (Cell ℤ) → List ℤ
values_in cells = map (λ c. c.value) cells

pub value_at-values_in : (cells : List (Cell ℤ)) (k : ℕ) → value_at (values_in cells) k ≡ (get_or cells k (plain machine (pos 0))).value
unfolding machine
value_at-values_in cells k = get_or-map (λ (c : Cell ℤ). c.value) cells k (plain machine (pos 0))

-- the cells of wires up to i, above the table of the rows before, and those of all wires
abbrev pub cells_to : NetData → List (List ℤ) → List (List (Cell ℤ)) → ℕ → List (Cell ℤ)
cells_to net rows past i = row_of machine net rows past i

abbrev pub cells_of : NetData → List (List ℤ) → List (List (Cell ℤ)) → List (Cell ℤ)
cells_of net rows past = cells_to net rows past (length net.wires)

-- the value of an earlier wire is that of the whole row
pub value_in_row : (net : NetData) (rows : List (List ℤ)) (past : List (List (Cell ℤ))) (i k : ℕ) → k < i → i ≤ length net.wires → value_at (values_in (cells_to net rows past i)) k ≡ (cell_at machine (cells_of net rows past ∷ past) 0 k).value
value_in_row net rows past i k below le =
    value_at-values_in (cells_to net rows past i) k
    ∙ ap (λ (c : Cell ℤ). c.value) (sym (row-prefix machine net rows past (plain machine (pos 0)) i (length net.wires) k below le))

-- ---- what is asked

-- of the step of an item on wire i
pub record IsFaithful (net : NetData) (i : ℕ) (item : Item) : Type 0 where
  -- it is ready, where the earlier values lie in their kinds
  pub ready : (state : State) (inputs values : List ℤ) → length inputs ≡ length (inputs_of net.wires) → length values ≡ i →
      AreHeld net values i → MayKeep net i item state → IsReady net (item_step net i item) state inputs values
  -- its value lies in the kind of the wire
  pub held : (state : State) (inputs values : List ℤ) → AreTyped net inputs → MayKeep net i item state →
      IsInKind net.axes (wire_at net.wires i).kind (step_value net (item_step net i item) state inputs values)
  -- it is that of the machine, where the earlier values are and the wire keeps what is to be kept
  pub right : (state : State) (inputs : List ℤ) (rows : List (List ℤ)) (past : List (List (Cell ℤ))) (cells : List (Cell ℤ)) →
      state ≡ kept_by net rows past i item →
      step_value net (item_step net i item) state inputs (values_in cells)
      ≡ (equation_of machine net (inputs ∷ rows) (cell_at machine (cells ∷ past)) i item).value

-- of what the wire keeps
pub record IsKeptRight (net : NetData) (i : ℕ) (item : Item) : Type 0 where
  -- before the first row it keeps what is to be kept
  pub start : item_start net i item ≡ kept_by net [] [] i item
  -- and behind each row, where it does before it
  pub next : (state : State) (inputs : List ℤ) (rows : List (List ℤ)) (past : List (List (Cell ℤ))) →
      state ≡ kept_by net rows past i item →
      handed item (values_in (cells_of net (inputs ∷ rows) past))
      (state_behind (item_step net i item) state (values_in (cells_to net (inputs ∷ rows) past i)))
      ≡ kept_by net (inputs ∷ rows) (cells_of net (inputs ∷ rows) past ∷ past) i item
  -- it may keep what it does before the first row
  pub may_start : MayKeep net i item (item_start net i item)
  -- and behind each row, where the values lie in their kinds
  pub may_next : (state : State) (values all : List ℤ) → AreHeld net all (length net.wires) → MayKeep net i item state →
      MayKeep net i item (handed item all (state_behind (item_step net i item) state values))
  -- put back it is what it was before the first row
  pub back : (state : State) → MayKeep net i item state → put_back item state ≡ item_start net i item
