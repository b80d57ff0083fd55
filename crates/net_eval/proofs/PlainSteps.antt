-- The steps of inputs, constants and delays, what delays keep, and the places of inputs.
use Rattle.std.proofs.Common.{◌≡◌, ℕ, zero, suc, ◌+◌, ◌<◌, true, List, [], ◌∷◌, length, take, ℤ, refl, sym, ap, ap₂, ◌∙◌, subst, arith, cond, if◌then◌else◌}
use Rattle.std.proofs.lemmas.Bool.{lt-leb}
use Rattle.std.proofs.lemmas.List.Recursion.{is_count_by}
use Rattle.net_model.specs.declared.wires.WireNo.{WireNo}
use Rattle.net_model.specs.declared.wires.Item.{Item}
use Rattle.net_model.specs.declared.wires.Item.TheVariants.{Input, Const, Delay, Block as OfBlock}
use Rattle.net_model.specs.declared.wires.Wire.{Wire}
use Rattle.net_model.specs.Wires.{NetData, wire_at, is_input, input_place, with_input, inputs_from, inputs_of}
use Rattle.net_model.specs.Validity.{IsValid}
use Rattle.net_model.proofs.ValidityFacts.{IsInKind, in_kind, const-valid, delay-valid}
use Rattle.net_meaning.specs.Blocks.{machine}
use Rattle.net_meaning.specs.Runs.{is_first, equation_of}
use Rattle.net_eval.specs.After.{held_after}
use Rattle.net_eval.specs.States.{MayHold, held_in, holding}
use Rattle.net_eval.specs.Steps.{value_at}
use Rattle.net_eval.proofs.FaithfulSteps.{IsFaithful, IsKeptRight, AreHeld, cells_of, value_at-values_in}

-- ---- the places of inputs

longer : (item : Item) (rest : List WireNo) (j n : ℕ) → n < length rest → cond (is_input item) (1 + n) n < length (with_input item j rest)
longer (Input lo hi) rest j n h = omega arith
longer (Const value) rest j n h = h
longer (Delay init source) rest j n h = h
longer (OfBlock b) rest j n h = h

not_empty : (item : Item) (rest : List WireNo) (j : ℕ) → is_input item ≡ true → 0 < length (with_input item j rest)
not_empty (Input lo hi) rest j h = omega arith
not_empty (Const value) rest j h = absurd (cc)
not_empty (Delay init source) rest j h = absurd (cc)
not_empty (OfBlock b) rest j h = absurd (cc)

-- how many of the wires are inputs, from the first on
abbrev input_count : List Wire → ℕ
input_count [] = 0
input_count (w ∷ wires) = cond (is_input w.item) (1 + input_count wires) (input_count wires)

input_count-is : (wires : List Wire) (i : ℕ) → input_count (take i wires) ≡ input_place wires i
input_count-is wires i = is_count_by input_count (λ w. is_input w.item) refl (λ w ws. refl) (take i wires)

place_below_from : (wires : List Wire) (j i : ℕ) → i < length wires → is_input (wire_at wires i).item ≡ true → input_count (take i wires) < length (inputs_from j wires)
place_below_from [] j i lt h = absurd (omega arith)
place_below_from (w ∷ wires) j zero lt h = not_empty w.item (inputs_from (j + 1) wires) j h
place_below_from (w ∷ wires) j (suc i) lt h =
    longer w.item (inputs_from (j + 1) wires) j (input_count (take i wires)) (place_below_from wires (j + 1) i (omega arith) h)

place_below : (wires : List Wire) (i : ℕ) → i < length wires → is_input (wire_at wires i).item ≡ true → input_place wires i < length (inputs_of wires)
place_below wires i lt h = omega (arith, input_count-is wires i, place_below_from wires 0 i lt h)

-- ---- the steps

pub input_faithful : (net : NetData) (i : ℕ) (lo hi : ℤ) → i < length net.wires → (wire_at net.wires i).item ≡ Input lo hi → IsFaithful net i (Input lo hi)
unfolding equation_of machine
input_faithful net i lo hi lt e = record {
  ready = λ state inputs values one_each len held may. omega (arith, one_each, place_below net.wires i lt (ap is_input e));
  held = λ state inputs values typed may. in_kind _ _ _ (typed i lt (ap is_input e));
  right = λ state inputs rows past cells kept. refl;
}

pub const_faithful : (net : NetData) (i : ℕ) (value : ℤ) → IsValid net → i < length net.wires → (wire_at net.wires i).item ≡ Const value → IsFaithful net i (Const value)
unfolding equation_of machine
const_faithful net i value valid lt e = record {
  ready = λ state inputs values one_each len held may. tt;
  held = λ state inputs values typed may. const-valid net i value valid lt e;
  right = λ state inputs rows past cells kept. refl;
}

-- ---- delays

-- what a delay answers is what its equation says
delay_answer : (init newest : ℤ) (inputs : List ℤ) (rows : List (List ℤ)) → held_after init rows newest ≡ (if is_first (inputs ∷ rows) then init else newest)
delay_answer init newest inputs [] = refl
delay_answer init newest inputs (row ∷ rows) = rw (lt-leb (length (inputs ∷ row ∷ rows)) 1 (omega arith)) refl

pub delay_faithful : (net : NetData) (i : ℕ) (init : ℤ) (source : WireNo) → IsFaithful net i (Delay init source)
unfolding equation_of machine
delay_faithful net i init source = record {
  ready = λ state inputs values one_each len held may. tt;
  held = λ state inputs values typed may. record { low = may.1; high = may.2 };
  right = λ state inputs rows past cells kept. ap held_in kept ∙ delay_answer init _ inputs rows;
}

-- its source's value lies in its own kind
source_held : (net : NetData) (i : ℕ) (init : ℤ) (source : WireNo) (all : List ℤ) → IsValid net → i < length net.wires → (wire_at net.wires i).item ≡ Delay init source → AreHeld net all (length net.wires) → IsInKind net.axes (wire_at net.wires i).kind (value_at all source.0)
source_held net i init source all valid lt e held =
    let g = delay-valid net i init source valid lt e in
    subst (λ kind. IsInKind net.axes kind (value_at all source.0)) g.same (held source.0 g.there)

pub delay_kept : (net : NetData) (i : ℕ) (init : ℤ) (source : WireNo) → IsValid net → i < length net.wires → (wire_at net.wires i).item ≡ Delay init source → IsKeptRight net i (Delay init source)
delay_kept net i init source valid lt e = record {
  start = refl;
  next = λ state inputs rows past kept. ap₂ holding kept (value_at-values_in (cells_of net (inputs ∷ rows) past) source.0);
  may_start = let first = in_kind _ _ _ (delay-valid net i init source valid lt e).holds in (refl, first.low, first.high);
  may_next = λ state values all held may.
      let h = source_held net i init source all valid lt e held in
      let same = ap (λ s. holding s (value_at all source.0)) may.0 in
      subst (MayHold net.axes (wire_at net.wires i).kind) (sym same) (refl, h.low, h.high);
  back = λ state may. refl;
}
