-- What the steps make of a row is what the machine does: values, outputs, and what is kept behind it.
use Rattle.std.proofs.Common.{◌≡◌, ℕ, zero, suc, ◌+◌, ◌<◌, ◌≤◌, List, [], ◌∷◌, ◌++◌, map, length, drop, get_or, set, take, ℤ, pos, ◌≢◌, refl, sym, ap, ap₂, ◌∙◌, subst, arith, inl, inr}
use Rattle.std.proofs.lemmas.Bool.{cases_eq}
use Rattle.std.proofs.lemmas.List.{append-nil, ext_get_or, get_or_append_left, get_or_push, get_or-set_other, get_or-set_same, length_push, map-append}
use Rattle.std.proofs.lemmas.List.FromFn.{length-map-range_with_len}
use Rattle.net_model.specs.declared.wires.WireNo.{WireNo}
use Rattle.net_model.specs.declared.wires.Item.{Item}
use Rattle.net_model.specs.declared.wires.Item.TheVariants.{Input, Const, Delay, Block as OfBlock}
use Rattle.net_model.specs.Wires.{NetData, wire_at, inputs_of}
use Rattle.net_model.specs.Validity.{IsValid}
use Rattle.net_model.proofs.ValidityFacts.{IsInKind, delay-valid}
use Rattle.net_meaning.specs.Cells.{Cell, plain, cell_at}
use Rattle.net_meaning.specs.Blocks.{machine}
use Rattle.net_meaning.specs.Runs.{equation, row_of, table}
use Rattle.net_eval.specs.declared.states.State.{State}
use Rattle.net_eval.specs.declared.states.State.TheVariants.{Nothing}
use Rattle.net_eval.specs.declared.resolving.Handover.{Handover}
use Rattle.net_eval.specs.declared.steps.Step.{Step}
use Rattle.net_eval.specs.declared.steps.Step.TheVariants.{Read}
use Rattle.net_eval.specs.After.{PlanData, IsAfter, kept_on, kept_of, outputs_of}
use Rattle.net_eval.specs.States.{AreKept, MayKeep, holding, put_back, start_of, starts_of, state_at}
use Rattle.net_eval.specs.Steps.{AreAmong, ArePlanned, AreReady, IsReady, handed, handed_over, handover_at, handover_of, handovers_of, step_of, steps_of, step_at, step_value, state_behind, kept_behind, states_of, value_at, values_of}
use Rattle.net_eval.specs.Picking.{AreBelow}
use Rattle.net_eval.specs.Typing.{AreTyped}
use Rattle.net_eval.proofs.Listings.{list_at, list_same, written_back}
use Rattle.net_eval.proofs.StepFacts.{length-handed_over, outs_below, starts_set}
use Rattle.net_eval.proofs.FaithfulSteps.{AreHeld, values_in, value_at-values_in}
use Rattle.net_eval.proofs.ItemSteps.{faithful, kept_right}

-- ---- each one by its number

length-steps_of : (net : NetData) (n : ℕ) → length (steps_of net n) ≡ n
unfolding steps_of
length-steps_of net n = length-map-range_with_len (step_of net) 0 n

step_at-steps_of : (net : NetData) (n k : ℕ) → k < n → step_at (steps_of net n) k ≡ step_of net k
unfolding steps_of
step_at-steps_of net n k lt = list_at (step_of net) n k (Read 0) lt

length-starts_of : (net : NetData) (n : ℕ) → length (starts_of net n) ≡ n
unfolding starts_of
length-starts_of net n = length-map-range_with_len (start_of net) 0 n

state_at-starts_of : (net : NetData) (n k : ℕ) → k < n → state_at (starts_of net n) k ≡ start_of net k
unfolding starts_of
state_at-starts_of net n k lt = list_at (start_of net) n k Nothing lt

length-states_of : (net : NetData) (steps : List Step) (states : List State) (inputs : List ℤ) (n : ℕ) → length (states_of net steps states inputs n) ≡ n
unfolding states_of
length-states_of net steps states inputs n = length-map-range_with_len (kept_behind net steps states inputs) 0 n

state_at-states_of : (net : NetData) (steps : List Step) (states : List State) (inputs : List ℤ) (n k : ℕ) → k < n → state_at (states_of net steps states inputs n) k ≡ kept_behind net steps states inputs k
unfolding states_of
state_at-states_of net steps states inputs n k lt = list_at (kept_behind net steps states inputs) n k Nothing lt

state_at-kept_of : (net : NetData) (rows : List (List ℤ)) (cells : List (List (Cell ℤ))) (n k : ℕ) → k < n → state_at (kept_of net rows cells n) k ≡ kept_on net rows cells k
unfolding kept_of
state_at-kept_of net rows cells n k lt = list_at (kept_on net rows cells) n k Nothing lt

length-kept_of : (net : NetData) (rows : List (List ℤ)) (cells : List (List (Cell ℤ))) (n : ℕ) → length (kept_of net rows cells n) ≡ n
unfolding kept_of
length-kept_of net rows cells n = length-map-range_with_len (kept_on net rows cells) 0 n

length-values_of : (net : NetData) (steps : List Step) (states : List State) (inputs : List ℤ) (n : ℕ) → length (values_of net steps states inputs n) ≡ n
unfolding values_of
length-values_of net steps states inputs zero = refl
length-values_of net steps states inputs (suc n) = length_push _ _ ∙ omega (arith, length-values_of net steps states inputs n)

-- what holds of each element and of one more
push_each : {X : Type 0} (xs : List X) (x d : X) (P : ℕ → X → Type 0) (n : ℕ) → length xs ≡ n → ((k : ℕ) → k < n → P k (get_or xs k d)) → P n x → (k : ℕ) → k < suc n → P k (get_or (xs ++ x ∷ []) k d)
push_each xs x d P n len h here k lt =
    elim (cases_eq k n) [
      | inl e ↦ subst (λ v. P k v) (sym (get_or_push xs x d k (len ∙ sym e))) (subst (λ m. P m x) (sym e) here)
      | inr ne ↦ subst (λ v. P k v) (sym (get_or_append_left xs (x ∷ []) d k (omega (arith, len)))) (h k (omega arith))
    ]

-- ---- what the delays are handed

-- two lists of handovers, one after the other
handed_both : (first second : List Handover) (values : List ℤ) (states : List State) → handed_over (first ++ second) values states ≡ handed_over second values (handed_over first values states)
unfolding handed_over
handed_both [] second values states = refl
handed_both (h ∷ first) second values states = handed_both first second values (set states h.delay (holding (state_at states h.delay) (value_at values h.source)))

-- what is handed to a wire is kept for it, and for no other one
handed_here : (n : ℕ) (item : Item) (values : List ℤ) (states : List State) → n < length states → state_at (handed_over (handover_of n item) values states) n ≡ handed item values (state_at states n)
unfolding handed_over
handed_here n (Input lo hi) values states lt = refl
handed_here n (Const value) values states lt = refl
handed_here n (Delay init source) values states lt = get_or-set_same states n (holding (state_at states n) (value_at values source.0)) Nothing lt
handed_here n (OfBlock b) values states lt = refl

handed_other : (n k : ℕ) (item : Item) (values : List ℤ) (states : List State) → k ≢ n → state_at (handed_over (handover_of n item) values states) k ≡ state_at states k
unfolding handed_over
handed_other n k (Input lo hi) values states other = refl
handed_other n k (Const value) values states other = refl
handed_other n k (Delay init source) values states other = get_or-set_other states n k (holding (state_at states n) (value_at values source.0)) Nothing other
handed_other n k (OfBlock b) values states other = refl

-- the states of all wires that were handed what is theirs
abbrev handed_to : NetData → List ℤ → List State → ℕ → List State
handed_to net values states n = handed_over (handovers_of net n) values states

handed_next : (net : NetData) (values : List ℤ) (states : List State) (n : ℕ) → handed_to net values states (suc n) ≡ handed_over (handover_of n (wire_at net.wires n).item) values (handed_to net values states n)
unfolding handovers_of
handed_next net values states n = handed_both (handovers_of net n) (handover_of n (wire_at net.wires n).item) values states

handed_later : (net : NetData) (values : List ℤ) (states : List State) (n k : ℕ) → n ≤ k → state_at (handed_to net values states n) k ≡ state_at states k
unfolding handovers_of handed_over
handed_later net values states zero k le = refl
handed_later net values states (suc n) k le =
    ap (λ l. state_at l k) (handed_next net values states n)
    ∙ handed_other n k (wire_at net.wires n).item values (handed_to net values states n) (λ (e : k ≡ n). absurd (omega (arith, le, e)))
    ∙ handed_later net values states n k (omega (arith, le))

handed_earlier : (net : NetData) (values : List ℤ) (states : List State) (n k : ℕ) → k < n → n ≤ length states → state_at (handed_to net values states n) k ≡ handed (wire_at net.wires k).item values (state_at states k)
handed_earlier net values states zero k lt le = absurd (omega arith)
handed_earlier net values states (suc n) k lt le =
    elim (cases_eq k n) [
      | inl e ↦ subst (λ m. state_at (handed_to net values states (suc n)) m ≡ handed (wire_at net.wires m).item values (state_at states m)) (sym e) here
      | inr ne ↦ ap (λ l. state_at l k) (handed_next net values states n) ∙ handed_other n k (wire_at net.wires n).item values (handed_to net values states n) ne ∙ handed_earlier net values states n k (omega arith) (omega (arith, le))
    ]
  where
    there : n < length (handed_to net values states n)
    there = omega (arith, length-handed_over (handovers_of net n) values states, le)

    here : state_at (handed_to net values states (suc n)) n ≡ handed (wire_at net.wires n).item values (state_at states n)
    here =
        ap (λ l. state_at l n) (handed_next net values states n)
        ∙ handed_here n (wire_at net.wires n).item values (handed_to net values states n) there
        ∙ ap (handed (wire_at net.wires n).item values) (handed_later net values states n n (omega arith))

-- a handover among n wires
abbrev IsAmong : ℕ → Handover → Type 0
IsAmong n h = (h.delay < n) × (h.source < n)

among_more : (net : NetData) (n k : ℕ) (item : Item) (handovers : List Handover) → IsValid net → n < length net.wires → (wire_at net.wires n).item ≡ item → AreAmong handovers (length net.wires) → k < length (handovers ++ handover_of n item) → IsAmong (length net.wires) (handover_at (handovers ++ handover_of n item) k)
among_more net n k (Input lo hi) handovers valid there e among lt = subst (λ hs. IsAmong (length net.wires) (handover_at hs k)) (sym (append-nil handovers)) (among k (subst (λ hs. k < length hs) (append-nil handovers) lt))
among_more net n k (Const value) handovers valid there e among lt = subst (λ hs. IsAmong (length net.wires) (handover_at hs k)) (sym (append-nil handovers)) (among k (subst (λ hs. k < length hs) (append-nil handovers) lt))
among_more net n k (Delay init source) handovers valid there e among lt =
    push_each handovers (record { delay = n; source = source.0 }) (record { delay = 0; source = 0 }) (λ m h. IsAmong (length net.wires) h) (length handovers) refl among (there, (delay-valid net n init source valid there e).there) k (omega (arith, lt, length_push handovers (record { delay = n; source = source.0 })))
among_more net n k (OfBlock b) handovers valid there e among lt = subst (λ hs. IsAmong (length net.wires) (handover_at hs k)) (sym (append-nil handovers)) (among k (subst (λ hs. k < length hs) (append-nil handovers) lt))

all_among : (net : NetData) (n : ℕ) → IsValid net → n ≤ length net.wires → AreAmong (handovers_of net n) (length net.wires)
unfolding handovers_of
all_among net zero valid le k lt = absurd (omega arith)
all_among net (suc n) valid le k lt =
    among_more net n k (wire_at net.wires n).item (handovers_of net n) valid (omega (arith, le)) refl (all_among net n valid (omega (arith, le))) lt

-- ---- before the first row

starts_kept : (net : NetData) → IsValid net → AreKept net (starts_of net (length net.wires))
starts_kept net valid = record {
  one_each = length-starts_of net (length net.wires);
  each = λ i lt.
      subst (MayKeep net i (wire_at net.wires i).item) (sym (state_at-starts_of net (length net.wires) i lt)) (kept_right net i valid lt).may_start;
}

pub planned_start : (net : NetData) (steps : List Step) (handovers : List Handover) (states : List State) → IsValid net → steps ≡ steps_of net (length net.wires) → handovers ≡ handovers_of net (length net.wires) → states ≡ starts_of net (length net.wires) → ArePlanned net steps handovers states
planned_start net steps handovers states valid resolved handed e =
    record { valid = valid; resolved = resolved; handed = handed; kept = subst (AreKept net) (sym e) (starts_kept net valid) }

pub after_start : (net : NetData) (states : List State) → IsValid net → states ≡ starts_of net (length net.wires) → IsAfter net [] states
unfolding starts_of kept_of table
after_start net states valid e =
    e ∙ list_same (start_of net) (kept_on net [] []) (length net.wires) (λ i lt. (kept_right net i valid lt).start)

-- what is put back of a state that isn't yet
pub restarts_set : (net : NetData) (i : ℕ) (states now : List State) (item : Item) (old new : State) → AreKept net states → IsValid net → i < length net.wires → i < length now → item ≡ (wire_at net.wires i).item → old ≡ state_at states i → new ≡ put_back item old → take i now ≡ starts_of net i → take (i + 1) (set now i new) ≡ starts_of net (i + 1)
restarts_set net i states now item old new kept valid there lt is was h e =
    starts_set net i now new lt (h ∙ ap₂ put_back is was ∙ (kept_right net i valid there).back (state_at states i) (kept.each i there)) e

-- a plan's states that were put back
pub states_back : (net : NetData) (old new : List State) (n : ℕ) → new ≡ starts_of net (length net.wires) → n ≡ length net.wires → take n (new ++ drop (length new) old) ≡ starts_of net (length net.wires)
states_back net old new n e long =
    written_back new old n (ap length e ∙ length-starts_of net (length net.wires) ∙ sym long) ∙ e

-- ---- a row of a planned network

-- what a row is evaluated with
record IsGiven (net : NetData) (states : List State) (inputs : List ℤ) : Type 0 where
  pub valid : IsValid net
  pub kept : AreKept net states
  pub typed : AreTyped net inputs

-- its steps
abbrev all_steps : NetData → List Step
all_steps net = steps_of net (length net.wires)

-- the values of the first n of them
abbrev values_to : NetData → List State → List ℤ → ℕ → List ℤ
values_to net states inputs n = values_of net (all_steps net) states inputs n

-- what all wires keep behind them
abbrev states_behind : NetData → List State → List ℤ → List State
states_behind net states inputs = states_of net (all_steps net) states inputs (length net.wires)

-- and behind the row
abbrev handed_behind : NetData → List State → List ℤ → List State
handed_behind net states inputs =
    handed_over (handovers_of net (length net.wires)) (values_to net states inputs (length net.wires)) (states_behind net states inputs)

step_of_all : (net : NetData) (i : ℕ) → i < length net.wires → step_at (all_steps net) i ≡ step_of net i
step_of_all net i lt = step_at-steps_of net (length net.wires) i lt

-- one of the states behind the row
state_of_all : (net : NetData) (states : List State) (inputs : List ℤ) (i : ℕ) → i < length net.wires → state_at (handed_behind net states inputs) i ≡ handed (wire_at net.wires i).item (values_to net states inputs (length net.wires)) (state_behind (step_of net i) (state_at states i) (values_to net states inputs i))
state_of_all net states inputs i lt =
    handed_earlier net all (states_behind net states inputs) (length net.wires) i lt (omega (arith, length-states_of net (all_steps net) states inputs (length net.wires)))
    ∙ ap (handed (wire_at net.wires i).item all) (state_at-states_of net (all_steps net) states inputs (length net.wires) i lt ∙ ap (λ s. state_behind s (state_at states i) (values_to net states inputs i)) (step_of_all net i lt))
  where
    all : List ℤ
    all = values_to net states inputs (length net.wires)

length-handed_behind : (net : NetData) (states : List State) (inputs : List ℤ) → length (handed_behind net states inputs) ≡ length net.wires
length-handed_behind net states inputs =
    length-handed_over (handovers_of net (length net.wires)) _ (states_behind net states inputs)
    ∙ length-states_of net (all_steps net) states inputs (length net.wires)

-- the values lie in their kinds
values_held : (net : NetData) (states : List State) (inputs : List ℤ) (n : ℕ) → IsGiven net states inputs → n ≤ length net.wires → AreHeld net (values_to net states inputs n) n
unfolding values_of
values_held net states inputs zero given le k lt = absurd (omega arith)
values_held net states inputs (suc n) given le k lt =
    push_each values _ (pos 0) IsHeld n (length-values_of net (all_steps net) states inputs n) (values_held net states inputs n given (omega arith)) here k lt
  where
    values : List ℤ
    values = values_to net states inputs n

    IsHeld : ℕ → ℤ → Type 0
    IsHeld m v = IsInKind net.axes (wire_at net.wires m).kind v

    there : n < length net.wires
    there = omega arith

    here : IsHeld n (step_value net (step_at (all_steps net) n) (state_at states n) inputs values)
    here =
        let held = (faithful net n given.valid there).held (state_at states n) inputs values given.typed (given.kept.each n there) in
        subst (λ s. IsHeld n (step_value net s (state_at states n) inputs values)) (sym (step_of_all net n there)) held

-- each step is ready
all_ready : (net : NetData) (states : List State) (inputs : List ℤ) → IsGiven net states inputs → length inputs ≡ length (inputs_of net.wires) → AreReady net (all_steps net) states inputs
all_ready net states inputs given one_each i below =
    let lt : i < length net.wires = omega (arith, below, length-steps_of net (length net.wires)) in
    let held = values_held net states inputs i given (omega (arith, lt)) in
    let ready = (faithful net i given.valid lt).ready (state_at states i) inputs _ one_each (length-values_of net _ states inputs i) held (given.kept.each i lt) in
    subst (λ s. IsReady net s (state_at states i) inputs (values_to net states inputs i)) (sym (step_of_all net i lt)) ready

-- what is kept behind the row may be kept
all_kept : (net : NetData) (states : List State) (inputs : List ℤ) → IsGiven net states inputs → AreKept net (handed_behind net states inputs)
all_kept net states inputs given = record {
  one_each = length-handed_behind net states inputs;
  each = λ i lt.
      let held = values_held net states inputs (length net.wires) given (omega arith) in
      let may = (kept_right net i given.valid lt).may_next (state_at states i) (values_to net states inputs i) (values_to net states inputs (length net.wires)) held (given.kept.each i lt) in
      subst (MayKeep net i (wire_at net.wires i).item) (sym (state_of_all net states inputs i lt)) may;
}

-- ---- the values are the row's

-- what is kept before a row
record IsKeptBefore (net : NetData) (states : List State) (rows : List (List ℤ)) (past : List (List (Cell ℤ))) : Type 0 where
  pub valid : IsValid net
  pub kept : states ≡ kept_of net rows past (length net.wires)

state_is : (net : NetData) (states : List State) (rows : List (List ℤ)) (past : List (List (Cell ℤ))) (i : ℕ) → IsKeptBefore net states rows past → i < length net.wires → state_at states i ≡ kept_on net rows past i
state_is net states rows past i before lt =
    ap (λ l. state_at l i) before.kept ∙ state_at-kept_of net rows past (length net.wires) i lt

-- one more value is that of one more cell
value_next : (net : NetData) (states : List State) (inputs : List ℤ) (rows : List (List ℤ)) (past : List (List (Cell ℤ))) (n : ℕ) → IsKeptBefore net states rows past → n < length net.wires → values_to net states inputs n ≡ values_in (row_of machine net (inputs ∷ rows) past n) → step_value net (step_at (all_steps net) n) (state_at states n) inputs (values_to net states inputs n) ≡ (equation machine net (inputs ∷ rows) (cell_at machine (row_of machine net (inputs ∷ rows) past n ∷ past)) n).value
value_next net states inputs rows past n before lt earlier =
    let kept = state_is net states rows past n before lt in
    ap₂ (λ s l. step_value net s (state_at states n) inputs l) (step_of_all net n lt) earlier
    ∙ (faithful net n before.valid lt).right (state_at states n) inputs rows past (row_of machine net (inputs ∷ rows) past n) kept

values_row : (net : NetData) (states : List State) (inputs : List ℤ) (rows : List (List ℤ)) (past : List (List (Cell ℤ))) (n : ℕ) → IsKeptBefore net states rows past → n ≤ length net.wires → values_to net states inputs n ≡ values_in (row_of machine net (inputs ∷ rows) past n)
unfolding values_of row_of
values_row net states inputs rows past zero before le = refl
values_row net states inputs rows past (suc n) before le =
    let earlier = values_row net states inputs rows past n before (omega arith) in
    ap₂ (λ l x. l ++ x ∷ []) earlier (value_next net states inputs rows past n before (omega arith) earlier)
    ∙ sym (map-append (λ (c : Cell ℤ). c.value) (row_of machine net (inputs ∷ rows) past n) _)

-- the states behind it are what is kept
states_row : (net : NetData) (states : List State) (inputs : List ℤ) (rows : List (List ℤ)) → IsKeptBefore net states rows (table machine net rows) → IsAfter net (inputs ∷ rows) (handed_behind net states inputs)
unfolding table
states_row net states inputs rows before =
    ext_get_or Nothing _ _ (length-handed_behind net states inputs ∙ sym (length-kept_of net (inputs ∷ rows) (row ∷ past) n)) (λ i below. each i (omega (arith, below, length-handed_behind net states inputs)))
  where
    n : ℕ
    n = length net.wires

    past : List (List (Cell ℤ))
    past = table machine net rows

    row : List (Cell ℤ)
    row = row_of machine net (inputs ∷ rows) past n

    each : (i : ℕ) → i < n → state_at (handed_behind net states inputs) i ≡ state_at (kept_of net (inputs ∷ rows) (row ∷ past) n) i
    each i lt =
        state_of_all net states inputs i lt
        ∙ ap₂ (λ all so_far. handed (wire_at net.wires i).item all (state_behind (step_of net i) (state_at states i) so_far)) (values_row net states inputs rows past n before (omega arith)) (values_row net states inputs rows past i before (omega (arith, lt)))
        ∙ (kept_right net i before.valid lt).next (state_at states i) inputs rows past (state_is net states rows past i before lt)
        ∙ sym (state_at-kept_of net (inputs ∷ rows) (row ∷ past) n i lt)

-- the outputs that are read off the values
outputs_row : (net : NetData) (states : List State) (inputs : List ℤ) (rows : List (List ℤ)) → IsKeptBefore net states rows (table machine net rows) → map (λ o. value_at (values_to net states inputs (length net.wires)) o.0) net.outs ≡ outputs_of net (inputs ∷ rows)
unfolding outputs_of table
outputs_row net states inputs rows before = ap (λ f. map f net.outs) same
  where
    past : List (List (Cell ℤ))
    past = table machine net rows

    cells : List (Cell ℤ)
    cells = row_of machine net (inputs ∷ rows) past (length net.wires)

    read : WireNo → ℤ
    read o = value_at (values_to net states inputs (length net.wires)) o.0

    shown : WireNo → ℤ
    shown o = (get_or cells o.0 (plain machine (pos 0))).value

    each : (o : WireNo) → read o ≡ shown o
    each o =
        ap (λ l. value_at l o.0) (values_row net states inputs rows past (length net.wires) before (omega arith))
        ∙ value_at-values_in cells o.0

    same : read ≡ shown
    same = λ i o. each o i

-- ---- the same, of the steps and states that a plan has

pub length-steps : (net : NetData) (steps : List Step) (handovers : List Handover) (states : List State) → ArePlanned net steps handovers states → length steps ≡ length net.wires
length-steps net steps handovers states p = ap length p.resolved ∙ length-steps_of net (length net.wires)

pub steps_ready : (net : NetData) (steps : List Step) (handovers : List Handover) (states : List State) (inputs : List ℤ) → ArePlanned net steps handovers states → length inputs ≡ length (inputs_of net.wires) → AreTyped net inputs → AreReady net steps states inputs
steps_ready net steps handovers states inputs p one_each typed =
    let given : IsGiven net states inputs = record { valid = p.valid; kept = p.kept; typed = typed } in
    subst (λ l. AreReady net l states inputs) (sym p.resolved) (all_ready net states inputs given one_each)

pub outs_there : (net : NetData) (steps : List Step) (handovers : List Handover) (states : List State) (inputs values : List ℤ) (outs : List WireNo) → ArePlanned net steps handovers states → outs ≡ net.outs → values ≡ values_of net steps states inputs (length steps) → AreBelow outs (length values)
outs_there net steps handovers states inputs values outs p named filled =
    subst (λ os. AreBelow os (length values)) (sym named) (subst (AreBelow net.outs) (sym long) (outs_below net p.valid))
  where
    long : length values ≡ length net.wires
    long = ap length filled ∙ length-values_of net steps states inputs (length steps) ∙ length-steps net steps handovers states p

pub handovers_there : (net : NetData) (steps : List Step) (handovers : List Handover) (states now : List State) → ArePlanned net steps handovers states → length now ≡ length net.wires → AreAmong handovers (length now)
handovers_there net steps handovers states now p e =
    subst (AreAmong handovers) (sym e) (subst (λ hs. AreAmong hs (length net.wires)) (sym p.handed) (all_among net (length net.wires) p.valid (omega arith)))

-- the steps leave a value and a state for each wire
pub length-stepped : (net : NetData) (steps : List Step) (handovers : List Handover) (states stepped : List State) (inputs : List ℤ) → ArePlanned net steps handovers states → stepped ≡ states_of net steps states inputs (length steps) → length stepped ≡ length net.wires
length-stepped net steps handovers states stepped inputs p e =
    ap length e ∙ length-states_of net steps states inputs (length steps) ∙ length-steps net steps handovers states p

pub length-filled : (net : NetData) (steps : List Step) (states stepped : List State) (inputs values : List ℤ) → values ≡ values_of net steps states inputs (length steps) → stepped ≡ states_of net steps states inputs (length steps) → length values ≡ length stepped
length-filled net steps states stepped inputs values filled stood =
    ap length filled
    ∙ length-values_of net steps states inputs (length steps)
    ∙ sym (ap length stood ∙ length-states_of net steps states inputs (length steps))

-- what is kept behind the row
abbrev pub row_behind : NetData → List Step → List Handover → List State → List ℤ → List State
row_behind net steps handovers states inputs =
    handed_over handovers (values_of net steps states inputs (length steps)) (states_of net steps states inputs (length steps))

row_behind-is : (net : NetData) (steps : List Step) (handovers : List Handover) (states : List State) (inputs : List ℤ) → ArePlanned net steps handovers states → row_behind net steps handovers states inputs ≡ handed_behind net states inputs
row_behind-is net steps handovers states inputs p =
    ap₂ (λ l n. handed_over handovers (values_of net l states inputs n) (states_of net l states inputs n)) p.resolved (length-steps net steps handovers states p)
    ∙ ap (λ hs. handed_over hs (values_to net states inputs (length net.wires)) (states_behind net states inputs)) p.handed

-- of the values and the states that the steps leave
pub row_left : (net : NetData) (steps : List Step) (handovers : List Handover) (states stepped behind : List State) (inputs values : List ℤ) → values ≡ values_of net steps states inputs (length steps) → stepped ≡ states_of net steps states inputs (length steps) → behind ≡ handed_over handovers values stepped → behind ≡ row_behind net steps handovers states inputs
row_left net steps handovers states stepped behind inputs values filled stood e = e ∙ ap₂ (handed_over handovers) filled stood

pub row_kept : (net : NetData) (steps : List Step) (handovers : List Handover) (states behind : List State) (inputs : List ℤ) → ArePlanned net steps handovers states → AreTyped net inputs → behind ≡ row_behind net steps handovers states inputs → AreKept net behind
row_kept net steps handovers states behind inputs p typed e =
    let given : IsGiven net states inputs = record { valid = p.valid; kept = p.kept; typed = typed } in
    subst (AreKept net) (sym (e ∙ row_behind-is net steps handovers states inputs p)) (all_kept net states inputs given)

pub row_after : (net : NetData) (steps : List Step) (handovers : List Handover) (states behind : List State) (inputs : List ℤ) (rows : List (List ℤ)) → ArePlanned net steps handovers states → IsAfter net rows states → behind ≡ row_behind net steps handovers states inputs → IsAfter net (inputs ∷ rows) behind
row_after net steps handovers states behind inputs rows p after e =
    e ∙ row_behind-is net steps handovers states inputs p ∙ states_row net states inputs rows (record { valid = p.valid; kept = after })

pub row_outputs : (net : NetData) (steps : List Step) (handovers : List Handover) (states : List State) (inputs values out : List ℤ) (outs : List WireNo) (rows : List (List ℤ)) → ArePlanned net steps handovers states → IsAfter net rows states → values ≡ values_of net steps states inputs (length steps) → outs ≡ net.outs → out ≡ map (λ o. value_at values o.0) outs → out ≡ outputs_of net (inputs ∷ rows)
row_outputs net steps handovers states inputs values out outs rows p after filled named read =
    read
    ∙ ap₂ (λ l os. map (λ o. value_at l o.0) os) (filled ∙ ap₂ (λ l n. values_of net l states inputs n) p.resolved (length-steps net steps handovers states p)) named
    ∙ outputs_row net states inputs rows (record { valid = p.valid; kept = after })

-- ---- what is said of a plan's network is said of the plan

pub after_along : (p : PlanData) (net : NetData) (states kept : List State) (rows : List (List ℤ)) → record { net = net; kept = states } ≡ p → IsAfter net rows kept → IsAfter p.net rows kept
after_along p net states kept rows e after = subst (λ (q : PlanData). IsAfter q.net rows kept) e after
