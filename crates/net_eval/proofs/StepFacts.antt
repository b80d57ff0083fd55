-- How the steps, their values and the states grow, wire by wire.
use Rattle.std.proofs.Common.{◌≡◌, ℕ, zero, suc, ◌+◌, ◌^◌, ◌<◌, ◌≤◌, Bool, true, false, List, [], ◌∷◌, ◌++◌, length, set, take, ℤ, nat_lt, ◌≢◌, refl, sym, ap, ap₂, ◌∙◌, arith, add-one, ltb-true}
use Rattle.std.specs.List.{list_all}
use Rattle.std.proofs.lemmas.Bool.{and_parts}
use Rattle.std.proofs.lemmas.List.{append-nil, length-set, length-take-le, take_more, take_more_set, get_or-set_other}
use Rattle.std.proofs.lemmas.List.Sums.{count_by_more_no, count_by_more_yes, count_by-le-length}
use Rattle.net_model.specs.declared.wires.WireNo.{WireNo}
use Rattle.net_model.specs.declared.wires.Item.{Item}
use Rattle.net_model.specs.declared.wires.Item.TheVariants.{Input, Const, Delay, Block as OfBlock}
use Rattle.net_model.specs.declared.wires.Wire.{Wire}
use Rattle.net_model.specs.Wires.{NetData, wire_at, no_wire, is_input, input_place}
use Rattle.net_model.specs.Validity.{IsValid}
use Rattle.net_model.proofs.ValidityFacts.{length-valid, outs-valid}
use Rattle.net_eval.specs.declared.states.State.{State}
use Rattle.net_eval.specs.declared.states.State.TheVariants.{Nothing}
use Rattle.net_eval.specs.declared.steps.Step.{Step}
use Rattle.net_eval.specs.declared.resolving.Handover.{Handover}
use Rattle.net_eval.specs.States.{holding, start_of, starts_of, state_at}
use Rattle.net_eval.specs.Steps.{handover_of, handovers_of, handed_over, handover_at, step_of, steps_of, step_at, step_value, state_behind, kept_behind, value_at, values_of, states_of}
use Rattle.net_eval.specs.Picking.{AreBelow}
use Rattle.net_eval.proofs.Listings.{list_push, list_set}

-- a valid network's wires have small numbers
pub few_wires : (net : NetData) → IsValid net → length net.wires ≤ 512
few_wires net valid = length-valid net valid

-- a wire's number, and the places of inputs up to it, are small
pub small_number : (net : NetData) (wires : List Wire) (i : ℕ) → IsValid net → wires ≡ net.wires → i < length wires → i < 2 ^ 32
small_number net wires i valid same lt = omega (arith, few_wires net valid, ap length same)

pub small_place : (net : NetData) (wires : List Wire) (i place : ℕ) → IsValid net → wires ≡ net.wires → i < length wires → place ≡ input_place net.wires i → place + 1 < 2 ^ 64
small_place net wires i place valid same lt is =
    let few = few_wires net valid in
    let here : i ≤ length net.wires = omega (arith, ap length same) in
    let most : place ≤ length (take i net.wires) = rw is (count_by-le-length (λ (w : Wire). is_input w.item) (take i net.wires)) in
    omega (arith, length-take-le i net.wires here)

-- one more wire's place
pub place_next : (wires : List Wire) (i : ℕ) → i < length wires → is_input (wire_at wires i).item ≡ true → input_place wires (i + 1) ≡ input_place wires i + 1
place_next wires i lt h = count_by_more_yes (λ w. is_input w.item) wires i no_wire lt h

pub place_same : (wires : List Wire) (i : ℕ) → i < length wires → is_input (wire_at wires i).item ≡ false → input_place wires (i + 1) ≡ input_place wires i
place_same wires i lt h = count_by_more_no (λ w. is_input w.item) wires i no_wire lt h

-- the place behind a wire that is an input, and behind one that isn't
pub place_behind : (wires seen : List Wire) (i place next : ℕ) (item : Item) (is : Bool) → seen ≡ wires → i < length seen → item ≡ (wire_at wires i).item → is ≡ is_input item → place ≡ input_place wires i → is ≡ true → next ≡ place + 1 → next ≡ input_place wires (i + 1)
place_behind wires seen i place next item is same lt e f here holds n =
    n ∙ ap (λ k. k + 1) here ∙ sym (place_next wires i (rw (← same) lt) (ap is_input (sym e) ∙ sym f ∙ holds))

pub place_kept : (wires seen : List Wire) (i place next : ℕ) (item : Item) (is : Bool) → seen ≡ wires → i < length seen → item ≡ (wire_at wires i).item → is ≡ is_input item → place ≡ input_place wires i → is ≡ false → next ≡ place → next ≡ input_place wires (i + 1)
place_kept wires seen i place next item is same lt e f here fails n =
    n ∙ here ∙ sym (place_same wires i (rw (← same) lt) (ap is_input (sym e) ∙ sym f ∙ fails))

-- ---- steps and states, one after the other

pub steps_start : (net : NetData) → [] ≡ steps_of net 0
unfolding steps_of
steps_start net = refl

pub steps_push : (net : NetData) (i : ℕ) (steps : List Step) (step : Step) → step ≡ step_of net i → steps ≡ steps_of net i → steps ++ step ∷ [] ≡ steps_of net (i + 1)
unfolding steps_of
steps_push net i steps step h e = list_push (step_of net) steps step i e h

pub starts_start : (net : NetData) → [] ≡ starts_of net 0
unfolding starts_of
starts_start net = refl

pub starts_push : (net : NetData) (i : ℕ) (states : List State) (state : State) → state ≡ start_of net i → states ≡ starts_of net i → states ++ state ∷ [] ≡ starts_of net (i + 1)
unfolding starts_of
starts_push net i states state h e = list_push (start_of net) states state i e h

-- a state that is put back
pub starts_set : (net : NetData) (i : ℕ) (states : List State) (state : State) → i < length states → state ≡ start_of net i → take i states ≡ starts_of net i → take (i + 1) (set states i state) ≡ starts_of net (i + 1)
unfolding starts_of
starts_set net i states state lt h e = list_set (start_of net) states state i lt e h

-- ---- handovers

pub handovers_start : (net : NetData) → [] ≡ handovers_of net 0
unfolding handovers_of
handovers_start net = refl

-- one more wire's
pub handovers_push : (net : NetData) (i : ℕ) (handovers : List Handover) (item : Item) → item ≡ (wire_at net.wires i).item → handovers ≡ handovers_of net i → handovers ++ handover_of i item ≡ handovers_of net (i + 1)
unfolding handovers_of
handovers_push net i handovers item is e =
    ap₂ (λ hs t. hs ++ handover_of i t) e is ∙ sym (ap (handovers_of net) (add-one i))

-- what is no delay is handed nothing
no_handover : (i : ℕ) (item : Item) → ((init : ℤ) (source : WireNo) → item ≢ Delay init source) → handover_of i item ≡ []
no_handover i (Input lo hi) other = refl
no_handover i (Const value) other = refl
no_handover i (Delay init source) other = absurd (other init source refl)
no_handover i (OfBlock b) other = refl

pub handovers_same : (net : NetData) (i : ℕ) (handovers : List Handover) (item : Item) → item ≡ (wire_at net.wires i).item → ((init : ℤ) (source : WireNo) → item ≢ Delay init source) → handovers ≡ handovers_of net i → handovers ≡ handovers_of net (i + 1)
handovers_same net i handovers item is other e =
    sym (append-nil handovers) ∙ ap (λ hs. handovers ++ hs) (sym (no_handover i item other)) ∙ handovers_push net i handovers item is e

-- ---- a row's values, and the states behind it

pub values_start : (net : NetData) (steps : List Step) (states : List State) (inputs : List ℤ) → [] ≡ values_of net steps states inputs 0
unfolding values_of
values_start net steps states inputs = refl

pub values_push : (net : NetData) (steps : List Step) (states : List State) (inputs values : List ℤ) (i : ℕ) (step : Step) (state : State) (v r : ℤ) → i < length values → take i values ≡ values_of net steps states inputs i → v ≡ r → r ≡ step_value net step state inputs (take i values) → step ≡ step_at steps i → state ≡ state_at states i → take (i + 1) (set values i v) ≡ values_of net steps states inputs (i + 1)
unfolding values_of
values_push net steps states inputs values i step state v r lt e same h taken old =
    take_more_set values i v lt
    ∙ ap₂ (λ l x. l ++ x ∷ []) e (same ∙ h ∙ ap (λ s. step_value net s state inputs (take i values)) taken ∙ ap₂ (λ s l. step_value net (step_at steps i) s inputs l) old e)
    ∙ sym (ap (values_of net steps states inputs) (add-one i))

pub states_start : (net : NetData) (steps : List Step) (states : List State) (inputs : List ℤ) → [] ≡ states_of net steps states inputs 0
unfolding states_of
states_start net steps states inputs = refl

pub states_set : (net : NetData) (steps : List Step) (states now : List State) (inputs values : List ℤ) (i : ℕ) (step : Step) (state new : State) → i < length now → take i values ≡ values_of net steps states inputs i → take i now ≡ states_of net steps states inputs i → new ≡ state_behind step state (take i values) → step ≡ step_at steps i → state ≡ state_at states i → take (i + 1) (set now i new) ≡ states_of net steps states inputs (i + 1)
unfolding states_of
states_set net steps states now inputs values i step state new lt v e h taken old =
    list_set (kept_behind net steps states inputs) now new i lt e (h ∙ ap (λ s. state_behind s state (take i values)) taken ∙ ap₂ (λ s l. state_behind (step_at steps i) s l) old v)

-- no handover yet, and one more
pub handed_none : (values : List ℤ) (states : List State) → states ≡ handed_over [] values states
unfolding handed_over
handed_none values states = refl

-- the states where one more delay was handed its source's value
abbrev hand_one : Handover → List ℤ → List State → List State
hand_one h values states = set states h.delay (holding (state_at states h.delay) (value_at values h.source))

pub handed_one : (handovers : List Handover) (h : Handover) (values : List ℤ) (states : List State) → hand_one h values (handed_over handovers values states) ≡ handed_over (handovers ++ h ∷ []) values states
unfolding handed_over
handed_one [] h values states = refl
handed_one (first ∷ rest) h values states = handed_one rest h values (hand_one first values states)

pub handed_push : (handovers : List Handover) (values : List ℤ) (states now : List State) (k : ℕ) (v : ℤ) (old new : State) → k < length handovers → v ≡ value_at values (handover_at handovers k).source → old ≡ state_at now (handover_at handovers k).delay → new ≡ holding old v → now ≡ handed_over (take k handovers) values states → set now (handover_at handovers k).delay new ≡ handed_over (take (k + 1) handovers) values states
handed_push handovers values states now k v old new lt is was made e =
    ap (set now (handover_at handovers k).delay) (made ∙ ap₂ holding was is)
    ∙ ap (hand_one (handover_at handovers k) values) e
    ∙ handed_one (take k handovers) (handover_at handovers k) values states
    ∙ ap (λ hs. handed_over hs values states) (sym (take_more handovers k (record { delay = 0; source = 0 }) lt))

pub length-handed_over : (handovers : List Handover) (values : List ℤ) (states : List State) → length (handed_over handovers values states) ≡ length states
unfolding handed_over
length-handed_over [] values states = refl
length-handed_over (h ∷ rest) values states =
    length-handed_over rest values (hand_one h values states)
    ∙ length-set states h.delay (holding (state_at states h.delay) (value_at values h.source))

-- what stands from one place on isn't touched by what is set before it
pub rest_set : (states now : List State) (i : ℕ) (new : State) → ((k : ℕ) → i ≤ k → state_at now k ≡ state_at states k) → (k : ℕ) → i + 1 ≤ k → state_at (set now i new) k ≡ state_at states k
rest_set states now i new rest k le =
    get_or-set_other now i k new Nothing (λ (e : k ≡ i). absurd (omega (arith, le, e))) ∙ rest k (omega (arith, le))

-- ---- outputs

-- outputs that all pass a test are below
pub below_all : (outs : List WireNo) (n : ℕ) → list_all (λ o. nat_lt o.0 n) outs ≡ true → AreBelow outs n
below_all [] n h k lt = absurd (omega arith)
below_all (o ∷ outs) n h zero lt = ltb-true _ _ ((and_parts _ _ h).0)
below_all (o ∷ outs) n h (suc k) lt = below_all outs n ((and_parts _ _ h).1) k (omega arith)

pub outs_below : (net : NetData) → IsValid net → AreBelow net.outs (length net.wires)
outs_below net valid = below_all net.outs (length net.wires) (outs-valid net valid)
