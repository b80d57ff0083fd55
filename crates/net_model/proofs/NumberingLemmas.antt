-- How the lists of inputs, of parts and of the numbers of first parts grow, wire by wire.
use Rattle.std.proofs.Common.{◌≡◌, ℕ, zero, suc, ◌+◌, ◌*◌, ◌<◌, ◌≤◌, true, false, List, [], ◌∷◌, ◌++◌, map, length, get_or, take, take-suc, drop, refl, sym, ap, ◌∙◌, arith, add-one, drop-cons, drop_of_length-le, append_assoc, append-nil}
use Rattle.std.proofs.lemmas.List.{map-append, take_all}
use Rattle.net_model.specs.declared.wires.WireNo.{WireNo}
use Rattle.net_model.specs.declared.wires.PartNo.{PartNo}
use Rattle.net_model.specs.declared.wires.Item.{Item}
use Rattle.net_model.specs.declared.wires.Item.TheVariants.{Input, Const, Delay, Block as OfBlock}
use Rattle.net_model.specs.declared.wires.Wire.{Wire}
use Rattle.net_model.specs.declared.wires.Role.{Role}
use Rattle.net_model.specs.declared.wires.Part.{Part}
use Rattle.net_model.specs.Wires.{wire_at, no_wire, is_input, with_input, inputs_from, inputs_of, roles_of, parts_from, parts_of, firsts_from}
use Rattle.net_model.proofs.PartPlaces.{part_of, few_roles}

-- the wires from wire i on are wire i and those behind it
drop-wires : (wires : List Wire) (i : ℕ) → i < length wires → drop i wires ≡ wire_at wires i ∷ drop (i + 1) wires
drop-wires wires i lt = drop-cons wires i no_wire lt ∙ ap (λ k. wire_at wires i ∷ drop k wires) (sym (add-one i))

with_input-true : (item : Item) (i : ℕ) (rest : List WireNo) → is_input item ≡ true → with_input item i rest ≡ record { 0 = i } ∷ rest
with_input-true (Input lo hi) i rest h = refl
with_input-true (Const value) i rest h = absurd (cc)
with_input-true (Delay init source) i rest h = absurd (cc)
with_input-true (OfBlock b) i rest h = absurd (cc)

with_input-false : (item : Item) (i : ℕ) (rest : List WireNo) → is_input item ≡ false → with_input item i rest ≡ rest
with_input-false (Input lo hi) i rest h = absurd (cc)
with_input-false (Const value) i rest h = refl
with_input-false (Delay init source) i rest h = refl
with_input-false (OfBlock b) i rest h = refl

inputs_from-step : (wires : List Wire) (i : ℕ) → i < length wires → inputs_from i (drop i wires) ≡ with_input (wire_at wires i).item i (inputs_from (i + 1) (drop (i + 1) wires))
inputs_from-step wires i lt = ap (inputs_from i) (drop-wires wires i lt)

-- the inputs that were found, and those among the wires from wire i on, are all inputs
abbrev pub AreInputsBelow : List Wire → ℕ → List WireNo → Type 0
AreInputsBelow wires i found = found ++ inputs_from i (drop i wires) ≡ inputs_of wires

pub inputs_push : (wires : List Wire) (i : ℕ) (found : List WireNo) → i < length wires → is_input (wire_at wires i).item ≡ true → AreInputsBelow wires i found → AreInputsBelow wires (i + 1) (found ++ record { 0 = i } ∷ [])
inputs_push wires i found lt h e =
    append_assoc found _ _ ∙ sym (ap (λ r. found ++ r) (inputs_from-step wires i lt ∙ with_input-true _ i _ h)) ∙ e

pub inputs_pass : (wires : List Wire) (i : ℕ) (found : List WireNo) → i < length wires → is_input (wire_at wires i).item ≡ false → AreInputsBelow wires i found → AreInputsBelow wires (i + 1) found
inputs_pass wires i found lt h e =
    sym (ap (λ r. found ++ r) (inputs_from-step wires i lt ∙ with_input-false _ i _ h)) ∙ e

pub inputs_done : (wires : List Wire) (i : ℕ) (found : List WireNo) → length wires ≤ i → AreInputsBelow wires i found → found ≡ inputs_of wires
inputs_done wires i found past e =
    sym (append-nil found) ∙ ap (λ r. found ++ inputs_from i r) (sym (drop_of_length-le wires past)) ∙ e

-- the parts that were made, and those of the wires from wire i on, are all parts
abbrev pub ArePartsBelow : List Wire → ℕ → List Part → Type 0
ArePartsBelow wires i made = made ++ parts_from i (drop i wires) ≡ parts_of wires

parts_push : (wires : List Wire) (i : ℕ) (made : List Part) → i < length wires → ArePartsBelow wires i made → ArePartsBelow wires (i + 1) (made ++ map (part_of i) (roles_of (wire_at wires i).item))
parts_push wires i made lt e =
    append_assoc made _ _ ∙ sym (ap (λ r. made ++ parts_from i r) (drop-wires wires i lt)) ∙ e

any_default : (wires : List Wire) (i : ℕ) (d : Wire) → i < length wires → get_or wires i d ≡ wire_at wires i
any_default [] i d lt = absurd (omega arith)
any_default (w ∷ wires) zero d lt = refl
any_default (w ∷ wires) (suc i) d lt = any_default wires i d (omega arith)

-- the parts of one more wire
pub parts_more : (wires : List Wire) (i : ℕ) (made new : List Part) (roles : List Role) (d : Wire) → i < length wires → ArePartsBelow wires i made → new ≡ made ++ map (part_of i) roles → roles ≡ roles_of (get_or wires i d).item → ArePartsBelow wires (i + 1) new
parts_more wires i made new roles d lt e is same = rw (is, same ∙ ap (λ w. roles_of w.item) (any_default wires i d lt)) (parts_push wires i made lt e)

-- one more part of a wire
pub roles_push : (old parts : List Part) (wire : ℕ) (roles : List Role) (i : ℕ) (d : Role) → i < length roles → parts ≡ old ++ map (part_of wire) (take i roles) → parts ++ part_of wire (get_or roles i d) ∷ [] ≡ old ++ map (part_of wire) (take (i + 1) roles)
roles_push old parts wire roles i d lt e =
    ap (λ p. p ++ part_of wire (get_or roles i d) ∷ []) e
    ∙ append_assoc old (map (part_of wire) (take i roles)) (part_of wire (get_or roles i d) ∷ [])
    ∙ ap (λ p. old ++ p) (sym (map-append (part_of wire) (take i roles) (get_or roles i d ∷ [])))
    ∙ ap (λ r. old ++ map (part_of wire) r) (sym (ap (λ n. take n roles) (add-one i) ∙ take-suc roles i d lt))

pub roles_done : (old parts : List Part) (wire : ℕ) (roles : List Role) (i : ℕ) → length roles ≤ i → parts ≡ old ++ map (part_of wire) (take i roles) → parts ≡ old ++ map (part_of wire) roles
roles_done old parts wire roles i past e = e ∙ ap (λ r. old ++ map (part_of wire) r) (take_all i roles past)

pub parts_done : (wires : List Wire) (i : ℕ) (made : List Part) → length wires ≤ i → ArePartsBelow wires i made → made ≡ parts_of wires
parts_done wires i made past e =
    sym (append-nil made) ∙ ap (λ r. made ++ parts_from i r) (sym (drop_of_length-le wires past)) ∙ e

-- the numbers of first parts that were made, and those from wire i on, whose first part has number `next`, are all; and that
-- number isn't above four times those before
abbrev pub AreFirstsBelow : List Wire → ℕ → ℕ → List PartNo → Type 0
AreFirstsBelow wires i next made = (made ++ firsts_from next (drop i wires) ≡ firsts_from 0 wires) × (next ≤ 4 * i)

pub firsts_push : (wires : List Wire) (i next : ℕ) (made : List PartNo) (roles : List Role) (d : Wire) → i < length wires → roles ≡ roles_of (get_or wires i d).item → AreFirstsBelow wires i next made → AreFirstsBelow wires (i + 1) (next + length roles) (made ++ record { 0 = next } ∷ [])
firsts_push wires i next made roles d lt same below =
    let here : roles ≡ roles_of (wire_at wires i).item = same ∙ ap (λ w. roles_of w.item) (any_default wires i d lt) in
    let few : length roles ≤ 4 = rw here (few_roles (wire_at wires i).item) in (
      append_assoc made _ _ ∙ ap (λ l. made ++ record { 0 = next } ∷ firsts_from (next + l) (drop (i + 1) wires)) (ap length here) ∙ sym (ap (λ r. made ++ firsts_from next r) (drop-wires wires i lt)) ∙ below.0,
      omega (arith, few, below.1),
    )

pub firsts_done : (wires : List Wire) (i next : ℕ) (made : List PartNo) → length wires ≤ i → AreFirstsBelow wires i next made → made ≡ firsts_from 0 wires
firsts_done wires i next made past below =
    sym (append-nil made) ∙ ap (λ r. made ++ firsts_from next r) (sym (drop_of_length-le wires past)) ∙ below.0

pub ruleset inputs_steps = (inputs_push, inputs_pass, inputs_done)

pub ruleset parts_steps = (parts_done, roles_done)

pub ruleset firsts_steps = firsts_done
