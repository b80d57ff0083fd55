-- What a map of names answers once one more wire has its name in it.
use Rattle.std.proofs.Common.{◌≡◌, ℕ, zero, suc, ◌+◌, ◌<◌, ◌≤◌, Bool, true, false, not, List, [], ◌∷◌, ◌++◌, map, length, get_or, take, take-suc, refl, sym, ap, ap₂, ◌∙◌, subst, arith, add-one, cond, if◌then◌else◌, Option, Some, None, true≢false}
use Rattle.std.specs.Prelude.{bytes_eq, option_map}
use Rattle.std.specs.Global.{Vec}
use Rattle.std.specs.List.{list_any, position_from}
use Rattle.std.specs.Map.{lookup}
use Rattle.std.proofs.lemmas.Bool.{and_parts, or_parts, not-true}
use Rattle.std.proofs.lemmas.Iterator.Adapters.{position_from-zero}
use Rattle.std.proofs.lemmas.List.{get_or_default, length-take-le, take_all}
use Rattle.std.proofs.lemmas.Slice.Eq.{bytes_eq-Decides}
use Rattle.indexmap.specs.IndexMap.{IndexMap, IsEmpty, insert_entry}
use Rattle.net_model.specs.declared.wires.WireNo.{WireNo}
use Rattle.net_model.specs.declared.wires.Wire.{Wire}
use Rattle.net_model.specs.Wires.{NetData, no_wire, place_of}
use Rattle.net_model.specs.Validity.{IsValid, are_distinct}
use Rattle.net_model.specs.NameMap.{HasNumbersOf}
use Rattle.net_model.proofs.ValidityFacts.{conditions}
use Rattle.net_model.proofs.DraftLemmas.{bytes_eq_comm}

-- ---- the map

-- two names in a map are the same
abbrev same_key : Vec ℕ → Vec ℕ → Bool
same_key k l = bytes_eq k.items l.items

-- a value that is written twice, and two that are written for two names
same_twice : {X : Type 0} (b c : Bool) (x y : X) (z : X) → b ≡ c → cond b x z ≡ cond c x (cond b y z)
same_twice true true x y z h = refl
same_twice false false x y z h = refl
same_twice true false x y z h = absurd (true≢false h)
same_twice false true x y z h = absurd (true≢false (sym h))

either_first : {X : Type 0} (b c : Bool) (x y : X) (z : X) → (b ≡ true → c ≡ false) → cond b x (cond c y z) ≡ cond c y (cond b x z)
either_first true true x y z h = absurd (true≢false (h refl))
either_first true false x y z h = refl
either_first false c x y z h = refl

-- once a number is put at a name, that name has it, and each other has what it had
lookup-insert_entry : (key : Vec ℕ) (number : WireNo) (name : List ℕ) (es : List (Vec ℕ × WireNo)) → lookup (λ k. bytes_eq name k.items) (insert_entry same_key es key number) ≡ cond (bytes_eq name key.items) (Some number) (lookup (λ k. bytes_eq name k.items) es)
lookup-insert_entry key number name [] = refl
lookup-insert_entry key number name (e ∷ es) = by (same_key key e.0) refl (lookup-insert_entry key number name es)
  where
    by : (b : Bool) → same_key key e.0 ≡ b → lookup (λ k. bytes_eq name k.items) (insert_entry same_key es key number) ≡ cond (bytes_eq name key.items) (Some number) (lookup (λ k. bytes_eq name k.items) es)
        → lookup (λ k. bytes_eq name k.items) (if b then (e.0, number) ∷ es else e ∷ insert_entry same_key es key number) ≡ cond (bytes_eq name key.items) (Some number) (cond (bytes_eq name e.0.items) (Some e.1) (lookup (λ k. bytes_eq name k.items) es))
    by true h ih =
        same_twice (bytes_eq name e.0.items) (bytes_eq name key.items) (Some number) (Some e.1) (lookup (λ k. bytes_eq name k.items) es) (ap (bytes_eq name) (sym ((bytes_eq-Decides key.items e.0.items).0 h)))
    by false h ih =
        ap (λ found. cond (bytes_eq name e.0.items) (Some e.1) found) ih
        ∙ either_first (bytes_eq name e.0.items) (bytes_eq name key.items) (Some e.1) (Some number) (lookup (λ k. bytes_eq name k.items) es)
        (λ same. ap (λ n. bytes_eq n key.items) ((bytes_eq-Decides name e.0.items).0 same) ∙ bytes_eq_comm e.0.items key.items ∙ h)

-- ---- the first wire of a name

-- what was found, or else a last one that passes its test
then_last : Option ℕ → Bool → ℕ → Option ℕ
then_last (Some n) passes last = Some n
then_last None passes last = cond passes (Some last) None

then_last-fails : (found : Option ℕ) (last : ℕ) → then_last found false last ≡ found
unfolding then_last
then_last-fails (Some n) last = refl
then_last-fails None last = refl

first_or_later : (b : Bool) (i last : ℕ) (all found : Option ℕ) (passes : Bool) → all ≡ then_last found passes last → cond b (Some i) all ≡ then_last (cond b (Some i) found) passes last
unfolding then_last
first_or_later true i last all found passes h = refl
first_or_later false i last all found passes h = h

position_from-push : {X : Type 0} (p : X → Bool) (i : ℕ) (xs : List X) (x : X) → position_from p i (xs ++ x ∷ []) ≡ then_last (position_from p i xs) (p x) (i + length xs)
unfolding then_last
position_from-push p i [] x = let here : i ≡ i + 0 = omega arith in ap (λ n. cond (p x) (Some n) None) here
position_from-push p i (y ∷ ys) x =
    let moved : (i + 1) + length ys ≡ i + suc (length ys) = omega arith in
    first_or_later (p y) i (i + suc (length ys)) (position_from p (i + 1) (ys ++ x ∷ [])) (position_from p (i + 1) ys) (p x) (position_from-push p (i + 1) ys x ∙ ap (then_last (position_from p (i + 1) ys) (p x)) moved)

-- a name that stands behind others is none of theirs, where no name comes twice
other_name : (name : List ℕ) (wires : List Wire) (k : ℕ) → k < length wires → list_any (bytes_eq name) (map (λ w. w.name) wires) ≡ false → bytes_eq name (get_or wires k no_wire).name ≡ false
other_name name [] k lt h = absurd (omega arith)
other_name name (w ∷ wires) zero lt h = (or_parts (bytes_eq name w.name) _ h).0
other_name name (w ∷ wires) (suc k) lt h = let shorter : k < length wires = omega arith in other_name name wires k shorter ((or_parts (bytes_eq name w.name) _ h).1)

none_above : (wires : List Wire) (k i : ℕ) → k < length wires → are_distinct (map (λ w. w.name) wires) ≡ true → position_from (λ w. bytes_eq w.name (get_or wires k no_wire).name) i (take k wires) ≡ None
none_above [] k i lt h = absurd (omega arith)
none_above (w ∷ wires) zero i lt h = refl
none_above (w ∷ wires) (suc k) i lt h =
    let shorter : k < length wires = omega arith in
    let p = and_parts (not (list_any (bytes_eq w.name) (map (λ v. v.name) wires))) (are_distinct (map (λ v. v.name) wires)) h in
    ap (λ b. cond b (Some i) (position_from (λ v. bytes_eq v.name (get_or wires k no_wire).name) (i + 1) (take k wires))) (other_name w.name wires k shorter (not-true _ p.0))
    ∙ none_above wires k (i + 1) shorter p.1

-- the first wire of a name, looked for from the front
place_of-from : (wires : List Wire) (name : List ℕ) → place_of wires name ≡ position_from (λ w. bytes_eq w.name name) 0 wires
unfolding place_of
place_of-from wires name = position_from-zero (λ w. bytes_eq w.name name) wires

-- one more wire
place_of-next : (wires : List Wire) (i : ℕ) (name : List ℕ) → i < length wires → place_of (take (i + 1) wires) name ≡ then_last (place_of (take i wires) name) (bytes_eq (get_or wires i no_wire).name name) i
place_of-next wires i name lt =
    let p : Wire → Bool = λ w. bytes_eq w.name name in
    let w : Wire = get_or wires i no_wire in
    let last : 0 + length (take i wires) ≡ i = omega (arith, length-take-le i wires) in
    place_of-from (take (i + 1) wires) name
    ∙ ap (position_from p 0) (ap (λ n. take n wires) (add-one i) ∙ take-suc wires i no_wire lt)
    ∙ position_from-push p 0 (take i wires) w
    ∙ ap (λ n. then_last (position_from p 0 (take i wires)) (p w) n) last
    ∙ ap (λ o. then_last o (p w) i) (sym (place_of-from (take i wires) name))

-- ---- the map of a list of wires

-- the number of the wire of a name
abbrev number_of : List Wire → List ℕ → Option WireNo
number_of wires name = option_map (λ n. record { 0 = n }) (place_of wires name)

number_of-next : (wires : List Wire) (i : ℕ) (name : List ℕ) → i < length wires → are_distinct (map (λ w. w.name) wires) ≡ true → number_of (take (i + 1) wires) name ≡ cond (bytes_eq name (get_or wires i no_wire).name) (Some (record { 0 = i })) (number_of (take i wires) name)
unfolding then_last
number_of-next wires i name lt distinct = ap (option_map (λ n. record { 0 = n })) (place_of-next wires i name lt) ∙ by (bytes_eq name w.name) refl
  where
    w : Wire
    w = get_or wires i no_wire

    by : (b : Bool) → bytes_eq name w.name ≡ b → option_map (λ n. record { 0 = n }) (then_last (place_of (take i wires) name) (bytes_eq w.name name) i) ≡ cond b (Some (record { 0 = i })) (number_of (take i wires) name)
    by true e =
        let same : name ≡ w.name = (bytes_eq-Decides name w.name).0 e in
        let none : place_of (take i wires) name ≡ None = place_of-from (take i wires) name ∙ ap (λ n. position_from (λ v. bytes_eq v.name n) 0 (take i wires)) same ∙ none_above wires i 0 lt distinct in
        let own : bytes_eq w.name name ≡ true = (bytes_eq-Decides w.name name).1 (sym same) in
        ap₂ (λ o b. option_map (λ n. record { 0 = n }) (then_last o b i)) none own
    by false e =
        let other : bytes_eq w.name name ≡ false = bytes_eq_comm w.name name ∙ e in
        ap (λ b. option_map (λ n. record { 0 = n }) (then_last (place_of (take i wires) name) b i)) other
        ∙ ap (option_map (λ n. record { 0 = n })) (then_last-fails (place_of (take i wires) name) i)

pub names_start : {S : Type 0} (names : IndexMap (Vec ℕ) WireNo S) (wires : List Wire) → IsEmpty names → HasNumbersOf (take 0 wires) names
unfolding place_of
names_start names wires empty name = ap (lookup (λ key. bytes_eq name key.items)) empty

pub names_grow : {S : Type 0} (old new : IndexMap (Vec ℕ) WireNo S) (wires : List Wire) (i : ℕ) (key : Vec ℕ) (d : Wire) → i < length wires → are_distinct (map (λ w. w.name) wires) ≡ true → key.items ≡ (get_or wires i d).name → new.entries ≡ insert_entry same_key old.entries key (record { 0 = i }) → HasNumbersOf (take i wires) old → HasNumbersOf (take (i + 1) wires) new
names_grow old new wires i key d lt distinct named put had name =
    let own : key.items ≡ (get_or wires i no_wire).name = named ∙ ap (λ w. w.name) (get_or_default wires i d no_wire lt) in
    ap (lookup (λ k. bytes_eq name k.items)) put
    ∙ lookup-insert_entry key (record { 0 = i }) name old.entries
    ∙ (λ j. cond (bytes_eq name (own j)) (Some (record { 0 = i })) (had name j))
    ∙ sym (number_of-next wires i name lt distinct)

pub names_end : {S : Type 0} (names : IndexMap (Vec ℕ) WireNo S) (wires : List Wire) (i : ℕ) → length wires ≤ i → HasNumbersOf (take i wires) names → HasNumbersOf wires names
names_end names wires i past had = subst (λ w. HasNumbersOf w names) (take_all i wires past) had

-- the names of a valid network are distinct
pub distinct_names : (net : NetData) → IsValid net → are_distinct (map (λ w. w.name) net.wires) ≡ true
distinct_names net valid = (conditions net valid).distinct
