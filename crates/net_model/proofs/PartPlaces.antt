-- Where the parts of a network stand: which there are, their numbers, and how many.
use Rattle.std.proofs.Common.{◌≡◌, ℕ, zero, suc, ◌+◌, ◌*◌, ◌<◌, ◌≤◌, ◌^◌, ◌==◌, Bool, true, false, ◌&&◌, List, [], ◌∷◌, ◌++◌, map, length, get_or, nat_lt, refl, sym, ap, ap₂, ◌∙◌, subst, arith, true≢false, eqb-true, eq-eqb, ne_eqb, cond, length-append, add-zero, zero-add}
use Rattle.std.specs.Prelude.{Option, Some, None, option_map, position, if◌then◌else◌, IsTrue}
use Rattle.std.specs.List.{position_or_len}
use Rattle.std.proofs.lemmas.Bool.{and_parts, and_from, false≢true}
use Rattle.std.proofs.lemmas.Bool.Decides.{nat_tests}
use Rattle.std.proofs.lemmas.List.{length-map}
use Rattle.std.proofs.lemmas.List.Recursion.{is_position_or_len}
use Rattle.net_model.specs.declared.wires.PartNo.{PartNo}
use Rattle.net_model.specs.declared.wires.Item.{Item}
use Rattle.net_model.specs.declared.wires.Item.TheVariants.{Input, Const, Delay, Block as OfBlock}
use Rattle.net_model.specs.declared.wires.Wire.{Wire}
use Rattle.net_model.specs.declared.wires.Role.{Role}
use Rattle.net_model.specs.declared.wires.Role.TheVariants.{Y, X1, X2, W, Value}
use Rattle.net_model.specs.declared.wires.Part.{Part}
use Rattle.net_model.specs.Wires.{NetData, wire_at, same_role, roles_of, parts_from, parts_of, firsts_from, first_at, no_part, place_in, has_role, role_place, part_number}
use Rattle.net_model.specs.Validity.{IsValid}
use Rattle.net_model.proofs.FamilyFacts.{block_has_value, few_block_roles}
use Rattle.net_model.proofs.ValidityFacts.{length-valid}

-- ---- roles, one line each

-- a wire has its value, and few parts
pub has_role-value : (item : Item) → has_role Value (roles_of item) ≡ true
has_role-value (Input lo hi) = refl
has_role-value (Const value) = refl
has_role-value (Delay init source) = refl
has_role-value (OfBlock b) = block_has_value b

pub few_roles : (item : Item) → length (roles_of item) ≤ 4
few_roles (Input lo hi) = omega arith
few_roles (Const value) = omega arith
few_roles (Delay init source) = omega arith
few_roles (OfBlock b) = few_block_roles b

pub same_role-true : (r s : Role) → same_role r s ≡ true → r ≡ s
same_role-true Y Y e = refl
same_role-true X1 X1 e = refl
same_role-true X2 X2 e = refl
same_role-true W W e = refl
same_role-true Value Value e = refl
same_role-true r s e = absurd (true≢false (sym e))

pub same_role-itself : (r : Role) → same_role r r ≡ true
same_role-itself Y = refl
same_role-itself X1 = refl
same_role-itself X2 = refl
same_role-itself W = refl
same_role-itself Value = refl

-- ---- how many parts there are

-- the part of a wire with a role
abbrev pub part_of : ℕ → Role → Part
part_of wire role = record { wire = record { 0 = wire }; role = role }

few_parts_from : (i : ℕ) (wires : List Wire) → length (parts_from i wires) ≤ 4 * length wires
few_parts_from i [] = omega arith
few_parts_from i (w ∷ wires) = omega (arith, length-append (map (part_of i) (roles_of w.item)) (parts_from (i + 1) wires), length-map (roles_of w.item) (part_of i), few_roles w.item, few_parts_from (i + 1) wires)

pub few_parts : (net : NetData) → IsValid net → length (parts_of net.wires) ≤ 2048
few_parts net valid = omega (arith, few_parts_from 0 net.wires, length-valid net valid)

-- ---- each part of a wire has a place

-- a part stands at its place
pub record HasPlace (wire : ℕ) (role : Role) (parts : List Part) : Type 0 where
  pub below : place_in wire role parts < length parts
  pub there : get_or parts (place_in wire role parts) no_part ≡ part_of wire role

-- the place in a list with one more part in front, by the test of that part
in_front : (wire : ℕ) (role : Role) (p : Part) (parts : List Part) (t : Bool) → ((p.wire.0 == wire) && same_role p.role role) ≡ t → (t ≡ false → HasPlace wire role parts) → HasPlace wire role (p ∷ parts)
in_front wire role p parts true e h =
    let both = and_parts (p.wire.0 == wire) (same_role p.role role) e in
    record { below = rw e (omega arith); there = rw e (ap₂ part_of (eqb-true p.wire.0 wire both.0) (same_role-true p.role role both.1)) }
in_front wire role p parts false e h =
    let later = h refl in
    record { below = rw e (omega (arith, later.below)); there = rw e later.there }

has_place_later : (wire : ℕ) (role : Role) (p : Part) (parts : List Part) → HasPlace wire role parts → HasPlace wire role (p ∷ parts)
has_place_later wire role p parts h = in_front wire role p parts _ refl (λ _. h)

has_place_behind : (wire : ℕ) (role : Role) (ps qs : List Part) → HasPlace wire role qs → HasPlace wire role (ps ++ qs)
has_place_behind wire role [] qs h = h
has_place_behind wire role (p ∷ ps) qs h = has_place_later wire role p (ps ++ qs) (has_place_behind wire role ps qs h)

-- a wire's parts stand at their places among them, whatever follows
not_here : (t u : Bool) (n : ℕ) → IsTrue (if t then true else u) → ((n == n) && t) ≡ false → IsTrue u
not_here true u n h e = absurd (true≢false (sym (and_from (n == n) true (eq-eqb n n refl) refl) ∙ e))
not_here false u n h e = h

has_place_of_role : (wire : ℕ) (role : Role) (roles : List Role) (rest : List Part) → IsTrue (has_role role roles) → HasPlace wire role (map (part_of wire) roles ++ rest)
has_place_of_role wire role [] rest h = absurd (false≢true h)
has_place_of_role wire role (r ∷ roles) rest h = in_front wire role (part_of wire r) (map (part_of wire) roles ++ rest) _ refl (λ e. has_place_of_role wire role roles rest (not_here (same_role r role) (has_role role roles) wire h e))

-- among the parts of wires that are numbered from i
has_place_from : (i : ℕ) (wires : List Wire) (j : ℕ) (role : Role) → j < length wires → IsTrue (has_role role (roles_of (wire_at wires j).item)) → HasPlace (i + j) role (parts_from i wires)
has_place_from i [] j role h k = absurd (omega arith)
has_place_from i (w ∷ wires) zero role h k = subst (λ n. HasPlace n role (parts_from i (w ∷ wires))) (omega arith) (has_place_of_role i role (roles_of w.item) (parts_from (i + 1) wires) k)
has_place_from i (w ∷ wires) (suc j) role h k = subst (λ n. HasPlace n role (parts_from i (w ∷ wires))) (omega arith) (has_place_behind (i + 1 + j) role (map (part_of i) (roles_of w.item)) (parts_from (i + 1) wires) (has_place_from (i + 1) wires j role (omega arith) k))

pub has_place : (net : NetData) (i : ℕ) (role : Role) → i < length net.wires → IsTrue (has_role role (roles_of (wire_at net.wires i).item)) → HasPlace i role (parts_of net.wires)
has_place net i role h k = subst (λ n. HasPlace n role (parts_of net.wires)) (omega arith) (has_place_from 0 net.wires i role h k)

-- ---- each number of a part is that of a part of a wire

-- a wire of the list, numbered from i, has the part
record IsPartFrom (i : ℕ) (wires : List Wire) (part : Part) : Type 0 where
  place : ℕ
  within : place < length wires
  wire : part.wire.0 ≡ i + place
  role : has_role part.role (roles_of (wire_at wires place).item) ≡ true

has_role-more : (role r : Role) (roles : List Role) (t : Bool) → same_role r role ≡ t → has_role role roles ≡ true → (if t then true else has_role role roles) ≡ true
has_role-more role r roles true e h = refl
has_role-more role r roles false e h = h

own_part : (i : ℕ) (roles : List Role) (k : ℕ) → k < length (map (part_of i) roles) → ((get_or (map (part_of i) roles) k no_part).wire.0 ≡ i) × (has_role (get_or (map (part_of i) roles) k no_part).role roles ≡ true)
own_part i [] k h = absurd (omega arith)
own_part i (r ∷ roles) zero h = (refl, ap (λ t. if t then true else has_role r roles) (same_role-itself r))
own_part i (r ∷ roles) (suc k) h =
    let later = own_part i roles k (omega arith) in
    let role = (get_or (map (part_of i) roles) k no_part).role in
    (later.0, has_role-more role r roles (same_role r role) refl later.1)

-- a part of one of two lists
by_list : (P : Part → Type 0) (ps qs : List Part) → ((k : ℕ) → k < length ps → P (get_or ps k no_part)) → ((k : ℕ) → k < length qs → P (get_or qs k no_part)) → (k : ℕ) → k < length (ps ++ qs) → P (get_or (ps ++ qs) k no_part)
by_list P [] qs f g k h = g k h
by_list P (p ∷ ps) qs f g zero h = f 0 (omega arith)
by_list P (p ∷ ps) qs f g (suc k) h = by_list P ps qs (λ j l. f (suc j) (omega arith)) g k (omega arith)

is_part_from : (i : ℕ) (wires : List Wire) (k : ℕ) → k < length (parts_from i wires) → IsPartFrom i wires (get_or (parts_from i wires) k no_part)
is_part_from i [] k h = absurd (omega arith)
is_part_from i (w ∷ wires) k h =
    by_list (IsPartFrom i (w ∷ wires)) (map (part_of i) (roles_of w.item)) (parts_from (i + 1) wires)
    (λ j l. let own = own_part i (roles_of w.item) j l in record { place = 0; within = omega arith; wire = own.0 ∙ sym (add-zero i); role = own.1 })
    (λ j l. let later = is_part_from (i + 1) wires j l in record { place = suc later.place; within = omega (arith, later.within); wire = later.wire ∙ omega arith; role = later.role })
    k h

-- the part is one of a wire of the network
pub record IsPartOf (net : NetData) (part : Part) : Type 0 where
  pub wire : part.wire.0 < length net.wires
  pub role : has_role part.role (roles_of (wire_at net.wires part.wire.0).item) ≡ true

pub part_there : (net : NetData) (k : ℕ) → k < length (parts_of net.wires) → IsPartOf net (get_or (parts_of net.wires) k no_part)
part_there net k h =
    let found = is_part_from 0 net.wires k h in
    record {
      wire = omega (arith, found.wire, found.within);
      role = subst (λ n. has_role (get_or (parts_of net.wires) k no_part).role (roles_of (wire_at net.wires n).item) ≡ true) (sym (found.wire ∙ zero-add found.place)) found.role;
    }

-- ---- the number of a part is that of the wire's first part and the place of its role

-- behind the parts of another wire
other_front : (i j : ℕ) (role : Role) (roles : List Role) (rest : List Part) → (i ≡ j → ⊥) → place_in j role (map (part_of i) roles ++ rest) ≡ length roles + place_in j role rest
other_front i j role [] rest differ = sym (zero-add (place_in j role rest))
other_front i j role (r ∷ roles) rest differ =
    ap (λ t. cond (t && same_role r role) 0 (suc (place_in j role (map (part_of i) roles ++ rest)))) (ne_eqb i j differ) ∙ omega (arith, other_front i j role roles rest differ)

-- among the wire's own
own_test : (i : ℕ) (role : Role) (roles : List Role) (rest : List Part) (t : Bool) → (IsTrue (has_role role roles) → place_in i role (map (part_of i) roles ++ rest) ≡ role_place role roles) → IsTrue (if t then true else has_role role roles) → cond t 0 (suc (place_in i role (map (part_of i) roles ++ rest))) ≡ cond t 0 (suc (role_place role roles))
own_test i role roles rest true h has = refl
own_test i role roles rest false h has = ap suc (h has)

own_front : (i : ℕ) (role : Role) (roles : List Role) (rest : List Part) → IsTrue (has_role role roles) → place_in i role (map (part_of i) roles ++ rest) ≡ role_place role roles
own_front i role [] rest has = absurd (false≢true has)
own_front i role (r ∷ roles) rest has =
    ap (λ t. cond (t && same_role r role) 0 (suc (place_in i role (map (part_of i) roles ++ rest)))) (eq-eqb i i refl)
    ∙ own_test i role roles rest (same_role r role) (own_front i role roles rest) has

place_from : (i n : ℕ) (wires : List Wire) (k : ℕ) (role : Role) → k < length wires → IsTrue (has_role role (roles_of (wire_at wires k).item)) → n + place_in (i + k) role (parts_from i wires) ≡ (first_at (firsts_from n wires) k).0 + role_place role (roles_of (wire_at wires k).item)
place_from i n [] k role h has = absurd (omega arith)
place_from i n (w ∷ wires) zero role h has =
    ap (λ m. n + place_in m role (parts_from i (w ∷ wires))) (add-zero i) ∙ ap (λ m. n + m) (own_front i role (roles_of w.item) (parts_from (i + 1) wires) has)
place_from i n (w ∷ wires) (suc k) role h has =
    let next : i + suc k ≡ (i + 1) + k = omega arith in
    let later = place_from (i + 1) (n + length (roles_of w.item)) wires k role (omega arith) has in
    let behind = other_front i (i + suc k) role (roles_of w.item) (parts_from (i + 1) wires) (omega arith) in
    omega (arith, behind, ap (λ m. place_in m role (parts_from (i + 1) wires)) next, later)

pub place_is : (net : NetData) (k : ℕ) (role : Role) → k < length net.wires → IsTrue (has_role role (roles_of (wire_at net.wires k).item)) → place_in k role (parts_of net.wires) ≡ (first_at (firsts_from 0 net.wires) k).0 + role_place role (roles_of (wire_at net.wires k).item)
place_is net k role h has =
    sym (zero-add _) ∙ ap (λ m. 0 + place_in m role (parts_of net.wires)) (sym (zero-add k)) ∙ place_from 0 0 net.wires k role h has

-- the place of a role is where it is first found
role_place-position : (role : Role) (roles : List Role) → role_place role roles ≡ position_or_len (λ r. same_role r role) roles
role_place-position role roles =
    is_position_or_len (role_place role) (λ r. same_role r role) refl (λ r rs. ap (λ n. cond (same_role r role) 0 n) (omega arith)) roles

suc_below : (k n : ℕ) → nat_lt (suc k) (suc n) ≡ nat_lt k n
suc_below k n = grind (arith, nat_tests)

zero_below : (n : ℕ) → nat_lt 0 (suc n) ≡ true
zero_below n = grind (arith, nat_tests)

place_test : (role r : Role) (roles : List Role) (t : Bool) → same_role r role ≡ t → nat_lt (role_place role roles) (length roles) ≡ has_role role roles → nat_lt (cond t 0 (suc (role_place role roles))) (suc (length roles)) ≡ cond t true (has_role role roles)
place_test role r roles true e h = zero_below (length roles)
place_test role r roles false e h = suc_below (role_place role roles) (length roles) ∙ h

place_below : (role : Role) (roles : List Role) → nat_lt (role_place role roles) (length roles) ≡ has_role role roles
place_below role [] = refl
place_below role (r ∷ roles) = place_test role r roles (same_role r role) refl (place_below role roles)

pub position-role : (role : Role) (roles : List Role) → position (λ r. same_role r role) roles ≡ cond (has_role role roles) (Some (role_place role roles)) None
position-role role roles =
    ap (λ n. cond (nat_lt n (length roles)) (Some n) None) (sym (role_place-position role roles))
    ∙ ap (λ t. cond t (Some (role_place role roles)) None) (place_below role roles)

-- what is found among the roles of a wire gives the number of its part, and nothing is found where it has none
pub part_found : (net : NetData) (k : ℕ) (role : Role) (place : ℕ) → k < length net.wires → position (λ r. same_role r role) (roles_of (wire_at net.wires k).item) ≡ Some place → (part_number net.wires k role ≡ Some ((first_at (firsts_from 0 net.wires) k).0 + place)) × ((first_at (firsts_from 0 net.wires) k).0 + place < length (parts_of net.wires))
unfolding part_number
part_found net k role place h found = by_test (has_role role (roles_of (wire_at net.wires k).item)) refl
  where
    by_test : (t : Bool) → has_role role (roles_of (wire_at net.wires k).item) ≡ t → (cond t (Some (place_in k role (parts_of net.wires))) None ≡ Some ((first_at (firsts_from 0 net.wires) k).0 + place)) × ((first_at (firsts_from 0 net.wires) k).0 + place < length (parts_of net.wires))
    by_test true has =
        let same : role_place role (roles_of (wire_at net.wires k).item) ≡ place = cc (position-role role (roles_of (wire_at net.wires k).item), ap (λ t. cond t (Some (role_place role (roles_of (wire_at net.wires k).item))) None) has, found) in
        let number = place_is net k role h has ∙ ap (λ n. (first_at (firsts_from 0 net.wires) k).0 + n) same in
        (ap Some number, subst (λ n. n < length (parts_of net.wires)) number (has_place net k role h has).below)
    by_test false has = absurd (cc (position-role role (roles_of (wire_at net.wires k).item), ap (λ t. cond t (Some (role_place role (roles_of (wire_at net.wires k).item))) None) has, found))

pub part_missing : (net : NetData) (k : ℕ) (role : Role) → position (λ r. same_role r role) (roles_of (wire_at net.wires k).item) ≡ None → part_number net.wires k role ≡ None
unfolding part_number
part_missing net k role missing = by_test (has_role role (roles_of (wire_at net.wires k).item)) refl
  where
    by_test : (t : Bool) → has_role role (roles_of (wire_at net.wires k).item) ≡ t → cond t (Some (place_in k role (parts_of net.wires))) None ≡ None
    by_test true has = absurd (cc (position-role role (roles_of (wire_at net.wires k).item), ap (λ t. cond t (Some (role_place role (roles_of (wire_at net.wires k).item))) None) has, missing))
    by_test false has = refl

-- a number as that of a part
abbrev as_number : Option ℕ → Option PartNo
as_number found = option_map (λ n. record { 0 = n }) found

pub number_found : (net : NetData) (k : ℕ) (role : Role) (first : PartNo) (place : ℕ) → k < length net.wires → position (λ r. same_role r role) (roles_of (wire_at net.wires k).item) ≡ Some place → first ≡ first_at (firsts_from 0 net.wires) k → ◌≡◌ {A = Option PartNo} (Some (record { 0 = first.0 + place })) (as_number (part_number net.wires k role))
number_found net k role first place h found is =
    rw is (sym (ap as_number (part_found net k role place h found).0))

pub number_missing : (net : NetData) (k : ℕ) (role : Role) → position (λ r. same_role r role) (roles_of (wire_at net.wires k).item) ≡ None → ◌≡◌ {A = Option PartNo} None (as_number (part_number net.wires k role))
number_missing net k role missing = sym (ap as_number (part_missing net k role missing))

pub number_fits : (net : NetData) (k : ℕ) (role : Role) (first : PartNo) (place : ℕ) → IsValid net → k < length net.wires → position (λ r. same_role r role) (roles_of (wire_at net.wires k).item) ≡ Some place → first ≡ first_at (firsts_from 0 net.wires) k → first.0 + place < 2 ^ 32
number_fits net k role first place valid h found is =
    rw is (omega (arith, (part_found net k role place h found).1, few_parts net valid))

-- there is one first part for each wire
pub length-firsts_from : (n : ℕ) (wires : List Wire) → length (firsts_from n wires) ≡ length wires
length-firsts_from n [] = refl
length-firsts_from n (w ∷ wires) = ap suc (length-firsts_from (n + length (roles_of w.item)) wires)

pub ruleset as_many_firsts = length-firsts_from
