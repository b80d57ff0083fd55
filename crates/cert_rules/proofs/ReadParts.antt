-- What the rule of a part reads of a valid network: parts that stand earlier in the same row, and of the row before, unless it is a
-- delay that has such a row, only parts that start from 0.
use Rattle.std.proofs.Common.{◌≡◌, ℕ, zero, suc, ◌+◌, ◌*◌, ◌<◌, Bool, true, false, List, [], ◌∷◌, map, length, get_or, take, ℤ, pos, refl, sym, ap, ◌∙◌, subst, arith, true≢false, inl, inr, ◌⊎◌}
use Rattle.std.specs.Prelude.{Some}
use Rattle.net_model.specs.declared.wires.Block.{Block}
use Rattle.net_model.specs.declared.wires.Block.TheVariants.{Gain, Average, Pt1, Dt1}
use Rattle.net_model.specs.declared.wires.Item.{Item}
use Rattle.net_model.specs.declared.wires.Item.TheVariants.{Input, Const, Delay, Block as OfBlock}
use Rattle.net_model.specs.declared.wires.Role.{Role}
use Rattle.net_model.specs.declared.wires.Role.TheVariants.{Y, X1, X2, W, Value}
use Rattle.net_model.specs.declared.wires.Part.{Part}
use Rattle.net_model.specs.Wires.{NetData, wire_at, argument_of, block_roles, has_role, roles_of}
use Rattle.net_model.specs.declared.wires.WireNo.{WireNo}
use Rattle.net_model.specs.Families.{first_of, held_by}
use Rattle.net_model.specs.BlockForms.{form_of, signature_in}
use Rattle.net_model.specs.Validity.{IsValid}
use Rattle.std.proofs.lemmas.List.{length-map}
use Rattle.net_model.proofs.ValidityFacts.{argument_of-valid, delay-valid}
use Rattle.net_model.proofs.PartPlaces.{has_role-value}
use Rattle.part_rules.specs.PartRules.{Reading, read_before, read_now}
use Rattle.cert_rules.specs.Rules.{argument_part, block_rule, item_rule, kept_reading, kept_rule_of, kept_wire, part_on, part_rule, state_rule_of, value_rule_of}
use Rattle.cert_rules.specs.Certificates.{IsPart}
use Rattle.cert_rules.specs.Acceptance.{start_of}
use Rattle.cert_rules.specs.GivenBounds.{reading_at, value_part}
use Rattle.cert_rules.specs.Soundness.{IsUnderWay}
use Rattle.net_meaning.specs.Runs.{is_first}
use Rattle.cert_rules.proofs.BlockRules.{plain_reads, values_read}

-- ---- the order of parts: by wires, a wire's states before its value

abbrev pub rank_of_role : Role → ℕ
rank_of_role Value = 2
rank_of_role kept = 1

abbrev pub rank : Part → ℕ
rank part = part.wire.0 * 3 + rank_of_role part.role

-- it starts from 0, or the part that reads it is a delay with a row before
abbrev pub MayLookBack : NetData → Part → Part → Type 0
MayLookBack net part read =
    (start_of (wire_at net.wires read.wire.0).item read.role ≡ Some (pos 0))
    ⊎ ((rows : List (List ℤ)) → IsUnderWay (wire_at net.wires part.wire.0).item rows → is_first rows ≡ false)

-- a reading of the rule of a part
pub record IsOrderly (net : NetData) (part : Part) (reading : Reading Part) : Type 0 where
  -- it reads a part of the network
  pub there : IsPart net reading.part
  -- of the same row one that comes before
  pub earlier : reading.before ≡ false → rank reading.part < rank part
  -- of the row before one that it may read there
  pub starts : reading.before ≡ true → MayLookBack net part reading.part

-- ---- the arguments of a block

wire_among : (n : ℕ) (wires : List WireNo) (q : ℕ) (d : WireNo) → q < length (take n wires) → reading_at (map (λ w. read_now (value_part w.0)) (take n wires)) q ≡ read_now (value_part (get_or wires q d).0)
wire_among zero wires q d h = absurd (omega arith)
wire_among (suc n) [] q d h = absurd (omega arith)
wire_among (suc n) (w ∷ wires) zero d h = refl
wire_among (suc n) (w ∷ wires) (suc q) d h = wire_among n wires q d (omega arith)

pub values_at : (b : Block) (q : ℕ) → q < length (values_read b) → reading_at (values_read b) q ≡ read_now (argument_part b q)
unfolding form_of
values_at b q h = wire_among (length (signature_in (held_by b)).sorts) (held_by b).wires q (first_of (held_by b).wires) (omega (arith, h, length-map (take (length (signature_in (held_by b)).sorts) (held_by b).wires) (λ (w : WireNo). read_now (value_part w.0))))

earlier_part : (k i : ℕ) (role : Role) → k < i → k * 3 + 2 < i * 3 + rank_of_role role
earlier_part k i Value h = omega arith
earlier_part k i Y h = omega arith
earlier_part k i X1 h = omega arith
earlier_part k i X2 h = omega arith
earlier_part k i W h = omega arith

-- ---- one reading

-- the value of an earlier wire
earlier_is_orderly : (net : NetData) (i k : ℕ) (role : Role) → i < length net.wires → k < i → IsOrderly net (part_on i role) (read_now (part_on k Value))
earlier_is_orderly net i k role h below = record {
  there = record { wire = omega (arith, below, h); role = has_role-value (wire_at net.wires k).item };
  earlier = λ _. earlier_part k i role below;
  starts = λ before. absurd (true≢false (sym before));
}

-- the state of the same wire, for its value
own_is_orderly : (net : NetData) (i : ℕ) → i < length net.wires → has_role Y (roles_of (wire_at net.wires i).item) ≡ true → IsOrderly net (part_on i Value) (read_now (part_on i Y))
own_is_orderly net i h has = record {
  there = record { wire = h; role = has };
  earlier = λ _. omega arith;
  starts = λ before. absurd (true≢false (sym before));
}

-- what the wire kept, of the row before
kept_is_orderly : (net : NetData) (i : ℕ) (role kept : Role) → i < length net.wires → has_role kept (roles_of (wire_at net.wires i).item) ≡ true → has_role kept (Value ∷ []) ≡ false → IsOrderly net (part_on i role) (read_before (part_on i kept))
kept_is_orderly net i role kept h has state = record {
  there = record { wire = h; role = has };
  earlier = λ now. absurd (true≢false now);
  starts = λ _. inl (starts_from_0 (wire_at net.wires i).item kept state);
}
  where
    starts_from_0 : (item : Item) (kept : Role) → has_role kept (Value ∷ []) ≡ false → start_of item kept ≡ Some (pos 0)
    starts_from_0 item Value state = absurd (true≢false state)
    starts_from_0 item Y state = refl
    starts_from_0 item X1 state = refl
    starts_from_0 item X2 state = refl
    starts_from_0 item W state = refl

-- ---- the parts of blocks

-- each reading of a list is orderly
abbrev AreOrderly : NetData → Part → List (Reading Part) → Type 0
AreOrderly net part reads = (q : ℕ) → q < length reads → IsOrderly net part (reading_at reads q)

none_orderly : (net : NetData) (part : Part) → AreOrderly net part []
none_orderly net part q h = absurd (omega arith)

one_orderly : (net : NetData) (part : Part) (reading : Reading Part) → IsOrderly net part reading → AreOrderly net part (reading ∷ [])
one_orderly net part reading a zero h = a
one_orderly net part reading a (suc q) h = absurd (omega arith)

two_orderly : (net : NetData) (part : Part) (first second : Reading Part) → IsOrderly net part first → IsOrderly net part second → AreOrderly net part (first ∷ second ∷ [])
two_orderly net part first second a b zero h = a
two_orderly net part first second a b (suc q) h = one_orderly net part second b q (omega arith)

three_orderly : (net : NetData) (part : Part) (first second third : Reading Part) → IsOrderly net part first → IsOrderly net part second → IsOrderly net part third → AreOrderly net part (first ∷ second ∷ third ∷ [])
three_orderly net part first second third a b c zero h = a
three_orderly net part first second third a b c (suc q) h = two_orderly net part second third b c q (omega arith)

-- a block that reads the values of its wires
values_orderly : (net : NetData) (i : ℕ) (b : Block) (reads : List (Reading Part)) → IsValid net → i < length net.wires → (wire_at net.wires i).item ≡ OfBlock b → reads ≡ values_read b → AreOrderly net (part_on i Value) reads
values_orderly net i b reads valid h is same q l =
    let l' : q < length (values_read b) = rw same at l in
    subst (IsOrderly net (part_on i Value)) (sym (ap (λ r. reading_at r q) same ∙ values_at b q l')) (earlier_is_orderly net i (argument_of b q) Value h (argument_of-valid net i b valid h is q))

-- the part of a role that a block has
has_if : (net : NetData) (i : ℕ) (b : Block) (role : Role) → (wire_at net.wires i).item ≡ OfBlock b → has_role role (block_roles b) ≡ true → has_role role (roles_of (wire_at net.wires i).item) ≡ true
has_if net i b role is has = rw is has

value_orderly : (net : NetData) (i : ℕ) (b : Block) → IsValid net → i < length net.wires → (wire_at net.wires i).item ≡ OfBlock b → AreOrderly net (part_on i Value) (value_rule_of net i b).reads
value_orderly net i (Gain xty ty x k) valid h is =
    one_orderly net (part_on i Value) _ (earlier_is_orderly net i x.0 Value h (argument_of-valid net i (Gain xty ty x k) valid h is 0))
value_orderly net i (Average xty ty x n) valid h is =
    two_orderly net (part_on i Value) _ _ (earlier_is_orderly net i x.0 Value h (argument_of-valid net i (Average xty ty x n) valid h is 0)) (kept_is_orderly net i Value W h (has_if net i (Average xty ty x n) W is refl) refl)
value_orderly net i (Pt1 xty ty x teq k) valid h is = one_orderly net (part_on i Value) _ (own_is_orderly net i h (has_if net i (Pt1 xty ty x teq k) Y is refl))
value_orderly net i (Dt1 true xty ty x teq k) valid h is = one_orderly net (part_on i Value) _ (own_is_orderly net i h (has_if net i (Dt1 true xty ty x teq k) Y is refl))
value_orderly net i (Dt1 false xty ty x teq k) valid h is = one_orderly net (part_on i Value) _ (own_is_orderly net i h (has_if net i (Dt1 false xty ty x teq k) Y is refl))
value_orderly net i other valid h is = values_orderly net i other _ valid h is (plain_reads net i other refl)

state_orderly : (net : NetData) (i : ℕ) (b : Block) → IsValid net → i < length net.wires → (wire_at net.wires i).item ≡ OfBlock b → AreOrderly net (part_on i Y) (state_rule_of i b).reads
state_orderly net i (Pt1 xty ty x teq k) valid h is =
    let b = Pt1 xty ty x teq k in
    two_orderly net (part_on i Y) _ _ (kept_is_orderly net i Y Y h (has_if net i b Y is refl) refl) (kept_is_orderly net i Y X1 h (has_if net i b X1 is refl) refl)
state_orderly net i (Dt1 true xty ty x teq k) valid h is =
    let b = Dt1 true xty ty x teq k in
    three_orderly net (part_on i Y) _ _ _ (kept_is_orderly net i Y Y h (has_if net i b Y is refl) refl) (earlier_is_orderly net i x.0 Y h (argument_of-valid net i b valid h is 0)) (kept_is_orderly net i Y X1 h (has_if net i b X1 is refl) refl)
state_orderly net i (Dt1 false xty ty x teq k) valid h is =
    let b = Dt1 false xty ty x teq k in
    three_orderly net (part_on i Y) _ _ _ (kept_is_orderly net i Y Y h (has_if net i b Y is refl) refl) (kept_is_orderly net i Y X1 h (has_if net i b X1 is refl) refl) (kept_is_orderly net i Y X2 h (has_if net i b X2 is refl) refl)
state_orderly net i other valid h is = none_orderly net (part_on i Y)

-- the input that a block keeps is an earlier wire
kept_earlier : (net : NetData) (i : ℕ) (b : Block) (role : Role) → IsValid net → i < length net.wires → (wire_at net.wires i).item ≡ OfBlock b → has_role role (Value ∷ []) ≡ false → has_role role (block_roles b) ≡ true → kept_wire i b < i
kept_earlier net i (Average xty ty x n) role valid h is none has = argument_of-valid net i (Average xty ty x n) valid h is 0
kept_earlier net i (Pt1 xty ty x teq k) role valid h is none has = argument_of-valid net i (Pt1 xty ty x teq k) valid h is 0
kept_earlier net i (Dt1 second xty ty x teq k) role valid h is none has = argument_of-valid net i (Dt1 second xty ty x teq k) valid h is 0
kept_earlier net i other role valid h is none has = absurd (true≢false (sym has ∙ none))

-- a block that keeps the input for two rows keeps it for one
keeps_both : (b : Block) → has_role X2 (block_roles b) ≡ true → has_role X1 (block_roles b) ≡ true
keeps_both (Dt1 false xty ty x teq k) has = refl
keeps_both other has = absurd (cc)

kept_orderly : (net : NetData) (i : ℕ) (b : Block) (role : Role) (has : Bool) → has_role role (block_roles b) ≡ has → has_role role (Value ∷ []) ≡ false → (has_role role (block_roles b) ≡ true → IsOrderly net (part_on i role) (kept_reading i b role)) → AreOrderly net (part_on i role) (kept_rule_of i b role).reads
kept_orderly net i b role true is none orderly = rw is (one_orderly net (part_on i role) (kept_reading i b role) (orderly is))
kept_orderly net i b role false is none orderly = rw is (none_orderly net (part_on i role))

block_orderly : (net : NetData) (i : ℕ) (b : Block) (role : Role) → IsValid net → i < length net.wires → (wire_at net.wires i).item ≡ OfBlock b → AreOrderly net (part_on i role) (block_rule net i b role).reads
unfolding block_rule
block_orderly net i b Value valid h is = value_orderly net i b valid h is
block_orderly net i b Y valid h is = state_orderly net i b valid h is
block_orderly net i b X1 valid h is = kept_orderly net i b X1 _ refl refl (λ has. earlier_is_orderly net i (kept_wire i b) X1 h (kept_earlier net i b X1 valid h is refl has))
block_orderly net i b X2 valid h is = kept_orderly net i b X2 _ refl refl (λ has. kept_is_orderly net i X2 X1 h (has_if net i b X1 is (keeps_both b has)) refl)
block_orderly net i b W valid h is = kept_orderly net i b W _ refl refl (λ has. earlier_is_orderly net i (kept_wire i b) W h (kept_earlier net i b W valid h is refl has))

-- ---- the parts of a network

-- a delay reads its source of the row before
delay_orderly : (net : NetData) (i : ℕ) (init : ℤ) (source : WireNo) (role : Role) → IsValid net → i < length net.wires → (wire_at net.wires i).item ≡ Delay init source → AreOrderly net (part_on i role) (item_rule net i (Delay init source) role).reads
delay_orderly net i init source Value valid h is =
    one_orderly net (part_on i Value) _ (record {
      there = record { wire = (delay-valid net i init source valid h is).there; role = has_role-value (wire_at net.wires source.0).item };
      earlier = λ now. absurd (true≢false now);
      starts = λ _. inr (λ rows later. rw is at later);
    })
delay_orderly net i init source Y valid h is = none_orderly net (part_on i Y)
delay_orderly net i init source X1 valid h is = none_orderly net (part_on i X1)
delay_orderly net i init source X2 valid h is = none_orderly net (part_on i X2)
delay_orderly net i init source W valid h is = none_orderly net (part_on i W)

input_orderly : (net : NetData) (i : ℕ) (lo hi : ℤ) (role : Role) → AreOrderly net (part_on i role) (item_rule net i (Input lo hi) role).reads
input_orderly net i lo hi Value = none_orderly net (part_on i Value)
input_orderly net i lo hi Y = none_orderly net (part_on i Y)
input_orderly net i lo hi X1 = none_orderly net (part_on i X1)
input_orderly net i lo hi X2 = none_orderly net (part_on i X2)
input_orderly net i lo hi W = none_orderly net (part_on i W)

const_orderly : (net : NetData) (i : ℕ) (value : ℤ) (role : Role) → AreOrderly net (part_on i role) (item_rule net i (Const value) role).reads
const_orderly net i value Value = none_orderly net (part_on i Value)
const_orderly net i value Y = none_orderly net (part_on i Y)
const_orderly net i value X1 = none_orderly net (part_on i X1)
const_orderly net i value X2 = none_orderly net (part_on i X2)
const_orderly net i value W = none_orderly net (part_on i W)

item_orderly : (net : NetData) (i : ℕ) (role : Role) (item : Item) → IsValid net → i < length net.wires → (wire_at net.wires i).item ≡ item → AreOrderly net (part_on i role) (item_rule net i item role).reads
item_orderly net i role (Input lo hi) valid h is = input_orderly net i lo hi role
item_orderly net i role (Const value) valid h is = const_orderly net i value role
item_orderly net i role (Delay init source) valid h is = delay_orderly net i init source role valid h is
item_orderly net i role (OfBlock b) valid h is = block_orderly net i b role valid h is

pub is_orderly : (net : NetData) (part : Part) → IsValid net → IsPart net part → (q : ℕ) → q < length (part_rule net part).reads → IsOrderly net part (reading_at (part_rule net part).reads q)
is_orderly net part valid is q h = item_orderly net part.wire.0 part.role (wire_at net.wires part.wire.0).item valid is.wire refl q h
