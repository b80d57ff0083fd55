-- The rule of each part is sound, from entries of which those that it reads are allowed, and depends on what it reads alone.
use Rattle.std.proofs.Common.{◌≡◌, ℕ, ◌<◌, Bool, true, false, cond, List, [], length, get_or, ℤ, pos, ◌≤ℤ◌, refl, sym, ap, subst, arith}
use Rattle.std.specs.Prelude.{Option, Some, None, IsTrue}
use Rattle.fx_fraction.specs.Fraction.{Fraction, whole}
use Rattle.fx_fraction.proofs.WholeNumbers.{int_le_refl}
use Rattle.net_model.specs.declared.wires.WireNo.{WireNo}
use Rattle.net_model.specs.declared.wires.Item.{Item}
use Rattle.net_model.specs.declared.wires.Item.TheVariants.{Input, Const, Delay, Block as OfBlock}
use Rattle.net_model.specs.declared.wires.Role.{Role}
use Rattle.net_model.specs.declared.wires.Role.TheVariants.{Y, X1, X2, W, Value}
use Rattle.net_model.specs.declared.wires.Part.{Part}
use Rattle.net_model.specs.Wires.{NetData, wire_at, has_role, input_place, roles_of}
use Rattle.net_model.specs.Validity.{IsValid}
use Rattle.net_meaning.specs.Cells.{Cell}
use Rattle.net_meaning.specs.Blocks.{machine, exact}
use Rattle.net_meaning.specs.Runs.{equation_of}
use Rattle.net_meaning.specs.Promises.{KeepsRange}
use Rattle.part_rules.specs.declared.bounds.Bounds.{Bounds}
use Rattle.part_rules.specs.Within.{IsWithin}
use Rattle.part_rules.specs.PartRules.{Reading, bounds_read, given_by}
use Rattle.part_rules.proofs.RuleLaws.{depends_on_reads}
use Rattle.part_rules.proofs.Within.{itself_within}
use Rattle.cert_rules.specs.Rules.{allowed_of, is_allowed, item_rule, part_rule, rule_of}
use Rattle.cert_rules.specs.Certificates.{entry_of}
use Rattle.cert_rules.specs.Acceptance.{part_at}
use Rattle.cert_rules.specs.Arguments.{RulesReadTheirArguments, is_read, is_read_ever, reads_ago, reads_at, reads_of, rows_ago}
use Rattle.cert_rules.specs.GivenBounds.{reading_at}
use Rattle.cert_rules.specs.Soundness.{IsPartHeld, IsUnderWay, RulesAreSound, back}
use Rattle.cert_rules.proofs.BlockParts.{block_keeps}
use Rattle.cert_rules.proofs.BlockRules.{FitReads}
use Rattle.cert_rules.proofs.EntryFacts.{allowed_entry}
use Rattle.cert_rules.proofs.PartValues.{PartKeeps, ReadsWithin, is_ruled}
use Rattle.cert_rules.proofs.Readings.{agree_on, given_at, has_number, numbered, read_ever, read_there}
use Rattle.cert_rules.proofs.ReadParts.{is_orderly}
use Rattle.cert_rules.proofs.RuleFacts.{allowed_reads}

-- ---- a rule depends on what it reads

rule_same : (net : NetData) (part : Part) (one other : Part → Bounds) → given_by (part_rule net part) one ≡ given_by (part_rule net part) other → rule_of net part one ≡ rule_of net part other
unfolding rule_of
rule_same net part one other same = ap (allowed_of net part) same

pub rules_read_their_arguments : RulesReadTheirArguments
unfolding reads_at
rules_read_their_arguments net valid p h one other agree =
    let part = part_at net p in
    rule_same net part one other (depends_on_reads (part_rule net part) one other (agree_on (reads_of net p) one other (λ q l.
    let reading = reading_at (reads_of net p) q in
    let number = has_number net reading.part (is_orderly net part valid (numbered net p h) q l).there in
    let read = subst (λ t. IsTrue (is_read_ever (reads_of net p) t)) (sym number.there) (read_ever (reads_of net p) q l) in
    subst (λ t. one t ≡ other t) number.there (agree number.number number.within read))))

-- what a rule gives that is allowed
pub record IsAllowedGift (net : NetData) (part : Part) (given : Option Bounds) (bounds : Bounds) : Type 0 where
  pub is : given ≡ Some bounds
  pub allowed : is_allowed net part bounds ≡ true

gift_if : (net : NetData) (part : Part) (b bounds : Bounds) (t : Bool) → is_allowed net part b ≡ t → cond t (Some b) None ≡ Some bounds → IsAllowedGift net part (Some b) bounds
gift_if net part b bounds true e h = let same : b ≡ bounds = cc in record { is = ap Some same; allowed = rw same at e }
gift_if net part b bounds false e h = absurd (cc)

gift_of : (net : NetData) (part : Part) (given : Option Bounds) (bounds : Bounds) → allowed_of net part given ≡ Some bounds → IsAllowedGift net part given bounds
gift_of net part None bounds h = absurd (cc)
gift_of net part (Some b) bounds h = gift_if net part b bounds (is_allowed net part b) refl h

pub rule_gift : (net : NetData) (part : Part) (known : Part → Bounds) (bounds : Bounds) → rule_of net part known ≡ Some bounds → IsAllowedGift net part (given_by (part_rule net part) known) bounds
unfolding rule_of
rule_gift net part known bounds h = gift_of net part (given_by (part_rule net part) known) bounds h

-- ---- what the equation of a wire without a block makes

plain_within : (lo hi v : ℤ) → lo ≤ℤ v → v ≤ℤ hi → IsWithin (record { lo = lo; hi = hi; err = pos 0 }) v (whole v)
plain_within lo hi v p q = record { low = p; high = q; near = itself_within v }

-- what its rule reads, and what it has to be told of the rows
record IsTold (net : NetData) (i : ℕ) (item : Item) (reads : List (Reading Part)) (known : Part → Bounds) (rows : List (List ℤ)) (m : ℕ → ℕ → Cell ℤ) (e : ℕ → ℕ → Cell Fraction) : Type 0 where
  input : KeepsRange item (get_or (get_or rows 0 []) (input_place net.wires i) (pos 0))
  under_way : IsUnderWay item rows
  state : IsTrue (has_role Y (roles_of item)) → ((m 0 i).state ≡ (equation_of machine net rows m i item).state) × ((e 0 i).state ≡ (equation_of exact net rows e i item).state)
  fit : FitReads net reads (bounds_read reads known)
  within : ReadsWithin net reads known m e

no_bounds_given : {A : Type 0} (b : Bounds) → ◌≡◌ {A = Option Bounds} None (Some b) → A
no_bounds_given b h = absurd (cc)

input_keeps : (net : NetData) (i : ℕ) (lo hi : ℤ) (role : Role) (known : Part → Bounds) (rows : List (List ℤ)) (m : ℕ → ℕ → Cell ℤ) (e : ℕ → ℕ → Cell Fraction) (bounds : Bounds) → KeepsRange (Input lo hi) (get_or (get_or rows 0 []) (input_place net.wires i) (pos 0)) → given_by (item_rule net i (Input lo hi) role) known ≡ Some bounds → PartKeeps net i role (Input lo hi) rows m e bounds
unfolding equation_of machine exact
input_keeps net i lo hi Value known rows m e bounds keeps given =
    let r = is_ruled (item_rule net i (Input lo hi) Value) known bounds given in
    record { machine_divides = tt; exact_divides = tt; within = subst (λ b. IsWithin b (get_or (get_or rows 0 []) (input_place net.wires i) (pos 0)) (whole (get_or (get_or rows 0 []) (input_place net.wires i) (pos 0)))) r.same (plain_within lo hi (get_or (get_or rows 0 []) (input_place net.wires i) (pos 0)) keeps.0 keeps.1) }
input_keeps net i lo hi Y known rows m e bounds keeps given = no_bounds_given bounds given
input_keeps net i lo hi X1 known rows m e bounds keeps given = no_bounds_given bounds given
input_keeps net i lo hi X2 known rows m e bounds keeps given = no_bounds_given bounds given
input_keeps net i lo hi W known rows m e bounds keeps given = no_bounds_given bounds given

const_keeps : (net : NetData) (i : ℕ) (value : ℤ) (role : Role) (known : Part → Bounds) (rows : List (List ℤ)) (m : ℕ → ℕ → Cell ℤ) (e : ℕ → ℕ → Cell Fraction) (bounds : Bounds) → given_by (item_rule net i (Const value) role) known ≡ Some bounds → PartKeeps net i role (Const value) rows m e bounds
unfolding equation_of machine exact
const_keeps net i value Value known rows m e bounds given =
    let r = is_ruled (item_rule net i (Const value) Value) known bounds given in
    record { machine_divides = tt; exact_divides = tt; within = subst (λ b. IsWithin b value (whole value)) r.same (plain_within value value value (int_le_refl value) (int_le_refl value)) }
const_keeps net i value Y known rows m e bounds given = no_bounds_given bounds given
const_keeps net i value X1 known rows m e bounds given = no_bounds_given bounds given
const_keeps net i value X2 known rows m e bounds given = no_bounds_given bounds given
const_keeps net i value W known rows m e bounds given = no_bounds_given bounds given

-- a delay hands on what its source had in the row before
delay_keeps : (net : NetData) (i : ℕ) (init : ℤ) (source : WireNo) (role : Role) (known : Part → Bounds) (rows : List (List ℤ)) (m : ℕ → ℕ → Cell ℤ) (e : ℕ → ℕ → Cell Fraction) (bounds : Bounds) → IsUnderWay (Delay init source) rows → ReadsWithin net (item_rule net i (Delay init source) role).reads known m e → given_by (item_rule net i (Delay init source) role) known ≡ Some bounds → PartKeeps net i role (Delay init source) rows m e bounds
unfolding equation_of machine exact
delay_keeps net i init source Value known rows m e bounds later within given =
    let r = is_ruled (item_rule net i (Delay init source) Value) known bounds given in
    record { machine_divides = tt; exact_divides = tt; within = rw later (subst (λ b. IsWithin b (m 1 source.0).value (e 1 source.0).value) r.same (within 0 (omega arith) 0 (omega arith))) }
delay_keeps net i init source Y known rows m e bounds later within given = no_bounds_given bounds given
delay_keeps net i init source X1 known rows m e bounds later within given = no_bounds_given bounds given
delay_keeps net i init source X2 known rows m e bounds later within given = no_bounds_given bounds given
delay_keeps net i init source W known rows m e bounds later within given = no_bounds_given bounds given

item_keeps : (net : NetData) (i : ℕ) (role : Role) (item : Item) (known : Part → Bounds) (rows : List (List ℤ)) (m : ℕ → ℕ → Cell ℤ) (e : ℕ → ℕ → Cell Fraction) (bounds : Bounds) → IsValid net → i < length net.wires → (wire_at net.wires i).item ≡ item → IsTold net i item (item_rule net i item role).reads known rows m e → given_by (item_rule net i item role) known ≡ Some bounds → PartKeeps net i role item rows m e bounds
item_keeps net i role (Input lo hi) known rows m e bounds valid h is told given = input_keeps net i lo hi role known rows m e bounds told.input given
item_keeps net i role (Const value) known rows m e bounds valid h is told given = const_keeps net i value role known rows m e bounds given
item_keeps net i role (Delay init source) known rows m e bounds valid h is told given = delay_keeps net i init source role known rows m e bounds told.under_way told.within given
item_keeps net i role (OfBlock b) known rows m e bounds valid h is told given = block_keeps net i b role known rows m e bounds valid h is told.state told.fit told.within given

-- ---- the rule of a part

pub rules_are_sound : RulesAreSound
unfolding reads_ago
rules_are_sound net valid entries p h allowed rows m e keeps later state given bounds rules =
    let part = part_at net p in
    let reads = reads_of net p in
    let there = numbered net p h in
    let reads_allowed = allowed_reads net entries p valid h allowed in
    let fit : FitReads net reads (bounds_read reads (entry_of net entries)) = λ q l. rw (given_at reads (entry_of net entries) q l) ((allowed_entry net (reading_at reads q).part (entry_of net entries (reading_at reads q).part) (reads_allowed q l).1).between.low) in
    let within : ReadsWithin net reads (entry_of net entries) m e = λ q l.
    let reading = reading_at reads q in
    let number = has_number net reading.part (is_orderly net part valid there q l).there in
    let read = subst (λ t. IsTrue (is_read reads t (rows_ago reading))) (sym number.there) (read_there reads q l) in
    subst (λ (t : Part). IsPartHeld net entries t (back (rows_ago reading) m) (back (rows_ago reading) e)) number.there (given number.number (rows_ago reading) number.within read) in
    let told : IsTold net part.wire.0 (wire_at net.wires part.wire.0).item reads (entry_of net entries) rows m e = record { input = keeps; under_way = later; state = state; fit = fit; within = within } in
    let k = item_keeps net part.wire.0 part.role (wire_at net.wires part.wire.0).item (entry_of net entries) rows m e bounds valid there.wire refl told (rule_gift net part (entry_of net entries) bounds rules).is in
    record { machine_divides = k.machine_divides; exact_divides = k.exact_divides; within = k.within }
