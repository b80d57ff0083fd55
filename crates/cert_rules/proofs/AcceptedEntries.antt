-- What an accepted certificate says of the entry of a part.
use Rattle.std.proofs.Common.{◌≡◌, true, ◌&&◌, List, ℤ, pos, ◌≤ℤ◌, int_le, refl, subst, arith}
use Rattle.std.specs.Prelude.{Option, Some, None, IsTrue}
use Rattle.std.proofs.lemmas.Bool.{and_parts, false≢true}
use Rattle.fx_fraction.specs.Fraction.{Fraction, whole, over, distance}
use Rattle.fx_fraction.proofs.Order.{AtMost_trans, AtMost-over}
use Rattle.fx_fraction.proofs.WholeNumbers.{int_le-true, int_le_trans}
use Rattle.net_model.specs.declared.wires.Part.{Part}
use Rattle.net_model.specs.Wires.{NetData, wire_at}
use Rattle.part_rules.specs.declared.bounds.Bounds.{Bounds}
use Rattle.part_rules.specs.Within.{IsWithin}
use Rattle.part_rules.specs.PartRules.{LiesInside}
use Rattle.part_rules.proofs.Within.{whole_within}
use Rattle.cert_rules.specs.Rules.{least_of_part, greatest_of_part, rule_of}
use Rattle.cert_rules.specs.Certificates.{IsPart, entry_of}
use Rattle.cert_rules.specs.Acceptance.{Accepts, entry_at, is_allowed_at, is_allowed_entry, is_inductive_at, is_inductive_entry, lies_inside, start_of, starts_inside}
use Rattle.cert_rules.proofs.EntryFacts.{allowed_entry, are_between}
use Rattle.cert_rules.proofs.Readings.{has_number}
use Rattle.cert_rules.proofs.RuleSoundness.{rule_gift}

-- what is within bounds is within wider ones
pub within_wider : (inner outer : Bounds) (m : ℤ) (e : Fraction) → LiesInside inner outer → IsWithin inner m e → IsWithin outer m e
within_wider inner outer m e i h = record {
  low = int_le_trans _ _ _ i.low h.low;
  high = int_le_trans _ _ _ h.high i.high;
  near = AtMost_trans (distance (whole m) e) (over inner.err 65536) (over outer.err 65536) h.near (AtMost-over inner.err outer.err 65536 (omega arith) i.error);
}

-- bounds that a rule gives, within an entry
record Given (given : Option Bounds) (entry : Bounds) : Type 0 where
  bounds : Bounds
  is : given ≡ Some bounds
  inside : LiesInside bounds entry

given_of : (given : Option Bounds) (entry : Bounds) → IsTrue (lies_inside given entry) → Given given entry
given_of None entry h = absurd (false≢true h)
given_of (Some b) entry h =
    let rest = and_parts (int_le entry.lo b.lo && int_le b.hi entry.hi) (int_le b.err entry.err) h in
    let range = and_parts (int_le entry.lo b.lo) (int_le b.hi entry.hi) rest.0 in
    record {
      bounds = b;
      is = refl;
      inside = record { low = int_le-true entry.lo b.lo range.0; high = int_le-true b.hi entry.hi range.1; error = int_le-true b.err entry.err rest.1 };
    }

-- the entry of a part: it lies between the part's ends, its rule gives bounds, these lie there too and within the entry, and a value from which
-- the part starts is within the entry
pub record EntryHolds (net : NetData) (entries : List Bounds) (part : Part) : Type 0 where
  pub bounds : Bounds
  pub rules : rule_of net part (entry_of net entries) ≡ Some bounds
  pub entry_least : least_of_part net part ≤ℤ (entry_of net entries part).lo
  pub entry_greatest : (entry_of net entries part).hi ≤ℤ greatest_of_part net part
  pub least : least_of_part net part ≤ℤ bounds.lo
  pub greatest : bounds.hi ≤ℤ greatest_of_part net part
  pub inside : LiesInside bounds (entry_of net entries part)
  pub starts : (z : ℤ) → start_of (wire_at net.wires part.wire.0).item part.role ≡ Some z → IsWithin (entry_of net entries part) z (whole z)

start_within : (start : Option ℤ) (b : Bounds) (z : ℤ) → pos 0 ≤ℤ b.err → IsTrue (starts_inside start b) → start ≡ Some z → IsWithin b z (whole z)
start_within start b z positive h is =
    let inside : IsTrue (starts_inside (Some z) b) = rw is at h in
    let both = and_parts (int_le b.lo z) (int_le z b.hi) inside in
    whole_within b z positive (record { low = int_le-true b.lo z both.0; high = int_le-true z b.hi both.1 })

entry_of_both : (net : NetData) (entries : List Bounds) (part : Part) → is_allowed_entry net part (entry_of net entries part) ≡ true → is_inductive_entry net entries part (entry_of net entries part) ≡ true → EntryHolds net entries part
entry_of_both net entries part allowed inductive =
    let entry = entry_of net entries part in
    let both = and_parts (starts_inside (start_of (wire_at net.wires part.wire.0).item part.role) entry) (lies_inside (rule_of net part (entry_of net entries)) entry) inductive in
    let given = given_of (rule_of net part (entry_of net entries)) entry both.1 in
    let ends = are_between net part given.bounds (rule_gift net part (entry_of net entries) given.bounds given.is).allowed in
    record {
      bounds = given.bounds;
      rules = given.is;
      entry_least = (allowed_entry net part entry allowed).between.low;
      entry_greatest = (allowed_entry net part entry allowed).between.high;
      least = ends.low;
      greatest = ends.high;
      inside = given.inside;
      starts = λ z is. start_within (start_of (wire_at net.wires part.wire.0).item part.role) entry z (allowed_entry net part entry allowed).proper.positive both.0 is;
    }

pub entry_holds : (net : NetData) (entries : List Bounds) (part : Part) → Accepts net entries → IsPart net part → EntryHolds net entries part
unfolding is_allowed_at is_inductive_at
entry_holds net entries part accepts is =
    let number = has_number net part is in
    let allowed = subst (λ t. is_allowed_entry net t (entry_at entries number.number) ≡ true) number.there (accepts.allowed number.number number.within) in
    let inductive = subst (λ t. is_inductive_entry net entries t (entry_at entries number.number) ≡ true) number.there (accepts.inductive number.number number.within) in
    entry_of_both net entries part (rw (number.entry entries) allowed) (rw (number.entry entries) inductive)
