-- What a rule reads of cells, and what a part makes of them.
use Rattle.std.specs.Prelude.{◌≡◌, ℕ, zero, suc, ◌<◌, Bool, true, false, List, length, ℤ, Option, Some, None}
use Rattle.std.proofs.Common.{refl, cond, arith}
use Rattle.fx_fraction.specs.Fraction.{Fraction}
use Rattle.fx_core.specs.declared.quotient.Mode.{Mode}
use Rattle.fx_core.specs.Values.{Divides, rounded_fraction, unsaturated}
use Rattle.net_model.specs.declared.wires.Item.{Item}
use Rattle.net_model.specs.declared.wires.Role.{Role}
use Rattle.net_model.specs.declared.wires.Part.{Part}
use Rattle.net_model.specs.Wires.{NetData, wire_at}
use Rattle.net_meaning.specs.Cells.{Cell, wire_values}
use Rattle.net_meaning.specs.Blocks.{machine, exact, as_fractions}
use Rattle.net_meaning.specs.Runs.{equation_of}
use Rattle.net_meaning.specs.Promises.{ItemDivides}
use Rattle.part_rules.specs.declared.bounds.Bounds.{Bounds}
use Rattle.part_rules.specs.Within.{IsWithin}
use Rattle.part_rules.specs.PartRules.{PartRule, Reading, bounds_read, given_by}
use Rattle.cert_rules.specs.Rules.{part_on}
use Rattle.cert_rules.specs.Arguments.{rows_ago}
use Rattle.cert_rules.specs.GivenBounds.{reading_at}
use Rattle.cert_rules.specs.Soundness.{back, count_of, new_by, raw_by, value_of}

-- value number n of what is read is within its bounds
abbrev pub IsReadWithin : NetData → (Part → Bounds) → (ℕ → ℕ → Cell ℤ) → (ℕ → ℕ → Cell Fraction) → Reading Part → ℕ → Type 0
IsReadWithin net known m e reading n =
    IsWithin (known reading.part) (value_of net reading.part (back (rows_ago reading) m) n) (value_of net reading.part (back (rows_ago reading) e) n)

-- each value of each part that is read is within its bounds, at the row at which it is read
abbrev pub ReadsWithin : NetData → List (Reading Part) → (Part → Bounds) → (ℕ → ℕ → Cell ℤ) → (ℕ → ℕ → Cell Fraction) → Type 0
ReadsWithin net reads known m e =
    (q : ℕ) → q < length reads → (n : ℕ) → n < count_of net (reading_at reads q).part → IsReadWithin net known m e (reading_at reads q) n

-- a part of wire i keeps to bounds
pub record PartKeeps (net : NetData) (i : ℕ) (role : Role) (item : Item) (rows : List (List ℤ)) (m : ℕ → ℕ → Cell ℤ) (e : ℕ → ℕ → Cell Fraction) (bounds : Bounds) : Type 0 where
  pub machine_divides : ItemDivides net (wire_at net.wires i) item (as_fractions (wire_values m))
  pub exact_divides : ItemDivides net (wire_at net.wires i) item (wire_values e)
  pub within : IsWithin bounds (raw_by role (equation_of machine net rows m i item) (value_of net (part_on i role) m 0)) (new_by role (equation_of exact net rows e i item) (value_of net (part_on i role) e 0))

-- a rule gives bounds: it doesn't fail, and these are what it proposes
pub record IsRuled (rule : PartRule Part) (known : Part → Bounds) (bounds : Bounds) : Type 0 where
  pub ruled : rule.fails (bounds_read rule.reads known) ≡ false
  pub same : rule.bounds (bounds_read rule.reads known) ≡ bounds

ruled_if : (rule : PartRule Part) (known : Part → Bounds) (bounds : Bounds) (fails : Bool) → rule.fails (bounds_read rule.reads known) ≡ fails → cond fails None (Some (rule.bounds (bounds_read rule.reads known))) ≡ Some bounds → IsRuled rule known bounds
ruled_if rule known bounds true e h = absurd (cc)
ruled_if rule known bounds false e h = let same : rule.bounds (bounds_read rule.reads known) ≡ bounds = cc in record { ruled = e; same = same }

pub is_ruled : (rule : PartRule Part) (known : Part → Bounds) (bounds : Bounds) → given_by rule known ≡ Some bounds → IsRuled rule known bounds
is_ruled rule known bounds h = ruled_if rule known bounds (rule.fails (bounds_read rule.reads known)) refl h

-- where no divisor is 0 the value before saturation is the formula rounded
pub not_by_zero : (mode : Mode) (least greatest : ℤ) (q : Option (Fraction × Fraction)) (f : Fraction) → Divides q → unsaturated mode least greatest q f ≡ rounded_fraction mode f
not_by_zero mode least greatest None f h = refl
not_by_zero mode least greatest (Some q) f h = rw h refl

pub within_at : (b : Bounds) (v w : ℤ) (e f : Fraction) → v ≡ w → e ≡ f → IsWithin b w f → IsWithin b v e
within_at b v w e f p q h = rw (p, q) h

-- what holds of the first two numbers, or of the first three
pub both_hold : (P : ℕ → Type 0) → P 0 → P 1 → (p : ℕ) → p < 2 → P p
both_hold P a b zero h = a
both_hold P a b (suc zero) h = b
both_hold P a b (suc (suc p)) h = absurd (omega arith)

pub three_hold : (P : ℕ → Type 0) → P 0 → P 1 → P 2 → (p : ℕ) → p < 3 → P p
three_hold P a b c zero h = a
three_hold P a b c (suc zero) h = b
three_hold P a b c (suc (suc zero)) h = c
three_hold P a b c (suc (suc (suc p))) h = absurd (omega arith)
