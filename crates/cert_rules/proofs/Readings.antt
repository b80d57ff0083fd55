-- What a rule reads, reading by reading.
use Rattle.std.proofs.Common.{◌≡◌, ℕ, zero, suc, ◌<◌, ◌≤◌, ◌==◌, Bool, true, false, ◌&&◌, ◌||◌, List, [], ◌∷◌, length, refl, ap₂, arith, eqb-true, eq-eqb}
use Rattle.std.proofs.lemmas.Bool.{and_parts, and_from, false≢true}
use Rattle.net_model.specs.declared.wires.Part.{Part}
use Rattle.net_model.specs.Wires.{NetData, is_part, parts_of, place_in, same_role}
use Rattle.net_model.proofs.PartPlaces.{part_of, same_role-true, same_role-itself, has_place, part_there}
use Rattle.part_rules.specs.declared.bounds.Bounds.{Bounds}
use Rattle.part_rules.specs.Within.{no_bounds}
use Rattle.part_rules.specs.PartRules.{Reading, bounds_at, bounds_read, AgreeOn}
use Rattle.cert_rules.specs.Certificates.{IsPart, entry_of}
use Rattle.cert_rules.specs.Acceptance.{entry_at, part_at}
use Rattle.cert_rules.specs.Arguments.{rows_ago, reads_part, is_read, is_read_ever}
use Rattle.cert_rules.specs.GivenBounds.{reading_at}

-- ---- the numbers of readings

reads_itself : (reading : Reading Part) → reads_part reading.part reading ≡ true
reads_itself reading = and_from _ _ (eq-eqb reading.part.wire.0 reading.part.wire.0 refl) (same_role-itself reading.part.role)

either : (a b : Bool) → b ≡ true → (a || b) ≡ true
either true b h = refl
either false b h = h

first_of : (a b : Bool) → a ≡ true → (a || b) ≡ true
first_of true b h = refl
first_of false b h = absurd (false≢true h)

-- each reading is read, as many rows ago as it says
pub read_there : (reads : List (Reading Part)) (q : ℕ) → q < length reads → is_read reads (reading_at reads q).part (rows_ago (reading_at reads q)) ≡ true
read_there [] q h = absurd (omega arith)
read_there (reading ∷ reads) zero h = first_of _ _ (and_from _ _ (reads_itself reading) (eq-eqb (rows_ago reading) (rows_ago reading) refl))
read_there (reading ∷ reads) (suc q) h = either _ _ (read_there reads q (omega arith))

pub read_ever : (reads : List (Reading Part)) (q : ℕ) → q < length reads → is_read_ever reads (reading_at reads q).part ≡ true
read_ever [] q h = absurd (omega arith)
read_ever (reading ∷ reads) zero h = first_of _ _ (reads_itself reading)
read_ever (reading ∷ reads) (suc q) h = either _ _ (read_ever reads q (omega arith))

-- and what is read is read by one of them
pub record IsReading (reads : List (Reading Part)) (part : Part) (ago : ℕ) : Type 0 where
  pub number : ℕ
  pub within : number < length reads
  pub is : (reading_at reads number).part ≡ part
  pub rows : rows_ago (reading_at reads number) ≡ ago

same_part : (one other : Part) → is_part other.wire.0 other.role one ≡ true → one ≡ other
same_part one other h =
    let both = and_parts (one.wire.0 == other.wire.0) (same_role one.role other.role) h in
    ap₂ part_of (eqb-true one.wire.0 other.wire.0 both.0) (same_role-true one.role other.role both.1)

by_first : (reading : Reading Part) (reads : List (Reading Part)) (part : Part) (ago : ℕ) (t : Bool) → (reads_part part reading && rows_ago reading == ago) ≡ t → (t || is_read reads part ago) ≡ true → (is_read reads part ago ≡ true → IsReading reads part ago) → IsReading (reading ∷ reads) part ago
by_first reading reads part ago true e h later =
    let both = and_parts (reads_part part reading) (rows_ago reading == ago) e in
    record { number = 0; within = omega arith; is = same_part reading.part part both.0; rows = eqb-true _ _ both.1 }
by_first reading reads part ago false e h later =
    let r = later h in
    record { number = suc r.number; within = omega (arith, r.within); is = r.is; rows = r.rows }

pub reading_of : (reads : List (Reading Part)) (part : Part) (ago : ℕ) → is_read reads part ago ≡ true → IsReading reads part ago
reading_of [] part ago h = absurd (false≢true h)
reading_of (reading ∷ reads) part ago h = by_first reading reads part ago _ refl h (reading_of reads part ago)

-- ---- the bounds of what is read

pub given_at : (reads : List (Reading Part)) (known : Part → Bounds) (q : ℕ) → q < length reads → bounds_at (bounds_read reads known) q ≡ known (reading_at reads q).part
given_at [] known q h = absurd (omega arith)
given_at (reading ∷ reads) known zero h = refl
given_at (reading ∷ reads) known (suc q) h = given_at reads known q (omega arith)

pub given_past : (reads : List (Reading Part)) (known : Part → Bounds) (q : ℕ) → length reads ≤ q → bounds_at (bounds_read reads known) q ≡ no_bounds
given_past [] known q h = refl
given_past (reading ∷ reads) known zero h = absurd (omega arith)
given_past (reading ∷ reads) known (suc q) h = given_past reads known q (omega arith)

-- two that say the same of each part that is read agree
pub agree_on : (reads : List (Reading Part)) (one other : Part → Bounds) → ((q : ℕ) → q < length reads → one (reading_at reads q).part ≡ other (reading_at reads q).part) → AgreeOn reads one other
agree_on [] one other same = tt
agree_on (reading ∷ reads) one other same = (same 0 (omega arith), agree_on reads one other (λ q h. same (suc q) (omega arith)))

-- ---- the numbers of parts

-- a part of the network has a number, and its entry is the one of that number
pub record HasNumber (net : NetData) (part : Part) : Type 0 where
  pub number : ℕ
  pub within : number < length (parts_of net.wires)
  pub there : part_at net number ≡ part
  pub entry : (entries : List Bounds) → entry_of net entries part ≡ entry_at entries number

pub has_number : (net : NetData) (part : Part) → IsPart net part → HasNumber net part
unfolding entry_of
has_number net part is =
    let place = has_place net part.wire.0 part.role is.wire is.role in
    record { number = place_in part.wire.0 part.role (parts_of net.wires); within = place.below; there = place.there; entry = λ entries. refl }

-- each number is that of a part of the network
pub numbered : (net : NetData) (k : ℕ) → k < length (parts_of net.wires) → IsPart net (part_at net k)
numbered net k h = let part = part_there net k h in record { wire = part.wire; role = part.role }
