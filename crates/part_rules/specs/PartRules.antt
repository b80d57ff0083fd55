-- A rule as a record: what it reads, where it gives nothing, and the bounds that it gives; and what it promises of what its
-- part means. `P` are the parts, whatever these are.
use Rattle.std.specs.Prelude.{◌≡◌, ℕ, zero, suc, ◌+◌, ◌<◌, Bool, true, false, List, [], ◌∷◌, map, length, get_or, ℤ, pos, ◌≤ℤ◌, Option, Some, None, if◌then◌else◌}
use Rattle.fx_fraction.specs.Fraction.{Fraction, whole}
use Rattle.part_rules.specs.declared.bounds.Bounds.{Bounds}
use Rattle.part_rules.specs.Within.{IsWithin, no_bounds}

-- ---- what a rule is

-- a part that a rule reads
pub record Reading (P : Type 0) : Type 0 where
  pub part : P
  -- it is read as it was one row before
  pub before : Bool

-- a part, read at the same row
abbrev pub read_now : {P : Type 0} → P → Reading P
read_now part = record { part = part; before = false }

-- a part, read as it was one row before
abbrev pub read_before : {P : Type 0} → P → Reading P
read_before part = record { part = part; before = true }

-- a rule: it is given the bounds of what it reads, in that order, and nothing else
pub record PartRule (P : Type 0) : Type 0 where
  -- what it reads
  pub reads : List (Reading P)
  -- whether it gives nothing
  pub fails : List Bounds → Bool
  -- the bounds that it gives, where it gives some
  pub bounds : List Bounds → Bounds

-- the bounds of what is read, by their number from 0
abbrev pub bounds_at : List Bounds → ℕ → Bounds
bounds_at given p = get_or given p no_bounds

-- n arguments of an operation, from number p on, read at the same row
abbrev pub arguments_read : ℕ → ℕ → List (Reading ℕ)
arguments_read p zero = []
arguments_read p (suc n) = read_now p ∷ arguments_read (p + 1) n

-- a reading, where each part has another name
abbrev pub renamed_reading : {P Q : Type 0} → (P → Q) → Reading P → Reading Q
renamed_reading name reading = record { part = name reading.part; before = reading.before }

-- a rule that reads nothing, and gives the numbers from lo to hi without an error
abbrev pub fixed_rule : {P : Type 0} → ℤ → ℤ → PartRule P
fixed_rule lo hi = record { reads = []; fails = λ given. false; bounds = λ given. record { lo = lo; hi = hi; err = pos 0 } }

-- the same rule, where each part has another name
abbrev pub renamed : {P Q : Type 0} → (P → Q) → PartRule P → PartRule Q
renamed name rule = record {
  reads = map (renamed_reading name) rule.reads;
  fails = rule.fails;
  bounds = rule.bounds;
}

-- ---- what it gives

-- the bounds of what is read, where `known` has those of each part
abbrev pub bounds_read : {P : Type 0} → List (Reading P) → (P → Bounds) → List Bounds
bounds_read reads known = map (λ reading. known reading.part) reads

-- what a rule gives
abbrev pub given_by : {P : Type 0} → PartRule P → (P → Bounds) → Option Bounds
given_by rule known =
    let given = bounds_read rule.reads known in
    if rule.fails given then None else Some (rule.bounds given)

-- two that have the bounds of each part have the same for each that is read
abbrev pub AgreeOn : {P : Type 0} → List (Reading P) → (P → Bounds) → (P → Bounds) → Type 0
AgreeOn [] one other = Unit {0}
AgreeOn (reading ∷ reads) one other = (one reading.part ≡ other reading.part) × AgreeOn reads one other

-- a rule depends on what it reads alone, here where parts are their numbers
abbrev pub DependOnReads : Type 0
DependOnReads =
    (rule : PartRule ℕ) (one other : ℕ → Bounds) → AgreeOn rule.reads one other → given_by rule one ≡ given_by rule other

-- ---- what it promises

-- what a part means, by the numbers that its rule reads, in their order
pub record PartMeaning : Type 1 where
  -- the machine's value, before saturation
  pub value : (ℕ → ℤ) → ℤ
  -- the value in exact fractions
  pub exactly : (ℕ → Fraction) → Fraction
  -- no divisor is 0
  pub Divides : (ℕ → Fraction) → Type 0

-- what a part means that has a whole number of its own
abbrev pub fixed_meaning : ℤ → PartMeaning
fixed_meaning v = record { value = λ m. v; exactly = λ e. whole v; Divides = λ e. Unit {0} }

-- a part keeps to bounds where its rule reads the whole numbers m in the machine, and the fractions e
pub record KeepsTo (meaning : PartMeaning) (b : Bounds) (m : ℕ → ℤ) (e : ℕ → Fraction) : Type 0 where
  -- no divisor is 0 at the whole numbers
  pub machine_divides : meaning.Divides (λ p. whole (m p))
  -- nor is one at the fractions
  pub exact_divides : meaning.Divides e
  -- the machine's value is within the bounds of the exact one
  pub within : IsWithin b (meaning.value m) (meaning.exactly e)

-- a rule is sound: from bounds that fit, where it gives some and each number that it reads is within its bounds, the part
-- keeps to what it gives
abbrev pub IsSound : {P : Type 0} → PartRule P → PartMeaning → (List Bounds → Type 0) → Type 0
IsSound rule meaning Fit =
    (given : List Bounds) (m : ℕ → ℤ) (e : ℕ → Fraction) → Fit given → rule.fails given ≡ false →
    ((p : ℕ) → p < length rule.reads → IsWithin (bounds_at given p) (m p) (e p)) → KeepsTo meaning (rule.bounds given) m e

-- a range isn't empty, and the error isn't negative
pub record IsProper (b : Bounds) : Type 0 where
  pub ordered : b.lo ≤ℤ b.hi
  pub positive : pos 0 ≤ℤ b.err

-- the range of bounds lies in that of others, and their error is no greater
pub record LiesInside (inner outer : Bounds) : Type 0 where
  pub low : outer.lo ≤ℤ inner.lo
  pub high : inner.hi ≤ℤ outer.hi
  pub error : inner.err ≤ℤ outer.err

-- proper bounds inside of others
pub record IsNarrower (narrow wide : Bounds) : Type 0 where
  pub proper : IsProper narrow
  pub inside : LiesInside narrow wide

-- a rule is monotone: where it gives bounds from wide ones that fit, it gives some inside of these from narrower ones
abbrev pub IsMonotone : {P : Type 0} → PartRule P → (List Bounds → Type 0) → Type 0
IsMonotone rule Fit =
    (narrow wide : List Bounds) → Fit wide → rule.fails wide ≡ false →
    ((p : ℕ) → p < length rule.reads → IsNarrower (bounds_at narrow p) (bounds_at wide p)) →
    (rule.fails narrow ≡ false) × LiesInside (rule.bounds narrow) (rule.bounds wide)

-- where wide bounds lead to some, narrower ones lead to some inside of these
abbrev pub LeadsInside : Option Bounds → Option Bounds → Type 0
LeadsInside narrow None = Unit {0}
LeadsInside None (Some w) = ⊥
LeadsInside (Some b) (Some w) = LiesInside b w

-- a part keeps its rule: the rule is sound and monotone, from bounds that fit
pub record KeepsRule {P : Type 0} (rule : PartRule P) (meaning : PartMeaning) (Fit : List Bounds → Type 0) : Type 0 where
  pub sound : IsSound rule meaning Fit
  pub monotone : IsMonotone rule Fit
