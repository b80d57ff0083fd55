-- What holds of every rule: it depends on what it reads alone; it is kept under other names of parts; from narrower bounds a
-- monotone one gives narrower bounds; and the bounds that a sound one gives are proper.
use Rattle.std.specs.Prelude.{◌≡◌, ℕ, zero, suc, ◌+◌, ◌<◌, Bool, true, false, List, [], ◌∷◌, length, ℤ, pos, ◌≤ℤ◌, None, Some, if◌then◌else◌}
use Rattle.std.proofs.Common.{refl, ap, ap₂, arith}
use Rattle.std.proofs.lemmas.List.{length-map}
use Rattle.fx_fraction.specs.Fraction.{whole}
use Rattle.fx_fraction.proofs.WholeNumbers.{int_le_refl, int_le_trans}
use Rattle.part_rules.specs.declared.bounds.Bounds.{Bounds}
use Rattle.part_rules.specs.PartRules.{Reading, PartRule, PartMeaning, IsSound, IsMonotone, KeepsRule, IsProper, IsNarrower, LiesInside, LeadsInside, AgreeOn, arguments_read, bounds_at, bounds_read, fixed_meaning, fixed_rule, given_by, renamed, renamed_reading}
use Rattle.part_rules.proofs.Products.{near_positive}
use Rattle.part_rules.proofs.Within.{itself_within, whole_within}

-- ---- what a rule reads

pub same_read : {P : Type 0} (reads : List (Reading P)) (one other : P → Bounds) → AgreeOn reads one other → bounds_read reads one ≡ bounds_read reads other
same_read [] one other same = refl
same_read (reading ∷ reads) one other same = ap₂ (λ b bs. b ∷ bs) same.0 (same_read reads one other same.1)

-- a rule depends on what it reads alone
pub depends_on_reads : {P : Type 0} (rule : PartRule P) (one other : P → Bounds) → AgreeOn rule.reads one other → given_by rule one ≡ given_by rule other
depends_on_reads rule one other same = ap (λ given. if rule.fails given then None else Some (rule.bounds given)) (same_read rule.reads one other same)

pub length-arguments_read : (p n : ℕ) → length (arguments_read p n) ≡ n
length-arguments_read p zero = refl
length-arguments_read p (suc n) = ap suc (length-arguments_read (p + 1) n)

pub argument_there : (n p : ℕ) → p < n → p < length (arguments_read 0 n)
argument_there n p h = rw (length-arguments_read 0 n) h

-- where each part has another name, a rule reads as many
pub renamed_there : {P Q : Type 0} (name : P → Q) (rule : PartRule P) (p : ℕ) → p < length rule.reads → p < length (renamed name rule).reads
renamed_there name rule p h = rw (length-map rule.reads (renamed_reading name)) h

-- ---- rules that are kept

pub fixed_keeps : {P : Type 0} (lo hi v : ℤ) (Fit : List Bounds → Type 0) → lo ≤ℤ v → v ≤ℤ hi → KeepsRule (fixed_rule {P = P} lo hi) (fixed_meaning v) Fit
fixed_keeps lo hi v Fit low high = record {
  sound = λ given m e fit ruled within. record { machine_divides = tt; exact_divides = tt; within = record { low = low; high = high; near = itself_within v } };
  monotone = λ narrow wide fit ruled n. (refl, record { low = int_le_refl lo; high = int_le_refl hi; error = int_le_refl (pos 0) });
}

-- a rule is kept under other names of the parts that it reads
pub renamed_keeps : {P Q : Type 0} (name : P → Q) (rule : PartRule P) (meaning : PartMeaning) (Fit : List Bounds → Type 0) → KeepsRule rule meaning Fit → KeepsRule (renamed name rule) meaning Fit
renamed_keeps name rule meaning Fit keeps = record {
  sound = λ given m e fit ruled within. keeps.sound given m e fit ruled (λ p l. within p (renamed_there name rule p l));
  monotone = λ narrow wide fit ruled n. keeps.monotone narrow wide fit ruled (λ p l. n p (renamed_there name rule p l));
}

-- and where fewer bounds fit
pub keeps_where_fit : {P : Type 0} (rule : PartRule P) (meaning : PartMeaning) (Fit Fewer : List Bounds → Type 0) → ((given : List Bounds) → Fewer given → Fit given) → KeepsRule rule meaning Fit → KeepsRule rule meaning Fewer
keeps_where_fit rule meaning Fit Fewer fits keeps = record {
  sound = λ given m e fit ruled within. keeps.sound given m e (fits given fit) ruled within;
  monotone = λ narrow wide fit ruled n. keeps.monotone narrow wide (fits wide fit) ruled n;
}

-- ---- what a monotone rule gives

pub narrower_read : {P : Type 0} (reads : List (Reading P)) (narrow wide : P → Bounds) → ((part : P) → IsNarrower (narrow part) (wide part)) → (p : ℕ) → p < length reads → IsNarrower (bounds_at (bounds_read reads narrow) p) (bounds_at (bounds_read reads wide) p)
narrower_read [] narrow wide n p h = absurd (omega arith)
narrower_read (reading ∷ reads) narrow wide n zero h = n reading.part
narrower_read (reading ∷ reads) narrow wide n (suc p) h = narrower_read reads narrow wide n p (omega arith)

leads_inside : (f g : Bool) (b w : Bounds) → (g ≡ false → (f ≡ false) × LiesInside b w) → LeadsInside (if f then None else Some b) (if g then None else Some w)
leads_inside f true b w h = tt
leads_inside f false b w h = let k = h refl in rw k.0 k.1

-- where the bounds of each part are narrower, so is what it gives
pub given_grows : {P : Type 0} (rule : PartRule P) (Fit : List Bounds → Type 0) → IsMonotone rule Fit → (narrow wide : P → Bounds) → Fit (bounds_read rule.reads wide) → ((part : P) → IsNarrower (narrow part) (wide part)) → LeadsInside (given_by rule narrow) (given_by rule wide)
given_grows rule Fit monotone narrow wide fit n =
    let less = bounds_read rule.reads narrow in
    let more = bounds_read rule.reads wide in
    leads_inside (rule.fails less) (rule.fails more) (rule.bounds less) (rule.bounds more) (λ ruled. monotone less more fit ruled (narrower_read rule.reads narrow wide n))

-- ---- the bounds of a sound rule

-- they are proper where those that it reads are: the least value of each range has its value within them
pub gives_proper : {P : Type 0} (rule : PartRule P) (meaning : PartMeaning) (Fit : List Bounds → Type 0) → IsSound rule meaning Fit → (given : List Bounds) → Fit given → rule.fails given ≡ false → ((p : ℕ) → p < length rule.reads → IsProper (bounds_at given p)) → IsProper (rule.bounds given)
gives_proper rule meaning Fit sound given fit ruled proper =
    let m : ℕ → ℤ = λ p. (bounds_at given p).lo in
    let keeps = (sound given m (λ p. whole (m p)) fit ruled (λ p l. whole_within (bounds_at given p) (m p) (proper p l).positive (record { low = int_le_refl (m p); high = (proper p l).ordered }))).within in
    record {
      ordered = int_le_trans _ _ _ keeps.low keeps.high;
      positive = near_positive (meaning.value m) (rule.bounds given).err (meaning.exactly (λ p. whole (m p))) (record { near = keeps.near });
    }
