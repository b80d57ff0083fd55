-- The greatest and the least absolute value in a range, as words give them.
use Rattle.std.proofs.Common.{◌≡◌, ◌∙◌, ℕ, ℤ, pos, refl, ap, ap₂, arith, sym, Bool, false, FitsSigned, to_z, of_z, w64}
use Rattle.std.specs.Prelude.{◌^◌, ◌<◌, ◌≤ℤ◌, ◌<ℤ◌, unsigned_abs}
use Rattle.std.specs.Int.{int_max, int_min, w128}
use Rattle.std.proofs.lemmas.Int.{clamps, ints, to_z-of_z}
use borrow.Author.Differences.{fits_in}
use Rattle.part_rules.specs.declared.bounds.Bounds.{Bounds}
use Rattle.part_rules.specs.Entries.{IsSmall}
use Rattle.part_rules.specs.Errors.{holds_zero, mignitude, magnitude}
use Rattle.part_rules.proofs.WordSteps.{word}

end_word : (m : ℕ) (a : ℤ) → a ≡ pos m → a <ℤ pos (2 ^ 32) → (word a ≡ pos m) × (m < 2 ^ 32)
end_word m a e h =
    let small = rw e at h in
    (ap word e ∙ to_z-of_z w128 (pos m) (fits_in w128 (pos m) (omega (arith, ints, small))), omega (arith, ints, small))

-- what the greater of two absolute values is, and how large
pub record IsMagnitude (b : Bounds) (r : ℤ) : Type 0 where
  pub value : word r ≡ magnitude b
  pub low : pos 0 ≤ℤ word r
  pub high : word r <ℤ pos (2 ^ 32)

greater_word : (m n : ℕ) (r : ℤ) → m < 2 ^ 32 → n < 2 ^ 32 → r ≡ int_max (pos m) (pos n) → word r ≡ int_max (pos m) (pos n)
greater_word m n r h k is =
    ap word is ∙ to_z-of_z w128 (int_max (pos m) (pos n)) (fits_in w128 _ (omega (arith, ints, clamps, h, k)))

-- the absolute values of both ends
ends_are : (b : Bounds) (a d : ℤ) → IsSmall b → a ≡ pos (unsigned_abs (to_z w64 (of_z w64 b.lo))) → d ≡ pos (unsigned_abs (to_z w64 (of_z w64 b.hi))) → a <ℤ pos (2 ^ 32) → d <ℤ pos (2 ^ 32) → ((word a ≡ pos (unsigned_abs b.lo)) × (unsigned_abs b.lo < 2 ^ 32)) × ((word d ≡ pos (unsigned_abs b.hi)) × (unsigned_abs b.hi < 2 ^ 32))
ends_are b a d s e f h k =
    let least = s.low in
    let ordered = s.ordered in
    let greatest = s.high in
    let low_fits : FitsSigned w64 b.lo = fits_in w64 b.lo (omega (arith, ints, least, ordered, greatest)) in
    let high_fits : FitsSigned w64 b.hi = fits_in w64 b.hi (omega (arith, ints, least, ordered, greatest)) in (
      end_word (unsigned_abs b.lo) a (e ∙ ap (λ z. pos (unsigned_abs z)) (to_z-of_z w64 b.lo low_fits)) h,
      end_word (unsigned_abs b.hi) d (f ∙ ap (λ z. pos (unsigned_abs z)) (to_z-of_z w64 b.hi high_fits)) k,
    )

pub magnitude_is : (b : Bounds) (a d r : ℤ) → IsSmall b → a ≡ pos (unsigned_abs (to_z w64 (of_z w64 b.lo))) → d ≡ pos (unsigned_abs (to_z w64 (of_z w64 b.hi))) → a <ℤ pos (2 ^ 32) → d <ℤ pos (2 ^ 32) → r ≡ int_max (word a) (word d) → IsMagnitude b r
magnitude_is b a d r s e f h k is =
    let ends = ends_are b a d s e f h k in
    let first = ends.0 in
    let second = ends.1 in
    let below = first.1 in
    let below' = second.1 in
    let value = greater_word (unsigned_abs b.lo) (unsigned_abs b.hi) r below below' (is ∙ ap₂ int_max first.0 second.0) in
    record {
      value = value;
      low = rw value (omega (arith, ints, clamps));
      high = rw value (omega (arith, ints, clamps, below, below'));
    }

-- what the lesser of two absolute values is, and how large
pub record IsMignitude (b : Bounds) (r : ℤ) : Type 0 where
  pub value : word r ≡ mignitude b
  pub low : pos 0 ≤ℤ word r
  pub high : word r <ℤ pos (2 ^ 32)

lesser_word : (m n : ℕ) (r : ℤ) → m < 2 ^ 32 → n < 2 ^ 32 → r ≡ int_min (pos m) (pos n) → word r ≡ int_min (pos m) (pos n)
lesser_word m n r h k is =
    ap word is ∙ to_z-of_z w128 (int_min (pos m) (pos n)) (fits_in w128 _ (omega (arith, ints, clamps, h, k)))

least_if : (b : Bounds) (test : Bool) → test ≡ holds_zero b → test ≡ false → int_min (pos (unsigned_abs b.lo)) (pos (unsigned_abs b.hi)) ≡ mignitude b
least_if b test e fails = rw (sym e ∙ fails) refl

pub mignitude_is : (b : Bounds) (test : Bool) (a d r : ℤ) → IsSmall b → test ≡ holds_zero b → test ≡ false → a ≡ pos (unsigned_abs (to_z w64 (of_z w64 b.lo))) → d ≡ pos (unsigned_abs (to_z w64 (of_z w64 b.hi))) → a <ℤ pos (2 ^ 32) → d <ℤ pos (2 ^ 32) → r ≡ int_min (word a) (word d) → IsMignitude b r
mignitude_is b test a d r s t fails e f h k is =
    let ends = ends_are b a d s e f h k in
    let first = ends.0 in
    let second = ends.1 in
    let below = first.1 in
    let below' = second.1 in
    let value = lesser_word (unsigned_abs b.lo) (unsigned_abs b.hi) r below below' (is ∙ ap₂ int_min first.0 second.0) in
    record {
      value = value ∙ least_if b test t fails;
      low = rw value (omega (arith, ints, clamps));
      high = rw value (omega (arith, ints, clamps, below, below'));
    }
