-- Distances between a number and points, as words give them.
use Rattle.std.specs.Prelude.{◌≡◌, ℕ, suc, ◌+◌, ◌<◌, ℤ, ◌-ℤ◌, ◌≤ℤ◌, ◌<ℤ◌, unsigned_abs}
use Rattle.std.proofs.Common.{ap, ap₂, ◌∙◌, arith, FitsSigned, of_z, to_z, w64}
use Rattle.std.proofs.lemmas.Int.{ints, to_z-of_z}

pub plain : (z : ℤ) → FitsSigned w64 z → to_z w64 (of_z w64 z) ≡ z
plain z h = to_z-of_z w64 z h

pub next : (i : ℕ) → i + 1 ≡ suc i
next i = omega arith

-- how far x is from a point p
pub way_of : (x low p : ℤ) (way : ℕ) → to_z w64 (of_z w64 x) ≡ x → to_z w64 (of_z w64 low) ≡ low → way ≡ unsigned_abs (to_z w64 (of_z w64 x) -ℤ to_z w64 (of_z w64 low)) → low ≡ p → way ≡ unsigned_abs (x -ℤ p)
way_of x low p way e f g h = g ∙ ap₂ (λ s t. unsigned_abs (s -ℤ t)) e (f ∙ h)

-- a number below the point q is nearer to p than q is
pub nearer : (x p q high : ℤ) (way whole_way : ℕ) → p ≤ℤ x → x <ℤ q → high ≡ q → way ≡ unsigned_abs (x -ℤ p) → whole_way ≡ unsigned_abs (high -ℤ p) → way < whole_way
nearer x p q high way whole_way l u e f g = omega (arith, ints, l, u, f, g ∙ ap (λ h. unsigned_abs (h -ℤ p)) e)

-- two points of 16 bits are less than 2^17 apart
pub near_points : (p q high : ℤ) (whole_way : ℕ) → unsigned_abs p < 65536 → unsigned_abs q < 65536 → high ≡ q → whole_way ≡ unsigned_abs (high -ℤ p) → whole_way < 131072
near_points p q high whole_way l u e g = omega (arith, ints, l, u, g ∙ ap (λ h. unsigned_abs (h -ℤ p)) e)
