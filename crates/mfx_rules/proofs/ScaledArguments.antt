-- A rule of a form reads two arguments at most, the bounds that it gives are proper, and where its divisor can't be 0 it isn't
-- at the ends of its range.
use Rattle.std.specs.Prelude.{◌≡◌, ℕ, false, pos, ◌≤ℤ◌}
use Rattle.std.proofs.Common.{refl}
use Rattle.fx_fraction.specs.Fraction.{whole}
use Rattle.fx_fraction.proofs.WholeNumbers.{int_le_trans}
use Rattle.fx_routines.specs.declared.operation.ScaledOp.{ScaledOp}
use Rattle.fx_routines.specs.declared.operation.ScaledOp.TheVariants.{Convert, Div}
use Rattle.mfx_scaled.specs.declared.binary_points.Points.{Points}
use Rattle.fx_core.specs.Arguments.{two}
use Rattle.part_rules.specs.declared.bounds.Bounds.{Bounds}
use Rattle.part_rules.specs.Entries.{IsSmall}
use Rattle.mfx_rules.specs.ScaledRules.{scaled_bounds, scaled_may_divide_by_zero, scaled_values}
use Rattle.mfx_rules.specs.ScaledCorners.{FormHasDivisorsAtEnds}
use Rattle.part_rules.proofs.Within.{corner_within}
use Rattle.part_rules.proofs.DivisorEnds.{ends_of}
use Rattle.part_rules.proofs.Products.{near_positive}
use Rattle.mfx_rules.proofs.ScaledSoundnessProof.{scaled_rules_are_sound}

pub form_bounds_of_two : (op : ScaledOp) (points : Points) (given : ℕ → Bounds) → scaled_bounds op points (two (given 0) (given 1)) ≡ scaled_bounds op points given
unfolding scaled_bounds scaled_values
form_bounds_of_two Convert points given = refl
form_bounds_of_two op points given = refl

pub form_divisor_of_two : (op : ScaledOp) (given : ℕ → Bounds) → scaled_may_divide_by_zero op (two (given 0) (given 1)) ≡ scaled_may_divide_by_zero op given
form_divisor_of_two Div given = refl
form_divisor_of_two op given = refl

pub form_divisors_at_ends : (op : ScaledOp) (x y : Bounds) → y.lo ≤ℤ y.hi → scaled_may_divide_by_zero op (two x y) ≡ false → FormHasDivisorsAtEnds op y
form_divisors_at_ends Div x y h e = ends_of y h e
form_divisors_at_ends op x y h e = (tt, tt)

-- the range isn't empty and the error isn't negative: the arguments' least values have their value within it
pub proper_form_bounds : (op : ScaledOp) (points : Points) (given : ℕ → Bounds) → scaled_may_divide_by_zero op given ≡ false → ((p : ℕ) → IsSmall (given p)) → ((scaled_bounds op points given).lo ≤ℤ (scaled_bounds op points given).hi) × (pos 0 ≤ℤ (scaled_bounds op points given).err)
proper_form_bounds op points given away small =
    let b = scaled_bounds op points given in
    let keeps = scaled_rules_are_sound op points given (λ p. (given p).lo) (λ p. whole (given p).lo) away (λ p _. corner_within (given p) (small p)) in
    (int_le_trans _ _ _ keeps.within.low keeps.within.high, near_positive _ b.err _ (record { near = keeps.within.near }))
