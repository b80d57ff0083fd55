-- A rule of arithmetic reads three arguments at most, and the bounds that it gives are proper.
use Rattle.std.specs.Prelude.{◌≡◌, ℕ, true, false, pos, ◌≤ℤ◌}
use Rattle.std.proofs.Common.{refl}
use Rattle.fx_fraction.specs.Fraction.{whole}
use Rattle.fx_fraction.proofs.WholeNumbers.{int_le_trans}
use Rattle.fx_routines.specs.declared.operation.ArithOp.{ArithOp}
use Rattle.fx_routines.specs.declared.operation.ArithOp.TheVariants.{Add, Sub, AbsDiff, Abs, Mul, Div, Mod, MulDiv, MulShRight, DivShLeft, Limit, Min, Max, RateLimiter}
use Rattle.fx_core.specs.Arguments.{three}
use Rattle.mfx_arith.specs.Operations.{is_smooth_operation}
use Rattle.part_rules.specs.declared.bounds.Bounds.{Bounds}
use Rattle.part_rules.specs.Entries.{IsSmall}
use Rattle.mfx_rules.specs.ArithSoundness.{HasUnsignedStep}
use Rattle.part_rules.proofs.Products.{near_positive}
use Rattle.mfx_rules.proofs.ArithSoundnessProof.{arith_rules_are_sound}
use Rattle.part_rules.proofs.Within.{corner_within}
use Rattle.mfx_rules.specs.ArithRules.{arith_bounds, arith_may_divide_by_zero, arith_values}

pub bounds_of_three : (op : ArithOp) (shift : ℕ) (given : ℕ → Bounds) → arith_bounds op shift (three (given 0) (given 1) (given 2)) ≡ arith_bounds op shift given
unfolding arith_bounds arith_values
bounds_of_three Add shift given = refl
bounds_of_three Sub shift given = refl
bounds_of_three AbsDiff shift given = refl
bounds_of_three Abs shift given = refl
bounds_of_three Mul shift given = refl
bounds_of_three Div shift given = refl
bounds_of_three Mod shift given = refl
bounds_of_three MulDiv shift given = refl
bounds_of_three MulShRight shift given = refl
bounds_of_three DivShLeft shift given = refl
bounds_of_three Limit shift given = refl
bounds_of_three Min shift given = refl
bounds_of_three Max shift given = refl
bounds_of_three RateLimiter shift given = refl

pub divisor_of_three : (op : ArithOp) (given : ℕ → Bounds) → arith_may_divide_by_zero op (three (given 0) (given 1) (given 2)) ≡ arith_may_divide_by_zero op given
divisor_of_three Div given = refl
divisor_of_three DivShLeft given = refl
divisor_of_three MulDiv given = refl
divisor_of_three other given = refl

-- ---- its range isn't empty and its error isn't negative: the arguments' least values have their value within it

pub proper_bounds : (op : ArithOp) (shift : ℕ) (given : ℕ → Bounds) → is_smooth_operation op ≡ true → arith_may_divide_by_zero op given ≡ false → HasUnsignedStep op given → ((p : ℕ) → IsSmall (given p)) → ((arith_bounds op shift given).lo ≤ℤ (arith_bounds op shift given).hi) × (pos 0 ≤ℤ (arith_bounds op shift given).err)
proper_bounds op shift given ruled away step small =
    let b = arith_bounds op shift given in
    let keeps = arith_rules_are_sound op ruled shift given (λ p. (given p).lo) (λ p. whole (given p).lo) away step (λ p _. corner_within (given p) (small p)) in
    (int_le_trans _ _ _ keeps.within.low keeps.within.high, near_positive _ b.err _ (record { near = keeps.within.near }))
