-- The points of an axis: those in equal steps, and how large any is.
use Rattle.std.specs.Prelude.{◌≡◌, ℕ, ◌<◌, ◌≤◌, ℤ, pos, ◌+ℤ◌, ◌*ℤ◌, unsigned_abs, List, length}
use Rattle.std.proofs.Common.{arith}
use Rattle.std.proofs.lemmas.Int.{ints}
use Rattle.std.proofs.lemmas.List.FromFn.{get_or-map-range_with_len, length-map-range_with_len}
use Rattle.fx_core.specs.declared.word_type.Ty.{Ty}
use Rattle.fx_core.specs.declared.word_type.Ty.TheVariants.{U8, S8, U16, S16, U32, S32}
use Rattle.fx_core.specs.Types.{Holds, width_of}
use Rattle.ifx_search.specs.Axes.{IsAxis, point_at, stepped_points}

pub length-stepped_points : (offset step : ℤ) (count : ℕ) → length (stepped_points offset step count) ≡ count
unfolding stepped_points
length-stepped_points offset step count = length-map-range_with_len (λ i. offset +ℤ pos i *ℤ step) 0 count

pub ruleset stepped_lengths = length-stepped_points

pub point_at-stepped : (offset step : ℤ) (count i : ℕ) → i < count → point_at (stepped_points offset step count) i ≡ offset +ℤ pos i *ℤ step
unfolding stepped_points
point_at-stepped offset step count i h = get_or-map-range_with_len (λ i. offset +ℤ pos i *ℤ step) 0 count i i (pos 0) h (omega arith)

-- a number of a type of at most 16 bits is below 2^16 in size
pub narrow_size : (ty : Ty) (v : ℤ) → width_of ty ≤ 16 → Holds ty v → unsigned_abs v < 65536
narrow_size U8 v h (p, q) = omega (arith, ints, p, q)
narrow_size S8 v h (p, q) = omega (arith, ints, p, q)
narrow_size U16 v h (p, q) = omega (arith, ints, p, q)
narrow_size S16 v h (p, q) = omega (arith, ints, p, q)
narrow_size U32 v h (p, q) = absurd (omega (arith, h))
narrow_size S32 v h (p, q) = absurd (omega (arith, h))

pub point_size : (ty : Ty) (points : List ℤ) (i : ℕ) → IsAxis ty points → i < length points → unsigned_abs (point_at points i) < 65536
point_size ty points i axis h = narrow_size ty _ axis.narrow (axis.held i h)
