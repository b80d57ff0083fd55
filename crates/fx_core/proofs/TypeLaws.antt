-- The laws of saturation.
use Rattle.std.proofs.Common.{◌≡◌, ◌≤◌, ℤ, ◌-ℤ◌, ◌≤ℤ◌, pos, negsuc, true, arith}
use Rattle.std.specs.Prelude.{unsigned_abs}
use Rattle.std.proofs.lemmas.Int.{ints}
use borrow.Author.Differences.{at_most_in}
use Rattle.fx_core.specs.declared.word_type.Ty.{Ty}
use Rattle.fx_core.specs.declared.word_type.Ty.TheVariants.{U8, S8, U16, S16, U32, S32}
use Rattle.fx_core.specs.Types.{Holds, holds, least_of, greatest_of, saturated, saturated_to}

-- a number between the ends stays, and what is made of any number lies between them
pub saturated_to-between : (low high v : ℤ) → low ≤ℤ v → v ≤ℤ high → saturated_to low high v ≡ v
saturated_to-between low high v p q = grind (arith, ints)

pub saturated_to_above : (low high v : ℤ) → low ≤ℤ high → low ≤ℤ saturated_to low high v
saturated_to_above low high v p = grind (arith, ints)

pub saturated_to_below : (low high v : ℤ) → low ≤ℤ high → saturated_to low high v ≤ℤ high
saturated_to_below low high v p = grind (arith, ints)

-- it keeps the order, and brings no two numbers further apart
pub saturated_to_monotone : (low high v w : ℤ) → low ≤ℤ high → v ≤ℤ w → saturated_to low high v ≤ℤ saturated_to low high w
saturated_to_monotone low high v w p q = grind (arith, ints)

pub saturated_to_nearer : (low high v w : ℤ) → low ≤ℤ high → unsigned_abs (saturated_to low high v -ℤ saturated_to low high w) ≤ unsigned_abs (v -ℤ w)
saturated_to_nearer low high v w p = grind (arith, ints)

-- each type has a number
pub least-greatest : (t : Ty) → least_of t ≤ℤ greatest_of t
least-greatest U8 = record { le = tt }
least-greatest S8 = record { le = tt }
least-greatest U16 = record { le = tt }
least-greatest S16 = record { le = tt }
least-greatest U32 = record { le = tt }
least-greatest S32 = record { le = tt }

-- a number of the type stays
pub saturated-held : (t : Ty) (v : ℤ) → Holds t v → saturated t v ≡ v
saturated-held t v (p, q) = saturated_to-between _ _ v p q

-- what is made of any number is a number of the type
pub saturated_held : (t : Ty) (v : ℤ) → Holds t (saturated t v)
saturated_held t v = (saturated_to_above _ _ v (least-greatest t), saturated_to_below _ _ v (least-greatest t))

-- saturation keeps the order, and brings no two numbers further apart
pub saturated_monotone : (t : Ty) (v w : ℤ) → v ≤ℤ w → saturated t v ≤ℤ saturated t w
saturated_monotone t v w h = saturated_to_monotone _ _ v w (least-greatest t) h

pub saturated_nearer : (t : Ty) (v w : ℤ) → unsigned_abs (saturated t v -ℤ saturated t w) ≤ unsigned_abs (v -ℤ w)
saturated_nearer t v w = saturated_to_nearer _ _ v w (least-greatest t)

-- the test says whether the type has the number
pub Holds-holds : (t : Ty) (v : ℤ) → holds t v ≡ true → Holds t v
Holds-holds t v e = grind (arith, ints)

pub holds-Holds : (t : Ty) (v : ℤ) → Holds t v → holds t v ≡ true
holds-Holds t v h = grind (arith, ints)

-- no type has a number below the least of 32 bits, nor above the greatest
pub held_within : (t : Ty) (v : ℤ) → Holds t v → (negsuc 2147483647 ≤ℤ v) × (v ≤ℤ pos 4294967295)
held_within U8 v (p, q) = (at_most_in _ _ (omega (arith, ints, p)), at_most_in _ _ (omega (arith, ints, q)))
held_within S8 v (p, q) = (at_most_in _ _ (omega (arith, ints, p)), at_most_in _ _ (omega (arith, ints, q)))
held_within U16 v (p, q) = (at_most_in _ _ (omega (arith, ints, p)), at_most_in _ _ (omega (arith, ints, q)))
held_within S16 v (p, q) = (at_most_in _ _ (omega (arith, ints, p)), at_most_in _ _ (omega (arith, ints, q)))
held_within U32 v (p, q) = (at_most_in _ _ (omega (arith, ints, p)), at_most_in _ _ (omega (arith, ints, q)))
held_within S32 v (p, q) = (at_most_in _ _ (omega (arith, ints, p)), at_most_in _ _ (omega (arith, ints, q)))
