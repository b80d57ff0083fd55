-- Worked values of the switches: each computes. The values of a block over a list of inputs, from what it keeps.
use Rattle.std.proofs.Common.{◌≡◌, ℤ, pos, negsuc, List, [], ◌∷◌, refl}
use Rattle.fx_core.specs.declared.word_type.Ty.TheVariants.{U8, S16}
use Rattle.fx_routines.specs.declared.control.HystOp.TheVariants.{LeftRight, CenterHalfDelta, LeftDelta, DeltaRight}
use Rattle.fx_routines.specs.declared.control.EdgeOp.TheVariants.{Rising, Falling, Both}
use Rattle.efx_switch.specs.States.{DebounceData, EdgeData, HystData, debounce_after, debounce_start, debounce_value, edge_after, edge_start, edge_value, hyst_after, hyst_start, hyst_value}

hyst_values : HystData → List ℤ → List ℤ
hyst_values h [] = []
hyst_values h (x ∷ xs) = hyst_value h x ∷ hyst_values (hyst_after h x) xs

debounce_values : DebounceData → List ℤ → List ℤ
debounce_values d [] = []
debounce_values d (x ∷ xs) = debounce_value d x ∷ debounce_values (debounce_after d x) xs

edge_values : EdgeData → List ℤ → List ℤ
edge_values e [] = []
edge_values e (x ∷ xs) = edge_value e x ∷ edge_values (edge_after e x) xs

-- two rows to rise and one to fall
debounced : debounce_values (debounce_start 2 1) (pos 1 ∷ pos 1 ∷ pos 0 ∷ pos 1 ∷ []) ≡ pos 0 ∷ pos 1 ∷ pos 0 ∷ pos 0 ∷ []
unfolding debounce_values
debounced = refl

-- the rows in which the input differs must follow each other
broken : debounce_values (debounce_start 2 1) (pos 1 ∷ pos 0 ∷ pos 1 ∷ pos 1 ∷ []) ≡ pos 0 ∷ pos 0 ∷ pos 0 ∷ pos 1 ∷ []
unfolding debounce_values
broken = refl

-- one row to rise and two to fall
slow_fall : debounce_values (debounce_start 1 2) (pos 1 ∷ pos 0 ∷ pos 0 ∷ pos 0 ∷ []) ≡ pos 1 ∷ pos 1 ∷ pos 0 ∷ pos 0 ∷ []
unfolding debounce_values
slow_fall = refl

-- at an end itself nothing changes
at_the_ends : hyst_values (hyst_start LeftRight S16 (negsuc 9) (pos 10)) (pos 10 ∷ pos 11 ∷ negsuc 9 ∷ negsuc 10 ∷ []) ≡ pos 0 ∷ pos 1 ∷ pos 1 ∷ pos 0 ∷ []
unfolding hyst_values
at_the_ends = refl

-- the ends 90 and 110, by their centre, by the left one and by the right one
by_centre : hyst_values (hyst_start CenterHalfDelta U8 (pos 100) (pos 10)) (pos 110 ∷ pos 111 ∷ pos 90 ∷ pos 89 ∷ []) ≡ pos 0 ∷ pos 1 ∷ pos 1 ∷ pos 0 ∷ []
unfolding hyst_values
by_centre = refl

by_left : hyst_values (hyst_start LeftDelta U8 (pos 90) (pos 20)) (pos 110 ∷ pos 111 ∷ pos 90 ∷ pos 89 ∷ []) ≡ pos 0 ∷ pos 1 ∷ pos 1 ∷ pos 0 ∷ []
unfolding hyst_values
by_left = refl

by_right : hyst_values (hyst_start DeltaRight U8 (pos 20) (pos 110)) (pos 110 ∷ pos 111 ∷ pos 90 ∷ pos 89 ∷ []) ≡ pos 0 ∷ pos 1 ∷ pos 1 ∷ pos 0 ∷ []
unfolding hyst_values
by_right = refl

-- the right end 300 is no u8, so it never switches on
outside : hyst_values (hyst_start LeftDelta U8 (pos 200) (pos 100)) (pos 255 ∷ pos 199 ∷ []) ≡ pos 0 ∷ pos 0 ∷ []
unfolding hyst_values
outside = refl

rising : edge_values (edge_start Rising) (pos 1 ∷ pos 1 ∷ pos 0 ∷ pos 1 ∷ []) ≡ pos 1 ∷ pos 0 ∷ pos 0 ∷ pos 1 ∷ []
unfolding edge_values
rising = refl

falling : edge_values (edge_start Falling) (pos 1 ∷ pos 1 ∷ pos 0 ∷ pos 1 ∷ []) ≡ pos 0 ∷ pos 0 ∷ pos 1 ∷ pos 0 ∷ []
unfolding edge_values
falling = refl

both : edge_values (edge_start Both) (pos 1 ∷ pos 1 ∷ pos 0 ∷ pos 1 ∷ []) ≡ pos 1 ∷ pos 0 ∷ pos 1 ∷ pos 1 ∷ []
unfolding edge_values
both = refl
