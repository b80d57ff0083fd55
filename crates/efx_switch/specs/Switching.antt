-- What the switches decide: truth values as numbers, the two ends of a hysteresis, and which changes are edges.
use Rattle.std.specs.Prelude.{ℤ, pos, ◌+ℤ◌, ◌-ℤ◌, ◌≤ℤ◌, Bool, not, ◌&&◌, if◌then◌else◌}
use Rattle.std.specs.Bool.{beq}
use Rattle.std.specs.Ordering.{int_eq}
use Rattle.fx_core.specs.declared.word_type.Ty.{Ty}
use Rattle.fx_core.specs.declared.word_type.Ty.TheVariants.{U32}
use Rattle.fx_core.specs.Types.{Holds}
use Rattle.fx_routines.specs.declared.control.HystOp.{HystOp}
use Rattle.fx_routines.specs.declared.control.HystOp.TheVariants.{LeftRight, CenterHalfDelta, LeftDelta, DeltaRight}
use Rattle.fx_routines.specs.declared.control.EdgeOp.{EdgeOp}
use Rattle.fx_routines.specs.declared.control.EdgeOp.TheVariants.{Rising, Falling, Both}

-- ---- truth values

-- x is a truth value: 0 or 1
abbrev pub IsTruth : ℤ → Type 0
IsTruth x = (pos 0 ≤ℤ x) × (x ≤ℤ pos 1)

-- whether that value is true
abbrev pub is_one : ℤ → Bool
is_one x = int_eq x (pos 1)

-- the number of a truth value
abbrev pub number_of : Bool → ℤ
number_of on = if on then pos 1 else pos 0

-- whether one of two truth values holds and the other doesn't
abbrev pub differ : Bool → Bool → Bool
differ a b = not (beq a b)

-- ---- the ends of a hysteresis, by what p and q are

-- p and q give the ends of a hysteresis over inputs of the type t: an end or a centre is a number of t, and a distance is 0 to
-- 4294967295
abbrev pub AreEnds : HystOp → Ty → ℤ → ℤ → Type 0
AreEnds LeftRight t left right = Holds t left × Holds t right × (left ≤ℤ right)
AreEnds CenterHalfDelta t centre half = Holds t centre × Holds U32 half
AreEnds LeftDelta t left delta = Holds t left × Holds U32 delta
AreEnds DeltaRight t delta right = Holds U32 delta × Holds t right

abbrev pub left_end : HystOp → ℤ → ℤ → ℤ
left_end LeftRight left right = left
left_end CenterHalfDelta centre half = centre -ℤ half
left_end LeftDelta left delta = left
left_end DeltaRight delta right = right -ℤ delta

abbrev pub right_end : HystOp → ℤ → ℤ → ℤ
right_end LeftRight left right = right
right_end CenterHalfDelta centre half = centre +ℤ half
right_end LeftDelta left delta = left +ℤ delta
right_end DeltaRight delta right = right

-- ---- edges

-- whether the change from the row before to this one is an edge
abbrev pub is_edge : EdgeOp → Bool → Bool → Bool
is_edge Rising before now = now && not before
is_edge Falling before now = not now && before
is_edge Both before now = differ now before
