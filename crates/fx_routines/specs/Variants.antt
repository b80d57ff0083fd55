-- The types of a routine.
use Rattle.std.specs.Prelude.{◌≡◌, ◌==◌, Bool, true, false, not, nat_le}
use denote.Enum.Bare.{sameb}
use Rattle.fx_core.specs.Types.{width_of}
use Rattle.fx_core.specs.contracts.word_type.Ty.{the_type}
use Rattle.fx_core.specs.declared.word_type.Ty.{Ty}
use Rattle.fx_core.specs.declared.word_type.Ty.TheVariants.{S8, S16, S32}
use Rattle.fx_routines.specs.declared.operation.Types.{Types}
use Rattle.fx_routines.specs.declared.shape.Class.{Class}
use Rattle.fx_routines.specs.declared.shape.Class.TheVariants.{Any, Narrow, Unsigned, Signed, SameWidth}

-- the types of a routine, in the order of its name
abbrev pub types : Ty → Ty → Ty → Types
types x y o = record { x = x; y = y; o = o }

-- the two inputs have one width
abbrev pub HasOneWidth : Types → Type 0
HasOneWidth v = width_of v.x ≡ width_of v.y

-- both are one type
abbrev pub same_type : Ty → Ty → Bool
same_type = sameb the_type

-- the type has negative numbers
abbrev pub is_signed : Ty → Bool
is_signed S8 = true
is_signed S16 = true
is_signed S32 = true
is_signed other = false

-- a type t of a routine whose first input has the type x belongs to the class
abbrev pub belongs : Class → Ty → Ty → Bool
belongs Any x t = true
belongs Narrow x t = nat_le (width_of t) 16
belongs Unsigned x t = not (is_signed t)
belongs Signed x t = is_signed t
belongs SameWidth x t = width_of t == width_of x
