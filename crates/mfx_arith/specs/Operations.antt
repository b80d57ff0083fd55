-- The operations: which variants each takes, and which arguments it has.
use Rattle.std.specs.Prelude.{◌≡◌, ℕ, ℤ, Bool, true, false, List, [], ◌∷◌, length}
use Rattle.fx_core.specs.Types.{Holds}
use Rattle.fx_core.specs.declared.word_type.Ty.{Ty}
use Rattle.fx_core.specs.declared.word_type.Ty.TheVariants.{U8, S8, U16, S16, U32, S32}
use Rattle.fx_routines.specs.declared.operation.ArithOp.{ArithOp}
use Rattle.fx_routines.specs.declared.operation.ArithOp.TheVariants.{Abs, Mod, MulDiv, Limit, Min, Max, RateLimiter}
use Rattle.fx_routines.specs.declared.operation.Variant.{Variant}
pub use Rattle.fx_routines.specs.Variants.{HasOneWidth, types}

-- both inputs have one type
abbrev pub HasOneInput : Variant → Type 0
HasOneInput v = v.x ≡ v.y

-- all three types are one
abbrev pub HasOneType : Variant → Type 0
HasOneType v = (v.x ≡ v.y) × (v.y ≡ v.o)

-- the operation takes the variant: there is a routine of the operation at these types
abbrev pub Takes : ArithOp → Variant → Type 0
Takes Abs v = HasOneInput v
Takes Limit v = HasOneType v
Takes Min v = HasOneType v
Takes Max v = HasOneType v
Takes RateLimiter v = HasOneType v
Takes other v = HasOneWidth v

-- the unsigned type of a type's width
abbrev pub unsigned_of : Ty → Ty
unsigned_of U8 = U8
unsigned_of S8 = U8
unsigned_of U16 = U16
unsigned_of S16 = U16
unsigned_of U32 = U32
unsigned_of S32 = U32

-- the types of a routine's arguments, in their order
abbrev pub argument_types : ArithOp → Variant → List Ty
argument_types MulDiv v = v.x ∷ v.y ∷ v.y ∷ []
argument_types Abs v = v.x ∷ []
argument_types Limit v = v.o ∷ v.o ∷ v.o ∷ []
argument_types Min v = v.o ∷ v.o ∷ []
argument_types Max v = v.o ∷ v.o ∷ []
argument_types RateLimiter v = v.o ∷ v.o ∷ unsigned_of v.o ∷ []
argument_types other v = v.x ∷ v.y ∷ []

-- how many arguments an operation has, which is the same at all types
abbrev pub arith_arity : ArithOp → ℕ
arith_arity op = length (argument_types op (types U8 U8 U8))

-- an operation is smooth: it takes no remainder
abbrev pub is_smooth_operation : ArithOp → Bool
is_smooth_operation Mod = false
is_smooth_operation other = true

-- there is a number of each type, in their order; numbers past the types are not looked at
abbrev pub AreHeld : List Ty → List ℤ → Type 0
AreHeld [] numbers = Unit {0}
AreHeld (t ∷ types) [] = ⊥
AreHeld (t ∷ types) (n ∷ numbers) = Holds t n × AreHeld types numbers

-- each argument that the routine has is a number of its type; the numbers that it doesn't have are not looked at
abbrev pub HasArguments : ArithOp → Variant → ℤ → ℤ → ℤ → Type 0
HasArguments op v x y z = AreHeld (argument_types op v) (x ∷ y ∷ z ∷ [])
