-- The forms with binary points: which arguments each has.
use Rattle.std.specs.Prelude.{ℕ, ℤ, List, [], ◌∷◌, length}
use Rattle.fx_core.specs.declared.word_type.Ty.{Ty}
use Rattle.fx_core.specs.declared.word_type.Ty.TheVariants.{U8}
use Rattle.fx_routines.specs.declared.operation.Variant.{Variant}
use Rattle.mfx_arith.specs.Operations.{AreHeld, types}
use Rattle.fx_routines.specs.declared.operation.ScaledOp.{ScaledOp}
use Rattle.fx_routines.specs.declared.operation.ScaledOp.TheVariants.{Convert}

-- the types of a form's arguments, in their order
abbrev pub argument_types : ScaledOp → Variant → List Ty
argument_types Convert v = v.x ∷ []
argument_types other v = v.x ∷ v.y ∷ []

-- how many arguments a form has, which is the same at all types
abbrev pub scaled_arity : ScaledOp → ℕ
scaled_arity op = length (argument_types op (types U8 U8 U8))

-- each argument that the form has is a number of its type; a number that it doesn't have is not looked at
abbrev pub HasArguments : ScaledOp → Variant → ℤ → ℤ → Type 0
HasArguments op v x y = AreHeld (argument_types op v) (x ∷ y ∷ [])
