-- The rules of Mfx arithmetic and of the forms with binary points as records over the numbers of their arguments, from 0;
-- what their values mean; and that they are kept.
use Rattle.std.specs.Prelude.{ℕ, not, ◌||◌, List}
use Rattle.fx_core.specs.Values.{Divides as IsNoQuotientByZero}
use Rattle.fx_routines.specs.declared.operation.ArithOp.{ArithOp}
use Rattle.fx_routines.specs.declared.operation.ScaledOp.{ScaledOp}
use Rattle.mfx_arith.specs.Formulas.{arith_formula, quotient_of as arith_quotient}
use Rattle.mfx_arith.specs.Operations.{arith_arity, is_smooth_operation}
use Rattle.mfx_scaled.specs.declared.binary_points.Points.{Points}
use Rattle.mfx_scaled.specs.Formulas.{scaled_formula, quotient_of as scaled_quotient}
use Rattle.mfx_scaled.specs.Operations.{scaled_arity}
use Rattle.part_rules.specs.declared.bounds.Bounds.{Bounds}
use Rattle.part_rules.specs.PartRules.{PartRule, PartMeaning, KeepsRule, arguments_read, bounds_at}
use Rattle.mfx_rules.specs.ArithRules.{arith_bounds, arith_may_divide_by_zero, arith_rounded}
use Rattle.mfx_rules.specs.ArithSoundness.{HasUnsignedStep}
use Rattle.mfx_rules.specs.ScaledRules.{scaled_bounds, scaled_may_divide_by_zero, scaled_rounded}

-- the rule of an operation: it gives nothing where the operation isn't smooth, or where its divisor may be 0
abbrev pub arith_rule : ArithOp → ℕ → PartRule ℕ
arith_rule op shift = record {
  reads = arguments_read 0 (arith_arity op);
  fails = λ given. not (is_smooth_operation op) || arith_may_divide_by_zero op (bounds_at given);
  bounds = λ given. arith_bounds op shift (bounds_at given);
}

-- what an operation's value means
abbrev pub arith_meaning : ArithOp → ℕ → PartMeaning
arith_meaning op shift = record {
  value = arith_rounded op shift;
  exactly = arith_formula op shift;
  Divides = λ e. IsNoQuotientByZero (arith_quotient op shift e);
}

-- bounds of an operation's arguments fit where a step isn't below 0
abbrev pub FitOperation : ArithOp → List Bounds → Type 0
FitOperation op given = HasUnsignedStep op (bounds_at given)

-- the rule of a form: it gives nothing where its divisor may be 0
abbrev pub scaled_rule : ScaledOp → Points → PartRule ℕ
scaled_rule op points = record {
  reads = arguments_read 0 (scaled_arity op);
  fails = λ given. scaled_may_divide_by_zero op (bounds_at given);
  bounds = λ given. scaled_bounds op points (bounds_at given);
}

-- what a form's value means
abbrev pub scaled_meaning : ScaledOp → Points → PartMeaning
scaled_meaning op points = record {
  value = scaled_rounded op points;
  exactly = scaled_formula op points;
  Divides = λ e. IsNoQuotientByZero (scaled_quotient op points e);
}

-- all bounds of a form's arguments fit
abbrev pub FitForm : List Bounds → Type 0
FitForm given = Unit {0}

-- each operation of arithmetic keeps its rule
abbrev pub OperationsKeepRules : Type 0
OperationsKeepRules = (op : ArithOp) (shift : ℕ) → KeepsRule (arith_rule op shift) (arith_meaning op shift) (FitOperation op)

-- each form with binary points keeps its rule
abbrev pub FormsKeepRules : Type 0
FormsKeepRules = (op : ScaledOp) (points : Points) → KeepsRule (scaled_rule op points) (scaled_meaning op points) FitForm
