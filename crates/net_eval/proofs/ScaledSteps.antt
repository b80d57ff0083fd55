-- The steps of the forms with binary points: what they are given, and the values that they give.
use Rattle.std.proofs.Common.{◌≡◌, ℕ, ◌<◌, List, ◌∷◌, length, ℤ, refl, sym, ap, ap₂, ◌∙◌, arith}
use Rattle.std.specs.Prelude.{IfSome, slice_get}
use Rattle.fx_fraction.specs.Fraction.{Fraction, whole}
use Rattle.fx_core.specs.declared.word_type.Ty.{Ty}
use Rattle.fx_core.specs.declared.quotient.Mode.TheVariants.{Zero}
use Rattle.fx_core.specs.Types.{Holds, least_of, greatest_of}
use Rattle.fx_core.specs.Arguments.{two}
use Rattle.fx_core.specs.Values.{value_between, value_in}
use Rattle.fx_core.proofs.TypeLaws.{saturated_held}
use Rattle.fx_routines.specs.declared.operation.Variant.{Variant}
use Rattle.fx_routines.specs.declared.operation.ScaledOp.{ScaledOp}
use Rattle.fx_routines.specs.declared.operation.ScaledOp.TheVariants.{Convert, Div}
use Rattle.mfx_scaled.specs.declared.binary_points.Points.{Points}
use Rattle.mfx_scaled.specs.Operations.{argument_types, HasArguments}
use Rattle.mfx_scaled.specs.Formulas.{scaled_formula, quotient_of}
use Rattle.mfx_scaled.specs.Calls.{scaled_value}
use Rattle.net_model.specs.declared.wires.WireNo.{WireNo}
use Rattle.net_model.specs.declared.wires.Kind.{Kind}
use Rattle.net_model.specs.declared.wires.Kind.TheVariants.{Num}
use Rattle.net_model.specs.declared.wires.Block.{Block}
use Rattle.net_model.specs.declared.wires.Block.TheVariants.{Scaled}
use Rattle.net_model.specs.declared.wires.Item.TheVariants.{Block as OfBlock}
use Rattle.net_model.specs.Wires.{NamedAxis, NetData, wire_at, argument_of, kind_least, kind_greatest}
use Rattle.net_model.specs.Validity.{IsValid}
use Rattle.net_model.proofs.ValidityFacts.{scaled-valid, number_kind, point_of-valid}
use Rattle.net_meaning.specs.Cells.{cell_at}
use Rattle.net_meaning.specs.Blocks.{machine, machine_cell, formula, state_formula, quotient_of as block_quotient, points_of}
use Rattle.net_meaning.specs.Runs.{equation_of}
use Rattle.net_eval.proofs.FaithfulSteps.{IsFaithful, given_held, held_in_kind, value_at-values_in}

-- ---- what is given

-- the arguments of a form are wires
pub scaled_there : (net : NetData) (i : ℕ) (b : Block) (op : ScaledOp) (v : Variant) (x y : WireNo) → IsValid net → i < length net.wires → (wire_at net.wires i).item ≡ OfBlock b → b ≡ Scaled op v x y → (x.0 < length net.wires) × (y.0 < length net.wires)
scaled_there net i b op v x y valid lt e h =
    let g = scaled-valid net i op v x y valid lt (e ∙ ap OfBlock h) in
    (omega (arith, g.earlier_x), omega (arith, g.earlier_y))

-- numbers of a form's types, one by one
arguments_held : (op : ScaledOp) (v : Variant) (x y : ℤ) → IfSome (slice_get (argument_types op v) 0) (λ t. Holds t x) → IfSome (slice_get (argument_types op v) 1) (λ t. Holds t y) → HasArguments op v x y
arguments_held Convert v x y h k = (h, tt)
arguments_held other v x y h k = (h, (k, tt))

-- ---- the value

-- a formula reads no more than two arguments
formula_reads : (op : ScaledOp) (points : Points) (m : ℕ → ℤ) → scaled_formula op points (two (whole (m 0)) (whole (m 1))) ≡ scaled_formula op points (λ p. whole (m p))
formula_reads Convert points m = refl
formula_reads other points m = refl

quotient_reads : (op : ScaledOp) (points : Points) (m : ℕ → ℤ) → quotient_of op points (two (whole (m 0)) (whole (m 1))) ≡ quotient_of op points (λ p. whole (m p))
quotient_reads Div points m = refl
quotient_reads other points m = refl

-- the value of a form between the ends of a kind, from its arguments by number
abbrev scaled_between : List NamedAxis → ScaledOp → Kind → (ℕ → ℤ) → Points → ℤ
scaled_between axes op kind m points =
    let given : ℕ → Fraction = λ p. whole (m p) in
    value_between Zero (kind_least axes kind) (kind_greatest axes kind) (quotient_of op points given) (scaled_formula op points given)

-- a form's value on a wire of its output's type
scaled_value-is : (axes : List NamedAxis) (op : ScaledOp) (t : Ty) (kind : Kind) (point : ℕ) (m : ℕ → ℤ) (points : Points) → kind ≡ Num t point → scaled_value op t (m 0) (m 1) points ≡ scaled_between axes op kind m points
unfolding scaled_value value_in
scaled_value-is axes op t kind point m points e =
    ap₂ (value_between Zero (least_of t) (greatest_of t)) (quotient_reads op points m) (formula_reads op points m)
    ∙ ap (λ k. scaled_between axes op k m points) (sym e)

-- ---- the step

pub scaled_faithful : (net : NetData) (i : ℕ) (op : ScaledOp) (v : Variant) (x y : WireNo) → IsValid net → i < length net.wires → (wire_at net.wires i).item ≡ OfBlock (Scaled op v x y) → IsFaithful net i (OfBlock (Scaled op v x y))
unfolding scaled_value value_in equation_of machine machine_cell formula state_formula block_quotient
scaled_faithful net i op v x y valid lt e =
    let g = scaled-valid net i op v x y valid lt e in
    let kind = number_kind v.o (wire_at net.wires i).kind g.output in
    let types = argument_types op v in
    let points = points_of net (wire_at net.wires i).kind (Scaled op v x y) in
    record {
      ready = λ state inputs values one_each len held may. (
        omega (arith, len, g.earlier_x),
        omega (arith, len, g.earlier_y),
        arguments_held op v _ _ (given_held net values i x (slice_get types 0) x held g.first) (given_held net values i x (slice_get types 1) y held g.second),
        point_of-valid net x.0 valid (omega (arith, lt, g.earlier_x)),
        point_of-valid net y.0 valid (omega (arith, lt, g.earlier_y)),
        point_of-valid net i valid lt,
      );
      held = λ state inputs values typed may. held_in_kind net.axes v.o _ kind.0 _ kind.1 (saturated_held v.o _);
      right = λ state inputs rows past cells kept.
          ap₂ (λ a b. scaled_value op v.o a b points) (value_at-values_in cells x.0) (value_at-values_in cells y.0)
          ∙ scaled_value-is net.axes op v.o (wire_at net.wires i).kind kind.0 (λ p. (cell_at machine (cells ∷ past) 0 (argument_of (Scaled op v x y) p)).value) points kind.1;
    }
