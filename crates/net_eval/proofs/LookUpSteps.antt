-- The steps of the search and of curves: what they are given, and the values that they give.
use Rattle.std.proofs.Common.{◌≡◌, ℕ, ◌-◌, ◌*◌, ◌<◌, List, length, ℤ, pos, ◌≤ℤ◌, refl, sym, ap, ◌∙◌, subst, arith}
use Rattle.fx_fraction.specs.Fraction.{Fraction, whole}
use Rattle.fx_core.specs.declared.quotient.Mode.TheVariants.{Floor}
use Rattle.fx_core.specs.declared.word_type.Ty.{Ty}
use Rattle.fx_core.specs.Types.{Holds, saturated_to}
use Rattle.fx_core.specs.Values.{rounded_fraction}
use Rattle.fx_core.proofs.RoundingLaws.{rounded_by_one}
use Rattle.fx_core.proofs.TypeLaws.{saturated_to-between}
use Rattle.fx_routines.specs.declared.interpolation.CurveOp.{CurveOp}
use Rattle.fx_routines.specs.declared.interpolation.CurveOp.TheVariants.{Ipo, LkUp}
use Rattle.ifx_search.specs.Axes.{IsAxis}
use Rattle.ifx_search.specs.Positions.{position, position_value}
use Rattle.ifx_curves.specs.Curves.{curve_value}
use Rattle.net_model.specs.declared.wires.WireNo.{WireNo}
use Rattle.net_model.specs.declared.wires.Kind.{Kind}
use Rattle.net_model.specs.declared.wires.Kind.TheVariants.{Position}
use Rattle.net_model.specs.declared.wires.Block.TheVariants.{Search, Curve, IntCurve}
use Rattle.net_model.specs.declared.wires.Item.TheVariants.{Block as OfBlock}
use Rattle.net_model.specs.Wires.{NamedAxis, NetData, axis_at, table_at, wire_at, kind_least, kind_greatest}
use Rattle.net_model.specs.Validity.{IsValid}
use Rattle.net_model.proofs.ValidityFacts.{IsInKind, number_kind}
use Rattle.net_model.proofs.LookUpFacts.{IsPositionOver, search-valid, curve-valid, int_curve-valid}
use Rattle.net_meaning.specs.Blocks.{machine, machine_cell, curve_formula, formula, state_formula, quotient_of as block_quotient}
use Rattle.net_meaning.specs.Runs.{equation_of}
use Rattle.net_eval.specs.Steps.{value_at}
use Rattle.net_eval.proofs.FaithfulSteps.{IsFaithful, held_in_kind, kind_held, value_at-values_in}
use Rattle.net_eval.proofs.LookUpValues.{position_held, curve_held}

-- what lies in a kind isn't saturated
kept_in_kind : (axes : List NamedAxis) (kind : Kind) (v : ℤ) → IsInKind axes kind v → v ≡ saturated_to (kind_least axes kind) (kind_greatest axes kind) v
kept_in_kind axes kind v h = sym (saturated_to-between (kind_least axes kind) (kind_greatest axes kind) v h.low h.high)

-- ---- the search

position_in_kind : (axes : List NamedAxis) (kind : Kind) (axis : ℕ) (ty : Ty) (x : ℤ) → kind ≡ Position axis → IsAxis ty (axis_at axes axis).points → IsInKind axes kind (position_value (axis_at axes axis).points x)
position_in_kind axes kind axis ty x e points =
    let h = position_held ty (axis_at axes axis).points x points in
    subst (λ k. IsInKind axes k (position_value (axis_at axes axis).points x)) (sym e) (record { low = h.0; high = h.1 })

pub search_faithful : (net : NetData) (i : ℕ) (ty : Ty) (x : WireNo) (axis : ℕ) → IsValid net → i < length net.wires → (wire_at net.wires i).item ≡ OfBlock (Search ty x axis) → IsFaithful net i (OfBlock (Search ty x axis))
unfolding equation_of machine machine_cell formula state_formula block_quotient
search_faithful net i ty x axis valid lt e =
    let g = search-valid net i ty x axis valid lt e in
    let kind = (wire_at net.wires i).kind in
    let input = number_kind ty (wire_at net.wires x.0).kind g.input in
    record {
      ready = λ state inputs values one_each len held may. (
        omega (arith, len, g.earlier),
        g.there,
        subst (λ t. Holds t (value_at values x.0)) (sym g.type) (kind_held net.axes ty _ input.0 _ input.1 (held x.0 g.earlier)),
      );
      held = λ state inputs values typed may. position_in_kind net.axes kind axis ty _ g.output g.points;
      right = λ state inputs rows past cells kept.
          ap (position_value (axis_at net.axes axis).points) (value_at-values_in cells x.0)
          ∙ kept_in_kind net.axes kind _ (position_in_kind net.axes kind axis ty _ g.output g.points);
    }

-- ---- curves

-- a position over as many points lies between the first and the last
position_given : (axes : List NamedAxis) (n : ℕ) (kind : Kind) (v : ℤ) → IsPositionOver axes n kind → IsInKind axes kind v → (pos 0 ≤ℤ v) × (v ≤ℤ pos (65536 * (n - 1)))
position_given axes n kind v over h =
    let k : IsInKind axes (Position over.axis) v = subst (λ k. IsInKind axes k v) over.same h in
    (k.low, subst (λ m. v ≤ℤ pos (65536 * (m - 1))) over.long k.high)

-- what a routine gives of a curve is its formula, rounded
curve_rounded : (op : CurveOp) (values : List ℤ) (t : Fraction) → curve_value op values t ≡ rounded_fraction Floor (curve_formula op values t)
unfolding curve_value whole
curve_rounded Ipo values t = refl
curve_rounded LkUp values t = sym (rounded_by_one Floor _)

-- on a wire that holds it
curve_kept : (axes : List NamedAxis) (kind : Kind) (op : CurveOp) (values : List ℤ) (t : Fraction) → IsInKind axes kind (curve_value op values t) → curve_value op values t ≡ saturated_to (kind_least axes kind) (kind_greatest axes kind) (rounded_fraction Floor (curve_formula op values t))
curve_kept axes kind op values t h =
    kept_in_kind axes kind (curve_value op values t) h
    ∙ ap (saturated_to (kind_least axes kind) (kind_greatest axes kind)) (curve_rounded op values t)

pub curve_faithful : (net : NetData) (i : ℕ) (op : CurveOp) (dp : WireNo) (table : ℕ) → IsValid net → i < length net.wires → (wire_at net.wires i).item ≡ OfBlock (Curve op dp table) → IsFaithful net i (OfBlock (Curve op dp table))
unfolding equation_of machine machine_cell formula state_formula block_quotient
curve_faithful net i op dp table valid lt e =
    let g = curve-valid net i op dp table valid lt e in
    let ty = (table_at net.tables table).ty in
    let heights = (table_at net.tables table).values in
    let kind = (wire_at net.wires i).kind in
    let output = number_kind ty kind g.output in
    let in_kind : (t : Fraction) → IsInKind net.axes kind (curve_value op heights t) =
    λ t. held_in_kind net.axes ty kind output.0 _ output.1 (curve_held op ty heights t g.values) in
    record {
      ready = λ state inputs values one_each len held may.
          let inside = position_given net.axes (length heights) _ (value_at values dp.0) g.over (held dp.0 g.earlier) in
          (omega (arith, len, g.earlier), g.there, inside.0, inside.1);
      held = λ state inputs values typed may. in_kind _;
      right = λ state inputs rows past cells kept.
          ap (λ v. curve_value op heights (whole v)) (value_at-values_in cells dp.0)
          ∙ curve_kept net.axes kind op heights _ (in_kind _);
    }

-- ---- curves over an axis

pub int_curve_faithful : (net : NetData) (i : ℕ) (op : CurveOp) (x : WireNo) (axis table : ℕ) → IsValid net → i < length net.wires → (wire_at net.wires i).item ≡ OfBlock (IntCurve op x axis table) → IsFaithful net i (OfBlock (IntCurve op x axis table))
unfolding equation_of machine machine_cell formula state_formula block_quotient
int_curve_faithful net i op x axis table valid lt e =
    let g = int_curve-valid net i op x axis table valid lt e in
    let xty = (axis_at net.axes axis).ty in
    let ty = (table_at net.tables table).ty in
    let points = (axis_at net.axes axis).points in
    let heights = (table_at net.tables table).values in
    let kind = (wire_at net.wires i).kind in
    let input = number_kind xty (wire_at net.wires x.0).kind g.input in
    let output = number_kind ty kind g.output in
    let in_kind : (t : Fraction) → IsInKind net.axes kind (curve_value op heights t) =
    λ t. held_in_kind net.axes ty kind output.0 _ output.1 (curve_held op ty heights t g.values) in
    record {
      ready = λ state inputs values one_each len held may. (
        omega (arith, len, g.earlier),
        g.axis_there,
        g.table_there,
        g.long,
        kind_held net.axes xty _ input.0 _ input.1 (held x.0 g.earlier),
      );
      held = λ state inputs values typed may. in_kind _;
      right = λ state inputs rows past cells kept.
          ap (λ v. curve_value op heights (position points (whole v))) (value_at-values_in cells x.0)
          ∙ curve_kept net.axes kind op heights _ (in_kind _);
    }
