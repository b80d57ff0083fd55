-- Worked networks by the definitions. The first: `b` at the binary point 4 is converted to the point 0 and added to `a`. Its
-- certificate is accepted; with a smaller error of the conversion, or a smaller range of the sum, the part fails.
use Rattle.std.specs.Prelude.{◌≡◌, ℕ, ℤ, List, [], ◌∷◌, pos, negsuc, Some, None, refl, codes}
use Rattle.fx_core.specs.Rounding.{rounded, least_quotient_above}
use Rattle.fx_fraction.specs.Fraction.{whole, over, plus, minus, times, quotient, divided}
use Rattle.fx_core.specs.declared.word_type.Ty.TheVariants.{S16, S32}
use Rattle.fx_routines.specs.declared.operation.ArithOp.TheVariants.{Add, Mul, Div}
use Rattle.fx_routines.specs.declared.operation.ScaledOp.TheVariants.{Convert}
use Rattle.fx_routines.specs.declared.interpolation.CurveOp.TheVariants.{Ipo}
use Rattle.ifx_search.specs.Positions.{position, way_in}
use Rattle.ifx_curves.specs.Curves.{curve, curve_through, on_way}
use Rattle.ifx_curves.specs.Slopes.{greatest_of_steps, steepest_of}
use Rattle.ifx_rules.specs.LookUpRules.{curve_bounds, curve_over_bounds, least_of_gaps, position_bounds}
use Rattle.net_model.specs.declared.wires.Kind.TheVariants.{Num, Position}
use Rattle.net_model.specs.declared.wires.Block.TheVariants.{Arith, Scaled, Search, Curve, IntCurve}
use Rattle.net_model.specs.declared.wires.Item.TheVariants.{Input, Block as OfBlock}
use Rattle.net_model.specs.Wires.{NetData}
use Rattle.mfx_scaled.specs.Formulas.{point_factor}
use Rattle.part_rules.specs.declared.bounds.Bounds.{Bounds}
use Rattle.cert_rules.specs.Certificates.{entry_of}
use Rattle.mfx_rules.specs.ArithRules.{arith_bounds, arith_values}
use Rattle.part_rules.specs.Errors.{product_error, quotient_error, shifted_error}
use Rattle.mfx_rules.specs.ScaledRules.{scaled_bounds, scaled_values}
use Rattle.cert_rules.specs.Rules.{block_rule, rule_of, is_allowed}
use Rattle.cert_rules.specs.Acceptance.{is_allowed_at, is_inductive_at, first_failing, first_rejected}

net : NetData
net = record {
  axes = [];
  tables = [];
  wires =
      record { name = codes "a"; kind = Num S16 0; item = Input (pos 0) (pos 1000) } ∷
      record { name = codes "b"; kind = Num S16 4; item = Input (negsuc 159) (pos 160) } ∷
      record { name = codes "c"; kind = Num S16 0; item = OfBlock (Scaled Convert (record { x = S16; y = S16; o = S16 }) (record { 0 = 1 }) (record { 0 = 1 })) } ∷
      record { name = codes "s"; kind = Num S16 0; item = OfBlock (Arith Add (record { x = S16; y = S16; o = S16 }) (record { 0 = 0 }) (record { 0 = 2 }) (record { 0 = 0 }) 0) } ∷ [];
  outs = [];
}

entries : ℕ → ℕ → List Bounds
entries error highest =
    record { lo = pos 0; hi = pos 1000; err = pos 0 } ∷
    record { lo = negsuc 159; hi = pos 160; err = pos 0 } ∷
    record { lo = negsuc 9; hi = pos 10; err = pos error } ∷
    record { lo = negsuc 9; hi = pos highest; err = pos 65536 } ∷ []

accepted : first_rejected net (entries 65536 1010) ≡ None
unfolding net entries first_rejected first_failing is_allowed_at is_inductive_at rule_of is_allowed block_rule scaled_bounds scaled_values shifted_error arith_bounds arith_values entry_of point_factor rounded least_quotient_above whole over plus times
accepted = refl

error_too_small : first_rejected net (entries 65535 1010) ≡ Some 2
unfolding net entries first_rejected first_failing is_allowed_at is_inductive_at rule_of is_allowed block_rule scaled_bounds scaled_values shifted_error arith_bounds arith_values entry_of point_factor rounded least_quotient_above whole over plus times
error_too_small = refl

range_too_small : first_rejected net (entries 65536 1009) ≡ Some 3
unfolding net entries first_rejected first_failing is_allowed_at is_inductive_at rule_of is_allowed block_rule scaled_bounds scaled_values shifted_error arith_bounds arith_values entry_of point_factor rounded least_quotient_above whole over plus times
range_too_small = refl

-- a product and a quotient of `x` and `z`: a quotient is rounded, so its error is one raw count
quotient_net : NetData
quotient_net = record {
  axes = [];
  tables = [];
  wires =
      record { name = codes "x"; kind = Num S16 0; item = Input (negsuc 2) (pos 5) } ∷
      record { name = codes "z"; kind = Num S16 0; item = Input (pos 2) (pos 4) } ∷
      record { name = codes "p"; kind = Num S32 0; item = OfBlock (Arith Mul (record { x = S16; y = S16; o = S32 }) (record { 0 = 0 }) (record { 0 = 1 }) (record { 0 = 0 }) 0) } ∷
      record { name = codes "q"; kind = Num S16 0; item = OfBlock (Arith Div (record { x = S16; y = S16; o = S16 }) (record { 0 = 0 }) (record { 0 = 1 }) (record { 0 = 0 }) 0) } ∷ [];
  outs = [];
}

quotient_entries : ℤ → ℕ → List Bounds
quotient_entries lowest error =
    record { lo = negsuc 2; hi = pos 5; err = pos 0 } ∷
    record { lo = lowest; hi = pos 4; err = pos 0 } ∷
    record { lo = negsuc 11; hi = pos 20; err = pos 0 } ∷
    record { lo = negsuc 0; hi = pos 2; err = pos error } ∷ []

quotient_accepted : first_rejected quotient_net (quotient_entries (pos 2) 65536) ≡ None
unfolding quotient_net quotient_entries first_rejected first_failing is_allowed_at is_inductive_at rule_of is_allowed block_rule arith_bounds arith_values product_error quotient_error entry_of rounded least_quotient_above quotient divided whole times
quotient_accepted = refl

quotient_error_too_small : first_rejected quotient_net (quotient_entries (pos 2) 65535) ≡ Some 3
unfolding quotient_net quotient_entries first_rejected first_failing is_allowed_at is_inductive_at rule_of is_allowed block_rule arith_bounds arith_values product_error quotient_error entry_of rounded least_quotient_above quotient divided whole times
quotient_error_too_small = refl

-- an entry of `z` that holds 0 lets the divisor be 0, so that no entry of `q` is accepted
divisor_may_be_zero : first_failing (is_inductive_at quotient_net (quotient_entries (pos 0) 65536)) 3 1 ≡ Some 3
unfolding quotient_net quotient_entries first_rejected first_failing is_allowed_at is_inductive_at rule_of is_allowed block_rule arith_bounds arith_values product_error quotient_error entry_of rounded least_quotient_above quotient divided whole times
divisor_may_be_zero = refl

-- a position of `x` on an axis of 0, 10 and 30, the curve through 0, 100 and 50 at that position, and the same curve at `x`, which
-- is rounded once and not twice
looking : NetData
looking = record {
  axes = (codes "points", record { ty = S16; points = pos 0 ∷ pos 10 ∷ pos 30 ∷ []; spacing = None }) ∷ [];
  tables = (codes "heights", record { ty = S16; values = pos 0 ∷ pos 100 ∷ pos 50 ∷ [] }) ∷ [];
  wires =
      record { name = codes "x"; kind = Num S16 0; item = Input (pos 0) (pos 30) } ∷
      record { name = codes "p"; kind = Position 0; item = OfBlock (Search S16 (record { 0 = 0 }) 0) } ∷
      record { name = codes "c"; kind = Num S16 0; item = OfBlock (Curve Ipo (record { 0 = 1 }) 0) } ∷
      record { name = codes "d"; kind = Num S16 0; item = OfBlock (IntCurve Ipo (record { 0 = 0 }) 0 0) } ∷ [];
  outs = [];
}

looking_entries : ℕ → ℕ → List Bounds
looking_entries last error =
    record { lo = pos 0; hi = pos 30; err = pos 0 } ∷
    record { lo = pos 0; hi = pos last; err = pos 65536 } ∷
    record { lo = pos 0; hi = pos 100; err = pos error } ∷
    record { lo = pos 0; hi = pos 100; err = pos 65536 } ∷ []

looking_accepted : first_rejected looking (looking_entries 131072 65636) ≡ None
unfolding looking looking_entries first_rejected first_failing is_allowed_at is_inductive_at rule_of is_allowed block_rule position_bounds curve_bounds curve_over_bounds least_of_gaps greatest_of_steps steepest_of position way_in curve curve_through on_way entry_of rounded least_quotient_above quotient divided whole plus minus times
looking_accepted = refl

-- the curve at a position has the position's error besides its own
curve_error_too_small : first_rejected looking (looking_entries 131072 65635) ≡ Some 2
unfolding looking looking_entries first_rejected first_failing is_allowed_at is_inductive_at rule_of is_allowed block_rule position_bounds curve_bounds curve_over_bounds least_of_gaps greatest_of_steps steepest_of position way_in curve curve_through on_way entry_of rounded least_quotient_above quotient divided whole plus minus times
curve_error_too_small = refl

-- no position is behind the last point of its axis
position_too_far : first_rejected looking (looking_entries 131073 65636) ≡ Some 1
unfolding looking looking_entries first_rejected first_failing is_allowed_at is_inductive_at rule_of is_allowed block_rule position_bounds curve_bounds curve_over_bounds least_of_gaps greatest_of_steps steepest_of position way_in curve curve_through on_way entry_of rounded least_quotient_above quotient divided whole plus minus times
position_too_far = refl
