use Rattle.std.proofs.Common.{ap, sym, rules, w32}
use Rattle.std.proofs.lemmas.Int.{to_z-of_z}
use Rattle.net_model.specs.Wires.{argument_of}
use Rattle.cert_rules.proofs.BlockRules.{arith_returns, arith_there, is_plain, scaled_points, scaled_returns}
use Rattle.cert_rules.proofs.GivenFacts.{average_returns, average_small, dt1_returns, dt1_state, gain_returns, gain_small, plain_small, pt1_returns, pt1_state}
use Rattle.cert_rules.proofs.LookUpBlocks.{below_last, curve_given, curve_returns, holds_there, int_curve_given, int_curve_returns, long_as, search_given, search_returns}
use Rattle.cert_rules.proofs.RuleFacts.{argument_there}
use Rattle.cert_rules.proofs.ruling.value_bounds.Goals as goal

pub operation_bounds-requires-clause-rule : goal.operation_bounds-requires-clause-rule
operation_bounds-requires-clause-rule c =
    (arith_there c.args.net.now c.args.wire.0 c.args.block.now _ _ _ _ _ _ c.requires.valid c.requires.there c.requires.block c.in-Arith.is).0

pub operation_bounds-requires-clause-shift : goal.operation_bounds-requires-clause-shift
operation_bounds-requires-clause-shift c =
    (arith_there c.args.net.now c.args.wire.0 c.args.block.now _ _ _ _ _ _ c.requires.valid c.requires.there c.requires.block c.in-Arith.is).1

pub operation_bounds-requires-clause-first : goal.operation_bounds-requires-clause-first
operation_bounds-requires-clause-first c = (plain_small c.args.net.now c.args.wire.0 c.args.block.now c.args.given c.requires.sized (ap is_plain c.in-Arith.is)).first

pub operation_bounds-requires-clause-second : goal.operation_bounds-requires-clause-second
operation_bounds-requires-clause-second c = (plain_small c.args.net.now c.args.wire.0 c.args.block.now c.args.given c.requires.sized (ap is_plain c.in-Arith.is)).second

pub operation_bounds-requires-clause-third : goal.operation_bounds-requires-clause-third
operation_bounds-requires-clause-third c = (plain_small c.args.net.now c.args.wire.0 c.args.block.now c.args.given c.requires.sized (ap is_plain c.in-Arith.is)).third

pub point_at-requires-clause-there : goal.point_at-requires-clause-there
point_at-requires-clause-there c =
    argument_there c.args.net.now c.args.wire.0 c.args.block.now 0 _ c.requires.valid c.requires.there c.requires.block (sym (ap (λ b. argument_of b 0) c.in-Scaled.is))

pub point_at-requires-in-Scaled-clause-there : goal.point_at-requires-in-Scaled-clause-there
point_at-requires-in-Scaled-clause-there c =
    argument_there c.args.net.now c.args.wire.0 c.args.block.now 1 _ c.requires.valid c.requires.there c.requires.block (sym (ap (λ b. argument_of b 1) c.in-Scaled.is))

pub form_bounds-requires-clause-first : goal.form_bounds-requires-clause-first
form_bounds-requires-clause-first c = (plain_small c.args.net.now c.args.wire.0 c.args.block.now c.args.given c.requires.sized (ap is_plain c.in-Scaled.is)).first

pub form_bounds-requires-clause-second : goal.form_bounds-requires-clause-second
form_bounds-requires-clause-second c = (plain_small c.args.net.now c.args.wire.0 c.args.block.now c.args.given c.requires.sized (ap is_plain c.in-Scaled.is)).second

pub gain_bounds-requires : goal.gain_bounds-requires
gain_bounds-requires c = gain_small c.args.net.now c.args.wire.0 c.args.block.now _ _ _ _ c.args.given c.requires.sized c.in-Gain.is

pub average_bounds-requires-clause-input : goal.average_bounds-requires-clause-input
average_bounds-requires-clause-input c = (average_small c.args.net.now c.args.wire.0 c.args.block.now _ _ _ _ c.args.given c.requires.sized c.in-Average.is).0

pub average_bounds-requires-clause-window : goal.average_bounds-requires-clause-window
average_bounds-requires-clause-window c = (average_small c.args.net.now c.args.wire.0 c.args.block.now _ _ _ _ c.args.given c.requires.sized c.in-Average.is).1

pub returns-in-Arith : goal.returns-in-Arith
returns-in-Arith c = λ known given.
    arith_returns c.args.net.now c.args.wire.0 c.args.block.now _ _ _ _ _ _ c.args.given known _ c.in-Arith.is (arith_there c.args.net.now c.args.wire.0 c.args.block.now _ _ _ _ _ _ c.requires.valid c.requires.there c.requires.block c.in-Arith.is).0 given c.operation_bounds.ensures

pub returns-in-Scaled : goal.returns-in-Scaled
returns-in-Scaled c = λ known given.
    scaled_returns c.args.net.now c.args.wire.0 c.args.block.now _ _ _ _ _ c.args.given known _ c.in-Scaled.is (scaled_points c.args.net.now c.args.wire.0 c.args.block.now _ _ _ _ _ _ _ c.in-Scaled.is c.point_at.ensures.point c.point_at-in-Scaled.ensures.point c.point_at-in-Scaled-2.ensures.point) given c.form_bounds.ensures

pub returns-in-Gain : goal.returns-in-Gain
returns-in-Gain c = λ known given. gain_returns c.args.net.now c.args.wire.0 c.args.block.now _ _ _ _ _ c.args.given known _ c.in-Gain.is (to_z-of_z w32 c.in-Gain.k (search rules)) given c.gain_bounds.ensures

pub returns-in-Average : goal.returns-in-Average
returns-in-Average c = λ known given. average_returns c.args.net.now c.args.wire.0 c.args.block.now _ _ _ _ c.args.given known _ c.in-Average.is given c.average_bounds.ensures

pub value_bounds-requires : goal.value_bounds-requires
value_bounds-requires c = pt1_state c.args.net.now c.args.wire.0 c.args.block.now _ _ _ _ _ c.args.given c.requires.sized c.in-Pt1.is

pub value_bounds-requires-in-Dt1 : goal.value_bounds-requires-in-Dt1
value_bounds-requires-in-Dt1 c = dt1_state c.args.net.now c.args.wire.0 c.args.block.now _ _ _ _ _ _ c.args.given c.requires.sized c.in-Dt1.is

pub returns-in-Pt1 : goal.returns-in-Pt1
returns-in-Pt1 c = λ known given. pt1_returns c.args.net.now c.args.wire.0 c.args.block.now _ _ _ _ _ c.args.given known _ c.in-Pt1.is given c.value_bounds.ensures

pub returns-in-Dt1 : goal.returns-in-Dt1
returns-in-Dt1 c = λ known given. dt1_returns c.args.net.now c.args.wire.0 c.args.block.now _ _ _ _ _ _ c.args.given known _ c.in-Dt1.is given c.value_bounds-in-Dt1.ensures

pub axis_at-requires : goal.axis_at-requires
axis_at-requires c =
    (search_given c.args.net.now c.args.wire.0 c.args.block.now _ _ _ c.args.given c.requires.valid c.requires.there c.requires.block c.requires.sized c.in-Search.is).there

pub position_bounds-requires-clause-small : goal.position_bounds-requires-clause-small
position_bounds-requires-clause-small c =
    (search_given c.args.net.now c.args.wire.0 c.args.block.now _ _ _ c.args.given c.requires.valid c.requires.there c.requires.block c.requires.sized c.in-Search.is).number.small

pub position_bounds-requires-clause-low : goal.position_bounds-requires-clause-low
position_bounds-requires-clause-low c =
    holds_there _ _ _ c.axis_at.ensures (search_given c.args.net.now c.args.wire.0 c.args.block.now _ _ _ c.args.given c.requires.valid c.requires.there c.requires.block c.requires.sized c.in-Search.is).number.low

pub position_bounds-requires-clause-high : goal.position_bounds-requires-clause-high
position_bounds-requires-clause-high c =
    holds_there _ _ _ c.axis_at.ensures (search_given c.args.net.now c.args.wire.0 c.args.block.now _ _ _ c.args.given c.requires.valid c.requires.there c.requires.block c.requires.sized c.in-Search.is).number.high

pub table_at-requires : goal.table_at-requires
table_at-requires c =
    (curve_given c.args.net.now c.args.wire.0 c.args.block.now _ _ _ c.args.given c.requires.valid c.requires.there c.requires.block c.requires.sized c.in-Curve.is).there

pub curve_bounds-requires-clause-small : goal.curve_bounds-requires-clause-small
curve_bounds-requires-clause-small c =
    (curve_given c.args.net.now c.args.wire.0 c.args.block.now _ _ _ c.args.given c.requires.valid c.requires.there c.requires.block c.requires.sized c.in-Curve.is).small

pub curve_bounds-requires-clause-low : goal.curve_bounds-requires-clause-low
curve_bounds-requires-clause-low c =
    (curve_given c.args.net.now c.args.wire.0 c.args.block.now _ _ _ c.args.given c.requires.valid c.requires.there c.requires.block c.requires.sized c.in-Curve.is).low

pub curve_bounds-requires-clause-high : goal.curve_bounds-requires-clause-high
curve_bounds-requires-clause-high c =
    below_last _ _ _ c.table_at.ensures (curve_given c.args.net.now c.args.wire.0 c.args.block.now _ _ _ c.args.given c.requires.valid c.requires.there c.requires.block c.requires.sized c.in-Curve.is).high

pub axis_at-requires-in-IntCurve : goal.axis_at-requires-in-IntCurve
axis_at-requires-in-IntCurve c =
    (int_curve_given c.args.net.now c.args.wire.0 c.args.block.now _ _ _ _ c.args.given c.requires.valid c.requires.there c.requires.block c.requires.sized c.in-IntCurve.is).axis_there

pub table_at-requires-in-IntCurve : goal.table_at-requires-in-IntCurve
table_at-requires-in-IntCurve c =
    (int_curve_given c.args.net.now c.args.wire.0 c.args.block.now _ _ _ _ c.args.given c.requires.valid c.requires.there c.requires.block c.requires.sized c.in-IntCurve.is).table_there

pub curve_over_bounds-requires-clause-lengths : goal.curve_over_bounds-requires-clause-lengths
curve_over_bounds-requires-clause-lengths c =
    long_as _ _ _ _ c.axis_at-in-IntCurve.ensures c.table_at-in-IntCurve.ensures (int_curve_given c.args.net.now c.args.wire.0 c.args.block.now _ _ _ _ c.args.given c.requires.valid c.requires.there c.requires.block c.requires.sized c.in-IntCurve.is).long

pub curve_over_bounds-requires-clause-small : goal.curve_over_bounds-requires-clause-small
curve_over_bounds-requires-clause-small c =
    (int_curve_given c.args.net.now c.args.wire.0 c.args.block.now _ _ _ _ c.args.given c.requires.valid c.requires.there c.requires.block c.requires.sized c.in-IntCurve.is).number.small

pub curve_over_bounds-requires-clause-low : goal.curve_over_bounds-requires-clause-low
curve_over_bounds-requires-clause-low c =
    holds_there _ _ _ c.axis_at-in-IntCurve.ensures (int_curve_given c.args.net.now c.args.wire.0 c.args.block.now _ _ _ _ c.args.given c.requires.valid c.requires.there c.requires.block c.requires.sized c.in-IntCurve.is).number.low

pub curve_over_bounds-requires-clause-high : goal.curve_over_bounds-requires-clause-high
curve_over_bounds-requires-clause-high c =
    holds_there _ _ _ c.axis_at-in-IntCurve.ensures (int_curve_given c.args.net.now c.args.wire.0 c.args.block.now _ _ _ _ c.args.given c.requires.valid c.requires.there c.requires.block c.requires.sized c.in-IntCurve.is).number.high

pub returns-in-Search : goal.returns-in-Search
returns-in-Search c = λ known given.
    search_returns c.args.net.now c.args.wire.0 c.args.block.now _ _ _ _ c.args.given known _ c.in-Search.is c.axis_at.ensures given c.position_bounds.ensures

pub returns-in-Curve : goal.returns-in-Curve
returns-in-Curve c = λ known given.
    curve_returns c.args.net.now c.args.wire.0 c.args.block.now _ _ _ _ c.args.given known _ c.requires.valid c.requires.there c.requires.block c.in-Curve.is c.table_at.ensures given c.curve_bounds.ensures

pub returns-in-IntCurve : goal.returns-in-IntCurve
returns-in-IntCurve c = λ known given.
    int_curve_returns c.args.net.now c.args.wire.0 c.args.block.now _ _ _ _ _ _ c.args.given known _ c.requires.valid c.requires.there c.requires.block c.in-IntCurve.is c.axis_at-in-IntCurve.ensures c.table_at-in-IntCurve.ensures given c.curve_over_bounds.ensures
