use Rattle.std.proofs.Common.{subst, arith, ◌-◌, pos}
use Rattle.std.proofs.lemmas.Int.{ints}
use Rattle.fx_fraction.specs.Fraction.{Is, whole}
use Rattle.ifx_search.specs.Positions.{position}
use Rattle.ifx_curves.proofs.PositionPoints.{is_position_first, is_position_last}
use Rattle.ifx_curves.proofs.stretches.stretch_to.Goals as goal

pub returns-then-x-point-clause-position : goal.returns-then-x-point-clause-position
returns-then-x-point-clause-position c = is_position_first c.args.axis.now.points c.args.x c.len-last.ensures.axis.some (omega (arith, ints, c.if-x-point.true, c.point.ensures))

pub returns-then-point-x-clause-position : goal.returns-then-point-x-clause-position
returns-then-point-x-clause-position c =
    let axis = c.len-last.ensures.axis in
    let last = c.len-last.result - 1 in
    subst (λ n. Is (position c.args.axis.now.points (whole c.args.x)) 1 (pos n)) (omega (arith, c.len-last.ensures.len, axis.some)) (is_position_last c.args.axis.now.points last c.args.x axis.rising (omega (arith, c.len-last.ensures.len, axis.some)) (omega (arith, ints, c.if-point-x.true, c.point-2.ensures)))
