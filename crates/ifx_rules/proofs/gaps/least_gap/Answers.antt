use Rattle.ifx_rules.specs.LookUpRules.{least_of_gaps}
use Rattle.ifx_rules.proofs.Bends.{are_axis}
use Rattle.ifx_rules.proofs.LookUps.{some_gap_of}
use Rattle.ifx_rules.proofs.gaps.least_gap.Goals as goal

pub loop-i-init : goal.loop-i-init
unfolding least_of_gaps
loop-i-init c = c.gap-least.ensures

pub returns-clause-some : goal.returns-clause-some
returns-clause-some c = some_gap_of c.args.axis.now.points (are_axis c.args.axis.now.ty c.args.axis.now.points c.len-segments.ensures.axis)
