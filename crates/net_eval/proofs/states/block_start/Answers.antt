use Rattle.net_eval.proofs.FilterSteps.{stateless_start}
use Rattle.net_eval.proofs.states.block_start.Goals as goal

pub returns-in_default : goal.returns-in_default
returns-in_default c = stateless_start c.args.block c.in_default.not-Gain c.in_default.not-Average c.in_default.not-Pt1 c.in_default.not-Dt1
