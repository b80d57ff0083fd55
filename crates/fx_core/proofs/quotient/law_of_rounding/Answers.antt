use Rattle.fx_core.proofs.RoundingLaws.{rounds-rounded, rounds_once}
use Rattle.fx_core.proofs.quotient.law_of_rounding.Goals as goal

pub returns-clause-rounds : goal.returns-clause-rounds
returns-clause-rounds c = rounds-rounded

pub returns-clause-once : goal.returns-clause-once
returns-clause-once c = rounds_once
