-- The law holds for every meaning.
use Rattle.net_meaning.specs.Blocks.{machine, exact}
use Rattle.net_meaning.proofs.OneRun.{runs_agree}
use Rattle.net_meaning.proofs.laws_of_runs.runs_are_one.Goals as goal

pub returns-clause-of_machine : goal.returns-clause-of_machine
returns-clause-of_machine c = runs_agree machine

pub returns-clause-of_exact : goal.returns-clause-of_exact
returns-clause-of_exact c = runs_agree exact
