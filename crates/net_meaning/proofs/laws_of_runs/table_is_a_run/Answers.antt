-- The law holds for every meaning.
use Rattle.net_meaning.specs.Blocks.{machine, exact}
use Rattle.net_meaning.proofs.TableRun.{table_is_run}
use Rattle.net_meaning.proofs.laws_of_runs.table_is_a_run.Goals as goal

pub returns-clause-of_machine : goal.returns-clause-of_machine
returns-clause-of_machine c = table_is_run machine

pub returns-clause-of_exact : goal.returns-clause-of_exact
returns-clause-of_exact c = table_is_run exact
