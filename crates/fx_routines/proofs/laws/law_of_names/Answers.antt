-- The laws by their lemmas.
use Rattle.fx_routines.proofs.DistinctNames.{distinct_names}
use Rattle.fx_routines.proofs.NameLaws.{length-all_names, read_again, taken_names}
use Rattle.fx_routines.proofs.laws.law_of_names.Goals as goal

pub returns-clause-again : goal.returns-clause-again
returns-clause-again c = read_again

pub returns-clause-count : goal.returns-clause-count
returns-clause-count c = length-all_names

pub returns-clause-distinct : goal.returns-clause-distinct
returns-clause-distinct c = distinct_names

pub returns-clause-taken : goal.returns-clause-taken
returns-clause-taken c = taken_names
