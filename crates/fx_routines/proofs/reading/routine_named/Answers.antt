-- What is read is named, and every name is read.
use Rattle.fx_routines.proofs.NameLaws.{names_are_read, read_has_one_width, read_is_named}
use Rattle.fx_routines.proofs.reading.routine_named.Goals as goal

pub returns-clause-sound : goal.returns-clause-sound
returns-clause-sound c = read_is_named _ _ c.named.ensures

pub returns-clause-one_width : goal.returns-clause-one_width
returns-clause-one_width c = read_has_one_width _ _ c.named.ensures

pub returns-clause-complete : goal.returns-clause-complete
returns-clause-complete c = names_are_read _ _ c.named.ensures
