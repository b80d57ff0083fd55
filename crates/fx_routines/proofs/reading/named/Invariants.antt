-- From here the rows name what all of them do.
use Rattle.std.proofs.Common.{◌≡◌, drop}
use Rattle.fx_routines.specs.Reading.{named_among}
use Rattle.fx_routines.specs.Rows.{rows}
use Rattle.fx_routines.proofs.reading.named.Given as goal

abbrev pub invariant-loop-place : goal.invariant-loop-place
invariant-loop-place l = named_among (drop l.place rows) l.word ≡ named_among rows l.word
