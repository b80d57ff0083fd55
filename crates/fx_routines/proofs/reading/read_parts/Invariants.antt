-- From here the parts read what all of them do.
use Rattle.std.proofs.Common.{◌≡◌, drop}
use Rattle.fx_routines.specs.Reading.{no_choice, read_parts}
use Rattle.fx_routines.proofs.reading.read_parts.Given as goal

abbrev pub invariant-loop-part : goal.invariant-loop-part
invariant-loop-part l = read_parts (drop l.part-index l.parts) l.v l.rest ≡ read_parts l.initial.parts no_choice l.initial.text
