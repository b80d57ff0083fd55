-- With the words from here on, the name is what it is with all of them.
use Rattle.std.proofs.Common.{◌≡◌, ◌++◌, drop}
use Rattle.fx_routines.specs.Names.{words}
use Rattle.fx_routines.proofs.writing.push_words.Given as goal

abbrev pub invariant-loop-part : goal.invariant-loop-part
invariant-loop-part l = l.name.items ++ words (drop l.part-index l.parts) l.v ≡ l.initial.name.items ++ words l.initial.parts l.v
