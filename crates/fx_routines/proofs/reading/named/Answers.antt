-- The row at the place names the word, or none does.
use Rattle.std.proofs.Common.{sym, ◌∙◌, arith}
use Rattle.fx_routines.specs.Reading.{named}
use Rattle.fx_routines.proofs.TableRows.{named_here, named_later, named_none}
use Rattle.fx_routines.proofs.reading.named.Goals as goal

pub returns-in-Some : goal.returns-in-Some
unfolding named
returns-in-Some c = sym (sym c.loop-place.invariant ∙ named_here c.loop-place.place c.args.word.now c.in-Some.found (omega arith) (sym c.in-Some.ensures))

pub loop-place-preserved : goal.loop-place-preserved
loop-place-preserved c = named_later c.loop-place.place c.args.word.now (omega arith) (sym c.in_default.ensures) ∙ c.loop-place.invariant

pub returns : goal.returns
unfolding named
returns c = sym (sym c.loop-place.invariant ∙ named_none c.loop-place.place c.args.word.now (omega arith))
