use Rattle.std.proofs.Common.{sym, ◌∙◌, arith}
use Rattle.text_words.specs.Lines.{lines_from, lines_of}
use Rattle.net_text.specs.Names.{line_naming}
use Rattle.net_text.proofs.LinesCounted.{naming_next, naming_found, naming_none}
use Rattle.net_text.proofs.names.line_naming.Goals as goal

pub returns-then-defines : goal.returns-then-defines
returns-then-defines c =
    naming_found (lines_from c.loop-line.left.now) (lines_from c.in-Some.rest.now) c.in-Some.line.now c.args.name.now c.loop-line.above (line_naming (lines_of c.args.text.now) c.args.name.now) c.in-Some.ensures.lines (sym c.defines.ensures ∙ c.if-defines.true) c.loop-line.invariant.same

pub loop-line-preserved : goal.loop-line-preserved
loop-line-preserved c = record {
  same = naming_next (lines_from c.loop-line.left.now) (lines_from c.in-Some.rest.now) c.in-Some.line.now c.args.name.now c.loop-line.above (line_naming (lines_of c.args.text.now) c.args.name.now) c.in-Some.ensures.lines (sym c.defines.ensures ∙ c.if-defines.false) c.loop-line.invariant.same;
  counted = omega (arith, c.loop-line.invariant.counted, c.in-Some.ensures.shorter);
}

pub returns : goal.returns
returns c =
    naming_none (lines_from c.loop-line.left.now) c.args.name.now c.loop-line.above (line_naming (lines_of c.args.text.now) c.args.name.now) c.in_default.ensures.lines c.loop-line.invariant.same
