use Rattle.std.proofs.Common.{rules, ◌+◌}
use Rattle.text_words.specs.Lines.{lines_from}
use Rattle.text_words.specs.Readers.{read_below}
use Rattle.net_model.specs.Drafts.{data_of}
use Rattle.net_text.specs.declared.keyword.Defined.TheVariants.{Wires}
use Rattle.net_text.specs.Names.{names_of}
use Rattle.net_text.proofs.NamePlaces.{wires_first}
use Rattle.net_text.proofs.NamesKept.{names_go_on}
use Rattle.net_text.proofs.reader.read_lines.Goals as goal

pub behind_line-requires-clause-first : goal.behind_line-requires-clause-first
behind_line-requires-clause-first c =
    wires_first c.loop-line.draft.wires.items (names_of Wires c.args.names.now) (lines_from c.loop-line.left.now) c.loop-line.invariant.named

pub loop-line-preserved : goal.loop-line-preserved
unfolding read_below
loop-line-preserved c = record {
  same = search rules;
  counted = search rules;
  named = names_go_on c.args.names.now (c.loop-line.above + 1) (data_of c.loop-line.draft) (data_of c.in_ok-draft.draft) c.in-Some.line.now (lines_from c.loop-line.left.now) (lines_from c.in-Some.rest.now) c.in_ok-draft.ensures.value c.in-Some.ensures.lines c.loop-line.invariant.named;
  few = search rules;
}
