use Rattle.std.proofs.Common.{◌≡◌, ◌+◌, ◌<◌, ◌^◌, length}
use Rattle.text_words.specs.Lines.{lines_from}
use Rattle.text_words.specs.Readers.{read_below}
use Rattle.net_model.specs.Wires.{no_net}
use Rattle.net_model.specs.Drafts.{data_of}
use Rattle.net_model.specs.Validity.{wire_names}
use Rattle.net_text.specs.declared.keyword.Defined.TheVariants.{Wires}
use Rattle.net_text.specs.Names.{AreFew, names_below, names_of}
use Rattle.net_text.specs.Text.{net_reader}
use Rattle.net_text.proofs.reader.read_lines.Given as goal

abbrev pub invariant-loop-line : goal.invariant-loop-line
invariant-loop-line l = record {
  same : read_below (net_reader l.names) l.above (data_of l.draft) (lines_from l.left) ≡ read_below (net_reader l.names) l.fn.head no_net (lines_from l.fn.lines);
  counted : l.above + length l.left < 2 ^ 32;
  named : names_below Wires (wire_names l.draft.wires.items) (lines_from l.left) ≡ names_of Wires l.names;
  few : AreFew (data_of l.draft);
}

abbrev pub decreases-loop-line : goal.decreases-loop-line
decreases-loop-line l = length l.left
