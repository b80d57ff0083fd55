use Rattle.std.proofs.Common.{sym, ap, ◌∙◌}
use Rattle.text_words.specs.Lines.{lines_from, lines_of}
use Rattle.net_text.specs.declared.keyword.Defined.TheVariants.{Wires}
use Rattle.net_text.specs.Names.{names_of}
use Rattle.net_text.proofs.NamesKept.{names_start}
use Rattle.net_text.proofs.reader.read_below_head.Goals as goal

pub read_lines-requires-clause-below : goal.read_lines-requires-clause-below
read_lines-requires-clause-below c =
    names_start (lines_of c.args.text.now) (record { line = c.args.head; below = lines_from c.args.lines.now }) c.requires.below
    ∙ ap (names_of Wires) (sym c.in-Ok.ensures)
