use Rattle.std.proofs.Common.{sym, ap, ◌∙◌, arith}
use Rattle.text_words.specs.Lines.{lines_from, lines_of}
use Rattle.net_text.specs.Names.{begins, names_of}
use Rattle.net_text.proofs.NamePlaces.{names_grow}
use Rattle.net_text.proofs.LinesCounted.{keys_grow}
use Rattle.net_text.proofs.names.names_of.Goals as goal

pub loop-line-preserved-in_ok-insert : goal.loop-line-preserved-in_ok-insert
loop-line-preserved-in_ok-insert c =
    let defining = ap (λ w. begins c.args.sort w) (sym c.word_at.ensures) ∙ sym c.begins.ensures ∙ c.if-begins.true in
    record {
      named = names_grow c.args.sort (λ k. k.now) c.loop-line.names.keys c.insert.new.self.keys c.word_at-then-begins.result c.in-Some.line.now (lines_from c.loop-line.left.now) (lines_from c.in-Some.rest.now) (names_of c.args.sort (lines_of c.args.text.now)) defining c.word_at-then-begins.ensures c.in_ok-insert.ensures.keys c.in-Some.ensures.lines c.loop-line.invariant.named;
      few =
          let put = keys_grow _ c.loop-line.names.keys c.insert.new.self.keys c.word_at-then-begins.result c.in_ok-insert.ensures.keys in
          omega (arith, c.loop-line.invariant.few, c.in-Some.ensures.shorter);
    }
