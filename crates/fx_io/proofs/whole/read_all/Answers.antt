use Rattle.std.proofs.Common.{rules, ◌∙◌}
use Rattle.fx_io.proofs.WholeLemmas.{read_more, unfailed_more}
use Rattle.fx_io.proofs.whole.read_all.Goals as goal

pub loop-piece-preserved : goal.loop-piece-preserved
loop-piece-preserved g c =
    let was = c.loop-piece.invariant in
    let read = c.in_ok-read_piece.ensures in (
      search rules,
      search rules,
      read.files ∙ was.2,
      read_more _ _ _ _ _ _ _ was.3 read.appended read.taken.0,
      unfailed_more _ _ _ _ _ _ _ _ _ c.in_ok-read_piece.field-0 was.4 read.cause read.name,
    )
