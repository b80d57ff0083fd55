use Rattle.std.proofs.Common.{◌≡◌, ◌+◌, ◌-◌, ◌<◌, ◌≤◌, vec_len}
use Rattle.fx_io.proofs.WholeLemmas.{IsRead, IsUnfailed}
use Rattle.fx_io.proofs.whole.read_all.Given as goal

abbrev pub invariant-loop-piece : goal.invariant-loop-piece
invariant-loop-piece g l =
    let shelf = g.S.Shelf in
    (vec_len l.bytes ≤ l.limit + 1)
    × (0 < vec_len l.piece)
    × (shelf.files l.shelf ≡ shelf.files l.fn.shelf)
    × IsRead (shelf.files l.fn.shelf) l.name l.bytes.items (shelf.left l.shelf)
    × IsUnfailed (shelf.faults l.fn.shelf) (shelf.faults l.shelf) (shelf.failed l.fn.shelf) (shelf.failed l.shelf) (shelf.named l.shelf) l.name

abbrev pub decreases-loop-piece : goal.decreases-loop-piece
decreases-loop-piece g l = l.limit + 1 - vec_len l.bytes
