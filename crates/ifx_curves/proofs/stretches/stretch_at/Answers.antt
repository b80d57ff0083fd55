use Rattle.std.specs.Int.{w64}
use Rattle.std.proofs.lemmas.Int.{to_z-of_z}
use Rattle.ifx_curves.proofs.PositionPoints.{is_whole_position, word_parts}
use Rattle.ifx_curves.proofs.stretches.stretch_at.Goals as goal

pub returns-clause-position : goal.returns-clause-position
returns-clause-position c = is_whole_position c.args.position c.min-segment.result _ (word_parts c.args.position _ c.min-segment.result _ (to_z-of_z w64 c.args.position c.ranges.position) c.requires.low c.min-segment.ensures)
