use Rattle.std.proofs.Common.{◌≡◌, ◌*◌, ap, arith, pos, subst, sym}
use Rattle.std.specs.Int.{w64}
use Rattle.std.proofs.lemmas.Int.{to_z-of_z}
use Rattle.fx_fraction.specs.Fraction.{whole}
use Rattle.fx_core.proofs.WordSteps.{word_of}
use Rattle.ifx_maps.specs.Surfaces.{surface}
use Rattle.ifx_rules.specs.LookUpRules.{hull_at, whole_positions}
use Rattle.ifx_rules.specs.MapRules.{both_rounded_down}
use Rattle.ifx_rules.specs.declared.look_up_ends.Bend.{Bend}
use Rattle.ifx_rules.proofs.Bends.{length-whole_positions, whole_position}
use Rattle.ifx_rules.proofs.LookUpHulls.{IsBend, hull_begun, hull_done, hull_more}
use Rattle.ifx_rules.proofs.map_ranges.column.Goals as goal

pub loop-iy-init : goal.loop-iy-init
loop-iy-init c =
    let m = c.args.m.now in
    hull_begun (surface m (whole (word_of w64 c.args.px))) (whole_positions m.ny) c.args.py c.map_at.result.number c.map_at-2.result.number c.hull-range.result c.requires.small c.map_at.ensures c.map_at-2.ensures c.hull-range.ensures.lo c.hull-range.ensures.hi

pub loop-iy-preserved : goal.loop-iy-preserved
loop-iy-preserved c =
    let m = c.args.m.now in
    let n = m.ny in
    let i = c.loop-iy.iy in
    let value = surface m (whole (word_of w64 c.args.px)) in
    let bend : Bend = record { place = pos (65536 * i); value = both_rounded_down (surface m) (word_of w64 c.args.px) (pos (65536 * i)) } in
    let there = sym (whole_position n i (omega (arith, c.loop-iy-test.true, c.ny-iy-end.ensures.lines))) in
    let is : IsBend value (whole_positions n) i bend = record { place = there; value_there = ap (both_rounded_down (surface m) (word_of w64 c.args.px)) there } in
    hull_more value (whole_positions n) c.args.py i bend c.loop-iy.range c.with_value-range.result (omega (arith, c.loop-iy-test.true, c.ny-iy-end.ensures.lines, length-whole_positions n)) is c.with_value-range.ensures.lo c.with_value-range.ensures.hi c.loop-iy.invariant

pub returns-clause-lo : goal.returns-clause-lo
returns-clause-lo c =
    let m = c.args.m.now in
    subst (λ p. c.loop-iy.range.lo ≡ (hull_at (surface m (whole p)) (whole_positions m.ny) c.args.py (pos 0)).lo) (to_z-of_z w64 c.args.px c.ranges.px)
    (hull_done (surface m (whole (word_of w64 c.args.px))) (whole_positions m.ny) c.args.py c.loop-iy.iy c.loop-iy.range (omega (arith, c.loop-iy-test.false, c.ny-iy-end.ensures.lines, length-whole_positions m.ny)) c.loop-iy.invariant).low

pub returns-clause-hi : goal.returns-clause-hi
returns-clause-hi c =
    let m = c.args.m.now in
    subst (λ p. c.loop-iy.range.hi ≡ (hull_at (surface m (whole p)) (whole_positions m.ny) c.args.py (pos 0)).hi) (to_z-of_z w64 c.args.px c.ranges.px)
    (hull_done (surface m (whole (word_of w64 c.args.px))) (whole_positions m.ny) c.args.py c.loop-iy.iy c.loop-iy.range (omega (arith, c.loop-iy-test.false, c.ny-iy-end.ensures.lines, length-whole_positions m.ny)) c.loop-iy.invariant).high
