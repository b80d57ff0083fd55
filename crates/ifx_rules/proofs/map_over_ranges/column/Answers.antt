use Rattle.std.proofs.Common.{◌≡◌, arith, pos, refl, subst}
use Rattle.std.specs.Int.{w64}
use Rattle.std.proofs.lemmas.Int.{to_z-of_z}
use Rattle.fx_fraction.specs.Fraction.{whole}
use Rattle.fx_core.proofs.WordSteps.{word_of}
use Rattle.ifx_search.specs.Axes.{point_at}
use Rattle.ifx_rules.specs.LookUpRules.{hull_at}
use Rattle.ifx_rules.specs.MapRules.{both_rounded_down, map_over}
use Rattle.ifx_rules.specs.declared.look_up_ends.Bend.{Bend}
use Rattle.ifx_rules.proofs.LookUpHulls.{IsBend, hull_begun, hull_done, hull_more}
use Rattle.ifx_rules.proofs.map_over_ranges.column.Goals as goal

pub loop-iy-init : goal.loop-iy-init
loop-iy-init c =
    let value = map_over c.args.ax.now.points c.args.ay.now.points c.args.m.now in
    hull_begun (value (whole (word_of w64 c.args.x))) c.args.ay.now.points c.args.y c.map_over_at-low.result.number c.map_over_at-high.result.number c.hull-range.result c.requires.small c.map_over_at-low.ensures c.map_over_at-high.ensures c.hull-range.ensures.lo c.hull-range.ensures.hi

pub loop-iy-preserved : goal.loop-iy-preserved
loop-iy-preserved c =
    let value = map_over c.args.ax.now.points c.args.ay.now.points c.args.m.now in
    let points = c.args.ay.now.points in
    let i = c.loop-iy.iy in
    let bend : Bend = record { place = point_at points i; value = both_rounded_down value (word_of w64 c.args.x) (point_at points i) } in
    let is : IsBend (value (whole (word_of w64 c.args.x))) points i bend = record { place = refl; value_there = refl } in
    hull_more (value (whole (word_of w64 c.args.x))) points c.args.y i bend c.loop-iy.range c.with_value-range.result (omega (arith, c.loop-iy-test.true, c.len-iy-end.ensures.len)) is c.with_value-range.ensures.lo c.with_value-range.ensures.hi c.loop-iy.invariant

pub returns-clause-lo : goal.returns-clause-lo
returns-clause-lo c =
    let value = map_over c.args.ax.now.points c.args.ay.now.points c.args.m.now in
    let points = c.args.ay.now.points in
    subst (λ p. c.loop-iy.range.lo ≡ (hull_at (value (whole p)) points c.args.y (pos 0)).lo) (to_z-of_z w64 c.args.x c.ranges.x)
    (hull_done (value (whole (word_of w64 c.args.x))) points c.args.y c.loop-iy.iy c.loop-iy.range (omega (arith, c.loop-iy-test.false, c.len-iy-end.ensures.len)) c.loop-iy.invariant).low

pub returns-clause-hi : goal.returns-clause-hi
returns-clause-hi c =
    let value = map_over c.args.ax.now.points c.args.ay.now.points c.args.m.now in
    let points = c.args.ay.now.points in
    subst (λ p. c.loop-iy.range.hi ≡ (hull_at (value (whole p)) points c.args.y (pos 0)).hi) (to_z-of_z w64 c.args.x c.ranges.x)
    (hull_done (value (whole (word_of w64 c.args.x))) points c.args.y c.loop-iy.iy c.loop-iy.range (omega (arith, c.loop-iy-test.false, c.len-iy-end.ensures.len)) c.loop-iy.invariant).high
