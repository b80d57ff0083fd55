use Rattle.std.proofs.Common.{◌∙◌}
use Rattle.mfx_rules.proofs.ScaledCornerHulls.{abs_diff_greatest, abs_diff_least, plain_greatest, plain_least}
use Rattle.mfx_rules.proofs.scaled_ranges.range_of.Goals as goal

pub returns-in-AbsDiff-clause-lo : goal.returns-in-AbsDiff-clause-lo
returns-in-AbsDiff-clause-lo c =
    rw c.in-AbsDiff.is (abs_diff_least c.args.p c.args.x c.args.y _ _ _ _ c.turned.ensures.lo (rw c.in-AbsDiff.is at c.at_corners-range.ensures.lo) (rw c.level.ensures.points at c.at_corners.ensures.lo) (rw c.level.ensures.points at c.at_corners.ensures.hi))

pub returns-in-AbsDiff-clause-hi : goal.returns-in-AbsDiff-clause-hi
returns-in-AbsDiff-clause-hi c =
    rw c.in-AbsDiff.is (abs_diff_greatest c.args.p c.args.x c.args.y _ _ _ _ c.turned.ensures.hi (rw c.in-AbsDiff.is at c.at_corners-range.ensures.hi) (rw c.level.ensures.points at c.at_corners.ensures.lo) (rw c.level.ensures.points at c.at_corners.ensures.hi))

pub returns-in_default : goal.returns-in_default
returns-in_default c = record {
  lo = c.at_corners-range.ensures.lo ∙ plain_least c.args.op c.args.p c.args.x c.args.y c.in_default.not-AbsDiff;
  hi = c.at_corners-range.ensures.hi ∙ plain_greatest c.args.op c.args.p c.args.x c.args.y c.in_default.not-AbsDiff;
}
