use Rattle.std.proofs.Common.{◌∙◌}
use Rattle.mfx_rules.proofs.ArithCornerHulls.{abs_diff_greatest, abs_diff_least, abs_greatest, abs_least, plain_greatest, plain_least}
use Rattle.mfx_rules.proofs.arith_ranges.range_of.Goals as goal

pub returns-in-AbsDiff-clause-lo : goal.returns-in-AbsDiff-clause-lo
returns-in-AbsDiff-clause-lo c =
    rw c.in-AbsDiff.is (abs_diff_least c.args.shift c.args.x c.args.y c.args.z _ _ _ _ c.turned.ensures.lo (rw c.in-AbsDiff.is at c.at_corners-range.ensures.lo) c.at_corners.ensures.lo c.at_corners.ensures.hi)

pub returns-in-AbsDiff-clause-hi : goal.returns-in-AbsDiff-clause-hi
returns-in-AbsDiff-clause-hi c =
    rw c.in-AbsDiff.is (abs_diff_greatest c.args.shift c.args.x c.args.y c.args.z _ _ _ _ c.turned.ensures.hi (rw c.in-AbsDiff.is at c.at_corners-range.ensures.hi) c.at_corners.ensures.lo c.at_corners.ensures.hi)

pub returns-in-Abs-clause-lo : goal.returns-in-Abs-clause-lo
returns-in-Abs-clause-lo c =
    rw c.in-Abs.is (abs_least c.args.shift c.args.x c.args.y c.args.z _ _ _ _ c.turned-in-Abs.ensures.lo (rw c.in-Abs.is at c.at_corners-range.ensures.lo) c.ends.ensures.lo c.ends.ensures.hi)

pub returns-in-Abs-clause-hi : goal.returns-in-Abs-clause-hi
returns-in-Abs-clause-hi c =
    rw c.in-Abs.is (abs_greatest c.args.shift c.args.x c.args.y c.args.z _ _ _ _ c.turned-in-Abs.ensures.hi (rw c.in-Abs.is at c.at_corners-range.ensures.hi) c.ends.ensures.lo c.ends.ensures.hi)

pub returns-in_default : goal.returns-in_default
returns-in_default c = record {
  lo = c.at_corners-range.ensures.lo ∙ plain_least c.args.op c.args.shift c.args.x c.args.y c.args.z c.in_default.not-AbsDiff c.in_default.not-Abs;
  hi = c.at_corners-range.ensures.hi ∙ plain_greatest c.args.op c.args.shift c.args.x c.args.y c.args.z c.in_default.not-AbsDiff c.in_default.not-Abs;
}
