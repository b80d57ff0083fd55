use Rattle.std.proofs.Common.{◌-◌, ◌<◌, ◌≤ℤ◌, ◌<ℤ◌, length}
use Rattle.ifx_search.specs.Axes.{point_at}
use Rattle.ifx_search.proofs.searching.point_below.Given as goal

abbrev pub invariant-loop-high : goal.invariant-loop-high
invariant-loop-high l = (l.low < l.high) × (l.high < length l.axis.points) × (point_at l.axis.points l.low ≤ℤ l.x) × (l.x <ℤ point_at l.axis.points l.high)

abbrev pub decreases-loop-high : goal.decreases-loop-high
decreases-loop-high l = l.high - l.low
