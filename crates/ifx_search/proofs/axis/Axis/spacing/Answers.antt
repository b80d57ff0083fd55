use Rattle.std.proofs.Common.{ap, sym}
use Rattle.ifx_search.specs.Axes.{stepped_points}
use Rattle.ifx_search.proofs.Points.{length-stepped_points}
use Rattle.ifx_search.proofs.axis.Axis.spacing.Goals as goal

pub returns-in-Stepped-clause-spaced : goal.returns-in-Stepped-clause-spaced
returns-in-Stepped-clause-spaced c =
    let grid = c.in-Stepped.grid in
    rw (← c.self.view_is, c.in-Stepped.is) (ap (stepped_points grid.offset grid.step) (sym (length-stepped_points grid.offset grid.step grid.count)))
