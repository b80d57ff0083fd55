use Rattle.std.proofs.Common.{◌∙◌, rules, sym}
use Rattle.ifx_search.proofs.Points.{length-stepped_points}
use Rattle.ifx_search.proofs.axis.Axis.len.Goals as goal

pub returns-in-Stepped-clause-len : goal.returns-in-Stepped-clause-len
returns-in-Stepped-clause-len c =
    let grid = c.in-Stepped.grid in
    sym (length-stepped_points grid.offset grid.step grid.count) ∙ (search rules)
