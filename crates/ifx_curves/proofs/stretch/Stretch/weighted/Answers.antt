use Rattle.std.proofs.Common.{◌+◌, ◌-◌, ◌≤◌, arith}
use Rattle.ifx_curves.proofs.Means.{sum_fits, sum_value}
use Rattle.ifx_curves.proofs.stretch.Stretch.weighted.Goals as goal

pub overflow_add-result : goal.overflow_add-result
overflow_add-result c =
    let s = c.args.self.now in
    let few : s.span - s.way + s.way ≤ 65536 = omega (arith, s.end, s.few) in
    sum_fits c.args.low c.args.high c.from.result c.from-2.result (s.span - s.way) s.way c.from.ensures c.from-2.ensures c.requires.low c.requires.high few

pub returns : goal.returns
returns c =
    let s = c.args.self.now in
    let few : s.span - s.way + s.way ≤ 65536 = omega (arith, s.end, s.few) in
    sum_value c.args.low c.args.high c.from.result c.from-2.result (s.span - s.way) s.way c.from.ensures c.from-2.ensures c.requires.low c.requires.high few
