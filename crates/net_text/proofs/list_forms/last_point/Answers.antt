use Rattle.std.proofs.Common.{to_z-of_z, refl}
use Rattle.net_text.proofs.ListFacts.{last_fits}
use Rattle.net_text.proofs.list_forms.last_point.Goals as goal

pub overflow_add-result : goal.overflow_add-result
overflow_add-result c =
    let f = last_fits c.args.offset c.args.step c.args.count c.requires.steps c.requires.first in
    rw (to_z-of_z c.ranges.offset, to_z-of_z c.ranges.count, to_z-of_z c.ranges.step, to_z-of_z f.less, to_z-of_z f.way) f.sum

pub returns : goal.returns
returns c =
    let f = last_fits c.args.offset c.args.step c.args.count c.requires.steps c.requires.first in
    rw (to_z-of_z c.ranges.offset, to_z-of_z c.ranges.count, to_z-of_z c.ranges.step, to_z-of_z f.less, to_z-of_z f.way, to_z-of_z f.sum) refl
