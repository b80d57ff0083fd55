use Rattle.std.proofs.Common.{◌≤◌, length, arith}
use Rattle.net_text.specs.Forms.{rises}
use Rattle.net_text.proofs.ListFacts.{rises_end}
use Rattle.net_text.proofs.list_forms.rises.Goals as goal

pub returns : goal.returns
returns c =
    let past : length c.args.numbers.now ≤ c.loop-i.i = omega arith in
    rises_end c.args.numbers.now c.loop-i.i (rises c.args.numbers.now) past c.loop-i.invariant.0
