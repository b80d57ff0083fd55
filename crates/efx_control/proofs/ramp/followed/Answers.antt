use Rattle.std.proofs.Common.{◌≡◌, ◌+ℤ◌, ◌-ℤ◌, pos, rules, w64}
use Rattle.fx_core.proofs.WordSteps.{word_of}
use Rattle.efx_control.proofs.ramp.followed.Goals as goal

pub returns : goal.returns
returns c =
    let highest : word_of w64 (c.args.y +ℤ c.from.result) ≡ c.args.y +ℤ pos c.args.up = search rules in
    let lowest : word_of w64 (c.args.y -ℤ c.from-2.result) ≡ c.args.y -ℤ pos c.args.down = search rules in
    search (rules, highest, lowest)
