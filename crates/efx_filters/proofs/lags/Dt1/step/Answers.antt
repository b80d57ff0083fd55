use Rattle.std.proofs.Common.{rules}
use Rattle.efx_filters.proofs.Reductions.{is_drive}
use Rattle.efx_filters.proofs.lags.Dt1.step.Goals as goal

pub returns-clause-after : goal.returns-clause-after
returns-clause-after c =
    let drive = is_drive c.args.self.now c.args.x in
    search (rules, drive)

pub returns-clause-value : goal.returns-clause-value
returns-clause-value c =
    let drive = is_drive c.args.self.now c.args.x in
    search (rules, drive)
