use Rattle.cert_rules.proofs.EntryFacts.{point-valid}
use Rattle.cert_rules.proofs.lookups.point_at.Goals as goal

pub returns-in-Num-clause-limit : goal.returns-in-Num-clause-limit
returns-in-Num-clause-limit c =
    point-valid c.args.net.now c.args.wire.0 _ _ _ c.requires.valid c.requires.there c.kind_at.ensures c.in-Num.is
