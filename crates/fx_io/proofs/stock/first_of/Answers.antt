use Rattle.std.proofs.Common.{sym, ap, ◌∙◌}
use Rattle.std.specs.Prelude.{is_some}
use Rattle.fx_io.proofs.PlaceLemmas.{bytes_at-found, bytes_of-missing, is_some-position}
use Rattle.fx_io.proofs.stock.first_of.Goals as goal

pub returns-in-Some-clause-found : goal.returns-in-Some-clause-found
returns-in-Some-clause-found c =
    ap is_some c.in-Some.ensures ∙ is_some-position c.args.files.now.items c.args.name.now

pub returns-in-Some-clause-bytes : goal.returns-in-Some-clause-bytes
returns-in-Some-clause-bytes c =
    bytes_at-found c.args.files.now.items c.args.name.now _ (sym c.in-Some.ensures)

pub returns-in-None-clause-found : goal.returns-in-None-clause-found
returns-in-None-clause-found c =
    ap is_some c.in-None.ensures ∙ is_some-position c.args.files.now.items c.args.name.now

pub returns-in-None-clause-bytes : goal.returns-in-None-clause-bytes
returns-in-None-clause-bytes c =
    bytes_of-missing c.args.files.now.items c.args.name.now (sym c.in-None.ensures)
