use Rattle.std.proofs.Common.{◌∙◌, ap, ◌%◌, nat_eq}
use Rattle.std.specs.Int.{w32}
use Rattle.std.specs.Prelude.{unsigned_abs}
use Rattle.std.proofs.lemmas.Int.{to_z-of_z}
use Rattle.efx_rules.proofs.WholeGains.{whole_by_remainder}
use Rattle.efx_rules.proofs.filter_errors.is_whole_gain.Goals as goal

pub returns : goal.returns
returns c =
    ap (λ n. nat_eq (n % 65536) 0) (c.unsigned_abs.ensures.value ∙ ap unsigned_abs (to_z-of_z w32 c.args.k c.ranges.k)) ∙ whole_by_remainder c.args.k
