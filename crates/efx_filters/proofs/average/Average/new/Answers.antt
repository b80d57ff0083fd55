use Rattle.std.proofs.Common.{◌-◌, rules}
use Rattle.efx_filters.proofs.WindowSums.{zeros_kept}
use Rattle.efx_filters.proofs.average.Average.new.Goals as goal

pub invariant_of-result : goal.invariant_of-result
invariant_of-result c = zeros_kept c.args.x c.args.n (c.args.n - 1) c.in_ok-inputs.inputs (search rules) (search rules) c.requires.few
