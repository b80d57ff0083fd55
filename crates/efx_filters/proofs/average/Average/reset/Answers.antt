use Rattle.std.proofs.Common.{length}
use Rattle.efx_filters.proofs.WindowSums.{zeros_kept}
use Rattle.efx_filters.proofs.average.Average.reset.Goals as goal

pub invariant_of-self : goal.invariant_of-self
invariant_of-self c = zeros_kept c.self.inside.x c.self.inside.n (length c.self.inside.inputs) c.clear.new.self c.clear.ensures c.self.invariant.0 c.self.invariant.1
