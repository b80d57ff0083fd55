use Rattle.std.proofs.Common.{◌-◌, ◌^◌, ap, ◌∙◌, arith}
use Rattle.std.proofs.lemmas.Nat.Bits.{ones_shr}
use Rattle.bfx_bits.proofs.patterns.ones.Goals as goal

pub returns-else-count-eq0 : goal.returns-else-count-eq0
returns-else-count-eq0 c = ones_shr 32 (32 - c.args.count) (omega arith) ∙ ap (λ k. 2 ^ k - 1) (omega (arith, c.requires))
