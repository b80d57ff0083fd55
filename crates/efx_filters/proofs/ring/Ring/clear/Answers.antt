use Rattle.std.proofs.Common.{◌≡◌, ℤ, ◌∙◌, List, ap, length, pos, replicate, rules}
use Rattle.efx_filters.proofs.RingTurns.{zeros_turned}
use Rattle.efx_filters.proofs.ring.Ring.clear.Goals as goal

pub returns : goal.returns
returns c =
    let zeros : c.fill.new.self.items ≡ replicate (length c.self.inside.slots.items) (pos 0) = search rules in
    zeros_turned c.self.inside.newest c.self.inside.slots.items c.fill.new.self.items c.self.invariant zeros
    ∙ ap (λ (xs : List ℤ). replicate (length xs) (pos 0)) c.self.view_is
