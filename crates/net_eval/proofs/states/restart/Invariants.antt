use Rattle.std.proofs.Common.{◌≡◌, ◌≤◌, ℕ, take}
use Rattle.net_eval.specs.States.{starts_of, state_at}
use Rattle.net_eval.proofs.states.restart.Given as goal

abbrev pub invariant-loop-i : goal.invariant-loop-i
invariant-loop-i l =
    (take l.i l.states ≡ starts_of l.net l.i) × ((k : ℕ) → l.i ≤ k → state_at l.states k ≡ state_at l.initial.states k)
