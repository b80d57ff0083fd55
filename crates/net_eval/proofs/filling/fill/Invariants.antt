use Rattle.std.proofs.Common.{◌≡◌, ◌≤◌, ℕ, take}
use Rattle.net_eval.specs.States.{state_at}
use Rattle.net_eval.specs.Steps.{states_of, values_of}
use Rattle.net_eval.proofs.filling.fill.Given as goal

abbrev pub invariant-loop-i : goal.invariant-loop-i
invariant-loop-i l =
    (take l.i l.values ≡ values_of l.net l.steps l.initial.states l.inputs l.i)
    × (take l.i l.states ≡ states_of l.net l.steps l.initial.states l.inputs l.i)
    × ((k : ℕ) → l.i ≤ k → state_at l.states k ≡ state_at l.initial.states k)
