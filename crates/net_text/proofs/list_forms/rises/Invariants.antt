use Rattle.std.proofs.Common.{◌≡◌, ◌-◌, ◌≤◌, drop}
use Rattle.net_text.specs.Forms.{rises}
use Rattle.net_text.proofs.list_forms.rises.Given as goal

-- what is left decides, with the number before it
abbrev pub invariant-loop-i : goal.invariant-loop-i
invariant-loop-i l = (rises (drop (l.i - 1) l.numbers) ≡ rises l.numbers) × (1 ≤ l.i)
