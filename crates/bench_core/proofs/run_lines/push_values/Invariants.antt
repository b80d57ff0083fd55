use Rattle.std.proofs.Common.{◌≡◌, ◌++◌, map, take}
use Rattle.std.specs.Fmt.{signed_decimal}
use Rattle.bench_core.specs.PrintedRuns.{joined}
use Rattle.bench_core.proofs.run_lines.push_values.Given as goal

abbrev pub invariant-loop-i : goal.invariant-loop-i
invariant-loop-i l = l.text.items ≡ l.fn.text.items ++ joined (map signed_decimal (take l.i l.values))
