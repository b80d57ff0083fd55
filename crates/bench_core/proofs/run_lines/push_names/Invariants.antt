use Rattle.std.proofs.Common.{◌≡◌, ◌++◌, map, take}
use Rattle.bench_core.specs.RecordingTexts.{name_of}
use Rattle.bench_core.specs.PrintedRuns.{joined}
use Rattle.bench_core.proofs.run_lines.push_names.Given as goal

abbrev pub invariant-loop-i : goal.invariant-loop-i
invariant-loop-i l = l.text.items ≡ l.fn.text.items ++ joined (map (name_of l.network.wires) (take l.i l.outs))
