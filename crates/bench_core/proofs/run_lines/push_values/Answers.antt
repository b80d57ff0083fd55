use Rattle.std.proofs.Common.{rules, FitsSigned, w64, get_or, ◌++◌, ◌<◌, length, map, take, pos, ap, ap₂, ◌∙◌, sym, arith, append_assoc}
use Rattle.std.proofs.lemmas.Int.{to_z-of_z}
use Rattle.std.specs.Fmt.{signed_decimal}
use Rattle.bench_core.specs.PrintedRuns.{behind, joined}
use Rattle.bench_core.proofs.PrintedLines.{pieces_step}
use Rattle.bench_core.proofs.run_lines.push_values.Goals as goal

pub loop-i-preserved : goal.loop-i-preserved
loop-i-preserved c =
    let values = c.args.values.now in
    let old = c.args.text.now.items in
    let below : c.loop-i.i < length values = omega (arith, c.loop-i-test.true, c.loop-i.auto.i-end) in
    let fits : FitsSigned w64 (get_or values c.loop-i.i (pos 0)) = search rules in
    let step = pieces_step signed_decimal values c.loop-i.i (pos 0) below in
    c.in_ok-push_piece.ensures ∙ ap₂ (λ l p. l ++ behind c.loop-i.i p) c.loop-i.invariant (c.as_bytes.ensures.value ∙ c.format.ensures.text ∙ ap signed_decimal (to_z-of_z w64 (get_or values c.loop-i.i (pos 0)) fits)) ∙ append_assoc old (joined (map signed_decimal (take c.loop-i.i values))) (behind c.loop-i.i _) ∙ ap (λ l. old ++ l) (sym step)
