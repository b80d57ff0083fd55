use Rattle.std.proofs.Common.{◌++◌, ◌∷◌, [], ◌<◌, length, map, take, ap, ap₂, ◌∙◌, sym, arith, append_assoc}
use Rattle.bench_core.specs.RecordingTexts.{name_of}
use Rattle.bench_core.specs.PrintedRuns.{behind, joined}
use Rattle.bench_core.proofs.PrintedLines.{pieces_step, pieces_end}
use Rattle.bench_core.proofs.run_lines.push_names.Goals as goal

pub loop-i-preserved : goal.loop-i-preserved
loop-i-preserved c =
    let outs = c.outs-outs.result.now in
    let names = name_of c.args.network.now.wires in
    let old = c.args.text.now.items in
    let below : c.loop-i.i < length outs = omega (arith, c.loop-i-test.true, c.loop-i.auto.i-end) in
    let step = pieces_step names outs c.loop-i.i (record { 0 = 0 }) below in
    c.in_ok-push_piece.ensures ∙ ap₂ (λ l p. l ++ behind c.loop-i.i p) c.loop-i.invariant c.name_of.ensures ∙ append_assoc old (joined (map names (take c.loop-i.i outs))) (behind c.loop-i.i _) ∙ ap (λ l. old ++ l) (sym step)

pub returns : goal.returns
returns c =
    let outs = c.outs-outs.result.now in
    let names = name_of c.args.network.now.wires in
    let old = c.args.text.now.items in
    c.in_ok-push.ensures.items ∙ ap (λ l. l ++ 10 ∷ []) (c.loop-i.invariant ∙ ap (λ l. old ++ l) (pieces_end names outs c.loop-i.i c.loop-i-test.false)) ∙ append_assoc old (joined (map names outs)) (10 ∷ []) ∙ ap (λ numbers. old ++ (joined (map names numbers) ++ 10 ∷ [])) c.outs-outs.ensures.outs
