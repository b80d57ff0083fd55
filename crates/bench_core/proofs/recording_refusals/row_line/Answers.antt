use Rattle.std.proofs.Common.{◌≡◌, ◌++◌, ◌∷◌, [], ◌∙◌, ℕ, List, ap, append_assoc, vec_items}
use Rattle.std.specs.Prelude.{codes}
use Rattle.bench_core.specs.RecordingTexts.{row_line}
use Rattle.bench_core.proofs.JoinedTexts.{joined_is}
use Rattle.bench_core.proofs.recording_refusals.row_line.Goals as goal

regrouped : (a b c d e f : List ℕ) → a ++ (b ++ (c ++ (d ++ (e ++ f)))) ≡ a ++ b ++ c ++ (d ++ e) ++ f
regrouped a b c d e f = simp append_assoc

pub returns : goal.returns
returns c =
    let front = c.args.front.now in
    let back = c.args.back.now in
    let row = c.as_bytes-row.result.now in
    let pieces = codes "row " ++ (row ++ (codes ": " ++ (front ++ (back ++ 10 ∷ [])))) in
    joined_is vec_items c.concat.result pieces (row_line c.args.number (front ++ back)) c.concat.ensures.ok (regrouped (codes "row ") row (codes ": ") front back (10 ∷ []) ∙ ap (λ r. codes "row " ++ r ++ codes ": " ++ (front ++ back) ++ 10 ∷ []) (c.as_bytes-row.ensures.value ∙ c.format.ensures.text))
