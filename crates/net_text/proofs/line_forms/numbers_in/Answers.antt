use Rattle.std.proofs.Common.{rules, ◌≡◌, ◌<◌, ◌≤◌, ◌+◌, ◌∷◌, ◌++◌, [], Ok, Err, FitsSigned, w64, to_z-of_z, ℤ, pos, length, get_or, arith, ap, ◌∙◌, length-append}
use Rattle.text_words.specs.Lines.{nth, words_of}
use Rattle.net_model.specs.declared.network.NetKind.{NetKind}
use Rattle.net_text.specs.Forms.{numbers_in, number_in}
use Rattle.net_text.proofs.LineSteps.{numbers_step, numbers_stop, numbers_end}
use Rattle.net_text.proofs.line_forms.numbers_in.Goals as goal

pub loop-i-preserved : goal.loop-i-preserved
loop-i-preserved c =
    let i = c.loop-i.i in
    let n : ℤ = c.in_ok-number_in.field-0 in
    let words = words_of c.args.line.now in
    let ranges = c.args.ranges.now in
    let k = c.args.first + i in
    let lt : i < length ranges = omega arith in
    let found : number_in (get_or ranges i (record { low = pos 0; high = 0 })) (nth words k) ≡ Ok n = search rules in
    let more : length (c.loop-i.numbers) ≡ i = c.loop-i.invariant.1 in
    let fits : FitsSigned w64 n = search rules in
    let pushed : c.push.new.self ≡ c.loop-i.numbers ++ n ∷ [] = c.push.ensures ∙ ap (λ m. c.loop-i.numbers ++ m ∷ []) (to_z-of_z fits) in (
      numbers_step c.loop-i.numbers c.push.new.self n ranges i k (c.args.first + (i + 1)) words (numbers_in ranges c.args.first words) lt (omega arith) pushed found c.loop-i.invariant.0,
      ap length pushed ∙ length-append c.loop-i.numbers (n ∷ []) ∙ ap (λ n. n + 1) more,
    )

pub returns-in_err-number_in : goal.returns-in_err-number_in
returns-in_err-number_in c =
    let i = c.loop-i.i in
    let e : NetKind = c.in_err-number_in.field-0.0 in
    let words = words_of c.args.line.now in
    let ranges = c.args.ranges.now in
    let k = c.args.first + i in
    let lt : i < length ranges = omega arith in
    let found : number_in (get_or ranges i (record { low = pos 0; high = 0 })) (nth words k) ≡ Err e = search rules in
    let gives : c.from_residual.result ≡ Err e = search rules in
    gives ∙ numbers_stop c.loop-i.numbers e ranges i k words (numbers_in ranges c.args.first words) lt found c.loop-i.invariant.0

pub returns : goal.returns
returns c =
    let i = c.loop-i.i in
    let words = words_of c.args.line.now in
    let past : length c.args.ranges.now ≤ i = omega arith in
    numbers_end c.loop-i.numbers c.args.ranges.now i (c.args.first + i) words (numbers_in c.args.ranges.now c.args.first words) past c.loop-i.invariant.0
