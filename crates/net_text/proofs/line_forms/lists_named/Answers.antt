use Rattle.std.proofs.Common.{rules, ◌≡◌, ◌<◌, ◌≤◌, ◌+◌, ◌∷◌, [], Ok, Err, ℕ, length, get_or, arith, ap, ◌∙◌, length-append}
use Rattle.text_words.specs.Lines.{nth, words_of}
use Rattle.fx_core.specs.declared.word_type.Ty.TheVariants.{U8}
use Rattle.net_model.specs.declared.network.NetKind.{NetKind}
use Rattle.net_model.specs.declared.signatures.ListSort.{ListSort}
use Rattle.net_model.specs.declared.signatures.ListSort.TheVariants.{AxisOf}
use Rattle.net_text.specs.Forms.{lists_named, list_named}
use Rattle.net_text.proofs.LineSteps.{lists_step, lists_stop, lists_end}
use Rattle.net_text.proofs.line_forms.lists_named.Goals as goal

pub loop-i-preserved : goal.loop-i-preserved
loop-i-preserved c =
    let i = c.loop-i.i in
    let n : ℕ = c.in_ok-list_named.field-0 in
    let words = words_of c.args.line.now in
    let net = c.args.above.now.net in
    let sorts = c.args.sorts.now in
    let k = c.args.first + i in
    let d : ListSort = AxisOf U8 in
    let lt : i < length sorts = omega arith in
    let named : list_named net (get_or sorts i d) (nth words k) ≡ Ok n = search rules in
    let more : length (c.loop-i.lists) ≡ i = c.loop-i.invariant.1 in (
      lists_step net c.loop-i.lists c.push.new.self n sorts d i k (c.args.first + (i + 1)) words (lists_named net sorts c.args.first words) lt (omega arith) c.push.ensures named c.loop-i.invariant.0,
      ap length c.push.ensures ∙ length-append c.loop-i.lists (n ∷ []) ∙ ap (λ n. n + 1) more,
    )

pub returns-in_err-list_named : goal.returns-in_err-list_named
returns-in_err-list_named c =
    let i = c.loop-i.i in
    let e : NetKind = c.in_err-list_named.field-0.0 in
    let words = words_of c.args.line.now in
    let net = c.args.above.now.net in
    let sorts = c.args.sorts.now in
    let k = c.args.first + i in
    let d : ListSort = AxisOf U8 in
    let lt : i < length sorts = omega arith in
    let named : list_named net (get_or sorts i d) (nth words k) ≡ Err e = search rules in
    let gives : c.from_residual.result ≡ Err e = search rules in
    gives ∙ lists_stop net c.loop-i.lists e sorts d i k words (lists_named net sorts c.args.first words) lt named c.loop-i.invariant.0

pub returns : goal.returns
returns c =
    let i = c.loop-i.i in
    let words = words_of c.args.line.now in
    let net = c.args.above.now.net in
    let past : length c.args.sorts.now ≤ i = omega arith in
    lists_end net c.loop-i.lists c.args.sorts.now i (c.args.first + i) words (lists_named net c.args.sorts.now c.args.first words) past c.loop-i.invariant.0
