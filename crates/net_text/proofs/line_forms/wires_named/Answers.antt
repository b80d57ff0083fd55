use Rattle.std.proofs.Common.{rules, ◌≡◌, ◌<◌, ◌≤◌, ◌+◌, ◌∷◌, [], Ok, Err, length, arith, ap, ◌∙◌, length-append}
use Rattle.text_words.specs.Lines.{nth, words_of}
use Rattle.net_model.specs.declared.network.NetKind.{NetKind}
use Rattle.net_model.specs.declared.wires.WireNo.{WireNo}
use Rattle.net_text.specs.Forms.{wires_named, wire_named}
use Rattle.net_text.proofs.LineSteps.{wires_step, wires_stop, wires_end}
use Rattle.net_text.proofs.line_forms.wires_named.Goals as goal

pub loop-i-preserved : goal.loop-i-preserved
loop-i-preserved c =
    let i = c.loop-i.i in
    let w : WireNo = c.in_ok-wire_named.field-0 in
    let words = words_of c.args.line.now in
    let all = c.args.above.now.net.wires in
    let lt : i < length c.args.sorts.now = omega arith in
    let named : wire_named all (nth words (5 + i)) ≡ Ok w = cc (c.in_ok-wire_named.ensures, c.word_at.ensures) in
    let more : length (c.loop-i.wires) ≡ i = c.loop-i.invariant.1 in (
      wires_step all c.loop-i.wires c.push.new.self w c.args.sorts.now i (5 + i) (5 + (i + 1)) words (wires_named all c.args.sorts.now 5 words) lt (omega arith) c.push.ensures named c.loop-i.invariant.0,
      ap length c.push.ensures ∙ length-append c.loop-i.wires (w ∷ []) ∙ ap (λ n. n + 1) more,
    )

pub returns-in_err-wire_named : goal.returns-in_err-wire_named
returns-in_err-wire_named c =
    let i = c.loop-i.i in
    let e : NetKind = c.in_err-wire_named.field-0.0 in
    let words = words_of c.args.line.now in
    let all = c.args.above.now.net.wires in
    let lt : i < length c.args.sorts.now = omega arith in
    let named : wire_named all (nth words (5 + i)) ≡ Err e = cc (c.in_err-wire_named.ensures, c.word_at.ensures) in
    let gives : c.from_residual.result ≡ Err e = search rules in
    gives ∙ wires_stop all c.loop-i.wires e c.args.sorts.now i (5 + i) words (wires_named all c.args.sorts.now 5 words) lt named c.loop-i.invariant.0

pub returns : goal.returns
returns c =
    let i = c.loop-i.i in
    let words = words_of c.args.line.now in
    let all = c.args.above.now.net.wires in
    let past : length c.args.sorts.now ≤ i = omega arith in
    wires_end all c.loop-i.wires c.args.sorts.now i (5 + i) words (wires_named all c.args.sorts.now 5 words) past c.loop-i.invariant.0
