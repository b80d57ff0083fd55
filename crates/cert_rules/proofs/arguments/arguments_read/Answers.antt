use Rattle.std.proofs.Common.{ap, ◌∙◌, ◌++◌, ◌∷◌, [], map, take, length, arith}
use Rattle.cert_rules.specs.GivenBounds.{value_part}
use Rattle.cert_rules.proofs.GivenFacts.{all_collected, collected, few_collected}
use Rattle.cert_rules.proofs.arguments.arguments_read.Goals as goal

pub push-requires : goal.push-requires
push-requires c =
    let many = ap length c.loop-wire.invariant ∙ few_collected c.as_slice-wire-items.result.now c.loop-wire.wire-index c.loop-wire-test.true in
    (omega arith, omega (arith, many, c.loop-wire-test.true, ap length c.as_slice-wire-items.ensures.items, c.as_slice-wire-items.ensures.few))

pub loop-wire-preserved : goal.loop-wire-preserved
loop-wire-preserved c =
    c.push.ensures ∙ ap (λ parts. parts ++ c.part_on.result ∷ []) c.loop-wire.invariant ∙ ap (λ part. map (λ w. value_part w.0) (take c.loop-wire.wire-index c.as_slice-wire-items.result.now) ++ part ∷ []) c.part_on.ensures
    ∙ collected c.as_slice-wire-items.result.now c.loop-wire.wire-index c.loop-wire-test.true

pub returns : goal.returns
returns c =
    c.loop-wire.invariant
    ∙ ap (map (λ w. value_part w.0)) (all_collected c.as_slice-wire-items.result.now c.loop-wire.wire-index (omega (arith, c.loop-wire-test.false)) ∙ c.as_slice-wire-items.ensures.items ∙ ap (λ form. form.wires) c.form_of-form.ensures)
