use Rattle.std.proofs.Common.{rules, ◌≡◌, ◌∙◌, ap, ap₂, arith, ◌+◌}
use Rattle.std.specs.Int.{w128}
use Rattle.std.proofs.lemmas.Int.{ints, to_z-of_z}
use Rattle.mfx_scaled.specs.Counts.{raised}
use Rattle.part_rules.specs.Errors.{magnitude}
use Rattle.part_rules.proofs.WordSteps.{word, is_error}
use Rattle.mfx_rules.proofs.ScaledSizes.{raised_high, raised_is, raised_low, raised_top}
use Rattle.mfx_rules.proofs.ScaledQuotients.{over_error}
use Rattle.mfx_rules.proofs.scaled_errors.quotient_at.Goals as goal

pub quotient_error-requires-clause-top_low : goal.quotient_error-requires-clause-top_low
quotient_error-requires-clause-top_low c =
    let plain : word c.magnitude.result ≡ c.magnitude.result = to_z-of_z w128 c.magnitude.result (record { sfits = c.magnitude.type_inv }) in
    let high = c.magnitude.ensures.high in
    raised_low (word c.magnitude.result) c.raised.result.number c.args.p.a c.max-high.result (rw plain c.magnitude.ensures.low) (rw plain (omega (arith, ints, high))) c.raised.ensures.number c.raised.ensures.size

pub quotient_error-requires-clause-top_high : goal.quotient_error-requires-clause-top_high
quotient_error-requires-clause-top_high c =
    let plain : word c.magnitude.result ≡ c.magnitude.result = to_z-of_z w128 c.magnitude.result (record { sfits = c.magnitude.type_inv }) in
    raised_top (word c.magnitude.result) c.raised.result.number c.args.p.a c.max-high.result (rw plain c.magnitude.ensures.low) (rw plain c.magnitude.ensures.high) c.raised.ensures.number c.raised.ensures.size

pub quotient_error-requires-clause-low : goal.quotient_error-requires-clause-low
quotient_error-requires-clause-low c =
    let is = (is_error c.args.x c.exact.result.number c.requires.dividend c.exact.ensures.number).value in
    raised_low c.exact.result.number c.raised-2.result.number c.exact.result.point c.max-high.result (rw is c.requires.dividend.positive) (rw is c.requires.dividend.near) c.raised-2.ensures.number c.raised-2.ensures.size

pub quotient_error-requires-clause-high : goal.quotient_error-requires-clause-high
quotient_error-requires-clause-high c =
    let is = (is_error c.args.x c.exact.result.number c.requires.dividend c.exact.ensures.number).value in
    raised_high c.exact.result.number c.raised-2.result.number c.exact.result.point c.max-high.result (rw is c.requires.dividend.positive) (rw is c.requires.dividend.near) c.raised-2.ensures.number c.raised-2.ensures.size

pub returns : goal.returns
returns c =
    let plain : word c.magnitude.result ≡ c.magnitude.result = to_z-of_z w128 c.magnitude.result (record { sfits = c.magnitude.type_inv }) in
    let high = c.magnitude.ensures.high in
    let is = (is_error c.args.x c.exact.result.number c.requires.dividend c.exact.ensures.number).value in
    let top : word c.raised.result.number ≡ raised (magnitude c.args.x) c.args.p.a c.max-high.result = raised_is (word c.magnitude.result) c.raised.result.number c.args.p.a c.max-high.result (rw plain c.magnitude.ensures.low) (rw plain (omega (arith, ints, high))) c.raised.ensures.number c.raised.ensures.size ∙ ap (λ n. raised n c.args.p.a c.max-high.result) (plain ∙ c.magnitude.ensures.value) in
    let err : word c.raised-2.result.number ≡ raised c.args.x.err c.args.p.a c.max-high.result = raised_is c.exact.result.number c.raised-2.result.number c.exact.result.point c.max-high.result (rw is c.requires.dividend.positive) (rw is c.requires.dividend.near) c.raised-2.ensures.number c.raised-2.ensures.size ∙ ap₂ (λ n a. raised n a c.max-high.result) is c.exact.ensures.point in
    to_z-of_z w128 c.quotient_error.result (record { sfits = c.quotient_error.type_inv }) ∙ c.quotient_error.ensures ∙ over_error c.args.p.a (c.args.p.c + c.args.p.b) c.max-high.result _ _ (magnitude c.args.x) c.args.x.err c.args.y (search rules) top err
