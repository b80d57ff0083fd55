use Rattle.std.proofs.Common.{◌≡◌, ◌≤◌, ◌+◌, ◌∙◌, ◌*ℤ◌, ap₂}
use Rattle.std.specs.Prelude.{unsigned_abs}
use Rattle.mfx_rules.proofs.ScaledCornerValues.{abs_diff_value, add_value, convert_value, div_value, mul_value, sub_value}
use Rattle.mfx_rules.proofs.scaled_values.value_at.Goals as goal

pub returns-in-Convert : goal.returns-in-Convert
returns-in-Convert c =
    rw c.in-Convert.is (convert_value c.args.p c.args.x.number c.args.y.number _ _ _ c.at_point-first.ensures.number c.at_point-first.ensures.point c.moved.ensures)

pub returns-in-Add : goal.returns-in-Add
returns-in-Add c =
    rw c.in-Add.is (add_value c.args.p c.args.x.number c.args.y.number _ _ _ _ _ _ _ _ c.at_point-first.ensures.number c.at_point-second.ensures.number c.at_point-first.ensures.point c.at_point-second.ensures.point c.highest.ensures c.plus.ensures.number c.plus.ensures.point c.lowered.ensures)

pub returns-in-Sub : goal.returns-in-Sub
returns-in-Sub c =
    rw c.in-Sub.is (sub_value c.args.p c.args.x.number c.args.y.number _ _ _ _ _ _ _ _ c.at_point-first.ensures.number c.at_point-second.ensures.number c.at_point-first.ensures.point c.at_point-second.ensures.point c.highest-in-Sub.ensures c.minus.ensures.number c.minus.ensures.point c.lowered-in-Sub.ensures)

pub returns-in-AbsDiff : goal.returns-in-AbsDiff
returns-in-AbsDiff c =
    rw c.in-AbsDiff.is (abs_diff_value c.args.p c.args.x.number c.args.y.number _ _ _ _ _ _ _ _ _ _ c.at_point-first.ensures.number c.at_point-second.ensures.number c.at_point-first.ensures.point c.at_point-second.ensures.point c.highest-in-AbsDiff.ensures c.minus-in-AbsDiff.ensures.number c.minus-in-AbsDiff.ensures.point c.absolute.ensures.number c.absolute.ensures.point c.lowered-in-AbsDiff.ensures)

pub returns-in-Mul : goal.returns-in-Mul
returns-in-Mul c =
    let number : c.times.result.number ≡ c.args.x.number *ℤ c.args.y.number = c.times.ensures.number ∙ ap₂ (λ n k. n *ℤ k) c.at_point-first.ensures.number c.at_point-second.ensures.number in
    rw c.in-Mul.is (mul_value c.args.p c.args.x.number c.args.y.number _ _ _ number (c.times.ensures.point ∙ ap₂ (λ a b. a + b) c.at_point-first.ensures.point c.at_point-second.ensures.point) c.moved-in-Mul.ensures)

pub returns-in-Div : goal.returns-in-Div
returns-in-Div c =
    let some : 1 ≤ unsigned_abs c.args.y.number = rw c.in-Div.is at c.requires.divisor in
    rw c.in-Div.is (div_value c.args.p c.args.x.number c.args.y.number _ _ _ _ _ c.at_point-first.ensures.number c.at_point-second.ensures.number c.at_point-first.ensures.point c.at_point-second.ensures.point some c.quotient.ensures)
