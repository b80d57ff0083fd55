use Rattle.std.proofs.Common.{◌∙◌, ap, ◌*ℤ◌}
use Rattle.mfx_arith.proofs.WordProducts.{product_step, shift_step}
use Rattle.mfx_arith.proofs.integers.Integer.shifted_left.Goals as goal

pub overflow_mul-result : goal.overflow_mul-result
overflow_mul-result c =
    let factor = shift_step c.args.shift c.from.result c.requires.shift c.from.ensures in
    (product_step c.args.self.number c.from.result c.requires.number factor.size).fits

pub returns-clause-value : goal.returns-clause-value
returns-clause-value c =
    let factor = shift_step c.args.shift c.from.result c.requires.shift c.from.ensures in
    (product_step c.args.self.number c.from.result c.requires.number factor.size).value ∙ ap (λ f. c.args.self.number *ℤ f) factor.value

pub returns-clause-size : goal.returns-clause-size
returns-clause-size c =
    let factor = shift_step c.args.shift c.from.result c.requires.shift c.from.ensures in
    (product_step c.args.self.number c.from.result c.requires.number factor.size).size
