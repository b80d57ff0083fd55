use Rattle.fx_fraction.proofs.WholeNumbers.{int_mul_not_negative}
use Rattle.part_rules.proofs.Sizes.{product_size, product_fits, product_word}
use Rattle.part_rules.proofs.errors.product.Goals as goal

pub overflow_mul-result : goal.overflow_mul-result
overflow_mul-result c =
    product_fits c.args.x c.args.y c.ranges.x c.ranges.y c.requires.first_low c.requires.first_high c.requires.second_low c.requires.second_high

pub returns-clause-value : goal.returns-clause-value
returns-clause-value c =
    product_word c.args.x c.args.y c.ranges.x c.ranges.y c.requires.first_low c.requires.first_high c.requires.second_low c.requires.second_high

pub returns-clause-low : goal.returns-clause-low
returns-clause-low c =
    rw (returns-clause-value c) (int_mul_not_negative c.args.x c.args.y c.requires.first_low c.requires.second_low)

pub returns-clause-size : goal.returns-clause-size
returns-clause-size c = λ m n h k.
    rw (returns-clause-value c) (product_size c.args.x c.args.y m n c.requires.first_low c.requires.second_low h k)
