use Rattle.std.proofs.Common.{◌∙◌, refl}
use Rattle.part_rules.proofs.Sizes.{above_words, small_dividend, power_some, shifted_by}
use Rattle.part_rules.proofs.errors.shifted_error.Goals as goal

pub overflow_add-result : goal.overflow_add-result
overflow_add-result c =
    (above_words c.args.err c.power_of_two.result _ _ c.ceil_div.result c.requires.low (small_dividend c.args.err c.requires.high) (power_some c.args.shift _ c.power_of_two.ensures.value) (record { sfits = c.power_of_two.type_inv }) refl c.power_of_two.ensures.value c.ceil_div.ensures.value).fits

pub returns-else-shift-eq0 : goal.returns-else-shift-eq0
returns-else-shift-eq0 c =
    (above_words c.args.err c.power_of_two.result _ _ c.ceil_div.result c.requires.low (small_dividend c.args.err c.requires.high) (power_some c.args.shift _ c.power_of_two.ensures.value) (record { sfits = c.power_of_two.type_inv }) refl c.power_of_two.ensures.value c.ceil_div.ensures.value).value ∙ shifted_by c.args.shift c.args.err c.if-shift-eq0.false
