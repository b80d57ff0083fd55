use Rattle.std.proofs.Common.{sym, ◌∙◌}
use Rattle.text_words.proofs.Digits.{positive_is}
use Rattle.text_words.proofs.number_reader.positive.Goals as goal

-- the capped size is held as the number itself is
pub returns : goal.returns
returns c = positive_is _ _ _ (sym c.in_ok-size.was ∙ c.natural.ensures) c.held_positive.ensures
