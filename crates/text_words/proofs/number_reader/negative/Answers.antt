use Rattle.std.proofs.Common.{sym, ◌∙◌}
use Rattle.text_words.proofs.Digits.{negative_is}
use Rattle.text_words.proofs.number_reader.negative.Goals as goal

-- the capped size is held as the number itself is
pub returns : goal.returns
returns c = negative_is _ _ _ (sym c.in_ok-size.was ∙ c.natural.ensures) c.held_negative.ensures
