use Rattle.std.proofs.Common.{arith}
use Rattle.std.proofs.lemmas.List.Folds.{list_all_more}
use Rattle.std.specs.Char.{is_ascii_digit}
use Rattle.text_words.proofs.Digits.{number_digit_more}
use Rattle.text_words.proofs.number_reader.natural.Goals as goal

-- one digit more
pub loop-digit-preserved : goal.loop-digit-preserved
loop-digit-preserved c = record {
  digits = grind (arith, list_all_more is_ascii_digit c.args.digits.now c.loop-digit.digit-index 0 c.loop-digit-test.true);
  total = omega (arith, number_digit_more c.args.digits.now c.loop-digit.digit-index c.loop-digit.total c.loop-digit-test.true c.loop-digit.invariant.total);
}
