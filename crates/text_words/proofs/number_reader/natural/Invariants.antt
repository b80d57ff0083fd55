-- The digits so far are digits, and the total is the number that they write, or the greatest of 64 bits.
use Rattle.std.proofs.Common.{◌≡◌, true, ◌-◌, ◌^◌, min, map, take}
use Rattle.std.specs.Char.{is_ascii_digit}
use Rattle.std.specs.Int.Digits.{number_from_digits}
use Rattle.std.specs.List.{list_all}
use Rattle.text_words.specs.Numbers.{digit_of}
use Rattle.text_words.proofs.number_reader.natural.Given as goal

abbrev pub invariant-loop-digit : goal.invariant-loop-digit
invariant-loop-digit l = record {
  digits : list_all is_ascii_digit (take l.digit-index l.digits) ≡ true;
  total : l.total ≡ min (2 ^ 64 - 1) (number_from_digits 10 (map digit_of (take l.digit-index l.digits)));
}
