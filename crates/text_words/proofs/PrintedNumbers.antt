-- A printed number is read again.
use Rattle.std.proofs.Common.{◌≡◌, ℕ, ◌<◌, ◌^◌, true, false, cond, ◌&&◌, List, [], ◌∷◌, length, map, eqb, leb, ℤ, pos, negsuc, neg_ℤ, unsigned_abs, decimal, Some, None, option_map, refl, sym, ap, ◌∙◌, arith, suc}
use Rattle.std.specs.Char.{is_ascii_digit, digit_value}
use Rattle.std.specs.List.{list_all}
use Rattle.std.specs.Fmt.{signed_decimal}
use Rattle.std.specs.Int.Digits.{number_from_digits}
use Rattle.std.specs.Str.Parse.{AllDigits, digits_value}
use Rattle.std.proofs.lemmas.Bool.{and_from}
use Rattle.std.proofs.lemmas.Bool.Decides.{nat_tests}
use Rattle.std.proofs.lemmas.Fmt.{decimal_is_IsNumeral_wide}
use Rattle.std.proofs.lemmas.Int.Digits.{digits_value_is}
use Rattle.std.proofs.lemmas.Str.{digit_value_digit}
use Rattle.std.proofs.lemmas.Str.Parse.{digit_from_value}
use Rattle.text_words.specs.Numbers.{digit_of, natural_of, number_of}
use Rattle.text_words.proofs.PrintedWords.{digits_all}

-- what digits stand for is the same in both words
digits_same : (bytes : List ℕ) → AllDigits 10 bytes → map digit_value bytes ≡ map digit_of bytes
digits_same [] all = refl
digits_same (byte ∷ bytes) all =
    let value = digit_value_digit byte (digit_from_value byte all.0) in
    let here : digit_value byte ≡ digit_of byte = omega arith in
    ap (λ d. d ∷ map digit_value bytes) here ∙ ap (λ l. digit_of byte ∷ l) (digits_same bytes all.1)

-- digits without a sign are read as a natural number
natural_of_digits : (bytes : List ℕ) (n : ℕ) → 0 < length bytes → AllDigits 10 bytes → digits_value 10 bytes ≡ n → natural_of bytes ≡ Some n
natural_of_digits bytes n some all value =
    let passes : (leb 1 (length bytes) && list_all is_ascii_digit bytes) ≡ true = and_from _ _ (grind (arith, nat_tests)) (digits_all bytes all) in
    let number : number_from_digits 10 (map digit_of bytes) ≡ n = sym (ap (number_from_digits 10) (digits_same bytes all)) ∙ sym (digits_value_is 10 bytes) ∙ value in
    ap (λ b. cond b (Some (number_from_digits 10 (map digit_of bytes))) None) passes ∙ ap (λ k. Some k) number

natural_of-decimal : (n : ℕ) → n < 10 ^ 64 → natural_of (decimal n) ≡ Some n
natural_of-decimal n small =
    let numeral = decimal_is_IsNumeral_wide n small in
    natural_of_digits (decimal n) n numeral.0.0 numeral.0.1 numeral.1

-- a word that begins with a digit has no sign
number_of_unsigned : (bytes : List ℕ) → AllDigits 10 bytes → number_of bytes ≡ option_map (λ n. pos n) (natural_of bytes)
unfolding number_of
number_of_unsigned [] all = refl
number_of_unsigned (byte ∷ bytes) all =
    let range = digit_from_value byte all.0 in
    let plus : eqb byte 43 ≡ false = grind (arith, nat_tests, range) in
    let minus : eqb byte 45 ≡ false = grind (arith, nat_tests, range) in
    rw (plus, minus)

-- a number of at most 64 digits is read again
pub number_of-signed_decimal : (z : ℤ) → unsigned_abs z < 10 ^ 64 → number_of (signed_decimal z) ≡ Some z
unfolding number_of
number_of-signed_decimal (pos n) small =
    number_of_unsigned (decimal n) (decimal_is_IsNumeral_wide n small).0.1 ∙ ap (option_map (λ k. pos k)) (natural_of-decimal n small)
number_of-signed_decimal (negsuc n) small = ap (option_map (λ k. neg_ℤ (pos k))) (natural_of-decimal (suc n) small)
