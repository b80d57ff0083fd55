-- The rules at worked values.
use Rattle.std.proofs.Common.{◌≡◌, true, false, [], ◌∷◌, ◌++◌, replicate, codes, Some, None, pos, negsuc, ◌^◌, ◌-◌, refl}
use Rattle.text_words.specs.Lines.{lines_from, lines_of, words_of}
use Rattle.text_words.specs.Names.{is_name}
use Rattle.text_words.specs.Numbers.{number_of, held}
use Rattle.text_words.specs.Printed.{word_lines}
use Rattle.text_words.proofs.PrintedWords.{is_word}

-- ---- lines

-- a carriage return before a line feed goes, and an empty last piece is no line
windows_lines : lines_of (codes "a" ++ 13 ∷ 10 ∷ codes "b" ++ 10 ∷ []) ≡ codes "a" ∷ codes "b" ∷ []
unfolding lines_of lines_from
windows_lines = refl

no_lines : lines_of [] ≡ []
unfolding lines_of lines_from
no_lines = refl

-- a line between two line feeds may be empty
empty_lines : lines_of (10 ∷ 10 ∷ codes "a") ≡ [] ∷ [] ∷ codes "a" ∷ []
unfolding lines_of lines_from
empty_lines = refl

-- a mark goes at the very start alone
mark_goes : lines_of (239 ∷ 187 ∷ 191 ∷ codes "a" ++ 10 ∷ 239 ∷ 187 ∷ 191 ∷ []) ≡ codes "a" ∷ (239 ∷ 187 ∷ 191 ∷ []) ∷ []
unfolding lines_of lines_from
mark_goes = refl

-- a lone carriage return at the end is a line, and one of two goes
lone_return : lines_of (codes "a" ++ 10 ∷ 13 ∷ []) ≡ codes "a" ∷ [] ∷ []
unfolding lines_of lines_from
lone_return = refl

two_returns : lines_of (codes "a" ++ 13 ∷ 13 ∷ 10 ∷ []) ≡ (codes "a" ++ 13 ∷ []) ∷ []
unfolding lines_of lines_from
two_returns = refl

-- ---- words

words_before_comment : words_of (codes "in a  s16" ++ 9 ∷ codes "0 # x") ≡ codes "in" ∷ codes "a" ∷ codes "s16" ∷ codes "0" ∷ []
unfolding words_of
words_before_comment = refl

-- inside a word `#` begins nothing
hash_inside : words_of (codes " a#b #c") ≡ codes "a#b" ∷ []
unfolding words_of
hash_inside = refl

-- a form feed and a zero byte are parts of words
form_feed_inside : words_of (codes "a" ++ 12 ∷ 0 ∷ codes "b c") ≡ (codes "a" ++ 12 ∷ 0 ∷ codes "b") ∷ codes "c" ∷ []
unfolding words_of
form_feed_inside = refl

no_words : words_of (32 ∷ 9 ∷ 32 ∷ []) ≡ []
unfolding words_of
no_words = refl

-- ---- numbers

leading_zeros : number_of (codes "+007") ≡ Some (pos 7)
unfolding number_of
leading_zeros = refl

minus_zero : number_of (codes "-0") ≡ Some (pos 0)
unfolding number_of
minus_zero = refl

minus_ten : number_of (codes "-10") ≡ Some (negsuc 9)
unfolding number_of
minus_ten = refl

any_length : number_of (codes "123456789012345678901234567890") ≡ Some (pos 123456789012345678901234567890)
unfolding number_of
any_length = refl

no_point : number_of (codes "12.5") ≡ None
unfolding number_of
no_point = refl

no_bytes : number_of [] ≡ None
unfolding number_of
no_bytes = refl

no_digits : number_of (codes "+") ≡ None
unfolding number_of
no_digits = refl

one_sign : number_of (codes "+-1") ≡ None
unfolding number_of
one_sign = refl

held_at_most : held (pos (2 ^ 63)) ≡ pos (2 ^ 63 - 1)
unfolding held
held_at_most = refl

held_at_least : held (negsuc (2 ^ 70)) ≡ negsuc (2 ^ 63 - 1)
unfolding held
held_at_least = refl

-- ---- names

name_of_32 : is_name (replicate 32 97) ≡ true
unfolding is_name
name_of_32 = refl

no_name_of_33 : is_name (replicate 33 97) ≡ false
unfolding is_name
no_name_of_33 = refl

name_with_digits : is_name (codes "_x9") ≡ true
unfolding is_name
name_with_digits = refl

no_name_from_digit : is_name (codes "9x") ≡ false
unfolding is_name
no_name_from_digit = refl

no_name_with_dash : is_name (codes "a-b") ≡ false
unfolding is_name
no_name_with_dash = refl

no_empty_name : is_name [] ≡ false
unfolding is_name
no_empty_name = refl

-- ---- printing

two_lines : word_lines ((codes "net" ∷ codes "1" ∷ []) ∷ (codes "out" ∷ []) ∷ []) ≡ codes "net 1" ++ 10 ∷ codes "out" ++ 10 ∷ []
two_lines = refl

-- inside a word `#` is printed
word_with_hash : is_word (codes "a#b") ≡ true
word_with_hash = refl

no_word_of_comment : is_word (codes "#b") ≡ false
no_word_of_comment = refl

no_word_with_space : is_word (codes "a b") ≡ false
no_word_with_space = refl

no_empty_word : is_word [] ≡ false
no_empty_word = refl
