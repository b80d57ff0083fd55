-- Which words are printed words.
use Rattle.std.proofs.Common.{◌≡◌, ℕ, ◌<◌, ◌^◌, Bool, true, false, not, ◌==◌, ◌&&◌, List, [], ◌∷◌, ◌++◌, length, eqb, leb, ℤ, pos, negsuc, unsigned_abs, decimal, refl, ◌∙◌, arith, suc}
use Rattle.std.specs.Char.{is_ascii_digit, is_ascii_graphic}
use Rattle.std.specs.List.{list_all}
use Rattle.std.specs.Fmt.{signed_decimal}
use Rattle.std.specs.Str.Parse.{AllDigits}
use Rattle.std.proofs.lemmas.Bool.{and_parts, and_from}
use Rattle.std.proofs.lemmas.Bool.Decides.{nat_tests}
use Rattle.std.proofs.lemmas.Fmt.{decimal_is_IsNumeral_wide}
use Rattle.std.proofs.lemmas.List.Folds.{list_all-append}
use Rattle.std.proofs.lemmas.Str.Parse.{digit_from_value}
use Rattle.text_words.specs.Names.{begins_name, continues_name, is_name}

-- a byte of a printed word, from `!` to `~`: no space, no tab, no end of a line, and none above 127
abbrev pub is_printed : ℕ → Bool
is_printed byte = is_ascii_graphic byte

-- one of these that may begin a word: `#` begins a comment
abbrev pub begins_word : ℕ → Bool
begins_word byte = is_printed byte && not (byte == 35)

-- a printed word: one or more of these bytes, of which the first isn't `#`
abbrev pub is_word : List ℕ → Bool
is_word [] = false
is_word (byte ∷ bytes) = begins_word byte && list_all is_printed bytes

-- words that can be printed as one line
abbrev pub are_words : List (List ℕ) → Bool
are_words words = list_all is_word words

-- ---- bytes of one sort are all of another

pub list_all_weaker : (p q : ℕ → Bool) → ((byte : ℕ) → p byte ≡ true → q byte ≡ true) → (bytes : List ℕ) → list_all p bytes ≡ true → list_all q bytes ≡ true
list_all_weaker p q weaker [] all = refl
list_all_weaker p q weaker (byte ∷ bytes) all =
    let parts = and_parts (p byte) (list_all p bytes) all in and_from _ _ (weaker byte parts.0) (list_all_weaker p q weaker bytes parts.1)

-- ---- put together

-- printed bytes behind printed bytes
pub printed-append : (front back : List ℕ) → list_all is_printed front ≡ true → list_all is_printed back ≡ true → list_all is_printed (front ++ back) ≡ true
printed-append front back first rest = list_all-append is_printed front back ∙ and_from _ _ first rest

-- a word's first byte, and the others
pub is_word_parts : (byte : ℕ) (bytes : List ℕ) → is_word (byte ∷ bytes) ≡ true → (begins_word byte ≡ true) × (list_all is_printed bytes ≡ true)
is_word_parts byte bytes is = and_parts (begins_word byte) (list_all is_printed bytes) is

printed_from_begins : (byte : ℕ) → begins_word byte ≡ true → is_printed byte ≡ true
printed_from_begins byte is = (and_parts (is_printed byte) (not (eqb byte 35)) is).0

-- the bytes of a word are printed
pub printed-word : (word : List ℕ) → is_word word ≡ true → list_all is_printed word ≡ true
printed-word [] is = cc
printed-word (byte ∷ bytes) is =
    let parts = is_word_parts byte bytes is in
    and_from _ _ (printed_from_begins byte parts.0) parts.1

-- printed bytes behind a word
pub is_word-append : (word bytes : List ℕ) → is_word word ≡ true → list_all is_printed bytes ≡ true → is_word (word ++ bytes) ≡ true
is_word-append [] bytes is rest = cc
is_word-append (byte ∷ front) bytes is rest =
    let parts = is_word_parts byte front is in
    and_from _ _ parts.0 (printed-append front bytes parts.1 rest)

-- ---- names

printed_in_name : (byte : ℕ) → continues_name byte ≡ true → is_printed byte ≡ true
printed_in_name byte is = grind (arith, nat_tests)

first_of_name : (byte : ℕ) → begins_name byte ≡ true → begins_word byte ≡ true
first_of_name byte is = grind (arith, nat_tests)

-- a name is a word
pub is_word-name : (name : List ℕ) → is_name name ≡ true → is_word name ≡ true
unfolding is_name
is_word-name [] is = cc
is_word-name (byte ∷ bytes) is =
    let parts = and_parts (leb (length (byte ∷ bytes)) 32 && begins_name byte) (list_all continues_name bytes) is in
    let first = (and_parts (leb (length (byte ∷ bytes)) 32) (begins_name byte) parts.0).1 in
    and_from _ _ (first_of_name byte first) (list_all_weaker continues_name is_printed printed_in_name bytes parts.1)

-- ---- numbers

first_of_digits : (byte : ℕ) → is_ascii_digit byte ≡ true → begins_word byte ≡ true
first_of_digits byte is = grind (arith, nat_tests)

printed_digit : (byte : ℕ) → is_ascii_digit byte ≡ true → is_printed byte ≡ true
printed_digit byte is = grind (arith, nat_tests)

-- digits are digits in the words of a number
pub digits_all : (bytes : List ℕ) → AllDigits 10 bytes → list_all is_ascii_digit bytes ≡ true
digits_all [] all = refl
digits_all (byte ∷ bytes) all =
    let range = digit_from_value byte all.0 in
    let digit : is_ascii_digit byte ≡ true = grind (arith, nat_tests, range) in
    and_from _ _ digit (digits_all bytes all.1)

is_word_digits : (bytes : List ℕ) → 0 < length bytes → list_all is_ascii_digit bytes ≡ true → is_word bytes ≡ true
is_word_digits [] some all = absurd (omega arith)
is_word_digits (byte ∷ bytes) some all =
    let parts = and_parts (is_ascii_digit byte) (list_all is_ascii_digit bytes) all in
    and_from _ _ (first_of_digits byte parts.0) (list_all_weaker is_ascii_digit is_printed printed_digit bytes parts.1)

-- the digits of a number, of at most 64 digits, are a word
is_word-decimal : (n : ℕ) → n < 10 ^ 64 → is_word (decimal n) ≡ true
is_word-decimal n small =
    let numeral = decimal_is_IsNumeral_wide n small in
    is_word_digits (decimal n) numeral.0.0 (digits_all (decimal n) numeral.0.1)

-- a number of at most 64 digits is a word
pub is_word-signed_decimal : (z : ℤ) → unsigned_abs z < 10 ^ 64 → is_word (signed_decimal z) ≡ true
is_word-signed_decimal (pos n) small = is_word-decimal n small
is_word-signed_decimal (negsuc n) small = and_from _ _ refl (printed-word (decimal (suc n)) (is_word-decimal (suc n) small))
