-- A field that is a number has no spaces or tabs round it, so it is read before it is trimmed.
use Rattle.std.proofs.Common.{◌≡◌, ◌∙◌, ℕ, ◌+◌, ◌-◌, ◌≤◌, Bool, true, false, ◌&&◌, List, [], ◌∷◌, length, get_or, drop, reverse, refl, sym, ap, arith, Option, Some, None, option_map, ℤ, pos, neg_ℤ, length-drop}
use Rattle.std.specs.Prelude.{◌==◌, nat_le, map, if◌then◌else◌}
use Rattle.std.specs.Char.{is_ascii_digit}
use Rattle.std.specs.Int.Digits.{number_from_digits}
use Rattle.std.specs.List.{list_all, prefix_len}
use Rattle.std.proofs.lemmas.Bool.{and_parts}
use Rattle.std.proofs.lemmas.Bool.Decides.{nat_tests}
use Rattle.std.proofs.lemmas.List.{get_or-drop, get_or-reverse, take_all}
use Rattle.std.proofs.lemmas.List.Sums.{AllPass-from_list_all}
use Rattle.text_words.specs.Lines.{is_space_or_tab}
use Rattle.text_words.specs.Numbers.{digit_of, held, natural_of, number_of}
use Rattle.rec_csv.specs.Fields.{trimmed}

-- ---- what trimming leaves as it is

-- where another byte is first no spaces or tabs stand before it
none_before : (bytes : List ℕ) → is_space_or_tab (get_or bytes 0 0) ≡ false → prefix_len is_space_or_tab bytes ≡ 0
none_before [] is = refl
none_before (byte ∷ bytes) is = rw is refl

-- where another byte is last none stand behind it
none_behind : (bytes : List ℕ) → 1 ≤ length bytes → is_space_or_tab (get_or bytes (length bytes - 1) 0) ≡ false → prefix_len is_space_or_tab (reverse bytes) ≡ 0
none_behind bytes some last =
    let at : length bytes - 1 - 0 ≡ length bytes - 1 = omega arith in
    none_before (reverse bytes) (ap is_space_or_tab (get_or-reverse bytes 0 0 (omega (arith, some)) ∙ ap (λ k. get_or bytes k 0) at) ∙ last)

-- so bytes with others at both ends are left
left_alone : (bytes : List ℕ) → 1 ≤ length bytes → is_space_or_tab (get_or bytes 0 0) ≡ false → is_space_or_tab (get_or bytes (length bytes - 1) 0) ≡ false → trimmed bytes ≡ bytes
left_alone bytes some first last =
    rw (none_before bytes first, none_behind bytes some last) (take_all (length bytes - 0) bytes (omega arith))

-- ---- digits

-- one or more digits
abbrev AreDigits : List ℕ → Type 0
AreDigits bytes = (1 ≤ length bytes) × (list_all is_ascii_digit bytes ≡ true)

-- none of them is a space or a tab
digit_at : (bytes : List ℕ) (k : ℕ) → AreDigits bytes → k + 1 ≤ length bytes → is_space_or_tab (get_or bytes k 0) ≡ false
digit_at bytes k digits lt =
    let is : is_ascii_digit (get_or bytes k 0) ≡ true = AllPass-from_list_all is_ascii_digit bytes digits.1 k 0 (omega (arith, lt)) in
    grind (arith, nat_tests)

-- what gave a number passed the test
passed : (made : ℕ → ℤ) (test : Bool) (n : ℕ) (z : ℤ) → option_map made (if test then Some n else None) ≡ Some z → test ≡ true
passed made true n z is = refl
passed made false n z is = absurd (cc)

-- bytes that write a number are digits
are_digits : (made : ℕ → ℤ) (bytes : List ℕ) (z : ℤ) → option_map made (natural_of bytes) ≡ Some z → AreDigits bytes
are_digits made bytes z is =
    let passes = passed made (nat_le 1 (length bytes) && list_all is_ascii_digit bytes) (number_from_digits 10 (map digit_of bytes)) z is in
    let tests = and_parts (nat_le 1 (length bytes)) (list_all is_ascii_digit bytes) passes in
    let some : nat_le 1 (length bytes) ≡ true = tests.0 in
    (grind (arith, nat_tests), tests.1)

-- ---- numbers

-- digits alone
unsigned : (field : List ℕ) → AreDigits field → trimmed field ≡ field
unsigned field digits = left_alone field digits.0 (digit_at field 0 digits (omega (arith, digits.0))) (digit_at field (length field - 1) digits (omega (arith, digits.0)))

-- digits behind a sign
signed : (field : List ℕ) → is_space_or_tab (get_or field 0 0) ≡ false → AreDigits (drop 1 field) → trimmed field ≡ field
signed field sign digits =
    let n = length (drop 1 field) in
    let less : n ≡ length field - 1 = length-drop 1 field in
    let at : 1 + (n - 1) ≡ length field - 1 = omega (arith, less, digits.0) in
    let last : get_or (drop 1 field) (n - 1) 0 ≡ get_or field (length field - 1) 0 = get_or-drop 1 field (n - 1) 0 ∙ ap (λ k. get_or field k 0) at in
    left_alone field (omega (arith, less, digits.0)) sign (ap is_space_or_tab (sym last) ∙ digit_at (drop 1 field) (n - 1) digits (omega (arith, digits.0)))

-- whatever the sign is
by_sign : (field : List ℕ) (z : ℤ) (plus minus : Bool) → (get_or field 0 0 == 43) ≡ plus → (get_or field 0 0 == 45) ≡ minus
    → (if plus then option_map (λ n. pos n) (natural_of (drop 1 field))
    else (if minus then option_map (λ n. neg_ℤ (pos n)) (natural_of (drop 1 field)) else option_map (λ n. pos n) (natural_of field))) ≡ Some z
    → trimmed field ≡ field
by_sign field z true minus p q is = signed field (grind (arith, nat_tests)) (are_digits (λ n. pos n) (drop 1 field) z is)
by_sign field z false true p q is = signed field (grind (arith, nat_tests)) (are_digits (λ n. neg_ℤ (pos n)) (drop 1 field) z is)
by_sign field z false false p q is = unsigned field (are_digits (λ n. pos n) field z is)

-- a field that is a number is trimmed as it is
number_is_trimmed : (field : List ℕ) (z : ℤ) → number_of field ≡ Some z → trimmed field ≡ field
unfolding number_of
number_is_trimmed field z is = by_sign field z (get_or field 0 0 == 43) (get_or field 0 0 == 45) refl refl is

-- so the number that it is, if it is one, is that of the trimmed field
number_read : (field : List ℕ) (value : ℤ) (number : Option ℤ) → number_of field ≡ number → Some value ≡ option_map held number → Some value ≡ option_map held (number_of (trimmed field))
number_read field value None is read = absurd (cc)
number_read field value (Some z) is read =
    read ∙ ap (option_map held) (sym is) ∙ ap (λ bytes. option_map held (number_of bytes)) (sym (number_is_trimmed field z is))

pub number_untrimmed : (field : List ℕ) (value : ℤ) → Some value ≡ option_map held (number_of field) → Some value ≡ option_map held (number_of (trimmed field))
number_untrimmed field value read = number_read field value (number_of field) refl read
