-- A number read from its digits, cut off at the greatest of 64 bits on the way.
use Rattle.std.proofs.Common.{Option, Some, None, option_map, ℤ, to_z, of_z, to_z-of_z, w64, refl, zero, suc, pos, negsuc, neg_ℤ, ◌≡◌, ℕ, ◌+◌, ◌-◌, ◌*◌, ◌^◌, ◌<◌, min, true, false, List, map, length, get_or, take, sym, ap, ◌∙◌, arith}
use Rattle.std.specs.Char.{is_ascii_digit}
use Rattle.std.specs.Int.Digits.{number_from_digits}
use Rattle.std.specs.List.{list_all}
use Rattle.std.proofs.lemmas.List.{map_push, take_more}
use Rattle.std.proofs.lemmas.Int.Digits.{number_push}
use Rattle.std.proofs.lemmas.List.Sums.{AllPass-from_list_all}
use Rattle.text_words.proofs.Held.{held_fits}
use Rattle.text_words.specs.Numbers.{digit_of, held}

-- one digit more, where both are capped on the way
pub number_digit_more : (bytes : List ℕ) (i total : ℕ) → i < length bytes → total ≡ min (2 ^ 64 - 1) (number_from_digits 10 (map digit_of (take i bytes))) → min (min (total * 10) (2 ^ 64 - 1) + (get_or bytes i 0 - 48)) (2 ^ 64 - 1) ≡ min (2 ^ 64 - 1) (number_from_digits 10 (map digit_of (take (i + 1) bytes)))
number_digit_more bytes i total within is =
    let more : number_from_digits 10 (map digit_of (take (i + 1) bytes)) ≡ number_from_digits 10 (map digit_of (take i bytes)) * 10 + digit_of (get_or bytes i 0) =
    ap (λ l. number_from_digits 10 (map digit_of l)) (take_more bytes i 0 within)
    ∙ ap (number_from_digits 10) (map_push digit_of (take i bytes) (get_or bytes i 0))
    ∙ number_push 10 (map digit_of (take i bytes)) (digit_of (get_or bytes i 0)) in
    omega (arith, more)

-- a byte that is no digit
pub no_digits_at : (bytes : List ℕ) (i : ℕ) → i < length bytes → is_ascii_digit (get_or bytes i 0) ≡ false → list_all is_ascii_digit bytes ≡ false
no_digits_at bytes i within not_digit =
    elim (list_all is_ascii_digit bytes) as (λ b. list_all is_ascii_digit bytes ≡ b → b ≡ false) [
      | true ↦ λ is. sym (AllPass-from_list_all is_ascii_digit bytes is i 0 within) ∙ not_digit
      | false ↦ λ is. refl
    ] refl

-- ---- what is held of a number of which the greatest of 64 bits is known

held_pos_capped : (n : ℕ) → held (pos (min (2 ^ 64 - 1) n)) ≡ held (pos n)
unfolding held
held_pos_capped n = ap (λ k. pos k) (omega arith)

held_negsuc_capped : (n : ℕ) → held (negsuc (min (2 ^ 64 - 2) n)) ≡ held (negsuc n)
unfolding held
held_negsuc_capped n = ap (λ k. negsuc k) (omega arith)

held_neg_capped : (n : ℕ) → held (neg_ℤ (pos (min (2 ^ 64 - 1) n))) ≡ held (neg_ℤ (pos n))
held_neg_capped zero = refl
held_neg_capped (suc n) =
    let same : min (2 ^ 64 - 1) (suc n) ≡ suc (min (2 ^ 64 - 2) n) = omega arith in
    ap (λ k. held (neg_ℤ (pos k))) same ∙ held_negsuc_capped n

-- what the sign makes of a number that its digits gave, capped
pub positive_is : (n : Option ℕ) (size : ℕ) (r : ℤ) → Some size ≡ option_map (min (2 ^ 64 - 1)) n → r ≡ held (pos size) → Some (to_z w64 (of_z w64 r)) ≡ option_map (λ k. held (pos k)) n
positive_is None size r is r_is = cc
positive_is (Some n) size r is r_is =
    let same : size ≡ min (2 ^ 64 - 1) n = cc in
    let held_is = r_is ∙ ap (λ k. held (pos k)) same ∙ held_pos_capped n in
    ap (λ z. Some (to_z w64 (of_z w64 z))) held_is ∙ ap (λ z. Some z) (to_z-of_z (held_fits (pos n)))

pub negative_is : (n : Option ℕ) (size : ℕ) (r : ℤ) → Some size ≡ option_map (min (2 ^ 64 - 1)) n → r ≡ held (neg_ℤ (pos size)) → Some (to_z w64 (of_z w64 r)) ≡ option_map (λ k. held (neg_ℤ (pos k))) n
negative_is None size r is r_is = cc
negative_is (Some n) size r is r_is =
    let same : size ≡ min (2 ^ 64 - 1) n = cc in
    let held_is = r_is ∙ ap (λ k. held (neg_ℤ (pos k))) same ∙ held_neg_capped n in
    ap (λ z. Some (to_z w64 (of_z w64 z))) held_is ∙ ap (λ z. Some z) (to_z-of_z (held_fits (neg_ℤ (pos n))))
