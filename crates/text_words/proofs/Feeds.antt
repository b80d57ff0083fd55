-- A search for a line feed finds the end of a line.
use Rattle.std.proofs.Common.{◌≡◌, ℕ, Bool, true, false, not, List, length, refl, ap, arith, Some, None}
use Rattle.std.specs.List.{prefix_len}
use Rattle.std.proofs.lemmas.List.Sums.{prefix_len_is}
use Rattle.memchr.specs.Find.{IsFirstByte, is_byte}
use Rattle.text_words.specs.Lines.{is_line_feed}

-- the bytes before the first line feed
abbrev before_feed : List ℕ → ℕ
before_feed bytes = prefix_len (λ byte. not (is_line_feed byte)) bytes

not_so : (b : Bool) → (b ≡ true → ⊥) → not b ≡ true
not_so true h = absurd (h refl)
not_so false h = refl

-- where no byte is one, they are all
pub line_len_whole : (bytes : List ℕ) → IsFirstByte (is_byte 10) bytes None → before_feed bytes ≡ length bytes
line_len_whole bytes none =
    prefix_len_is (λ byte. not (is_line_feed byte)) bytes (length bytes) 0 (omega arith) (λ k lt. not_so _ (none k (omega arith) lt)) (λ lt. absurd (omega arith))

-- else they are those before its place
pub line_len_found : (bytes : List ℕ) (place : ℕ) → IsFirstByte (is_byte 10) bytes (Some place) → before_feed bytes ≡ place
line_len_found bytes place found =
    prefix_len_is (λ byte. not (is_line_feed byte)) bytes place 0 (omega (arith, found.0.high)) (λ k lt. not_so _ (found.0.before k (omega arith) lt)) (λ lt. ap not found.1)
