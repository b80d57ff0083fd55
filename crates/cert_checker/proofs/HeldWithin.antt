-- A number of a line, read from the nearest one of 64 signed bits.
use Rattle.std.proofs.Common.{◌≡◌, ◌∙◌, sym, ap₂, ℕ, ◌-◌, ◌^◌, ◌&&◌, List, ℤ, pos, negsuc, ◌<ℤ◌, ◌≤ℤ◌, int_le, Option, option_map, Result, Ok}
use Rattle.std.specs.Prelude.{ok_or}
use Rattle.std.proofs.lemmas.Bool.{and_parts}
use Rattle.text_words.specs.Numbers.{number_of, held}
use Rattle.text_words.proofs.Held.{held_least, held_most, held_between, tested_held}
use Rattle.cert_checker.specs.declared.faults.CertKind.{CertKind}
use Rattle.cert_checker.specs.declared.faults.CertKind.TheVariants.{BadNumber}
use Rattle.cert_checker.specs.CertificateText.{number_within}
use Rattle.text_words.specs.Steps.{◌>>=◌, demand}

-- the number between two ends, if it is there
abbrev pub within_from : ℤ → ℤ → Option ℤ → Result ℤ CertKind
within_from least greatest number = do
  value ← ok_or number BadNumber
  _ ← demand (int_le least value && int_le value greatest) BadNumber
  Ok value

-- a number between two ends is seen from the nearest one of 64 signed bits
pub number_within_held : (least greatest : ℤ) (word : List ℕ) → negsuc (2 ^ 63 - 1) <ℤ least → least ≤ℤ pos (2 ^ 63 - 1) → negsuc (2 ^ 63 - 1) ≤ℤ greatest → greatest <ℤ pos (2 ^ 63 - 1) → number_within least greatest word ≡ within_from least greatest (option_map held (number_of word))
unfolding number_within
number_within_held least greatest word l l' g g' =
    let answers : (z : ℤ) → (int_le least (held z) && int_le (held z) greatest) ≡ (int_le least z && int_le z greatest) = λ z. ap₂ (λ a b. a && b) (held_least least z l l') (held_most greatest z g g') in
    sym (tested_held (λ z. int_le least z && int_le z greatest) (λ z. z) BadNumber BadNumber (number_of word) answers (λ z h.
    let p = and_parts (int_le least (held z)) (int_le (held z) greatest) (answers z ∙ h) in
    held_between least greatest z l g' p.0 p.1))
