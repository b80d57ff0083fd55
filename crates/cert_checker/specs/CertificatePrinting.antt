-- The text of a certificate: its head, and a line for each part in their order, with one space between words.
use Rattle.std.specs.Prelude.{◌≡◌, ℕ, suc, List, [], ◌∷◌, length, codes, None, Ok}
use Rattle.std.specs.Fmt.{signed_decimal}
use Rattle.text_words.specs.Printed.{word_lines}
use Rattle.net_model.specs.Wires.{NetData, parts_of}
use Rattle.net_model.specs.Validity.{IsValid}
use Rattle.part_rules.specs.declared.bounds.Bounds.{Bounds}
use Rattle.cert_rules.specs.Proper.{first_improper}
use Rattle.cert_checker.specs.PartNames.{part_name}
use Rattle.cert_checker.specs.CertificateText.{certificate_of}

-- the words of the line of part number k
abbrev pub entry_words : NetData → ℕ → Bounds → List (List ℕ)
entry_words net k b =
    codes "part" ∷ part_name net k ∷ signed_decimal b.lo ∷ signed_decimal b.hi ∷ signed_decimal b.err ∷ []

-- the words of the lines of these entries, where the first is of part number k
abbrev pub entry_lines : NetData → ℕ → List Bounds → List (List (List ℕ))
entry_lines net k [] = []
entry_lines net k (b ∷ entries) = entry_words net k b ∷ entry_lines net (suc k) entries

-- the text of a certificate with these entries
unfoldable pub certificate_text : NetData → List Bounds → List ℕ
certificate_text net entries = word_lines ((codes "cert" ∷ codes "1" ∷ []) ∷ entry_lines net 0 entries)

-- entries that a certificate can have, one for each part of a valid network, are read again from their text
abbrev pub PrintedCertificatesAreRead : Type 0
PrintedCertificatesAreRead =
    (net : NetData) → (entries : List Bounds) → IsValid net → length entries ≡ length (parts_of net.wires)
    → first_improper entries ≡ None → certificate_of net (certificate_text net entries) ≡ Ok entries
