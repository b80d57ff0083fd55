-- A certificate's text: the bounds that it says, one entry for each part of the network in their order, or its first
-- fault. How its lines are read is the crate of words'; so are words and numbers.
use Rattle.std.specs.Prelude.{ℕ, ◌^◌, Bool, ◌&&◌, ◌==◌, nat_lt, int_le, List, [], ◌∷◌, ◌++◌, length, ℤ, pos, neg_ℤ, codes, bytes_eq, ok_or, Result, Ok}
use Rattle.text_words.specs.Lines.{nth}
use Rattle.text_words.specs.Readers.{Reader, said_by}
use Rattle.text_words.specs.Numbers.{number_of}
use Rattle.net_model.specs.Wires.{NetData, parts_of}
use Rattle.text_words.specs.Steps.{◌>>=◌, demand}
use Rattle.part_rules.specs.declared.bounds.Bounds.{Bounds}
use Rattle.cert_checker.specs.declared.faults.CertKind.{CertKind}
use Rattle.cert_checker.specs.declared.faults.CertKind.TheVariants.{NoHead, BadLine, WrongPart, BadNumber, EmptyRange, Missing}
use Rattle.cert_checker.specs.declared.faults.CertFault.{CertFault}
use Rattle.cert_checker.specs.PartNames.{part_name}

-- a number of a line, which lies between two ends
unfoldable pub number_within : ℤ → ℤ → List ℕ → Result ℤ CertKind
number_within least greatest word = do
  value ← ok_or (number_of word) BadNumber
  _ ← demand (int_le least value && int_le value greatest) BadNumber
  Ok value

-- the most that a bound or an error may be in a text
abbrev pub most : ℤ
most = pos (2 ^ 62)

-- a name is that of the part behind those named so far
abbrev pub names_next : NetData → ℕ → List ℕ → Bool
names_next net k name = nat_lt k (length (parts_of net.wires)) && bytes_eq (part_name net k) name

-- `part NAME LO HI ERR`, where k parts stand above. The order of its lines is the order in which a line is tested
unfoldable pub part_line : NetData → ℕ → List (List ℕ) → Result Bounds CertKind
part_line net k words = do
  _ ← demand (bytes_eq (nth words 0) (codes "part") && (length words == 5)) BadLine
  _ ← demand (names_next net k (nth words 1)) WrongPart
  lo ← number_within (neg_ℤ most) most (nth words 2)
  hi ← number_within (neg_ℤ most) most (nth words 3)
  err ← number_within (pos 0) most (nth words 4)
  _ ← demand (int_le lo hi) EmptyRange
  Ok (record { lo = lo; hi = hi; err = err })

-- the entries so far, with that of one more line
abbrev pub after_part : NetData → List Bounds → List (List ℕ) → Result (List Bounds) CertKind
after_part net entries words = do
  entry ← part_line net (length entries) words
  Ok (entries ++ entry ∷ [])

-- how a certificate is read for these wires: below `cert 1` each line is the entry of the next part, and at the end
-- each part has one
abbrev pub certificate_reader : NetData → Reader (List Bounds) CertKind CertFault
certificate_reader net = record {
  keyword = codes "cert";
  no_head = NoHead;
  start = [];
  step = after_part net;
  is_complete = λ entries. length entries == length (parts_of net.wires);
  incomplete = Missing;
  fault = λ line kind. record { line = line; kind = kind };
}

-- the certificate of a text for these wires, or its first fault
unfoldable pub certificate_of : NetData → List ℕ → Result (List Bounds) CertFault
certificate_of net text = said_by (certificate_reader net) text
