-- Worked texts of certificates: one that is printed and read, and one of each fault.
use Rattle.std.specs.Fmt.{digits}
use Rattle.std.specs.Prelude.{◌≡◌, ℕ, List, [], ◌∷◌, ◌++◌, pos, negsuc, Ok, Err, refl, codes}
use Rattle.text_words.specs.Lines.{lines_of, lines_from, words_of}
use Rattle.text_words.specs.Numbers.{number_of}
use Rattle.text_words.specs.Readers.{said_by, head_below, read_below, behind_line, behind_all}
use Rattle.fx_core.specs.declared.word_type.Ty.TheVariants.{S16}
use Rattle.net_model.specs.declared.wires.Kind.TheVariants.{Num}
use Rattle.net_model.specs.declared.wires.Block.TheVariants.{Pt1}
use Rattle.net_model.specs.declared.wires.Item.TheVariants.{Input, Block as OfBlock}
use Rattle.net_model.specs.Wires.{NetData}
use Rattle.part_rules.specs.declared.bounds.Bounds.{Bounds}
use Rattle.cert_checker.specs.declared.faults.CertKind.{CertKind}
use Rattle.cert_checker.specs.declared.faults.CertKind.TheVariants.{NoHead, BadLine, WrongPart, BadNumber, EmptyRange, Missing}
use Rattle.cert_checker.specs.CertificateText.{number_within, part_line, certificate_of}
use Rattle.cert_checker.specs.CertificatePrinting.{certificate_text}

-- the parts of a lag are `x`, `y.Y`, `y.X1` and `y`
lag : NetData
lag = record {
  axes = [];
  tables = [];
  wires =
      record { name = codes "x"; kind = Num S16 0; item = Input (negsuc 99) (pos 100) } ∷
      record { name = codes "y"; kind = Num S16 0; item = OfBlock (Pt1 S16 S16 (record { 0 = 0 }) 32768 (pos 65536)) } ∷ [];
  outs = record { 0 = 1 } ∷ [];
}

entries : List Bounds
entries =
    record { lo = negsuc 99; hi = pos 100; err = pos 0 } ∷
    record { lo = negsuc 6553599; hi = pos 6553600; err = pos 65536 } ∷
    record { lo = negsuc 99; hi = pos 100; err = pos 0 } ∷
    record { lo = negsuc 99; hi = pos 100; err = pos 32769 } ∷ []

text : List ℕ
text = codes "cert 1\npart x -100 100 0\npart y.Y -6553600 6553600 65536\npart y.X1 -100 100 0\npart y -100 100 32769\n"

printed : certificate_text lag entries ≡ text
unfolding lag entries text certificate_text digits
printed = refl

-- signs, leading zeros, blanks, comments and empty lines may stand in a text, and aren't printed
read : certificate_of lag (codes "# of the lag\n cert\t1\npart x -0100 +100 -0\npart y.Y -6553600 6553600 65536 # 1\n\npart y.X1 -100 100 0\npart y -100 100 32769") ≡ Ok entries
unfolding lag entries certificate_of said_by head_below lines_of lines_from words_of read_below behind_line behind_all part_line number_within number_of
read = refl

-- ---- faults

-- the first fault of a text for the lag, by its line and its kind
abbrev HasFault : List ℕ → ℕ → CertKind → Type 0
HasFault text line kind = certificate_of lag text ≡ Err (record { line = line; kind = kind })

heads : HasFault [] 1 NoHead × HasFault (codes "# nothing\n\n") 1 NoHead × HasFault (codes "\npart x 0 100 0\n") 2 NoHead × HasFault (codes "cert 2\n") 1 NoHead
unfolding lag certificate_of said_by head_below lines_of lines_from words_of
heads = (refl, refl, refl, refl)

-- the first fault of a second line below `cert 1`
abbrev HasFaultBelow : List ℕ → CertKind → Type 0
HasFaultBelow line kind = HasFault (codes "cert 1\n" ++ line) 2 kind

-- of two faults of a line the one that is tested first
lines_below : HasFaultBelow (codes "wire x 0 100 0\n") BadLine × HasFaultBelow (codes "part y 0 100\n") BadLine × HasFaultBelow (codes "part y 9 8 0\n") WrongPart × HasFaultBelow (codes "part x 9 8 -1\n") BadNumber × HasFaultBelow (codes "part x 0 4611686018427387905 0\n") BadNumber × HasFaultBelow (codes "part x 9 8 0\n") EmptyRange
unfolding lag certificate_of said_by head_below lines_of lines_from words_of read_below behind_line behind_all part_line number_within number_of
lines_below = (refl, refl, refl, refl, refl, refl)

-- a part that is missing is told at the last line; a line behind the last part names the wrong one, or is none
ends : HasFault (codes "cert 1\npart x 0 100 0\n\n") 3 Missing × HasFault (text ++ codes "part y 0 100 32769\n") 6 WrongPart × HasFault (text ++ codes "out y\n") 6 BadLine
unfolding lag text certificate_of said_by head_below lines_of lines_from words_of read_below behind_line behind_all part_line number_within number_of
ends = (refl, refl, refl)
