-- A number that is held in 64 bits passes the test of a kind exactly where the number that is written does, and what
-- passes it fits.
use Rattle.std.proofs.Common.{FitsSigned, w64, ◌≡◌, ◌∙◌, ℕ, ◌-◌, ◌^◌, List, [], Bool, true, false, ap, sym, refl, ℤ, pos, negsuc, ◌<ℤ◌, ◌≤ℤ◌, Option, Some, None, option_map, Result, Ok, arith}
use Rattle.std.specs.Prelude.{ok_or}
use Rattle.std.proofs.lemmas.Int.{ints}
use Rattle.text_words.specs.Numbers.{number_of, held}
use Rattle.text_words.specs.Steps.{◌>>=◌, demand}
use Rattle.text_words.proofs.Held.{tested_held}
use Rattle.net_model.specs.declared.wires.Kind.{Kind}
use Rattle.net_model.specs.Wires.{kind_least, kind_greatest}
use Rattle.net_model.specs.Validity.{AreAxes, kind_holds}
use Rattle.net_model.proofs.HeldKinds.{kind_ends, kind_holds-held, within_is, held_in_kind}
use Rattle.rec_csv.specs.declared.columns.Column.{Column}
use Rattle.rec_csv.specs.declared.faults.RowFault.{RowFault}
use Rattle.rec_csv.specs.declared.faults.RowFault.TheVariants.{BadNumber, OutOfType}
use Rattle.rec_csv.specs.Fields.{trimmed}
use Rattle.rec_csv.specs.Rows.{input_value}

-- what lies between these ends fits 64 bits
fits_inside : (z : ℤ) → negsuc (2 ^ 63 - 1) ≤ℤ z → z <ℤ pos (2 ^ 63 - 1) → FitsSigned w64 z
fits_inside (pos n) above below = record { sfits = omega (arith, ints, below) }
fits_inside (negsuc n) above below = record { sfits = omega (arith, ints, above) }

-- no axis is one that isn't what it may be
no_axes : AreAxes []
no_axes k lt = absurd (omega arith)

-- what a kind holds fits
kind_fits : (kind : Kind) (z : ℤ) → kind_holds [] kind z ≡ true → FitsSigned w64 z
kind_fits kind z h =
    let e = kind_ends [] kind no_axes in
    let b = within_is (kind_least [] kind) (kind_greatest [] kind) z h in
    fits_inside z (omega (arith, ints, e.0, b.0)) (omega (arith, ints, e.3, b.1))

-- ---- a value

-- the value that a number makes, if it is there
abbrev value_from : Column → Option ℤ → Result ℤ RowFault
value_from column number = do
  value ← ok_or number (BadNumber column.wire)
  _ ← demand (kind_holds [] column.kind value) (OutOfType column.wire)
  Ok value

-- a value read from what is held
pub input_value_held : (column : Column) (field : List ℕ) → input_value column field ≡ value_from column (option_map held (number_of (trimmed field)))
unfolding input_value
input_value_held column field =
    sym (tested_held (kind_holds [] column.kind) (λ value. value) (BadNumber column.wire) (OutOfType column.wire) (number_of (trimmed field)) (λ z. kind_holds-held [] column.kind z no_axes) (λ z. held_in_kind [] column.kind z no_axes))

-- a value that passed the test fits 64 bits
fits_test : (column : Column) (z v : ℤ) (a : Bool) → kind_holds [] column.kind z ≡ a → (demand a (OutOfType column.wire) >>= (λ _. Ok z)) ≡ Ok v → FitsSigned w64 v
fits_test column z v true p is = let e : z ≡ v = cc in kind_fits column.kind v (ap (kind_holds [] column.kind) (sym e) ∙ p)
fits_test column z v false p is = absurd (cc)

fits_from : (column : Column) (number : Option ℤ) (v : ℤ) → value_from column number ≡ Ok v → FitsSigned w64 v
fits_from column None v is = absurd (cc)
fits_from column (Some z) v is = fits_test column z v (kind_holds [] column.kind z) refl is

-- so does each value
pub value_fits : (column : Column) (field : List ℕ) (v : ℤ) → input_value column field ≡ Ok v → FitsSigned w64 v
unfolding input_value
value_fits column field v is = fits_from column (number_of (trimmed field)) v is
