-- A number that is held in 64 bits passes the tests of a line exactly where the number that is written does.
use Rattle.std.proofs.Common.{◌≡◌, ◌∙◌, ℕ, ◌<◌, ◌-◌, ◌^◌, List, [], Bool, true, false, ◌&&◌, ap₂, sym, refl, ℤ, pos, negsuc, ◌<ℤ◌, ◌≤ℤ◌, int_le, Option, Some, None, option_map, Result, Ok, FitsSigned, w32, arith}
use Rattle.std.specs.Prelude.{ok_or}
use Rattle.std.proofs.lemmas.Bool.{and_parts}
use Rattle.std.proofs.lemmas.Int.{ints}
use Rattle.fx_core.specs.declared.word_type.Ty.{Ty}
use Rattle.fx_core.specs.Types.{holds}
use Rattle.text_words.specs.Numbers.{number_of, held}
use Rattle.text_words.specs.Steps.{◌>>=◌, demand}
use Rattle.text_words.proofs.Held.{held_least, held_most, held_between, tested_held}
use Rattle.net_model.specs.declared.network.NetKind.{NetKind}
use Rattle.net_model.specs.declared.network.NetKind.TheVariants.{BadNumber, OutOfRange}
use Rattle.net_model.specs.declared.wires.Kind.{Kind}
use Rattle.net_model.specs.declared.wires.WireNo.{WireNo}
use Rattle.net_model.specs.declared.wires.Item.{Item}
use Rattle.net_model.specs.declared.wires.Item.TheVariants.{Input, Const, Delay}
use Rattle.net_model.specs.declared.signatures.Range.{Range}
use Rattle.net_model.specs.BlockForms.{in_range as is_in_range}
use Rattle.net_model.specs.Validity.{AreAxes, kind_holds}
use Rattle.net_model.specs.declared.wires.Kind.TheVariants.{Num, Truth, Position}
use Rattle.net_model.specs.Wires.{NamedAxis, kind_least, kind_greatest}
use Rattle.net_model.proofs.HeldKinds.{Ends, kind_ends}
use Rattle.net_text.specs.Forms.{IsShortKind, in_range, input_of, const_of, delay_of, number_in}

-- ---- kinds

-- no axis is one that an axis may be
no_axes : AreAxes []
no_axes k lt = absurd (omega arith)

-- the ends of a kind lie within 64 bits
short_ends : (axes : List NamedAxis) (kind : Kind) → IsShortKind axes kind → Ends (kind_least axes kind) (kind_greatest axes kind)
short_ends axes (Num ty point) short = kind_ends [] (Num ty point) no_axes
short_ends axes Truth short = kind_ends [] Truth no_axes
short_ends axes (Position axis) short = (omega (arith, ints), omega (arith, ints), omega (arith, ints), omega (arith, ints))

-- a kind holds what is held exactly where it holds the number
kind_holds-held : (axes : List NamedAxis) (kind : Kind) (z : ℤ) → IsShortKind axes kind → kind_holds axes kind (held z) ≡ kind_holds axes kind z
kind_holds-held axes kind z short =
    let e = short_ends axes kind short in
    ap₂ (λ a b. a && b) (held_least (kind_least axes kind) z e.0 e.1) (held_most (kind_greatest axes kind) z e.2 e.3)

-- what a kind holds is held as it is
held_in_kind : (axes : List NamedAxis) (kind : Kind) (z : ℤ) → IsShortKind axes kind → kind_holds axes kind z ≡ true → held z ≡ z
held_in_kind axes kind z short h =
    let e = short_ends axes kind short in
    let p = and_parts (int_le (kind_least axes kind) (held z)) (int_le (held z) (kind_greatest axes kind)) (kind_holds-held axes kind z short ∙ h) in
    held_between (kind_least axes kind) (kind_greatest axes kind) z e.0 e.3 p.0 p.1

-- ---- an input

-- the input that two numbers make, if both are there
abbrev input_from : List NamedAxis → Kind → Option ℤ → Option ℤ → Result Item NetKind
input_from axes kind low high = do
  lo ← ok_or low BadNumber
  hi ← ok_or high BadNumber
  in_range axes kind (Input lo hi)

-- both tests answer the same for what is held
input_test : (axes : List NamedAxis) (kind : Kind) (lo hi held_lo held_hi : ℤ) (a b : Bool) → kind_holds axes kind lo ≡ a → kind_holds axes kind hi ≡ b → kind_holds axes kind held_lo ≡ a → kind_holds axes kind held_hi ≡ b → (a ≡ true → held_lo ≡ lo) → (b ≡ true → held_hi ≡ hi) → input_from axes kind (Some held_lo) (Some held_hi) ≡ input_from axes kind (Some lo) (Some hi)
input_test axes kind lo hi held_lo held_hi true true p q r s f g = ap₂ (λ l h. input_from axes kind (Some l) (Some h)) (f refl) (g refl)
input_test axes kind lo hi held_lo held_hi true false p q r s f g = rw (p, q, r, s)
input_test axes kind lo hi held_lo held_hi false b p q r s f g = rw (p, r)

-- so the input is the same
input_from-held : (axes : List NamedAxis) (kind : Kind) (low high : Option ℤ) → IsShortKind axes kind → input_from axes kind (option_map held low) (option_map held high) ≡ input_from axes kind low high
input_from-held axes kind None high short = refl
input_from-held axes kind (Some lo) None short = refl
input_from-held axes kind (Some lo) (Some hi) short =
    input_test axes kind lo hi (held lo) (held hi) (kind_holds axes kind lo) (kind_holds axes kind hi) refl refl (kind_holds-held axes kind lo short) (kind_holds-held axes kind hi short) (held_in_kind axes kind lo short) (held_in_kind axes kind hi short)

-- an input read from what is held
pub input_of_held : (axes : List NamedAxis) (kind : Kind) (low high : List ℕ) → IsShortKind axes kind → input_of axes kind low high ≡ input_from axes kind (option_map held (number_of low)) (option_map held (number_of high))
unfolding input_of
input_of_held axes kind low high short = sym (input_from-held axes kind (number_of low) (number_of high) short)

-- ---- a constant

-- a constant read from what is held
pub const_of_held : (axes : List NamedAxis) (kind : Kind) (word : List ℕ) → IsShortKind axes kind → const_of axes kind word ≡ (ok_or (option_map held (number_of word)) BadNumber >>= λ value. in_range axes kind (Const value))
unfolding const_of
const_of_held axes kind word short =
    sym (tested_held (kind_holds axes kind) (λ value. Const value) BadNumber OutOfRange (number_of word) (λ z. kind_holds-held axes kind z short) (λ z. held_in_kind axes kind z short))

-- ---- a delay

-- a delay's first value read from what is held
pub delay_of_held : (axes : List NamedAxis) (kind : Kind) (word : List ℕ) (source : WireNo) → IsShortKind axes kind → delay_of axes kind word source ≡ (ok_or (option_map held (number_of word)) BadNumber >>= λ init. in_range axes kind (Delay init source))
unfolding delay_of
delay_of_held axes kind word source short =
    sym (tested_held (kind_holds axes kind) (λ init. Delay init source) BadNumber OutOfRange (number_of word) (λ z. kind_holds-held axes kind z short) (λ z. held_in_kind axes kind z short))

-- ---- a number of a range

-- the number of a range, if it is there
abbrev number_from : Range → Option ℤ → Result ℤ NetKind
number_from range number = do
  value ← ok_or number BadNumber
  _ ← demand (is_in_range range value) OutOfRange
  Ok value

-- the ends of a range lie within 64 bits
pub record IsShort (range : Range) : Type 0 where
  pub least : negsuc (2 ^ 63 - 1) <ℤ range.low
  pub most : range.low ≤ℤ pos (2 ^ 63 - 1)
  pub high : range.high < 2 ^ 32

low_inside : (z : ℤ) → FitsSigned w32 z → (negsuc (2 ^ 63 - 1) <ℤ z) × (z ≤ℤ pos (2 ^ 63 - 1))
low_inside (pos n) h = let b = h.sfits in (omega (arith, ints), omega (arith, ints))
low_inside (negsuc n) h = let b = h.sfits in (omega (arith, ints), omega (arith, ints))

pub in_range-held : (range : Range) (z : ℤ) → IsShort range → is_in_range range (held z) ≡ is_in_range range z
in_range-held range z short =
    let h = short.high in
    ap₂ (λ a b. a && b) (held_least range.low z short.least short.most) (held_most (pos range.high) z (omega (arith, ints)) (omega (arith, ints)))

pub held_in_range : (range : Range) (z : ℤ) → IsShort range → is_in_range range z ≡ true → held z ≡ z
held_in_range range z short e =
    let h = short.high in
    let p = and_parts (int_le range.low (held z)) (int_le (held z) (pos range.high)) (in_range-held range z short ∙ e) in
    held_between range.low (pos range.high) z short.least (omega (arith, ints)) p.0 p.1

-- a number read from what is held
pub number_in_held : (range : Range) (word : List ℕ) → FitsSigned w32 range.low → range.high < 2 ^ 32 → number_in range word ≡ number_from range (option_map held (number_of word))
unfolding number_in
number_in_held range word low high =
    let l = low_inside range.low low in
    let short : IsShort range = record { least = l.0; most = l.1; high = high } in
    sym (tested_held (is_in_range range) (λ value. value) BadNumber OutOfRange (number_of word) (λ z. in_range-held range z short) (λ z. held_in_range range z short))

-- ---- a number of a type

pub holds-held : (ty : Ty) (z : ℤ) → holds ty (held z) ≡ holds ty z
holds-held ty z = kind_holds-held [] (Num ty 0) z tt

pub held_in_type : (ty : Ty) (z : ℤ) → holds ty z ≡ true → held z ≡ z
held_in_type ty z h = held_in_kind [] (Num ty 0) z tt h
