-- What is proved of the families, one case each: a built routine reads a wire, is smooth and has short numbers; a block is the
-- block of its form, and the form of a form's block is that form.
use Rattle.std.proofs.Common.{◌≡◌, ℕ, zero, ◌+◌, ◌<◌, ◌≤◌, Bool, true, false, ◌&&◌, ◌==◌, int_le, List, [], ◌∷◌, suc, map, length, take, drop, get_or, ℤ, pos, negsuc, unsigned_abs, refl, sym, ap, ap₂, ◌∙◌, arith, eqb-true, true≢false, eq-eqb, nat_le, nat_lt, leb-true, ◌^◌, cond, is_some, Some, None}
use Rattle.std.specs.List.{list_all}
use Rattle.std.specs.Ordering.{int_eq}
use Rattle.std.proofs.lemmas.Bool.{and_parts, and_from}
use Rattle.std.proofs.lemmas.Bool.Decides.{Decides-int_eq}
use Rattle.fx_routines.specs.declared.operation.ArithOp.{ArithOp}
use Rattle.fx_routines.specs.declared.operation.ArithOp.TheVariants.{Abs, Mod, MulDiv, MulShRight, DivShLeft, Limit, Min, Max, RateLimiter}
use Rattle.fx_routines.specs.declared.operation.ScaledOp.{ScaledOp}
use Rattle.fx_routines.specs.declared.operation.ScaledOp.TheVariants.{Convert}
use Rattle.fx_routines.specs.declared.operation.Types.{Types}
use Rattle.fx_routines.specs.declared.control.FilterOp.{FilterOp}
use Rattle.fx_routines.specs.declared.control.FilterOp.TheVariants as filter
use Rattle.fx_routines.specs.declared.interpolation.CurveOp.{CurveOp}
use Rattle.fx_routines.specs.declared.interpolation.CurveOp.TheVariants.{Ipo, LkUp}
use Rattle.fx_routines.specs.declared.interpolation.InterpolationOp.{InterpolationOp}
use Rattle.fx_routines.specs.declared.interpolation.InterpolationOp.TheVariants as interpolation
use Rattle.fx_routines.specs.Names.{row_of, takes}
use Rattle.fx_routines.specs.Rows.{Row, rows}
use Rattle.fx_routines.specs.Variants.{types, same_type}
use Rattle.fx_core.specs.declared.word_type.Ty.{Ty}
use Rattle.fx_core.specs.contracts.word_type.Ty.{the_type}
use denote.Enum.Bare.{same_true}
use Rattle.fx_routines.specs.declared.table.Routine.{Routine}
use Rattle.fx_routines.specs.declared.table.Routine.TheVariants.{Arith as NamedArith, Scaled as NamedScaled, Filter as NamedFilter, Interpolation as NamedInterpolation}
use Rattle.mfx_arith.specs.Operations.{is_smooth_operation, argument_types}
use Rattle.mfx_scaled.specs.Operations.{argument_types as scaled_types}
use Rattle.net_model.specs.declared.wires.WireNo.{WireNo}
use Rattle.net_model.specs.declared.wires.Block.{Block}
use Rattle.net_model.specs.declared.wires.Block.TheVariants.{Arith, Scaled, Gain, Average, Pt1, Dt1, Search, Curve, IntCurve}
use Rattle.net_model.specs.declared.signatures.Sort.TheVariants.{Number}
use Rattle.net_model.specs.declared.signatures.ListSort.TheVariants.{AxisOf, TableOf, TableOver}
use Rattle.net_model.specs.declared.block_forms.Form.{Form}
use Rattle.net_model.specs.Families.{is_built, signature_of, arith_ranges, filter_ranges, gains, weights, counts_of_rows, held_by, first_of, wire_or_first, number_or_zero, list_or_zero, block_of, most_shift, between, no_types}
use Rattle.net_model.specs.declared.wires.Role.TheVariants.{Value}
use Rattle.net_model.specs.Wires.{NamedAxis, NamedTable, NetData, axis_at, table_at, block_roles, has_role}
use Rattle.net_model.specs.BlockForms.{in_range, in_ranges, signature_in, form_of, form_in, kept_types, untyped, types_over, typed, repeats_first, adds_no_number}
use Rattle.net_model.specs.Validity.{is_built_block, is_axis_of, is_table_of, lists_agree}
use Rattle.net_model.specs.Smooth.{is_smooth_block}
use Rattle.net_model.proofs.SideBySide.{same_lengths}
use Rattle.net_model.specs.declared.signatures.Range.{Range}

-- a count of places: at most that where the operation shifts, else 0
abbrev pub is_shift : ArithOp → ℕ → Bool
is_shift MulShRight shift = nat_le shift most_shift
is_shift DivShLeft shift = nat_le shift most_shift
is_shift other shift = shift == 0

-- a count of places is at most 15
pub shift_from_test : (op : ArithOp) (shift : ℕ) → is_shift op shift ≡ true → shift ≤ 15
shift_from_test MulShRight shift h = leb-true _ _ h
shift_from_test DivShLeft shift h = leb-true _ _ h
shift_from_test other shift h = omega (arith, eqb-true shift 0 h)

places_at_most : (shift : ℕ) → in_ranges (between (pos 0) most_shift ∷ []) (pos shift ∷ []) ≡ true → nat_le shift most_shift ≡ true
places_at_most shift h =
    (and_parts (nat_le 0 shift) (nat_le shift most_shift) (and_parts (nat_le 0 shift && nat_le shift most_shift) true h).0).1

-- the numbers of an operation's block are a count of places
pub shift_of_ranges : (op : ArithOp) (shift : ℕ) → in_ranges (arith_ranges op) (take (length (arith_ranges op)) (pos shift ∷ [])) ≡ true → list_all (λ n. int_eq n (pos 0)) (drop (length (arith_ranges op)) (pos shift ∷ [])) ≡ true → is_shift op shift ≡ true
shift_of_ranges MulShRight shift fits adds = places_at_most shift fits
shift_of_ranges DivShLeft shift fits adds = places_at_most shift fits
shift_of_ranges other shift fits adds =
    let none : pos shift ≡ pos 0 = (Decides-int_eq (pos shift) (pos 0)).0 (and_parts (int_eq (pos shift) (pos 0)) true adds).0 in
    eq-eqb shift 0 (cc)

-- ---- sorts

arith_reads_some : (op : ArithOp) (v : Types) → 1 ≤ length (map Number (argument_types op v))
arith_reads_some MulDiv v = omega arith
arith_reads_some Abs v = omega arith
arith_reads_some Limit v = omega arith
arith_reads_some Min v = omega arith
arith_reads_some Max v = omega arith
arith_reads_some RateLimiter v = omega arith
arith_reads_some other v = omega arith

scaled_reads_some : (op : ScaledOp) (v : Types) → 1 ≤ length (map Number (scaled_types op v))
scaled_reads_some Convert v = omega arith
scaled_reads_some other v = omega arith

-- a built routine reads a wire
pub reads_some : (routine : Routine) (v : Types) → is_built routine ≡ true → 1 ≤ length (signature_of routine v).sorts
unfolding signature_of
reads_some (NamedArith op) v built = arith_reads_some op v
reads_some (NamedScaled op) v built = scaled_reads_some op v
reads_some (NamedFilter op) v built = omega arith
reads_some (NamedInterpolation interpolation.Search) v built = omega arith
reads_some (NamedInterpolation (interpolation.Curve op)) v built = omega arith
reads_some (NamedInterpolation (interpolation.IntCurve op)) v built = omega arith
reads_some other v built = absurd (true≢false (sym built))

-- ---- smoothness

-- each built operation is smooth
pub ruled_if_built : (op : ArithOp) → is_built (NamedArith op) ≡ true → is_smooth_operation op ≡ true
ruled_if_built Mod built = absurd (true≢false (sym built))
ruled_if_built other built = refl

-- and so is each block of a built routine
pub smooth_if_built : (b : Block) → is_built_block b ≡ true → is_smooth_block b ≡ true
unfolding form_of signature_of
smooth_if_built (Arith op v x y z sh) built = ruled_if_built op built
smooth_if_built (Scaled op v x y) built = refl
smooth_if_built (Gain xty ty x k) built = refl
smooth_if_built (Average xty ty x n) built = refl
smooth_if_built (Pt1 xty ty x teq k) built = refl
smooth_if_built (Dt1 second xty ty x teq k) built = refl
smooth_if_built (Search ty x axis) built = refl
smooth_if_built (Curve Ipo dp table) built = refl
smooth_if_built (Curve LkUp dp table) built = absurd (true≢false (sym built))
smooth_if_built (IntCurve Ipo x axis table) built = refl
smooth_if_built (IntCurve LkUp x axis table) built = absurd (true≢false (sym built))

-- ---- ranges

-- a range within 33 bits
abbrev pub is_short : Range → Bool
is_short range = int_le (negsuc (2 ^ 32)) range.low && nat_le range.high (2 ^ 32)

arith_ranges_are_short : (op : ArithOp) → list_all is_short (arith_ranges op) ≡ true
arith_ranges_are_short MulShRight = refl
arith_ranges_are_short DivShLeft = refl
arith_ranges_are_short other = refl

filter_ranges_are_short : (op : FilterOp) → list_all is_short (filter_ranges op) ≡ true
filter_ranges_are_short filter.Gain = refl
filter_ranges_are_short filter.Average = refl
filter_ranges_are_short other = refl

-- the numbers of a routine's line are short
pub ranges_are_short : (routine : Routine) (v : Types) → list_all is_short (signature_of routine v).ranges ≡ true
unfolding signature_of
ranges_are_short (NamedArith op) v = arith_ranges_are_short op
ranges_are_short (NamedScaled op) v = refl
ranges_are_short (NamedFilter op) v = filter_ranges_are_short op
ranges_are_short (NamedInterpolation interpolation.Search) v = refl
ranges_are_short (NamedInterpolation (interpolation.Curve op)) v = refl
ranges_are_short (NamedInterpolation (interpolation.IntCurve op)) v = refl
ranges_are_short other v = refl

-- ---- parts

-- a wire with a block has its value, and few parts
pub block_has_value : (b : Block) → has_role Value (block_roles b) ≡ true
block_has_value (Pt1 xty ty x teq k) = refl
block_has_value (Dt1 true xty ty x teq k) = refl
block_has_value (Dt1 false xty ty x teq k) = refl
block_has_value (Average xty ty x n) = refl
block_has_value other = refl

pub few_block_roles : (b : Block) → length (block_roles b) ≤ 4
few_block_roles (Pt1 xty ty x teq k) = omega arith
few_block_roles (Dt1 true xty ty x teq k) = omega arith
few_block_roles (Dt1 false xty ty x teq k) = omega arith
few_block_roles (Average xty ty x n) = omega arith
few_block_roles other = omega arith

-- ---- a block, from its form

get_or-nil : {A : Type 0} (p : ℕ) (d : A) → get_or [] p d ≡ d
get_or-nil zero d = refl
get_or-nil (suc p) d = refl

-- an element that is left out is read as what is the same as each of those
left_out : {A : Type 0} (same : A → Bool) (d e : A) → ((a : A) → same a ≡ true → a ≡ d) → (xs : List A) (n p : ℕ) → list_all same (drop n xs) ≡ true → p < length xs → get_or (take n xs) p d ≡ get_or xs p e
left_out same d e is [] n p h lt = absurd (omega arith)
left_out same d e is (x ∷ xs) zero zero h lt = sym (is x (and_parts (same x) (list_all same xs) h).0)
left_out same d e is (x ∷ xs) zero (suc p) h lt = sym (get_or-nil p d) ∙ left_out same d e is xs zero p (and_parts (same x) (list_all same xs) h).1 (omega arith)
left_out same d e is (x ∷ xs) (suc n) zero h lt = refl
left_out same d e is (x ∷ xs) (suc n) (suc p) h lt = left_out same d e is xs n p h (omega arith)

same_wire : (a b : WireNo) → (a.0 == b.0) ≡ true → a ≡ b
same_wire a b h = ap (λ n. record { 0 = n }) (eqb-true a.0 b.0 h)

-- a wire of a block, from its form
wire_back : (wires : List WireNo) (n p : ℕ) (d : WireNo) → list_all (λ w. w.0 == (first_of (take n wires)).0) (drop n wires) ≡ true → p < length wires → wire_or_first (take n wires) p ≡ get_or wires p d
wire_back wires n p d h lt = left_out (λ w. w.0 == (first_of (take n wires)).0) (first_of (take n wires)) d (λ a. same_wire a (first_of (take n wires))) wires n p h lt

-- a number of a block, from its form
number_back : (numbers : List ℤ) (n p : ℕ) (d : ℤ) → list_all (λ k. int_eq k (pos 0)) (drop n numbers) ≡ true → p < length numbers → number_or_zero (take n numbers) p ≡ get_or numbers p d
number_back numbers n p d h lt = left_out (λ k. int_eq k (pos 0)) (pos 0) d (λ a. (Decides-int_eq a (pos 0)).0) numbers n p h lt

-- a block whose spare places are the usual ones is that of its form
pub block_back : (b : Block) → repeats_first b ≡ true → adds_no_number b ≡ true → block_of (form_of b) ≡ b
unfolding form_of block_of signature_of
block_back (Arith op v x y z sh) repeats adds =
    let sorts = length (signature_of (NamedArith op) v).sorts in
    let wires = x ∷ y ∷ z ∷ [] in
    let number = number_back (pos sh ∷ []) (length (signature_of (NamedArith op) v).ranges) 0 (pos 0) adds (omega arith) in
    ap₂ (λ a b. Arith op v a b (wire_or_first (take sorts wires) 2) (unsigned_abs (number_or_zero (take (length (signature_of (NamedArith op) v).ranges) (pos sh ∷ [])) 0))) (wire_back wires sorts 0 x repeats (omega arith)) (wire_back wires sorts 1 x repeats (omega arith))
    ∙ ap₂ (λ c n. Arith op v x y c (unsigned_abs n)) (wire_back wires sorts 2 x repeats (omega arith)) number
block_back (Scaled op v x y) repeats adds =
    let sorts = length (signature_of (NamedScaled op) v).sorts in
    let wires = x ∷ y ∷ [] in
    ap₂ (λ a b. Scaled op v a b) (wire_back wires sorts 0 x repeats (omega arith)) (wire_back wires sorts 1 x repeats (omega arith))
block_back (Gain xty ty x k) repeats adds = refl
block_back (Average xty ty x n) repeats adds = refl
block_back (Pt1 xty ty x teq k) repeats adds = refl
block_back (Dt1 true xty ty x teq k) repeats adds = refl
block_back (Dt1 false xty ty x teq k) repeats adds = refl
block_back (Search ty x axis) repeats adds = refl
block_back (Curve op dp table) repeats adds = refl
block_back (IntCurve op x axis table) repeats adds = refl

-- ---- a form, from its block

-- the values of a function at so many places from k on
values_from : {A : Type 0} → (ℕ → A) → ℕ → ℕ → List A
values_from f k zero = []
values_from f k (suc m) = f k ∷ values_from f (k + 1) m

-- a list is what stands first where each place is filled from it
filled : {A : Type 0} (f : ℕ → A) (d : A) (xs : List A) (k m : ℕ) → ((p : ℕ) → f (k + p) ≡ get_or xs p d) → length xs ≤ m → take (length xs) (values_from f k m) ≡ xs
unfolding values_from
filled f d [] k m h le = refl
filled f d (x ∷ xs) k zero h le = absurd (omega arith)
filled f d (x ∷ xs) k (suc m) h le =
    let here : k ≡ k + 0 = omega arith in
    ap₂ (λ y ys. y ∷ ys) (ap f here ∙ h 0) (filled f d xs (k + 1) m (λ p. let next : k + 1 + p ≡ k + suc p = omega arith in ap f next ∙ h (suc p)) (omega arith))

-- and what stands behind is the rest
rest_filled : {A : Type 0} (same : A → Bool) (f : ℕ → A) (d : A) (xs : List A) (k m : ℕ) → ((p : ℕ) → f (k + p) ≡ get_or xs p d) → same d ≡ true → list_all same (drop (length xs) (values_from f k m)) ≡ true
unfolding values_from
rest_filled same f d [] k zero h is = refl
rest_filled same f d [] k (suc m) h is =
    let here : k ≡ k + 0 = omega arith in
    and_from (same (f k)) (list_all same (values_from f (k + 1) m)) (ap same (ap f here ∙ h 0) ∙ is)
    (rest_filled same f d [] (k + 1) m (λ p. let next : k + 1 + p ≡ k + suc p = omega arith in ap f next ∙ h (suc p) ∙ sym (get_or-nil p d)) is)
rest_filled same f d (x ∷ xs) k zero h is = refl
rest_filled same f d (x ∷ xs) k (suc m) h is =
    rest_filled same f d xs (k + 1) m (λ p. let next : k + 1 + p ≡ k + suc p = omega arith in ap f next ∙ h (suc p)) is

from_zero : {A : Type 0} (f : ℕ → A) (p : ℕ) → f (0 + p) ≡ f p
from_zero f p = let e : 0 + p ≡ p = omega arith in ap f e

-- what a form of a built routine keeps
pub record IsFull (form : Form) : Type 0 where
  pub built : is_built form.routine ≡ true
  pub taken : takes form.routine form.types ≡ true
  pub wires : length (signature_in form).sorts ≡ length form.wires
  pub lists : length (signature_in form).lists ≡ length form.lists
  pub numbers : in_ranges (signature_in form).ranges form.numbers ≡ true

-- a number that isn't below 0 is the natural number of its size
natural : (n : ℤ) (test : Bool) → (int_le (pos 0) n && test) ≡ true → pos (unsigned_abs n) ≡ n
natural (pos n) test h = refl
natural (negsuc n) test h = absurd (cc)

-- a count of places isn't below 0
place_is_natural : (numbers : List ℤ) → in_ranges (record { low = pos 0; high = 15 } ∷ []) numbers ≡ true → (p : ℕ) → pos (unsigned_abs (number_or_zero numbers p)) ≡ number_or_zero numbers p
place_is_natural [] h p = absurd (cc)
place_is_natural (n ∷ numbers) h zero = natural n (int_le n (pos 15)) (and_parts (in_range (record { low = pos 0; high = 15 }) n) (in_ranges [] numbers) h).0
place_is_natural (n ∷ []) h (suc p) = ap (λ k. pos (unsigned_abs k)) (get_or-nil p (pos 0)) ∙ sym (get_or-nil p (pos 0))
place_is_natural (n ∷ m ∷ numbers) h (suc p) = absurd (true≢false (sym (and_parts (in_range (record { low = pos 0; high = 15 }) n) false h).1))

none_is_natural : (numbers : List ℤ) → in_ranges [] numbers ≡ true → (p : ℕ) → pos (unsigned_abs (number_or_zero numbers p)) ≡ number_or_zero numbers p
none_is_natural [] h p = ap (λ k. pos (unsigned_abs k)) (get_or-nil p (pos 0)) ∙ sym (get_or-nil p (pos 0))
none_is_natural (n ∷ numbers) h p = absurd (cc)

arith_naturals : (op : ArithOp) (numbers : List ℤ) → in_ranges (arith_ranges op) numbers ≡ true → (p : ℕ) → pos (unsigned_abs (number_or_zero numbers p)) ≡ number_or_zero numbers p
arith_naturals MulShRight numbers h p = place_is_natural numbers h p
arith_naturals DivShLeft numbers h p = place_is_natural numbers h p
arith_naturals other numbers h p = none_is_natural numbers h p

-- how many wires and numbers a block has room for
few_arith_types : (op : ArithOp) (v : Types) → length (map Number (argument_types op v)) ≤ 3
few_arith_types MulDiv v = omega arith
few_arith_types Abs v = omega arith
few_arith_types Limit v = omega arith
few_arith_types Min v = omega arith
few_arith_types Max v = omega arith
few_arith_types RateLimiter v = omega arith
few_arith_types other v = omega arith

few_scaled_types : (op : ScaledOp) (v : Types) → length (map Number (scaled_types op v)) ≤ 2
few_scaled_types Convert v = omega arith
few_scaled_types other v = omega arith

few_arith_ranges : (op : ArithOp) → length (arith_ranges op) ≤ 1
few_arith_ranges MulShRight = omega arith
few_arith_ranges DivShLeft = omega arith
few_arith_ranges other = omega arith

-- what a block has that is made of a form: its form, but for the types that its lists tell
pub record IsBlockOf (form : Form) (b : Block) : Type 0 where
  pub routine : (held_by b).routine ≡ form.routine
  pub back : form_of b ≡ untyped form
  pub repeats : repeats_first b ≡ true
  pub adds : adds_no_number b ≡ true

abbrev of : Routine → Types → List WireNo → List ℕ → List ℤ → Form
of routine v wires lists numbers = record { routine = routine; types = v; wires = wires; lists = lists; numbers = numbers }

-- a form of a routine without lists has none
no_lists : (lists : List ℕ) → 0 ≡ length lists → [] ≡ lists
no_lists [] e = refl
no_lists (n ∷ lists) e = absurd (omega arith)

-- as many wires as there are sorts come back, and each further one is the first
wires_back : (wires : List WireNo) (n m : ℕ) → n ≡ length wires → length wires ≤ m → take n (values_from (wire_or_first wires) 0 m) ≡ wires
wires_back wires n m e few =
    ap (λ n. take n (values_from (wire_or_first wires) 0 m)) e ∙ filled (wire_or_first wires) (first_of wires) wires 0 m (from_zero (wire_or_first wires)) few

spare_wires_back : (wires : List WireNo) (n m : ℕ) → n ≡ length wires → length wires ≤ m → list_all (λ w. w.0 == (first_of (take n (values_from (wire_or_first wires) 0 m))).0) (drop n (values_from (wire_or_first wires) 0 m)) ≡ true
spare_wires_back wires n m e few =
    ap (λ ws. list_all (λ w. w.0 == (first_of ws).0) (drop n (values_from (wire_or_first wires) 0 m))) (wires_back wires n m e few)
    ∙ ap (λ n. list_all (λ w. w.0 == (first_of wires).0) (drop n (values_from (wire_or_first wires) 0 m))) e
    ∙ rest_filled (λ w. w.0 == (first_of wires).0) (wire_or_first wires) (first_of wires) wires 0 m (from_zero (wire_or_first wires)) (eq-eqb (first_of wires).0 (first_of wires).0 refl)

-- likewise for numbers, where `f` keeps each
numbers_back : (f : ℕ → ℤ) (numbers : List ℤ) (n m : ℕ) → ((p : ℕ) → f p ≡ number_or_zero numbers p) → n ≡ length numbers → length numbers ≤ m → take n (values_from f 0 m) ≡ numbers
numbers_back f numbers n m keeps e few =
    ap (λ n. take n (values_from f 0 m)) e ∙ filled f (pos 0) numbers 0 m (λ p. from_zero f p ∙ keeps p) few

spare_numbers_back : (f : ℕ → ℤ) (numbers : List ℤ) (n m : ℕ) → ((p : ℕ) → f p ≡ number_or_zero numbers p) → n ≡ length numbers → list_all (λ k. int_eq k (pos 0)) (drop n (values_from f 0 m)) ≡ true
spare_numbers_back f numbers n m keeps e =
    ap (λ n. list_all (λ k. int_eq k (pos 0)) (drop n (values_from f 0 m))) e
    ∙ rest_filled (λ k. int_eq k (pos 0)) f (pos 0) numbers 0 m (λ p. from_zero f p ∙ keeps p) refl

full_arith : (op : ArithOp) (v : Types) (wires : List WireNo) (lists : List ℕ) (numbers : List ℤ) → IsFull (of (NamedArith op) v wires lists numbers) → IsBlockOf (of (NamedArith op) v wires lists numbers) (block_of (of (NamedArith op) v wires lists numbers))
unfolding form_of block_of signature_of values_from
full_arith op v wires lists numbers is =
    let f : ℕ → ℤ = λ p. pos (unsigned_abs (number_or_zero numbers p)) in
    let keeps = arith_naturals op numbers is.numbers in
    let ranges = same_lengths in_range (arith_ranges op) numbers is.numbers in
    let sorts = is.wires in
    let types = few_arith_types op v in
    let one = few_arith_ranges op in
    let few : length wires ≤ 3 = omega (arith, sorts, types) in
    let n = length (signature_of (NamedArith op) v).sorts in
    record {
      routine = refl;
      back = ap₂ (λ ws ls. of (NamedArith op) v ws ls (take (length (arith_ranges op)) (values_from f 0 1))) (wires_back wires n 3 sorts few) (no_lists lists is.lists) ∙ ap (of (NamedArith op) v wires lists) (numbers_back f numbers (length (arith_ranges op)) 1 keeps ranges (omega arith));
      repeats = spare_wires_back wires n 3 sorts few;
      adds = spare_numbers_back f numbers (length (arith_ranges op)) 1 keeps ranges;
    }

full_scaled : (op : ScaledOp) (v : Types) (wires : List WireNo) (lists : List ℕ) (numbers : List ℤ) → IsFull (of (NamedScaled op) v wires lists numbers) → IsBlockOf (of (NamedScaled op) v wires lists numbers) (block_of (of (NamedScaled op) v wires lists numbers))
unfolding form_of block_of signature_of values_from
full_scaled op v wires lists numbers is =
    let none = same_lengths in_range [] numbers is.numbers in
    let sorts = is.wires in
    let types = few_scaled_types op v in
    let few : length wires ≤ 2 = omega (arith, sorts, types) in
    let n = length (signature_of (NamedScaled op) v).sorts in
    record {
      routine = refl;
      back = ap₂ (λ ws ls. of (NamedScaled op) v ws ls []) (wires_back wires n 2 sorts few) (no_lists lists is.lists) ∙ ap (of (NamedScaled op) v wires lists) (numbers_back (number_or_zero numbers) numbers 0 0 (λ p. refl) none (omega arith));
      repeats = spare_wires_back wires n 2 sorts few;
      adds = refl;
    }

-- the row of a filter
one_input : (row : Row) (v : Types) → is_some (cond (same_type v.y v.x && true) (Some row) None) ≡ true → v.x ≡ v.y
one_input row v h = by (same_type v.y v.x) refl h
  where
    by : (t : Bool) → same_type v.y v.x ≡ t → is_some (cond (t && true) (Some row) None) ≡ true → v.x ≡ v.y
    by true e h = sym (same_true the_type tt v.y v.x e)
    by false e h = absurd (cc)

-- a filter has one input
filter_input : (op : FilterOp) (v : Types) → takes (NamedFilter op) v ≡ true → v.x ≡ v.y
unfolding row_of rows
filter_input filter.Gain v h = one_input _ v h
filter_input filter.Average v h = one_input _ v h
filter_input filter.Pt1 v h = one_input _ v h
filter_input filter.Dt1Typ1 v h = one_input _ v h
filter_input filter.Dt1Typ2 v h = one_input _ v h

-- one wire, one number, two numbers
one_wire : (wires : List WireNo) → 1 ≡ length wires → first_of wires ∷ [] ≡ wires
one_wire [] e = absurd (omega arith)
one_wire (w ∷ []) e = refl
one_wire (w ∷ v ∷ wires) e = absurd (omega arith)

one_number : (numbers : List ℤ) → 1 ≡ length numbers → number_or_zero numbers 0 ∷ [] ≡ numbers
one_number [] e = absurd (omega arith)
one_number (n ∷ []) e = refl
one_number (n ∷ m ∷ numbers) e = absurd (omega arith)

two_numbers : (numbers : List ℤ) → 2 ≡ length numbers → number_or_zero numbers 0 ∷ number_or_zero numbers 1 ∷ [] ≡ numbers
two_numbers [] e = absurd (omega arith)
two_numbers (n ∷ []) e = absurd (omega arith)
two_numbers (n ∷ m ∷ []) e = refl
two_numbers (n ∷ m ∷ k ∷ numbers) e = absurd (omega arith)

-- a first number whose range has none below 0
first_natural : (low high : ℕ) (rest : List Range) (numbers : List ℤ) → in_ranges (between (pos low) high ∷ rest) numbers ≡ true → pos (unsigned_abs (number_or_zero numbers 0)) ≡ number_or_zero numbers 0
first_natural low high rest [] h = refl
first_natural low high rest (pos n ∷ numbers) h = refl
first_natural low high rest (negsuc n ∷ numbers) h = absurd (cc)

-- a filter's form, from what it has
filter_back : (op : FilterOp) (v : Types) (wires : List WireNo) (lists : List ℕ) (numbers found : List ℤ) → takes (NamedFilter op) v ≡ true → 1 ≡ length wires → 0 ≡ length lists → found ≡ numbers
    → of (NamedFilter op) (types v.x v.x v.o) (first_of wires ∷ []) [] found ≡ of (NamedFilter op) v wires lists numbers
filter_back op v wires lists numbers found taken count none same =
    ap (λ y. of (NamedFilter op) (types v.x y v.o) (first_of wires ∷ []) [] found) (filter_input op v taken)
    ∙ ap₂ (λ ws ls. of (NamedFilter op) v ws ls found) (one_wire wires count) (no_lists lists none)
    ∙ ap (of (NamedFilter op) v wires lists) same

-- a weight and a gain
weight_and_gain : (numbers : List ℤ) → in_ranges (weights ∷ gains ∷ []) numbers ≡ true → pos (unsigned_abs (number_or_zero numbers 0)) ∷ number_or_zero numbers 1 ∷ [] ≡ numbers
weight_and_gain numbers h =
    ap (λ n. n ∷ number_or_zero numbers 1 ∷ []) (first_natural 0 65536 (gains ∷ []) numbers h)
    ∙ two_numbers numbers (same_lengths in_range (weights ∷ gains ∷ []) numbers h)

full_filter : (op : FilterOp) (v : Types) (wires : List WireNo) (lists : List ℕ) (numbers : List ℤ) → IsFull (of (NamedFilter op) v wires lists numbers) → IsBlockOf (of (NamedFilter op) v wires lists numbers) (block_of (of (NamedFilter op) v wires lists numbers))
unfolding form_of block_of signature_of
full_filter filter.Gain v wires lists numbers is = record {
  routine = refl;
  back = filter_back filter.Gain v wires lists numbers _ is.taken is.wires is.lists (one_number numbers (same_lengths in_range (gains ∷ []) numbers is.numbers));
  repeats = refl;
  adds = refl;
}
full_filter filter.Average v wires lists numbers is = record {
  routine = refl;
  back = filter_back filter.Average v wires lists numbers _ is.taken is.wires is.lists (ap (λ n. n ∷ []) (first_natural 1 1024 [] numbers is.numbers) ∙ one_number numbers (same_lengths in_range (counts_of_rows ∷ []) numbers is.numbers));
  repeats = refl;
  adds = refl;
}
full_filter filter.Pt1 v wires lists numbers is = record {
  routine = refl;
  back = filter_back filter.Pt1 v wires lists numbers _ is.taken is.wires is.lists (weight_and_gain numbers is.numbers);
  repeats = refl;
  adds = refl;
}
full_filter filter.Dt1Typ1 v wires lists numbers is = record {
  routine = refl;
  back = filter_back filter.Dt1Typ1 v wires lists numbers _ is.taken is.wires is.lists (weight_and_gain numbers is.numbers);
  repeats = refl;
  adds = refl;
}
full_filter filter.Dt1Typ2 v wires lists numbers is = record {
  routine = refl;
  back = filter_back filter.Dt1Typ2 v wires lists numbers _ is.taken is.wires is.lists (weight_and_gain numbers is.numbers);
  repeats = refl;
  adds = refl;
}

-- ---- look-ups

-- two types that are the same by the test are
same : (t u : Ty) → same_type t u ≡ true → t ≡ u
same t u h = same_true the_type tt t u h

-- what a row's test says of the second input and the output, where both repeat the first input or the output is chosen
both_repeat : (row : Row) (n y o : Bool) → is_some (cond (n && true && y && o) (Some row) None) ≡ true → (y ≡ true) × (o ≡ true)
both_repeat row true true true h = (refl, refl)
both_repeat row true true false h = absurd (true≢false (sym h))
both_repeat row true false o h = absurd (true≢false (sym h))
both_repeat row false y o h = absurd (true≢false (sym h))

second_repeats : (row : Row) (n y : Bool) → is_some (cond (n && true && y && true) (Some row) None) ≡ true → y ≡ true
second_repeats row true true h = refl
second_repeats row true false h = absurd (true≢false (sym h))
second_repeats row false y h = absurd (true≢false (sym h))

-- a search and a curve have one type
one_type : (v : Types) → (same_type v.y v.x ≡ true) × (same_type v.o v.x ≡ true) → types v.x v.x v.x ≡ v
one_type v h = ap₂ (types v.x) (sym (same v.y v.x h.0)) (sym (same v.o v.x h.1))

search_types : (v : Types) → takes (NamedInterpolation interpolation.Search) v ≡ true → types v.x v.x v.x ≡ v
unfolding row_of rows
search_types v h = one_type v (both_repeat _ _ _ _ h)

curve_types : (op : CurveOp) (v : Types) → takes (NamedInterpolation (interpolation.Curve op)) v ≡ true → types v.x v.x v.x ≡ v
unfolding row_of rows
curve_types Ipo v h = one_type v (both_repeat _ _ _ _ h)
curve_types LkUp v h = one_type v (both_repeat _ _ _ _ h)

-- a curve over an axis has one input
over_types : (op : CurveOp) (v : Types) → takes (NamedInterpolation (interpolation.IntCurve op)) v ≡ true → types v.x v.x v.o ≡ v
unfolding row_of rows
over_types Ipo v h = ap (λ y. types v.x y v.o) (sym (same v.y v.x (second_repeats _ _ _ h)))
over_types LkUp v h = ap (λ y. types v.x y v.o) (sym (same v.y v.x (second_repeats _ _ _ h)))

-- one list, and two
one_list : (lists : List ℕ) → 1 ≡ length lists → list_or_zero lists 0 ∷ [] ≡ lists
one_list [] e = absurd (omega arith)
one_list (n ∷ []) e = refl
one_list (n ∷ m ∷ lists) e = absurd (omega arith)

two_lists : (lists : List ℕ) → 2 ≡ length lists → list_or_zero lists 0 ∷ list_or_zero lists 1 ∷ [] ≡ lists
two_lists [] e = absurd (omega arith)
two_lists (n ∷ []) e = absurd (omega arith)
two_lists (n ∷ m ∷ []) e = refl
two_lists (n ∷ m ∷ k ∷ lists) e = absurd (omega arith)

no_numbers : (numbers : List ℤ) → in_ranges [] numbers ≡ true → [] ≡ numbers
no_numbers [] h = refl
no_numbers (n ∷ numbers) h = absurd (cc)

-- a look-up's form, from what it has
look_up_back : (op : InterpolationOp) (v : Types) (wires : List WireNo) (lists found : List ℕ) (numbers : List ℤ) → 1 ≡ length wires → found ≡ lists → in_ranges [] numbers ≡ true
    → of (NamedInterpolation op) v (first_of wires ∷ []) found [] ≡ of (NamedInterpolation op) v wires lists numbers
look_up_back op v wires lists found numbers count same none =
    ap₂ (λ ws ls. of (NamedInterpolation op) v ws ls []) (one_wire wires count) same
    ∙ ap (of (NamedInterpolation op) v wires lists) (no_numbers numbers none)

full_look_up : (op : InterpolationOp) (v : Types) (wires : List WireNo) (lists : List ℕ) (numbers : List ℤ) → IsFull (of (NamedInterpolation op) v wires lists numbers) → IsBlockOf (of (NamedInterpolation op) v wires lists numbers) (block_of (of (NamedInterpolation op) v wires lists numbers))
unfolding form_of block_of signature_of
full_look_up interpolation.Search v wires lists numbers is = record {
  routine = refl;
  back = ap (λ t. of (NamedInterpolation interpolation.Search) t (first_of wires ∷ []) (list_or_zero lists 0 ∷ []) []) (search_types v is.taken) ∙ look_up_back interpolation.Search v wires lists _ numbers is.wires (one_list lists is.lists) is.numbers;
  repeats = refl;
  adds = refl;
}
full_look_up (interpolation.Curve op) v wires lists numbers is = record {
  routine = refl;
  back = look_up_back (interpolation.Curve op) no_types wires lists _ numbers is.wires (one_list lists is.lists) is.numbers;
  repeats = refl;
  adds = refl;
}
full_look_up (interpolation.IntCurve op) v wires lists numbers is = record {
  routine = refl;
  back = look_up_back (interpolation.IntCurve op) no_types wires lists _ numbers is.wires (two_lists lists is.lists) is.numbers;
  repeats = refl;
  adds = refl;
}
full_look_up other v wires lists numbers is = absurd (true≢false (sym is.built))

-- ---- types that lists tell

-- the types of a curve, from its table, and of a curve over an axis, from both
table_types : (net : NetData) (op : CurveOp) (v : Types) (lists : List ℕ) → takes (NamedInterpolation (interpolation.Curve op)) v ≡ true → lists_agree net lists (TableOf v.o ∷ []) lists ≡ true
    → types_over net.axes net.tables (NamedInterpolation (interpolation.Curve op)) no_types lists ≡ v
table_types net op v [] taken agree = absurd (cc)
table_types net op v (n ∷ rest) taken agree =
    let first = and_parts (is_table_of net.tables v.o n) (lists_agree net (n ∷ rest) [] rest) agree in
    let type = and_parts (nat_lt n (length net.tables)) (same_type v.o (table_at net.tables n).ty) first.0 in
    let found : v.o ≡ (table_at net.tables n).ty = same v.o (table_at net.tables n).ty type.1 in
    let input : v.x ≡ v.o = ap (λ t. t.o) (curve_types op v taken) in
    ap (λ t. types t t t) (sym found ∙ sym input) ∙ curve_types op v taken

axis_types : (net : NetData) (op : CurveOp) (v : Types) (lists : List ℕ) → takes (NamedInterpolation (interpolation.IntCurve op)) v ≡ true → lists_agree net lists (AxisOf v.x ∷ TableOver v.o 0 ∷ []) lists ≡ true
    → types_over net.axes net.tables (NamedInterpolation (interpolation.IntCurve op)) no_types lists ≡ v
axis_types net op v [] taken agree = absurd (cc)
axis_types net op v (n ∷ []) taken agree = absurd (true≢false (sym (and_parts (is_axis_of net.axes v.x n) false agree).1))
axis_types net op v (n ∷ m ∷ rest) taken agree =
    let over = is_table_of net.tables v.o m && (length (axis_at net.axes n).points == length (table_at net.tables m).values) in
    let first = and_parts (is_axis_of net.axes v.x n) (over && lists_agree net (n ∷ m ∷ rest) [] rest) agree in
    let axis = and_parts (nat_lt n (length net.axes)) (same_type v.x (axis_at net.axes n).ty) first.0 in
    let second = and_parts over (lists_agree net (n ∷ m ∷ rest) [] rest) first.1 in
    let table = and_parts (is_table_of net.tables v.o m) (length (axis_at net.axes n).points == length (table_at net.tables m).values) second.0 in
    let type = and_parts (nat_lt m (length net.tables)) (same_type v.o (table_at net.tables m).ty) table.0 in
    ap₂ (λ x o. types x x o) (sym (same v.x (axis_at net.axes n).ty axis.1)) (sym (same v.o (table_at net.tables m).ty type.1)) ∙ over_types op v taken

-- the types of a form come back from its lists
types_back : (net : NetData) (routine : Routine) (v : Types) (lists : List ℕ) → takes routine v ≡ true → lists_agree net lists (signature_of routine v).lists lists ≡ true
    → types_over net.axes net.tables routine (kept_types routine v) lists ≡ v
unfolding signature_of
types_back net (NamedInterpolation (interpolation.Curve op)) v lists taken agree = table_types net op v lists taken agree
types_back net (NamedInterpolation (interpolation.IntCurve op)) v lists taken agree = axis_types net op v lists taken agree
types_back net other v lists taken agree = refl

pub typed_back : (net : NetData) (form : Form) → takes form.routine form.types ≡ true → lists_agree net form.lists (signature_in form).lists form.lists ≡ true → typed net.axes net.tables (untyped form) ≡ form
typed_back net form taken agree =
    ap (λ v. of form.routine v form.wires form.lists form.numbers) (types_back net form.routine form.types form.lists taken agree)

-- the ranges of a routine's numbers don't hang on the types that its lists tell
pub ranges_kept : (routine : Routine) (v : Types) → (signature_of routine (kept_types routine v)).ranges ≡ (signature_of routine v).ranges
unfolding signature_of
ranges_kept (NamedInterpolation (interpolation.Curve op)) v = refl
ranges_kept (NamedInterpolation (interpolation.IntCurve op)) v = refl
ranges_kept other v = refl

pub ranges_over : (net : NetData) (routine : Routine) (v : Types) (lists : List ℕ) → (signature_of routine (types_over net.axes net.tables routine v lists)).ranges ≡ (signature_of routine v).ranges
unfolding signature_of
ranges_over net (NamedInterpolation (interpolation.Curve op)) v lists = refl
ranges_over net (NamedInterpolation (interpolation.IntCurve op)) v lists = refl
ranges_over net other v lists = refl

-- the block of a form doesn't look at the types that its lists tell
block_typed : (axes : List NamedAxis) (tables : List NamedTable) (routine : Routine) (v : Types) (wires : List WireNo) (lists : List ℕ) (numbers : List ℤ)
    → block_of (of routine (types_over axes tables routine v lists) wires lists numbers) ≡ block_of (of routine v wires lists numbers)
unfolding block_of
block_typed axes tables (NamedInterpolation (interpolation.Curve op)) v wires lists numbers = refl
block_typed axes tables (NamedInterpolation (interpolation.IntCurve op)) v wires lists numbers = refl
block_typed axes tables other v wires lists numbers = refl

-- a block whose spare places are the usual ones is that of its form in a network
pub block_back_in : (net : NetData) (b : Block) → repeats_first b ≡ true → adds_no_number b ≡ true → block_of (form_in net b) ≡ b
block_back_in net b repeats adds =
    let form = form_of b in
    block_typed net.axes net.tables form.routine form.types form.wires form.lists form.numbers ∙ block_back b repeats adds

full_form : (routine : Routine) (v : Types) (wires : List WireNo) (lists : List ℕ) (numbers : List ℤ) → IsFull (of routine v wires lists numbers) → IsBlockOf (of routine v wires lists numbers) (block_of (of routine v wires lists numbers))
full_form (NamedArith op) v wires lists numbers is = full_arith op v wires lists numbers is
full_form (NamedScaled op) v wires lists numbers is = full_scaled op v wires lists numbers is
full_form (NamedFilter op) v wires lists numbers is = full_filter op v wires lists numbers is
full_form (NamedInterpolation op) v wires lists numbers is = full_look_up op v wires lists numbers is
full_form other v wires lists numbers is = absurd (true≢false (sym is.built))

-- the form of a full form's block is that form, and its spare places are the usual ones
pub block_of_full : (form : Form) → IsFull form → IsBlockOf form (block_of form)
block_of_full form is = full_form form.routine form.types form.wires form.lists form.numbers is
