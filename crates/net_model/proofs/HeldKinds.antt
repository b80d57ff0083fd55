-- A kind holds a number that was read exactly where it holds the nearest one of 64 bits.
use Rattle.std.proofs.Common.{◌≡◌, ℕ, ◌≤◌, ◌*◌, ◌-◌, ◌^◌, true, List, length, get_or, ◌&&◌, ap₂, ◌∙◌, ℤ, pos, negsuc, ◌<ℤ◌, ◌≤ℤ◌, int_le, arith}
use Rattle.std.specs.Prelude.{Bool, true, false, nat_lt, refl, List, []}
use Rattle.std.proofs.Common.{subst, sym, ltb-true, ltb-false, suc, zero, ◌∷◌}
use Rattle.std.proofs.lemmas.Bool.{and_parts}
use Rattle.std.proofs.lemmas.Int.{ints}
use Rattle.fx_core.specs.declared.word_type.Ty.{Ty}
use Rattle.fx_core.specs.declared.word_type.Ty.TheVariants.{U8, S8, U16, S16, U32, S32}
use Rattle.fx_core.specs.Types.{least_of, greatest_of}
use Rattle.text_words.specs.Numbers.{held}
use Rattle.text_words.proofs.Held.{held_least, held_most, held_inside}
use Rattle.net_model.specs.declared.wires.Kind.{Kind}
use Rattle.net_model.specs.declared.wires.Kind.TheVariants.{Num, Truth, Position}
use Rattle.net_model.specs.Wires.{NamedAxis, no_axis, axis_at, kind_least, kind_greatest}
use Rattle.net_model.specs.Validity.{AreAxes, kind_holds}

-- the ends of a kind lie within 64 bits
abbrev pub Ends : ℤ → ℤ → Type 0
Ends low high = (negsuc (2 ^ 63 - 1) <ℤ low) × (low ≤ℤ pos (2 ^ 63 - 1)) × (negsuc (2 ^ 63 - 1) ≤ℤ high) × (high <ℤ pos (2 ^ 63 - 1))

-- those of a type do
ty_ends : (ty : Ty) → Ends (least_of ty) (greatest_of ty)
ty_ends U8 = (omega (arith, ints), omega (arith, ints), omega (arith, ints), omega (arith, ints))
ty_ends S8 = (omega (arith, ints), omega (arith, ints), omega (arith, ints), omega (arith, ints))
ty_ends U16 = (omega (arith, ints), omega (arith, ints), omega (arith, ints), omega (arith, ints))
ty_ends S16 = (omega (arith, ints), omega (arith, ints), omega (arith, ints), omega (arith, ints))
ty_ends U32 = (omega (arith, ints), omega (arith, ints), omega (arith, ints), omega (arith, ints))
ty_ends S32 = (omega (arith, ints), omega (arith, ints), omega (arith, ints), omega (arith, ints))

-- what stands past the end of a list
get_or_past : {A : Type 0} (xs : List A) (i : ℕ) (d : A) → length xs ≤ i → get_or xs i d ≡ d
get_or_past [] zero d h = refl
get_or_past [] (suc i) d h = refl
get_or_past (x ∷ xs) zero d h = absurd (omega arith)
get_or_past (x ∷ xs) (suc i) d h = get_or_past xs i d (omega arith)

-- an axis of a network has at most 4,096 points, as has the one that is read where there is none
pub few_points : (axes : List NamedAxis) → AreAxes axes → (n : ℕ) → length (axis_at axes n).points ≤ 4096
few_points axes are n = by (nat_lt n (length axes)) refl
  where
    by : (t : Bool) → nat_lt n (length axes) ≡ t → length (axis_at axes n).points ≤ 4096
    by true e = (are n (ltb-true n (length axes) e)).axis.few
    by false e = subst (λ (a : NamedAxis). length a.1.points ≤ 4096) (sym (get_or_past axes n no_axis (ltb-false n (length axes) e))) (omega arith)

position_ends : (n : ℕ) → n ≤ 4096 → Ends (pos 0) (pos (65536 * (n - 1)))
position_ends n few = (omega (arith, ints), omega (arith, ints), omega (arith, ints), omega (arith, ints))

-- those of a kind do
pub kind_ends : (axes : List NamedAxis) (kind : Kind) → AreAxes axes → Ends (kind_least axes kind) (kind_greatest axes kind)
kind_ends axes (Num ty point) are = ty_ends ty
kind_ends axes Truth are = (omega (arith, ints), omega (arith, ints), omega (arith, ints), omega (arith, ints))
kind_ends axes (Position axis) are = position_ends (length (axis_at axes axis).points) (few_points axes are axis)

-- a kind holds what is held exactly where it holds the number
pub kind_holds-held : (axes : List NamedAxis) (kind : Kind) (z : ℤ) → AreAxes axes → kind_holds axes kind (held z) ≡ kind_holds axes kind z
kind_holds-held axes kind z are =
    let e = kind_ends axes kind are in
    ap₂ (λ a b. a && b) (held_least (kind_least axes kind) z e.0 e.1) (held_most (kind_greatest axes kind) z e.2 e.3)

-- what the test of an order says
le_from_test : (a b : ℤ) → int_le a b ≡ true → a ≤ℤ b
le_from_test a b h = grind (arith, ints)

-- what the test of two ends says
pub within_is : (low high z : ℤ) → (int_le low z && int_le z high) ≡ true → (low ≤ℤ z) × (z ≤ℤ high)
within_is low high z h =
    let p = and_parts (int_le low z) (int_le z high) h in (le_from_test low z p.0, le_from_test z high p.1)

-- what a kind holds is held as it is
pub held_in_kind : (axes : List NamedAxis) (kind : Kind) (z : ℤ) → AreAxes axes → kind_holds axes kind z ≡ true → held z ≡ z
held_in_kind axes kind z are h =
    let e = kind_ends axes kind are in
    let b = within_is (kind_least axes kind) (kind_greatest axes kind) (held z) (kind_holds-held axes kind z are ∙ h) in
    held_inside z (omega (arith, ints, e.0, b.0)) (omega (arith, ints, e.3, b.1))
