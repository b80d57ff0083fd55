-- The numbers of axes and tables that are held in 64 bits pass the tests of a line exactly where those that are written do.
use Rattle.std.proofs.Common.{◌≡◌, ◌∙◌, ℕ, ◌^◌, List, [], ◌∷◌, map, length, Bool, true, false, ◌==◌, ◌&&◌, nat_le, drop, subst, ap, ap₂, sym, refl, ℤ, pos, unsigned_abs, Result, Ok, arith}
use Rattle.std.specs.List.{list_all}
use Rattle.std.proofs.lemmas.Bool.{and_parts}
use Rattle.std.proofs.lemmas.Int.{ints}
use Rattle.std.proofs.lemmas.List.{length-map}
use Rattle.text_words.specs.Lines.{nth}
use Rattle.text_words.specs.Numbers.{held}
use Rattle.text_words.specs.Steps.{◌>>=◌, demand}
use Rattle.fx_core.specs.declared.word_type.Ty.{Ty}
use Rattle.fx_core.specs.Types.{holds}
use Rattle.net_model.specs.declared.network.NetKind.{NetKind}
use Rattle.net_model.specs.declared.network.NetKind.TheVariants.{OutOfRange, TooMany}
use Rattle.net_model.specs.BlockForms.{in_range as is_in_range}
use Rattle.ifx_search.specs.Axes.{listed_axis}
use Rattle.ifx_curves.specs.Tables.{TableData}
use Rattle.ifx_search.specs.Axes.{AxisData}
use Rattle.net_model.specs.Wires.{NetData}
use Rattle.net_text.specs.declared.list_forms.LineFault.{LineFault}
use Rattle.net_text.specs.Forms.{GivesLine, list_front, number_written, numbers_written, axis_line, axisstep_line, axisshift_line, table_line, are_values, rises, points_given, values_given, steps, counts, shifts, steps_given, shift_given, list_room}
use Rattle.net_text.proofs.HeldNumbers.{IsShort, in_range-held, held_in_range, holds-held, held_in_type}

-- ---- listed numbers

-- numbers of a type are held as they are
all_held : (ty : Ty) (numbers : List ℤ) → list_all (λ n. holds ty n) (map held numbers) ≡ list_all (λ n. holds ty n) numbers
all_held ty [] = refl
all_held ty (n ∷ numbers) = ap₂ (λ a b. a && b) (holds-held ty n) (all_held ty numbers)

held_alike : (ty : Ty) (numbers : List ℤ) → list_all (λ n. holds ty n) numbers ≡ true → map held numbers ≡ numbers
held_alike ty [] h = refl
held_alike ty (n ∷ numbers) h =
    let p = and_parts (holds ty n) (list_all (λ n. holds ty n) numbers) h in
    ap₂ (λ m ms. m ∷ ms) (held_in_type ty n p.0) (held_alike ty numbers p.1)

are_values-held : (ty : Ty) (numbers : List ℤ) → are_values ty (map held numbers) ≡ are_values ty numbers
are_values-held ty numbers = ap₂ (λ n b. nat_le 2 n && b) (length-map numbers held) (all_held ty numbers)

-- so what is given is the same
pub points_held : (above : ℕ) (ty : Ty) (points : List ℤ) → points_given above ty (map held points) ≡ points_given above ty points
unfolding points_given
points_held above ty points = by (are_values ty points) refl (are_values-held ty points)
  where
    by : (b : Bool) → are_values ty points ≡ b → are_values ty (map held points) ≡ are_values ty points
        → (demand (are_values ty (map held points) && rises (map held points)) OutOfRange >>= λ _. demand (list_room above (length (map held points))) TooMany >>= λ _. Ok (listed_axis ty (map held points)))
        ≡ (demand (are_values ty points && rises points) OutOfRange >>= λ _. demand (list_room above (length points)) TooMany >>= λ _. Ok (listed_axis ty points))
    by true e same =
        let p = and_parts (nat_le 2 (length points)) (list_all (λ n. holds ty n) points) e in
        ap (λ ps. demand (are_values ty ps && rises ps) OutOfRange >>= λ _. demand (list_room above (length ps)) TooMany >>= λ _. Ok (listed_axis ty ps)) (held_alike ty points p.1)
    by false e same = rw (same, e) refl

abbrev table_of : Ty → List ℤ → TableData
table_of ty values = record { ty = ty; values = values }

abbrev from : ℕ → Ty → List ℤ → Result TableData NetKind
from above ty vs = demand (are_values ty vs) OutOfRange >>= λ _. demand (list_room above (length vs)) TooMany >>= λ _. Ok (table_of ty vs)

pub values_held : (above : ℕ) (ty : Ty) (values : List ℤ) → values_given above ty (map held values) ≡ values_given above ty values
unfolding values_given
values_held above ty values = by (are_values ty values) refl (are_values-held ty values)
  where
    by : (b : Bool) → are_values ty values ≡ b → are_values ty (map held values) ≡ are_values ty values → from above ty (map held values) ≡ from above ty values
    by true e same =
        let p = and_parts (nat_le 2 (length values)) (list_all (λ n. holds ty n) values) e in
        ap (from above ty) (held_alike ty values p.1)
    by false e same = rw (same, e) refl

-- what a line gives, by the numbers that are held
pub axis_given : (net : NetData) (words behind : List (List ℕ)) (ty : Ty) (points : List ℤ) (made : Result AxisData LineFault) → list_front (nat_le 4 (length words)) net words ≡ Ok ty → behind ≡ drop 3 words → points ≡ map held (numbers_written behind) → GivesLine (points_given (length net.axes) ty points) made → GivesLine (axis_line net words) made
unfolding axis_line
axis_given net words behind ty points made front is numbers gives =
    let above = length net.axes in
    subst (λ r. GivesLine r made) (sym (
    ap (λ (f : Result Ty NetKind). f >>= λ t. points_given above t (numbers_written (drop 3 words))) front
    ∙ sym (points_held above ty (numbers_written (drop 3 words)))
    ∙ ap (λ ps. points_given above ty ps) (ap (λ b. map held (numbers_written b)) (sym is) ∙ sym numbers)
    )) gives

pub table_given : (net : NetData) (words behind : List (List ℕ)) (ty : Ty) (values : List ℤ) (made : Result TableData LineFault) → list_front (nat_le 4 (length words)) net words ≡ Ok ty → behind ≡ drop 3 words → values ≡ map held (numbers_written behind) → GivesLine (values_given (length net.tables) ty values) made → GivesLine (table_line net words) made
unfolding table_line
table_given net words behind ty values made front is numbers gives =
    let above = length net.tables in
    subst (λ r. GivesLine r made) (sym (
    ap (λ (f : Result Ty NetKind). f >>= λ t. values_given above t (numbers_written (drop 3 words))) front
    ∙ sym (values_held above ty (numbers_written (drop 3 words)))
    ∙ ap (λ vs. values_given above ty vs) (ap (λ b. map held (numbers_written b)) (sym is) ∙ sym numbers)
    )) gives

-- ---- equal steps

steps_short : IsShort steps
steps_short = record { least = omega (arith, ints); most = omega (arith, ints); high = omega arith }

counts_short : IsShort counts
counts_short = record { least = omega (arith, ints); most = omega (arith, ints); high = omega arith }

shifts_short : IsShort shifts
shifts_short = record { least = omega (arith, ints); most = omega (arith, ints); high = omega arith }

-- numbers that pass the same tests, and are the same where they pass
record IsAlike (test : ℤ → Bool) (n m : ℤ) : Type 0 where
  tested : test m ≡ test n
  same : test n ≡ true → m ≡ n

steps_alike : (above : ℕ) (ty : Ty) (o s c p t d : ℤ) → IsAlike (λ z. holds ty z) o p → IsAlike (is_in_range steps) s t → IsAlike (is_in_range counts) c d → steps_given above ty p t d ≡ steps_given above ty o s c
unfolding steps_given
steps_alike above ty o s c p t d offset step count = by (is_in_range steps s) (is_in_range counts c) (holds ty o) refl refl refl
  where
    by : (a b e : Bool) → is_in_range steps s ≡ a → is_in_range counts c ≡ b → holds ty o ≡ e → steps_given above ty p t d ≡ steps_given above ty o s c
    by true true true x y z =
        ap₂ (λ m n. steps_given above ty m n d) (offset.same z) (step.same x) ∙ ap (steps_given above ty o s) (count.same y)
    by false b e x y z = rw (step.tested, x) refl
    by true false e x y z = rw (step.tested, x, count.tested, y) refl
    by true true false x y z = rw (step.tested, x, count.tested, y, offset.tested, z) refl

offset_alike : (ty : Ty) (o : ℤ) → IsAlike (λ z. holds ty z) o (held o)
offset_alike ty o = record { tested = holds-held ty o; same = held_in_type ty o }

count_alike : (c : ℤ) → IsAlike (is_in_range counts) c (held c)
count_alike c = record { tested = in_range-held counts c counts_short; same = held_in_range counts c counts_short }

pub steps_held : (above : ℕ) (ty : Ty) (offset step count : ℤ) → steps_given above ty (held offset) (held step) (held count) ≡ steps_given above ty offset step count
steps_held above ty offset step count =
    steps_alike above ty offset step count (held offset) (held step) (held count) (offset_alike ty offset) (record { tested = in_range-held steps step steps_short; same = held_in_range steps step steps_short }) (count_alike count)

pub shift_held : (above : ℕ) (ty : Ty) (offset shift count : ℤ) → shift_given above ty (held offset) (held shift) (held count) ≡ shift_given above ty offset shift count
unfolding shift_given
shift_held above ty offset shift count = by (is_in_range shifts shift) refl
  where
    by : (b : Bool) → is_in_range shifts shift ≡ b
        → (demand (is_in_range shifts (held shift)) OutOfRange >>= λ _. steps_given above ty (held offset) (pos (2 ^ unsigned_abs (held shift))) (held count))
        ≡ (demand (is_in_range shifts shift) OutOfRange >>= λ _. steps_given above ty offset (pos (2 ^ unsigned_abs shift)) count)
    by true e =
        let step : ℤ = pos (2 ^ unsigned_abs shift) in
        ap (λ z. demand (is_in_range shifts z) OutOfRange >>= λ _. steps_given above ty (held offset) (pos (2 ^ unsigned_abs z)) (held count)) (held_in_range shifts shift shifts_short e)
        ∙ ap (λ r. demand (is_in_range shifts shift) OutOfRange >>= λ _. r) (steps_alike above ty offset step count (held offset) step (held count) (offset_alike ty offset) (record { tested = refl; same = λ _. refl }) (count_alike count))
    by false e = rw (in_range-held shifts shift shifts_short, e) refl

-- what a line of equal steps gives, by the numbers that are held
pub axisstep_given : (net : NetData) (words : List (List ℕ)) (ty : Ty) (made : Result AxisData NetKind) → list_front (length words == 6) net words ≡ Ok ty
    → made ≡ steps_given (length net.axes) ty (held (number_written (nth words 3))) (held (number_written (nth words 4))) (held (number_written (nth words 5))) → made ≡ axisstep_line net words
unfolding axisstep_line
axisstep_given net words ty made front gives =
    let offset = number_written (nth words 3) in
    let step = number_written (nth words 4) in
    let count = number_written (nth words 5) in
    gives ∙ steps_held (length net.axes) ty offset step count
    ∙ sym (ap (λ (f : Result Ty NetKind). f >>= λ t. steps_given (length net.axes) t offset step count) front)

pub axisshift_given : (net : NetData) (words : List (List ℕ)) (ty : Ty) (made : Result AxisData NetKind) → list_front (length words == 6) net words ≡ Ok ty
    → made ≡ shift_given (length net.axes) ty (held (number_written (nth words 3))) (held (number_written (nth words 4))) (held (number_written (nth words 5))) → made ≡ axisshift_line net words
unfolding axisshift_line
axisshift_given net words ty made front gives =
    let offset = number_written (nth words 3) in
    let shift = number_written (nth words 4) in
    let count = number_written (nth words 5) in
    gives ∙ shift_held (length net.axes) ty offset shift count
    ∙ sym (ap (λ (f : Result Ty NetKind). f >>= λ t. shift_given (length net.axes) t offset shift count) front)
