-- The lines of axes and tables have good words, and are read again.
use Rattle.std.proofs.Common.{◌≡◌, ◌∙◌, ℕ, suc, ◌-◌, ◌^◌, ◌<◌, ◌≤◌, Bool, true, false, not, nat_le, nat_lt, le-leb, List, [], ◌∷◌, length, codes, ℤ, pos, ◌+ℤ◌, ◌-ℤ◌, ◌*ℤ◌, ◌<ℤ◌, ◌≤ℤ◌, int_le, unsigned_abs, is_some, Option, Some, None, Result, Ok, refl, sym, ap, subst, arith}
use Rattle.std.specs.Fmt.{signed_decimal}
use Rattle.std.specs.List.{list_all}
use Rattle.std.proofs.lemmas.Bool.{and_parts, and_from}
use Rattle.std.proofs.lemmas.Int.{ints}
use Rattle.std.proofs.lemmas.List.{length-map}
use Rattle.text_words.specs.Names.{is_name}
use Rattle.text_words.specs.Numbers.{number_of}
use Rattle.text_words.specs.Steps.{◌>>=◌}
use Rattle.text_words.proofs.PrintedWords.{are_words, is_word-name, is_word-signed_decimal}
use Rattle.text_words.proofs.PrintedNumbers.{number_of-signed_decimal}
use Rattle.fx_core.specs.declared.word_type.Ty.{Ty}
use Rattle.fx_core.specs.declared.word_type.Ty.TheVariants.{U8, S8, U16, S16, U32, S32}
use Rattle.fx_core.specs.Types.{Holds, holds, width_of, least_of, greatest_of}
use Rattle.fx_core.proofs.TypeLaws.{holds-Holds}
use Rattle.fx_routines.specs.Names.{type_word}
use Rattle.ifx_search.specs.Axes.{AxisData, IsAxis, IsSpaced, listed_axis, point_at, stepped_axis, stepped_points}
use Rattle.ifx_search.proofs.Points.{point_at-stepped}
use Rattle.ifx_curves.specs.Tables.{TableData, IsTable}
use Rattle.net_model.specs.declared.network.NetKind.{NetKind}
use Rattle.net_model.specs.BlockForms.{in_range as is_in_range}
use Rattle.net_model.specs.Wires.{NamedAxis, NamedTable, NetData, with_axis, with_table}
use Rattle.net_model.specs.Validity.{IsNamedAxis, IsNamedTable}
use Rattle.net_text.specs.TypeWords.{ty_of}
use Rattle.net_text.specs.Names.{keyword_of}
use Rattle.net_text.specs.Forms.{is_above, fresh, narrow_of, number_written, numbers_written, list_front, are_values, rises, points_given, axis_line, values_given, table_line, steps, counts, are_steps, steps_given, axisstep_line, line_of, defining_line}
use Rattle.net_text.specs.Text.{after_definition, after_line}
use Rattle.net_text.specs.Printing.{number_words, axis_words, table_words}
use Rattle.net_text.proofs.ListFacts.{held_is_small}
use Rattle.net_text.proofs.PrintedKinds.{is_word-type_word}

-- ---- what a valid list says of its numbers

all_hold : (ty : Ty) (numbers : List ℤ) → ((i : ℕ) → i < length numbers → Holds ty (point_at numbers i)) → list_all (λ n. holds ty n) numbers ≡ true
all_hold ty [] held = refl
all_hold ty (n ∷ numbers) held =
    and_from _ _ (holds-Holds ty n (held 0 (omega arith))) (all_hold ty numbers (λ i lt. held (suc i) (omega (arith, lt))))

values_hold : (ty : Ty) (numbers : List ℤ) → 2 ≤ length numbers → list_all (λ n. holds ty n) numbers ≡ true → are_values ty numbers ≡ true
values_hold ty numbers some held = and_from _ _ (le-leb 2 (length numbers) some) held

above_test : (p q : ℤ) → p <ℤ q → not (int_le q p) ≡ true
above_test p q h = grind (arith, ints)

all_rise : (points : List ℤ) → ((i : ℕ) → suc i < length points → point_at points i <ℤ point_at points (suc i)) → rises points ≡ true
all_rise [] rising = refl
all_rise (p ∷ []) rising = refl
all_rise (p ∷ q ∷ points) rising =
    and_from _ _ (above_test p q (rising 0 (omega arith))) (all_rise (q ∷ points) (λ i lt. rising (suc i) (omega (arith, lt))))

-- ---- the words of numbers

-- a number of a type has at most 64 digits
held_is_short : (ty : Ty) (n : ℤ) → holds ty n ≡ true → unsigned_abs n < 10 ^ 64
held_is_short ty n h = let small = held_is_small ty n h in omega arith

numbers_good : (ty : Ty) (numbers : List ℤ) → list_all (λ n. holds ty n) numbers ≡ true → are_words (number_words numbers) ≡ true
numbers_good ty [] h = refl
numbers_good ty (n ∷ numbers) h =
    let p = and_parts (holds ty n) (list_all (λ n. holds ty n) numbers) h in
    and_from _ _ (is_word-signed_decimal n (held_is_short ty n p.0)) (numbers_good ty numbers p.1)

is_some-by : {A : Type 0} (o : Option A) (v : A) → o ≡ Some v → is_some o ≡ true
is_some-by o v h = rw h refl

numbers_there : (ty : Ty) (numbers : List ℤ) → list_all (λ n. holds ty n) numbers ≡ true → list_all (λ word. is_some (number_of word)) (number_words numbers) ≡ true
numbers_there ty [] h = refl
numbers_there ty (n ∷ numbers) h =
    let p = and_parts (holds ty n) (list_all (λ n. holds ty n) numbers) h in
    and_from _ _ (is_some-by (number_of (signed_decimal n)) n (number_of-signed_decimal n (held_is_short ty n p.0))) (numbers_there ty numbers p.1)

number_back : (n : ℤ) → unsigned_abs n < 10 ^ 64 → number_written (signed_decimal n) ≡ n
number_back n small = rw (number_of-signed_decimal n small)

numbers_back : (ty : Ty) (numbers : List ℤ) → list_all (λ n. holds ty n) numbers ≡ true → numbers_written (number_words numbers) ≡ numbers
numbers_back ty [] h = refl
numbers_back ty (n ∷ numbers) h =
    let p = and_parts (holds ty n) (list_all (λ n. holds ty n) numbers) h in
    ap (λ m. m ∷ numbers_written (number_words numbers)) (number_back n (held_is_short ty n p.0)) ∙ ap (λ ms. n ∷ ms) (numbers_back ty numbers p.1)

-- ---- the front of a line

narrow_type : (ty : Ty) → width_of ty ≤ 16 → narrow_of (ty_of (type_word ty)) ≡ Some ty
narrow_type U8 narrow = refl
narrow_type S8 narrow = refl
narrow_type U16 narrow = refl
narrow_type S16 narrow = refl
narrow_type U32 narrow = absurd (omega (arith, narrow))
narrow_type S32 narrow = absurd (omega (arith, narrow))

-- a name that no line above defines
record IsFresh (net : NetData) (name : List ℕ) : Type 0 where
  named : is_name name ≡ true
  fresh : is_above net name ≡ false

front_read : (net : NetData) (keyword name word : List ℕ) (rest : List (List ℕ)) (ty : Ty) (has_form : Bool) → IsFresh net name → has_form ≡ true → narrow_of (ty_of word) ≡ Some ty → list_all (λ word. is_some (number_of word)) rest ≡ true
    → list_front has_form net (keyword ∷ name ∷ word ∷ rest) ≡ Ok ty
unfolding list_front fresh
front_read net keyword name word rest ty has_form new form narrow numbers = rw (form, new.named, new.fresh, narrow, numbers)

-- three words and one number for each of two or more
long_enough : (keyword name word : List ℕ) (numbers : List ℤ) → 2 ≤ length numbers → nat_le 4 (length (keyword ∷ name ∷ word ∷ number_words numbers)) ≡ true
long_enough keyword name word numbers some = le-leb 4 (length (keyword ∷ name ∷ word ∷ number_words numbers)) (omega (arith, length-map numbers signed_decimal, some))

-- ---- listed points and values

points_read : (above : ℕ) (ty : Ty) (points : List ℤ) → nat_lt above 64 ≡ true → length points ≤ 4096 → are_values ty points ≡ true → rises points ≡ true → points_given above ty points ≡ Ok (listed_axis ty points)
unfolding points_given
points_read above ty points room few values rise = let short = le-leb (length points) 4096 few in rw (values, rise, short, room)

axis_line-reads : (net : NetData) (name : List ℕ) (ty : Ty) (points : List ℤ) → IsFresh net name → nat_lt (length net.axes) 64 ≡ true → IsAxis ty points
    → axis_line net (codes "axis" ∷ name ∷ type_word ty ∷ number_words points) ≡ Ok (listed_axis ty points)
unfolding axis_line
axis_line-reads net name ty points new room axis =
    let above = length net.axes in
    let words = number_words points in
    let hold = all_hold ty points axis.held in
    let front = front_read net (codes "axis") name (type_word ty) words ty (nat_le 4 (length (codes "axis" ∷ name ∷ type_word ty ∷ words))) new (long_enough (codes "axis") name (type_word ty) points axis.some) (narrow_type ty axis.narrow) (numbers_there ty points hold) in
    ap (λ (f : Result Ty NetKind). f >>= λ t. points_given above t (numbers_written words)) front
    ∙ ap (λ ps. points_given above ty ps) (numbers_back ty points hold)
    ∙ points_read above ty points room axis.few (values_hold ty points axis.some hold) (all_rise points axis.rising)

abbrev table_of : Ty → List ℤ → TableData
table_of ty values = record { ty = ty; values = values }

values_read : (above : ℕ) (ty : Ty) (values : List ℤ) → nat_lt above 64 ≡ true → length values ≤ 4096 → are_values ty values ≡ true → values_given above ty values ≡ Ok (table_of ty values)
unfolding values_given
values_read above ty values room few good = let short = le-leb (length values) 4096 few in rw (good, short, room)

table_line-reads : (net : NetData) (name : List ℕ) (ty : Ty) (values : List ℤ) → IsFresh net name → nat_lt (length net.tables) 64 ≡ true → IsTable ty values
    → table_line net (codes "table" ∷ name ∷ type_word ty ∷ number_words values) ≡ Ok (table_of ty values)
unfolding table_line
table_line-reads net name ty values new room table =
    let above = length net.tables in
    let words = number_words values in
    let hold = all_hold ty values table.held in
    let front = front_read net (codes "table") name (type_word ty) words ty (nat_le 4 (length (codes "table" ∷ name ∷ type_word ty ∷ words))) new (long_enough (codes "table") name (type_word ty) values table.some) (narrow_type ty table.narrow) (numbers_there ty values hold) in
    ap (λ (f : Result Ty NetKind). f >>= λ t. values_given above t (numbers_written words)) front
    ∙ ap (λ vs. values_given above ty vs) (numbers_back ty values hold)
    ∙ values_read above ty values room table.few (values_hold ty values table.some hold)

-- ---- points in equal steps

-- the first point is the offset, and the second is a step above it
first_is : (offset step : ℤ) → offset +ℤ pos 0 *ℤ step ≡ offset
first_is offset step = omega (arith, ints)

second_is : (offset step : ℤ) → offset +ℤ pos 1 *ℤ step ≡ offset +ℤ step
second_is offset step = omega (arith, ints)

one_less : (n : ℕ) → 1 ≤ n → pos n -ℤ pos 1 ≡ pos (n - 1)
one_less n h = omega (arith, ints)

-- a step between two numbers of one narrow type is short
step_between : (low high offset step : ℤ) → low ≤ℤ offset → (offset +ℤ step) ≤ℤ high → offset <ℤ (offset +ℤ step) → high ≤ℤ (low +ℤ pos 65535) → is_in_range steps step ≡ true
step_between low high offset step p q r wide = grind (arith, ints)

narrow_span : (ty : Ty) → width_of ty ≤ 16 → greatest_of ty ≤ℤ (least_of ty +ℤ pos 65535)
narrow_span U8 narrow = omega (arith, ints)
narrow_span S8 narrow = omega (arith, ints)
narrow_span U16 narrow = omega (arith, ints)
narrow_span S16 narrow = omega (arith, ints)
narrow_span U32 narrow = absurd (omega (arith, narrow))
narrow_span S32 narrow = absurd (omega (arith, narrow))

count_test : (n : ℕ) → 2 ≤ n → n ≤ 4096 → is_in_range counts (pos n) ≡ true
count_test n some few = and_from _ _ (le-leb 2 n some) (le-leb n 65536 (omega (arith, few)))

-- what an axis says whose points are in equal steps
record IsInSteps (ty : Ty) (offset step : ℤ) (points : List ℤ) : Type 0 where
  first : holds ty offset ≡ true
  good : are_steps ty offset step (pos (length points)) ≡ true
  short : unsigned_abs step < 10 ^ 64

range_is_short : (step : ℤ) → is_in_range steps step ≡ true → unsigned_abs step < 10 ^ 64
range_is_short step h = let small = size step h in omega arith
  where
    size : (step : ℤ) → is_in_range steps step ≡ true → unsigned_abs step ≤ 65535
    size step h = grind (arith, ints)

in_steps : (ty : Ty) (offset step : ℤ) (points : List ℤ) → IsAxis ty points → points ≡ stepped_points offset step (length points) → IsInSteps ty offset step points
in_steps ty offset step points axis spaced =
    let n = length points in
    let some : 2 ≤ n = axis.some in
    let at : (i : ℕ) → i < n → point_at points i ≡ offset +ℤ pos i *ℤ step = λ i lt. ap (λ l. point_at l i) spaced ∙ point_at-stepped offset step n i lt in
    let zero_in : 0 < n = omega (arith, some) in
    let one_in : 1 < n = omega (arith, some) in
    let last_in : n - 1 < n = omega (arith, some) in
    let first : point_at points 0 ≡ offset = at 0 zero_in ∙ first_is offset step in
    let second : point_at points 1 ≡ offset +ℤ step = at 1 one_in ∙ second_is offset step in
    let last : point_at points (n - 1) ≡ offset +ℤ (pos n -ℤ pos 1) *ℤ step =
    at (n - 1) last_in ∙ ap (λ z. offset +ℤ z *ℤ step) (sym (one_less n (omega (arith, some)))) in
    let first_held = subst (λ z. Holds ty z) first (axis.held 0 zero_in) in
    let second_held = subst (λ z. Holds ty z) second (axis.held 1 one_in) in
    let last_held = subst (λ z. Holds ty z) last (axis.held (n - 1) last_in) in
    let higher = subst (λ z. offset <ℤ z) second (subst (λ z. z <ℤ point_at points 1) first (axis.rising 0 one_in)) in
    let step_in = step_between (least_of ty) (greatest_of ty) offset step first_held.0 second_held.1 higher (narrow_span ty axis.narrow) in
    record {
      first = holds-Holds ty offset first_held;
      good = and_from _ _ (and_from _ _ (and_from _ _ step_in (count_test n some axis.few)) (holds-Holds ty offset first_held)) (holds-Holds ty (offset +ℤ (pos n -ℤ pos 1) *ℤ step) last_held);
      short = range_is_short step step_in;
    }

-- a count of points has few digits
count_is_short : (n : ℕ) → n ≤ 4096 → unsigned_abs (pos n) < 10 ^ 64
count_is_short n few = omega (arith, few)

steps_read : (above : ℕ) (ty : Ty) (offset step : ℤ) (n : ℕ) → nat_lt above 64 ≡ true → n ≤ 4096 → are_steps ty offset step (pos n) ≡ true → steps_given above ty offset step (pos n) ≡ Ok (stepped_axis ty offset step n)
unfolding steps_given
steps_read above ty offset step n room few good = let short = le-leb n 4096 few in rw (good, short, room)

three_numbers : (a b c : ℤ) → unsigned_abs a < 10 ^ 64 → unsigned_abs b < 10 ^ 64 → unsigned_abs c < 10 ^ 64 → list_all (λ word. is_some (number_of word)) (signed_decimal a ∷ signed_decimal b ∷ signed_decimal c ∷ []) ≡ true
three_numbers a b c p q r = rw (number_of-signed_decimal a p, number_of-signed_decimal b q, number_of-signed_decimal c r)

axisstep_line-reads : (net : NetData) (name : List ℕ) (ty : Ty) (offset step : ℤ) (points : List ℤ) → IsFresh net name → nat_lt (length net.axes) 64 ≡ true → IsAxis ty points → points ≡ stepped_points offset step (length points)
    → axisstep_line net (codes "axisstep" ∷ name ∷ type_word ty ∷ signed_decimal offset ∷ signed_decimal step ∷ signed_decimal (pos (length points)) ∷ []) ≡ Ok (stepped_axis ty offset step (length points))
unfolding axisstep_line
axisstep_line-reads net name ty offset step points new room axis spaced =
    let above = length net.axes in
    let count : ℤ = pos (length points) in
    let known = in_steps ty offset step points axis spaced in
    let offset_short = held_is_short ty offset known.first in
    let count_short = count_is_short (length points) axis.few in
    let words = signed_decimal offset ∷ signed_decimal step ∷ signed_decimal count ∷ [] in
    let front = front_read net (codes "axisstep") name (type_word ty) words ty true new refl (narrow_type ty axis.narrow) (three_numbers offset step count offset_short known.short count_short) in
    ap (λ (f : Result Ty NetKind). f >>= λ t. steps_given above t (number_written (signed_decimal offset)) (number_written (signed_decimal step)) (number_written (signed_decimal count))) front
    ∙ ap (λ z. steps_given above ty z (number_written (signed_decimal step)) (number_written (signed_decimal count))) (number_back offset offset_short)
    ∙ ap (λ z. steps_given above ty offset z (number_written (signed_decimal count))) (number_back step known.short)
    ∙ ap (λ z. steps_given above ty offset step z) (number_back count count_short)
    ∙ steps_read above ty offset step (length points) room axis.few known.good

-- ---- lines

-- an axis of these parts
abbrev axis_of : Ty → List ℤ → Option (ℤ × ℤ) → AxisData
axis_of ty points spacing = record { ty = ty; points = points; spacing = spacing }

axis_by : (lines : List (List ℕ)) (net : NetData) (name : List ℕ) (ty : Ty) (points : List ℤ) (spacing : Option (ℤ × ℤ)) → IsFresh net name → nat_lt (length net.axes) 64 ≡ true → IsAxis ty points → IsSpaced points spacing
    → after_line lines net (axis_words (name, axis_of ty points spacing)) ≡ Ok (with_axis net (name, axis_of ty points spacing))
unfolding after_line after_definition defining_line keyword_of line_of
axis_by lines net name ty points None new room axis spaced = rw (axis_line-reads net name ty points new room axis)
axis_by lines net name ty points (Some (offset, step)) new room axis spaced =
    rw (axisstep_line-reads net name ty offset step points new room axis spaced)
    (ap (λ l. Ok (with_axis net (name, axis_of ty l (Some (offset, step))))) (sym spaced))

pub axis_read : (lines : List (List ℕ)) (net : NetData) (a : NamedAxis) → IsNamedAxis a → is_above net a.0 ≡ false → nat_lt (length net.axes) 64 ≡ true → after_line lines net (axis_words a) ≡ Ok (with_axis net a)
axis_read lines net a ok fresh room =
    axis_by lines net a.0 a.1.ty a.1.points a.1.spacing (record { named = ok.name; fresh = fresh }) room ok.axis ok.spaced

table_by : (lines : List (List ℕ)) (net : NetData) (name : List ℕ) (ty : Ty) (values : List ℤ) → IsFresh net name → nat_lt (length net.tables) 64 ≡ true → IsTable ty values
    → after_line lines net (table_words (name, table_of ty values)) ≡ Ok (with_table net (name, table_of ty values))
unfolding after_line after_definition defining_line keyword_of line_of
table_by lines net name ty values new room table = rw (table_line-reads net name ty values new room table)

pub table_read : (lines : List (List ℕ)) (net : NetData) (t : NamedTable) → IsNamedTable t → is_above net t.0 ≡ false → nat_lt (length net.tables) 64 ≡ true → after_line lines net (table_words t) ≡ Ok (with_table net t)
table_read lines net t ok fresh room = table_by lines net t.0 t.1.ty t.1.values (record { named = ok.name; fresh = fresh }) room ok.table

-- ---- the words of a line

axis_good : (name : List ℕ) (ty : Ty) (points : List ℤ) (spacing : Option (ℤ × ℤ)) → is_name name ≡ true → IsAxis ty points → IsSpaced points spacing → are_words (axis_words (name, axis_of ty points spacing)) ≡ true
axis_good name ty points None named axis spaced =
    and_from _ _ (is_word-name name named) (and_from _ _ (is_word-type_word ty) (numbers_good ty points (all_hold ty points axis.held)))
axis_good name ty points (Some (offset, step)) named axis spaced =
    let known = in_steps ty offset step points axis spaced in
    let count = and_from _ _ (is_word-signed_decimal (pos (length points)) (count_is_short (length points) axis.few)) refl in
    and_from _ _ (is_word-name name named) (and_from _ _ (is_word-type_word ty) (and_from _ _ (is_word-signed_decimal offset (held_is_short ty offset known.first)) (and_from _ _ (is_word-signed_decimal step known.short) count)))

pub axis_words_good : (a : NamedAxis) → IsNamedAxis a → are_words (axis_words a) ≡ true
axis_words_good a ok = axis_good a.0 a.1.ty a.1.points a.1.spacing ok.name ok.axis ok.spaced

pub table_words_good : (t : NamedTable) → IsNamedTable t → are_words (table_words t) ≡ true
table_words_good t ok =
    and_from _ _ (is_word-name t.0 ok.name) (and_from _ _ (is_word-type_word t.1.ty) (numbers_good t.1.ty t.1.values (all_hold t.1.ty t.1.values ok.table.held)))
