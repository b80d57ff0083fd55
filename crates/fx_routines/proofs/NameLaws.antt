-- A name is read again as the routine that it is written for, and what is read is what is written.
use Rattle.std.proofs.Common.{◌≡◌, ℕ, zero, suc, ◌<◌, ◌==◌, Bool, true, false, not, cond, ◌&&◌, ◌||◌, inl, inr, List, [], ◌∷◌, ◌++◌, length, find, is_some, slice_index_or, All, IfSome, Option, Some, None, refl, sym, ap, ◌∙◌, subst, arith}
use Rattle.std.specs.List.{list_all, Any}
use Rattle.std.proofs.lemmas.Bool.{and_parts, not-true, or_cases, true≢false}
use Rattle.std.proofs.lemmas.Bool.Decides.{Decides-eqb}
use Rattle.std.proofs.lemmas.Option.{option_and_then_some, same_Some}
use Rattle.fx_routines.specs.declared.operation.Types.{Types}
use Rattle.fx_routines.specs.declared.table.Routine.{Routine}
use Rattle.fx_routines.specs.Rows.{Row, rows, routine_of, front_of, parts_of, same_routine, has_variant}
use Rattle.fx_routines.specs.Names.{words, fits, is_row_of, row_of, takes, row_name, name_by, routine_name, IsNameOf, all_names}
use Rattle.fx_routines.specs.Reading.{after, read_parts, row_named, or_else, named_among, named, no_choice}
use Rattle.fx_routines.specs.Variants.{HasOneWidth}
use Rattle.fx_routines.specs.Laws.{IsReadAgain, TakesWhatItsNameReads}
use Rattle.fx_routines.proofs.SameRoutines.{same_routine_gives, same_routine-same}
use Rattle.fx_routines.proofs.PartLaws.{after-append, after_gives, are_readable, keep_width, one_width, parts_give, reads_words}

-- ---- fronts

-- xs begins ys
abbrev begins : List ℕ → List ℕ → Bool
begins [] ys = true
begins (x ∷ xs) [] = false
begins (x ∷ xs) (y ∷ ys) = (x == y) && begins xs ys

abbrev pub fronts_apart : Row → Row → Bool
fronts_apart row other = not (begins (front_of row) (front_of other)) && not (begins (front_of other) (front_of row))

abbrev pub are_apart : List Row → Bool
are_apart [] = true
are_apart (row ∷ others) = list_all (fronts_apart row) others && are_apart others

both_begin : (a b xs ys : List ℕ) → a ++ xs ≡ b ++ ys → not (begins a b) ≡ true → not (begins b a) ≡ true → ⊥
both_begin [] b xs ys e h k = absurd (cc)
both_begin (x ∷ a) [] xs ys e h k = absurd (cc)
both_begin (x ∷ a) (y ∷ b) xs ys e h k =
    let here : x ≡ y = cc in
    let there : a ++ xs ≡ b ++ ys = cc in
    both_begin a b xs ys there
    (subst (λ t. not (t && begins a b) ≡ true) ((Decides-eqb x y).1 here) h)
    (subst (λ t. not (t && begins b a) ≡ true) ((Decides-eqb y x).1 (sym here)) k)

none_or : {A : Type 0} (o : Option A) → ((x : A) → o ≡ Some x → ⊥) → o ≡ None
none_or None h = refl
none_or (Some x) h = absurd (h x refl)

-- ---- one row

pub row_reads : (row : Row) (v : Types) → are_readable (parts_of row) ≡ true → fits (parts_of row) v ≡ true → row_named row (row_name row v) ≡ Some (routine_of row, v)
unfolding row_named
row_reads row v readable h = rw (after-append (front_of row) (words (parts_of row) v), reads_words (parts_of row) v readable h) refl

row_gives : (row : Row) (word : List ℕ) (routine : Routine) (v : Types) → are_readable (parts_of row) ≡ true → row_named row word ≡ Some (routine, v)
    → (routine_of row ≡ routine) × (fits (parts_of row) v ≡ true) × (word ≡ row_name row v)
unfolding row_named
row_gives row word routine v readable h =
    option_and_then_some _ (after (front_of row) word) (routine, v) h
    (λ rest e f. option_and_then_some _ (read_parts (parts_of row) no_choice rest) (routine, v) f
    (λ w g k.
    let same = same_Some (routine_of row, w) (routine, v) k in
    let written = parts_give (parts_of row) rest w readable g in
    subst (λ r. (routine_of row ≡ r.0) × (fits (parts_of row) r.1 ≡ true) × (word ≡ row_name row r.1)) same
    (refl, written.1, after_gives (front_of row) word rest e ∙ ap (λ t. front_of row ++ t) written.0)))

pub row_other : (row other : Row) (rest : List ℕ) → fronts_apart row other ≡ true → row_named row (front_of other ++ rest) ≡ None
unfolding row_named
row_other row other rest h =
    let apart = and_parts (not (begins (front_of row) (front_of other))) (not (begins (front_of other) (front_of row))) h in
    none_or _ (λ found e. option_and_then_some _ (after (front_of row) (front_of other ++ rest)) found e
    (λ left g k. both_begin (front_of row) (front_of other) left rest (sym (after_gives (front_of row) (front_of other ++ rest) left g)) apart.0 apart.1))

-- ---- rows

all_at : {A : Type 0} (p : A → Bool) (xs : List A) → list_all p xs ≡ true → (k : ℕ) (d : A) → k < length xs → p (slice_index_or xs k d) ≡ true
all_at p [] h k d lt = absurd (omega arith)
all_at p (x ∷ xs) h zero d lt = (and_parts (p x) (list_all p xs) h).0
all_at p (x ∷ xs) h (suc k) d lt = all_at p xs (and_parts (p x) (list_all p xs) h).1 k d (omega arith)

among_at : (rs : List Row) → are_apart rs ≡ true → (k : ℕ) (d : Row) → k < length rs → (rest : List ℕ) (found : Routine × Types)
    → row_named (slice_index_or rs k d) (front_of (slice_index_or rs k d) ++ rest) ≡ Some found
    → named_among rs (front_of (slice_index_or rs k d) ++ rest) ≡ Some found
among_at [] apart k d lt rest found h = absurd (omega arith)
among_at (r ∷ rs) apart zero d lt rest found h = rw h refl
among_at (r ∷ rs) apart (suc k) d lt rest found h =
    let a = and_parts (list_all (fronts_apart r) rs) (are_apart rs) apart in
    rw (row_other r (slice_index_or rs k d) rest (all_at (fronts_apart r) rs a.0 k d (omega arith)))
    (among_at rs a.1 k d (omega arith) rest found h)

abbrev Names : Routine → Types → List ℕ → Row → Type 0
Names routine v word row = (routine_of row ≡ routine) × (fits (parts_of row) v ≡ true) × (word ≡ row_name row v)

later : (r : Row) (rs : List Row) (P : Row → Type 0) → Any P rs → Any P (r ∷ rs)
later r rs P a = (suc a.0, a.1, omega (arith, a.2), a.3, a.4)

first_gives : (r : Row) (rs : List Row) (word : List ℕ) (routine : Routine) (v : Types) → are_readable (parts_of r) ≡ true → (o : Option (Routine × Types)) → row_named r word ≡ o
    → (named_among rs word ≡ Some (routine, v) → Any (Names routine v word) rs) → or_else o (named_among rs word) ≡ Some (routine, v) → Any (Names routine v word) (r ∷ rs)
first_gives r rs word routine v readable (Some found) e there h = (zero, r, omega arith, refl, row_gives r word routine v readable (e ∙ h))
first_gives r rs word routine v readable None e there h = later r rs (Names routine v word) (there h)

among_gives : (rs : List Row) (word : List ℕ) (routine : Routine) (v : Types) → list_all (λ r. are_readable (parts_of r)) rs ≡ true
    → named_among rs word ≡ Some (routine, v) → Any (Names routine v word) rs
among_gives [] word routine v readable h = absurd (cc)
among_gives (r ∷ rs) word routine v readable h =
    let a = and_parts (are_readable (parts_of r)) (list_all (λ r. are_readable (parts_of r)) rs) readable in
    first_gives r rs word routine v a.0 (row_named r word) refl (among_gives rs word routine v a.1) h

-- ---- the table

pub table_readable : list_all (λ r. are_readable (parts_of r)) rows ≡ true
unfolding rows
table_readable = refl

pub table_apart : are_apart rows ≡ true
unfolding rows
table_apart = refl

pub length-all_names : length all_names ≡ 1803
unfolding all_names rows
length-all_names = refl

pub read_again : All IsReadAgain rows
unfolding named
read_again k d lt v h =
    let row = slice_index_or rows k d in
    among_at rows table_apart k d lt (words (parts_of row) v) (routine_of row, v)
    (row_reads row v (all_at (λ r. are_readable (parts_of r)) rows table_readable k d lt) h)

pub named_gives : (word : List ℕ) (routine : Routine) (v : Types) → named word ≡ Some (routine, v) → IsNameOf routine v word
unfolding named
named_gives word routine v h = among_gives rows word routine v table_readable h

pub named-name : (word : List ℕ) (routine : Routine) (v : Types) → IsNameOf routine v word → named word ≡ Some (routine, v)
named-name word routine v n =
    let at : slice_index_or rows n.0 n.1 ≡ n.1 = n.3 in
    let read : named (row_name n.1 v) ≡ Some (routine_of n.1, v) =
    subst (λ r. fits (parts_of r) v ≡ true → named (row_name r v) ≡ Some (routine_of r, v)) at (read_again n.0 n.1 n.2 v) n.4.1 in
    ap named n.4.2 ∙ read ∙ ap (λ r. Some (r, v)) n.4.0

-- ---- what is taken

find_step : (p : Row → Bool) (x : Row) (xs : List Row) (y : Row) (b : Bool) → p x ≡ b
    → (find p xs ≡ Some y → (k : ℕ) × (k < length xs) × (slice_index_or xs k y ≡ y) × (p y ≡ true))
    → cond b (Some x) (find p xs) ≡ Some y → (k : ℕ) × (k < length (x ∷ xs)) × (slice_index_or (x ∷ xs) k y ≡ y) × (p y ≡ true)
find_step p x xs y true e there h = let same = same_Some x y h in (zero, omega arith, same, subst (λ r. p r ≡ true) same e)
find_step p x xs y false e there h = let f = there h in (suc f.0, omega (arith, f.1), f.2, f.3)

-- what is found stands in the list and passes
find_gives : (p : Row → Bool) (xs : List Row) (y : Row) → find p xs ≡ Some y → (k : ℕ) × (k < length xs) × (slice_index_or xs k y ≡ y) × (p y ≡ true)
find_gives p [] y h = absurd (cc)
find_gives p (x ∷ xs) y h = find_step p x xs y (p x) refl (find_gives p xs y) h

-- one that passes is found
found_once : (p : Row → Bool) (x : Row) (xs : List Row) (b : Bool) → is_some (find p xs) ≡ true → is_some (cond b (Some x) (find p xs)) ≡ true
found_once p x xs true h = refl
found_once p x xs false h = h

find_at : (p : Row → Bool) (xs : List Row) (k : ℕ) (d : Row) → k < length xs → p (slice_index_or xs k d) ≡ true → is_some (find p xs) ≡ true
find_at p [] k d lt h = absurd (omega arith)
find_at p (x ∷ xs) zero d lt h = rw h refl
find_at p (x ∷ xs) (suc k) d lt h = found_once p x xs (p x) (find_at p xs k d (omega arith) h)

taken_by : (routine : Routine) (v : Types) (o : Option Row) → row_of routine v ≡ o → is_some o ≡ true → named (name_by o v) ≡ Some (routine, v)
unfolding row_of
taken_by routine v None e h = absurd (cc)
taken_by routine v (Some row) e h =
    let f = find_gives (is_row_of routine v) rows row e in
    let is = and_parts (same_routine (routine_of row) routine) (fits (parts_of row) v) f.3 in
    named-name (row_name row v) routine v (f.0, row, f.1, f.2, (same_routine_gives (routine_of row) routine is.0, is.1, refl))

-- a routine takes what some row of it fits
pub takes_by_row : (routine : Routine) (v : Types) (k : ℕ) (d : Row) → k < length rows → routine_of (slice_index_or rows k d) ≡ routine → fits (parts_of (slice_index_or rows k d)) v ≡ true → takes routine v ≡ true
unfolding row_of
takes_by_row routine v k d lt e h =
    find_at (is_row_of routine v) rows k d lt (rw (e, same_routine-same routine) h)

pub taken_names : (routine : Routine) → TakesWhatItsNameReads routine
taken_names routine v = (
  (λ h. taken_by routine v (row_of routine v) refl h),
  (λ h. let n = named_gives (routine_name routine v) routine v h in
      takes_by_row routine v n.0 n.1 n.2 (ap routine_of n.3 ∙ n.4.0) (ap (λ r. fits (parts_of r) v) n.3 ∙ n.4.1)),
)

pub read_is_named : (word : List ℕ) (answer : Option (Routine × Types)) → answer ≡ named word
    → IfSome answer (λ found. IsNameOf found.0 found.1 word)
read_is_named word None e = tt
read_is_named word (Some found) e = named_gives word found.0 found.1 (sym e)

-- where the types of a row's routine are those of a variant, the parts keep one width
abbrev keeps_one_width : Row → Bool
keeps_one_width row = not (has_variant (routine_of row)) || keep_width (parts_of row)

table_keeps_width : list_all keeps_one_width rows ≡ true
unfolding rows
table_keeps_width = refl

pub variant_has_one_width : (routine : Routine) (v : Types) (word : List ℕ) → IsNameOf routine v word → has_variant routine ≡ true → HasOneWidth v
variant_has_one_width routine v word n variant =
    let keeps : keeps_one_width n.1 ≡ true = ap keeps_one_width (sym n.3) ∙ all_at keeps_one_width rows table_keeps_width n.0 n.1 n.2 in
    elim (or_cases (not (has_variant (routine_of n.1))) (keep_width (parts_of n.1)) keeps) [
      | inl no_variant ↦ absurd (true≢false (sym (ap has_variant n.4.0 ∙ variant) ∙ not-true _ no_variant))
      | inr same ↦ one_width (parts_of n.1) v same n.4.1
    ]

pub read_has_one_width : (word : List ℕ) (answer : Option (Routine × Types)) → answer ≡ named word
    → IfSome answer (λ found. has_variant found.0 ≡ true → HasOneWidth found.1)
read_has_one_width word None e = tt
read_has_one_width word (Some found) e = variant_has_one_width found.0 found.1 word (named_gives word found.0 found.1 (sym e))

pub names_are_read : (word : List ℕ) (answer : Option (Routine × Types)) → answer ≡ named word
    → (routine : Routine) (v : Types) → IsNameOf routine v word → answer ≡ Some (routine, v)
names_are_read word answer e routine v n = e ∙ named-name word routine v n
