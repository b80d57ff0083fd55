-- No two names of the table are the same: those of two rows begin apart, and those of one row are read as other types.
use Rattle.std.proofs.Common.{◌≡◌, ◌≢◌, ℕ, zero, suc, ◌+◌, ◌*◌, ◌≤◌, Bool, true, false, cond, ◌&&◌, List, [], ◌∷◌, ◌++◌, map, filter, All, AllPairs, Some, None, refl, sym, ap, ◌∙◌, subst, arith}
use Rattle.std.specs.List.{list_all, AllByRecursion}
use Rattle.std.specs.Prelude.{flat_map, nat_le}
use Rattle.std.proofs.lemmas.Bool.{and_parts, leb-true}
use Rattle.std.proofs.lemmas.List.Kept.{AllPairs-cons}
use Rattle.std.proofs.lemmas.Option.{same_Some}
use Rattle.fx_core.specs.declared.word_type.Ty.{Ty}
use Rattle.fx_core.specs.declared.word_type.Ty.TheVariants.{U8, S8, U16, S16, U32, S32}
use Rattle.fx_routines.specs.declared.operation.Types.{Types}
use Rattle.fx_routines.specs.declared.table.Routine.{Routine}
use Rattle.fx_routines.specs.Rows.{Row, rows, routine_of, parts_of}
use Rattle.fx_routines.specs.Names.{words, fits, row_name, all_choices, row_names, all_names}
use Rattle.fx_routines.specs.Reading.{row_named}
use Rattle.fx_routines.proofs.PartLaws.{are_readable}
use Rattle.fx_routines.proofs.NameLaws.{are_apart, fronts_apart, row_other, row_reads, table_apart, table_readable}

-- ---- lists

abbrev Distinct : {A : Type 0} → List A → Type 0
Distinct [] = Unit {0}
Distinct (x ∷ xs) = AllByRecursion (λ y. x ≢ y) xs × Distinct xs

all_at_places : {A : Type 0} (P : A → Type 0) (xs : List A) → AllByRecursion P xs → All P xs
all_at_places P [] h k d lt = absurd (omega arith)
all_at_places P (x ∷ xs) h zero d lt = h.0
all_at_places P (x ∷ xs) h (suc k) d lt = all_at_places P xs h.1 k d (omega arith)

distinct_pairs : {A : Type 0} (xs : List A) → Distinct xs → AllPairs (λ a b. a ≢ b) xs
distinct_pairs [] h = λ i j d lt within. absurd (omega arith)
distinct_pairs (x ∷ xs) h = AllPairs-cons (λ a b. a ≢ b) x xs (all_at_places (λ y. x ≢ y) xs h.0) (distinct_pairs xs h.1)

all_imply : {A : Type 0} (P Q : A → Type 0) → ((x : A) → P x → Q x) → (xs : List A) → AllByRecursion P xs → AllByRecursion Q xs
all_imply P Q f [] h = tt
all_imply P Q f (x ∷ xs) h = (f x h.0, all_imply P Q f xs h.1)

all_append : {A : Type 0} (P : A → Type 0) (xs ys : List A) → AllByRecursion P xs → AllByRecursion P ys → AllByRecursion P (xs ++ ys)
all_append P [] ys h k = k
all_append P (x ∷ xs) ys h k = (h.0, all_append P xs ys h.1 k)

-- two lists that a property tells apart
distinct_append : {A : Type 0} (Q : A → Type 0) (xs ys : List A) → AllByRecursion (λ x. Q x → ⊥) xs → AllByRecursion Q ys → Distinct xs → Distinct ys → Distinct (xs ++ ys)
distinct_append Q [] ys a b d e = e
distinct_append Q (x ∷ xs) ys a b d e = (
  all_append (λ y. x ≢ y) xs ys d.0 (all_imply Q (λ y. x ≢ y) (λ y q same. a.0 (subst Q (sym same) q)) ys b),
  distinct_append Q xs ys a.1 b d.1 e,
)

-- ---- the choices of types

abbrev number_of : Ty → ℕ
number_of U8 = 0
number_of S8 = 1
number_of U16 = 2
number_of S16 = 3
number_of U32 = 4
number_of S32 = 5

-- the place of three types among all
abbrev place_of : Types → ℕ
place_of v = 36 * number_of v.x + 6 * number_of v.y + number_of v.o

-- the places rise from n on
abbrev rise : ℕ → List Types → Bool
rise n [] = true
rise n (v ∷ choices) = nat_le n (place_of v) && rise (suc (place_of v)) choices

rise_above : (n m : ℕ) (choices : List Types) → n ≤ m → rise m choices ≡ true → AllByRecursion (λ v. n ≤ place_of v) choices
rise_above n m [] low h = tt
rise_above n m (v ∷ choices) low h =
    let a = and_parts (nat_le m (place_of v)) (rise (suc (place_of v)) choices) h in
    let here : m ≤ place_of v = leb-true _ _ a.0 in
    (omega (arith, here, low), rise_above n (suc (place_of v)) choices (omega (arith, here, low)) a.1)

rise_distinct : (n : ℕ) (choices : List Types) → rise n choices ≡ true → Distinct choices
rise_distinct n [] h = tt
rise_distinct n (v ∷ choices) h =
    let a = and_parts (nat_le n (place_of v)) (rise (suc (place_of v)) choices) h in (
      all_imply (λ w. suc (place_of v) ≤ place_of w) (λ w. v ≢ w) (λ w above same. absurd (omega (arith, above, ap place_of same))) choices (rise_above (suc (place_of v)) (suc (place_of v)) choices (omega arith) a.1),
      rise_distinct (suc (place_of v)) choices a.1,
    )

distinct_choices : Distinct all_choices
distinct_choices = rise_distinct 0 all_choices refl

-- ---- one row

all_have : {A : Type 0} (P : A → Type 0) → ((x : A) → P x) → (xs : List A) → AllByRecursion P xs
all_have P h [] = tt
all_have P h (x ∷ xs) = (h x, all_have P h xs)

-- what holds of each name at types that fit holds of the names of the row
names_step : (row : Row) (P : List ℕ → Type 0) (v : Types) (others : List Types) (b : Bool) → fits (parts_of row) v ≡ b → (fits (parts_of row) v ≡ true → P (row_name row v))
    → AllByRecursion P (map (row_name row) others) → AllByRecursion P (map (row_name row) (cond b (v ∷ others) others))
names_step row P v others true e here rest = (here e, rest)
names_step row P v others false e here rest = rest

names_have : (row : Row) (P : List ℕ → Type 0) (choices : List Types) → AllByRecursion (λ v. fits (parts_of row) v ≡ true → P (row_name row v)) choices
    → AllByRecursion P (map (row_name row) (filter (fits (parts_of row)) choices))
names_have row P [] h = tt
names_have row P (v ∷ choices) h = names_step row P v (filter (fits (parts_of row)) choices) (fits (parts_of row) v) refl h.0 (names_have row P choices h.1)

-- one name is read as one choice
one_choice : (row : Row) (v w : Types) → are_readable (parts_of row) ≡ true → fits (parts_of row) v ≡ true → fits (parts_of row) w ≡ true → row_name row v ≡ row_name row w → v ≡ w
one_choice row v w readable f g same =
    ap (λ r. r.1) (same_Some (routine_of row, v) (routine_of row, w) (sym (row_reads row v readable f) ∙ ap (row_named row) same ∙ row_reads row w readable g))

distinct_step : (row : Row) (v : Types) (choices : List Types) (b : Bool) → are_readable (parts_of row) ≡ true → fits (parts_of row) v ≡ b → AllByRecursion (λ w. v ≢ w) choices
    → Distinct (map (row_name row) (filter (fits (parts_of row)) choices)) → Distinct (map (row_name row) (cond b (v ∷ filter (fits (parts_of row)) choices) (filter (fits (parts_of row)) choices)))
distinct_step row v choices false readable e apart rest = rest
distinct_step row v choices true readable e apart rest = (
  names_have row (λ name. row_name row v ≢ name) choices
      (all_imply (λ w. v ≢ w) (λ w. fits (parts_of row) w ≡ true → row_name row v ≢ row_name row w) (λ w differ f same. differ (one_choice row v w readable e f same)) choices apart),
  rest,
)

distinct_in_row : (row : Row) (choices : List Types) → are_readable (parts_of row) ≡ true → Distinct choices → Distinct (map (row_name row) (filter (fits (parts_of row)) choices))
distinct_in_row row [] readable h = tt
distinct_in_row row (v ∷ choices) readable h = distinct_step row v choices (fits (parts_of row) v) readable refl h.0 (distinct_in_row row choices readable h.1)

-- ---- all rows

abbrev IsUnread : Row → List ℕ → Type 0
IsUnread row name = row_named row name ≡ None

own_names : (row : Row) → are_readable (parts_of row) ≡ true → AllByRecursion (λ name. IsUnread row name → ⊥) (row_names row)
own_names row readable =
    names_have row (λ name. IsUnread row name → ⊥) all_choices
    (all_have (λ v. fits (parts_of row) v ≡ true → IsUnread row (row_name row v) → ⊥) (λ v f unread. absurd (some_is_not_none (sym (row_reads row v readable f) ∙ unread))) all_choices)
  where
    some_is_not_none : {found : Routine × Types} → Some found ≡ None → ⊥
    some_is_not_none h = cc

other_names : (row other : Row) → fronts_apart row other ≡ true → AllByRecursion (IsUnread row) (row_names other)
other_names row other apart =
    names_have other (IsUnread row) all_choices (all_have (λ v. fits (parts_of other) v ≡ true → IsUnread row (row_name other v)) (λ v f. row_other row other (words (parts_of other) v) apart) all_choices)

later_names : (row : Row) (others : List Row) → list_all (fronts_apart row) others ≡ true → AllByRecursion (IsUnread row) (flat_map row_names others)
later_names row [] h = tt
later_names row (other ∷ others) h =
    let a = and_parts (fronts_apart row other) (list_all (fronts_apart row) others) h in
    all_append (IsUnread row) (row_names other) (flat_map row_names others) (other_names row other a.0) (later_names row others a.1)

distinct_among : (rs : List Row) → are_apart rs ≡ true → list_all (λ r. are_readable (parts_of r)) rs ≡ true → Distinct (flat_map row_names rs)
distinct_among [] apart readable = tt
distinct_among (r ∷ rs) apart readable =
    let a = and_parts (list_all (fronts_apart r) rs) (are_apart rs) apart in
    let b = and_parts (are_readable (parts_of r)) (list_all (λ r. are_readable (parts_of r)) rs) readable in
    distinct_append (IsUnread r) (row_names r) (flat_map row_names rs) (own_names r b.0) (later_names r rs a.0)
    (distinct_in_row r all_choices b.0 distinct_choices) (distinct_among rs a.1 b.1)

pub distinct_names : AllPairs (λ a b. a ≢ b) all_names
unfolding all_names
distinct_names = distinct_pairs (flat_map row_names rows) (distinct_among rows table_apart table_readable)
