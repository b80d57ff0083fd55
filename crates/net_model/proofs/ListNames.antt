-- Names of several lists: none comes twice in all of them where none does in each and none of one is in another.
use Rattle.std.proofs.Common.{◌≡◌, ℕ, ◌+◌, Bool, true, false, not, ◌&&◌, ◌||◌, List, [], ◌∷◌, ◌++◌, refl, sym, ap, ap₂, ◌∙◌, Result, Ok, Err, bytes_eq, ◌≤◌, length, nat_le, ◌<◌, get_or, take, drop, arith, add-one, drop-cons, nat_lt, subst, ltb-true, ltb-false, append_assoc}
use Rattle.std.specs.Prelude.{is_ok}
use Rattle.std.specs.List.{list_any}
use Rattle.std.proofs.lemmas.List.{get_or-take, take_more, length-take-le}
use Rattle.std.proofs.lemmas.List.Folds.{list_any-append}
use Rattle.text_words.specs.Steps.{◌>>=◌, demand}
use Rattle.net_model.specs.declared.network.NetKind.{NetKind}
use Rattle.net_model.specs.declared.network.NetKind.TheVariants.{Repeated, TooMany}
use Rattle.net_model.specs.declared.wires.Wire.{Wire}
use Rattle.net_model.specs.Wires.{NamedAxis, NamedTable, NetData, no_axis, no_table}
use Rattle.net_model.specs.Validity.{AreAxes, AreTables, IsNamedAxis, IsNamedTable, are_distinct, axis_names, table_names, wire_names, list_names}
use Rattle.net_model.specs.Faults.{is_named, names_tested, lists_tested}
use Rattle.net_model.proofs.DraftLemmas.{distinct, new_from, good_from, apart, apart-nil, new_from-is, bytes_eq_comm}

regroup_cons : (a b c d : Bool) → (not (a || b) && (not c && d)) ≡ ((not a && not c) && (not b && d))
regroup_cons true b c d = refl
regroup_cons false true true d = refl
regroup_cons false true false d = refl
regroup_cons false false true d = refl
regroup_cons false false false d = refl

-- one more that was seen
pub apart-cons : (x : List ℕ) (seen ys : List (List ℕ)) → apart bytes_eq (x ∷ seen) ys ≡ (not (list_any (bytes_eq x) ys) && apart bytes_eq seen ys)
unfolding apart
apart-cons x seen [] = refl
apart-cons x seen (y ∷ ys) =
    ap₂ (λ s t. not (s || list_any (bytes_eq y) seen) && t) (bytes_eq_comm y x) (apart-cons x seen ys)
    ∙ regroup_cons (bytes_eq x y) (list_any (bytes_eq y) seen) (list_any (bytes_eq x) ys) (apart bytes_eq seen ys)
    ∙ by (bytes_eq x y) (list_any (bytes_eq x) ys)
  where
    by : (a c : Bool) → ((not a && not c) && (not (list_any (bytes_eq y) seen) && apart bytes_eq seen ys)) ≡ (not (a || c) && (not (list_any (bytes_eq y) seen) && apart bytes_eq seen ys))
    by true c = refl
    by false c = refl

regroup_append : (a b d p e : Bool) → (not (a || b) && (d && (p && e))) ≡ ((not a && d) && ((not b && p) && e))
regroup_append true b d p e = refl
regroup_append false true true p e = refl
regroup_append false true false p e = refl
regroup_append false false d p e = by d
  where
    by : (d : Bool) → (d && (p && e)) ≡ (d && (p && e))
    by d = refl

-- names are distinct together where they are in each list and none of the second is in the first
pub distinct-append : (xs ys : List (List ℕ)) → distinct bytes_eq (xs ++ ys) ≡ (distinct bytes_eq xs && (apart bytes_eq xs ys && distinct bytes_eq ys))
unfolding distinct
distinct-append [] ys = ap (λ t. t && distinct bytes_eq ys) (sym (apart-nil bytes_eq ys))
distinct-append (x ∷ xs) ys =
    ap₂ (λ s t. not s && t) (list_any-append (bytes_eq x) xs ys) (distinct-append xs ys)
    ∙ regroup_append (list_any (bytes_eq x) xs) (list_any (bytes_eq x) ys) (distinct bytes_eq xs) (apart bytes_eq xs ys) (distinct bytes_eq ys)
    ∙ ap (λ t. (not (list_any (bytes_eq x) xs) && distinct bytes_eq xs) && (t && distinct bytes_eq ys)) (sym (apart-cons x xs ys))

-- the test of names is the one over any list
pub distinct-bytes : (names : List (List ℕ)) → are_distinct names ≡ distinct bytes_eq names
unfolding distinct
distinct-bytes [] = refl
distinct-bytes (x ∷ names) = ap (λ t. not (list_any (bytes_eq x) names) && t) (distinct-bytes names)

-- a wire has the name of none of these
unfoldable pub unlisted : List (List ℕ) → ℕ → Wire → Bool
unlisted names i w = not (is_named names w.name)

pub unlisted-is : (names : List (List ℕ)) (i : ℕ) (wires : List Wire) → good_from (unlisted names) i wires ≡ apart bytes_eq names (wire_names wires)
unfolding good_from apart unlisted
unlisted-is names i [] = refl
unlisted-is names i (w ∷ wires) = ap (λ t. not (is_named names w.name) && t) (unlisted-is names (i + 1) wires)

-- all names of a network, by the list that they are of
pub names_apart : (net : NetData) → are_distinct (list_names net ++ wire_names net.wires)
    ≡ ((distinct bytes_eq (axis_names net.axes) && (apart bytes_eq (axis_names net.axes) (table_names net.tables) && distinct bytes_eq (table_names net.tables)))
    && (apart bytes_eq (list_names net) (wire_names net.wires) && distinct bytes_eq (wire_names net.wires)))
names_apart net =
    distinct-bytes (list_names net ++ wire_names net.wires)
    ∙ distinct-append (list_names net) (wire_names net.wires)
    ∙ ap (λ t. t && (apart bytes_eq (list_names net) (wire_names net.wires) && distinct bytes_eq (wire_names net.wires))) (distinct-append (axis_names net.axes) (table_names net.tables))

-- ---- their tests

behind_name : (b : Bool) (rest : Result (Unit {0}) NetKind) → is_ok (demand b Repeated >>= λ _. rest) ≡ (b && is_ok rest)
behind_name true rest = refl
behind_name false rest = refl

names_pass : (seen names : List (List ℕ)) → is_ok (names_tested seen names) ≡ new_from bytes_eq seen names
unfolding names_tested new_from
names_pass seen [] = refl
names_pass seen (x ∷ names) =
    behind_name (not (is_named seen x)) (names_tested (seen ++ x ∷ []) names) ∙ ap (λ t. not (is_named seen x) && t) (names_pass (seen ++ x ∷ []) names)

behind_lists : (axes tables : Result (Unit {0}) NetKind) (a t : Bool) → is_ok (axes >>= λ _. demand a TooMany >>= λ _. tables >>= λ _. demand t TooMany) ≡ (is_ok axes && (a && (is_ok tables && t)))
behind_lists (Ok u) (Ok v) true true = refl
behind_lists (Ok u) (Ok v) true false = refl
behind_lists (Ok u) (Err k) true t = refl
behind_lists (Ok u) tables false t = refl
behind_lists (Err k) tables a t = refl

-- the tests of axes and tables are those of their names and of their numbers
pub lists_decide : (net : NetData) → is_ok (lists_tested net)
    ≡ (distinct bytes_eq (axis_names net.axes) && (nat_le (length net.axes) 64 && ((apart bytes_eq (axis_names net.axes) (table_names net.tables) && distinct bytes_eq (table_names net.tables)) && nat_le (length net.tables) 64)))
unfolding lists_tested
lists_decide net =
    behind_lists (names_tested [] (axis_names net.axes)) (names_tested (axis_names net.axes) (table_names net.tables)) (nat_le (length net.axes) 64) (nat_le (length net.tables) 64)
    ∙ ap₂ (λ s t. s && (nat_le (length net.axes) 64 && (t && nat_le (length net.tables) 64)))
    (names_pass [] (axis_names net.axes) ∙ new_from-is bytes_eq bytes_eq_comm [] (axis_names net.axes) ∙ ap (λ t. t && distinct bytes_eq (axis_names net.axes)) (apart-nil bytes_eq (axis_names net.axes)))
    (names_pass (axis_names net.axes) (table_names net.tables) ∙ new_from-is bytes_eq bytes_eq_comm (axis_names net.axes) (table_names net.tables))

-- a name is one of an axis, or of a table, where some such has it
pub named_axis : (name : List ℕ) (axes : List NamedAxis) → list_any (λ a. bytes_eq name a.0) axes ≡ is_named (axis_names axes) name
named_axis name [] = refl
named_axis name (a ∷ axes) = ap (λ t. bytes_eq name a.0 || t) (named_axis name axes)

pub named_table : (name : List ℕ) (tables : List NamedTable) → list_any (λ t. bytes_eq name t.0) tables ≡ is_named (table_names tables) name
named_table name [] = refl
named_table name (t ∷ tables) = ap (λ s. bytes_eq name t.0 || s) (named_table name tables)

-- a name is one of both where it is of the one or of the other
pub named_both : (name : List ℕ) (first second : List (List ℕ)) → is_named (first ++ second) name ≡ (is_named first name || is_named second name)
named_both name first second = list_any-append (bytes_eq name) first second

-- ---- going over axes and tables

-- what is left of a list at a place
left_at : {A : Type 0} (xs : List A) (i : ℕ) (d : A) → i < length xs → drop i xs ≡ get_or xs i d ∷ drop (i + 1) xs
left_at xs i d lt = drop-cons xs i d lt ∙ ap (λ k. get_or xs i d ∷ drop k xs) (sym (add-one i))

-- one more name that passes
name_step : (above : List (List ℕ)) (name : List ℕ) (rest : List (List ℕ)) → demand (not (is_named above name)) Repeated ≡ Ok tt → names_tested above (name ∷ rest) ≡ names_tested (above ++ name ∷ []) rest
unfolding names_tested
name_step above name rest h = ap (λ t. t >>= λ _. names_tested (above ++ name ∷ []) rest) h

-- and one that doesn't
pub name_fails : (above : List (List ℕ)) (name : List ℕ) (rest : List (List ℕ)) (kind : NetKind) → demand (not (is_named above name)) Repeated ≡ Err kind → names_tested above (name ∷ rest) ≡ Err kind
unfolding names_tested
name_fails above name rest kind h = ap (λ t. t >>= λ _. names_tested (above ++ name ∷ []) rest) h

axis_names-append : (xs ys : List NamedAxis) → axis_names (xs ++ ys) ≡ axis_names xs ++ axis_names ys
axis_names-append [] ys = refl
axis_names-append (x ∷ xs) ys = ap (λ t. x.0 ∷ t) (axis_names-append xs ys)

table_names-append : (xs ys : List NamedTable) → table_names (xs ++ ys) ≡ table_names xs ++ table_names ys
table_names-append [] ys = refl
table_names-append (x ∷ xs) ys = ap (λ t. x.0 ∷ t) (table_names-append xs ys)

-- one more of what each is
each_more : {A : Type 0} (P : A → Type 0) (d : A) (xs : List A) (i : ℕ) → i < length xs → ((k : ℕ) → k < length (take i xs) → P (get_or (take i xs) k d)) → P (get_or xs i d)
    → (k : ℕ) → k < length (take (i + 1) xs) → P (get_or (take (i + 1) xs) k d)
each_more P d xs i lt above here k below =
    by (nat_lt k i) refl (omega (arith, length-take-le (i + 1) xs (omega arith), below)) (length-take-le i xs (omega arith))
  where
    by : (t : Bool) → nat_lt k i ≡ t → k ≤ i → length (take i xs) ≡ i → P (get_or (take (i + 1) xs) k d)
    by true e le few =
        let less : k < i = ltb-true k i e in
        subst P (get_or-take i xs k d less ∙ sym (get_or-take (i + 1) xs k d (omega arith))) (above k (omega arith))
    by false e le few =
        let past : i ≤ k = ltb-false k i e in
        let is : i ≡ k = omega arith in
        subst P (ap (λ n. get_or xs n d) is ∙ sym (get_or-take (i + 1) xs k d (omega arith))) here

-- one axis more that passes, and one table
pub axes_step : (axes : List NamedAxis) (i : ℕ) (named : NamedAxis) → i < length axes → named ≡ get_or axes i no_axis
    → demand (not (is_named (axis_names (take i axes)) named.0)) Repeated ≡ Ok tt → IsNamedAxis named
    → (names_tested (axis_names (take i axes)) (axis_names (drop i axes)) ≡ names_tested [] (axis_names axes)) × AreAxes (take i axes)
    → (names_tested (axis_names (take (i + 1) axes)) (axis_names (drop (i + 1) axes)) ≡ names_tested [] (axis_names axes)) × AreAxes (take (i + 1) axes)
axes_step axes i named lt is passes good so_far =
    let names = axis_names (drop (i + 1) axes) in
    let more : axis_names (take (i + 1) axes) ≡ axis_names (take i axes) ++ named.0 ∷ [] =
    ap axis_names (take_more axes i no_axis lt) ∙ axis_names-append (take i axes) (get_or axes i no_axis ∷ []) ∙ ap (λ (a : NamedAxis). axis_names (take i axes) ++ a.0 ∷ []) (sym is) in
    let left : axis_names (drop i axes) ≡ named.0 ∷ names =
    ap axis_names (left_at axes i no_axis lt) ∙ ap (λ (a : NamedAxis). a.0 ∷ names) (sym is) in (
      ap (λ above. names_tested above names) more ∙ sym (name_step (axis_names (take i axes)) named.0 names passes) ∙ ap (names_tested (axis_names (take i axes))) (sym left) ∙ so_far.0,
      each_more IsNamedAxis no_axis axes i lt so_far.1 (subst IsNamedAxis is good),
    )

pub tables_step : (axes : List NamedAxis) (tables : List NamedTable) (i : ℕ) (named : NamedTable) → i < length tables → named ≡ get_or tables i no_table
    → demand (not (is_named (axis_names axes ++ table_names (take i tables)) named.0)) Repeated ≡ Ok tt → IsNamedTable named
    → (names_tested (axis_names axes ++ table_names (take i tables)) (table_names (drop i tables)) ≡ names_tested (axis_names axes) (table_names tables)) × AreTables (take i tables)
    → (names_tested (axis_names axes ++ table_names (take (i + 1) tables)) (table_names (drop (i + 1) tables)) ≡ names_tested (axis_names axes) (table_names tables)) × AreTables (take (i + 1) tables)
tables_step axes tables i named lt is passes good so_far =
    let names = table_names (drop (i + 1) tables) in
    let seen = axis_names axes ++ table_names (take i tables) in
    let more : axis_names axes ++ table_names (take (i + 1) tables) ≡ seen ++ named.0 ∷ [] =
    ap (λ ts. axis_names axes ++ table_names ts) (take_more tables i no_table lt)
    ∙ ap (λ t. axis_names axes ++ t) (table_names-append (take i tables) (get_or tables i no_table ∷ []) ∙ ap (λ (t : NamedTable). table_names (take i tables) ++ t.0 ∷ []) (sym is))
    ∙ sym (append_assoc (axis_names axes) (table_names (take i tables)) (named.0 ∷ [])) in
    let left : table_names (drop i tables) ≡ named.0 ∷ names =
    ap table_names (left_at tables i no_table lt) ∙ ap (λ (t : NamedTable). t.0 ∷ names) (sym is) in (
      ap (λ above. names_tested above names) more ∙ sym (name_step seen named.0 names passes) ∙ ap (names_tested seen) (sym left) ∙ so_far.0,
      each_more IsNamedTable no_table tables i lt so_far.1 (subst IsNamedTable is good),
    )
