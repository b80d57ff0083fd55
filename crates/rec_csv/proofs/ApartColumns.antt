-- The inputs of a valid network have distinct names, so no two of them stand in one column.
use Rattle.std.proofs.Common.{◌≡◌, ◌≢◌, ℕ, zero, suc, ◌+◌, ◌≤◌, ◌<◌, Bool, true, false, ◌||◌, List, [], ◌∷◌, map, length, get_or, refl, sym, ap, ◌∙◌, subst, arith, Result, Ok, Err}
use Rattle.std.specs.Prelude.{bytes_eq}
use Rattle.std.specs.List.{list_any}
use Rattle.std.proofs.lemmas.Bool.{and_parts, not-true}
use Rattle.std.proofs.lemmas.Slice.Eq.{bytes_eq-Decides}
use Rattle.net_model.specs.declared.wires.WireNo.{WireNo}
use Rattle.net_model.specs.declared.wires.Item.{Item}
use Rattle.net_model.specs.declared.wires.Item.TheVariants.{Input, Const, Delay, Block as OfBlock}
use Rattle.net_model.specs.declared.wires.Wire.{Wire}
use Rattle.text_words.specs.Steps.{◌>>=◌}
use Rattle.net_model.specs.Wires.{NetData, wire_at, with_input, inputs_from, inputs_of}
use Rattle.net_model.specs.Validity.{IsValid, are_distinct}
use Rattle.net_model.proofs.ValidityFacts.{conditions, length-valid}
use Rattle.rec_csv.specs.declared.columns.Column.{Column}
use Rattle.rec_csv.specs.declared.faults.HeadFault.{HeadFault}
use Rattle.rec_csv.specs.Fields.{trimmed}
use Rattle.rec_csv.specs.Headers.{column_of, columns_of, only_place, places_from}
use Rattle.rec_csv.specs.Slots.{AreApart, column_at}
use Rattle.rec_csv.proofs.ColumnFacts.{none, input_is_wire, inputs_are_wires}

-- ---- a column has the name that was looked for

-- a field of this place is named so
abbrev IsNamed : List (List ℕ) → ℕ → List ℕ → Type 0
IsNamed fields place name = (place < length fields) × (bytes_eq (trimmed (get_or fields place [])) name ≡ true)

-- the first of the columns from i on that are named so
abbrev IsFound : ℕ → List ℕ → List (List ℕ) → ℕ → Type 0
IsFound i name fields place = (d : ℕ) × (place ≡ i + d) × IsNamed fields d name

found_by : (i : ℕ) (name field : List ℕ) (fields : List (List ℕ)) (place : ℕ) (more : List ℕ) (here : Bool) → bytes_eq (trimmed field) name ≡ here → places_from i name (field ∷ fields) ≡ place ∷ more → (places_from (i + 1) name fields ≡ place ∷ more → IsFound (i + 1) name fields place) → IsFound i name (field ∷ fields) place
unfolding places_from
found_by i name field fields place more true here is later =
    let first = rw here at is in
    let same : i ≡ place = cc in
    (0, omega (arith, same), (omega arith, here))
found_by i name field fields place more false here is later =
    let rest = later (rw here at is) in
    (suc rest.0, omega (arith, rest.1), (omega (arith, rest.2.0), rest.2.1))

found : (i : ℕ) (name : List ℕ) (fields : List (List ℕ)) (place : ℕ) (more : List ℕ) → places_from i name fields ≡ place ∷ more → IsFound i name fields place
unfolding places_from
found i name [] place more is = cc
found i name (field ∷ fields) place more is =
    found_by i name field fields place more (bytes_eq (trimmed field) name) refl is (found (i + 1) name fields place more)

-- the only one of those columns
column_by : (places : List ℕ) (number : WireNo) (wire : Wire) (column : Column) → (only_place number places >>= (λ place. Ok (record { place = place; wire = number; kind = wire.kind }))) ≡ Ok column → places ≡ column.place ∷ []
column_by [] number wire column is = cc
column_by (place ∷ []) number wire column is =
    let same : record { place = place; wire = number; kind = wire.kind } ≡ column = cc in
    ap (λ (c : Column). c.place ∷ []) same
column_by (place ∷ other ∷ more) number wire column is = cc

column_named : (fields : List (List ℕ)) (number : WireNo) (wire : Wire) (column : Column) → column_of fields number wire ≡ Ok column → IsNamed fields column.place wire.name
unfolding column_of
column_named fields number wire column is =
    let at = found 0 wire.name fields column.place [] (column_by (places_from 0 wire.name fields) number wire column is) in
    let same : at.0 ≡ column.place = omega (arith, at.1) in
    subst (λ n. IsNamed fields n wire.name) same at.2

-- the columns of one input and of the others
abbrev AreFirst : Result Column HeadFault → Result (List Column) HeadFault → List Column → Type 0
AreFirst first rest columns = (column : Column) × (more : List Column) × (first ≡ Ok column) × (rest ≡ Ok more) × (columns ≡ column ∷ more)

first_and_rest : (first : Result Column HeadFault) (rest : Result (List Column) HeadFault) (columns : List Column) → (first >>= (λ column. rest >>= (λ more. Ok (column ∷ more)))) ≡ Ok columns → AreFirst first rest columns
first_and_rest (Ok column) (Ok more) columns is = (column, more, refl, refl, cc)
first_and_rest (Ok column) (Err fault) columns is = cc
first_and_rest (Err fault) rest columns is = cc

-- the column of input k is named as its wire
abbrev AreNamed : List (List ℕ) → List Wire → List WireNo → List Column → ℕ → Type 0
AreNamed fields wires numbers columns k =
    (k < length numbers) × IsNamed fields (column_at columns k).place (wire_at wires (get_or numbers k none).0).name

named_by : (fields : List (List ℕ)) (wires : List Wire) (number : WireNo) (numbers : List WireNo) (column : Column) (columns : List Column) (k : ℕ) → IsNamed fields column.place (wire_at wires number.0).name → ((j : ℕ) → j < length columns → AreNamed fields wires numbers columns j) → k < length (column ∷ columns) → AreNamed fields wires (number ∷ numbers) (column ∷ columns) k
named_by fields wires number numbers column columns zero here later lt = (omega arith, here)
named_by fields wires number numbers column columns (suc k) here later lt =
    let rest = later k (omega (arith, lt)) in (omega (arith, rest.0), rest.1)

columns_named : (fields : List (List ℕ)) (wires : List Wire) (numbers : List WireNo) (columns : List Column) (k : ℕ) → columns_of fields wires numbers ≡ Ok columns → k < length columns → AreNamed fields wires numbers columns k
unfolding columns_of
columns_named fields wires [] columns k is lt = let e : [] ≡ columns = cc in absurd (omega (arith, lt, ap length e))
columns_named fields wires (number ∷ numbers) columns k is lt =
    let parts = first_and_rest (column_of fields number (wire_at wires number.0)) (columns_of fields wires numbers) columns is in
    let here = column_named fields number (wire_at wires number.0) parts.0 parts.2 in
    let P : List Column → Type 0 = λ l. k < length l → AreNamed fields wires (number ∷ numbers) l k in
    subst P (sym parts.4) (named_by fields wires number numbers parts.0 parts.1 k here (λ j within. columns_named fields wires numbers parts.1 j parts.3 within)) lt

-- ---- the inputs are in the order of the wires

at_least_by : (item : Item) (i : ℕ) (rest : List WireNo) (k : ℕ) → ((j : ℕ) → j < length rest → i < (get_or rest j none).0) → k < length (with_input item i rest) → i ≤ (get_or (with_input item i rest) k none).0
at_least_by (Input lo hi) i rest zero later lt = omega arith
at_least_by (Input lo hi) i rest (suc k) later lt = omega (arith, later k (omega (arith, lt)))
at_least_by (Const value) i rest k later lt = omega (arith, later k lt)
at_least_by (Delay init source) i rest k later lt = omega (arith, later k lt)
at_least_by (OfBlock b) i rest k later lt = omega (arith, later k lt)

at_least : (wires : List Wire) (i k : ℕ) → k < length (inputs_from i wires) → i ≤ (get_or (inputs_from i wires) k none).0
at_least [] i k lt = absurd (omega (arith, lt))
at_least (wire ∷ wires) i k lt =
    at_least_by wire.item i (inputs_from (i + 1) wires) k (λ j within. omega (arith, at_least wires (i + 1) j within)) lt

rises_by : (item : Item) (i : ℕ) (rest : List WireNo) (j k : ℕ) → ((l : ℕ) → l < length rest → i < (get_or rest l none).0) → ((l m : ℕ) → l < m → m < length rest → (get_or rest l none).0 < (get_or rest m none).0) → j < k → k < length (with_input item i rest) → (get_or (with_input item i rest) j none).0 < (get_or (with_input item i rest) k none).0
rises_by (Input lo hi) i rest j zero later rise below lt = absurd (omega (arith, below))
rises_by (Input lo hi) i rest zero (suc k) later rise below lt = later k (omega (arith, lt))
rises_by (Input lo hi) i rest (suc j) (suc k) later rise below lt = rise j k (omega (arith, below)) (omega (arith, lt))
rises_by (Const value) i rest j k later rise below lt = rise j k below lt
rises_by (Delay init source) i rest j k later rise below lt = rise j k below lt
rises_by (OfBlock b) i rest j k later rise below lt = rise j k below lt

rises : (wires : List Wire) (i j k : ℕ) → j < k → k < length (inputs_from i wires) → (get_or (inputs_from i wires) j none).0 < (get_or (inputs_from i wires) k none).0
rises [] i j k below lt = absurd (omega (arith, lt))
rises (wire ∷ wires) i j k below lt =
    rises_by wire.item i (inputs_from (i + 1) wires) j k (λ l within. omega (arith, at_least wires (i + 1) l within)) (λ l m lower within. rises wires (i + 1) l m lower within) below lt

-- they are no more than the wires
count_by_item : (item : Item) (i : ℕ) (rest : List WireNo) (count : ℕ) → length rest ≤ count → length (with_input item i rest) ≤ suc count
count_by_item (Input lo hi) i rest count le = omega (arith, le)
count_by_item (Const value) i rest count le = omega (arith, le)
count_by_item (Delay init source) i rest count le = omega (arith, le)
count_by_item (OfBlock b) i rest count le = omega (arith, le)

count : (wires : List Wire) (i : ℕ) → length (inputs_from i wires) ≤ length wires
count [] i = omega arith
count (wire ∷ wires) i = count_by_item wire.item i (inputs_from (i + 1) wires) (length wires) (count wires (i + 1))

-- ---- the names of two wires differ

none_of_two : (a b : Bool) → (a || b) ≡ false → (a ≡ false) × (b ≡ false)
none_of_two true b is = cc
none_of_two false b is = (refl, is)

none_named : (name : List ℕ) (wires : List Wire) (k : ℕ) → list_any (bytes_eq name) (map (λ w. w.name) wires) ≡ false → k < length wires → bytes_eq name (wire_at wires k).name ≡ false
none_named name [] k is lt = absurd (omega (arith, lt))
none_named name (wire ∷ wires) zero is lt = (none_of_two (bytes_eq name wire.name) (list_any (bytes_eq name) (map (λ w. w.name) wires)) is).0
none_named name (wire ∷ wires) (suc k) is lt =
    none_named name wires k (none_of_two (bytes_eq name wire.name) (list_any (bytes_eq name) (map (λ w. w.name) wires)) is).1 (omega (arith, lt))

names_differ : (wires : List Wire) (a b : ℕ) → are_distinct (map (λ w. w.name) wires) ≡ true → a < b → b < length wires → bytes_eq (wire_at wires a).name (wire_at wires b).name ≡ false
names_differ [] a b distinct below lt = absurd (omega (arith, lt))
names_differ (wire ∷ wires) a zero distinct below lt = absurd (omega (arith, below))
names_differ (wire ∷ wires) zero (suc b) distinct below lt =
    none_named wire.name wires b (not-true _ (and_parts _ _ distinct).0) (omega (arith, lt))
names_differ (wire ∷ wires) (suc a) (suc b) distinct below lt =
    names_differ wires a b (and_parts _ _ distinct).1 (omega (arith, below)) (omega (arith, lt))

-- ---- the columns of the inputs

-- a field is named as one wire at most
one_name : (fields : List (List ℕ)) (a b : ℕ) (first second : List ℕ) → IsNamed fields a first → IsNamed fields b second → bytes_eq first second ≡ false → a ≢ b
one_name fields a b first second here there differ same =
    let e : trimmed (get_or fields a []) ≡ first = (bytes_eq-Decides (trimmed (get_or fields a [])) first).0 here.1 in
    let f : trimmed (get_or fields b []) ≡ second = (bytes_eq-Decides (trimmed (get_or fields b [])) second).0 there.1 in
    let g : first ≡ second = sym e ∙ ap (λ n. trimmed (get_or fields n [])) same ∙ f in
    let t = (bytes_eq-Decides first second).1 g in
    cc

-- the inputs of a valid network stand in columns of their own
pub columns_apart : (net : NetData) (fields : List (List ℕ)) (columns : List Column) → IsValid net → columns_of fields net.wires (inputs_of net.wires) ≡ Ok columns → AreApart columns (length fields)
columns_apart net fields columns valid is =
    let wires = net.wires in
    let distinct = (conditions net valid).distinct in
    record {
      within = λ k lt. (columns_named fields wires (inputs_of wires) columns k is lt).1.0;
      apart = λ j k below lt. (
          let a = columns_named fields wires (inputs_of wires) columns j is (omega (arith, below, lt)) in
          let b = columns_named fields wires (inputs_of wires) columns k is lt in
          one_name fields (column_at columns j).place (column_at columns k).place _ _ a.1 b.1 (names_differ wires _ _ distinct (rises wires 0 j k below b.0) (input_is_wire wires (inputs_of wires) k (inputs_are_wires wires) b.0)));
    }

-- and are no more than its wires
pub few_columns : (net : NetData) (columns : List Column) → IsValid net → length columns ≡ length (inputs_of net.wires) → length columns ≤ 512
few_columns net columns valid same = omega (arith, same, count net.wires 0, length-valid net valid)
