-- A row that a recording's header reads has one number of the right kind for each input.
use Rattle.std.proofs.Common.{◌≡◌, ℕ, zero, suc, ◌+◌, ◌<◌, Bool, true, false, cond, List, [], ◌∷◌, length, take, get_or, ℤ, pos, refl, sym, ap, ◌∙◌, subst, arith, true≢false, one-add, Result, Ok, Err}
use Rattle.std.specs.Prelude.{ok_or, nat_le}
use Rattle.std.proofs.lemmas.List.Recursion.{is_count_by}
use Rattle.fx_core.specs.declared.word_type.Ty.TheVariants.{U8}
use Rattle.text_words.specs.Numbers.{number_of}
use Rattle.net_model.specs.declared.wires.WireNo.{WireNo}
use Rattle.net_model.specs.declared.wires.Kind.{Kind}
use Rattle.net_model.specs.declared.wires.Kind.TheVariants.{Num, Truth, Position}
use Rattle.net_model.specs.declared.wires.Item.{Item}
use Rattle.net_model.specs.declared.wires.Item.TheVariants.{Input, Const, Delay, Block as OfBlock}
use Rattle.net_model.specs.declared.wires.Wire.{Wire}
use Rattle.net_model.specs.Wires.{NamedAxis, NetData, wire_at, is_input, input_place, with_input, inputs_from, inputs_of}
use Rattle.net_model.specs.Validity.{IsValid, is_plain, item_agrees, kind_holds}
use Rattle.net_model.proofs.ValidityFacts.{good_item-valid}
use Rattle.net_eval.specs.Typing.{AreTyped}
use Rattle.rec_csv.specs.declared.columns.Column.{Column}
use Rattle.rec_csv.specs.declared.faults.HeadFault.TheVariants.{BadLine as HeadBad}
use Rattle.rec_csv.specs.declared.faults.RowFault.TheVariants.{BadLine, BadWidth, BadNumber, OutOfType}
use Rattle.rec_csv.specs.Fields.{fields_of_line, field_in, trimmed}
use Rattle.rec_csv.specs.Headers.{HeaderData, header_of, column_of, columns_of, only_place, places_from}
use Rattle.text_words.specs.Steps.{◌>>=◌, demand}
use Rattle.bench_core.specs.RunSteps.{IsHeaderOf}
use Rattle.rec_csv.specs.Rows.{row_of, input_values, input_value}

-- what is read where there is none
abbrev no_number : WireNo
no_number = record { 0 = 0 }

abbrev no_column : Column
no_column = record { place = 0; wire = no_number; kind = Num U8 0 }

-- ---- two steps that both gave something

second_ok : {A B C E : Type 0} (x : A) (r : Result B E) (c : A → B → C) (made : C) → (r >>= (λ y. Ok (c x y))) ≡ Ok made → (y : B) × (r ≡ Ok y) × (made ≡ c x y)
second_ok x (Err e) c made h = absurd (cc)
second_ok x (Ok y) c made h = (y, refl, cc)

both_ok : {A B C E : Type 0} (a : Result A E) (b : Result B E) (c : A → B → C) (made : C) → (a >>= (λ x. b >>= (λ y. Ok (c x y)))) ≡ Ok made → (x : A) × (y : B) × (a ≡ Ok x) × (b ≡ Ok y) × (made ≡ c x y)
both_ok (Err e) b c made h = absurd (cc)
both_ok (Ok x) b c made h = let p = second_ok x b c made h in (x, p.0, refl, p.1, p.2)

then_ok : {A B E : Type 0} (a : Result A E) (f : A → Result B E) (made : B) → (a >>= f) ≡ Ok made → (x : A) × (a ≡ Ok x) × (f x ≡ Ok made)
then_ok (Err e) f made h = absurd (cc)
then_ok (Ok x) f made h = (x, refl, h)

-- ---- the columns

column_kind : (fields : List (List ℕ)) (number : WireNo) (wire : Wire) (column : Column) → column_of fields number wire ≡ Ok column → column.kind ≡ wire.kind
unfolding column_of
column_kind fields number wire column h =
    let p = then_ok (only_place number (places_from 0 wire.name fields)) _ column h in
    let q : record { place = p.0; wire = number; kind = wire.kind } ≡ column = cc in
    ap (λ c. c.kind) (sym q)

-- column number k has this kind
abbrev HasKind : List Column → ℕ → Kind → Type 0
HasKind columns k kind = (k < length columns) × ((get_or columns k no_column).kind ≡ kind)

abbrev kind_numbered : List Wire → List WireNo → ℕ → Kind
kind_numbered all numbers k = (wire_at all (get_or numbers k no_number).0).kind

column_kinds : (fields : List (List ℕ)) (all : List Wire) (numbers : List WireNo) (columns : List Column) (k : ℕ) → columns_of fields all numbers ≡ Ok columns → k < length numbers → HasKind columns k (kind_numbered all numbers k)
unfolding columns_of
column_kinds fields all [] columns k h lt = absurd (omega arith)
column_kinds fields all (number ∷ numbers) columns zero h lt =
    let p = both_ok (column_of fields number (wire_at all number.0)) (columns_of fields all numbers) (λ c cs. c ∷ cs) columns h in
    subst (λ cs. HasKind cs 0 (wire_at all number.0).kind) (sym p.4) (omega arith, column_kind fields number (wire_at all number.0) p.0 p.2)
column_kinds fields all (number ∷ numbers) columns (suc k) h lt =
    let p = both_ok (column_of fields number (wire_at all number.0)) (columns_of fields all numbers) (λ c cs. c ∷ cs) columns h in
    let r = column_kinds fields all numbers p.1 k p.3 (omega arith) in
    subst (λ cs. HasKind cs (suc k) (kind_numbered all numbers k)) (sym p.4) (omega (arith, r.0), r.1)

columns_count : (fields : List (List ℕ)) (all : List Wire) (numbers : List WireNo) (columns : List Column) → columns_of fields all numbers ≡ Ok columns → length columns ≡ length numbers
unfolding columns_of
columns_count fields all [] columns h = let e : [] ≡ columns = cc in ap length (sym e)
columns_count fields all (number ∷ numbers) columns h =
    let p = both_ok (column_of fields number (wire_at all number.0)) (columns_of fields all numbers) (λ c cs. c ∷ cs) columns h in
    let r = columns_count fields all numbers p.1 p.3 in
    ap length p.4 ∙ omega (arith, r)

-- ---- the values

tested_kind : (column : Column) (value z : ℤ) (passed : Bool) → kind_holds [] column.kind z ≡ passed → (demand passed (OutOfType column.wire) >>= (λ _. Ok z)) ≡ Ok value → kind_holds [] column.kind value ≡ true
tested_kind column value z true is h = let e : z ≡ value = cc in subst (λ v. kind_holds [] column.kind v ≡ true) e is
tested_kind column value z false is h = absurd (cc)

value_kind : (column : Column) (field : List ℕ) (value : ℤ) → input_value column field ≡ Ok value → kind_holds [] column.kind value ≡ true
unfolding input_value
value_kind column field value h =
    let p = then_ok (ok_or (number_of (trimmed field)) (BadNumber column.wire)) (λ z. demand (kind_holds [] column.kind z) (OutOfType column.wire) >>= (λ _. Ok z)) value h in
    tested_kind column value p.0 (kind_holds [] column.kind p.0) refl p.2

value_kinds : (columns : List Column) (fields : List (List ℕ)) (values : List ℤ) (k : ℕ) → input_values columns fields ≡ Ok values → k < length columns → kind_holds [] (get_or columns k no_column).kind (get_or values k (pos 0)) ≡ true
unfolding input_values
value_kinds [] fields values k h lt = absurd (omega arith)
value_kinds (column ∷ columns) fields values zero h lt =
    let p = both_ok (input_value column (field_in fields column.place)) (input_values columns fields) (λ v vs. v ∷ vs) values h in
    subst (λ vs. kind_holds [] column.kind (get_or vs 0 (pos 0)) ≡ true) (sym p.4) (value_kind column (field_in fields column.place) p.0 p.2)
value_kinds (column ∷ columns) fields values (suc k) h lt =
    let p = both_ok (input_value column (field_in fields column.place)) (input_values columns fields) (λ v vs. v ∷ vs) values h in
    subst (λ vs. kind_holds [] (get_or columns k no_column).kind (get_or vs (suc k) (pos 0)) ≡ true) (sym p.4) (value_kinds columns fields p.1 k p.3 (omega arith))

-- ---- the place of an input

abbrev input_count : List Wire → ℕ
input_count [] = 0
input_count (w ∷ wires) = cond (is_input w.item) (1 + input_count wires) (input_count wires)

input_count-is : (wires : List Wire) (i : ℕ) → input_count (take i wires) ≡ input_place wires i
input_count-is wires i = is_count_by input_count (λ w. is_input w.item) refl (λ w ws. refl) (take i wires)

-- input number n of what follows is this wire
abbrev IsNumbered : List WireNo → ℕ → ℕ → Type 0
IsNumbered numbers n wire = (n < length numbers) × ((get_or numbers n no_number).0 ≡ wire)

first_numbered : (item : Item) (j : ℕ) (rest : List WireNo) → is_input item ≡ true → IsNumbered (with_input item j rest) 0 j
first_numbered (Input lo hi) j rest h = (omega arith, refl)
first_numbered (Const value) j rest h = absurd (cc)
first_numbered (Delay init source) j rest h = absurd (cc)
first_numbered (OfBlock b) j rest h = absurd (cc)

later_numbered : (item : Item) (j : ℕ) (rest : List WireNo) (n wire : ℕ) → IsNumbered rest n wire → IsNumbered (with_input item j rest) (cond (is_input item) (1 + n) n) wire
later_numbered (Input lo hi) j rest n wire h =
    (omega (arith, h.0), subst (λ m. (get_or (with_input (Input lo hi) j rest) m no_number).0 ≡ wire) (sym (one-add n)) h.1)
later_numbered (Const value) j rest n wire h = h
later_numbered (Delay init source) j rest n wire h = h
later_numbered (OfBlock b) j rest n wire h = h

numbered_from : (wires : List Wire) (j i : ℕ) → i < length wires → is_input (wire_at wires i).item ≡ true → IsNumbered (inputs_from j wires) (input_count (take i wires)) (j + i)
numbered_from [] j i lt h = absurd (omega arith)
numbered_from (w ∷ wires) j zero lt h =
    let e : j + 0 ≡ j = omega arith in
    subst (IsNumbered (inputs_from j (w ∷ wires)) 0) (sym e) (first_numbered w.item j (inputs_from (j + 1) wires) h)
numbered_from (w ∷ wires) j (suc i) lt h =
    let e : (j + 1) + i ≡ j + suc i = omega arith in
    subst (IsNumbered (inputs_from j (w ∷ wires)) _) e (later_numbered w.item j (inputs_from (j + 1) wires) (input_count (take i wires)) ((j + 1) + i) (numbered_from wires (j + 1) i (omega arith) h))

numbered : (wires : List Wire) (i : ℕ) → i < length wires → is_input (wire_at wires i).item ≡ true → IsNumbered (inputs_of wires) (input_place wires i) i
numbered wires i lt h =
    let e : 0 + i ≡ i = omega arith in
    subst (IsNumbered (inputs_of wires) (input_place wires i)) e (subst (λ n. IsNumbered (inputs_of wires) n (0 + i)) (input_count-is wires i) (numbered_from wires 0 i lt h))

-- ---- inputs are plain

plain_item : (net : NetData) (kind : Kind) (item : Item) → is_input item ≡ true → item_agrees net kind item ≡ true → is_plain kind ≡ true
plain_item net kind (Input lo hi) h agreed = agreed
plain_item net kind (Const value) h agreed = absurd (true≢false (sym h))
plain_item net kind (Delay init source) h agreed = absurd (true≢false (sym h))
plain_item net kind (OfBlock b) h agreed = absurd (true≢false (sym h))

-- an input is no position
plain_input : (net : NetData) (i : ℕ) → IsValid net → i < length net.wires → is_input (wire_at net.wires i).item ≡ true → is_plain (wire_at net.wires i).kind ≡ true
plain_input net i valid lt h =
    let w = wire_at net.wires i in plain_item net w.kind w.item h (good_item-valid net i w.item valid lt refl).agreed

-- so its numbers hang on no axis
plain_holds : (axes : List NamedAxis) (kind : Kind) (v : ℤ) → is_plain kind ≡ true → kind_holds [] kind v ≡ true → kind_holds axes kind v ≡ true
plain_holds axes (Num ty point) v plain h = h
plain_holds axes Truth v plain h = h
plain_holds axes (Position axis) v plain h = absurd (true≢false (sym plain))

-- ---- a row

header_columns : (wires : List Wire) (head : List ℕ) (header : HeaderData) → header_of wires head ≡ Ok header → (fields : List (List ℕ)) × (columns_of fields wires (inputs_of wires) ≡ Ok header.columns)
unfolding header_of
header_columns wires head header h =
    let p = then_ok (ok_or (fields_of_line head) HeadBad) (λ fields. columns_of fields wires (inputs_of wires) >>= (λ columns. Ok (record { width = length fields; columns = columns }))) header h in
    let q = then_ok (columns_of p.0 wires (inputs_of wires)) (λ columns. Ok (record { width = length p.0; columns = columns })) header p.2 in
    let e : record { width = length p.0; columns = q.0 } ≡ header = cc in
    (p.0, q.1 ∙ ap (λ (h : HeaderData). Ok h.columns) e)

row_values : (header : HeaderData) (line : List ℕ) (values : List ℤ) → row_of header line ≡ Ok values → (fields : List (List ℕ)) × (input_values header.columns fields ≡ Ok values)
unfolding row_of
row_values header line values h =
    let p = then_ok (ok_or (fields_of_line line) BadLine) (λ fields. demand (nat_le header.width (length fields)) BadWidth >>= (λ _. input_values header.columns fields)) values h in
    let q = then_ok (demand (nat_le header.width (length p.0)) BadWidth) (λ _. input_values header.columns p.0) values p.2 in
    (p.0, q.2)

row_is_typed : (net : NetData) (head line : List ℕ) (header : HeaderData) (values : List ℤ) → IsValid net → header_of net.wires head ≡ Ok header → row_of header line ≡ Ok values → AreTyped net values
row_is_typed net head line header values valid is_header is_row i lt input =
    let h = header_columns net.wires head header is_header in
    let r = row_values header line values is_row in
    let n = numbered net.wires i lt input in
    let k = column_kinds h.0 net.wires (inputs_of net.wires) header.columns (input_place net.wires i) h.1 n.0 in
    let v = value_kinds header.columns r.0 values (input_place net.wires i) r.1 k.0 in
    let same : (get_or header.columns (input_place net.wires i) no_column).kind ≡ (wire_at net.wires i).kind = k.1 ∙ ap (λ w. (wire_at net.wires w).kind) n.1 in
    let value = get_or values (input_place net.wires i) (pos 0) in
    plain_holds net.axes (wire_at net.wires i).kind value (plain_input net i valid lt input) (subst (λ kind. kind_holds [] kind value ≡ true) same v)

-- ---- for the header of some line

pub typed_row : (net : NetData) (header : HeaderData) (line : List ℕ) (values : List ℤ) → IsValid net → IsHeaderOf net.wires header → row_of header line ≡ Ok values → AreTyped net values
typed_row net header line values valid head is = row_is_typed net head.0 line header values valid head.1 is

pub one_for_each : (wires : List Wire) (header : HeaderData) (values : List ℤ) → IsHeaderOf wires header → length values ≡ length (inputs_of wires) → length values ≡ length header.columns
one_for_each wires header values head len =
    let h = header_columns wires head.0 header head.1 in
    len ∙ sym (columns_count h.0 wires (inputs_of wires) header.columns h.1)
