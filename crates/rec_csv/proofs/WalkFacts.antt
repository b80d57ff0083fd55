-- A walk over the fields of a plain line: what is known of the inputs after some of them.
use Rattle.std.proofs.Common.{◌≡◌, ℕ, zero, suc, ◌+◌, ◌≤◌, ◌<◌, Bool, true, false, List, [], ◌∷◌, length, take, drop, get_or, set, nat_le, refl, sym, ap, ◌∙◌, subst, inl, inr, arith, add-zero, get_or-set_same, get_or-set_other, Option, Some, None, Result, Ok, Err, MatchOption, MatchResult, Bor, OnOk, IfErr, ℤ, pos}
use Rattle.std.proofs.lemmas.Bool.{cases_lt, cases_eq, leb-true, leb-false, lt-leb, le-leb}
use Rattle.std.proofs.lemmas.List.{drop-drop, get_or-drop, length-drop, length-set}
use Rattle.std.specs.List.{list_all}
use Rattle.text_words.specs.Lines.{pieces}
use Rattle.rec_csv.specs.declared.columns.Column.{Column}
use Rattle.rec_csv.specs.declared.faults.RowFault.{RowFault}
use Rattle.rec_csv.specs.declared.faults.RowFault.TheVariants.{BadWidth}
use Rattle.rec_csv.specs.declared.plain_rows.Verdict.{Verdict}
use Rattle.rec_csv.specs.Fields.{field_in, is_comma, is_plain, is_plain_byte}
use Rattle.rec_csv.specs.Rows.{Leaves, Tells, good_values, row_of, input_value, values_before, input_values}
use Rattle.rec_csv.specs.Slots.{IsTable, column_at, header_with}
use Rattle.rec_csv.specs.Verdicts.{values_after, verdict_after}
use Rattle.rec_csv.proofs.PlainLines.{fields_of_plain}
use Rattle.rec_csv.proofs.RowFacts.{leaves, tells}

-- what the field of input k gives
abbrev read_at : List Column → List (List ℕ) → ℕ → Result ℤ RowFault
read_at columns fields k = input_value (column_at columns k) (field_in fields (column_at columns k).place)

-- the inputs up to the first that is known to be faulty have their values, as far as their columns lie before a place
pub record Known (columns : List Column) (fields : List (List ℕ)) (values : List ℤ) (verdict : Verdict) (place : ℕ) : Type 0 where
  pub one_each : length values ≡ length columns
  pub good : (k : ℕ) → k < verdict.good_before → (column_at columns k).place < place → read_at columns fields k ≡ Ok (get_or values k (pos 0))
  pub fault : MatchResult verdict.outcome (λ _. verdict.good_before ≡ length columns) (λ fault. (verdict.good_before < length columns) × (read_at columns fields verdict.good_before ≡ Err fault))

-- the first faulty input is one of them
most : (count : ℕ) (outcome : Result (Unit {0}) RowFault) (P : RowFault → Type 0) (good_before : ℕ) → MatchResult outcome (λ _. good_before ≡ count) (λ fault. (good_before < count) × P fault) → good_before ≤ count
most count (Ok done) P good_before h = omega (arith, h)
most count (Err fault) P good_before h = omega (arith, h.0)

good_within : (columns : List Column) (fields : List (List ℕ)) (values : List ℤ) (verdict : Verdict) (place : ℕ) → Known columns fields values verdict place → verdict.good_before ≤ length columns
good_within columns fields values verdict place known =
    most (length columns) verdict.outcome (λ fault. read_at columns fields verdict.good_before ≡ Err fault) verdict.good_before known.fault

-- an input that doesn't stand at a place, and not behind it, stands before it
earlier : (columns : List Column) (slots : List (Option ℕ)) (place k : ℕ) → IsTable columns slots → k < length columns → (get_or slots place None ≡ Some k → ⊥) → (column_at columns k).place < place + 1 → (column_at columns k).place < place
earlier columns slots place k table lt not_here within =
    elim (cases_lt (column_at columns k).place place) [
      | inl before ↦ before
      | inr behind ↦
          let here : (column_at columns k).place ≡ place = omega (arith, within, behind) in
          let stands = (table.stands k lt).1 in
          absurd (not_here (rw here at stands))
    ]

-- a field that no input has
pub known_past : (columns : List Column) (slots : List (Option ℕ)) (fields : List (List ℕ)) (values : List ℤ) (verdict : Verdict) (place : ℕ) → IsTable columns slots → get_or slots place None ≡ None → Known columns fields values verdict place → Known columns fields values verdict (place + 1)
known_past columns slots fields values verdict place table none known =
    let most = good_within columns fields values verdict place known in
    record {
      one_each = known.one_each;
      good = λ k lt within. known.good k lt (earlier columns slots place k table (omega (arith, lt, most)) (λ some. cc) within);
      fault = known.fault;
    }

-- a value of input i
known_value : (columns : List Column) (slots : List (Option ℕ)) (fields : List (List ℕ)) (values : List ℤ) (verdict : Verdict) (place i : ℕ) (value : ℤ) → IsTable columns slots → get_or slots place None ≡ Some i → i < length columns → read_at columns fields i ≡ Ok value → Known columns fields values verdict place → Known columns fields (set values i value) verdict (place + 1)
known_value columns slots fields values verdict place i value table some lt is known =
    let most = good_within columns fields values verdict place known in
    record {
      one_each = length-set values i value ∙ known.one_each;
      good = λ k below within. elim (cases_eq k i) [
        | inl same ↦ (let inside : i < length values = omega (arith, lt, known.one_each) in rw same (is ∙ ap (λ z. Ok z) (sym (get_or-set_same values i value (pos 0) inside))))
        | inr other ↦ known.good k below (earlier columns slots place k table (omega (arith, below, most)) (λ there. (let e : k ≡ i = cc in other e)) within) ∙ ap (λ z. Ok z) (sym (get_or-set_other values i k value (pos 0) other))
      ];
      fault = known.fault;
    }

-- a fault of input i, before any that is known
known_fault : (columns : List Column) (slots : List (Option ℕ)) (fields : List (List ℕ)) (values : List ℤ) (verdict : Verdict) (place i : ℕ) (fault : RowFault) → IsTable columns slots → get_or slots place None ≡ Some i → i < length columns → i < verdict.good_before → read_at columns fields i ≡ Err fault → Known columns fields values verdict place → Known columns fields values (record { good_before = i; outcome = Err fault }) (place + 1)
known_fault columns slots fields values verdict place i fault table some lt first is known =
    record {
      one_each = known.one_each;
      good = λ k below within. known.good k (omega (arith, below, first)) (earlier columns slots place k table (omega (arith, below, lt)) (λ there. (let e : k ≡ i = cc in absurd (omega (arith, e, below)))) within);
      fault = (lt, is);
    }

-- an input behind one that is known to be faulty
known_behind : (columns : List Column) (slots : List (Option ℕ)) (fields : List (List ℕ)) (values : List ℤ) (verdict : Verdict) (place i : ℕ) → IsTable columns slots → get_or slots place None ≡ Some i → verdict.good_before ≤ i → Known columns fields values verdict place → Known columns fields values verdict (place + 1)
known_behind columns slots fields values verdict place i table some behind known =
    let most = good_within columns fields values verdict place known in
    record {
      one_each = known.one_each;
      good = λ k lt within. known.good k lt (earlier columns slots place k table (omega (arith, lt, most)) (λ there. (let e : k ≡ i = cc in absurd (omega (arith, e, lt, behind)))) within);
      fault = known.fault;
    }

-- whatever the field of input i gives
known_read : (columns : List Column) (slots : List (Option ℕ)) (fields : List (List ℕ)) (values : List ℤ) (verdict : Verdict) (place i : ℕ) (read : Result ℤ RowFault) (behind : Bool) → IsTable columns slots → get_or slots place None ≡ Some i → i < length columns → read_at columns fields i ≡ read → nat_le verdict.good_before i ≡ behind → Known columns fields values verdict place → Known columns fields (values_after verdict i read values) (verdict_after verdict i read) (place + 1)
unfolding values_after verdict_after
known_read columns slots fields values verdict place i read true table some lt is test known =
    rw test (known_behind columns slots fields values verdict place i table some (leb-true _ _ test) known)
known_read columns slots fields values verdict place i (Ok value) false table some lt is test known =
    rw test (known_value columns slots fields values verdict place i value table some lt is known)
known_read columns slots fields values verdict place i (Err fault) false table some lt is test known =
    rw test (known_fault columns slots fields values verdict place i fault table some lt (leb-false _ _ test) is known)

-- the field of input i
pub known_more : (columns : List Column) (slots : List (Option ℕ)) (fields : List (List ℕ)) (field : List ℕ) (values : List ℤ) (verdict : Verdict) (place i : ℕ) → IsTable columns slots → get_or slots place None ≡ Some i → field ≡ field_in fields place → Known columns fields values verdict place → Known columns fields (values_after verdict i (input_value (column_at columns i) field) values) (verdict_after verdict i (input_value (column_at columns i) field)) (place + 1)
known_more columns slots fields field values verdict place i table some is known =
    let there = table.no_other place i some in
    known_read columns slots fields values verdict place i (input_value (column_at columns i) field) (nat_le verdict.good_before i) table some there.0 (ap (λ n. input_value (column_at columns i) (field_in fields n)) there.1 ∙ ap (input_value (column_at columns i)) (sym is)) refl known

-- ---- the whole row

-- where all inputs are good, the values are the row's
all_good : (columns : List Column) (fields : List (List ℕ)) (values : List ℤ) → length values ≡ length columns → ((k : ℕ) → k < length columns → read_at columns fields k ≡ Ok (get_or values k (pos 0))) → input_values columns fields ≡ Ok values
unfolding input_values
all_good [] fields [] same good = refl
all_good [] fields (value ∷ values) same good = absurd (omega (arith, same))
all_good (column ∷ columns) fields [] same good = absurd (omega (arith, same))
all_good (column ∷ columns) fields (value ∷ values) same good =
    rw (good 0 (omega arith), all_good columns fields values (omega (arith, same)) (λ k lt. good (suc k) (omega (arith, lt)))) refl

-- the fault of the first that isn't good is the row's
first_fault : (columns : List Column) (fields : List (List ℕ)) (values : List ℤ) (i : ℕ) (fault : RowFault) → length values ≡ length columns → i < length columns → ((k : ℕ) → k < i → read_at columns fields k ≡ Ok (get_or values k (pos 0))) → read_at columns fields i ≡ Err fault → (input_values columns fields ≡ Err fault) × (good_values columns fields ≡ take i values)
unfolding input_values good_values
first_fault [] fields values i fault same lt good bad = absurd (omega (arith, lt))
first_fault (column ∷ columns) fields [] i fault same lt good bad = absurd (omega (arith, same))
first_fault (column ∷ columns) fields (value ∷ values) zero fault same lt good bad = (rw bad refl, rw bad refl)
first_fault (column ∷ columns) fields (value ∷ values) (suc i) fault same lt good bad =
    let rest = first_fault columns fields values i fault (omega (arith, same)) (omega (arith, lt)) (λ k below. good (suc k) (omega (arith, below))) bad in
    (rw (good 0 (omega arith), rest.0) refl, rw (good 0 (omega arith), rest.1) refl)

-- a plain line's row
row_is : (width : ℕ) (columns : List Column) (line : List ℕ) → is_plain line ≡ true → width ≤ length (pieces is_comma line) → row_of (record { width = width; columns = columns }) line ≡ input_values columns (pieces is_comma line)
unfolding row_of
row_is width columns line plain wide =
    rw (fields_of_plain line plain, le-leb width (length (pieces is_comma line)) wide) refl

-- one with fewer fields than the header
pub narrow : (columns : List Column) (slots : List (Option ℕ)) (line : List ℕ) (place : ℕ) → is_plain line ≡ true → place < length slots → drop place (pieces is_comma line) ≡ [] → row_of (header_with columns slots) line ≡ Err BadWidth
unfolding row_of
narrow columns slots line place plain within none =
    let few : length (pieces is_comma line) < length slots = omega (arith, within, length-drop place (pieces is_comma line), ap length none) in
    rw (fields_of_plain line plain, lt-leb (length slots) (length (pieces is_comma line)) few) refl

-- what the end of a walk says of the row
pub record Ends (width : ℕ) (columns : List Column) (line : List ℕ) (values : List ℤ) (outcome : Result (Unit {0}) RowFault) : Type 0 where
  pub values_are : OnOk outcome (row_of (record { width = width; columns = columns }) line ≡ Ok values)
  pub fault_is : IfErr outcome (Tells (row_of (record { width = width; columns = columns }) line))
  pub before_is : IfErr outcome (Leaves (values_before (record { width = width; columns = columns }) line) values)

-- by what it found
ends_by : (width : ℕ) (columns : List Column) (line : List ℕ) (values : List ℤ) (good_before : ℕ) (outcome : Result (Unit {0}) RowFault) → is_plain line ≡ true → width ≤ length (pieces is_comma line) → ((k : ℕ) → k < length columns → (column_at columns k).place < width) → Known columns (pieces is_comma line) values (record { good_before = good_before; outcome = outcome }) width → Ends width columns line values outcome
ends_by width columns line values good_before (Ok done) plain wide within known =
    let row = row_is width columns line plain wide in
    let all : good_before ≡ length columns = known.fault in
    record {
      values_are = row ∙ all_good columns (pieces is_comma line) values known.one_each (λ k lt. known.good k (omega (arith, lt, all)) (within k lt));
      fault_is = tt;
      before_is = tt;
    }
ends_by width columns line values good_before (Err fault) plain wide within known =
    let row = row_is width columns line plain wide in
    let lt : good_before < length columns = known.fault.0 in
    let first = first_fault columns (pieces is_comma line) values good_before fault known.one_each lt (λ k below. known.good k below (within k (omega (arith, below, lt)))) known.fault.1 in
    record {
      values_are = tt;
      fault_is = tells (row_of (record { width = width; columns = columns }) line) fault (row ∙ first.0);
      before_is = rw (fields_of_plain line plain) (leaves (good_values columns (pieces is_comma line)) values fault good_before first.1 (omega (arith, lt, known.one_each)));
    }

pub ends : (columns : List Column) (slots : List (Option ℕ)) (line : List ℕ) (values : List ℤ) (verdict : Verdict) (place : ℕ) → is_plain line ≡ true → IsTable columns slots → place ≡ length slots → place ≤ length (pieces is_comma line) → Known columns (pieces is_comma line) values verdict place → Ends (length slots) columns line values verdict.outcome
ends columns slots line values verdict place plain table all wide known =
    ends_by (length slots) columns line values verdict.good_before verdict.outcome plain (omega (arith, all, wide)) (λ k lt. (table.stands k lt).0) (subst (λ n. Known columns (pieces is_comma line) values verdict n) all known)

-- its first part, for the walk's clause
pub ends_values : (columns : List Column) (slots : List (Option ℕ)) (line : List ℕ) (values : List ℤ) (verdict : Verdict) (place : ℕ) → is_plain line ≡ true → IsTable columns slots → place ≡ length slots → place ≤ length (pieces is_comma line) → Known columns (pieces is_comma line) values verdict place → OnOk verdict.outcome (row_of (header_with columns slots) line ≡ Ok values)
ends_values columns slots line values verdict place plain table all wide known =
    (ends columns slots line values verdict place plain table all wide known).values_are

-- ---- the field at hand

-- the first of the fields that are left is the one at this place
pub field_here : (fields : List (List ℕ)) (place : ℕ) (field : List ℕ) (rest : List (List ℕ)) → drop place fields ≡ field ∷ rest → (place < length fields) × (field ≡ field_in fields place) × (drop (place + 1) fields ≡ rest)
field_here fields place field rest is =
    let count = ap length is in
    let first = ap (λ l. get_or l 0 []) is in
    (omega (arith, length-drop place fields, count), sym first ∙ get_or-drop place fields 0 [] ∙ ap (λ n. get_or fields n []) (add-zero place), sym (drop-drop 1 place fields) ∙ ap (drop 1) is)

-- so one more field leaves the others
pub rest_more : (fields : List (List ℕ)) (place : ℕ) (bytes field : List ℕ) (behind : Option (Bor (List ℕ))) → drop place fields ≡ pieces is_comma bytes → MatchOption behind (pieces is_comma bytes ≡ field ∷ []) (λ b. pieces is_comma bytes ≡ field ∷ pieces is_comma b.now)
    → (place < length fields) × (field ≡ field_in fields place) × MatchOption behind (drop (place + 1) fields ≡ []) (λ b. drop (place + 1) fields ≡ pieces is_comma b.now)
rest_more fields place bytes field None left cut = field_here fields place field [] (left ∙ cut)
rest_more fields place bytes field (Some b) left cut = field_here fields place field (pieces is_comma b.now) (left ∙ cut)

-- and whether the line is plain hangs on what is left
pub plain_more : (line : Bool) (bytes : List ℕ) (behind : Option (Bor (List ℕ))) → line ≡ list_all is_plain_byte bytes → MatchOption behind (list_all is_plain_byte bytes ≡ true) (λ b. list_all is_plain_byte bytes ≡ list_all is_plain_byte b.now)
    → MatchOption behind (line ≡ true) (λ b. line ≡ list_all is_plain_byte b.now)
plain_more line bytes None left more = left ∙ more
plain_more line bytes (Some b) left more = left ∙ more
