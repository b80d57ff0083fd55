-- An accepted certificate holds, by induction: over older rows, and within a row over parts in their order. What a part reads is
-- an earlier part of its row, or a part of the row before; the law of rules does the rest, and nothing here names a block.
use Rattle.std.specs.Prelude.{◌≡◌, ℕ, zero, suc, ◌+◌, ◌<◌, ◌≤◌, Bool, true, false, List, [], length, get_or, drop, ℤ, pos, ◌≤ℤ◌, IsTrue, Some}
use Rattle.std.proofs.Common.{refl, sym, ap, ◌∙◌, subst, arith, inl, inr, ◌⊎◌, leb-false}
use Rattle.std.proofs.lemmas.Bool.{cases_lt, false≢true}
use Rattle.std.proofs.lemmas.List.{get_or-drop, get_or_past, length-drop}
use Rattle.fx_fraction.specs.Fraction.{Fraction, whole}
use Rattle.fx_fraction.proofs.WholeNumbers.{int_le_trans}
use Rattle.net_model.specs.declared.wires.WireNo.{WireNo}
use Rattle.net_model.specs.declared.wires.Item.{Item}
use Rattle.net_model.specs.declared.wires.Item.TheVariants.{Input, Const, Delay, Block as OfBlock}
use Rattle.net_model.specs.declared.wires.Role.{Role}
use Rattle.net_model.specs.declared.wires.Role.TheVariants.{Y, X1, X2, W, Value}
use Rattle.net_model.specs.declared.wires.Part.{Part}
use Rattle.net_model.specs.Wires.{NetData, wire_at, has_role, input_place, parts_of, roles_of}
use Rattle.net_model.specs.Validity.{IsValid}
use Rattle.net_model.proofs.PartPlaces.{has_role-value}
use Rattle.net_meaning.specs.Cells.{Cell, Meaning, cell_at, cells_from, plain, wire_values}
use Rattle.net_meaning.specs.Blocks.{as_fractions, machine, exact}
use Rattle.net_meaning.specs.Runs.{AreRuns, HasAllInputs, IsRun, Tables, equation, equation_of, is_first, table}
use Rattle.net_meaning.specs.Promises.{FitsAt, ItemDivides, Keeps, KeepsRange}
use Rattle.net_meaning.proofs.Equations.{by_smaller, same_readings}
use Rattle.net_meaning.proofs.OneRun.{runs_agree}
use Rattle.net_meaning.proofs.TableRun.{table_is_run}
use Rattle.part_rules.specs.declared.bounds.Bounds.{Bounds}
use Rattle.part_rules.specs.Within.{IsWithin}
use Rattle.part_rules.specs.PartRules.{Reading}
use Rattle.cert_rules.specs.Rules.{count_held, greatest_of_part, holder, least_of_part, part_on}
use Rattle.cert_rules.specs.Certificates.{IsPart, entry_of, held_by, is_promised}
use Rattle.cert_rules.specs.Acceptance.{Accepts, part_at, start_of}
use Rattle.cert_rules.specs.Arguments.{reads_ago, reads_of, rows_ago}
use Rattle.cert_rules.specs.GivenBounds.{reading_at, value_part}
use Rattle.cert_rules.specs.Soundness.{IsGiven, IsPartHeld, IsUnderWay, KeepsInput, back, new_by, raw_by, value_held, value_of}
use Rattle.cert_rules.specs.Theorem.{CertificatesHold}
use Rattle.cert_rules.proofs.AcceptedEntries.{EntryHolds, entry_holds, within_wider}
use Rattle.cert_rules.proofs.BlockRules.{IsKept, IsStateNumber, block_kept, block_state, zero_is_state}
use Rattle.cert_rules.proofs.EntryFacts.{allowed_for}
use Rattle.cert_rules.proofs.PartValues.{within_at}
use Rattle.cert_rules.proofs.Readings.{has_number, numbered, reading_of}
use Rattle.cert_rules.proofs.ReadParts.{IsOrderly, is_orderly, rank}
use Rattle.cert_rules.proofs.RuleSoundness.{rules_are_sound}

-- ---- one wire

-- saturation leaves what lies between the ends of a part alone
item_kept : (net : NetData) (rows : List (List ℤ)) (i : ℕ) (item : Item) (m : ℕ → ℕ → Cell ℤ) → IsKept net.axes (wire_at net.wires i).kind (equation_of machine net rows m i item)
unfolding equation_of machine
item_kept net rows i (Input lo hi) m = record { value = λ _ _. refl; state = λ _ _. refl }
item_kept net rows i (Const value) m = record { value = λ _ _. refl; state = λ _ _. refl }
item_kept net rows i (Delay init source) m = record { value = λ _ _. refl; state = λ _ _. refl }
item_kept net rows i (OfBlock b) m = block_kept net rows i b m

-- the state of a wire without one is 0
item_state : (net : NetData) (rows : List (List ℤ)) (i : ℕ) (item : Item) (m : ℕ → ℕ → Cell ℤ) → (has_role Y (roles_of item) ≡ true → IsStateNumber (equation_of machine net rows m i item).state_unsaturated) → IsStateNumber (equation_of machine net rows m i item).state_unsaturated
unfolding equation_of machine
item_state net rows i (Input lo hi) m has = zero_is_state
item_state net rows i (Const value) m has = zero_is_state
item_state net rows i (Delay init source) m has = zero_is_state
item_state net rows i (OfBlock b) m has = block_state net rows i b m has

-- ---- one part

-- what a part newly holds is what its wire makes of it
role_new : {V : Type 0} (net : NetData) (part : Part) (role : Role) (cells : ℕ → ℕ → Cell V) → part.role ≡ role → value_of net part cells 0 ≡ new_by role (cells 0 part.wire.0) (value_of net part cells 0)
role_new net part Value cells is = rw is refl
role_new net part Y cells is = rw is refl
role_new net part X1 cells is = refl
role_new net part X2 cells is = refl
role_new net part W cells is = refl

-- where its value before saturation lies between the part's ends
role_kept : (net : NetData) (wire : ℕ) (role : Role) (cell : Cell ℤ) (newest : ℤ) → IsKept net.axes (wire_at net.wires wire).kind cell → least_of_part net (part_on wire role) ≤ℤ raw_by role cell newest → raw_by role cell newest ≤ℤ greatest_of_part net (part_on wire role) → new_by role cell newest ≡ raw_by role cell newest
role_kept net wire Value cell newest kept low high = kept.value low high
role_kept net wire Y cell newest kept low high = kept.state low high
role_kept net wire X1 cell newest kept low high = refl
role_kept net wire X2 cell newest kept low high = refl
role_kept net wire W cell newest kept low high = refl

-- what a part holds beside its newest value it held a row before
carried : {V : Type 0} (role : Role) (item : Item) (wire : ℕ) (cells : ℕ → ℕ → Cell V) (n : ℕ) → suc n < count_held role item → value_held role wire cells (suc n) ≡ value_held role wire (back 1 cells) n
carried Value item wire cells n few = absurd (omega arith)
carried Y item wire cells n few = refl
carried X1 item wire cells n few = refl
carried X2 item wire cells n few = refl
carried W item wire cells n few = refl

-- and then it starts from 0
carrier_starts : (role : Role) (item : Item) (n : ℕ) → suc n < count_held role item → start_of item role ≡ Some (pos 0)
carrier_starts Value item n few = absurd (omega arith)
carrier_starts Y item n few = refl
carrier_starts X1 item n few = refl
carrier_starts X2 item n few = refl
carrier_starts W item n few = refl

-- a part holds at the row at which wires hold these cells
record PartHolds (net : NetData) (entries : List Bounds) (part : Part) (m : ℕ → ℕ → Cell ℤ) (e : ℕ → ℕ → Cell Fraction) : Type 0 where
  machine_divides : ItemDivides net (wire_at net.wires part.wire.0) (wire_at net.wires part.wire.0).item (as_fractions (wire_values m))
  exact_divides : ItemDivides net (wire_at net.wires part.wire.0) (wire_at net.wires part.wire.0).item (wire_values e)
  low : least_of_part net part ≤ℤ raw_by part.role (m 0 part.wire.0) (value_of net part m 0)
  high : raw_by part.role (m 0 part.wire.0) (value_of net part m 0) ≤ℤ greatest_of_part net part
  held : IsPartHeld net entries part m e

-- what holds of the parts of the row before: all of them where there is one, and those that start from 0
record IsPast (net : NetData) (entries : List Bounds) (rows : List (List ℤ)) (m : ℕ → ℕ → Cell ℤ) (e : ℕ → ℕ → Cell Fraction) : Type 0 where
  older : is_first rows ≡ false → (part : Part) → IsPart net part → IsPartHeld net entries part (back 1 m) (back 1 e)
  zeros : (part : Part) → IsPart net part → start_of (wire_at net.wires part.wire.0).item part.role ≡ Some (pos 0) → IsPartHeld net entries part (back 1 m) (back 1 e)

-- what a part holds: its newest value, and what it held before
all_held : (net : NetData) (entries : List Bounds) (rows : List (List ℤ)) (part : Part) (m : ℕ → ℕ → Cell ℤ) (e : ℕ → ℕ → Cell Fraction) → IsPast net entries rows m e → IsPart net part → IsWithin (entry_of net entries part) (value_of net part m 0) (value_of net part e 0) → IsPartHeld net entries part m e
all_held net entries rows part m e past is newest zero few = newest
all_held net entries rows part m e past is newest (suc n) few =
    let item = (wire_at net.wires part.wire.0).item in
    within_at (entry_of net entries part) _ _ _ _ (carried part.role item (holder net part) m n few) (carried part.role item (holder net part) e n few)
    (past.zeros part is (carrier_starts part.role item n few) n (omega arith))

-- the cells of the newest row meet the equations
record MeetsRow (net : NetData) (rows : List (List ℤ)) (m : ℕ → ℕ → Cell ℤ) (e : ℕ → ℕ → Cell Fraction) : Type 0 where
  in_machine : (i : ℕ) → i < length net.wires → m 0 i ≡ equation machine net rows m i
  exactly : (i : ℕ) → i < length net.wires → e 0 i ≡ equation exact net rows e i

part_holds : (net : NetData) (entries : List Bounds) (rows : List (List ℤ)) (p : ℕ) (m : ℕ → ℕ → Cell ℤ) (e : ℕ → ℕ → Cell Fraction) → IsValid net → Accepts net entries → p < length (parts_of net.wires) → KeepsInput net p rows → IsUnderWay (wire_at net.wires (part_at net p).wire.0).item rows → MeetsRow net rows m e → IsPast net entries rows m e → IsGiven net entries p m e → PartHolds net entries (part_at net p) m e
part_holds net entries rows p m e valid accepts h keeps later meets past given =
    let part = part_at net p in
    let i = part.wire.0 in
    let there = numbered net p h in
    let is_m = meets.in_machine i there.wire in
    let is_e = meets.exactly i there.wire in
    let entry = entry_holds net entries part accepts there in
    let k = rules_are_sound net valid entries p h (allowed_for net entries p accepts.allowed) rows m e keeps later (λ has. (ap (λ c. c.state) is_m, ap (λ c. c.state) is_e)) given entry.bounds entry.rules in
    let raw : raw_by part.role (m 0 i) (value_of net part m 0) ≡ raw_by part.role (equation machine net rows m i) (value_of net part m 0) = ap (λ c. raw_by part.role c (value_of net part m 0)) is_m in
    let new : new_by part.role (e 0 i) (value_of net part e 0) ≡ new_by part.role (equation exact net rows e i) (value_of net part e 0) = ap (λ c. new_by part.role c (value_of net part e 0)) is_e in
    let within : IsWithin entry.bounds (raw_by part.role (m 0 i) (value_of net part m 0)) (new_by part.role (e 0 i) (value_of net part e 0)) = within_at entry.bounds _ _ _ _ raw new k.within in
    let low : least_of_part net part ≤ℤ raw_by part.role (m 0 i) (value_of net part m 0) = int_le_trans _ _ _ entry.least within.low in
    let high : raw_by part.role (m 0 i) (value_of net part m 0) ≤ℤ greatest_of_part net part = int_le_trans _ _ _ within.high entry.greatest in
    let kept : IsKept net.axes (wire_at net.wires i).kind (m 0 i) = subst (IsKept net.axes (wire_at net.wires i).kind) (sym is_m) (item_kept net rows i (wire_at net.wires i).item m) in
    record {
      machine_divides = k.machine_divides;
      exact_divides = k.exact_divides;
      low = low;
      high = high;
      held = all_held net entries rows part m e past there
          (within_at (entry_of net entries part) _ _ _ _
          (role_new net part part.role m refl ∙ role_kept net i part.role (m 0 i) (value_of net part m 0) kept low high)
          (role_new net part part.role e refl)
          (within_wider entry.bounds (entry_of net entries part) _ _ entry.inside within));
    }

-- ---- a delay in the first row

-- its value is the initial one
first_value_is : (net : NetData) (rows : List (List ℤ)) (i : ℕ) (init : ℤ) (source : WireNo) (m : ℕ → ℕ → Cell ℤ) → is_first rows ≡ true → equation_of machine net rows m i (Delay init source) ≡ plain machine init
unfolding equation_of machine
first_value_is net rows i init source m first = rw first refl

first_exactly_is : (net : NetData) (rows : List (List ℤ)) (i : ℕ) (init : ℤ) (source : WireNo) (e : ℕ → ℕ → Cell Fraction) → is_first rows ≡ true → equation_of exact net rows e i (Delay init source) ≡ plain exact init
unfolding equation_of exact
first_exactly_is net rows i init source e first = rw first refl

value_unsaturated_is : (init : ℤ) → ((plain machine init).value_unsaturated ≡ init) × ((plain machine init).value ≡ init) × ((plain exact init).value ≡ whole init)
unfolding machine exact
value_unsaturated_is init = (refl, refl, refl)

-- a delay has its value as its only part
delay_part : (net : NetData) (part : Part) (role : Role) (init : ℤ) (source : WireNo) → (wire_at net.wires part.wire.0).item ≡ Delay init source → part.role ≡ role → has_role role (roles_of (wire_at net.wires part.wire.0).item) ≡ true → part ≡ part_on part.wire.0 Value
delay_part net part Value init source is same has = ap (part_on part.wire.0) same
delay_part net part Y init source is same has = let h = rw is at has in absurd (false≢true h)
delay_part net part X1 init source is same has = let h = rw is at has in absurd (false≢true h)
delay_part net part X2 init source is same has = let h = rw is at has in absurd (false≢true h)
delay_part net part W init source is same has = let h = rw is at has in absurd (false≢true h)

starting_value : (net : NetData) (entries : List Bounds) (rows : List (List ℤ)) (i : ℕ) (m : ℕ → ℕ → Cell ℤ) (e : ℕ → ℕ → Cell Fraction) (init : ℤ) (source : WireNo) → Accepts net entries → IsPart net (part_on i Value) → (wire_at net.wires i).item ≡ Delay init source → is_first rows ≡ true → MeetsRow net rows m e → PartHolds net entries (part_on i Value) m e
starting_value net entries rows i m e init source accepts there is first meets =
    let entry = entry_holds net entries (part_on i Value) accepts there in
    let start = entry.starts init (rw is refl) in
    let values = value_unsaturated_is init in
    let is_m : m 0 i ≡ plain machine init = meets.in_machine i there.wire ∙ ap (equation_of machine net rows m i) is ∙ first_value_is net rows i init source m first in
    let is_e : e 0 i ≡ plain exact init = meets.exactly i there.wire ∙ ap (equation_of exact net rows e i) is ∙ first_exactly_is net rows i init source e first in
    record {
      machine_divides = rw is tt;
      exact_divides = rw is tt;
      low = rw (is_m, values.0) (int_le_trans _ _ _ entry.entry_least start.low);
      high = rw (is_m, values.0) (int_le_trans _ _ _ start.high entry.entry_greatest);
      held = λ n few. within_at (entry_of net entries (part_on i Value)) _ _ _ _ (only (λ k. (m k i).value) n few ∙ ap (λ c. c.value) is_m ∙ values.1) (only (λ k. (e k i).value) n few ∙ ap (λ c. c.value) is_e ∙ values.2) start;
    }
  where
    only : {A : Type 0} (f : ℕ → A) (n : ℕ) → n < 1 → f n ≡ f 0
    only f zero few = refl
    only f (suc n) few = absurd (omega arith)

-- a wire is under way, or a delay in its first row
record IsStarting (item : Item) (rows : List (List ℤ)) : Type 0 where
  init : ℤ
  source : WireNo
  is : item ≡ Delay init source
  first : is_first rows ≡ true

by_first : (init : ℤ) (source : WireNo) (rows : List (List ℤ)) (t : Bool) → is_first rows ≡ t → IsUnderWay (Delay init source) rows ⊎ IsStarting (Delay init source) rows
by_first init source rows true e = inr (record { init = init; source = source; is = refl; first = e })
by_first init source rows false e = inl e

under_way : (item : Item) (rows : List (List ℤ)) → IsUnderWay item rows ⊎ IsStarting item rows
under_way (Input lo hi) rows = inl tt
under_way (Const value) rows = inl tt
under_way (Delay init source) rows = by_first init source rows (is_first rows) refl
under_way (OfBlock b) rows = inl tt

-- ---- what a part reads

-- where the parts before it hold at its row, and those of the row before that it may read, what its rule reads is held
read_held : (net : NetData) (entries : List Bounds) (rows : List (List ℤ)) (p : ℕ) (m : ℕ → ℕ → Cell ℤ) (e : ℕ → ℕ → Cell Fraction) → IsValid net → p < length (parts_of net.wires) → IsUnderWay (wire_at net.wires (part_at net p).wire.0).item rows → ((other : Part) → IsPart net other → rank other < rank (part_at net p) → IsPartHeld net entries other m e) → IsPast net entries rows m e → IsGiven net entries p m e
unfolding reads_ago
read_held net entries rows p m e valid h later now past k ago in_parts read =
    let r = reading_of (reads_of net p) (part_at net k) ago read in
    let reading = reading_at (reads_of net p) r.number in
    let orderly = is_orderly net (part_at net p) valid (numbered net p h) r.number r.within in
    subst (λ (t : Part). IsPartHeld net entries t (back ago m) (back ago e)) r.is (subst (λ n. IsPartHeld net entries reading.part (back n m) (back n e)) r.rows (by_row reading orderly reading.before refl))
  where
    looking_back : (other : Part) → IsPart net other → (start_of (wire_at net.wires other.wire.0).item other.role ≡ Some (pos 0)) ⊎ ((rows : List (List ℤ)) → IsUnderWay (wire_at net.wires (part_at net p).wire.0).item rows → is_first rows ≡ false) → IsPartHeld net entries other (back 1 m) (back 1 e)
    looking_back other is (inl starts) = past.zeros other is starts
    looking_back other is (inr delayed) = past.older (delayed rows later) other is

    by_row : (reading : Reading Part) → IsOrderly net (part_at net p) reading → (before : Bool) → reading.before ≡ before → IsPartHeld net entries reading.part (back (rows_ago reading) m) (back (rows_ago reading) e)
    by_row reading orderly true is = rw is (looking_back reading.part orderly.there (orderly.starts is))
    by_row reading orderly false is = rw is (now reading.part orderly.there (orderly.earlier is))

-- ---- one row

row_holds : (net : NetData) (entries : List Bounds) (rows : List (List ℤ)) (m : ℕ → ℕ → Cell ℤ) (e : ℕ → ℕ → Cell Fraction) → IsValid net → Accepts net entries → ((i : ℕ) → i < length net.wires → KeepsRange (wire_at net.wires i).item (get_or (get_or rows 0 []) (input_place net.wires i) (pos 0))) → MeetsRow net rows m e → IsPast net entries rows m e → (part : Part) → IsPart net part → PartHolds net entries part m e
row_holds net entries rows m e valid accepts keeps meets past part is =
    by_smaller (λ n. (one : Part) → IsPart net one → rank one ≡ n → PartHolds net entries one m e)
    (λ n before one there same. one_holds n before one there same (under_way (wire_at net.wires one.wire.0).item rows))
    (suc (rank part)) (rank part) (omega arith) part is refl
  where
    one_holds : (n : ℕ) → ((k : ℕ) → k < n → (one : Part) → IsPart net one → rank one ≡ k → PartHolds net entries one m e) → (one : Part) → IsPart net one → rank one ≡ n → IsUnderWay (wire_at net.wires one.wire.0).item rows ⊎ IsStarting (wire_at net.wires one.wire.0).item rows → PartHolds net entries one m e
    one_holds n before one there same (inl later) =
        let number = has_number net one there in
        let wire : (part_at net number.number).wire.0 < length net.wires = (numbered net number.number number.within).wire in
        let later' : IsUnderWay (wire_at net.wires (part_at net number.number).wire.0).item rows = subst (λ (t : Part). IsUnderWay (wire_at net.wires t.wire.0).item rows) (sym number.there) later in
        subst (λ t. PartHolds net entries t m e) number.there
        (part_holds net entries rows number.number m e valid accepts number.within (keeps _ wire) later' meets past
        (read_held net entries rows number.number m e valid number.within later' (λ other o less. (before (rank other) (omega (arith, less, same, ap rank number.there)) other o refl).held) past))
    one_holds n before one there same (inr starting) =
        let value = delay_part net one one.role starting.init starting.source starting.is refl there.role in
        subst (λ t. PartHolds net entries t m e) (sym value)
        (starting_value net entries rows one.wire.0 m e starting.init starting.source accepts (subst (IsPart net) value there) starting.is starting.first meets)

-- ---- all rows

no_more : (j : ℕ) → j + 0 ≡ j
no_more j = omega arith

newest_row : (rows : List (List ℤ)) (j : ℕ) → get_or (drop j rows) 0 [] ≡ get_or rows j []
newest_row rows j = get_or-drop j rows 0 [] ∙ ap (λ n. get_or rows n []) (no_more j)

meets_at : {V : Type 0} (M : Meaning V) (net : NetData) (rows : List (List ℤ)) (t : List (List (Cell V))) → IsRun M net rows t → (j i : ℕ) → j < length rows → i < length net.wires → cells_from M t j 0 i ≡ equation M net (drop j rows) (cells_from M t j) i
meets_at M net rows t run j i h l = ap (λ n. cell_at M t n i) (no_more j) ∙ run.meets j i h l

-- a row before
back_one : {V : Type 0} (M : Meaning V) (t : List (List (Cell V))) (j : ℕ) → back 1 (cells_from M t j) ≡ cells_from M t (j + 1)
back_one M t j = same_readings _ _ (λ ago w. ap (λ n. cell_at M t n w) (next ago))
  where
    next : (ago : ℕ) → j + suc ago ≡ j + 1 + ago
    next ago = omega arith

-- before the first row all is 0
before_first : {V : Type 0} (M : Meaning V) (t : List (List (Cell V))) (j i : ℕ) → length t ≤ j → cell_at M t j i ≡ plain M (pos 0)
before_first M t j i h = ap (λ row. get_or row i (plain M (pos 0))) (get_or_past t j [] h)

-- so is each value that a part holds
nothing_yet : (role : Role) (wire n : ℕ) (m : ℕ → ℕ → Cell ℤ) (e : ℕ → ℕ → Cell Fraction) → ((ago w : ℕ) → m ago w ≡ plain machine (pos 0)) → ((ago w : ℕ) → e ago w ≡ plain exact (pos 0)) → (value_held role wire m n ≡ pos 0) × (value_held role wire e n ≡ whole (pos 0))
unfolding machine exact
nothing_yet Value wire n m e h k = (ap (λ c. c.value) (h n wire), ap (λ c. c.value) (k n wire))
nothing_yet Y wire n m e h k = (ap (λ c. c.state) (h n wire), ap (λ c. c.state) (k n wire))
nothing_yet X1 wire n m e h k = (ap (λ c. c.value) (h n wire), ap (λ c. c.value) (k n wire))
nothing_yet X2 wire n m e h k = (ap (λ c. c.value) (h (suc n) wire), ap (λ c. c.value) (k (suc n) wire))
nothing_yet W wire n m e h k = (ap (λ c. c.value) (h n wire), ap (λ c. c.value) (k n wire))

-- and a part that starts from 0 is within its entry
starting : (net : NetData) (entries : List Bounds) (part : Part) (m : ℕ → ℕ → Cell ℤ) (e : ℕ → ℕ → Cell Fraction) → EntryHolds net entries part → start_of (wire_at net.wires part.wire.0).item part.role ≡ Some (pos 0) → ((ago w : ℕ) → m ago w ≡ plain machine (pos 0)) → ((ago w : ℕ) → e ago w ≡ plain exact (pos 0)) → IsPartHeld net entries part m e
starting net entries part m e entry starts is_m is_e n few =
    let none = nothing_yet part.role (holder net part) n m e is_m is_e in
    within_at (entry_of net entries part) _ _ _ _ none.0 none.1 (entry.starts (pos 0) starts)

-- the newest of the rows that are left has a row before it where there is one more
left_over : (rows : List (List ℤ)) (j : ℕ) → is_first (drop j rows) ≡ false → j + 1 < length rows
left_over rows j h = let long = leb-false (length (drop j rows)) 1 h in omega (arith, long, length-drop j rows)

-- one more row, below the older ones
next_holds : (net : NetData) (entries : List Bounds) → IsValid net → Accepts net entries → (rows : List (List ℤ)) (tables : Tables) → Keeps net rows → AreRuns net rows tables → (j : ℕ) → j < length rows → (j + 1 < length rows → (part : Part) → IsPart net part → PartHolds net entries part (cells_from machine tables.in_machine (j + 1)) (cells_from exact tables.exactly (j + 1))) → (part : Part) → IsPart net part → PartHolds net entries part (cells_from machine tables.in_machine j) (cells_from exact tables.exactly j)
next_holds net entries valid accepts rows tables keeps runs j h older part is =
    row_holds net entries (drop j rows) (cells_from machine tables.in_machine j) (cells_from exact tables.exactly j) valid accepts
    (λ i k. subst (λ row. KeepsRange (wire_at net.wires i).item (get_or row (input_place net.wires i) (pos 0))) (sym (newest_row rows j)) ((keeps j h).ranges i k))
    (record {
      in_machine = λ i k. meets_at machine net rows tables.in_machine runs.in_machine j i h k;
      exactly = λ i k. meets_at exact net rows tables.exactly runs.exactly j i h k;
    })
    (record {
      older = λ later other o. older_held other o (left_over rows j later);
      zeros = λ other o starts. zeros_held other o starts (cases_lt (j + 1) (length rows));
    })
    part is
  where
    moved : (other : Part) → IsPartHeld net entries other (cells_from machine tables.in_machine (j + 1)) (cells_from exact tables.exactly (j + 1)) → IsPartHeld net entries other (back 1 (cells_from machine tables.in_machine j)) (back 1 (cells_from exact tables.exactly j))
    moved other held = rw (back_one machine tables.in_machine j, back_one exact tables.exactly j) held

    older_held : (other : Part) → IsPart net other → j + 1 < length rows → IsPartHeld net entries other (back 1 (cells_from machine tables.in_machine j)) (back 1 (cells_from exact tables.exactly j))
    older_held other o more = moved other (older more other o).held

    zeros_held : (other : Part) → IsPart net other → start_of (wire_at net.wires other.wire.0).item other.role ≡ Some (pos 0) → (j + 1 < length rows) ⊎ (length rows ≤ j + 1) → IsPartHeld net entries other (back 1 (cells_from machine tables.in_machine j)) (back 1 (cells_from exact tables.exactly j))
    zeros_held other o starts (inl more) = older_held other o more
    zeros_held other o starts (inr last) =
        moved other (starting net entries other _ _ (entry_holds net entries other accepts o) starts
        (λ ago w. before_first machine tables.in_machine (j + 1 + ago) w (omega (arith, runs.in_machine.long, last)))
        (λ ago w. before_first exact tables.exactly (j + 1 + ago) w (omega (arith, runs.exactly.long, last))))

rows_hold : (net : NetData) (entries : List Bounds) → IsValid net → Accepts net entries → (rows : List (List ℤ)) (tables : Tables) → Keeps net rows → AreRuns net rows tables → (n j : ℕ) → length rows ≤ j + n → j < length rows → (part : Part) → IsPart net part → PartHolds net entries part (cells_from machine tables.in_machine j) (cells_from exact tables.exactly j)
rows_hold net entries valid accepts rows tables keeps runs zero j enough h part is = absurd (omega arith)
rows_hold net entries valid accepts rows tables keeps runs (suc n) j enough h part is =
    next_holds net entries valid accepts rows tables keeps runs j h (λ more. rows_hold net entries valid accepts rows tables keeps runs n (j + 1) (omega arith) more) part is

all_rows : (net : NetData) (entries : List Bounds) → IsValid net → Accepts net entries → (rows : List (List ℤ)) (tables : Tables) → Keeps net rows → AreRuns net rows tables → (j : ℕ) → j < length rows → (part : Part) → IsPart net part → PartHolds net entries part (cells_from machine tables.in_machine j) (cells_from exact tables.exactly j)
all_rows net entries valid accepts rows tables keeps runs j h part is = rows_hold net entries valid accepts rows tables keeps runs (length rows) j (omega arith) h part is

-- a wire fits, by its value and by its state, where it has one
wire_fits : (net : NetData) (entries : List Bounds) → IsValid net → Accepts net entries → (rows : List (List ℤ)) (tables : Tables) → Keeps net rows → AreRuns net rows tables → (j i : ℕ) → j < length rows → i < length net.wires → FitsAt net (wire_at net.wires i) (cells_from machine tables.in_machine j) (cells_from exact tables.exactly j) (cells_from machine tables.in_machine j 0 i)
wire_fits net entries valid accepts rows tables keeps runs j i h l =
    let m = cells_from machine tables.in_machine j in
    let w = wire_at net.wires i in
    let value = all_rows net entries valid accepts rows tables keeps runs j h (value_part i) (record { wire = l; role = has_role-value w.item }) in
    let is_m = meets_at machine net rows tables.in_machine runs.in_machine j i h l in
    let state : IsStateNumber (m 0 i).state_unsaturated = rw is_m (item_state net (drop j rows) i w.item m (λ has.
    let y = all_rows net entries valid accepts rows tables keeps runs j h (part_on i Y) (record { wire = l; role = has }) in
    subst (λ (c : Cell ℤ). IsStateNumber c.state_unsaturated) is_m (record { low = y.low; high = y.high }))) in
    record {
      machine_divides = value.machine_divides;
      exact_divides = value.exact_divides;
      value_low = value.low;
      value_high = value.high;
      state_low = state.low;
      state_high = state.high;
    }

-- what a certificate promises of a part is what the part holds
promised_held : (net : NetData) (entries : List Bounds) (part : Part) (m : ℕ → ℕ → Cell ℤ) (e : ℕ → ℕ → Cell Fraction) (role : Role) → part.role ≡ role → IsTrue (is_promised part.role) → IsPartHeld net entries part m e → IsWithin (entry_of net entries part) (held_by part.role (m 0 part.wire.0)) (held_by part.role (e 0 part.wire.0))
promised_held net entries part m e Value is promised held = let h = rw is at held in rw is (h 0 (omega arith))
promised_held net entries part m e Y is promised held = let h = rw is at held in rw is (h 0 (omega arith))
promised_held net entries part m e X1 is promised held = let h = rw is at promised in absurd (false≢true h)
promised_held net entries part m e X2 is promised held = let h = rw is at promised in absurd (false≢true h)
promised_held net entries part m e W is promised held = let h = rw is at promised in absurd (false≢true h)

-- ---- the two runs

-- the computed tables
computed : NetData → List (List ℤ) → Tables
computed net rows = record { in_machine = table machine net rows; exactly = table exact net rows }

all_inputs : (net : NetData) (rows : List (List ℤ)) → Keeps net rows → HasAllInputs net rows
all_inputs net rows keeps j h = (keeps j h).one_each

computed_are_runs : (net : NetData) (rows : List (List ℤ)) → IsValid net → Keeps net rows → AreRuns net rows (computed net rows)
unfolding computed
computed_are_runs net rows valid keeps = record {
  in_machine = table_is_run machine net valid rows (all_inputs net rows keeps);
  exactly = table_is_run exact net valid rows (all_inputs net rows keeps);
}

by_fields : (a a' : List (List (Cell ℤ))) (b b' : List (List (Cell Fraction))) → a ≡ a' → b ≡ b' → ◌≡◌ {A = Tables} (record { in_machine = a; exactly = b }) (record { in_machine = a'; exactly = b' })
by_fields a a' b b' p q = rw (p, q) refl

only_runs : (net : NetData) (rows : List (List ℤ)) (one other : Tables) → IsValid net → AreRuns net rows one → AreRuns net rows other → other ≡ one
only_runs net rows one other valid r s =
    by_fields other.in_machine one.in_machine other.exactly one.exactly (runs_agree machine net valid rows other.in_machine one.in_machine s.in_machine r.in_machine) (runs_agree exact net valid rows other.exactly one.exactly s.exactly r.exactly)

pub certificates_hold : CertificatesHold
certificates_hold net entries valid accepts rows keeps =
    let tables = computed net rows in
    let runs = computed_are_runs net rows valid keeps in
    record {
      tables = tables;
      are_runs = runs;
      are_only = λ others s. only_runs net rows tables others valid runs s;
      fits = λ j i h l. subst (FitsAt net (wire_at net.wires i) (cells_from machine tables.in_machine j) (cells_from exact tables.exactly j)) (ap (λ n. cell_at machine tables.in_machine n i) (no_more j)) (wire_fits net entries valid accepts rows tables keeps runs j i h l);
      within = λ j part h is promised. subst (λ n. IsWithin (entry_of net entries part) (held_by part.role (cell_at machine tables.in_machine n part.wire.0)) (held_by part.role (cell_at exact tables.exactly n part.wire.0))) (no_more j)
          (promised_held net entries part (cells_from machine tables.in_machine j) (cells_from exact tables.exactly j) part.role refl promised (all_rows net entries valid accepts rows tables keeps runs j h part is).held);
    }
