-- What is good in a network stays good in one that goes on from it, with more wires, axes and tables behind its own.
use Rattle.std.proofs.Common.{◌≡◌, ℕ, ◌+◌, ◌<◌, ◌≤◌, Bool, true, false, true≢false, ◌&&◌, ◌==◌, nat_lt, List, [], ◌∷◌, ◌++◌, map, length, get_or, int_le, refl, sym, ap, ap₂, subst, ◌∙◌, ℤ, pos, arith, length-append}
use Rattle.std.proofs.Math.ListN.{get_or-append}
use Rattle.std.proofs.lemmas.Bool.{and_parts, and_from}
use Rattle.std.proofs.lemmas.Bool.Decides.{nat_tests}
use Rattle.text_words.specs.Names.{is_name}
use Rattle.fx_core.specs.declared.word_type.Ty.{Ty}
use Rattle.fx_routines.specs.declared.operation.Types.{Types}
use Rattle.fx_routines.specs.declared.interpolation.CurveOp.{CurveOp}
use Rattle.fx_routines.specs.declared.interpolation.InterpolationOp.TheVariants as interpolation
use Rattle.fx_routines.specs.declared.table.Routine.{Routine}
use Rattle.fx_routines.specs.declared.table.Routine.TheVariants.{Arith as NamedArith, Scaled as NamedScaled, Filter as NamedFilter, Interpolation as NamedInterpolation}
use Rattle.fx_routines.specs.Variants.{same_type, types}
use Rattle.ifx_search.specs.Axes.{AxisData}
use Rattle.ifx_curves.specs.Tables.{TableData}
use Rattle.net_model.specs.declared.wires.WireNo.{WireNo}
use Rattle.net_model.specs.declared.wires.Kind.{Kind}
use Rattle.net_model.specs.declared.wires.Kind.TheVariants.{Num, Truth, Position}
use Rattle.net_model.specs.declared.wires.Item.{Item}
use Rattle.net_model.specs.declared.wires.Item.TheVariants.{Input, Const, Delay, Block as OfBlock}
use Rattle.net_model.specs.declared.wires.Wire.{Wire}
use Rattle.net_model.specs.Wires.{NamedAxis, NamedTable, NetData, no_axis, no_table, axis_at, table_at, last_position, no_wire, wire_at}
use Rattle.net_model.specs.Families.{list_or_zero, signature_of}
use Rattle.net_model.specs.declared.signatures.Sort.{Sort}
use Rattle.net_model.specs.declared.signatures.Sort.TheVariants.{Number}
use Rattle.net_model.specs.declared.signatures.ListSort.TheVariants.{AxisOf, TableOf, TableOver}
use Rattle.net_model.specs.declared.block_forms.Form.{Form}
use Rattle.net_model.specs.BlockForms.{both, form_of, form_in, repeats_first, types_over}
use Rattle.net_model.specs.Validity.{is_of_sort, is_axis_of, is_table_of, is_list, is_position_over, is_kind_there, kind_holds, takes_form, wires_earlier, wires_agree, lists_agree, form_agrees, is_built_item, item_reads_earlier, item_agrees, item_in_range, is_good_wire, is_good_kind, are_good_from}
use Rattle.net_model.proofs.LookUpFacts.{plain_there}
use Rattle.net_model.proofs.ValidityFacts.{agrees_parts}

-- ---- a network that goes on from another one

-- it has its wires, its axes and its tables, and more behind them
pub record GoesOn (net all : NetData) : Type 0 where
  pub more : List Wire
  pub wires : all.wires ≡ net.wires ++ more
  pub more_axes : List NamedAxis
  pub axes : all.axes ≡ net.axes ++ more_axes
  pub more_tables : List NamedTable
  pub tables : all.tables ≡ net.tables ++ more_tables

-- a place within is within more
below_more : {A : Type 0} (xs ys all : List A) (n : ℕ) → all ≡ xs ++ ys → nat_lt n (length xs) ≡ true → nat_lt n (length all) ≡ true
below_more xs ys all n is h =
    let len : length all ≡ length xs + length ys = ap length is ∙ length-append xs ys in grind (arith, nat_tests)

-- an element within is the same
same_within : {A : Type 0} (xs ys all : List A) (d : A) (n : ℕ) → all ≡ xs ++ ys → nat_lt n (length xs) ≡ true → get_or all n d ≡ get_or xs n d
same_within xs ys all d n is h =
    let lt : n < length xs = grind (arith, nat_tests) in ap (λ l. get_or l n d) is ∙ get_or-append xs ys d n lt

-- an earlier wire is the same
same_wire_at : (net all : NetData) (on : GoesOn net all) (i a : ℕ) → nat_lt a i ≡ true → i ≤ length net.wires → wire_at all.wires a ≡ wire_at net.wires a
same_wire_at net all on i a below h =
    let lt : a < length net.wires = grind (arith, nat_tests) in
    ap (λ l. wire_at l a) on.wires ∙ get_or-append net.wires on.more no_wire a lt

-- so is an axis, and a table
same_axis_at : (net all : NetData) (on : GoesOn net all) (n : ℕ) → nat_lt n (length net.axes) ≡ true → axis_at all.axes n ≡ axis_at net.axes n
same_axis_at net all on n h = ap (λ (a : NamedAxis). a.1) (same_within net.axes on.more_axes all.axes no_axis n on.axes h)

same_table_at : (net all : NetData) (on : GoesOn net all) (n : ℕ) → nat_lt n (length net.tables) ≡ true → table_at all.tables n ≡ table_at net.tables n
same_table_at net all on n h = ap (λ (t : NamedTable). t.1) (same_within net.tables on.more_tables all.tables no_table n on.tables h)

-- ---- what a list and a wire are stays

-- an axis of a type, and a table, with their places
record IsSameAxis (net all : NetData) (ty : Ty) (n : ℕ) : Type 0 where
  same : axis_at all.axes n ≡ axis_at net.axes n
  stays : is_axis_of all.axes ty n ≡ true

axis_stays : (net all : NetData) (on : GoesOn net all) (ty : Ty) (n : ℕ) → is_axis_of net.axes ty n ≡ true → IsSameAxis net all ty n
axis_stays net all on ty n h =
    let p = and_parts (nat_lt n (length net.axes)) (same_type ty (axis_at net.axes n).ty) h in
    let same = same_axis_at net all on n p.0 in
    record {
      same = same;
      stays = and_from (nat_lt n (length all.axes)) (same_type ty (axis_at all.axes n).ty) (below_more net.axes on.more_axes all.axes n on.axes p.0) (ap (λ (a : AxisData). same_type ty a.ty) same ∙ p.1);
    }

record IsSameTable (net all : NetData) (ty : Ty) (n : ℕ) : Type 0 where
  same : table_at all.tables n ≡ table_at net.tables n
  stays : is_table_of all.tables ty n ≡ true

table_stays : (net all : NetData) (on : GoesOn net all) (ty : Ty) (n : ℕ) → is_table_of net.tables ty n ≡ true → IsSameTable net all ty n
table_stays net all on ty n h =
    let p = and_parts (nat_lt n (length net.tables)) (same_type ty (table_at net.tables n).ty) h in
    let same = same_table_at net all on n p.0 in
    record {
      same = same;
      stays = and_from (nat_lt n (length all.tables)) (same_type ty (table_at all.tables n).ty) (below_more net.tables on.more_tables all.tables n on.tables p.0) (ap (λ (t : TableData). same_type ty t.ty) same ∙ p.1);
    }

-- a position on an axis of so many points
position_stays : (net all : NetData) (on : GoesOn net all) (points : ℕ) (kind : Kind) → is_position_over net.axes points kind ≡ true → is_position_over all.axes points kind ≡ true
position_stays net all on points (Num ty point) h = h
position_stays net all on points Truth h = h
position_stays net all on points (Position a) h =
    let p = and_parts (nat_lt a (length net.axes)) (length (axis_at net.axes a).points == points) h in
    and_from (nat_lt a (length all.axes)) (length (axis_at all.axes a).points == points) (below_more net.axes on.more_axes all.axes a on.axes p.0) (ap (λ (d : AxisData). length d.points == points) (same_axis_at net all on a p.0) ∙ p.1)

-- a wire of a sort stays one
SortStays : NetData → NetData → List ℕ → Sort → Type 0
SortStays net all lists sort = (kind : Kind) → is_of_sort net lists sort kind ≡ true → is_of_sort all lists sort kind ≡ true

SortsStay : NetData → NetData → List ℕ → List Sort → Type 0
SortsStay net all lists [] = Unit {0}
SortsStay net all lists (sort ∷ sorts) = SortStays net all lists sort × SortsStay net all lists sorts

numbers_stay : (net all : NetData) (lists : List ℕ) (types : List Ty) → SortsStay net all lists (map Number types)
unfolding SortStays SortsStay
numbers_stay net all lists [] = tt
numbers_stay net all lists (ty ∷ types) = ((λ kind h. h), numbers_stay net all lists types)

wires_stay : (net all : NetData) (on : GoesOn net all) (i : ℕ) (lists : List ℕ) (sorts : List Sort) (wires : List WireNo) → SortsStay net all lists sorts → wires_earlier i wires ≡ true → i ≤ length net.wires → wires_agree net lists sorts wires ≡ true → wires_agree all lists sorts wires ≡ true
unfolding SortStays SortsStay
wires_stay net all on i lists [] [] stay below h agree = refl
wires_stay net all on i lists [] (w ∷ wires) stay below h agree = agree
wires_stay net all on i lists (s ∷ sorts) [] stay below h agree = agree
wires_stay net all on i lists (s ∷ sorts) (w ∷ wires) stay below h agree =
    let parts = and_parts (nat_lt w.0 i) (wires_earlier i wires) below in
    let both = and_parts (is_of_sort net lists s (wire_at net.wires w.0).kind) (wires_agree net lists sorts wires) agree in
    and_from (is_of_sort all lists s (wire_at all.wires w.0).kind) (wires_agree all lists sorts wires)
    (ap (λ (v : Wire). is_of_sort all lists s v.kind) (same_wire_at net all on i w.0 parts.0 h) ∙ stay.0 (wire_at net.wires w.0).kind both.0)
    (wires_stay net all on i lists sorts wires stay.1 parts.1 h both.1)

-- ---- what a form agrees with stays

-- what is said of a routine's lists in a network, which is said in one that goes on from it
record RoutineStays (net all : NetData) (routine : Routine) (v : Types) (ns : List ℕ) : Type 0 where
  types : types_over all.axes all.tables routine v ns ≡ types_over net.axes net.tables routine v ns
  lists : lists_agree all ns (signature_of routine (types_over net.axes net.tables routine v ns)).lists ns ≡ true
  sorts : SortsStay net all ns (signature_of routine (types_over net.axes net.tables routine v ns)).sorts
  gives : SortStays net all ns (signature_of routine (types_over net.axes net.tables routine v ns)).gives

-- where a routine has no lists, it is given none
no_lists : {A : Type 0} (p q : A → ℕ → Bool) (lists : List ℕ) → both p [] lists ≡ true → both q [] lists ≡ true
no_lists p q [] h = refl
no_lists p q (n ∷ lists) h = h

-- one list, and two
one_list : {A : Type 0} (p : A → ℕ → Bool) (a : A) (lists : List ℕ) → both p (a ∷ []) lists ≡ true → (n : ℕ) × (lists ≡ n ∷ []) × (p a n ≡ true)
one_list p a [] h = absurd (true≢false (sym h))
one_list p a (n ∷ []) h = (n, refl, (and_parts (p a n) true h).0)
one_list p a (n ∷ m ∷ lists) h = absurd (true≢false (sym (and_parts (p a n) false h).1))

two_lists : {A : Type 0} (p : A → ℕ → Bool) (a b : A) (lists : List ℕ) → both p (a ∷ b ∷ []) lists ≡ true → (n : ℕ) × (m : ℕ) × (lists ≡ n ∷ m ∷ []) × (p a n ≡ true) × (p b m ≡ true)
two_lists p a b [] h = absurd (true≢false (sym h))
two_lists p a b (n ∷ []) h = absurd (true≢false (sym (and_parts (p a n) false h).1))
two_lists p a b (n ∷ m ∷ []) h =
    let q = and_parts (p a n) (p b m && true) h in (n, m, refl, q.0, (and_parts (p b m) true q.1).0)
two_lists p a b (n ∷ m ∷ k ∷ lists) h =
    let q = and_parts (p a n) (p b m && false) h in absurd (true≢false (sym (and_parts (p b m) false q.1).1))

search_stays : (net all : NetData) (on : GoesOn net all) (v : Types) (lists : List ℕ) → lists_agree net lists (AxisOf v.x ∷ []) lists ≡ true → RoutineStays net all (NamedInterpolation interpolation.Search) v lists
unfolding signature_of SortStays SortsStay
search_stays net all on v lists h =
    let one = one_list (is_list net lists) (AxisOf v.x) lists h in
    let stays = axis_stays net all on v.x one.0 one.2 in
    record {
      types = refl;
      lists = subst (λ ls. lists_agree all ls (AxisOf v.x ∷ []) ls ≡ true) (sym one.1) (and_from (is_axis_of all.axes v.x one.0) true stays.stays refl);
      sorts = ((λ kind e. e), tt);
      gives = λ kind e. e;
    }

curve_stays : (net all : NetData) (on : GoesOn net all) (op : CurveOp) (v : Types) (n : ℕ) → is_table_of net.tables (table_at net.tables n).ty n ≡ true → RoutineStays net all (NamedInterpolation (interpolation.Curve op)) v (n ∷ [])
unfolding signature_of SortStays SortsStay
curve_stays net all on op v n h =
    let stays = table_stays net all on (table_at net.tables n).ty n h in
    record {
      types = ap (λ (t : TableData). let o : Ty = t.ty in types o o o) stays.same;
      lists = and_from (is_table_of all.tables (table_at net.tables n).ty n) true stays.stays refl;
      sorts = ((λ kind e. ap (λ (t : TableData). is_position_over all.axes (length t.values) kind) stays.same ∙ position_stays net all on (length (table_at net.tables n).values) kind e), tt);
      gives = λ kind e. e;
    }

int_curve_stays : (net all : NetData) (on : GoesOn net all) (op : CurveOp) (v : Types) (n m : ℕ) → is_axis_of net.axes (axis_at net.axes n).ty n ≡ true → is_list net (n ∷ m ∷ []) (TableOver (table_at net.tables m).ty 0) m ≡ true → RoutineStays net all (NamedInterpolation (interpolation.IntCurve op)) v (n ∷ m ∷ [])
unfolding signature_of SortStays SortsStay
int_curve_stays net all on op v n m h k =
    let x : Ty = (axis_at net.axes n).ty in
    let o : Ty = (table_at net.tables m).ty in
    let p = and_parts (is_table_of net.tables o m) (length (axis_at net.axes n).points == length (table_at net.tables m).values) k in
    let axis = axis_stays net all on x n h in
    let table = table_stays net all on o m p.0 in
    record {
      types = ap₂ (λ (a : AxisData) (t : TableData). let x : Ty = a.ty in types x x t.ty) axis.same table.same;
      lists = and_from (is_axis_of all.axes x n) (is_list all (n ∷ m ∷ []) (TableOver o 0) m && true) axis.stays
          (and_from (is_list all (n ∷ m ∷ []) (TableOver o 0) m) true
          (and_from (is_table_of all.tables o m) (length (axis_at all.axes n).points == length (table_at all.tables m).values) table.stays
          (ap₂ (λ (a : AxisData) (t : TableData). length a.points == length t.values) axis.same table.same ∙ p.1)) refl);
      sorts = ((λ kind e. e), tt);
      gives = λ kind e. e;
    }

routine_stays : (net all : NetData) (on : GoesOn net all) (routine : Routine) (v : Types) (lists : List ℕ) → lists_agree net lists (signature_of routine (types_over net.axes net.tables routine v lists)).lists lists ≡ true → RoutineStays net all routine v lists
unfolding signature_of SortStays SortsStay
routine_stays net all on (NamedArith op) v lists h = record {
  types = refl;
  lists = no_lists (is_list net lists) (is_list all lists) lists h;
  sorts = numbers_stay net all lists _;
  gives = λ kind e. e;
}
routine_stays net all on (NamedScaled op) v lists h = record {
  types = refl;
  lists = no_lists (is_list net lists) (is_list all lists) lists h;
  sorts = numbers_stay net all lists _;
  gives = λ kind e. e;
}
routine_stays net all on (NamedFilter op) v lists h = record {
  types = refl;
  lists = no_lists (is_list net lists) (is_list all lists) lists h;
  sorts = ((λ kind e. e), tt);
  gives = λ kind e. e;
}
routine_stays net all on (NamedInterpolation interpolation.Search) v lists h = search_stays net all on v lists h
routine_stays net all on (NamedInterpolation (interpolation.Curve op)) v lists h =
    let o : Ty = (table_at net.tables (list_or_zero lists 0)).ty in
    let one = one_list (is_list net lists) (TableOf o) lists h in
    let first : list_or_zero lists 0 ≡ one.0 = ap (λ ls. list_or_zero ls 0) one.1 in
    subst (λ ls. RoutineStays net all (NamedInterpolation (interpolation.Curve op)) v ls) (sym one.1)
    (curve_stays net all on op v one.0 (subst (λ k. is_table_of net.tables (table_at net.tables k).ty one.0 ≡ true) first one.2))
routine_stays net all on (NamedInterpolation (interpolation.IntCurve op)) v lists h =
    let x : Ty = (axis_at net.axes (list_or_zero lists 0)).ty in
    let o : Ty = (table_at net.tables (list_or_zero lists 1)).ty in
    let two = two_lists (is_list net lists) (AxisOf x) (TableOver o 0) lists h in
    let n = two.0 in
    let m = two.1 in
    let first : list_or_zero lists 0 ≡ n = ap (λ ls. list_or_zero ls 0) two.2 in
    let second : list_or_zero lists 1 ≡ m = ap (λ ls. list_or_zero ls 1) two.2 in
    subst (λ ls. RoutineStays net all (NamedInterpolation (interpolation.IntCurve op)) v ls) (sym two.2)
    (int_curve_stays net all on op v n m (subst (λ k. is_axis_of net.axes (axis_at net.axes k).ty n ≡ true) first two.3)
    (subst (λ ls. is_list net ls (TableOver (table_at net.tables m).ty 0) m ≡ true) two.2 (subst (λ k. is_list net lists (TableOver (table_at net.tables k).ty 0) m ≡ true) second two.4)))
routine_stays net all on other v lists h = record {
  types = refl;
  lists = no_lists (is_list net lists) (is_list all lists) lists h;
  sorts = tt;
  gives = λ kind e. e;
}

abbrev formed : Routine → Types → List WireNo → List ℕ → List ℤ → Form
formed routine types wires lists numbers = record { routine = routine; types = types; wires = wires; lists = lists; numbers = numbers }

-- the form of a block that agrees does so still
form_stays : (net all : NetData) (on : GoesOn net all) (i : ℕ) (kind : Kind) (form : Form) → wires_earlier i form.wires ≡ true → i ≤ length net.wires
    → form_agrees net kind (formed form.routine (types_over net.axes net.tables form.routine form.types form.lists) form.wires form.lists form.numbers) ≡ true
    → form_agrees all kind (formed form.routine (types_over all.axes all.tables form.routine form.types form.lists) form.wires form.lists form.numbers) ≡ true
unfolding SortStays
form_stays net all on i kind form below h agree =
    let v = types_over net.axes net.tables form.routine form.types form.lists in
    let typed = formed form.routine v form.wires form.lists form.numbers in
    let sig = signature_of form.routine v in
    let parts = agrees_parts net kind typed agree in
    let stays = routine_stays net all on form.routine form.types form.lists parts.lists in
    subst (λ t. form_agrees all kind (formed form.routine t form.wires form.lists form.numbers) ≡ true) (sym stays.types)
    (and_from (takes_form typed && lists_agree all form.lists sig.lists form.lists && wires_agree all form.lists sig.sorts form.wires) (is_of_sort all form.lists sig.gives kind)
    (and_from (takes_form typed && lists_agree all form.lists sig.lists form.lists) (wires_agree all form.lists sig.sorts form.wires)
    (and_from (takes_form typed) (lists_agree all form.lists sig.lists form.lists) parts.taken stays.lists)
    (wires_stay net all on i form.lists sig.sorts form.wires stays.sorts below h parts.wires))
    (stays.gives kind parts.gives))

-- ---- a good wire stays good

there_stays : (net all : NetData) (on : GoesOn net all) (kind : Kind) → is_kind_there net.axes kind ≡ true → is_kind_there all.axes kind ≡ true
there_stays net all on (Num ty point) h = refl
there_stays net all on Truth h = refl
there_stays net all on (Position a) h = below_more net.axes on.more_axes all.axes a on.axes h

item_agrees-stays : (net all : NetData) (on : GoesOn net all) (i : ℕ) (kind : Kind) (item : Item) → item_reads_earlier i item ≡ true → i ≤ length net.wires → item_agrees net kind item ≡ true → item_agrees all kind item ≡ true
item_agrees-stays net all on i kind (Input lo hi) below h agree = agree
item_agrees-stays net all on i kind (Const value) below h agree = agree
item_agrees-stays net all on i kind (Delay init source) below h agree = there_stays net all on kind agree
item_agrees-stays net all on i kind (OfBlock b) below h agree =
    let p = and_parts (form_agrees net kind (form_in net b)) (repeats_first b) agree in
    and_from (form_agrees all kind (form_in all b)) (repeats_first b) (form_stays net all on i kind (form_of b) below h p.0) p.1

-- a kind that is there holds what it held
kind_holds-stays : (net all : NetData) (on : GoesOn net all) (kind : Kind) (v : ℤ) → is_kind_there net.axes kind ≡ true → kind_holds all.axes kind v ≡ kind_holds net.axes kind v
kind_holds-stays net all on (Num ty point) v h = refl
kind_holds-stays net all on Truth v h = refl
kind_holds-stays net all on (Position a) v h =
    ap (λ (d : AxisData). int_le (pos 0) v && int_le v (pos (last_position d))) (same_axis_at net all on a h)

range_stays : (net all : NetData) (on : GoesOn net all) (kind : Kind) (item : Item) → item_agrees net kind item ≡ true → item_in_range all.axes kind item ≡ item_in_range net.axes kind item
range_stays net all on kind (Input lo hi) agree =
    let there = plain_there net.axes kind agree in
    ap₂ (λ a b. a && b && int_le lo hi) (kind_holds-stays net all on kind lo there) (kind_holds-stays net all on kind hi there)
range_stays net all on kind (Const value) agree = kind_holds-stays net all on kind value (plain_there net.axes kind agree)
range_stays net all on kind (Delay init source) agree = kind_holds-stays net all on kind init agree
range_stays net all on kind (OfBlock b) agree = refl

pub is_good_wire-stays : (net all : NetData) (on : GoesOn net all) (i : ℕ) (w : Wire) → i ≤ length net.wires → is_good_wire net i w ≡ true → is_good_wire all i w ≡ true
is_good_wire-stays net all on i w h good =
    let named = is_name w.name in
    let built = is_built_item w.item in
    let earlier = item_reads_earlier i w.item in
    let agree = item_agrees net w.kind w.item in
    let kind = is_good_kind w.kind in
    let p5 = and_parts (named && built && earlier && agree && kind) (item_in_range net.axes w.kind w.item) good in
    let p4 = and_parts (named && built && earlier && agree) kind p5.0 in
    let p3 = and_parts (named && built && earlier) agree p4.0 in
    let p2 = and_parts (named && built) earlier p3.0 in
    and_from (named && built && earlier && item_agrees all w.kind w.item && kind) (item_in_range all.axes w.kind w.item)
    (and_from (named && built && earlier && item_agrees all w.kind w.item) kind
    (and_from (named && built && earlier) (item_agrees all w.kind w.item) p3.0 (item_agrees-stays net all on i w.kind w.item p2.1 h p3.1)) p4.1)
    (range_stays net all on w.kind w.item p3.1 ∙ p5.1)

-- all wires stay good
pub are_good_from-stay : (net all : NetData) (on : GoesOn net all) (i : ℕ) (ws : List Wire) → i + length ws ≤ length net.wires → are_good_from net i ws ≡ true → are_good_from all i ws ≡ true
are_good_from-stay net all on i [] h good = refl
are_good_from-stay net all on i (w ∷ ws) h good =
    let p = and_parts (is_good_wire net i w) (are_good_from net (i + 1) ws) good in
    and_from (is_good_wire all i w) (are_good_from all (i + 1) ws) (is_good_wire-stays net all on i w (omega arith) p.0) (are_good_from-stay net all on (i + 1) ws (omega arith) p.1)
