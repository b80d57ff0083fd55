-- What a valid network keeps.
use Rattle.std.proofs.Common.{◌≡◌, ℕ, zero, suc, ◌+◌, ◌<◌, ◌≤◌, Bool, true, false, ◌&&◌, not, bytes_eq, List, [], ◌∷◌, ◌++◌, map, length, take, drop, get_or, ◌==◌, ℤ, pos, negsuc, ◌≤ℤ◌, nat_lt, nat_le, int_le, refl, sym, ap, ap₂, subst, arith, true≢false, ltb-true, leb-true, eqb-true}
use Rattle.std.specs.Prelude.{Option, Some, None, slice_get}
use Rattle.std.specs.List.{list_any, list_all}
use Rattle.std.proofs.lemmas.Bool.{and_parts}
use Rattle.std.proofs.lemmas.Int.{ints}
use Rattle.text_words.specs.Names.{is_name}
use denote.Enum.Bare.{same_true}
use Rattle.fx_core.specs.contracts.word_type.Ty.{the_type}
use Rattle.fx_core.specs.declared.word_type.Ty.{Ty}
use Rattle.fx_routines.specs.declared.operation.ArithOp.{ArithOp}
use Rattle.fx_routines.specs.declared.operation.Variant.{Variant}
use Rattle.fx_routines.specs.declared.table.Routine.TheVariants as routine
use Rattle.mfx_arith.specs.Operations.{Takes, argument_types}
use Rattle.mfx_arith.proofs.TypesTaken.{taken}
use Rattle.fx_routines.specs.declared.operation.ScaledOp.{ScaledOp}
use Rattle.net_model.specs.declared.wires.WireNo.{WireNo}
use Rattle.net_model.specs.declared.wires.Kind.{Kind}
use Rattle.net_model.specs.declared.wires.Kind.TheVariants.{Num, Truth, Position}
use Rattle.net_model.specs.declared.wires.Block.{Block}
use Rattle.net_model.specs.declared.wires.Block.TheVariants.{Arith, Scaled, Gain, Average, Pt1, Dt1}
use Rattle.net_model.specs.declared.wires.Item.{Item}
use Rattle.net_model.specs.declared.wires.Item.TheVariants.{Input, Const, Delay, Block as OfBlock}
use Rattle.net_model.specs.declared.wires.Wire.{Wire}
use Rattle.net_model.specs.Wires.{NamedAxis, NetData, wire_at, no_wire, kind_least, kind_greatest, point_of, argument_of, is_input, window_sum}
use Rattle.net_model.specs.declared.block_forms.Form.{Form}
use Rattle.net_model.specs.declared.signatures.Sort.TheVariants.{Number}
use Rattle.fx_routines.specs.Variants.{same_type}
use Rattle.net_model.specs.Families.{is_built, signature_of, held_by, first_of, gains, weights, counts_of_rows}
use Rattle.net_model.specs.BlockForms.{in_range, in_ranges, form_of, form_in, signature_in, repeats_first, adds_no_number}
use Rattle.net_model.proofs.FamilyFacts.{is_shift, shift_of_ranges, reads_some}
use Rattle.net_model.proofs.SideBySide.{same_lengths}
use Rattle.mfx_scaled.specs.Operations.{argument_types as scaled_types}
use Rattle.net_model.specs.Validity.{is_good_kind, kind_holds, is_number_of, is_of_sort, takes_form, wires_earlier, wires_agree, form_agrees, lists_agree, numbers_fit, is_plain, is_kind_there, list_names, wire_names, is_built_item, item_reads_earlier, item_agrees, item_in_range, same_kind, item_is_sourced, is_sourced, is_good_wire, are_good_from, are_distinct, are_distinct_outs, is_valid, IsValid}

-- the conditions, one by one
pub record Conditions (net : NetData) : Type 0 where
  pub few : nat_le (length net.wires) 512 ≡ true
  pub few_rows : nat_le (window_sum net.wires) 65536 ≡ true
  pub few_axes : nat_le (length net.axes) 64 ≡ true
  pub few_tables : nat_le (length net.tables) 64 ≡ true
  pub distinct_names : are_distinct (list_names net ++ wire_names net.wires) ≡ true
  pub distinct : are_distinct (map (λ w. w.name) net.wires) ≡ true
  pub good : are_good_from net 0 net.wires ≡ true
  pub sourced : list_all (is_sourced net.wires) net.wires ≡ true
  pub outs_there : list_all (λ o. nat_lt o.0 (length net.wires)) net.outs ≡ true
  pub outs_distinct : are_distinct_outs net.outs ≡ true
  pub has_input : list_any (λ w. is_input w.item) net.wires ≡ true
  pub has_output : nat_lt 0 (length net.outs) ≡ true

-- ten tests that are passed together are passed one by one
and_parts_of_ten : (a b c d e f g h i j : Bool) → (a && b && c && d && e && f && g && h && i && j) ≡ true
    → (a ≡ true) × (b ≡ true) × (c ≡ true) × (d ≡ true) × (e ≡ true) × (f ≡ true) × (g ≡ true) × (h ≡ true) × (i ≡ true) × (j ≡ true)
and_parts_of_ten a b c d e f g h i j all =
    let h1 = and_parts _ _ all in
    let h2 = and_parts _ _ h1.0 in
    let h3 = and_parts _ _ h2.0 in
    let h4 = and_parts _ _ h3.0 in
    let h5 = and_parts _ _ h4.0 in
    let h6 = and_parts _ _ h5.0 in
    let h7 = and_parts _ _ h6.0 in
    let h8 = and_parts _ _ h7.0 in
    let h9 = and_parts _ _ h8.0 in
    (h9.0, h9.1, h8.1, h7.1, h6.1, h5.1, h4.1, h3.1, h2.1, h1.1)

-- names that are distinct together are so in their second part
distinct_behind : (xs ys : List (List ℕ)) → are_distinct (xs ++ ys) ≡ true → are_distinct ys ≡ true
distinct_behind [] ys h = h
distinct_behind (x ∷ xs) ys h = distinct_behind xs ys (and_parts (not (list_any (bytes_eq x) (xs ++ ys))) (are_distinct (xs ++ ys)) h).1

pub conditions : (net : NetData) → IsValid net → Conditions net
unfolding is_valid
conditions net h =
    let p = and_parts_of_ten _ _ _ _ _ _ _ _ _ _ h.tests in
    let ends = and_parts (list_any (λ w. is_input w.item) net.wires) (nat_lt 0 (length net.outs)) p.9 in
    record {
      few = p.0;
      few_rows = p.1;
      few_axes = p.2;
      few_tables = p.3;
      distinct_names = p.4;
      distinct = distinct_behind (list_names net) (wire_names net.wires) p.4;
      good = p.5;
      sourced = p.6;
      outs_there = p.7;
      outs_distinct = p.8;
      has_input = ends.0;
      has_output = ends.1;
    }

-- a valid network has at most 512 wires
pub length-valid : (net : NetData) → IsValid net → length net.wires ≤ 512
length-valid net h = leb-true _ _ (conditions net h).few

-- the averages of a valid network go over at most 65536 rows together
pub rows-valid : (net : NetData) → IsValid net → window_sum net.wires ≤ 65536
rows-valid net h = leb-true _ _ (conditions net h).few_rows

-- each wire is good in its place
good_from : (net : NetData) (rest : List Wire) (i k : ℕ) → are_good_from net i rest ≡ true → k < length rest → is_good_wire net (i + k) (get_or rest k no_wire) ≡ true
good_from net [] i k h lt = absurd (omega arith)
good_from net (w ∷ rest) i zero h lt = let e : i + 0 ≡ i = omega arith in rw e ((and_parts _ _ h).0)
good_from net (w ∷ rest) i (suc k) h lt =
    let e : i + suc k ≡ (i + 1) + k = omega arith in
    let shorter : k < length rest = omega arith in
    rw e (good_from net rest (i + 1) k ((and_parts _ _ h).1) shorter)

pub good_wire-valid : (net : NetData) (i : ℕ) → IsValid net → i < length net.wires → is_good_wire net i (wire_at net.wires i) ≡ true
good_wire-valid net i h lt = let e : 0 + i ≡ i = omega arith in rw e at (good_from net net.wires 0 i ((conditions net h).good) lt)

-- a good wire, test by test
pub record IsGoodWire (net : NetData) (i : ℕ) (name : List ℕ) (kind : Kind) (item : Item) : Type 0 where
  pub named : is_name name ≡ true
  pub built : is_built_item item ≡ true
  pub earlier : item_reads_earlier i item ≡ true
  pub agreed : item_agrees net kind item ≡ true
  pub good_kind : is_good_kind kind ≡ true
  pub in_range : item_in_range net.axes kind item ≡ true

good_wire : (net : NetData) (i : ℕ) (w : Wire) → is_good_wire net i w ≡ true → IsGoodWire net i w.name w.kind w.item
good_wire net i w h =
    let h1 = and_parts _ _ h in
    let h2 = and_parts _ _ h1.0 in
    let h3 = and_parts _ _ h2.0 in
    let h4 = and_parts _ _ h3.0 in
    let h5 = and_parts _ _ h4.0 in
    record { named = h5.0; built = h5.1; earlier = h4.1; agreed = h3.1; good_kind = h2.1; in_range = h1.1 }

pub name_of_good : (net : NetData) (i : ℕ) (w : Wire) → is_good_wire net i w ≡ true → is_name w.name ≡ true
name_of_good net i w h = (good_wire net i w h).named

-- what is known of a wire whose item is known
pub good_item-valid : (net : NetData) (i : ℕ) (item : Item) → IsValid net → i < length net.wires → (wire_at net.wires i).item ≡ item → IsGoodWire net i (wire_at net.wires i).name (wire_at net.wires i).kind item
good_item-valid net i item h lt e =
    subst (λ (t : Item). IsGoodWire net i (wire_at net.wires i).name (wire_at net.wires i).kind t) e (good_wire net i (wire_at net.wires i) (good_wire-valid net i h lt))

-- binary points are at most 15
point_of-good : (kind : Kind) → is_good_kind kind ≡ true → point_of kind ≤ 15
point_of-good (Num ty point) h = leb-true _ _ h
point_of-good Truth h = omega arith
point_of-good (Position axis) h = omega arith

pub point_of-valid : (net : NetData) (i : ℕ) → IsValid net → i < length net.wires → point_of (wire_at net.wires i).kind ≤ 15
point_of-valid net i h lt =
    point_of-good (wire_at net.wires i).kind (good_wire net i (wire_at net.wires i) (good_wire-valid net i h lt)).good_kind

-- a test of two whole numbers
le_from_test : (a b : ℤ) → int_le a b ≡ true → a ≤ℤ b
le_from_test a b h = grind (arith, ints)

-- a value lies in its kind
pub record IsInKind (axes : List NamedAxis) (kind : Kind) (v : ℤ) : Type 0 where
  pub low : kind_least axes kind ≤ℤ v
  pub high : v ≤ℤ kind_greatest axes kind

pub in_kind : (axes : List NamedAxis) (kind : Kind) (v : ℤ) → kind_holds axes kind v ≡ true → IsInKind axes kind v
in_kind axes kind v h =
    let p = and_parts _ _ h in
    record { low = le_from_test _ _ p.0; high = le_from_test _ _ p.1 }

-- a declared range isn't empty and lies in the kind
pub record IsGoodRange (axes : List NamedAxis) (kind : Kind) (lo hi : ℤ) : Type 0 where
  pub low : kind_least axes kind ≤ℤ lo
  pub ordered : lo ≤ℤ hi
  pub high : hi ≤ℤ kind_greatest axes kind

pub input-valid : (net : NetData) (i : ℕ) (lo hi : ℤ) → IsValid net → i < length net.wires → (wire_at net.wires i).item ≡ Input lo hi → IsGoodRange net.axes (wire_at net.wires i).kind lo hi
input-valid net i lo hi h lt e =
    let p = and_parts _ _ (good_item-valid net i (Input lo hi) h lt e).in_range in
    let q = and_parts _ _ p.0 in
    record { low = (in_kind _ _ _ q.0).low; ordered = le_from_test _ _ p.1; high = (in_kind _ _ _ q.1).high }

-- an input and a constant are plain
pub input-plain : (net : NetData) (i : ℕ) (lo hi : ℤ) → IsValid net → i < length net.wires → (wire_at net.wires i).item ≡ Input lo hi → is_plain (wire_at net.wires i).kind ≡ true
input-plain net i lo hi h lt e = (good_item-valid net i (Input lo hi) h lt e).agreed

-- a constant lies in its kind
pub const-valid : (net : NetData) (i : ℕ) (value : ℤ) → IsValid net → i < length net.wires → (wire_at net.wires i).item ≡ Const value → IsInKind net.axes (wire_at net.wires i).kind value
const-valid net i value h lt e = in_kind _ _ _ (good_item-valid net i (Const value) h lt e).in_range

-- ---- delays

-- a delay's source is a wire of the delay's very kind, which holds its first value
pub record IsGoodDelay (net : NetData) (kind : Kind) (init : ℤ) (source : WireNo) : Type 0 where
  pub there : source.0 < length net.wires
  pub same : (wire_at net.wires source.0).kind ≡ kind
  pub holds : kind_holds net.axes kind init ≡ true
  pub axis_there : is_kind_there net.axes kind ≡ true

sourced_at : (all wires : List Wire) (k : ℕ) → list_all (is_sourced all) wires ≡ true → k < length wires → is_sourced all (get_or wires k no_wire) ≡ true
sourced_at all [] k h lt = absurd (omega arith)
sourced_at all (w ∷ wires) zero h lt = (and_parts (is_sourced all w) (list_all (is_sourced all) wires) h).0
sourced_at all (w ∷ wires) (suc k) h lt = sourced_at all wires k (and_parts (is_sourced all w) (list_all (is_sourced all) wires) h).1 (omega arith)

-- two kinds that are the same by the test are
pub same_kind-true : (a b : Kind) → same_kind a b ≡ true → b ≡ a
same_kind-true (Num t p) (Num u q) h =
    let both = and_parts (same_type t u) (p == q) h in
    ap₂ Num (sym (same_true the_type tt t u both.0)) (sym (eqb-true p q both.1))
same_kind-true Truth Truth h = refl
same_kind-true (Position a) (Position b) h = ap Position (sym (eqb-true a b h))
same_kind-true one other h = absurd (true≢false (sym h))

pub delay-valid : (net : NetData) (i : ℕ) (init : ℤ) (source : WireNo) → IsValid net → i < length net.wires → (wire_at net.wires i).item ≡ Delay init source → IsGoodDelay net (wire_at net.wires i).kind init source
delay-valid net i init source h lt e =
    let w = wire_at net.wires i in
    let sourced : item_is_sourced net.wires w.kind (Delay init source) ≡ true = subst (λ (t : Item). item_is_sourced net.wires w.kind t ≡ true) e (sourced_at net.wires net.wires i (conditions net h).sourced lt) in
    let both = and_parts (nat_lt source.0 (length net.wires)) (same_kind w.kind (wire_at net.wires source.0).kind) sourced in
    let good = good_item-valid net i (Delay init source) h lt e in
    record { there = ltb-true _ _ both.0; same = same_kind-true w.kind (wire_at net.wires source.0).kind both.1; holds = good.in_range; axis_there = good.agreed }

-- ---- kinds and arguments

-- a wire of a type is a number wire
pub number_kind : (ty : Ty) (kind : Kind) → is_number_of ty kind ≡ true → (point : ℕ) × (kind ≡ Num ty point)
number_kind ty (Num t point) h = (point, ap (λ u. Num u point) (sym (same_true the_type tt ty t h)))
number_kind ty Truth h = absurd (true≢false (sym h))
number_kind ty (Position axis) h = absurd (true≢false (sym h))

-- an argument is an earlier wire of its type
pub record IsArgument (net : NetData) (i : ℕ) (ty : Ty) (a : WireNo) : Type 0 where
  pub earlier : a.0 < i
  pub number : is_number_of ty (wire_at net.wires a.0).kind ≡ true

-- an argument is of its type; one that the routine doesn't have repeats the first
abbrev pub IsGoodArgument : NetData → ℕ → WireNo → Option Ty → WireNo → Type 0
IsGoodArgument net i first (Some ty) a = IsArgument net i ty a
IsGoodArgument net i first None a = a.0 ≡ first.0

-- ---- a block, by its form

-- what the tests say of a block
pub record IsGoodBlock (net : NetData) (i : ℕ) (kind : Kind) (b : Block) : Type 0 where
  pub built : is_built (form_of b).routine ≡ true
  pub taken : takes_form (form_in net b) ≡ true
  pub earlier : wires_earlier i (form_of b).wires ≡ true
  pub lists : lists_agree net (form_of b).lists (signature_in (form_in net b)).lists (form_of b).lists ≡ true
  pub agree : wires_agree net (form_of b).lists (signature_in (form_in net b)).sorts (form_of b).wires ≡ true
  pub gives : is_of_sort net (form_of b).lists (signature_in (form_in net b)).gives kind ≡ true
  pub repeats : repeats_first b ≡ true
  pub fits : numbers_fit (form_of b) ≡ true
  pub adds : adds_no_number b ≡ true

-- what the test of a form says
pub record AgreesForm (net : NetData) (kind : Kind) (form : Form) : Type 0 where
  pub taken : takes_form form ≡ true
  pub lists : lists_agree net form.lists (signature_in form).lists form.lists ≡ true
  pub wires : wires_agree net form.lists (signature_in form).sorts form.wires ≡ true
  pub gives : is_of_sort net form.lists (signature_in form).gives kind ≡ true

pub agrees_parts : (net : NetData) (kind : Kind) (form : Form) → form_agrees net kind form ≡ true → AgreesForm net kind form
agrees_parts net kind form h =
    let lists = lists_agree net form.lists (signature_in form).lists form.lists in
    let wires = wires_agree net form.lists (signature_in form).sorts form.wires in
    let outer = and_parts (takes_form form && lists && wires) (is_of_sort net form.lists (signature_in form).gives kind) h in
    let inner = and_parts (takes_form form && lists) wires outer.0 in
    let most = and_parts (takes_form form) lists inner.0 in
    record { taken = most.0; lists = most.1; wires = inner.1; gives = outer.1 }

pub good_block : (net : NetData) (i : ℕ) (name : List ℕ) (kind : Kind) (b : Block) → IsGoodWire net i name kind (OfBlock b) → IsGoodBlock net i kind b
good_block net i name kind b h =
    let agreed = and_parts (form_agrees net kind (form_in net b)) (repeats_first b) h.agreed in
    let parts = agrees_parts net kind (form_in net b) agreed.0 in
    let numbers = and_parts (numbers_fit (form_of b)) (adds_no_number b) h.in_range in
    record { built = h.built; taken = parts.taken; earlier = h.earlier; lists = parts.lists; agree = parts.wires; gives = parts.gives; repeats = agreed.1; fits = numbers.0; adds = numbers.1 }

pub block-valid : (net : NetData) (i : ℕ) (b : Block) → IsValid net → i < length net.wires → (wire_at net.wires i).item ≡ OfBlock b → IsGoodBlock net i (wire_at net.wires i).kind b
block-valid net i b h lt e = good_block net i (wire_at net.wires i).name (wire_at net.wires i).kind b (good_item-valid net i (OfBlock b) h lt e)

-- ---- its arguments

first_below : (i : ℕ) (wires : List WireNo) → 1 ≤ length wires → wires_earlier i wires ≡ true → (first_of wires).0 < i
first_below i [] some h = absurd (omega arith)
first_below i (w ∷ wires) some h = ltb-true w.0 i (and_parts (nat_lt w.0 i) (wires_earlier i wires) h).0

first_taken : (n : ℕ) (wires : List WireNo) → 1 ≤ n → first_of (take n wires) ≡ first_of wires
first_taken zero wires some = absurd (omega arith)
first_taken (suc n) [] some = refl
first_taken (suc n) (w ∷ wires) some = refl

below_along : (a b i : ℕ) → a ≡ b → b < i → a < i
below_along a b i e h = omega arith

-- where the first of some wires are below a number, and the rest is one that is, so is what stands at any place
below_at : (i : ℕ) (first d : WireNo) (wires : List WireNo) (n p : ℕ) → first.0 < i → d.0 < i → wires_earlier i (take n wires) ≡ true → list_all (λ w. w.0 == first.0) (drop n wires) ≡ true → (get_or wires p d).0 < i
below_at i first d [] n zero below other h r = other
below_at i first d [] n (suc p) below other h r = other
below_at i first d (w ∷ wires) zero zero below other h r = below_along w.0 first.0 i (eqb-true w.0 first.0 (and_parts (w.0 == first.0) (list_all (λ w. w.0 == first.0) wires) r).0) below
below_at i first d (w ∷ wires) zero (suc p) below other h r = below_at i first d wires zero p below other refl (and_parts (w.0 == first.0) (list_all (λ w. w.0 == first.0) wires) r).1
below_at i first d (w ∷ wires) (suc n) zero below other h r = ltb-true w.0 i (and_parts (nat_lt w.0 i) (wires_earlier i (take n wires)) h).0
below_at i first d (w ∷ wires) (suc n) (suc p) below other h r = below_at i first d wires n p below other (and_parts (nat_lt w.0 i) (wires_earlier i (take n wires)) h).1 r

-- each argument of a block is an earlier wire
argument_of-good : (net : NetData) (i : ℕ) (kind : Kind) (b : Block) → IsGoodBlock net i kind b → (p : ℕ) → argument_of b p < i
unfolding form_of
argument_of-good net i kind b g p =
    let sorts = (signature_in (form_in net b)).sorts in
    let kept = (signature_in (held_by b)).sorts in
    let wires = (form_of b).wires in
    let some : 1 ≤ length sorts = reads_some (form_of b).routine (form_in net b).types g.built in
    let many : 1 ≤ length kept = reads_some (held_by b).routine (held_by b).types g.built in
    let count : length sorts ≡ length wires = same_lengths (λ sort w. is_of_sort net (form_of b).lists sort (wire_at net.wires w.0).kind) sorts wires g.agree in
    let first : (first_of wires).0 < i = first_below i wires (omega (arith, some, count)) g.earlier in
    let same : first_of wires ≡ first_of (held_by b).wires = first_taken (length kept) (held_by b).wires many in
    below_at i (first_of wires) (first_of (held_by b).wires) (held_by b).wires (length kept) p first (below_along _ _ i (ap (λ w. w.0) (sym same)) first) g.earlier g.repeats

-- an argument of number wires is an earlier wire of its type, and one that the routine doesn't have repeats the first
good_argument : (net : NetData) (lists : List ℕ) (i : ℕ) (first d : WireNo) (types : List Ty) (wires : List WireNo) (p : ℕ) → wires_earlier i (take (length (map Number types)) wires) ≡ true → wires_agree net lists (map Number types) (take (length (map Number types)) wires) ≡ true
    → list_all (λ w. w.0 == first.0) (drop (length (map Number types)) wires) ≡ true → p < length wires → IsGoodArgument net i first (slice_get types p) (get_or wires p d)
good_argument net lists i first d [] [] p e a r lt = absurd (omega arith)
good_argument net lists i first d [] (w ∷ wires) zero e a r lt = eqb-true w.0 first.0 (and_parts (w.0 == first.0) (list_all (λ w. w.0 == first.0) wires) r).0
good_argument net lists i first d [] (w ∷ wires) (suc p) e a r lt = good_argument net lists i first d [] wires p e a (and_parts (w.0 == first.0) (list_all (λ w. w.0 == first.0) wires) r).1 (omega arith)
good_argument net lists i first d (t ∷ types) [] p e a r lt = absurd (omega arith)
good_argument net lists i first d (t ∷ types) (w ∷ wires) zero e a r lt =
    let rest = take (length (map Number types)) wires in
    record { earlier = ltb-true w.0 i (and_parts (nat_lt w.0 i) (wires_earlier i rest) e).0; number = (and_parts (is_number_of t (wire_at net.wires w.0).kind) (wires_agree net lists (map Number types) rest) a).0 }
good_argument net lists i first d (t ∷ types) (w ∷ wires) (suc p) e a r lt =
    let rest = take (length (map Number types)) wires in
    good_argument net lists i first d types wires p (and_parts (nat_lt w.0 i) (wires_earlier i rest) e).1 (and_parts (is_number_of t (wire_at net.wires w.0).kind) (wires_agree net lists (map Number types) rest) a).1 r (omega arith)

-- ---- a block, by its family

-- a block of Mfx arithmetic: its operation is built and takes its types, its arguments are good and earlier wires, and
-- its count of places is one of the operation
pub record IsGoodArith (net : NetData) (i : ℕ) (kind : Kind) (op : ArithOp) (v : Variant) (x y z : WireNo) (sh : ℕ) : Type 0 where
  pub built : is_built (routine.Arith op) ≡ true
  pub taken : Takes op v
  pub first : IsGoodArgument net i x (slice_get (argument_types op v) 0) x
  pub second : IsGoodArgument net i x (slice_get (argument_types op v) 1) y
  pub third : IsGoodArgument net i x (slice_get (argument_types op v) 2) z
  pub earlier_x : x.0 < i
  pub earlier_y : y.0 < i
  pub earlier_z : z.0 < i
  pub shift : is_shift op sh ≡ true
  pub output : is_number_of v.o kind ≡ true

good_arith : (net : NetData) (i : ℕ) (kind : Kind) (op : ArithOp) (v : Variant) (x y z : WireNo) (sh : ℕ) → IsGoodBlock net i kind (Arith op v x y z sh) → IsGoodArith net i kind op v x y z sh
unfolding form_of signature_of
good_arith net i kind op v x y z sh g =
    let b = Arith op v x y z sh in
    let types = argument_types op v in
    let wires = x ∷ y ∷ z ∷ [] in
    let same : first_of (form_of b).wires ≡ x = first_taken (length (map Number types)) wires (reads_some (routine.Arith op) v g.built) in
    let repeats = subst (λ (w : WireNo). list_all (λ o. o.0 == w.0) (drop (length (map Number types)) wires) ≡ true) same g.repeats in
    record {
      built = g.built;
      taken = (taken op v).0 g.taken;
      first = good_argument net [] i x x types wires 0 g.earlier g.agree repeats (omega arith);
      second = good_argument net [] i x x types wires 1 g.earlier g.agree repeats (omega arith);
      third = good_argument net [] i x x types wires 2 g.earlier g.agree repeats (omega arith);
      earlier_x = argument_of-good net i kind b g 0;
      earlier_y = argument_of-good net i kind b g 1;
      earlier_z = argument_of-good net i kind b g 2;
      shift = shift_of_ranges op sh g.fits g.adds;
      output = g.gives;
    }

pub arith-valid : (net : NetData) (i : ℕ) (op : ArithOp) (v : Variant) (x y z : WireNo) (sh : ℕ) → IsValid net → i < length net.wires → (wire_at net.wires i).item ≡ OfBlock (Arith op v x y z sh) → IsGoodArith net i (wire_at net.wires i).kind op v x y z sh
arith-valid net i op v x y z sh h lt e = good_arith net i (wire_at net.wires i).kind op v x y z sh (block-valid net i (Arith op v x y z sh) h lt e)

-- a block with binary points, likewise
pub record IsGoodScaled (net : NetData) (i : ℕ) (kind : Kind) (op : ScaledOp) (v : Variant) (x y : WireNo) : Type 0 where
  pub first : IsGoodArgument net i x (slice_get (scaled_types op v) 0) x
  pub second : IsGoodArgument net i x (slice_get (scaled_types op v) 1) y
  pub earlier_x : x.0 < i
  pub earlier_y : y.0 < i
  pub output : is_number_of v.o kind ≡ true

good_scaled : (net : NetData) (i : ℕ) (kind : Kind) (op : ScaledOp) (v : Variant) (x y : WireNo) → IsGoodBlock net i kind (Scaled op v x y) → IsGoodScaled net i kind op v x y
unfolding form_of signature_of
good_scaled net i kind op v x y g =
    let b = Scaled op v x y in
    let types = scaled_types op v in
    let wires = x ∷ y ∷ [] in
    let same : first_of (form_of b).wires ≡ x = first_taken (length (map Number types)) wires (reads_some (routine.Scaled op) v g.built) in
    let repeats = subst (λ (w : WireNo). list_all (λ o. o.0 == w.0) (drop (length (map Number types)) wires) ≡ true) same g.repeats in
    record {
      first = good_argument net [] i x x types wires 0 g.earlier g.agree repeats (omega arith);
      second = good_argument net [] i x x types wires 1 g.earlier g.agree repeats (omega arith);
      earlier_x = argument_of-good net i kind b g 0;
      earlier_y = argument_of-good net i kind b g 1;
      output = g.gives;
    }

pub scaled-valid : (net : NetData) (i : ℕ) (op : ScaledOp) (v : Variant) (x y : WireNo) → IsValid net → i < length net.wires → (wire_at net.wires i).item ≡ OfBlock (Scaled op v x y) → IsGoodScaled net i (wire_at net.wires i).kind op v x y
scaled-valid net i op v x y h lt e = good_scaled net i (wire_at net.wires i).kind op v x y (block-valid net i (Scaled op v x y) h lt e)

-- ---- filters

-- a filter's argument is an earlier wire of its type, and the filter gives its type
pub record IsGoodFilter (net : NetData) (i : ℕ) (kind : Kind) (xty ty : Ty) (x : WireNo) : Type 0 where
  pub earlier : x.0 < i
  pub input : is_number_of xty (wire_at net.wires x.0).kind ≡ true
  pub output : is_number_of ty kind ≡ true

-- a gain, with 16 fractional bits
pub record IsGain (k : ℤ) : Type 0 where
  pub low : negsuc 2147483647 ≤ℤ k
  pub high : k ≤ℤ pos 2147483647

good_filter : (net : NetData) (i : ℕ) (kind : Kind) (xty ty : Ty) (x : WireNo) → (nat_lt x.0 i && true) ≡ true → (is_number_of xty (wire_at net.wires x.0).kind && true) ≡ true → is_number_of ty kind ≡ true → IsGoodFilter net i kind xty ty x
good_filter net i kind xty ty x earlier agree gives = record {
  earlier = ltb-true _ _ (and_parts (nat_lt x.0 i) true earlier).0;
  input = (and_parts (is_number_of xty (wire_at net.wires x.0).kind) true agree).0;
  output = gives;
}

good_gain : (k : ℤ) → in_range gains k ≡ true → IsGain k
good_gain k h =
    let p = and_parts (int_le (negsuc 2147483647) k) (int_le k (pos 2147483647)) h in
    record { low = le_from_test _ _ p.0; high = le_from_test _ _ p.1 }

-- a proportional block
pub record IsGoodGain (net : NetData) (i : ℕ) (kind : Kind) (xty ty : Ty) (x : WireNo) (k : ℤ) : Type 0 where
  pub wires : IsGoodFilter net i kind xty ty x
  pub gain : IsGain k

good_gain_block : (net : NetData) (i : ℕ) (kind : Kind) (xty ty : Ty) (x : WireNo) (k : ℤ) → IsGoodBlock net i kind (Gain xty ty x k) → IsGoodGain net i kind xty ty x k
unfolding form_of signature_of
good_gain_block net i kind xty ty x k g =
    record { wires = good_filter net i kind xty ty x g.earlier g.agree g.gives; gain = good_gain k (and_parts (in_range gains k) true g.fits).0 }

pub gain-valid : (net : NetData) (i : ℕ) (xty ty : Ty) (x : WireNo) (k : ℤ) → IsValid net → i < length net.wires → (wire_at net.wires i).item ≡ OfBlock (Gain xty ty x k) → IsGoodGain net i (wire_at net.wires i).kind xty ty x k
gain-valid net i xty ty x k h lt e = good_gain_block net i (wire_at net.wires i).kind xty ty x k (block-valid net i (Gain xty ty x k) h lt e)

-- an average
pub record IsGoodAverage (net : NetData) (i : ℕ) (kind : Kind) (xty ty : Ty) (x : WireNo) (n : ℕ) : Type 0 where
  pub wires : IsGoodFilter net i kind xty ty x
  pub some : 1 ≤ n
  pub few : n ≤ 1024

good_average : (net : NetData) (i : ℕ) (kind : Kind) (xty ty : Ty) (x : WireNo) (n : ℕ) → IsGoodBlock net i kind (Average xty ty x n) → IsGoodAverage net i kind xty ty x n
unfolding form_of signature_of
good_average net i kind xty ty x n g =
    let p = and_parts (nat_le 1 n) (nat_le n 1024) (and_parts (in_range counts_of_rows (pos n)) true g.fits).0 in
    record { wires = good_filter net i kind xty ty x g.earlier g.agree g.gives; some = leb-true _ _ p.0; few = leb-true _ _ p.1 }

pub average-valid : (net : NetData) (i : ℕ) (xty ty : Ty) (x : WireNo) (n : ℕ) → IsValid net → i < length net.wires → (wire_at net.wires i).item ≡ OfBlock (Average xty ty x n) → IsGoodAverage net i (wire_at net.wires i).kind xty ty x n
average-valid net i xty ty x n h lt e = good_average net i (wire_at net.wires i).kind xty ty x n (block-valid net i (Average xty ty x n) h lt e)

-- a filter with a state: the weight of the old state, and the gain
pub record IsGoodLag (net : NetData) (i : ℕ) (kind : Kind) (xty ty : Ty) (x : WireNo) (teq : ℕ) (k : ℤ) : Type 0 where
  pub wires : IsGoodFilter net i kind xty ty x
  pub weight : teq ≤ 65536
  pub gain : IsGain k

good_lag : (net : NetData) (i : ℕ) (kind : Kind) (xty ty : Ty) (x : WireNo) (teq : ℕ) (k : ℤ) → IsGoodFilter net i kind xty ty x → in_ranges (weights ∷ gains ∷ []) (pos teq ∷ k ∷ []) ≡ true → IsGoodLag net i kind xty ty x teq k
good_lag net i kind xty ty x teq k wires fits =
    let outer = and_parts (in_range weights (pos teq)) (in_range gains k && true) fits in
    let weight = and_parts (nat_le 0 teq) (nat_le teq 65536) outer.0 in
    record { wires = wires; weight = leb-true _ _ weight.1; gain = good_gain k (and_parts (in_range gains k) true outer.1).0 }

good_pt1 : (net : NetData) (i : ℕ) (kind : Kind) (xty ty : Ty) (x : WireNo) (teq : ℕ) (k : ℤ) → IsGoodBlock net i kind (Pt1 xty ty x teq k) → IsGoodLag net i kind xty ty x teq k
unfolding form_of signature_of
good_pt1 net i kind xty ty x teq k g = good_lag net i kind xty ty x teq k (good_filter net i kind xty ty x g.earlier g.agree g.gives) g.fits

pub pt1-valid : (net : NetData) (i : ℕ) (xty ty : Ty) (x : WireNo) (teq : ℕ) (k : ℤ) → IsValid net → i < length net.wires → (wire_at net.wires i).item ≡ OfBlock (Pt1 xty ty x teq k) → IsGoodLag net i (wire_at net.wires i).kind xty ty x teq k
pt1-valid net i xty ty x teq k h lt e = good_pt1 net i (wire_at net.wires i).kind xty ty x teq k (block-valid net i (Pt1 xty ty x teq k) h lt e)

good_dt1 : (net : NetData) (i : ℕ) (kind : Kind) (second : Bool) (xty ty : Ty) (x : WireNo) (teq : ℕ) (k : ℤ) → IsGoodBlock net i kind (Dt1 second xty ty x teq k) → IsGoodLag net i kind xty ty x teq k
unfolding form_of signature_of
good_dt1 net i kind true xty ty x teq k g = good_lag net i kind xty ty x teq k (good_filter net i kind xty ty x g.earlier g.agree g.gives) g.fits
good_dt1 net i kind false xty ty x teq k g = good_lag net i kind xty ty x teq k (good_filter net i kind xty ty x g.earlier g.agree g.gives) g.fits

pub dt1-valid : (net : NetData) (i : ℕ) (second : Bool) (xty ty : Ty) (x : WireNo) (teq : ℕ) (k : ℤ) → IsValid net → i < length net.wires → (wire_at net.wires i).item ≡ OfBlock (Dt1 second xty ty x teq k) → IsGoodLag net i (wire_at net.wires i).kind xty ty x teq k
dt1-valid net i second xty ty x teq k h lt e = good_dt1 net i (wire_at net.wires i).kind second xty ty x teq k (block-valid net i (Dt1 second xty ty x teq k) h lt e)

-- ---- all

pub argument_of-valid : (net : NetData) (i : ℕ) (b : Block) → IsValid net → i < length net.wires → (wire_at net.wires i).item ≡ OfBlock b → (p : ℕ) → argument_of b p < i
argument_of-valid net i b h lt e p = argument_of-good net i (wire_at net.wires i).kind b (block-valid net i b h lt e) p

-- each output is a wire
pub outs-valid : (net : NetData) → IsValid net → list_all (λ o. nat_lt o.0 (length net.wires)) net.outs ≡ true
outs-valid net h = (conditions net h).outs_there
