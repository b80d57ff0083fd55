-- What a line that has no fault gives: a good wire of a fresh name, or an output that isn't one yet.
use Rattle.std.proofs.Common.{◌≡◌, ℕ, suc, ◌+◌, ◌-◌, ◌*◌, Bool, true, false, not, ◌&&◌, ◌||◌, ◌==◌, cond, nat_le, nat_lt, List, [], ◌∷◌, length, take, drop, codes, bytes_eq, refl, sym, ap, ap₂, subst, ◌∙◌, ℤ, pos, unsigned_abs, int_le, ◌<◌, ◌≤◌, ◌^◌, Option, Some, None, Result, Ok, Err, arith, add-zero}
use Rattle.std.specs.Prelude.{ok_or, is_some, option_map, option_and_then, position}
use Rattle.std.specs.Char.{is_ascii_digit}
use Rattle.std.specs.List.{list_all, list_any, position_or_len}
use Rattle.std.proofs.lemmas.Bool.Decides.{nat_tests}
use Rattle.text_words.specs.Lines.{nth}
use Rattle.text_words.specs.Names.{is_name}
use Rattle.text_words.specs.Numbers.{digit_of, number_of}
use Rattle.text_words.specs.Steps.{◌>>=◌, demand}
use Rattle.fx_core.specs.declared.word_type.Ty.{Ty}
use Rattle.fx_routines.specs.declared.operation.Types.{Types}
use Rattle.fx_routines.specs.declared.table.Routine.{Routine}
use Rattle.fx_routines.specs.Reading.{named}
use Rattle.net_model.specs.declared.network.NetKind.{NetKind}
use Rattle.net_model.specs.declared.network.NetKind.TheVariants.{BadLine, BadName, Repeated, BadType, UnknownRoutine, NotBuilt, BadCount, UnknownName, LaterWire, TypeDiffers, BadNumber, OutOfRange, TooMany}
use Rattle.net_model.specs.declared.wires.WireNo.{WireNo}
use Rattle.net_model.specs.declared.wires.Kind.{Kind}
use Rattle.net_model.specs.declared.wires.Kind.TheVariants.{Num, Truth, Position}
use Rattle.net_model.specs.declared.wires.Item.{Item}
use Rattle.net_model.specs.declared.wires.Item.TheVariants.{Input, Const, Delay, Block as OfBlock}
use Rattle.net_model.specs.declared.wires.Wire.{Wire}
use Rattle.net_model.specs.declared.signatures.Sort.{Sort}
use Rattle.net_model.specs.declared.signatures.Range.{Range}
use Rattle.net_model.specs.declared.signatures.Signature.{Signature}
use Rattle.net_model.specs.declared.block_forms.Form.{Form}
use Rattle.net_text.specs.declared.keyword.Keyword.{Keyword}
use Rattle.net_text.specs.declared.keyword.Keyword.TheVariants.{InLine, ConstLine, AxisLine, AxisStepLine, AxisShiftLine, TableLine, MapLine, WireLine, DelayLine}
use Rattle.net_text.specs.declared.line_forms.WireContent.{WireContent}
use Rattle.net_text.specs.declared.content.Content.{Content}
use Rattle.net_text.specs.declared.content.Content.TheVariants.{OfWire, OfAxis, OfTable}
use Rattle.net_text.specs.declared.line_forms.Given.{Given}
use Rattle.net_model.specs.Wires.{NamedAxis, NetData, wire_at, place_of, window_of, window_sum}
use Rattle.net_model.specs.Families.{is_built, signature_of, block_of}
use Rattle.net_model.specs.BlockForms.{in_range as is_in_range, in_ranges, signature_in, form_of, form_in, typed, repeats_first, adds_no_number}
use Rattle.net_model.specs.Validity.{is_among, is_good_kind, is_plain, is_kind_there, kind_holds, is_of_sort, takes_form, wires_earlier, is_list, form_agrees, numbers_fit, is_built_item, item_reads_earlier, item_agrees, item_in_range}
use Rattle.net_model.specs.Faults.{has_room}
use Rattle.net_model.proofs.SideBySide.{same_lengths}
use Rattle.net_model.proofs.FamilyFacts.{IsFull, block_of_full, typed_back, ranges_kept}
use Rattle.net_model.proofs.LookUpFacts.{plain_there}
use Rattle.net_model.proofs.ValidityFacts.{agrees_parts}
use Rattle.fx_core.specs.Types.{width_of}
use Rattle.fx_core.specs.declared.word_type.Ty.TheVariants.{U8, S8, U16, S16, U32, S32}
use Rattle.ifx_search.specs.Axes.{AxisData, IsAxis, IsSpaced, listed_axis, stepped_axis, stepped_points}
use Rattle.ifx_search.proofs.Points.{length-stepped_points}
use Rattle.ifx_curves.specs.Tables.{TableData, IsTable}
use Rattle.net_text.specs.TypeWords.{ty_of, axis_name, is_position, ty_len, one_digit, two_digits, point_of_word, number_kind_of, kind_of}
use Rattle.net_text.specs.RoutineWords.{routine_at}
use Rattle.net_text.specs.Forms.{HasPlace, is_above, all_pass, axis_passes, is_type, narrow_of, wire_above, wire_named, wires_named, lists_named, are_numbers, number_in, numbers_in, numbers_written, number_written, fresh, number_at, input_of, const_of, kind_at, kind_named, agreed, has_place, with_room, in_line, const_line, names_in, given_line, wire_line, source_named, delay_of, delay_line, list_front, are_values, rises, list_room, points_given, axis_line, values_given, table_line, are_steps, steps_given, axisstep_line, shifts, shift_given, axisshift_line, map_line, as_wire, as_axis, as_table, line_of, is_known, is_output, out_line, defining_line}
use Rattle.net_text.specs.Names.{axis_place}
use Rattle.net_text.proofs.ListFacts.{listed_is_axis, values_are_table, stepped_is_axis}
use Rattle.net_text.specs.Names.{keyword_of}

-- ---- tests

-- how a chain of tests is built and taken apart
pub true_if_both : (a b : Bool) → a ≡ true → b ≡ true → (a && b) ≡ true
true_if_both true true p q = refl
true_if_both true false p q = q
true_if_both false b p q = p

pub first_of_both : (a b : Bool) → (a && b) ≡ true → a ≡ true
first_of_both true b h = refl
first_of_both false b h = h

pub second_of_both : (a b : Bool) → (a && b) ≡ true → b ≡ true
second_of_both true b h = h
second_of_both false true h = refl
second_of_both false false h = h

not_true : (a : Bool) → not a ≡ true → a ≡ false
not_true true h = sym h
not_true false h = refl

-- what passes a test has it
pub demand_ok : {E : Type 0} (test : Bool) (fault : E) (done : Unit {0}) → demand test fault ≡ Ok done → test ≡ true
demand_ok true fault done h = refl
demand_ok false fault done h = absurd (cc)

-- what is found is there
ok_or_ok : {A : Type 0} (found : Option A) (kind : NetKind) (value : A) → ok_or found kind ≡ Ok value → found ≡ Some value
ok_or_ok (Some x) kind value h = let same : x ≡ value = cc in ap (λ v. Some v) same
ok_or_ok None kind value h = cc

-- ---- names

-- the first place that passes lies within exactly where some element passes
suc_below : (k n : ℕ) → nat_lt (1 + k) (suc n) ≡ nat_lt k n
suc_below k n = grind (arith, nat_tests)

-- one more element in front
position_step : (b more : Bool) (k n : ℕ) → nat_lt k n ≡ more → nat_lt (cond (not b) (1 + k) 0) (suc n) ≡ (b || more)
position_step true more k n h = grind (arith, nat_tests)
position_step false more k n h = suc_below k n ∙ h

position_within : {X : Type 0} (p : X → Bool) (xs : List X) → nat_lt (position_or_len p xs) (length xs) ≡ list_any p xs
position_within p [] = refl
position_within p (x ∷ xs) =
    position_step (p x) (list_any p xs) (position_or_len p xs) (length xs) (position_within p xs)

-- a place is given exactly where it lies within
is_some_place : (b : Bool) (k : ℕ) → is_some (cond b (Some k) None) ≡ b
is_some_place true k = refl
is_some_place false k = refl

-- there is a place exactly where some element passes
pub is_some-position : {X : Type 0} (p : X → Bool) (xs : List X) → is_some (position p xs) ≡ list_any p xs
is_some-position p xs =
    is_some_place (nat_lt (position_or_len p xs) (length xs)) (position_or_len p xs) ∙ position_within p xs

-- a place that is given lies within
place_below : (b : Bool) (k place : ℕ) → cond b (Some k) None ≡ Some place → (b ≡ true) × (k ≡ place)
place_below true k place h = let same : k ≡ place = cc in (refl, same)
place_below false k place h = cc

-- a place that is found lies within
pub found_within : {X : Type 0} (p : X → Bool) (xs : List X) (place : ℕ) → position p xs ≡ Some place → nat_lt place (length xs) ≡ true
found_within p xs place h =
    let k = position_or_len p xs in
    let found = place_below (nat_lt k (length xs)) k place h in
    subst (λ n. nat_lt n (length xs) ≡ true) found.1 found.0

pub place_within : (wires : List Wire) (name : List ℕ) (place : ℕ) → place_of wires name ≡ Some place → nat_lt place (length wires) ≡ true
unfolding place_of
place_within wires name place h = found_within (λ w. bytes_eq w.name name) wires place h

axis_within : (axes : List NamedAxis) (name : List ℕ) (place : ℕ) → axis_place axes name ≡ Some place → nat_lt place (length axes) ≡ true
unfolding axis_place
axis_within axes name place h = found_within (λ (a : NamedAxis). bytes_eq name a.0) axes place h

-- ---- types

-- a good binary point
one_digit_good : (a point : ℕ) → one_digit a ≡ Some point → nat_le point 15 ≡ true
one_digit_good a point h =
    let found = place_below (is_ascii_digit a) (digit_of a) point h in
    let most : nat_le a 57 ≡ true = second_of_both (nat_le 48 a) (nat_le a 57) found.0 in
    let small : nat_le (a - 48) 15 ≡ true = grind (arith, nat_tests) in
    subst (λ p. nat_le p 15 ≡ true) found.1 small

-- of two digits
two_digits_good : (a b point : ℕ) → two_digits a b ≡ Some point → nat_le point 15 ≡ true
two_digits_good a b point h =
    let value = 10 * digit_of a + digit_of b in
    let found = place_below (is_ascii_digit a && is_ascii_digit b && nat_le value 15) value point h in
    subst (λ p. nat_le p 15 ≡ true) found.1 (second_of_both (is_ascii_digit a && is_ascii_digit b) (nat_le value 15) found.0)

-- of a whole word
point_good : (word : List ℕ) (point : ℕ) → point_of_word word ≡ Some point → nat_le point 15 ≡ true
unfolding point_of_word
point_good [] point h = let same : 0 ≡ point = cc in subst (λ p. nat_le p 15 ≡ true) same refl
point_good (mark ∷ []) point h = cc
point_good (mark ∷ a ∷ []) point h = one_digit_good a point h
point_good (mark ∷ a ∷ b ∷ []) point h = two_digits_good a b point h
point_good (mark ∷ a ∷ b ∷ c ∷ more) point h = cc

-- a number type with such a point is a good kind
num_good : (ty : Option Ty) (point : Option ℕ) (kind : Kind) → ((p : ℕ) → point ≡ Some p → nat_le p 15 ≡ true) → option_and_then (λ t. option_map (λ p. Num t p) point) ty ≡ Some kind → is_good_kind kind ≡ true
num_good None point kind good h = cc
num_good (Some ty) None kind good h = cc
num_good (Some ty) (Some p) kind good h =
    let same : Num ty p ≡ kind = cc in subst (λ k. is_good_kind k ≡ true) same (good p refl)

-- so is `bool`
bool_or_number : (b : Bool) (number : Option Kind) (kind : Kind) → ((k : Kind) → number ≡ Some k → is_good_kind k ≡ true) → cond b (Some Truth) number ≡ Some kind → is_good_kind kind ≡ true
bool_or_number true number kind good h = let same : Truth ≡ kind = cc in subst (λ k. is_good_kind k ≡ true) same refl
bool_or_number false number kind good h = good kind h

-- a type word names a good kind
pub kind_good : (word : List ℕ) (kind : Kind) → kind_of word ≡ Some kind → is_good_kind kind ≡ true
unfolding kind_of number_kind_of
kind_good word kind h =
    bool_or_number (bytes_eq word (codes "bool")) (option_and_then (λ t. option_map (λ p. Num t p) (point_of_word (drop (ty_len word) word))) (ty_of (take (ty_len word) word))) kind (λ k e. num_good (ty_of (take (ty_len word) word)) (point_of_word (drop (ty_len word) word)) k (point_good (drop (ty_len word) word)) e) h

-- and it is a number or a truth value
num_plain : (ty : Option Ty) (point : Option ℕ) (kind : Kind) → option_and_then (λ t. option_map (λ p. Num t p) point) ty ≡ Some kind → is_plain kind ≡ true
num_plain None point kind h = cc
num_plain (Some ty) None kind h = cc
num_plain (Some ty) (Some p) kind h =
    let same : Num ty p ≡ kind = cc in subst (λ k. is_plain k ≡ true) same refl

bool_or_plain : (b : Bool) (number : Option Kind) (kind : Kind) → ((k : Kind) → number ≡ Some k → is_plain k ≡ true) → cond b (Some Truth) number ≡ Some kind → is_plain kind ≡ true
bool_or_plain true number kind plain h = let same : Truth ≡ kind = cc in subst (λ k. is_plain k ≡ true) same refl
bool_or_plain false number kind plain h = plain kind h

pub kind_plain : (word : List ℕ) (kind : Kind) → kind_of word ≡ Some kind → is_plain kind ≡ true
unfolding kind_of number_kind_of
kind_plain word kind h =
    bool_or_plain (bytes_eq word (codes "bool")) (option_and_then (λ t. option_map (λ p. Num t p) (point_of_word (drop (ty_len word) word))) (ty_of (take (ty_len word) word))) kind (λ k e. num_plain (ty_of (take (ty_len word) word)) (point_of_word (drop (ty_len word) word)) k e) h

-- so is the kind that a type word names, or it is a position on an axis above
record IsThere (axes : List NamedAxis) (kind : Kind) : Type 0 where
  good : is_good_kind kind ≡ true
  there : is_kind_there axes kind ≡ true

position_there : (axes : List NamedAxis) (found : Option ℕ) (kind : Kind) → ((n : ℕ) → found ≡ Some n → nat_lt n (length axes) ≡ true) → option_map (λ n. Position n) found ≡ Some kind → IsThere axes kind
position_there axes None kind within h = cc
position_there axes (Some n) kind within h =
    let same : Position n ≡ kind = cc in
    let first : IsThere axes (Position n) = record { good = refl; there = within n refl } in
    subst (λ k. IsThere axes k) same first

kind_there : (net : NetData) (word : List ℕ) (kind : Kind) → kind_named net word ≡ Some kind → IsThere net.axes kind
unfolding kind_named
kind_there net word kind h = by (is_position word) h
  where
    by : (b : Bool) → cond b (option_map (λ n. Position n) (axis_place net.axes (axis_name word))) (kind_of word) ≡ Some kind → IsThere net.axes kind
    by true h = position_there net.axes (axis_place net.axes (axis_name word)) kind (axis_within net.axes (axis_name word)) h
    by false h = record { good = kind_good word kind h; there = plain_there net.axes kind (kind_plain word kind h) }

-- ---- steps

-- what comes first gives what the rest goes on with
pub bind_ok : {A B E : Type 0} (r : Result A E) (f : A → Result B E) (b : B) → (r >>= f) ≡ Ok b → (a : A) × (r ≡ Ok a) × (f a ≡ Ok b)
bind_ok (Ok a) f b h = (a, refl, h)
bind_ok (Err e) f b h = absurd (cc)

pub same_ok : {A E : Type 0} (a b : A) → ◌≡◌ {A = Result A E} (Ok a) (Ok b) → a ≡ b
same_ok a b h = cc

-- ---- routines

-- a name is read as a routine that is built
routine_built : (word : List ℕ) (found : Routine × Types) → routine_at word ≡ Ok found → is_built found.0 ≡ true
unfolding routine_at
routine_built word found h =
    let r = bind_ok (ok_or (named word) UnknownRoutine) (λ f. demand (is_built f.0) NotBuilt >>= λ _. Ok f) found h in
    let d = bind_ok (demand (is_built r.0.0) NotBuilt) (λ _. Ok r.0) found r.2 in
    subst (λ f. is_built f.0 ≡ true) (same_ok r.0 found d.2) (demand_ok (is_built r.0.0) NotBuilt d.0 d.1)

-- ---- forms

-- an item that is good behind these wires, in a wire of this kind
pub record IsGoodItem (net : NetData) (kind : Kind) (item : Item) : Type 0 where
  pub built : is_built_item item ≡ true
  pub earlier : item_reads_earlier (length net.wires) item ≡ true
  pub agreed : item_agrees net kind item ≡ true
  pub in_range : item_in_range net.axes kind item ≡ true

-- what a line gives a wire that is good behind the wires above, with a name that none of them has
pub record IsGood (net : NetData) (name : List ℕ) (content : WireContent) : Type 0 where
  pub named : is_name name ≡ true
  pub fresh : is_above net name ≡ false
  pub room : nat_lt (length net.wires) 512 ≡ true
  pub rows : nat_le (window_sum net.wires) 65536 ≡ true → nat_le (window_sum net.wires + window_of content.item) 65536 ≡ true
  pub kind : is_good_kind content.kind ≡ true
  pub item : IsGoodItem net content.kind content.item

-- a name that no line above defines
record IsFresh (net : NetData) (name : List ℕ) : Type 0 where
  named : is_name name ≡ true
  fresh : is_above net name ≡ false

-- both tests of a name
fresh_tests : (named new : Bool) (done : Unit {0}) → (demand named BadName >>= λ _. demand (not new) Repeated) ≡ Ok done → (named ≡ true) × (new ≡ false)
fresh_tests true new done h = (refl, not_true new (demand_ok (not new) Repeated done h))
fresh_tests false new done h = cc

-- a name that passes is one, and no line above defines it
fresh_ok : (net : NetData) (name : List ℕ) (done : Unit {0}) → fresh net name ≡ Ok done → IsFresh net name
unfolding fresh
fresh_ok net name done h =
    let p = fresh_tests (is_name name) (is_above net name) done h in record { named = p.0; fresh = p.1 }

-- a good item that is no average
record IsPlain (net : NetData) (kind : Kind) (item : Item) : Type 0 where
  good : IsGoodItem net kind item
  plain : window_of item ≡ 0

-- an input's range, and a constant, are good in their kind
input_good : (net : NetData) (kind : Kind) (low high : List ℕ) (item : Item) → is_plain kind ≡ true → input_of net.axes kind low high ≡ Ok item → IsPlain net kind item
unfolding input_of
input_good net kind low high item plain h =
    let test : ℤ → ℤ → Bool = λ lo hi. kind_holds net.axes kind lo && kind_holds net.axes kind hi && int_le lo hi in
    let l = bind_ok (number_at low) (λ lo. number_at high >>= λ hi. demand (test lo hi) OutOfRange >>= λ _. Ok (Input lo hi)) item h in
    let u = bind_ok (number_at high) (λ hi. demand (test l.0 hi) OutOfRange >>= λ _. Ok (Input l.0 hi)) item l.2 in
    let d = bind_ok (demand (test l.0 u.0) OutOfRange) (λ _. Ok (Input l.0 u.0)) item u.2 in
    let good : IsPlain net kind (Input l.0 u.0) = record { good = record { built = refl; earlier = refl; agreed = plain; in_range = demand_ok (test l.0 u.0) OutOfRange d.0 d.1 }; plain = refl } in
    subst (λ x. IsPlain net kind x) (same_ok (Input l.0 u.0) item d.2) good

const_of_good : (net : NetData) (kind : Kind) (word : List ℕ) (item : Item) → is_plain kind ≡ true → const_of net.axes kind word ≡ Ok item → IsPlain net kind item
unfolding const_of
const_of_good net kind word item plain h =
    let r = bind_ok (number_at word) (λ value. demand (kind_holds net.axes kind value) OutOfRange >>= λ _. Ok (Const value)) item h in
    let d = bind_ok (demand (kind_holds net.axes kind r.0) OutOfRange) (λ _. Ok (Const r.0)) item r.2 in
    let good : IsPlain net kind (Const r.0) = record { good = record { built = refl; earlier = refl; agreed = plain; in_range = demand_ok (kind_holds net.axes kind r.0) OutOfRange d.0 d.1 }; plain = refl } in
    subst (λ x. IsPlain net kind x) (same_ok (Const r.0) item d.2) good

-- where there is room, a block's wire is good
with_room_good : (net : NetData) (name : List ℕ) (kind : Kind) (item : Item) (content : WireContent) → IsFresh net name → is_good_kind kind ≡ true → IsGoodItem net kind item → with_room net.wires kind item ≡ Ok content → IsGood net name content
with_room_good net name kind item content new good is h = by (has_room net.wires item) refl h
  where
    by : (room : Bool) → has_room net.wires item ≡ room → (demand room TooMany >>= λ _. Ok (record { kind = kind; item = item })) ≡ Ok content → IsGood net name content
    by true e h =
        let made : WireContent = record { kind = kind; item = item } in
        let first : IsGood net name made = record {
          named = new.named;
          fresh = new.fresh;
          room = first_of_both (nat_lt (length net.wires) 512) (nat_le (window_sum net.wires + window_of item) 65536) e;
          rows = λ below. second_of_both (nat_lt (length net.wires) 512) (nat_le (window_sum net.wires + window_of item) 65536) e;
          kind = good;
          item = is;
        } in
        subst (λ c. IsGood net name c) (same_ok made content h) first
    by false e h = absurd (cc)

-- the lines of inputs, constants and delays have one end
content_end : (net : NetData) (name : List ℕ) (room : Result (Unit {0}) NetKind) (kind : Kind) (item : Result Item NetKind) (content : WireContent) → IsFresh net name → is_good_kind kind ≡ true → ((x : Item) → item ≡ Ok x → IsPlain net kind x) → ((done : Unit {0}) → room ≡ Ok done → nat_lt (length net.wires) 512 ≡ true) → (item >>= λ x. room >>= λ _. Ok (record { kind = kind; item = x })) ≡ Ok content → IsGood net name content
content_end net name room kind (Err fault) content new good i r h = absurd (cc)
content_end net name (Err fault) kind (Ok item) content new good i r h = absurd (cc)
content_end net name (Ok done) kind (Ok item) content new good i r h =
    let made : WireContent = record { kind = kind; item = item } in
    let is = i item refl in
    let none : window_sum net.wires + window_of item ≡ window_sum net.wires = ap (λ n. window_sum net.wires + n) is.plain ∙ add-zero (window_sum net.wires) in
    let first : IsGood net name made = record { named = new.named; fresh = new.fresh; room = r done refl; rows = λ below. ap (λ n. nat_le n 65536) none ∙ below; kind = good; item = is.good } in
    subst (λ c. IsGood net name c) (same_ok made content h) first

-- from the front on
content_tests : (net : NetData) (name : List ℕ) (form new room : Result (Unit {0}) NetKind) (kind : Result Kind NetKind) (item : Kind → Result Item NetKind) (content : WireContent) → ((done : Unit {0}) → new ≡ Ok done → IsFresh net name) → ((k : Kind) → kind ≡ Ok k → is_good_kind k ≡ true) → ((k : Kind) (x : Item) → kind ≡ Ok k → item k ≡ Ok x → IsPlain net k x) → ((done : Unit {0}) → room ≡ Ok done → nat_lt (length net.wires) 512 ≡ true) → (form >>= λ _. new >>= λ _. kind >>= λ k. item k >>= λ x. room >>= λ _. Ok (record { kind = k; item = x })) ≡ Ok content → IsGood net name content
content_tests net name (Err fault) new room kind item content f g i r h = absurd (cc)
content_tests net name (Ok _) (Err fault) room kind item content f g i r h = absurd (cc)
content_tests net name (Ok _) (Ok new) room (Err fault) item content f g i r h = absurd (cc)
content_tests net name (Ok _) (Ok new) room (Ok kind) item content f g i r h =
    content_end net name room kind (item kind) content (f new refl) (g kind refl) (λ x e. i kind x refl e) r h

-- that there is room for one more wire
place_ok : (wires : List Wire) (done : Unit {0}) → has_place wires ≡ Ok done → nat_lt (length wires) 512 ≡ true
place_ok wires done e = demand_ok (nat_lt (length wires) 512) TooMany done e

-- an input gives a good wire
in_good : (net : NetData) (words : List (List ℕ)) (content : WireContent) → in_line net words ≡ Ok content → IsGood net (nth words 1) content
unfolding in_line
in_good net words content h =
    content_tests net (nth words 1) (demand (length words == 5) BadLine) (fresh net (nth words 1)) (has_place net.wires) (kind_at (nth words 2)) (λ k. input_of net.axes k (nth words 3) (nth words 4)) content (λ done e. fresh_ok net (nth words 1) done e) (λ k e. kind_good (nth words 2) k (ok_or_ok (kind_of (nth words 2)) BadType k e))
    (λ k x p e. input_good net k (nth words 3) (nth words 4) x (kind_plain (nth words 2) k (ok_or_ok (kind_of (nth words 2)) BadType k p)) e) (place_ok net.wires) h

-- a constant gives a good wire
const_good : (net : NetData) (words : List (List ℕ)) (content : WireContent) → const_line net words ≡ Ok content → IsGood net (nth words 1) content
unfolding const_line
const_good net words content h =
    content_tests net (nth words 1) (demand (length words == 4) BadLine) (fresh net (nth words 1)) (has_place net.wires) (kind_at (nth words 2)) (λ k. const_of net.axes k (nth words 3)) content (λ done e. fresh_ok net (nth words 1) done e) (λ k e. kind_good (nth words 2) k (ok_or_ok (kind_of (nth words 2)) BadType k e))
    (λ k x p e. const_of_good net k (nth words 3) x (kind_plain (nth words 2) k (ok_or_ok (kind_of (nth words 2)) BadType k p)) e) (place_ok net.wires) h

-- ---- the wires of a form

named_within : (wires : List Wire) (name : List ℕ) (w : WireNo) → wire_named wires name ≡ Ok w → nat_lt w.0 (length wires) ≡ true
unfolding wire_named
named_within wires name w h =
    let r = bind_ok (wire_above wires name) (λ place. Ok (record { 0 = place })) w h in
    let same : WireNo = record { 0 = r.0 } in
    subst (λ w. nat_lt w.0 (length wires) ≡ true) (same_ok same w r.2) (place_within wires name r.0 (ok_or_ok (place_of wires name) TypeDiffers r.0 r.1))

-- the wires that are named stand above
named_earlier : (wires : List Wire) (sorts : List Sort) (k : ℕ) (words : List (List ℕ)) (given : List WireNo) → wires_named wires sorts k words ≡ Ok given → wires_earlier (length wires) given ≡ true
unfolding wires_named
named_earlier wires [] k words given h = subst (λ l. wires_earlier (length wires) l ≡ true) (same_ok [] given h) refl
named_earlier wires (s ∷ sorts) k words given h =
    let w = bind_ok (wire_named wires (nth words k)) (λ w. wires_named wires sorts (k + 1) words >>= λ rest. Ok (w ∷ rest)) given h in
    let ws = bind_ok (wires_named wires sorts (k + 1) words) (λ rest. Ok (w.0 ∷ rest)) given w.2 in
    subst (λ l. wires_earlier (length wires) l ≡ true) (same_ok (w.0 ∷ ws.0) given ws.2)
    (true_if_both (nat_lt w.0.0 (length wires)) (wires_earlier (length wires) ws.0) (named_within wires (nth words k) w.0 w.1) (named_earlier wires sorts (k + 1) words ws.0 ws.1))

-- ---- its numbers

number_good : (range : Range) (word : List ℕ) (n : ℤ) → number_in range word ≡ Ok n → is_in_range range n ≡ true
unfolding number_in
number_good range word n h =
    let r = bind_ok (number_at word) (λ number. demand (is_in_range range number) OutOfRange >>= λ _. Ok number) n h in
    let d = bind_ok (demand (is_in_range range r.0) OutOfRange) (λ _. Ok r.0) n r.2 in
    subst (λ m. is_in_range range m ≡ true) (same_ok r.0 n d.2) (demand_ok (is_in_range range r.0) OutOfRange d.0 d.1)

numbers_good : (ranges : List Range) (k : ℕ) (words : List (List ℕ)) (numbers : List ℤ) → numbers_in ranges k words ≡ Ok numbers → in_ranges ranges numbers ≡ true
unfolding numbers_in
numbers_good [] k words numbers h = subst (λ l. in_ranges [] l ≡ true) (same_ok [] numbers h) refl
numbers_good (range ∷ ranges) k words numbers h =
    let n = bind_ok (number_in range (nth words k)) (λ n. numbers_in ranges (k + 1) words >>= λ rest. Ok (n ∷ rest)) numbers h in
    let ns = bind_ok (numbers_in ranges (k + 1) words) (λ rest. Ok (n.0 ∷ rest)) numbers n.2 in
    subst (λ l. in_ranges (range ∷ ranges) l ≡ true) (same_ok (n.0 ∷ ns.0) numbers ns.2)
    (true_if_both (is_in_range range n.0) (in_ranges ranges ns.0) (number_good range (nth words k) n.0 n.1) (numbers_good ranges (k + 1) words ns.0 ns.1))

-- ---- its kind

-- the kind of the type word, which agrees with the form
record IsAgreed (net : NetData) (form : Form) (word : List ℕ) (kind : Kind) : Type 0 where
  found : kind_named net word ≡ Some kind
  agrees : form_agrees net kind form ≡ true

agreed_good : (net : NetData) (form : Form) (word : List ℕ) (kind : Kind) → agreed net form word ≡ Ok kind → IsAgreed net form word kind
unfolding agreed
agreed_good net form word kind h =
    let r = bind_ok (ok_or (kind_named net word) TypeDiffers) (λ k. demand (form_agrees net k form) TypeDiffers >>= λ _. Ok k) kind h in
    let d = bind_ok (demand (form_agrees net r.0 form) TypeDiffers) (λ _. Ok r.0) kind r.2 in
    let first : IsAgreed net form word r.0 = record { found = ok_or_ok (kind_named net word) TypeDiffers r.0 r.1; agrees = demand_ok (form_agrees net r.0 form) TypeDiffers d.0 d.1 } in
    subst (λ k. IsAgreed net form word k) (same_ok r.0 kind d.2) first

-- ---- the whole of it

-- what the tests of a routine's line say of what it gives
pub record IsGiven (net : NetData) (routine : Routine) (types : Types) (word : List ℕ) (given : Given) : Type 0 where
  pub routine_is : given.form.routine ≡ routine
  pub types_are : given.form.types ≡ types
  pub earlier : wires_earlier (length net.wires) given.form.wires ≡ true
  pub found : kind_named net word ≡ Some given.kind
  pub agrees : form_agrees net given.kind given.form ≡ true
  pub fits : numbers_fit given.form ≡ true

abbrev formed : Routine → Types → List WireNo → List ℕ → List ℤ → Form
formed routine types wires lists numbers = record { routine = routine; types = types; wires = wires; lists = lists; numbers = numbers }

-- what the steps of a routine's line gave
record IsMade (routine : Routine) (types : Types) (wires : Result (List WireNo) NetKind) (lists : Result (List ℕ) NetKind) (kind : Form → Result Kind NetKind) (numbers : Result (List ℤ) NetKind) (given : Given) : Type 0 where
  routine_is : given.form.routine ≡ routine
  types_are : given.form.types ≡ types
  wires_are : wires ≡ Ok given.form.wires
  kind_is : kind (formed routine types given.form.wires given.form.lists []) ≡ Ok given.kind
  numbers_are : numbers ≡ Ok given.form.numbers

-- once its wires and its lists are read
made_of : (routine : Routine) (types : Types) (ws : List WireNo) (ls : List ℕ) (kind : Form → Result Kind NetKind) (typed : Result Kind NetKind) (are : Result (Unit {0}) NetKind) (numbers : Result (List ℤ) NetKind) (given : Given)
    → kind (formed routine types ws ls []) ≡ typed → (typed >>= λ k. are >>= λ _. numbers >>= λ ns. Ok (record { kind = k; form = formed routine types ws ls ns })) ≡ Ok given
    → IsMade routine types (Ok ws) (Ok ls) kind numbers given
made_of routine types ws ls kind (Err f) are numbers given e h = absurd (cc)
made_of routine types ws ls kind (Ok k) (Err f) numbers given e h = absurd (cc)
made_of routine types ws ls kind (Ok k) (Ok u) (Err f) given e h = absurd (cc)
made_of routine types ws ls kind (Ok k) (Ok u) (Ok ns) given e h =
    let one : Given = record { kind = k; form = formed routine types ws ls ns } in
    let is : IsMade routine types (Ok ws) (Ok ls) kind (Ok ns) one = record { routine_is = refl; types_are = refl; wires_are = refl; kind_is = e; numbers_are = refl } in
    subst (λ g. IsMade routine types (Ok ws) (Ok ls) kind (Ok ns) g) (same_ok one given h) is

made : (routine : Routine) (types : Types) (count known above : Result (Unit {0}) NetKind) (wires : Result (List WireNo) NetKind) (lists : Result (List ℕ) NetKind) (kind : Form → Result Kind NetKind) (are : Result (Unit {0}) NetKind) (numbers : Result (List ℤ) NetKind) (given : Given)
    → (count >>= λ _. known >>= λ _. above >>= λ _. wires >>= λ ws. lists >>= λ ls. kind (formed routine types ws ls []) >>= λ k. are >>= λ _. numbers >>= λ ns. Ok (record { kind = k; form = formed routine types ws ls ns })) ≡ Ok given
    → IsMade routine types wires lists kind numbers given
made routine types (Err f) known above wires lists kind are numbers given h = absurd (cc)
made routine types (Ok a) (Err f) above wires lists kind are numbers given h = absurd (cc)
made routine types (Ok a) (Ok b) (Err f) wires lists kind are numbers given h = absurd (cc)
made routine types (Ok a) (Ok b) (Ok c) (Err f) lists kind are numbers given h = absurd (cc)
made routine types (Ok a) (Ok b) (Ok c) (Ok ws) (Err f) kind are numbers given h = absurd (cc)
made routine types (Ok a) (Ok b) (Ok c) (Ok ws) (Ok ls) kind are numbers given h =
    made_of routine types ws ls kind (kind (formed routine types ws ls [])) are numbers given refl h

pub given_good : (lines : List (List ℕ)) (net : NetData) (routine : Routine) (types : Types) (words : List (List ℕ)) (given : Given) → given_line lines net routine types (signature_of routine types) words ≡ Ok given → IsGiven net routine types (nth words 2) given
unfolding given_line
given_good lines net routine types words given h =
    let sig = signature_of routine types in
    let n = names_in sig in
    let m = made routine types (demand (length words == 5 + n + length sig.ranges) BadCount) (demand (axis_passes (is_known lines net) (nth words 2) && all_pass (is_known lines net) n 5 words) UnknownName) (demand (axis_passes (is_above net) (nth words 2) && all_pass (is_above net) n 5 words) LaterWire) (wires_named net.wires sig.sorts 5 words) (lists_named net sig.lists (5 + length sig.sorts) words)
    (λ form. agreed net form (nth words 2)) (demand (are_numbers sig.ranges (5 + n) words) BadNumber) (numbers_in sig.ranges (5 + n) words) given h in
    let agree = agreed_good net (formed routine types given.form.wires given.form.lists []) (nth words 2) given.kind m.kind_is in
    record {
      routine_is = m.routine_is;
      types_are = m.types_are;
      earlier = named_earlier net.wires sig.sorts 5 words given.form.wires m.wires_are;
      found = agree.found;
      agrees = ap₂ (λ r t. form_agrees net given.kind (formed r t given.form.wires given.form.lists [])) m.routine_is m.types_are ∙ agree.agrees;
      fits = ap₂ (λ r t. in_ranges (signature_of r t).ranges given.form.numbers) m.routine_is m.types_are ∙ numbers_good sig.ranges (5 + n) words given.form.numbers m.numbers_are;
    }

-- a form's types are its routine's
takes_given : (net : NetData) (kind : Kind) (form : Form) → form_agrees net kind form ≡ true → takes_form form ≡ true
takes_given net kind form h = (agrees_parts net kind form h).taken

-- the block of a form that passes the tests is good
block_good : (net : NetData) (kind : Kind) (form : Form) → is_built form.routine ≡ true → wires_earlier (length net.wires) form.wires ≡ true → form_agrees net kind form ≡ true → numbers_fit form ≡ true → IsGoodItem net kind (OfBlock (block_of form))
block_good net kind form built earlier agrees fits =
    let sig = signature_in form in
    let parts = agrees_parts net kind form agrees in
    let full : IsFull form = record {
      built = built;
      taken = parts.taken;
      wires = same_lengths (λ sort w. is_of_sort net form.lists sort (wire_at net.wires w.0).kind) sig.sorts form.wires parts.wires;
      lists = same_lengths (is_list net form.lists) sig.lists form.lists parts.lists;
      numbers = fits;
    } in
    let b = block_of form in
    let is = block_of_full form full in
    let form_is : form_in net b ≡ form = ap (typed net.axes net.tables) is.back ∙ typed_back net form parts.taken parts.lists in
    record {
      built = ap (λ f. is_built f.routine) is.back ∙ built;
      earlier = ap (λ f. wires_earlier (length net.wires) f.wires) is.back ∙ earlier;
      agreed = true_if_both (form_agrees net kind (form_in net b)) (repeats_first b) (ap (form_agrees net kind) form_is ∙ agrees) is.repeats;
      in_range = true_if_both (numbers_fit (form_of b)) (adds_no_number b) (ap numbers_fit is.back ∙ ap (λ r. in_ranges r form.numbers) (ranges_kept form.routine form.types) ∙ fits) is.adds;
    }

-- what the code that makes a block is told of its form
pub given_ready : (lines : List (List ℕ)) (net : NetData) (routine : Routine) (types : Types) (signature : Signature) (words : List (List ℕ)) (given : Given) → signature ≡ signature_of routine types → is_built routine ≡ true → given_line lines net routine types signature words ≡ Ok given
    → (is_built given.form.routine ≡ true) × (takes_form given.form ≡ true) × (numbers_fit given.form ≡ true)
given_ready lines net routine types signature words given same built h =
    let is = given_good lines net routine types words given (ap (λ s. given_line lines net routine types s words) (sym same) ∙ h) in
    (ap is_built is.routine_is ∙ built, takes_given net given.kind given.form is.agrees, is.fits)

-- what a wire's line gives, where there is room for it
abbrev content_of : List Wire → Given → Result WireContent NetKind
content_of wires given = with_room wires given.kind (OfBlock (block_of given.form))

-- what the steps of a wire's line gave
record IsWireMade (wires : List Wire) (new : Result (Unit {0}) NetKind) (found : Result (Routine × Types) NetKind) (given : Routine × Types → Result Given NetKind) (content : WireContent) : Type 0 where
  new_is : new ≡ Ok tt
  routine : Routine × Types
  found_is : found ≡ Ok routine
  made : Given
  made_is : given routine ≡ Ok made
  gives : content_of wires made ≡ Ok content

wire_made : (wires : List Wire) (form new type : Result (Unit {0}) NetKind) (found : Result (Routine × Types) NetKind) (given : Routine × Types → Result Given NetKind) (content : WireContent)
    → (form >>= λ _. new >>= λ _. type >>= λ _. found >>= λ f. given f >>= λ g. content_of wires g) ≡ Ok content → IsWireMade wires new found given content
wire_made wires (Err e) new type found given content h = absurd (cc)
wire_made wires (Ok a) (Err e) type found given content h = absurd (cc)
wire_made wires (Ok a) (Ok b) (Err e) found given content h = absurd (cc)
wire_made wires (Ok a) (Ok b) (Ok c) (Err e) given content h = absurd (cc)
wire_made wires (Ok a) (Ok b) (Ok c) (Ok f) given content h =
    let r = bind_ok (given f) (λ g. content_of wires g) content h in
    record { new_is = refl; routine = f; found_is = refl; made = r.0; made_is = r.1; gives = r.2 }

-- a wire of a routine is good
wire_good : (lines : List (List ℕ)) (net : NetData) (words : List (List ℕ)) (content : WireContent) → wire_line lines net words ≡ Ok content → IsGood net (nth words 1) content
unfolding wire_line
wire_good lines net words content h =
    let m = wire_made net.wires (demand (nat_le 6 (length words) && bytes_eq (nth words 3) (codes "=")) BadLine) (fresh net (nth words 1)) (demand (is_type (nth words 2)) BadType) (routine_at (nth words 4)) (λ f. given_line lines net f.0 f.1 (signature_of f.0 f.1) words) content h in
    let name = fresh_ok net (nth words 1) tt m.new_is in
    let given = given_good lines net m.routine.0 m.routine.1 words m.made m.made_is in
    let block = block_good net m.made.kind m.made.form (ap is_built given.routine_is ∙ routine_built (nth words 4) m.routine m.found_is) given.earlier given.agrees given.fits in
    with_room_good net (nth words 1) m.made.kind (OfBlock (block_of m.made.form)) content name (kind_there net (nth words 2) m.made.kind given.found).good block m.gives

-- ---- a delay

-- its first value is good
delay_of_good : (net : NetData) (kind : Kind) (word : List ℕ) (source : WireNo) (item : Item) → is_kind_there net.axes kind ≡ true → delay_of net.axes kind word source ≡ Ok item → IsPlain net kind item
unfolding delay_of
delay_of_good net kind word source item there h =
    let r = bind_ok (number_at word) (λ init. demand (kind_holds net.axes kind init) OutOfRange >>= λ _. Ok (Delay init source)) item h in
    let d = bind_ok (demand (kind_holds net.axes kind r.0) OutOfRange) (λ _. Ok (Delay r.0 source)) item r.2 in
    let good : IsPlain net kind (Delay r.0 source) = record { good = record { built = refl; earlier = refl; agreed = there; in_range = demand_ok (kind_holds net.axes kind r.0) OutOfRange d.0 d.1 }; plain = refl } in
    subst (λ x. IsPlain net kind x) (same_ok (Delay r.0 source) item d.2) good

-- from the front on
delay_tests : (net : NetData) (name : List ℕ) (form new type known above : Result (Unit {0}) NetKind) (kind : Result Kind NetKind) (item : Kind → Result Item NetKind) (room : Result (Unit {0}) NetKind) (content : WireContent)
    → ((done : Unit {0}) → new ≡ Ok done → IsFresh net name) → ((k : Kind) → kind ≡ Ok k → IsThere net.axes k) → ((k : Kind) (x : Item) → IsThere net.axes k → item k ≡ Ok x → IsPlain net k x) → ((done : Unit {0}) → room ≡ Ok done → nat_lt (length net.wires) 512 ≡ true)
    → (form >>= λ _. new >>= λ _. type >>= λ _. known >>= λ _. above >>= λ _. kind >>= λ k. item k >>= λ x. room >>= λ _. Ok (record { kind = k; item = x })) ≡ Ok content → IsGood net name content
delay_tests net name (Err e) new type known above kind item room content f g i r h = absurd (cc)
delay_tests net name (Ok _) (Err e) type known above kind item room content f g i r h = absurd (cc)
delay_tests net name (Ok _) (Ok new) (Err e) known above kind item room content f g i r h = absurd (cc)
delay_tests net name (Ok _) (Ok new) (Ok _) (Err e) above kind item room content f g i r h = absurd (cc)
delay_tests net name (Ok _) (Ok new) (Ok _) (Ok _) (Err e) kind item room content f g i r h = absurd (cc)
delay_tests net name (Ok _) (Ok new) (Ok _) (Ok _) (Ok _) (Err e) item room content f g i r h = absurd (cc)
delay_tests net name (Ok _) (Ok new) (Ok _) (Ok _) (Ok _) (Ok kind) item room content f g i r h =
    content_end net name room kind (item kind) content (f new refl) (g kind refl).good (λ x e. i kind x (g kind refl) e) r h

-- a delay gives a good wire
delay_good : (lines : List (List ℕ)) (net : NetData) (words : List (List ℕ)) (content : WireContent) → delay_line lines net words ≡ Ok content → IsGood net (nth words 1) content
unfolding delay_line
delay_good lines net words content h =
    delay_tests net (nth words 1) (demand ((length words == 6) && bytes_eq (nth words 4) (codes "=")) BadLine) (fresh net (nth words 1)) (demand (is_type (nth words 2)) BadType) (demand (axis_passes (is_known lines net) (nth words 2) && is_known lines net (nth words 5)) UnknownName) (demand (axis_passes (is_above net) (nth words 2)) LaterWire) (ok_or (kind_named net (nth words 2)) TypeDiffers) (λ k. delay_of net.axes k (nth words 3) (source_named lines (nth words 5))) (has_place net.wires) content
    (λ done e. fresh_ok net (nth words 1) done e) (λ k e. kind_there net (nth words 2) k (ok_or_ok (kind_named net (nth words 2)) TypeDiffers k e)) (λ k x is e. delay_of_good net k (nth words 3) (source_named lines (nth words 5)) x is.there e) (place_ok net.wires) h

-- ---- axes and tables

-- an axis of a fresh name, where there is room for one more
pub record IsGoodAxis (net : NetData) (name : List ℕ) (made : AxisData) : Type 0 where
  pub named : is_name name ≡ true
  pub fresh : is_above net name ≡ false
  pub room : nat_lt (length net.axes) 64 ≡ true
  pub axis : IsAxis made.ty made.points
  pub spaced : IsSpaced made.points made.spacing

pub record IsGoodTable (net : NetData) (name : List ℕ) (made : TableData) : Type 0 where
  pub named : is_name name ≡ true
  pub fresh : is_above net name ≡ false
  pub room : nat_lt (length net.tables) 64 ≡ true
  pub table : IsTable made.ty made.values

narrow_width : (found : Option Ty) (ty : Ty) → narrow_of found ≡ Some ty → width_of ty ≤ 16
narrow_width (Some U8) ty h = let same : U8 ≡ ty = cc in subst (λ t. width_of t ≤ 16) same (omega arith)
narrow_width (Some S8) ty h = let same : S8 ≡ ty = cc in subst (λ t. width_of t ≤ 16) same (omega arith)
narrow_width (Some U16) ty h = let same : U16 ≡ ty = cc in subst (λ t. width_of t ≤ 16) same (omega arith)
narrow_width (Some S16) ty h = let same : S16 ≡ ty = cc in subst (λ t. width_of t ≤ 16) same (omega arith)
narrow_width (Some U32) ty h = cc
narrow_width (Some S32) ty h = cc
narrow_width None ty h = cc

-- what the front of such a line says
record IsFront (net : NetData) (name : List ℕ) (ty : Ty) : Type 0 where
  new : IsFresh net name
  narrow : width_of ty ≤ 16

front_good : (has_form : Bool) (net : NetData) (words : List (List ℕ)) (ty : Ty) → list_front has_form net words ≡ Ok ty → IsFront net (nth words 1) ty
unfolding list_front
front_good has_form net words ty h =
    let found = narrow_of (ty_of (nth words 2)) in
    let numbers = demand (list_all (λ word. is_some (number_of word)) (drop 3 words)) BadNumber in
    let a = bind_ok (demand has_form BadLine) (λ _. fresh net (nth words 1) >>= λ _. ok_or found BadType >>= λ t. numbers >>= λ _. Ok t) ty h in
    let b = bind_ok (fresh net (nth words 1)) (λ _. ok_or found BadType >>= λ t. numbers >>= λ _. Ok t) ty a.2 in
    let c = bind_ok (ok_or found BadType) (λ t. numbers >>= λ _. Ok t) ty b.2 in
    let d = bind_ok numbers (λ _. Ok c.0) ty c.2 in
    record {
      new = fresh_ok net (nth words 1) b.0 b.1;
      narrow = narrow_width (ty_of (nth words 2)) ty (ok_or_ok found BadType c.0 c.1 ∙ ap (λ t. Some t) (same_ok c.0 ty d.2));
    }

-- an axis that is made
record IsMadeAxis (above : ℕ) (made : AxisData) : Type 0 where
  room : nat_lt above 64 ≡ true
  axis : IsAxis made.ty made.points
  spaced : IsSpaced made.points made.spacing

points_good : (above : ℕ) (ty : Ty) (points : List ℤ) (axis : AxisData) → width_of ty ≤ 16 → points_given above ty points ≡ Ok axis → IsMadeAxis above axis
unfolding points_given
points_good above ty points axis narrow h =
    let r = bind_ok (demand (are_values ty points && rises points) OutOfRange) (λ _. demand (list_room above (length points)) TooMany >>= λ _. Ok (listed_axis ty points)) axis h in
    let d = bind_ok (demand (list_room above (length points)) TooMany) (λ _. Ok (listed_axis ty points)) axis r.2 in
    let good = demand_ok (are_values ty points && rises points) OutOfRange r.0 r.1 in
    let room = demand_ok (list_room above (length points)) TooMany d.0 d.1 in
    let few = first_of_both (nat_le (length points) 4096) (nat_lt above 64) room in
    let first : IsMadeAxis above (listed_axis ty points) = record { room = second_of_both (nat_le (length points) 4096) (nat_lt above 64) room; axis = listed_is_axis ty points narrow good few; spaced = tt } in
    subst (λ a. IsMadeAxis above a) (same_ok (listed_axis ty points) axis d.2) first

steps_good : (above : ℕ) (ty : Ty) (offset step count : ℤ) (axis : AxisData) → width_of ty ≤ 16 → steps_given above ty offset step count ≡ Ok axis → IsMadeAxis above axis
unfolding steps_given
steps_good above ty offset step count axis narrow h =
    let n = unsigned_abs count in
    let made = stepped_axis ty offset step n in
    let r = bind_ok (demand (are_steps ty offset step count) OutOfRange) (λ _. demand (list_room above n) TooMany >>= λ _. Ok made) axis h in
    let d = bind_ok (demand (list_room above n) TooMany) (λ _. Ok made) axis r.2 in
    let good = demand_ok (are_steps ty offset step count) OutOfRange r.0 r.1 in
    let room = demand_ok (list_room above n) TooMany d.0 d.1 in
    let few = first_of_both (nat_le n 4096) (nat_lt above 64) room in
    let first : IsMadeAxis above made = record {
      room = second_of_both (nat_le n 4096) (nat_lt above 64) room;
      axis = stepped_is_axis ty offset step count narrow good few;
      spaced = ap (stepped_points offset step) (sym (length-stepped_points offset step n));
    } in
    subst (λ a. IsMadeAxis above a) (same_ok made axis d.2) first

shift_good : (above : ℕ) (ty : Ty) (offset shift count : ℤ) (axis : AxisData) → width_of ty ≤ 16 → shift_given above ty offset shift count ≡ Ok axis → IsMadeAxis above axis
unfolding shift_given
shift_good above ty offset shift count axis narrow h =
    let step : ℤ = pos (2 ^ unsigned_abs shift) in
    let r = bind_ok (demand (is_in_range shifts shift) OutOfRange) (λ _. steps_given above ty offset step count) axis h in
    steps_good above ty offset step count axis narrow r.2

-- an axis's line, from its front and what stands behind
axis_good : (net : NetData) (name : List ℕ) (front : Result Ty NetKind) (rest : Ty → Result AxisData NetKind) (axis : AxisData) → ((ty : Ty) → front ≡ Ok ty → IsFront net name ty) → ((ty : Ty) (a : AxisData) → width_of ty ≤ 16 → rest ty ≡ Ok a → IsMadeAxis (length net.axes) a) → (front >>= rest) ≡ Ok axis → IsGoodAxis net name axis
axis_good net name (Err kind) rest axis f g h = absurd (cc)
axis_good net name (Ok ty) rest axis f g h =
    let front = f ty refl in
    let made = g ty axis front.narrow h in
    record { named = front.new.named; fresh = front.new.fresh; room = made.room; axis = made.axis; spaced = made.spaced }

axis_line_good : (net : NetData) (words : List (List ℕ)) (axis : AxisData) → axis_line net words ≡ Ok axis → IsGoodAxis net (nth words 1) axis
unfolding axis_line
axis_line_good net words axis h =
    axis_good net (nth words 1) (list_front (nat_le 4 (length words)) net words) (λ ty. points_given (length net.axes) ty (numbers_written (drop 3 words))) axis (front_good (nat_le 4 (length words)) net words) (λ ty. points_good (length net.axes) ty (numbers_written (drop 3 words))) h

axisstep_line_good : (net : NetData) (words : List (List ℕ)) (axis : AxisData) → axisstep_line net words ≡ Ok axis → IsGoodAxis net (nth words 1) axis
unfolding axisstep_line
axisstep_line_good net words axis h =
    axis_good net (nth words 1) (list_front (length words == 6) net words) (λ ty. steps_given (length net.axes) ty (number_written (nth words 3)) (number_written (nth words 4)) (number_written (nth words 5))) axis (front_good (length words == 6) net words)
    (λ ty. steps_good (length net.axes) ty (number_written (nth words 3)) (number_written (nth words 4)) (number_written (nth words 5))) h

axisshift_line_good : (net : NetData) (words : List (List ℕ)) (axis : AxisData) → axisshift_line net words ≡ Ok axis → IsGoodAxis net (nth words 1) axis
unfolding axisshift_line
axisshift_line_good net words axis h =
    axis_good net (nth words 1) (list_front (length words == 6) net words) (λ ty. shift_given (length net.axes) ty (number_written (nth words 3)) (number_written (nth words 4)) (number_written (nth words 5))) axis (front_good (length words == 6) net words)
    (λ ty. shift_good (length net.axes) ty (number_written (nth words 3)) (number_written (nth words 4)) (number_written (nth words 5))) h

table_line_good : (net : NetData) (words : List (List ℕ)) (table : TableData) → table_line net words ≡ Ok table → IsGoodTable net (nth words 1) table
unfolding table_line values_given
table_line_good net words table h =
    let values = numbers_written (drop 3 words) in
    let above = length net.tables in
    let made : Ty → TableData = λ ty. record { ty = ty; values = values } in
    let f = bind_ok (list_front (nat_le 4 (length words)) net words) (λ ty. demand (are_values ty values) OutOfRange >>= λ _. demand (list_room above (length values)) TooMany >>= λ _. Ok (made ty)) table h in
    let front = front_good (nat_le 4 (length words)) net words f.0 f.1 in
    let r = bind_ok (demand (are_values f.0 values) OutOfRange) (λ _. demand (list_room above (length values)) TooMany >>= λ _. Ok (made f.0)) table f.2 in
    let d = bind_ok (demand (list_room above (length values)) TooMany) (λ _. Ok (made f.0)) table r.2 in
    let good = demand_ok (are_values f.0 values) OutOfRange r.0 r.1 in
    let room = demand_ok (list_room above (length values)) TooMany d.0 d.1 in
    let first : IsGoodTable net (nth words 1) (made f.0) = record {
      named = front.new.named;
      fresh = front.new.fresh;
      room = second_of_both (nat_le (length values) 4096) (nat_lt above 64) room;
      table = values_are_table f.0 values front.narrow good (first_of_both (nat_le (length values) 4096) (nat_lt above 64) room);
    } in
    subst (λ t. IsGoodTable net (nth words 1) t) (same_ok (made f.0) table d.2) first

-- ---- any line that defines a name

-- what a line gives is good behind what stands above
abbrev pub IsGoodContent : NetData → List ℕ → Content → Type 0
IsGoodContent net name (OfWire content) = IsGood net name content
IsGoodContent net name (OfAxis axis) = IsGoodAxis net name axis
IsGoodContent net name (OfTable table) = IsGoodTable net name table

as_wire_good : (net : NetData) (name : List ℕ) (made : Result WireContent NetKind) (content : Content) → ((w : WireContent) → made ≡ Ok w → IsGood net name w) → as_wire made ≡ Ok content → IsGoodContent net name content
as_wire_good net name (Ok w) content g h = subst (λ c. IsGoodContent net name c) (same_ok (OfWire w) content h) (g w refl)
as_wire_good net name (Err kind) content g h = absurd (cc)

as_axis_good : (net : NetData) (name : List ℕ) (made : Result AxisData NetKind) (content : Content) → ((a : AxisData) → made ≡ Ok a → IsGoodAxis net name a) → as_axis made ≡ Ok content → IsGoodContent net name content
as_axis_good net name (Ok a) content g h = subst (λ c. IsGoodContent net name c) (same_ok (OfAxis a) content h) (g a refl)
as_axis_good net name (Err kind) content g h = absurd (cc)

as_table_good : (net : NetData) (name : List ℕ) (made : Result TableData NetKind) (content : Content) → ((t : TableData) → made ≡ Ok t → IsGoodTable net name t) → as_table made ≡ Ok content → IsGoodContent net name content
as_table_good net name (Ok t) content g h = subst (λ c. IsGoodContent net name c) (same_ok (OfTable t) content h) (g t refl)
as_table_good net name (Err kind) content g h = absurd (cc)

-- a line that isn't built gives nothing
unbuilt_tests : (net : NetData) (name : List ℕ) (form new type : Result (Unit {0}) NetKind) (content : Content) → (form >>= λ _. new >>= λ _. type >>= λ _. Err NotBuilt) ≡ Ok content → IsGoodContent net name content
unbuilt_tests net name (Err fault) new type content h = absurd (cc)
unbuilt_tests net name (Ok _) (Err fault) type content h = absurd (cc)
unbuilt_tests net name (Ok _) (Ok _) (Err fault) content h = absurd (cc)
unbuilt_tests net name (Ok _) (Ok _) (Ok _) content h = absurd (cc)

map_good : (net : NetData) (words : List (List ℕ)) (content : Content) → map_line net words ≡ Ok content → IsGoodContent net (nth words 1) content
unfolding map_line
map_good net words content h =
    unbuilt_tests net (nth words 1) (demand (nat_le 5 (length words)) BadLine) (fresh net (nth words 1)) (demand (is_some (narrow_of (ty_of (nth words 2)))) BadType) content h

-- whichever keyword the line has
line_good : (keyword : Keyword) (lines : List (List ℕ)) (net : NetData) (words : List (List ℕ)) (content : Content) → line_of keyword lines net words ≡ Ok content → IsGoodContent net (nth words 1) content
unfolding line_of
line_good InLine lines net words content h = as_wire_good net (nth words 1) (in_line net words) content (in_good net words) h
line_good ConstLine lines net words content h =
    as_wire_good net (nth words 1) (const_line net words) content (const_good net words) h
line_good AxisLine lines net words content h =
    as_axis_good net (nth words 1) (axis_line net words) content (axis_line_good net words) h
line_good AxisStepLine lines net words content h =
    as_axis_good net (nth words 1) (axisstep_line net words) content (axisstep_line_good net words) h
line_good AxisShiftLine lines net words content h =
    as_axis_good net (nth words 1) (axisshift_line net words) content (axisshift_line_good net words) h
line_good TableLine lines net words content h =
    as_table_good net (nth words 1) (table_line net words) content (table_line_good net words) h
line_good MapLine lines net words content h = map_good net words content h
line_good WireLine lines net words content h =
    as_wire_good net (nth words 1) (wire_line lines net words) content (wire_good lines net words) h
line_good DelayLine lines net words content h =
    as_wire_good net (nth words 1) (delay_line lines net words) content (delay_good lines net words) h

-- the line has one
by_keyword : (found : Result Keyword NetKind) (lines : List (List ℕ)) (net : NetData) (words : List (List ℕ)) (content : Content) → (found >>= λ keyword. line_of keyword lines net words) ≡ Ok content → IsGoodContent net (nth words 1) content
by_keyword (Err fault) lines net words content h = absurd (cc)
by_keyword (Ok keyword) lines net words content h = line_good keyword lines net words content h

-- a line that defines a name gives what is good
pub definition_good : (lines : List (List ℕ)) (net : NetData) (words : List (List ℕ)) (content : Content) → defining_line lines net words ≡ Ok content → IsGoodContent net (nth words 1) content
unfolding defining_line
definition_good lines net words content h =
    by_keyword (ok_or (keyword_of (nth words 0)) BadLine) lines net words content h

-- its name is one, and it is fresh
pub content_name : (net : NetData) (name : List ℕ) (content : Content) → IsGoodContent net name content → (is_name name ≡ true) × (is_above net name ≡ false)
content_name net name (OfWire content) g = (g.named, g.fresh)
content_name net name (OfAxis axis) g = (g.named, g.fresh)
content_name net name (OfTable table) g = (g.named, g.fresh)

-- and it has its room
below_test : (a n : ℕ) → nat_lt a n ≡ true → a < n
below_test a n h = grind (arith, nat_tests)

pub content_place : (net : NetData) (name : List ℕ) (content : Content) → IsGoodContent net name content → HasPlace net content
content_place net name (OfWire content) g = below_test (length net.wires) 512 g.room
content_place net name (OfAxis axis) g = below_test (length net.axes) 64 g.room
content_place net name (OfTable table) g = below_test (length net.tables) 64 g.room

-- ---- an output's line

-- the number of a wire that isn't an output yet
pub record IsGoodOut (wires : List Wire) (outs : List WireNo) (out : WireNo) : Type 0 where
  pub within : nat_lt out.0 (length wires) ≡ true
  pub fresh : is_among outs out ≡ false

-- an output is a wire that isn't one yet
out_made : (wires : List Wire) (outs : List WireNo) (found : Option ℕ) (out : WireNo) → ((place : ℕ) → found ≡ Some place → nat_lt place (length wires) ≡ true) → is_output outs found ≡ false → (ok_or found TypeDiffers >>= λ place. Ok (record { 0 = place })) ≡ Ok out → IsGoodOut wires outs out
out_made wires outs None out within new h = absurd (cc)
out_made wires outs (Some place) out within new h =
    let made : WireNo = record { 0 = place } in
    let first : IsGoodOut wires outs made = record { within = within place refl; fresh = new } in
    subst (λ o. IsGoodOut wires outs o) (same_ok made out h) first

pub output_line_good : (lines : List (List ℕ)) (net : NetData) (words : List (List ℕ)) (out : WireNo) → out_line lines net words ≡ Ok out → IsGoodOut net.wires net.outs out
unfolding out_line wire_named
output_line_good lines net words out h =
    let name = nth words 1 in
    let found = place_of net.wires name in
    let end : Result WireNo NetKind = ok_or found TypeDiffers >>= λ place. Ok (record { 0 = place }) in
    let repeated = demand (not (is_output net.outs found)) Repeated in
    let a = bind_ok (demand (length words == 2) BadLine) (λ _. demand (is_name name) BadName >>= λ _. repeated >>= λ _. demand (is_known lines net name) UnknownName >>= λ _. demand (is_above net name) LaterWire >>= λ _. end) out h in
    let b = bind_ok (demand (is_name name) BadName) (λ _. repeated >>= λ _. demand (is_known lines net name) UnknownName >>= λ _. demand (is_above net name) LaterWire >>= λ _. end) out a.2 in
    let c = bind_ok repeated (λ _. demand (is_known lines net name) UnknownName >>= λ _. demand (is_above net name) LaterWire >>= λ _. end) out b.2 in
    let d = bind_ok (demand (is_known lines net name) UnknownName) (λ _. demand (is_above net name) LaterWire >>= λ _. end) out c.2 in
    let e = bind_ok (demand (is_above net name) LaterWire) (λ _. end) out d.2 in
    out_made net.wires net.outs found out (place_within net.wires name) (not_true (is_output net.outs found) (demand_ok (not (is_output net.outs found)) Repeated c.0 c.1)) e.2
