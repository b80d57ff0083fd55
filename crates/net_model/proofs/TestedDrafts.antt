-- A draft passes its tests exactly where its network is valid.
use Rattle.std.proofs.Common.{add-one, zero-add, leb-true, leb-false, cond, Some, drop-cons, drop_of_length-le, true≢false, ◌||◌, ◌≡◌, ℕ, zero, suc, ◌+◌, ◌<◌, ◌≤◌, Bool, true, false, not, ◌&&◌, List, [], ◌∷◌, ◌++◌, map, length, get_or, take, drop, nat_lt, nat_le, le-leb, refl, sym, ap, ap₂, ◌∙◌, Result, Ok, Err, bytes_eq, arith}
use Rattle.std.specs.Prelude.{is_ok}
use Rattle.std.specs.List.{list_any, list_all, position_from}
use Rattle.std.proofs.lemmas.Iterator.Adapters.{position_from-zero}
use Rattle.std.proofs.lemmas.List.{length-take-le, take_all}
use Rattle.std.proofs.lemmas.Bool.{lt-leb, and_parts, and_from}
use Rattle.text_words.specs.Names.{is_name}
use Rattle.text_words.specs.Steps.{◌>>=◌, demand}
use Rattle.net_model.specs.declared.network.NetKind.{NetKind}
use Rattle.net_model.specs.declared.network.NetKind.TheVariants.{Repeated, NotBuilt, LaterWire, TypeDiffers, OutOfRange, TooMany, Missing}
use Rattle.net_model.specs.declared.draft_checks.Fault.{Fault}
use Rattle.net_model.specs.declared.wires.WireNo.{WireNo}
use Rattle.net_model.specs.declared.wires.Wire.{Wire}
use Rattle.net_model.specs.Wires.{NetData, no_wire, window_of, window_sum}
use Rattle.net_model.specs.Validity.{AreAxes, AreTables, axis_names, table_names, wire_names, list_names, IsValid, is_valid, is_good_wire, is_good_kind, is_sourced, is_built_item, item_reads_earlier, item_agrees, item_in_range, are_good_from, is_among, are_distinct_outs, has_ends}
use Rattle.net_model.specs.Faults.{is_named, lists_tested, are_named, has_name, has_room, unsourced_at, sources_tested, wire_tested, at_wire, wires_tested, out_tested, outs_tested, ends_tested, tested}
use Rattle.net_model.specs.Laws.{TestsDecideValidity}
use Rattle.net_model.proofs.ValidityFacts.{conditions, name_of_good}
use Rattle.net_model.proofs.ListNames.{unlisted, unlisted-is, names_apart, lists_decide}
use Rattle.net_model.proofs.DraftLemmas.{same_tests, apart, distinct, new_from, good_from, apart-nil, new_from-is, remains, remains-zero, remains-step, remains-end, same_name, same_name_comm, same_number, same_number_comm}

-- two tests in their order
two_tests : Bool → Bool → Result (Unit {0}) NetKind
two_tests a b = do
  _ ← demand a Repeated
  demand b LaterWire

-- ---- one wire

-- six tests in their order
six_tests : Bool → Bool → Bool → Bool → Bool → Bool → Result (Unit {0}) NetKind
six_tests a b c d e f = do
  _ ← demand a Repeated
  _ ← demand b NotBuilt
  _ ← demand c LaterWire
  _ ← demand d TypeDiffers
  _ ← demand e OutOfRange
  demand f TooMany

six_tests_pass : (a b c d e f : Bool) → is_ok (six_tests a b c d e f) ≡ (a && (b && (c && (d && (e && f)))))
unfolding six_tests
six_tests_pass true true true true true true = refl
six_tests_pass true true true true true false = refl
six_tests_pass true true true true false f = refl
six_tests_pass true true true false e f = refl
six_tests_pass true true false d e f = refl
six_tests_pass true false c d e f = refl
six_tests_pass false b c d e f = refl

regroup_tests : (l a n b c d k r m : Bool) → n ≡ true → (not (l || a) && (b && (c && (d && ((k && r) && m))))) ≡ (not a && (not l && ((n && b && c && d && k && r) && m)))
regroup_tests false false true true true true true r m h = refl
regroup_tests false false true true true true false r m h = refl
regroup_tests false false true true true false k r m h = refl
regroup_tests false false true true false d k r m h = refl
regroup_tests false false true false c d k r m h = refl
regroup_tests l a false b c d k r m h = absurd (true≢false (sym h))
regroup_tests false true true b c d k r m h = refl
regroup_tests true true true b c d k r m h = refl
regroup_tests true false true b c d k r m h = refl

-- there is room for wire i behind those before it
room_at : List Wire → ℕ → Wire → Bool
room_at wires i w = has_room (take i wires) w.item

-- the wire is good in its place, and there is room for it
fits_place : NetData → ℕ → Wire → Bool
fits_place net i w = is_good_wire net i w && room_at net.wires i w

-- and it has the name of no axis and no table
good_place : NetData → ℕ → Wire → Bool
good_place net i w = unlisted (list_names net) i w && fits_place net i w

wire_passes : (net : NetData) (i : ℕ) (w : Wire) → is_name w.name ≡ true → is_ok (wire_tested net i w) ≡ (not (list_any (same_name w) (take i net.wires)) && good_place net i w)
unfolding wire_tested six_tests same_name good_place fits_place room_at unlisted
wire_passes net i w named =
    six_tests_pass (not (is_named (list_names net) w.name || has_name (take i net.wires) w.name)) (is_built_item w.item) (item_reads_earlier i w.item) (item_agrees net w.kind w.item) (is_good_kind w.kind && item_in_range net.axes w.kind w.item) (has_room (take i net.wires) w.item)
    ∙ regroup_tests (is_named (list_names net) w.name) (has_name (take i net.wires) w.name) (is_name w.name) (is_built_item w.item) (item_reads_earlier i w.item) (item_agrees net w.kind w.item) (is_good_kind w.kind) (item_in_range net.axes w.kind w.item) (has_room (take i net.wires) w.item) named

-- ---- all wires

-- one test and those behind it
at_wire_passes : (i : ℕ) (first : Result (Unit {0}) NetKind) (rest : Result (Unit {0}) Fault) → is_ok (at_wire i first >>= λ _. rest) ≡ (is_ok first && is_ok rest)
at_wire_passes i (Ok u) rest = refl
at_wire_passes i (Err k) rest = refl

-- the name at a place is one
pub name_at : (wires : List Wire) (i : ℕ) → are_named wires ≡ true → i < length wires → is_name (get_or wires i no_wire).name ≡ true
name_at [] i h lt = absurd (omega arith)
name_at (w ∷ wires) zero h lt = (and_parts _ _ h).0
name_at (w ∷ wires) (suc i) h lt = let shorter : i < length wires = omega arith in name_at wires i ((and_parts _ _ h).1) shorter

-- what is left of a list at a place, and what stands there
left_at : (wires : List Wire) (i : ℕ) → i < length wires → drop i wires ≡ get_or wires i no_wire ∷ drop (i + 1) wires
left_at wires i lt = drop-cons wires i no_wire lt ∙ ap (λ k. get_or wires i no_wire ∷ drop k wires) (sym (add-one i))

wires_pass : (net : NetData) (k i : ℕ) → i + k ≡ length net.wires → are_named net.wires ≡ true → is_ok (wires_tested net i (drop i net.wires)) ≡ remains same_name (good_place net) net.wires i
unfolding wires_tested
wires_pass net zero i e named =
    let past : length net.wires ≤ i = omega arith in
    ap (λ rest. is_ok (wires_tested net i rest)) (drop_of_length-le net.wires past) ∙ sym (remains-end same_name (good_place net) net.wires i past)
wires_pass net (suc k) i e named =
    let lt : i < length net.wires = omega arith in
    let next : (i + 1) + k ≡ length net.wires = omega arith in
    let here : Wire = get_or net.wires i no_wire in
    ap (λ rest. is_ok (wires_tested net i rest)) (left_at net.wires i lt)
    ∙ at_wire_passes i (wire_tested net i here) (wires_tested net (i + 1) (drop (i + 1) net.wires))
    ∙ ap₂ (λ t u. t && u) (wire_passes net i here (name_at net.wires i named lt)) (wires_pass net k (i + 1) next named)
    ∙ sym (remains-step same_name (good_place net) no_wire net.wires i lt)

-- ---- room for all

-- two tests of each place are the one and the other
regroup_both : (a b c d : Bool) → ((a && b) && (c && d)) ≡ ((a && c) && (b && d))
regroup_both true true c d = refl
regroup_both true false true d = refl
regroup_both true false false d = refl
regroup_both false b c d = refl

pass_both : (a b both : ℕ → Wire → Bool) → ((i : ℕ) (w : Wire) → both i w ≡ (a i w && b i w)) → (i : ℕ) (rest : List Wire) → good_from both i rest ≡ (good_from a i rest && good_from b i rest)
unfolding good_from
pass_both a b both h i [] = refl
pass_both a b both h i (w ∷ rest) =
    ap₂ (λ s t. s && t) (h i w) (pass_both a b both h (i + 1) rest) ∙ regroup_both (a i w) (b i w) (good_from a (i + 1) rest) (good_from b (i + 1) rest)

good_wires : (net : NetData) (i : ℕ) (rest : List Wire) → good_from (is_good_wire net) i rest ≡ are_good_from net i rest
unfolding good_from
good_wires net i [] = refl
good_wires net i (w ∷ rest) = ap (λ t. is_good_wire net i w && t) (good_wires net (i + 1) rest)

-- one more place, by the test of the total behind it
one_more : (b : Bool) (here there limit : ℕ) (rest : Bool) → nat_le here limit ≡ b → here ≤ there → (here ≤ limit → rest ≡ nat_le there limit) → (b && rest) ≡ nat_le there limit
one_more true here there limit rest e le later = later (leb-true _ _ e)
one_more false here there limit rest e le later = let past : limit < here = leb-false here limit e in sym (lt-leb there limit (omega arith))

-- what never falls from one place to the next isn't less later
later_more : (total : ℕ → ℕ) → ((i : ℕ) → total i ≤ total (suc i)) → (k i n : ℕ) → i + k ≡ n → total i ≤ total n
later_more total grows zero i n e = let same : i ≡ n = omega arith in rw same (omega arith)
later_more total grows (suc k) i n e =
    let next : suc i + k ≡ n = omega arith in omega (arith, grows i, later_more total grows k (suc i) n next)

-- a total that never falls is within its limit behind all wires where it is behind each
within_limit : (wires : List Wire) (test : ℕ → Wire → Bool) (total : ℕ → ℕ) (limit : ℕ) → ((i : ℕ) → total i ≤ total (suc i)) → ((i : ℕ) → i < length wires → test i (get_or wires i no_wire) ≡ nat_le (total (suc i)) limit)
    → (k i : ℕ) → i + k ≡ length wires → total i ≤ limit → good_from test i (drop i wires) ≡ nat_le (total (length wires)) limit
unfolding good_from
within_limit wires test total limit grows tests zero i e fits =
    let past : length wires ≤ i = omega arith in
    let all : length wires ≡ i = omega arith in
    ap (good_from test i) (drop_of_length-le wires past) ∙ sym (le-leb (total (length wires)) limit (rw all fits))
within_limit wires test total limit grows tests (suc k) i e fits =
    let lt : i < length wires = omega arith in
    let next : (i + 1) + k ≡ length wires = omega arith in
    let after : suc i + k ≡ length wires = omega arith in
    let rest = good_from test (i + 1) (drop (i + 1) wires) in
    ap (good_from test i) (left_at wires i lt)
    ∙ ap (λ t. t && rest) (tests i lt)
    ∙ one_more (nat_le (total (suc i)) limit) (total (suc i)) (total (length wires)) limit rest refl (later_more total grows k (suc i) (length wires) after)
    (λ within. within_limit wires test total limit grows tests k (i + 1) next (rw (add-one i) within))

-- how many wires stand before a place
count_room : (wires : List Wire) (i : ℕ) → i < length wires → nat_lt (length (take i wires)) 512 ≡ nat_le (suc i) 512
count_room wires i lt = let count : length (take i wires) ≡ i = length-take-le i wires (omega arith) in rw count refl

-- over how many rows their averages go
rows_next : (wires : List Wire) (i : ℕ) → i < length wires → window_sum (take (suc i) wires) ≡ window_sum (take i wires) + window_of (get_or wires i no_wire).item
rows_next [] i lt = absurd (omega arith)
rows_next (w ∷ wires) zero lt = omega arith
rows_next (w ∷ wires) (suc i) lt = omega (arith, rows_next wires i (omega arith))

rows_grow : (wires : List Wire) (i : ℕ) → window_sum (take i wires) ≤ window_sum (take (suc i) wires)
rows_grow [] zero = omega arith
rows_grow [] (suc i) = omega arith
rows_grow (w ∷ wires) zero = omega arith
rows_grow (w ∷ wires) (suc i) = omega (arith, rows_grow wires i)

-- there is room for the wires and for their averages
room_for_all : (wires : List Wire) → good_from (room_at wires) 0 wires ≡ (nat_le (length wires) 512 && nat_le (window_sum wires) 65536)
unfolding room_at
room_for_all wires =
    pass_both (λ i w. nat_lt (length (take i wires)) 512) (λ i w. nat_le (window_sum (take i wires) + window_of w.item) 65536) (room_at wires) (λ i w. refl) 0 wires
    ∙ ap₂ (λ s t. s && t)
    (within_limit wires (λ i w. nat_lt (length (take i wires)) 512) (λ i. i) 512 (λ i. omega arith) (count_room wires) (length wires) 0 (zero-add (length wires)) (omega arith))
    (within_limit wires (λ i w. nat_le (window_sum (take i wires) + window_of w.item) 65536) (λ i. window_sum (take i wires)) 65536 (rows_grow wires) (λ i lt. ap (λ n. nat_le n 65536) (sym (rows_next wires i lt))) (length wires) 0 (zero-add (length wires)) (omega arith)
    ∙ ap (λ ws. nat_le (window_sum ws) 65536) (take_all (length wires) wires (omega arith)))

-- the wires are good where they are in their places and there is room for all
fit_places : (net : NetData) → good_from (fits_place net) 0 net.wires ≡ (are_good_from net 0 net.wires && (nat_le (length net.wires) 512 && nat_le (window_sum net.wires) 65536))
unfolding fits_place
fit_places net =
    pass_both (is_good_wire net) (room_at net.wires) (fits_place net) (λ i w. refl) 0 net.wires ∙ ap₂ (λ s t. s && t) (good_wires net 0 net.wires) (room_for_all net.wires)

-- and where none has the name of an axis or a table
good_places : (net : NetData) → good_from (good_place net) 0 net.wires ≡ (apart bytes_eq (list_names net) (wire_names net.wires) && (are_good_from net 0 net.wires && (nat_le (length net.wires) 512 && nat_le (window_sum net.wires) 65536)))
unfolding good_place
good_places net =
    pass_both (unlisted (list_names net)) (fits_place net) (good_place net) (λ i w. refl) 0 net.wires ∙ ap₂ (λ s t. s && t) (unlisted-is (list_names net) 0 net.wires) (fit_places net)

-- ---- the delays' sources

no_fault : (wires xs : List Wire) (i : ℕ) → is_ok (unsourced_at (position_from (λ w. not (is_sourced wires w)) i xs)) ≡ list_all (is_sourced wires) xs
no_fault wires [] i = refl
no_fault wires (x ∷ xs) i = by (is_sourced wires x) (no_fault wires xs (i + 1))
  where
    by : (t : Bool) → is_ok (unsourced_at (position_from (λ w. not (is_sourced wires w)) (i + 1) xs)) ≡ list_all (is_sourced wires) xs → is_ok (unsourced_at (cond (not t) (Some i) (position_from (λ w. not (is_sourced wires w)) (i + 1) xs))) ≡ (t && list_all (is_sourced wires) xs)
    by true later = later
    by false later = refl

sources_decide : (wires : List Wire) → is_ok (sources_tested wires) ≡ list_all (is_sourced wires) wires
unfolding sources_tested
sources_decide wires = ap (λ found. is_ok (unsourced_at found)) (position_from-zero (λ w. not (is_sourced wires w)) wires) ∙ no_fault wires wires 0

-- ---- the names

list_any-names : (name : List ℕ) (wires : List Wire) → list_any (bytes_eq name) (map (λ w. w.name) wires) ≡ list_any (λ w. bytes_eq name w.name) wires
list_any-names name [] = refl
list_any-names name (w ∷ wires) = ap (λ t. bytes_eq name w.name || t) (list_any-names name wires)

distinct-names : (wires : List Wire) → distinct same_name wires ≡ distinct bytes_eq (wire_names wires)
unfolding distinct same_name
distinct-names [] = refl
distinct-names (w ∷ wires) = ap₂ (λ t u. not t && u) (sym (list_any-names w.name wires)) (distinct-names wires)

-- the tests of all wires are those of their names, of each wire in its place, and of what there is room for
wires_decide : (net : NetData) → are_named net.wires ≡ true → is_ok (wires_tested net 0 net.wires) ≡ (distinct bytes_eq (wire_names net.wires) && (apart bytes_eq (list_names net) (wire_names net.wires) && (are_good_from net 0 net.wires && (nat_le (length net.wires) 512 && nat_le (window_sum net.wires) 65536))))
wires_decide net named =
    wires_pass net (length net.wires) 0 (zero-add (length net.wires)) named
    ∙ remains-zero same_name (good_place net) same_name_comm net.wires
    ∙ ap₂ (λ t u. t && u) (distinct-names net.wires) (good_places net)

-- ---- the outputs

distinct-outs : (outs : List WireNo) → distinct same_number outs ≡ are_distinct_outs outs
unfolding distinct same_number
distinct-outs [] = refl
distinct-outs (o ∷ outs) = ap (λ u. not (is_among outs o) && u) (distinct-outs outs)

-- each output is one of so many wires
abbrev are_below : ℕ → List WireNo → Bool
are_below count outs = list_all (λ o. nat_lt o.0 count) outs

regroup_out : (a b n l : Bool) (rest : Result (Unit {0}) NetKind) → is_ok rest ≡ (n && l) → is_ok (two_tests a b >>= λ _. rest) ≡ ((a && n) && (b && l))
unfolding two_tests
regroup_out true true n l rest h = h
regroup_out true false true l rest h = refl
regroup_out true false false l rest h = refl
regroup_out false b n l rest h = refl

outs_pass : (count : ℕ) (seen outs : List WireNo) → is_ok (outs_tested count seen outs) ≡ (new_from same_number seen outs && are_below count outs)
unfolding outs_tested out_tested new_from same_number two_tests
outs_pass count seen [] = refl
outs_pass count seen (o ∷ outs) =
    regroup_out (not (is_among seen o)) (nat_lt o.0 count) (new_from same_number (seen ++ o ∷ []) outs) (are_below count outs) (outs_tested count (seen ++ o ∷ []) outs) (outs_pass count (seen ++ o ∷ []) outs)

outs_decide : (count : ℕ) (outs : List WireNo) → is_ok (outs_tested count [] outs) ≡ (are_distinct_outs outs && are_below count outs)
outs_decide count outs =
    outs_pass count [] outs
    ∙ ap (λ t. t && are_below count outs) (new_from-is same_number same_number_comm [] outs ∙ ap (λ t. t && distinct same_number outs) (apart-nil same_number outs) ∙ distinct-outs outs)

-- ---- the whole draft

behind_outs : (b : Bool) (lists outs : Result (Unit {0}) NetKind) → is_ok (lists >>= λ _. outs >>= λ _. demand b Missing) ≡ (is_ok lists && (is_ok outs && b))
behind_outs true (Ok u) (Ok v) = refl
behind_outs false (Ok u) (Ok v) = refl
behind_outs b (Ok u) (Err k) = refl
behind_outs b (Err k) outs = refl

behind_wires : (i : ℕ) (wires sources : Result (Unit {0}) Fault) (ends : Result (Unit {0}) NetKind) → is_ok (wires >>= λ _. sources >>= λ _. at_wire i ends) ≡ (is_ok wires && (is_ok sources && is_ok ends))
behind_wires i (Ok u) (Ok s) (Ok v) = refl
behind_wires i (Ok u) (Ok s) (Err k) = refl
behind_wires i (Ok u) (Err f) ends = refl
behind_wires i (Err f) sources ends = refl

-- the tests of a network in their order, as a draft makes them and as they are said of a valid network
abbrev by_draft : (f r a t x p y l w g s o n e : Bool) → Bool
by_draft f r a t x p y l w g s o n e = (w && (l && (g && (f && r)))) && (s && ((x && (a && ((p && y) && t))) && ((n && o) && e)))

abbrev by_network : (f r a t x p y l w g s o n e : Bool) → Bool
by_network f r a t x p y l w g s o n e = f && r && a && t && ((x && (p && y)) && (l && w)) && g && s && o && n && e

-- all of them are passed
record AllPass (f r a t x p y l w g s o n e : Bool) : Type 0 where
  rows : (f ≡ true) × (r ≡ true)
  counts : (a ≡ true) × (t ≡ true)
  lists : (x ≡ true) × (p ≡ true) × (y ≡ true)
  wires : (l ≡ true) × (w ≡ true) × (g ≡ true)
  behind : (s ≡ true) × (o ≡ true) × (n ≡ true) × (e ≡ true)

draft_passes : (f r a t x p y l w g s o n e : Bool) → by_draft f r a t x p y l w g s o n e ≡ true → AllPass f r a t x p y l w g s o n e
draft_passes f r a t x p y l w g s o n e h =
    let h0 = and_parts (w && (l && (g && (f && r)))) (s && ((x && (a && ((p && y) && t))) && ((n && o) && e))) h in
    let h1 = and_parts w (l && (g && (f && r))) h0.0 in
    let h2 = and_parts l (g && (f && r)) h1.1 in
    let h3 = and_parts g (f && r) h2.1 in
    let h4 = and_parts f r h3.1 in
    let h5 = and_parts s ((x && (a && ((p && y) && t))) && ((n && o) && e)) h0.1 in
    let h6 = and_parts (x && (a && ((p && y) && t))) ((n && o) && e) h5.1 in
    let h7 = and_parts x (a && ((p && y) && t)) h6.0 in
    let h8 = and_parts a ((p && y) && t) h7.1 in
    let h9 = and_parts (p && y) t h8.1 in
    let h10 = and_parts p y h9.0 in
    let h11 = and_parts (n && o) e h6.1 in
    let h12 = and_parts n o h11.0 in
    record { rows = (h4.0, h4.1); counts = (h8.0, h9.1); lists = (h7.0, h10.0, h10.1); wires = (h2.0, h1.0, h3.0); behind = (h5.0, h12.1, h12.0, h11.1) }

network_passes : (f r a t x p y l w g s o n e : Bool) → by_network f r a t x p y l w g s o n e ≡ true → AllPass f r a t x p y l w g s o n e
network_passes f r a t x p y l w g s o n e h =
    let d = (x && (p && y)) && (l && w) in
    let h1 = and_parts (f && r && a && t && d && g && s && o && n) e h in
    let h2 = and_parts (f && r && a && t && d && g && s && o) n h1.0 in
    let h3 = and_parts (f && r && a && t && d && g && s) o h2.0 in
    let h4 = and_parts (f && r && a && t && d && g) s h3.0 in
    let h5 = and_parts (f && r && a && t && d) g h4.0 in
    let h6 = and_parts (f && r && a && t) d h5.0 in
    let h7 = and_parts (f && r && a) t h6.0 in
    let h8 = and_parts (f && r) a h7.0 in
    let h9 = and_parts f r h8.0 in
    let h10 = and_parts (x && (p && y)) (l && w) h6.1 in
    let h11 = and_parts x (p && y) h10.0 in
    let h12 = and_parts p y h11.1 in
    let h13 = and_parts l w h10.1 in
    record { rows = (h9.0, h9.1); counts = (h8.1, h7.1); lists = (h11.0, h12.0, h12.1); wires = (h13.0, h13.1, h5.1); behind = (h4.1, h3.1, h2.1, h1.1) }

-- where all are passed, both are true
both_true : (f r a t x p y l w g s o n e : Bool) → AllPass f r a t x p y l w g s o n e → (by_draft f r a t x p y l w g s o n e ≡ true) × (by_network f r a t x p y l w g s o n e ≡ true)
both_true true true true true true true true true true true true true true true h = (refl, refl)
both_true false r a t x p y l w g s o n e h = absurd (true≢false (sym h.rows.0))
both_true f false a t x p y l w g s o n e h = absurd (true≢false (sym h.rows.1))
both_true f r false t x p y l w g s o n e h = absurd (true≢false (sym h.counts.0))
both_true f r a false x p y l w g s o n e h = absurd (true≢false (sym h.counts.1))
both_true f r a t false p y l w g s o n e h = absurd (true≢false (sym h.lists.0))
both_true f r a t x false y l w g s o n e h = absurd (true≢false (sym h.lists.1))
both_true f r a t x p false l w g s o n e h = absurd (true≢false (sym h.lists.2))
both_true f r a t x p y false w g s o n e h = absurd (true≢false (sym h.wires.0))
both_true f r a t x p y l false g s o n e h = absurd (true≢false (sym h.wires.1))
both_true f r a t x p y l w false s o n e h = absurd (true≢false (sym h.wires.2))
both_true f r a t x p y l w g false o n e h = absurd (true≢false (sym h.behind.0))
both_true f r a t x p y l w g s false n e h = absurd (true≢false (sym h.behind.1))
both_true f r a t x p y l w g s o false e h = absurd (true≢false (sym h.behind.2))
both_true f r a t x p y l w g s o n false h = absurd (true≢false (sym h.behind.3))

regroup_all : (f r a t x p y l w g s o n e : Bool) → by_draft f r a t x p y l w g s o n e ≡ by_network f r a t x p y l w g s o n e
regroup_all f r a t x p y l w g s o n e =
    same_tests (by_draft f r a t x p y l w g s o n e) (by_network f r a t x p y l w g s o n e)
    (λ h. (both_true f r a t x p y l w g s o n e (draft_passes f r a t x p y l w g s o n e h)).1)
    (λ h. (both_true f r a t x p y l w g s o n e (network_passes f r a t x p y l w g s o n e h)).0)

tested_decides : (net : NetData) → are_named net.wires ≡ true → is_ok (tested net) ≡ is_valid net
unfolding tested ends_tested is_valid
tested_decides net named =
    behind_wires (length net.wires) (wires_tested net 0 net.wires) (sources_tested net.wires) (ends_tested net)
    ∙ ap₂ (λ t u. t && u) (wires_decide net named)
    (ap₂ (λ t u. t && u) (sources_decide net.wires)
    (behind_outs (has_ends net.wires net.outs) (lists_tested net) (outs_tested (length net.wires) [] net.outs)
    ∙ ap₂ (λ t u. t && (u && has_ends net.wires net.outs)) (lists_decide net) (outs_decide (length net.wires) net.outs)))
    ∙ regroup_all (nat_le (length net.wires) 512) (nat_le (window_sum net.wires) 65536) (nat_le (length net.axes) 64) (nat_le (length net.tables) 64)
    (distinct bytes_eq (axis_names net.axes)) (apart bytes_eq (axis_names net.axes) (table_names net.tables)) (distinct bytes_eq (table_names net.tables))
    (apart bytes_eq (list_names net) (wire_names net.wires)) (distinct bytes_eq (wire_names net.wires))
    (are_good_from net 0 net.wires) (list_all (is_sourced net.wires) net.wires) (are_below (length net.wires) net.outs) (are_distinct_outs net.outs) (has_ends net.wires net.outs)
    ∙ ap (λ d. nat_le (length net.wires) 512 && nat_le (window_sum net.wires) 65536 && nat_le (length net.axes) 64 && nat_le (length net.tables) 64 && d && are_good_from net 0 net.wires && list_all (is_sourced net.wires) net.wires && are_below (length net.wires) net.outs && are_distinct_outs net.outs && has_ends net.wires net.outs) (sym (names_apart net))

-- a draft that passes its tests is valid
pub valid_if_tested : (net : NetData) → are_named net.wires ≡ true → AreAxes net.axes → AreTables net.tables → tested net ≡ Ok tt → IsValid net
valid_if_tested net named axes tables h = record { axes = axes; tables = tables; tests = sym (tested_decides net named) ∙ ap is_ok h }

-- and a valid one passes them
passed : {E : Type 0} (r : Result (Unit {0}) E) → is_ok r ≡ true → r ≡ Ok tt
passed (Ok u) h = refl
passed (Err e) h = absurd (true≢false (sym h))

named_from : (net : NetData) (i : ℕ) (wires : List Wire) → are_good_from net i wires ≡ true → are_named wires ≡ true
named_from net i [] h = refl
named_from net i (w ∷ wires) h =
    let p = and_parts _ _ h in
    and_from (is_name w.name) (are_named wires) (name_of_good net i w p.0) (named_from net (i + 1) wires p.1)

pub tested_if_valid : (net : NetData) → IsValid net → tested net ≡ Ok tt
tested_if_valid net valid = passed (tested net) (tested_decides net (named_from net 0 net.wires (conditions net valid).good) ∙ valid.tests)

pub tests_decide : TestsDecideValidity
tests_decide net named axes tables = (valid_if_tested net named axes tables, tested_if_valid net)
