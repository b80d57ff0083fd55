-- Whatever a text says is valid.
use Rattle.std.proofs.Common.{◌≡◌, ℕ, zero, suc, ◌+◌, ◌<◌, ◌≤◌, Bool, true, false, not, ◌&&◌, ◌||◌, ◌==◌, cond, nat_le, nat_lt, List, [], ◌∷◌, ◌++◌, length, get_or, codes, bytes_eq, refl, sym, ap, ap₂, subst, ◌∙◌, Result, Ok, Err, arith, length-append, append-nil, append_assoc, zero-add, add-zero}
use Rattle.std.specs.Prelude.{Option, Some, None}
use Rattle.std.specs.List.{list_any, list_all, position_from}
use Rattle.std.proofs.lemmas.Iterator.Adapters.{position_from-zero}
use Rattle.std.proofs.lemmas.List.Folds.{list_any-append, list_all-append}
use Rattle.std.proofs.lemmas.List.{map-append}
use Rattle.std.proofs.lemmas.Bool.{and_parts}
use Rattle.std.proofs.lemmas.Bool.Decides.{nat_tests}
use Rattle.text_words.specs.Lines.{lines_of, nth}
use Rattle.ifx_search.specs.Axes.{AxisData}
use Rattle.ifx_curves.specs.Tables.{TableData}
use Rattle.net_model.specs.declared.network.NetKind.{NetKind}
use Rattle.net_model.specs.declared.network.NetKind.TheVariants.{Missing}
use Rattle.net_text.specs.declared.reader.NetFault.{NetFault}
use Rattle.net_model.specs.declared.wires.WireNo.{WireNo}
use Rattle.net_model.specs.declared.wires.Wire.{Wire}
use Rattle.net_text.specs.declared.line_forms.WireContent.{WireContent}
use Rattle.net_text.specs.declared.content.Content.{Content}
use Rattle.net_text.specs.declared.content.Content.TheVariants.{OfWire, OfAxis, OfTable}
use Rattle.net_model.specs.Wires.{NamedAxis, NamedTable, NetData, no_net, no_axis, no_table, with_axis, with_table, with_wire, with_out, window_of, window_sum}
use Rattle.net_model.specs.Faults.{first_unsourced, is_named}
use Rattle.net_model.specs.Validity.{AreAxes, AreTables, IsNamedAxis, IsNamedTable, axis_names, table_names, wire_names, list_names, is_sourced, is_good_wire, are_good_from, are_distinct, is_among, are_distinct_outs, has_ends, is_valid, IsValid}
use Rattle.net_model.proofs.DraftLemmas.{bytes_eq_comm}
use Rattle.net_model.proofs.ListNames.{named_axis, named_table, named_both}
use Rattle.net_model.proofs.NetworksGoOn.{GoesOn, is_good_wire-stays, are_good_from-stay}
use Rattle.text_words.specs.Steps.{◌>>=◌, demand}
use Rattle.text_words.specs.Readers.{said_by}
use Rattle.text_words.proofs.ReaderSteps.{kept_by_text}
use Rattle.net_text.specs.Names.{axis_place, table_place}
use Rattle.net_text.specs.Forms.{is_above, is_axis, is_table, is_wire, out_line, defining_line}
use Rattle.net_text.specs.Text.{with_content, after_out, after_definition, after_line, net_reader, unsourced_at, sources_tested, with_ends, tested_behind, network_of}
use Rattle.net_text.proofs.NamesKept.{fresh_name, none_of_three}
use Rattle.net_text.proofs.GoodLines.{IsGood, IsGoodAxis, IsGoodTable, IsGoodContent, IsGoodOut, is_some-position, definition_good, output_line_good, true_if_both, first_of_both, second_of_both, demand_ok, bind_ok, same_ok}

-- how tests are regrouped
and_assoc : (a b c : Bool) → (a && (b && c)) ≡ ((a && b) && c)
and_assoc true b c = refl
and_assoc false b c = refl

and_true : (a : Bool) → (a && true) ≡ a
and_true true = refl
and_true false = refl

-- one more wire at the end
are_good_from-last : (all : NetData) (i : ℕ) (ws : List Wire) (w : Wire) → are_good_from all i (ws ++ w ∷ []) ≡ (are_good_from all i ws && is_good_wire all (i + length ws) w)
are_good_from-last all i [] w =
    and_true (is_good_wire all i w) ∙ ap (λ k. is_good_wire all k w) (sym (add-zero i))
are_good_from-last all i (v ∷ ws) w =
    let next : i + 1 + length ws ≡ i + suc (length ws) = omega arith in
    ap (λ t. is_good_wire all i v && t) (are_good_from-last all (i + 1) ws w)
    ∙ and_assoc (is_good_wire all i v) (are_good_from all (i + 1) ws) (is_good_wire all (i + 1 + length ws) w)
    ∙ ap (λ k. is_good_wire all i v && are_good_from all (i + 1) ws && is_good_wire all k w) next

-- ---- one more name, and one more output

-- neither of two tests holds
or_false : (a b : Bool) → (a || b) ≡ false → (a ≡ false) × (b ≡ false)
or_false true b h = cc
or_false false b h = (refl, h)

-- nor does a third
neither : (a b : Bool) → not a ≡ true → b ≡ false → not (a || (b || false)) ≡ true
neither true b h k = h
neither false true h k = sym k
neither false false h k = refl

-- one more element that fails leaves none that passes
none_more : {X : Type 0} (p : X → Bool) (xs : List X) (y : X) → not (list_any p xs) ≡ true → p y ≡ false → not (list_any p (xs ++ y ∷ [])) ≡ true
none_more p xs y h k = ap not (list_any-append p xs (y ∷ [])) ∙ neither (list_any p xs) (p y) h k

-- an element more that fails, anywhere
none_between : {X : Type 0} (p : X → Bool) (xs ys : List X) (y : X) → list_any p (xs ++ ys) ≡ false → p y ≡ false → list_any p (xs ++ y ∷ ys) ≡ false
none_between p [] ys y h k = ap (λ t. t || list_any p ys) k ∙ h
none_between p (x ∷ xs) ys y h k =
    let apart = or_false (p x) (list_any p (xs ++ ys)) h in
    ap (λ t. t || list_any p (xs ++ y ∷ ys)) apart.0 ∙ none_between p xs ys y apart.1 k

not_any : (b : Bool) → not b ≡ true → b ≡ false
not_any true h = sym h
not_any false h = refl

-- one more name that is new, anywhere
distinct_between : (xs ys : List (List ℕ)) (name : List ℕ) → are_distinct (xs ++ ys) ≡ true → list_any (bytes_eq name) (xs ++ ys) ≡ false → are_distinct (xs ++ name ∷ ys) ≡ true
distinct_between [] ys name d new = true_if_both (not (list_any (bytes_eq name) ys)) (are_distinct ys) (ap not new) d
distinct_between (x ∷ xs) ys name d new =
    let apart = or_false (bytes_eq name x) (list_any (bytes_eq name) (xs ++ ys)) new in
    let p = and_parts (not (list_any (bytes_eq x) (xs ++ ys))) (are_distinct (xs ++ ys)) d in
    true_if_both (not (list_any (bytes_eq x) (xs ++ name ∷ ys))) (are_distinct (xs ++ name ∷ ys))
    (ap not (none_between (bytes_eq x) xs ys name (not_any (list_any (bytes_eq x) (xs ++ ys)) p.0) (bytes_eq_comm x name ∙ apart.0)))
    (distinct_between xs ys name p.1 apart.1)

-- a name that no line above defines is none of those of the network
new_name : (net : NetData) (name : List ℕ) → is_above net name ≡ false → list_any (bytes_eq name) (list_names net ++ wire_names net.wires) ≡ false
unfolding axis_place table_place
new_name net name h =
    let three = none_of_three (is_wire net.wires name) (is_axis net name) (is_table net name) h in
    let axes : is_named (axis_names net.axes) name ≡ false = sym (named_axis name net.axes) ∙ sym (is_some-position (λ (a : NamedAxis). bytes_eq name a.0) net.axes) ∙ three.1 in
    let tables : is_named (table_names net.tables) name ≡ false = sym (named_table name net.tables) ∙ sym (is_some-position (λ (t : NamedTable). bytes_eq name t.0) net.tables) ∙ three.2 in
    named_both name (list_names net) (wire_names net.wires)
    ∙ ap₂ (λ a b. a || b) (named_both name (axis_names net.axes) (table_names net.tables) ∙ ap₂ (λ a b. a || b) axes tables) (fresh_name net.wires name three.0)

-- each of some and one more
each_last : {A : Type 0} (P : A → Type 0) (d : A) (xs : List A) (x : A) → ((k : ℕ) → k < length xs → P (get_or xs k d)) → P x → (k : ℕ) → k < length (xs ++ x ∷ []) → P (get_or (xs ++ x ∷ []) k d)
each_last P d [] x all one zero lt = one
each_last P d [] x all one (suc k) lt = absurd (omega arith)
each_last P d (y ∷ xs) x all one zero lt = all zero (omega arith)
each_last P d (y ∷ xs) x all one (suc k) lt =
    each_last P d xs x (λ i below. all (suc i) (omega (arith, below))) one k (omega arith)

-- one more output that is new
other_way : (m n : ℕ) → (n == m) ≡ false → (m == n) ≡ false
other_way m n h = grind (arith, nat_tests)

are_distinct_outs-last : (outs : List WireNo) (o : WireNo) → are_distinct_outs outs ≡ true → is_among outs o ≡ false → are_distinct_outs (outs ++ o ∷ []) ≡ true
are_distinct_outs-last [] o d new = refl
are_distinct_outs-last (m ∷ outs) o d new =
    let apart = or_false (o.0 == m.0) (is_among outs o) new in
    true_if_both _ _ (none_more (λ k. m.0 == k.0) outs o (first_of_both (not (is_among outs m)) (are_distinct_outs outs) d) (other_way m.0 o.0 apart.0)) (are_distinct_outs-last outs o (second_of_both (not (is_among outs m)) (are_distinct_outs outs) d) apart.1)

-- a number below a bound is below a greater one
lt_more : (a n m : ℕ) → nat_lt a n ≡ true → n ≤ m → nat_lt a m ≡ true
lt_more a n m h le = grind (arith, nat_tests)

-- one more where there is room
few_more : (n k most : ℕ) → nat_lt n most ≡ true → k ≡ n + 1 → nat_le k most ≡ true
few_more n k most h e = grind (arith, nat_tests)

-- outputs stay within more wires
outs_within : (n m : ℕ) (outs : List WireNo) → n ≤ m → list_all (λ o. nat_lt o.0 n) outs ≡ true → list_all (λ o. nat_lt o.0 m) outs ≡ true
outs_within n m [] le h = refl
outs_within n m (o ∷ outs) le h =
    true_if_both _ _ (lt_more o.0 n m (first_of_both (nat_lt o.0 n) (list_all (λ o. nat_lt o.0 n) outs) h) le) (outs_within n m outs le (second_of_both (nat_lt o.0 n) (list_all (λ o. nat_lt o.0 n) outs) h))

-- the averages of one more wire go over its rows more
window_sum-last : (wires : List Wire) (w : Wire) → window_sum (wires ++ w ∷ []) ≡ window_sum wires + window_of w.item
window_sum-last [] w = omega arith
window_sum-last (v ∷ wires) w = let e = window_sum-last wires w in omega arith

-- ---- the network so far

-- all that a valid network keeps but the sources of its delays and its ends
record IsSound (net : NetData) : Type 0 where
  axes : AreAxes net.axes
  tables : AreTables net.tables
  few : nat_le (length net.wires) 512 ≡ true
  rows : nat_le (window_sum net.wires) 65536 ≡ true
  few_axes : nat_le (length net.axes) 64 ≡ true
  few_tables : nat_le (length net.tables) 64 ≡ true
  distinct : are_distinct (list_names net ++ wire_names net.wires) ≡ true
  good : are_good_from net 0 net.wires ≡ true
  within : list_all (λ o. nat_lt o.0 (length net.wires)) net.outs ≡ true
  once : are_distinct_outs net.outs ≡ true

-- nothing is sound
start_sound : IsSound no_net
start_sound = record {
  axes = λ k lt. absurd (omega (arith, lt));
  tables = λ k lt. absurd (omega (arith, lt));
  few = refl;
  rows = refl;
  few_axes = refl;
  few_tables = refl;
  distinct = refl;
  good = refl;
  within = refl;
  once = refl;
}

-- one more wire
abbrev more_wires : NetData → List ℕ → WireContent → NetData
more_wires net name content = with_wire net (record { name = name; kind = content.kind; item = content.item })

-- it stays sound with one more good wire
with_wire_sound : (net : NetData) (name : List ℕ) (content : WireContent) → IsSound net → IsGood net name content → IsSound (more_wires net name content)
with_wire_sound net name content s g =
    let wires = net.wires in
    let w : Wire = record { name = name; kind = content.kind; item = content.item } in
    let on : GoesOn net (with_wire net w) = record { more = w ∷ []; wires = refl; more_axes = []; axes = sym (append-nil net.axes); more_tables = []; tables = sym (append-nil net.tables) } in
    let one_more : length (wires ++ w ∷ []) ≡ length wires + 1 = length-append wires (w ∷ []) in
    let names = list_names net ++ wire_names wires in
    let here : is_good_wire net (length wires) w ≡ true = true_if_both _ _ (true_if_both _ _ (true_if_both _ _ (true_if_both _ _ (true_if_both _ _ g.named g.item.built) g.item.earlier) g.item.agreed) g.kind) g.item.in_range in
    let last : is_good_wire (with_wire net w) (0 + length wires) w ≡ true = ap (λ k. is_good_wire (with_wire net w) k w) (zero-add (length wires)) ∙ is_good_wire-stays net (with_wire net w) on (length wires) w (omega arith) here in
    record {
      axes = s.axes;
      tables = s.tables;
      few = few_more (length wires) (length (wires ++ w ∷ [])) 512 g.room one_more;
      rows = ap (λ n. nat_le n 65536) (window_sum-last wires w) ∙ g.rows s.rows;
      few_axes = s.few_axes;
      few_tables = s.few_tables;
      distinct = ap are_distinct (ap (λ ns. list_names net ++ ns) (map-append (λ w. w.name) wires (w ∷ [])) ∙ sym (append_assoc (list_names net) (wire_names wires) (name ∷ [])))
          ∙ distinct_between names [] name (ap are_distinct (append-nil names) ∙ s.distinct) (ap (list_any (bytes_eq name)) (append-nil names) ∙ new_name net name g.fresh);
      good = are_good_from-last (with_wire net w) 0 wires w ∙ true_if_both _ _ (are_good_from-stay net (with_wire net w) on 0 wires (omega arith) s.good) last;
      within = outs_within (length wires) (length (wires ++ w ∷ [])) net.outs (omega (arith, one_more)) s.within;
      once = s.once;
    }

-- with one more axis
with_axis_sound : (net : NetData) (name : List ℕ) (axis : AxisData) → IsSound net → IsGoodAxis net name axis → IsSound (with_axis net (name, axis))
with_axis_sound net name axis s g =
    let a : NamedAxis = (name, axis) in
    let all = with_axis net a in
    let on : GoesOn net all = record { more = []; wires = sym (append-nil net.wires); more_axes = a ∷ []; axes = refl; more_tables = []; tables = sym (append-nil net.tables) } in
    let one_more : length (net.axes ++ a ∷ []) ≡ length net.axes + 1 = length-append net.axes (a ∷ []) in
    let axes = axis_names net.axes in
    let tables = table_names net.tables in
    let wires = wire_names net.wires in
    let together : list_names net ++ wires ≡ axes ++ (tables ++ wires) = append_assoc axes tables wires in
    let more : list_names all ++ wires ≡ axes ++ name ∷ (tables ++ wires) =
    ap (λ ns. (ns ++ tables) ++ wires) (map-append (λ (n : NamedAxis). n.0) net.axes (a ∷ []))
    ∙ ap (λ ns. ns ++ wires) (append_assoc axes (name ∷ []) tables)
    ∙ append_assoc axes (name ∷ tables) wires in
    record {
      axes = each_last IsNamedAxis no_axis net.axes a s.axes (record { name = g.named; axis = g.axis; spaced = g.spaced });
      tables = s.tables;
      few = s.few;
      rows = s.rows;
      few_axes = few_more (length net.axes) (length (net.axes ++ a ∷ [])) 64 g.room one_more;
      few_tables = s.few_tables;
      distinct = ap are_distinct more ∙ distinct_between axes (tables ++ wires) name (ap are_distinct (sym together) ∙ s.distinct) (ap (list_any (bytes_eq name)) (sym together) ∙ new_name net name g.fresh);
      good = are_good_from-stay net all on 0 net.wires (omega arith) s.good;
      within = s.within;
      once = s.once;
    }

-- with one more table
with_table_sound : (net : NetData) (name : List ℕ) (table : TableData) → IsSound net → IsGoodTable net name table → IsSound (with_table net (name, table))
with_table_sound net name table s g =
    let t : NamedTable = (name, table) in
    let all = with_table net t in
    let on : GoesOn net all = record { more = []; wires = sym (append-nil net.wires); more_axes = []; axes = sym (append-nil net.axes); more_tables = t ∷ []; tables = refl } in
    let one_more : length (net.tables ++ t ∷ []) ≡ length net.tables + 1 = length-append net.tables (t ∷ []) in
    let axes = axis_names net.axes in
    let tables = table_names net.tables in
    let wires = wire_names net.wires in
    let more : list_names all ++ wires ≡ list_names net ++ name ∷ wires =
    ap (λ ns. (axes ++ ns) ++ wires) (map-append (λ (n : NamedTable). n.0) net.tables (t ∷ []))
    ∙ ap (λ ns. ns ++ wires) (sym (append_assoc axes tables (name ∷ [])))
    ∙ append_assoc (list_names net) (name ∷ []) wires in
    record {
      axes = s.axes;
      tables = each_last IsNamedTable no_table net.tables t s.tables (record { name = g.named; table = g.table });
      few = s.few;
      rows = s.rows;
      few_axes = s.few_axes;
      few_tables = few_more (length net.tables) (length (net.tables ++ t ∷ [])) 64 g.room one_more;
      distinct = ap are_distinct more ∙ distinct_between (list_names net) wires name s.distinct (new_name net name g.fresh);
      good = are_good_from-stay net all on 0 net.wires (omega arith) s.good;
      within = s.within;
      once = s.once;
    }

-- it stays sound with one more good output
with_out_sound : (net : NetData) (out : WireNo) → IsSound net → IsGoodOut net.wires net.outs out → IsSound (with_out net out)
with_out_sound net out s g =
    let on : GoesOn net (with_out net out) = record { more = []; wires = sym (append-nil net.wires); more_axes = []; axes = sym (append-nil net.axes); more_tables = []; tables = sym (append-nil net.tables) } in
    record {
      axes = s.axes;
      tables = s.tables;
      few = s.few;
      rows = s.rows;
      few_axes = s.few_axes;
      few_tables = s.few_tables;
      distinct = s.distinct;
      good = are_good_from-stay net (with_out net out) on 0 net.wires (omega arith) s.good;
      within = list_all-append (λ o. nat_lt o.0 (length net.wires)) net.outs (out ∷ []) ∙ true_if_both _ _ s.within (true_if_both _ _ g.within refl);
      once = are_distinct_outs-last net.outs out s.once g.fresh;
    }

-- ---- the lines

-- with what a line gives that defines a name
content_sound : (net : NetData) (name : List ℕ) (content : Content) → IsSound net → IsGoodContent net name content → IsSound (with_content net name content)
content_sound net name (OfWire content) s g = with_wire_sound net name content s g
content_sound net name (OfAxis axis) s g = with_axis_sound net name axis s g
content_sound net name (OfTable table) s g = with_table_sound net name table s g

-- a line that defines a name and has no fault
definition_step : (net : NetData) (name : List ℕ) (made : Result Content NetKind) (next : NetData) → IsSound net → ((content : Content) → made ≡ Ok content → IsGoodContent net name content) → (made >>= λ content. Ok (with_content net name content)) ≡ Ok next → IsSound next
definition_step net name (Err fault) next s g h = absurd (cc)
definition_step net name (Ok content) next s g h =
    subst (λ n. IsSound n) (same_ok (with_content net name content) next h) (content_sound net name content s (g content refl))

-- a line of an output that has no fault
out_step : (net : NetData) (made : Result WireNo NetKind) (next : NetData) → IsSound net → ((out : WireNo) → made ≡ Ok out → IsGoodOut net.wires net.outs out) → (made >>= λ out. Ok (with_out net out)) ≡ Ok next → IsSound next
out_step net (Err fault) next s g h = absurd (cc)
out_step net (Ok out) next s g h =
    subst (λ n. IsSound n) (same_ok (with_out net out) next h) (with_out_sound net out s (g out refl))

-- whichever form the line has
line_step : (next : NetData) (is_out : Bool) (out definition : Result NetData NetKind) → (out ≡ Ok next → IsSound next) → (definition ≡ Ok next → IsSound next) → cond is_out out definition ≡ Ok next → IsSound next
line_step next true out definition f g h = f h
line_step next false out definition f g h = g h

-- each line leaves it sound
after_line_sound : (lines : List (List ℕ)) (net : NetData) (words : List (List ℕ)) (next : NetData) → IsSound net → after_line lines net words ≡ Ok next → IsSound next
unfolding after_line after_out after_definition
after_line_sound lines net words next s h =
    line_step next (bytes_eq (nth words 0) (codes "out")) (after_out lines net words) (after_definition lines net words) (out_step net (out_line lines net words) next s (output_line_good lines net words)) (definition_step net (nth words 1) (defining_line lines net words) next s (definition_good lines net words)) h

-- ---- the tests behind all lines

-- where no delay is unsourced, each wire is sourced
none_unsourced : (all wires : List Wire) (i : ℕ) → position_from (λ w. not (is_sourced all w)) i wires ≡ None → list_all (is_sourced all) wires ≡ true
none_unsourced all [] i none = refl
none_unsourced all (w ∷ wires) i none = by (is_sourced all w) (position_from (λ w. not (is_sourced all w)) (i + 1) wires) (none_unsourced all wires (i + 1)) none
  where
    by : (sourced : Bool) (later : Option ℕ) → (later ≡ None → list_all (is_sourced all) wires ≡ true) → cond (not sourced) (Some i) later ≡ None → (sourced && list_all (is_sourced all) wires) ≡ true
    by true later rest none = rest none
    by false later rest none = absurd (cc)

no_fault_told : (lines : List (List ℕ)) (wires : List Wire) (found : Option ℕ) (done : Unit {0}) → unsourced_at lines wires found ≡ Ok done → found ≡ None
no_fault_told lines wires None done h = refl
no_fault_told lines wires (Some delay) done h = absurd (cc)

sources_good : (lines : List (List ℕ)) (wires : List Wire) (done : Unit {0}) → sources_tested lines wires ≡ Ok done → list_all (is_sourced wires) wires ≡ true
sources_good lines wires done h =
    none_unsourced wires wires 0 (sym (position_from-zero (λ w. not (is_sourced wires w)) wires) ∙ no_fault_told lines wires (first_unsourced wires) done h)

-- what is sound, with delays that are sourced, and has ends is valid
sound_valid : (net : NetData) → IsSound net → list_all (is_sourced net.wires) net.wires ≡ true → has_ends net.wires net.outs ≡ true → IsValid net
unfolding is_valid
sound_valid net s sourced e = record {
  axes = s.axes;
  tables = s.tables;
  tests = true_if_both _ _ (true_if_both _ _ (true_if_both _ _ (true_if_both _ _ (true_if_both _ _ (true_if_both _ _ (true_if_both _ _ (true_if_both _ _ (true_if_both _ _ s.few s.rows) s.few_axes) s.few_tables) s.distinct) s.good) sourced) s.within) s.once) e;
}

tested_valid : (lines : List (List ℕ)) (said net : NetData) → IsSound said → tested_behind lines said ≡ Ok net → IsValid net
unfolding tested_behind
tested_valid lines said net s h =
    let fault : NetFault = record { line = length lines; kind = Missing } in
    let sources = bind_ok (sources_tested lines said.wires) (λ _. with_ends lines said) net h in
    let ends = bind_ok (demand (has_ends said.wires said.outs) fault) (λ _. Ok said) net sources.2 in
    subst (λ n. IsValid n) (same_ok said net ends.2) (sound_valid said s (sources_good lines said.wires sources.0 sources.1) (demand_ok (has_ends said.wires said.outs) fault ends.0 ends.1))

-- ---- the whole

-- the law
pub network_of_valid : (text : List ℕ) (net : NetData) → network_of text ≡ Ok net → IsValid net
unfolding network_of
network_of_valid text net h =
    let lines = lines_of text in
    let said = bind_ok (said_by (net_reader lines) text) (λ said. tested_behind lines said) net h in
    let kept = kept_by_text (net_reader lines) IsSound text said.0 (λ before words next s made. after_line_sound lines before words next s made) start_sound said.1 in
    tested_valid lines said.0 net kept.0 said.2
