-- The names of the wires so far, with those that the lines left define, are the names that all lines define.
use Rattle.std.proofs.Common.{◌≡◌, ℕ, ◌+◌, Bool, true, false, ◌||◌, ◌==◌, cond, nat_le, List, [], ◌∷◌, ◌++◌, length, codes, refl, sym, ap, ap₂, ◌∙◌, Option, Some, None, Result, Ok, Err, arith}
use Rattle.std.specs.Prelude.{bytes_eq, is_some, ok_or}
use Rattle.std.specs.List.{list_any}
use Rattle.std.specs.Cmp.Lexicographic.{nat_list_eq_equiv}
use Rattle.std.proofs.lemmas.Bool.Decides.{nat_tests}
use Rattle.std.proofs.lemmas.List.{map-append}
use Rattle.std.proofs.lemmas.Slice.Eq.{bytes_eq-Decides}
use Rattle.text_words.specs.Lines.{nth, words_of}
use Rattle.text_words.specs.Steps.{◌>>=◌, demand}
use Rattle.text_words.specs.Readers.{Head, Reader, head_below, is_head, at_line, behind_line}
use Rattle.net_model.specs.declared.network.NetKind.{NetKind}
use Rattle.net_model.specs.declared.network.NetKind.TheVariants.{BadLine}
use Rattle.net_model.specs.declared.wires.WireNo.{WireNo}
use Rattle.net_model.specs.declared.wires.Wire.{Wire}
use Rattle.net_model.specs.Wires.{NetData, place_of, with_out}
use Rattle.net_model.specs.Validity.{wire_names}
use Rattle.ifx_search.specs.Axes.{AxisData}
use Rattle.ifx_curves.specs.Tables.{TableData}
use Rattle.net_model.specs.declared.network.NetKind.TheVariants.{BadType, NotBuilt}
use Rattle.net_text.specs.declared.keyword.Keyword.{Keyword}
use Rattle.net_text.specs.declared.keyword.Keyword.TheVariants.{InLine, ConstLine, AxisLine, AxisStepLine, AxisShiftLine, TableLine, MapLine, WireLine, DelayLine}
use Rattle.net_text.specs.declared.keyword.Defined.{Defined}
use Rattle.net_text.specs.declared.keyword.Defined.TheVariants.{Wires, Lists}
use Rattle.net_text.specs.declared.line_forms.WireContent.{WireContent}
use Rattle.net_text.specs.declared.content.Content.{Content}
use Rattle.net_text.specs.declared.content.Content.TheVariants.{OfWire, OfAxis, OfTable}
use Rattle.net_text.specs.TypeWords.{ty_of}
use Rattle.net_text.specs.Forms.{is_above, is_axis, is_table, is_wire, fresh, narrow_of, in_line, const_line, axis_line, axisstep_line, axisshift_line, table_line, map_line, wire_line, delay_line, as_wire, as_axis, as_table, line_of, out_line, defining_line}
use Rattle.net_text.specs.Names.{keyword_of, begins, is_keyword, is_of_wire, with_name, with_defined, names_below, names_of}
use Rattle.net_text.specs.Text.{with_content, after_out, after_definition, after_line, net_reader}
use Rattle.net_text.proofs.GoodLines.{is_some-position, definition_good, content_name, first_of_both}
use Rattle.net_text.proofs.NamePlaces.{list_any-map}

-- a line whose first word is none of those defines no name
defines_none : (sort : Defined) (names words : List (List ℕ)) → begins sort (nth words 0) ≡ false → with_defined sort names words ≡ names
defines_none sort names words none = ap (λ b. cond b (with_name names (nth words 1)) names) none

-- nor does one without words
empty_none : (sort : Defined) → begins sort [] ≡ false
unfolding keyword_of
empty_none Wires = refl
empty_none Lists = refl

no_words : (sort : Defined) (words : List (List ℕ)) → (length words == 0) ≡ true → begins sort (nth words 0) ≡ false
no_words sort [] h = empty_none sort
no_words sort (word ∷ words) h = grind (arith, nat_tests)

-- ---- up to the head

-- up to the head no line defines a name
pub names_below_head : (sort : Defined) (keyword : List ℕ) (names lines : List (List ℕ)) (above : ℕ) (head : Head) → begins sort keyword ≡ false → head_below keyword above lines ≡ Ok head → names_below sort names head.below ≡ names_below sort names lines
unfolding head_below names_below
names_below_head sort keyword names [] above head other h = cc
names_below_head sort keyword names (line ∷ rest) above head other h =
    by (length (words_of line) == 0) (is_head keyword (words_of line)) refl refl (names_below_head sort keyword names rest (above + 1) head other) h
  where
    by : (blank is : Bool) → (length (words_of line) == 0) ≡ blank → is_head keyword (words_of line) ≡ is → (head_below keyword (above + 1) rest ≡ Ok head → names_below sort names head.below ≡ names_below sort names rest)
        → cond blank (head_below keyword (above + 1) rest) (cond is (Ok (record { line = above + 1; below = rest })) (Err (above + 1))) ≡ Ok head
        → names_below sort names head.below ≡ names_below sort (with_defined sort names (words_of line)) rest
    by true is e f later h =
        later h ∙ ap (λ n. names_below sort n rest) (sym (defines_none sort names (words_of line) (no_words sort (words_of line) e)))
    by false true e f later h =
        let first = first_of_both _ _ (first_of_both _ _ f) in
        let same : nth (words_of line) 0 ≡ keyword = (bytes_eq-Decides (nth (words_of line) 0) keyword).0 first in
        let below : head.below ≡ rest = cc in
        ap (names_below sort names) below
        ∙ ap (λ n. names_below sort n rest) (sym (defines_none sort names (words_of line) (ap (begins sort) same ∙ other)))
    by false false e f later h = cc

-- ---- below the head

-- a name is a wire exactly where some wire has it
pub is_wire-named : (wires : List Wire) (name : List ℕ) → is_wire wires name ≡ list_any (λ w. bytes_eq w.name name) wires
unfolding place_of
is_wire-named wires name = is_some-position (λ w. bytes_eq w.name name) wires

-- no wire so far has a name exactly where it isn't among their names
pub fresh_name : (wires : List Wire) (name : List ℕ) → is_wire wires name ≡ false → list_any (bytes_eq name) (wire_names wires) ≡ false
fresh_name wires name fresh =
    list_any-map (λ w. w.name) (bytes_eq name) wires
    ∙ ap (λ test. list_any test wires) (λ j w. nat_list_eq_equiv.symm name w.name j)
    ∙ sym (is_wire-named wires name)
    ∙ fresh

-- neither of three tests holds
pub none_of_three : (a b c : Bool) → (a || b || c) ≡ false → (a ≡ false) × (b ≡ false) × (c ≡ false)
none_of_three true b c h = cc
none_of_three false true c h = cc
none_of_three false false c h = (refl, refl, h)

pub not_wire : (net : NetData) (name : List ℕ) → is_above net name ≡ false → is_wire net.wires name ≡ false
not_wire net name h = (none_of_three (is_wire net.wires name) (is_axis net name) (is_table net name) h).0

-- a line gives a wire exactly where its keyword is that of a wire
abbrev is_wire_of : Content → Bool
is_wire_of (OfWire content) = true
is_wire_of (OfAxis axis) = false
is_wire_of (OfTable table) = false

of_wire : (made : Result WireContent NetKind) (content : Content) → as_wire made ≡ Ok content → true ≡ is_wire_of content
of_wire (Ok w) content h = let same : OfWire w ≡ content = cc in ap is_wire_of same
of_wire (Err kind) content h = absurd (cc)

of_axis : (made : Result AxisData NetKind) (content : Content) → as_axis made ≡ Ok content → false ≡ is_wire_of content
of_axis (Ok a) content h = let same : OfAxis a ≡ content = cc in ap is_wire_of same
of_axis (Err kind) content h = absurd (cc)

of_table : (made : Result TableData NetKind) (content : Content) → as_table made ≡ Ok content → false ≡ is_wire_of content
of_table (Ok t) content h = let same : OfTable t ≡ content = cc in ap is_wire_of same
of_table (Err kind) content h = absurd (cc)

nothing_built : (form new type : Result (Unit {0}) NetKind) (content : Content) → (form >>= λ _. new >>= λ _. type >>= λ _. Err NotBuilt) ≡ Ok content → ⊥
nothing_built (Err fault) new type content h = cc
nothing_built (Ok _) (Err fault) type content h = cc
nothing_built (Ok _) (Ok _) (Err fault) content h = cc
nothing_built (Ok _) (Ok _) (Ok _) content h = cc

content_sort : (keyword : Keyword) (lines : List (List ℕ)) (net : NetData) (words : List (List ℕ)) (content : Content) → line_of keyword lines net words ≡ Ok content → is_of_wire keyword ≡ is_wire_of content
unfolding line_of map_line
content_sort InLine lines net words content h = of_wire (in_line net words) content h
content_sort ConstLine lines net words content h = of_wire (const_line net words) content h
content_sort AxisLine lines net words content h = of_axis (axis_line net words) content h
content_sort AxisStepLine lines net words content h = of_axis (axisstep_line net words) content h
content_sort AxisShiftLine lines net words content h = of_axis (axisshift_line net words) content h
content_sort TableLine lines net words content h = of_table (table_line net words) content h
content_sort MapLine lines net words content h =
    absurd (nothing_built (demand (nat_le 5 (length words)) BadLine) (fresh net (nth words 1)) (demand (is_some (narrow_of (ty_of (nth words 2)))) BadType) content h)
content_sort WireLine lines net words content h = of_wire (wire_line lines net words) content h
content_sort DelayLine lines net words content h = of_wire (delay_line lines net words) content h

begins_with : (found : Option Keyword) (lines : List (List ℕ)) (net : NetData) (words : List (List ℕ)) (content : Content) → (ok_or found BadLine >>= λ keyword. line_of keyword lines net words) ≡ Ok content → is_keyword Wires found ≡ is_wire_of content
begins_with (Some keyword) lines net words content h = content_sort keyword lines net words content h
begins_with None lines net words content h = absurd (cc)

defining_begins : (lines : List (List ℕ)) (net : NetData) (words : List (List ℕ)) (content : Content) → defining_line lines net words ≡ Ok content → begins Wires (nth words 0) ≡ is_wire_of content
unfolding defining_line
defining_begins lines net words content h = begins_with (keyword_of (nth words 0)) lines net words content h

-- one more wire
more_wires : (wires : List Wire) (w : Wire) (words : List (List ℕ)) → begins Wires (nth words 0) ≡ true → w.name ≡ nth words 1 → is_wire wires (nth words 1) ≡ false → wire_names (wires ++ w ∷ []) ≡ with_defined Wires (wire_names wires) words
more_wires wires w words defining name fresh =
    map-append (λ w. w.name) wires (w ∷ [])
    ∙ ap (λ n. wire_names wires ++ n ∷ []) name
    ∙ sym (ap₂ (λ b c. cond b (cond c (wire_names wires) (wire_names wires ++ nth words 1 ∷ [])) (wire_names wires)) defining (fresh_name wires (nth words 1) fresh))

kept_by_content : (net next : NetData) (words : List (List ℕ)) (content : Content) → begins Wires (nth words 0) ≡ is_wire_of content → is_wire net.wires (nth words 1) ≡ false → with_content net (nth words 1) content ≡ next → wire_names next.wires ≡ with_defined Wires (wire_names net.wires) words
kept_by_content net next words (OfWire content) defining fresh h =
    let w : Wire = record { name = nth words 1; kind = content.kind; item = content.item } in
    ap (λ n. wire_names n.wires) (sym h) ∙ more_wires net.wires w words defining refl fresh
kept_by_content net next words (OfAxis axis) defining fresh h =
    ap (λ n. wire_names n.wires) (sym h) ∙ sym (defines_none Wires (wire_names net.wires) words defining)
kept_by_content net next words (OfTable table) defining fresh h =
    ap (λ n. wire_names n.wires) (sym h) ∙ sym (defines_none Wires (wire_names net.wires) words defining)

kept_by_definition : (lines : List (List ℕ)) (net next : NetData) (words : List (List ℕ)) (made : Result Content NetKind) → ((content : Content) → made ≡ Ok content → (begins Wires (nth words 0) ≡ is_wire_of content) × (is_wire net.wires (nth words 1) ≡ false))
    → (made >>= λ content. Ok (with_content net (nth words 1) content)) ≡ Ok next → wire_names next.wires ≡ with_defined Wires (wire_names net.wires) words
kept_by_definition lines net next words (Err kind) facts h = absurd (cc)
kept_by_definition lines net next words (Ok content) facts h =
    let same : with_content net (nth words 1) content ≡ next = cc in
    let f = facts content refl in
    kept_by_content net next words content f.0 f.1 same

kept_by_out : (net next : NetData) (made : Result WireNo NetKind) → (made >>= λ out. Ok (with_out net out)) ≡ Ok next → wire_names next.wires ≡ wire_names net.wires
kept_by_out net next (Err kind) h = cc
kept_by_out net next (Ok out) h = let same : next.wires ≡ net.wires = cc in ap wire_names same

out_defines_none : (first : List ℕ) → bytes_eq first (codes "out") ≡ true → begins Wires first ≡ false
unfolding keyword_of
out_defines_none first h = ap (begins Wires) ((bytes_eq-Decides first (codes "out")).0 h)

kept_by_words : (lines : List (List ℕ)) (net next : NetData) (words : List (List ℕ)) → after_line lines net words ≡ Ok next → wire_names next.wires ≡ with_defined Wires (wire_names net.wires) words
unfolding after_line after_out after_definition
kept_by_words lines net next words h = by (bytes_eq (nth words 0) (codes "out")) refl h
  where
    facts : (content : Content) → defining_line lines net words ≡ Ok content → (begins Wires (nth words 0) ≡ is_wire_of content) × (is_wire net.wires (nth words 1) ≡ false)
    facts content made =
        (defining_begins lines net words content made, not_wire net (nth words 1) (content_name net (nth words 1) content (definition_good lines net words content made)).1)

    by : (is_out : Bool) → bytes_eq (nth words 0) (codes "out") ≡ is_out → cond is_out (after_out lines net words) (after_definition lines net words) ≡ Ok next → wire_names next.wires ≡ with_defined Wires (wire_names net.wires) words
    by true e h =
        kept_by_out net next (out_line lines net words) h
        ∙ sym (defines_none Wires (wire_names net.wires) words (out_defines_none (nth words 0) e))
    by false e h = kept_by_definition lines net next words (defining_line lines net words) facts h

-- what a line without a fault gives
unfaulted : {S K F : Type 0} (reader : Reader S K F) (number : ℕ) (made : Result S K) (next : S) → at_line reader number made ≡ Ok next → made ≡ Ok next
unfaulted reader number (Ok value) next h = let same : value ≡ next = cc in ap Ok same
unfaulted reader number (Err kind) next h = cc

-- the names of the wires behind a line are those before it, with the one that the line defines
pub names_kept : (lines : List (List ℕ)) (number : ℕ) (net next : NetData) (words : List (List ℕ)) → at_line (net_reader lines) number (behind_line (net_reader lines) net words) ≡ Ok next → wire_names next.wires ≡ with_defined Wires (wire_names net.wires) words
unfolding behind_line
names_kept lines number net next words h =
    by (length words == 0) refl (unfaulted (net_reader lines) number (behind_line (net_reader lines) net words) next h)
  where
    by : (blank : Bool) → (length words == 0) ≡ blank → cond blank (Ok net) (after_line lines net words) ≡ Ok next → wire_names next.wires ≡ with_defined Wires (wire_names net.wires) words
    by true e h =
        let same : next.wires ≡ net.wires = cc in
        ap wire_names same ∙ sym (defines_none Wires (wire_names net.wires) words (no_words Wires words e))
    by false e h = kept_by_words lines net next words h

-- so the names of the lines that are left go on from there
pub names_go_on : (lines : List (List ℕ)) (number : ℕ) (net next : NetData) (line : List ℕ) (left rest : List (List ℕ)) → at_line (net_reader lines) number (behind_line (net_reader lines) net (words_of line)) ≡ Ok next → left ≡ line ∷ rest → names_below Wires (wire_names net.wires) left ≡ names_of Wires lines
    → names_below Wires (wire_names next.wires) rest ≡ names_of Wires lines
unfolding names_below
names_go_on lines number net next line left rest gives cut had =
    ap (λ names. names_below Wires names rest) (names_kept lines number net next (words_of line) gives)
    ∙ ap (names_below Wires (wire_names net.wires)) (sym cut)
    ∙ had

-- the names below the head are those of the whole text
pub names_start : (lines : List (List ℕ)) (head : Head) → head_below (codes "net") 0 lines ≡ Ok head → names_below Wires [] head.below ≡ names_of Wires lines
unfolding keyword_of
names_start lines head found = names_below_head Wires (codes "net") [] lines 0 head refl found
