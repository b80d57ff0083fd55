-- What is found of a name: among the names that lines define, and among the wires that are those of the first names.
use Rattle.std.proofs.Common.{◌≡◌, ℕ, zero, suc, ◌+◌, ◌<◌, ◌≤◌, Bool, true, false, ◌&&◌, ◌||◌, cond, nat_lt, le-ltb, lt-ltb, List, [], ◌∷◌, ◌++◌, map, length, take, refl, sym, ap, ap₂, ◌∙◌, arith, zero-add, true≢false}
use Rattle.std.specs.Prelude.{Option, Some, None, position, bytes_eq, is_some}
use Rattle.std.specs.List.{list_any, position_from}
use Rattle.std.specs.Cmp.Lexicographic.{nat_list_eq_equiv}
use Rattle.std.proofs.lemmas.Iterator.Adapters.{position_from-zero}
use Rattle.std.proofs.lemmas.List.{length-append, length-map, map-append, take-append-le, take_all}
use Rattle.std.proofs.lemmas.List.Folds.{list_any-append}
use Rattle.std.proofs.lemmas.Slice.Eq.{bytes_eq-Decides}
use Rattle.text_words.specs.Lines.{nth, words_of}
use Rattle.net_model.specs.declared.wires.Wire.{Wire}
use Rattle.net_model.specs.Wires.{place_of}
use Rattle.net_model.specs.Validity.{wire_names}
use Rattle.net_text.specs.declared.keyword.Keyword.{Keyword}
use Rattle.net_text.specs.declared.keyword.Keyword.TheVariants.{InLine, ConstLine, AxisLine, AxisStepLine, AxisShiftLine, TableLine, MapLine, WireLine, DelayLine}
use Rattle.net_text.specs.declared.keyword.Defined.{Defined}
use Rattle.net_text.specs.declared.keyword.Defined.TheVariants.{Wires, Lists}
use Rattle.net_text.specs.Names.{keyword_of, is_defined, is_keyword, begins, with_name, with_defined, names_below, names_of, AreFirst}

-- ---- whether a name is there

-- a test of what is mapped
pub list_any-map : {X Y : Type 0} (f : X → Y) (p : Y → Bool) (xs : List X) → list_any p (map f xs) ≡ list_any (λ x. p (f x)) xs
list_any-map f p [] = refl
list_any-map f p (x ∷ xs) = ap (λ t. p (f x) || t) (list_any-map f p xs)

-- a name that stands among others already is no new one
absorbed : (seen same more : Bool) → (same ≡ true → seen ≡ true) → (seen || more) ≡ (seen || (same || more))
absorbed true same more h = refl
absorbed false false more h = refl
absorbed false true more h = absurd (true≢false (sym (h refl)))

behind : (seen same more : Bool) → ((seen || (same || false)) || more) ≡ (seen || (same || more))
behind true same more = refl
behind false true more = refl
behind false false more = refl

with_name-has : (names : List (List ℕ)) (new name : List ℕ) (more : Bool) → (list_any (bytes_eq name) (with_name names new) || more) ≡ (list_any (bytes_eq name) names || (bytes_eq new name || more))
with_name-has names new name more = by (list_any (bytes_eq new) names) refl
  where
    by : (b : Bool) → list_any (bytes_eq new) names ≡ b → (list_any (bytes_eq name) (cond b names (names ++ new ∷ [])) || more) ≡ (list_any (bytes_eq name) names || (bytes_eq new name || more))
    by true h =
        absorbed (list_any (bytes_eq name) names) (bytes_eq new name) more (λ same. ap (λ n. list_any (bytes_eq n) names) (sym ((bytes_eq-Decides new name).0 same)) ∙ h)
    by false h =
        ap (λ t. t || more) (list_any-append (bytes_eq name) names (new ∷ []) ∙ ap (λ t. list_any (bytes_eq name) names || (t || false)) (nat_list_eq_equiv.symm name new))
        ∙ behind (list_any (bytes_eq name) names) (bytes_eq new name) more

-- a line of this sort defines the name
abbrev defines_of : Defined → List ℕ → List (List ℕ) → Bool
defines_of sort name words = begins sort (nth words 0) && bytes_eq (nth words 1) name

-- some line of this sort does
abbrev defined_of : Defined → List (List ℕ) → List ℕ → Bool
defined_of sort lines name = list_any (λ line. defines_of sort name (words_of line)) lines

with_defined-has : (sort : Defined) (names words : List (List ℕ)) (name : List ℕ) (more : Bool) → (list_any (bytes_eq name) (with_defined sort names words) || more) ≡ (list_any (bytes_eq name) names || (defines_of sort name words || more))
with_defined-has sort names words name more = by (begins sort (nth words 0))
  where
    by : (b : Bool) → (list_any (bytes_eq name) (cond b (with_name names (nth words 1)) names) || more) ≡ (list_any (bytes_eq name) names || ((b && bytes_eq (nth words 1) name) || more))
    by true = with_name-has names (nth words 1) name more
    by false = refl

or_false : (b : Bool) → b ≡ (b || false)
or_false true = refl
or_false false = refl

names_below-has : (sort : Defined) (names lines : List (List ℕ)) (name : List ℕ) → list_any (bytes_eq name) (names_below sort names lines) ≡ (list_any (bytes_eq name) names || defined_of sort lines name)
unfolding names_below
names_below-has sort names [] name = or_false (list_any (bytes_eq name) names)
names_below-has sort names (line ∷ rest) name =
    names_below-has sort (with_defined sort names (words_of line)) rest name
    ∙ with_defined-has sort names (words_of line) name (defined_of sort rest name)

-- the name is among those of this sort exactly where a line of this sort defines it
names_of-has : {K : Type 0} (sort : Defined) (bytes : K → List ℕ) (keys : List K) (lines : List (List ℕ)) (name : List ℕ) → map bytes keys ≡ names_of sort lines → list_any (λ key. bytes_eq name (bytes key)) keys ≡ defined_of sort lines name
names_of-has sort bytes keys lines name are =
    sym (list_any-map bytes (bytes_eq name) keys) ∙ ap (list_any (bytes_eq name)) are ∙ names_below-has sort [] lines name

-- a line that defines a name is of one sort or the other
two_sorts : (keyword : Option Keyword) → (is_keyword Wires keyword || is_keyword Lists keyword) ≡ is_some keyword
two_sorts None = refl
two_sorts (Some InLine) = refl
two_sorts (Some ConstLine) = refl
two_sorts (Some AxisLine) = refl
two_sorts (Some AxisStepLine) = refl
two_sorts (Some AxisShiftLine) = refl
two_sorts (Some TableLine) = refl
two_sorts (Some MapLine) = refl
two_sorts (Some WireLine) = refl
two_sorts (Some DelayLine) = refl

regroup : (a b c wires lists : Bool) → (((a && c) || wires) || ((b && c) || lists)) ≡ (((a || b) && c) || (wires || lists))
regroup true true true wires lists = refl
regroup true true false wires lists = refl
regroup true false true wires lists = refl
regroup true false false wires lists = refl
regroup false true true true lists = refl
regroup false true true false lists = refl
regroup false true false wires lists = refl
regroup false false c wires lists = refl

either_sort : (lines : List (List ℕ)) (name : List ℕ) → (defined_of Wires lines name || defined_of Lists lines name) ≡ is_defined lines name
unfolding is_defined
either_sort [] name = refl
either_sort (line ∷ rest) name =
    let words = words_of line in
    regroup (begins Wires (nth words 0)) (begins Lists (nth words 0)) (bytes_eq (nth words 1) name) (defined_of Wires rest name) (defined_of Lists rest name)
    ∙ ap₂ (λ s t. (s && bytes_eq (nth words 1) name) || t) (two_sorts (keyword_of (nth words 0))) (either_sort rest name)

-- a line of a text defines a name exactly where the name is among those that the lines define, of either sort
pub names_have : {K : Type 0} (bytes : K → List ℕ) (wires lists : List K) (lines : List (List ℕ)) (name : List ℕ) → map bytes wires ≡ names_of Wires lines → map bytes lists ≡ names_of Lists lines
    → (list_any (λ key. bytes_eq name (bytes key)) wires || list_any (λ key. bytes_eq name (bytes key)) lists) ≡ is_defined lines name
names_have bytes wires lists lines name are others =
    ap₂ (λ s t. s || t) (names_of-has Wires bytes wires lines name are) (names_of-has Lists bytes lists lines name others)
    ∙ either_sort lines name

-- one more name in a set of them
pub insert_name : {K : Type 0} (bytes : K → List ℕ) (keys : List K) (new : K) → map bytes (cond (list_any (λ key. bytes_eq (bytes new) (bytes key)) keys) keys (keys ++ new ∷ [])) ≡ with_name (map bytes keys) (bytes new)
insert_name bytes keys new =
    by (list_any (λ key. bytes_eq (bytes new) (bytes key)) keys)
    ∙ ap (λ b. cond b (map bytes keys) (map bytes keys ++ bytes new ∷ [])) (sym (list_any-map bytes (bytes_eq (bytes new)) keys))
  where
    by : (b : Bool) → map bytes (cond b keys (keys ++ new ∷ [])) ≡ cond b (map bytes keys) (map bytes keys ++ bytes new ∷ [])
    by true = refl
    by false = map-append bytes keys (new ∷ [])

-- a line that defines a name has it in the set, where the set has the names of the lines above
pub names_grow : {K : Type 0} (sort : Defined) (bytes : K → List ℕ) (old new : List K) (key : K) (line : List ℕ) (left rest all : List (List ℕ)) → begins sort (nth (words_of line) 0) ≡ true → bytes key ≡ nth (words_of line) 1
    → new ≡ cond (list_any (λ k. bytes_eq (bytes key) (bytes k)) old) old (old ++ key ∷ []) → left ≡ line ∷ rest → names_below sort (map bytes old) left ≡ all → names_below sort (map bytes new) rest ≡ all
unfolding names_below
names_grow sort bytes old new key line left rest all defining name put cut had =
    ap (λ keys. names_below sort (map bytes keys) rest) put
    ∙ ap (λ names. names_below sort names rest) (insert_name bytes old key)
    ∙ ap₂ (λ b n. names_below sort (cond b (with_name (map bytes old) n) (map bytes old)) rest) (sym defining) name
    ∙ ap (names_below sort (map bytes old)) (sym cut)
    ∙ had

-- ---- the place of a name

position_from-map : {X Y : Type 0} (f : X → Y) (p : Y → Bool) (i : ℕ) (xs : List X) → position_from (λ x. p (f x)) i xs ≡ position_from p i (map f xs)
position_from-map f p i [] = refl
position_from-map f p i (x ∷ xs) = ap (cond (p (f x)) (Some i)) (position_from-map f p (i + 1) xs)

pub position-map : {X Y : Type 0} (f : X → Y) (p : Y → Bool) (xs : List X) → position (λ x. p (f x)) xs ≡ position p (map f xs)
position-map f p xs =
    position_from-zero (λ x. p (f x)) xs ∙ position_from-map f p 0 xs ∙ sym (position_from-zero p (map f xs))

-- a place, if it is one of the first
below : ℕ → Option ℕ → Option ℕ
below count None = None
below count (Some place) = cond (nat_lt place count) (Some place) None

-- none that is looked for behind the first ones is one of them
none_behind : {X : Type 0} (p : X → Bool) (count i : ℕ) (xs : List X) → count ≤ i → below count (position_from p i xs) ≡ None
unfolding below
none_behind p count i [] past = refl
none_behind p count i (x ∷ xs) past =
    let later : count ≤ i + 1 = omega arith in
    by (p x) (position_from p (i + 1) xs) (none_behind p count (i + 1) xs later)
  where
    by : (b : Bool) (found : Option ℕ) → below count found ≡ None → below count (cond b (Some i) found) ≡ None
    by true found h = ap (λ t. cond t (Some i) None) (le-ltb i count past)
    by false found h = h

first_below : {X : Type 0} (p : X → Bool) (i k : ℕ) (xs : List X) → position_from p i (take k xs) ≡ below (i + k) (position_from p i xs)
unfolding below
first_below p i zero xs = let past : i + 0 ≤ i = omega arith in sym (none_behind p (i + 0) i xs past)
first_below p i (suc k) [] = refl
first_below p i (suc k) (x ∷ xs) =
    let moved : (i + 1) + k ≡ i + suc k = omega arith in
    by (p x) (position_from p (i + 1) (take k xs)) (position_from p (i + 1) xs) (first_below p (i + 1) k xs ∙ ap (λ n. below n (position_from p (i + 1) xs)) moved)
  where
    within : i < i + suc k
    within = omega arith

    by : (b : Bool) (found all : Option ℕ) → found ≡ below (i + suc k) all → cond b (Some i) found ≡ below (i + suc k) (cond b (Some i) all)
    by true found all h = ap (λ t. cond t (Some i) None) (sym (lt-ltb i (i + suc k) within))
    by false found all h = h

-- the place of a name among the wires is that among all names, if it is one of the first
place_is : (wires : List Wire) (names : List (List ℕ)) (name : List ℕ) → AreFirst wires names → place_of wires name ≡ below (length wires) (position (bytes_eq name) names)
unfolding place_of
place_is wires names name first =
    ap (λ test. position test wires) (λ j w. nat_list_eq_equiv.symm w.name name j)
    ∙ position-map (λ w. w.name) (bytes_eq name) wires
    ∙ ap (position (bytes_eq name)) (sym first)
    ∙ position_from-zero (bytes_eq name) (take (length wires) names)
    ∙ first_below (bytes_eq name) 0 (length wires) names
    ∙ ap₂ below (zero-add (length wires)) (sym (position_from-zero (bytes_eq name) names))

pub place_found : (wires : List Wire) (names : List (List ℕ)) (name : List ℕ) (place : ℕ) → AreFirst wires names → position (bytes_eq name) names ≡ Some place → place < length wires → place_of wires name ≡ Some place
unfolding below
place_found wires names name place first found lt =
    place_is wires names name first
    ∙ ap (below (length wires)) found
    ∙ ap (λ t. cond t (Some place) None) (lt-ltb place (length wires) lt)

pub place_later : (wires : List Wire) (names : List (List ℕ)) (name : List ℕ) (place : ℕ) → AreFirst wires names → position (bytes_eq name) names ≡ Some place → length wires ≤ place → place_of wires name ≡ None
unfolding below
place_later wires names name place first found past =
    place_is wires names name first
    ∙ ap (below (length wires)) found
    ∙ ap (λ t. cond t (Some place) None) (le-ltb place (length wires) past)

pub place_missing : (wires : List Wire) (names : List (List ℕ)) (name : List ℕ) → AreFirst wires names → position (bytes_eq name) names ≡ None → place_of wires name ≡ None
unfolding below
place_missing wires names name first none = place_is wires names name first ∙ ap (below (length wires)) none

pub ruleset places = (place_found, place_later, place_missing)

-- ---- the first names

first_of_name : (n : ℕ) (names : List (List ℕ)) (name : List ℕ) → n ≤ length names → (n ≤ length (with_name names name)) × (take n (with_name names name) ≡ take n names)
first_of_name n names name h = by (list_any (bytes_eq name) names)
  where
    by : (b : Bool) → (n ≤ length (cond b names (names ++ name ∷ []))) × (take n (cond b names (names ++ name ∷ [])) ≡ take n names)
    by true = (h, refl)
    by false = (omega (arith, length-append names (name ∷ [])), take-append-le n names (name ∷ []) h)

first_of_defined : (sort : Defined) (n : ℕ) (names words : List (List ℕ)) → n ≤ length names → (n ≤ length (with_defined sort names words)) × (take n (with_defined sort names words) ≡ take n names)
first_of_defined sort n names words h = by (begins sort (nth words 0))
  where
    by : (b : Bool) → (n ≤ length (cond b (with_name names (nth words 1)) names)) × (take n (cond b (with_name names (nth words 1)) names) ≡ take n names)
    by true = first_of_name n names (nth words 1) h
    by false = (h, refl)

first_kept : (sort : Defined) (n : ℕ) (names lines : List (List ℕ)) → n ≤ length names → take n (names_below sort names lines) ≡ take n names
unfolding names_below
first_kept sort n names [] h = refl
first_kept sort n names (line ∷ rest) h =
    let one = first_of_defined sort n names (words_of line) h in
    first_kept sort n (with_defined sort names (words_of line)) rest one.0 ∙ one.1

-- the names of the wires so far, with those of the lines that are left, begin with the names of the wires
pub wires_first : (wires : List Wire) (names lines : List (List ℕ)) → names_below Wires (wire_names wires) lines ≡ names → AreFirst wires names
wires_first wires names lines are =
    let many = length-map wires (λ w. w.name) in
    ap (take (length wires)) (sym are)
    ∙ first_kept Wires (length wires) (wire_names wires) lines (omega (arith, many))
    ∙ take_all (length wires) (wire_names wires) (omega (arith, many))
