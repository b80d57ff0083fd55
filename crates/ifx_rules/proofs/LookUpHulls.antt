-- The hull of a function over a range, gathered place by place: its ends first, then each place that lies inside it.
use Rattle.std.specs.Prelude.{◌≡◌, ℕ, ◌+◌, ◌<◌, ◌≤◌, ◌&&◌, Bool, true, false, if◌then◌else◌, List, ◌∷◌, map, fold, drop, length, ℤ, pos, int_le}
use Rattle.std.specs.Int.{int_min, int_max, w64}
use Rattle.std.proofs.Common.{refl, sym, ap, ap₂, ◌∙◌}
use Rattle.std.proofs.lemmas.List.{at_drop_more, at_drop_all}
use Rattle.fx_fraction.specs.Fraction.{Fraction}
use Rattle.part_rules.specs.declared.bounds.Bounds.{Bounds}
use Rattle.part_rules.specs.declared.ranges.Range.{Range}
use Rattle.part_rules.specs.Entries.{IsSmall}
use Rattle.part_rules.specs.Ranges.{points_inside, corners_at, least_among, greatest_among}
use Rattle.part_rules.proofs.CornerHulls.{values_of_one}
use Rattle.part_rules.proofs.WordSteps.{is_low_end, is_high_end}
use Rattle.fx_core.proofs.WordSteps.{word_of}
use Rattle.ifx_search.specs.Axes.{point_at}
use Rattle.ifx_rules.specs.LookUpRules.{hull_at, rounded_down}
use Rattle.ifx_rules.specs.declared.look_up_ends.Bend.{Bend}

-- a number, and the values at the places inside a range, taken together
abbrev pub gathered : (ℤ → ℤ → ℤ) → (ℤ → ℤ) → Bounds → ℤ → List ℤ → ℤ
gathered op value b from places = fold op from (map value (points_inside b places))

-- with the places that are left a range is the hull
pub record IsHullSoFar (value : Fraction → Fraction) (places : List ℤ) (b : Bounds) (left : List ℤ) (range : Range) : Type 0 where
  pub low : gathered int_min (rounded_down value) b range.lo left ≡ (hull_at value places b (pos 0)).lo
  pub high : gathered int_max (rounded_down value) b range.hi left ≡ (hull_at value places b (pos 0)).hi

-- so are the values at the two ends
pub hull_begun : (value : Fraction → Fraction) (places : List ℤ) (b : Bounds) (first second : ℤ) (range : Range) → IsSmall b → first ≡ rounded_down value (word_of w64 b.lo) → second ≡ rounded_down value (word_of w64 b.hi) → range.lo ≡ int_min first second → range.hi ≡ int_max first second → IsHullSoFar value places b places range
hull_begun value places b first second range small e f h k =
    let low = e ∙ ap (rounded_down value) (is_low_end b (word_of w64 b.lo) small refl).value in
    let high = f ∙ ap (rounded_down value) (is_high_end b (word_of w64 b.hi) small refl).value in
    let corners = sym (values_of_one (rounded_down value) (corners_at b places)) in
    record {
      low = ap (λ n. gathered int_min (rounded_down value) b n places) (h ∙ ap₂ int_min low high) ∙ ap least_among corners;
      high = ap (λ n. gathered int_max (rounded_down value) b n places) (k ∙ ap₂ int_max low high) ∙ ap greatest_among corners;
    }

-- and at the end the range alone
pub record IsHull (value : Fraction → Fraction) (places : List ℤ) (b : Bounds) (range : Range) : Type 0 where
  pub low : range.lo ≡ (hull_at value places b (pos 0)).lo
  pub high : range.hi ≡ (hull_at value places b (pos 0)).hi

pub hull_done : (value : Fraction → Fraction) (places : List ℤ) (b : Bounds) (i : ℕ) (range : Range) → length places ≤ i → IsHullSoFar value places b (drop i places) range → IsHull value places b range
hull_done value places b i range h s = record {
  low = sym (at_drop_all (gathered int_min (rounded_down value) b range.lo) places i h) ∙ s.low;
  high = sym (at_drop_all (gathered int_max (rounded_down value) b range.hi) places i h) ∙ s.high;
}

-- ---- one place more

-- a bend has its place, and the function's value there
pub record IsBend (value : Fraction → Fraction) (places : List ℤ) (i : ℕ) (bend : Bend) : Type 0 where
  pub place : bend.place ≡ point_at places i
  pub value_there : bend.value ≡ rounded_down value (point_at places i)

taken : (op : ℤ → ℤ → ℤ) (value : ℤ → ℤ) (p from : ℤ) (inside : List ℤ) (t : Bool) → fold op (if t then op from (value p) else from) (map value inside) ≡ fold op from (map value (if t then p ∷ inside else inside))
taken op value p from inside true = refl
taken op value p from inside false = refl

pub one_more : (op : ℤ → ℤ → ℤ) (value : ℤ → ℤ) (b : Bounds) (places : List ℤ) (i : ℕ) (from next p v : ℤ) → i < length places → p ≡ point_at places i → v ≡ value (point_at places i) → next ≡ (if int_le b.lo p && int_le p b.hi then op from v else from) → gathered op value b next (drop (i + 1) places) ≡ gathered op value b from (drop i places)
one_more op value b places i from next p v h e f is =
    let here = point_at places i in
    let left = drop (i + 1) places in
    ap (λ n. gathered op value b n left) (is ∙ ap₂ (λ q u. if int_le b.lo q && int_le q b.hi then op from u else from) e f)
    ∙ taken op value here from (points_inside b left) (int_le b.lo here && int_le here b.hi)
    ∙ sym (at_drop_more (gathered op value b from) places i (pos 0) h)

pub hull_more : (value : Fraction → Fraction) (places : List ℤ) (b : Bounds) (i : ℕ) (bend : Bend) (range next : Range) → i < length places → IsBend value places i bend → next.lo ≡ (if int_le b.lo bend.place && int_le bend.place b.hi then int_min range.lo bend.value else range.lo) → next.hi ≡ (if int_le b.lo bend.place && int_le bend.place b.hi then int_max range.hi bend.value else range.hi) → IsHullSoFar value places b (drop i places) range → IsHullSoFar value places b (drop (i + 1) places) next
hull_more value places b i bend range next h a lo hi s = record {
  low = one_more int_min (rounded_down value) b places i range.lo next.lo bend.place bend.value h a.place a.value_there lo ∙ s.low;
  high = one_more int_max (rounded_down value) b places i range.hi next.hi bend.place bend.value h a.place a.value_there hi ∙ s.high;
}
