-- What a broken line gives over a range of whole numbers, rounded downward, lies in the hull of what it gives at the corners.
use Rattle.std.specs.Prelude.{◌≡◌, ℕ, suc, ◌<◌, Bool, true, false, cond, ◌&&◌, List, [], ◌∷◌, map, length, get_or, ℤ, pos, ◌≤ℤ◌, int_le}
use Rattle.std.proofs.Common.{refl, sym, ap, ◌∙◌, subst, arith, true≢false}
use Rattle.std.proofs.lemmas.Int.{ints}
use lib.Signed.{clash_ℤ}
use Rattle.fx_fraction.specs.Fraction.{Fraction, denom, whole, AtMost, Same}
use Rattle.fx_fraction.proofs.WholeNumbers.{int_le_refl, int_le_trans, int_le-true, int_le-false, int_le_antisymm, int_le_of-lt, int_mul-one, int_le-mul_pos}
use Rattle.fx_fraction.proofs.Denominators.{is_self, is_whole, AtMost-in, AtMost-out, Same-in}
use Rattle.fx_fraction.proofs.Order.{AtMost_trans, AtMost_of-Same, Same_refl, Same_trans}
use Rattle.fx_core.specs.declared.quotient.Mode.TheVariants.{Floor}
use Rattle.fx_core.specs.Values.{rounded_fraction}
use Rattle.fx_core.proofs.RoundingLaws.{rounded_above, rounds-rounded}
use Rattle.part_rules.specs.declared.bounds.Bounds.{Bounds}
use Rattle.part_rules.specs.Ranges.{points_inside, corners_at, corner_values, least_among, greatest_among}
use Rattle.part_rules.proofs.Hulls.{least_among_below, greatest_among_above}
use Rattle.part_rules.proofs.CornerHulls.{IsInside, values_of_one}
use Rattle.part_rules.proofs.RangesGrow.{Each}
use Rattle.ifx_search.specs.Positions.{is_at_most}
use Rattle.ifx_rules.specs.LookUpRules.{rounded_down, hull_at}
use Rattle.ifx_rules.proofs.Lines.{Knot, between, line}
use Rattle.ifx_rules.proofs.Slopes.{IsGentle, AreGentle, spans, on_between, on_end, line-first, int_le_test}
use Rattle.ifx_rules.proofs.Heights.{IsConvex, HasWhere, AllHave, line_has}

-- ---- rounding downward keeps the order

floor_below : (f : Fraction) → AtMost (whole (rounded_fraction Floor f)) f
floor_below f = AtMost-in (is_whole (rounded_fraction Floor f) (denom f) (omega arith)) (is_self f) (rounds-rounded Floor f.numer (pos (denom f)) (omega (arith, ints))).0

pub floor_grows : (f g : Fraction) → AtMost f g → rounded_fraction Floor f ≤ℤ rounded_fraction Floor g
floor_grows f g h =
    rounded_above Floor g.numer (pos (denom g)) _ (omega (arith, ints))
    (AtMost-out (is_whole (rounded_fraction Floor f) (denom g) (omega arith)) (is_self g) (AtMost_trans (whole (rounded_fraction Floor f)) f g (floor_below f) h))

pub floor_same : (f g : Fraction) → Same f g → rounded_fraction Floor f ≡ rounded_fraction Floor g
floor_same f g h = int_le_antisymm _ _ (floor_grows f g (AtMost_of-Same f g h)) (floor_grows g f (AtMost_of-Same g f (sym h)))

-- a fraction's floor lies in a range
abbrev pub FloorInside : ℤ → ℤ → Fraction → Type 0
FloorInside lo hi f = IsInside lo hi (rounded_fraction Floor f)

pub floor_convex : (lo hi : ℤ) → IsConvex (FloorInside lo hi)
floor_convex lo hi = record { between = λ f g h p q m n. record { low = int_le_trans _ _ _ m.low (floor_grows f g p); high = int_le_trans _ _ _ (floor_grows g h q) n.high } }

-- what holds of all between two of which it holds, holds of a fraction under each of its names
pub named_of : (P : Fraction → Type 0) → IsConvex P → (f g : Fraction) → Same f g → P f → P g
named_of P c f g e p = c.between f g f (AtMost_of-Same f g e) (AtMost_of-Same g f (sym e)) p p

-- ---- each of a list lies in its hull

each_of : (P : ℤ → Type 0) (vs : List ℤ) → ((i : ℕ) → i < length vs → P (get_or vs i (pos 0))) → Each P vs
each_of P [] h = tt
each_of P (v ∷ vs) h = (h 0 (omega arith), each_of P vs (λ i l. h (suc i) (omega arith)))

pub each_in_hull : (vs : List ℤ) → Each (IsInside (least_among vs) (greatest_among vs)) vs
each_in_hull vs = each_of (IsInside (least_among vs) (greatest_among vs)) vs (λ i h. record { low = least_among_below vs i h; high = greatest_among_above vs i h })

pub each_turned : {X : Type 0} (P Q : X → Type 0) → ((x : X) → P x → Q x) → (xs : List X) → Each P xs → Each Q xs
each_turned P Q f [] e = tt
each_turned P Q f (x ∷ xs) e = (f x e.0, each_turned P Q f xs e.1)

each_both : {X : Type 0} (P Q R : X → Type 0) → ((x : X) → P x → Q x → R x) → (xs : List X) → Each P xs → Each Q xs → Each R xs
each_both P Q R f [] d e = tt
each_both P Q R f (x ∷ xs) d e = (f x d.0 e.0, each_both P Q R f xs d.1 e.1)

pub each_unmapped : {X : Type 0} (P : ℤ → Type 0) (f : X → ℤ) (zs : List X) → Each P (map f zs) → Each (λ z. P (f z)) zs
each_unmapped P f [] e = tt
each_unmapped P f (z ∷ zs) e = (e.0, each_unmapped P f zs e.1)

-- of the points inside a range
WhereInside : (ℤ → Type 0) → Bounds → ℤ → Type 0
WhereInside P b p = (int_le b.lo p && int_le p b.hi ≡ true) → P p

inside_step : (P : ℤ → Type 0) (b : Bounds) (p : ℤ) (points : List ℤ) (t : Bool) → int_le b.lo p && int_le p b.hi ≡ t → Each P (cond t (p ∷ points_inside b points) (points_inside b points)) → (((t ≡ true) → P p) × Each P (points_inside b points))
inside_step P b p points true e h = ((λ s. h.0), h.1)
inside_step P b p points false e h = ((λ s. absurd (true≢false (sym s))), h)

each_inside : (P : ℤ → Type 0) (b : Bounds) (points : List ℤ) → Each P (points_inside b points) → Each (WhereInside P b) points
unfolding WhereInside
each_inside P b [] h = tt
each_inside P b (p ∷ points) h =
    let s = inside_step P b p points _ refl h in
    (s.0, each_inside P b points s.1)

-- ---- at its knots a line has their heights

-- a knot of a line that begins at p is at p or behind it, and has the line's height
pub record IsAtKnot (p : Knot) (knots : List Knot) (k : Knot) : Type 0 where
  pub behind : p.place ≤ℤ k.place
  pub height : Same (line (p ∷ knots) (whole k.place)) (whole k.height)

whole_test : (k z : ℤ) → is_at_most (whole k) z ≡ int_le k z
unfolding whole
whole_test k z = ap (int_le k) (int_mul-one z)

same_of : (f g : Fraction) → f ≡ g → Same f g
same_of f g e = subst (λ h. Same f h) e (Same_refl f)

segment_end : {D G : ℕ} (p q : Knot) → IsGentle D G p q → Same (between p q (whole q.place)) (whole q.height)
segment_end p q s =
    let t = spans p q s in
    Same-in (on_between t (is_whole q.place 1 (omega arith))).is (on_end 1 (omega arith) t).is refl

at_end_knot : {D G : ℕ} (p q : Knot) (knots : List Knot) (k : Knot) → IsGentle D G p q → k.place ≡ q.place → IsAtKnot q knots k → Same (between p q (whole k.place)) (whole k.height)
at_end_knot p q knots k s e a =
    let first = subst (λ z. Same (line (q ∷ knots) (whole z)) (whole k.height)) e a.height in
    let here = subst (λ f. Same f (whole k.height)) (line-first q knots) first in
    subst (λ z. Same (between p q (whole z)) (whole k.height)) (sym e) (Same_trans (between p q (whole q.place)) (whole q.height) (whole k.height) (segment_end p q s) here)

next_height : {D G : ℕ} (p q : Knot) (knots : List Knot) (k : Knot) (a b : Bool) → IsGentle D G p q → IsAtKnot q knots k → is_at_most (whole k.place) p.place ≡ a → is_at_most (whole k.place) q.place ≡ b →
    Same (cond a (whole p.height) (cond b (between p q (whole k.place)) (line (q ∷ knots) (whole k.place)))) (whole k.height)
next_height p q knots k true b s at m n = clash_ℤ s.rising (int_le_trans _ _ _ at.behind (int_le-true k.place p.place (sym (whole_test k.place p.place) ∙ m)))
next_height p q knots k false true s at m n = at_end_knot p q knots k s (int_le_antisymm _ _ (int_le-true k.place q.place (sym (whole_test k.place q.place) ∙ n)) at.behind) at
next_height p q knots k false false s at m n = at.height

next_knot : {D G : ℕ} (p q : Knot) (knots : List Knot) (k : Knot) → IsGentle D G p q → IsAtKnot q knots k → IsAtKnot p (q ∷ knots) k
unfolding line
next_knot p q knots k s at = record { behind = int_le_trans _ _ _ (int_le_of-lt _ _ s.rising) at.behind; height = next_height p q knots k _ _ s at refl refl }

first_knot : (p : Knot) (knots : List Knot) → IsAtKnot p knots p
first_knot p knots = record { behind = int_le_refl p.place; height = same_of _ _ (line-first p knots) }

pub at_knots : (D G : ℕ) (p : Knot) (knots : List Knot) → AreGentle D G (p ∷ knots) → Each (IsAtKnot p knots) (p ∷ knots)
at_knots D G p [] s = (first_knot p [], tt)
at_knots D G p (q ∷ knots) s = (first_knot p (q ∷ knots), each_turned (IsAtKnot q knots) (IsAtKnot p (q ∷ knots)) (λ k at. next_knot p q knots k s.0 at) (q ∷ knots) (at_knots D G q knots s.1))

-- ---- a function that is a broken line

-- a function is the line of these knots, which stand at these points, and no segment is steeper than D / G
pub record IsLine (D G : ℕ) (value : Fraction → Fraction) (points : List ℤ) : Type 0 where
  pub first : Knot
  pub knots : List Knot
  pub places : map (λ k. k.place) (first ∷ knots) ≡ points
  pub gentle : AreGentle D G (first ∷ knots)
  pub same : (x : Fraction) → Same (value x) (line (first ∷ knots) x)

test_inside : (lo hi p : ℤ) (s t : Bool) → int_le lo p ≡ s → int_le p hi ≡ t → lo ≤ℤ p → p ≤ℤ hi → int_le lo p && int_le p hi ≡ true
test_inside lo hi p true t e f h k = ap (λ u. u && int_le p hi) e ∙ int_le_test p hi t f k
test_inside lo hi p false t e f h k = clash_ℤ (int_le-false lo p e) h

whole_order : (a b : ℤ) → AtMost (whole a) (whole b) → a ≤ℤ b
whole_order a b h = rw (int_mul-one a, int_mul-one b) at (AtMost-out (is_whole a 1 (omega arith)) (is_whole b 1 (omega arith)) h)

order_whole : (a b : ℤ) → a ≤ℤ b → AtMost (whole a) (whole b)
order_whole a b h = AtMost-in (is_whole a 1 (omega arith)) (is_whole b 1 (omega arith)) (int_le-mul_pos a b 1 h)

all_have : (P : Fraction → Type 0) (lo hi : Fraction) (knots : List Knot) → Each (HasWhere P lo hi) knots → AllHave P lo hi knots
all_have P lo hi [] e = tt
all_have P lo hi (k ∷ knots) e = (e.0, all_have P lo hi knots e.1)

-- each knot inside the range has what the function has at the points inside it
knots_have : {D G : ℕ} (P : Fraction → Type 0) (value : Fraction → Fraction) (points : List ℤ) (b : Bounds) (l : IsLine D G value points) → ((f g : Fraction) → Same f g → P f → P g) →
    Each (WhereInside (λ z. P (value (whole z))) b) points → AllHave P (whole b.lo) (whole b.hi) (l.first ∷ l.knots)
unfolding WhereInside
knots_have {D} {G} P value points b l named e =
    all_have P (whole b.lo) (whole b.hi) (l.first ∷ l.knots)
    (each_both _ _ (HasWhere P (whole b.lo) (whole b.hi))
    (λ k at has. record { has = λ m n. named (line (l.first ∷ l.knots) (whole k.place)) (whole k.height) at.height (named (value (whole k.place)) (line (l.first ∷ l.knots) (whole k.place)) (l.same (whole k.place)) (has (test_inside b.lo b.hi k.place _ _ refl refl (whole_order _ _ m) (whole_order _ _ n)))) })
    (l.first ∷ l.knots) (at_knots D G l.first l.knots l.gentle)
    (each_unmapped (WhereInside (λ z. P (value (whole z))) b) (λ k. k.place) (l.first ∷ l.knots) (subst (Each (WhereInside (λ z. P (value (whole z))) b)) (sym l.places) e)))

-- what holds of the function at all corners of a range holds of it over the range
pub line_inside : {D G : ℕ} (P : Fraction → Type 0) (value : Fraction → Fraction) (points : List ℤ) (b : Bounds) → IsConvex P → IsLine D G value points → (m : ℤ) → b.lo ≤ℤ m → m ≤ℤ b.hi → Each (λ z. P (value (whole z))) (corners_at b points) → P (value (whole m))
line_inside {D} {G} P value points b convex l m h k corners =
    let named : (f g : Fraction) → Same f g → P f → P g = named_of P convex in
    let inner = each_inside (λ z. P (value (whole z))) b points corners.1.1 in
    let all = knots_have P value points b l named inner in
    let knots = l.first ∷ l.knots in
    let low = named (value (whole b.lo)) (line knots (whole b.lo)) (l.same (whole b.lo)) corners.0 in
    let high = named (value (whole b.hi)) (line knots (whole b.hi)) (l.same (whole b.hi)) corners.1.0 in
    named (line knots (whole m)) (value (whole m)) (sym (l.same (whole m)))
    (line_has D G P (whole b.lo) (whole b.hi) knots convex l.gentle (whole m) (order_whole _ _ h) (order_whole _ _ k) low high all)

-- what the function gives over a range, rounded downward, lies in the hull
pub line_in_hull : {D G : ℕ} (value : Fraction → Fraction) (points : List ℤ) (b : Bounds) (err : ℤ) → IsLine D G value points → (m : ℤ) → b.lo ≤ℤ m → m ≤ℤ b.hi → IsInside (hull_at value points b err).lo (hull_at value points b err).hi (rounded_down value m)
line_in_hull {D} {G} value points b err l m h k =
    let vs = corner_values (λ z. rounded_down value (z 0)) (corners_at b points ∷ []) in
    let lo = least_among vs in
    let hi = greatest_among vs in
    let corners = each_unmapped (IsInside lo hi) (rounded_down value) (corners_at b points) (subst (Each (IsInside lo hi)) (values_of_one (rounded_down value) (corners_at b points)) (each_in_hull vs)) in
    line_inside (FloorInside lo hi) value points b (floor_convex lo hi) l m h k corners
