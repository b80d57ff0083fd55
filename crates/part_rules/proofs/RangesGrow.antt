-- The range of a rule grows with those that it reads: each corner of narrower ranges is a value of the wide ones, and so lies in
-- what a sound rule gives for these.
use Rattle.std.specs.Prelude.{◌≡◌, ℕ, zero, suc, ◌+◌, ◌<◌, ◌≤◌, Bool, true, false, cond, ◌&&◌, List, [], ◌∷◌, ◌++◌, map, flat_map, fold, length, get_or, ℤ, pos, ◌≤ℤ◌, int_le, if◌then◌else◌}
use Rattle.std.specs.Int.{int_min, int_max}
use Rattle.std.proofs.Common.{refl, arith, subst, length-append}
use Rattle.std.proofs.lemmas.List.{length-map}
use Rattle.std.proofs.lemmas.Int.{ints, clamps}
use Rattle.fx_fraction.proofs.WholeNumbers.{int_le_refl, int_le_trans, int_le-true}
use Rattle.part_rules.specs.declared.bounds.Bounds.{Bounds}
use Rattle.part_rules.specs.Ranges.{points_inside, corners_at, given_bounds, ends_of, corners_of, corner_values, least_among, greatest_among, zero_between}
use Rattle.part_rules.specs.PartRules.{IsNarrower}
use Rattle.part_rules.proofs.CornerHulls.{IsInside, in_hull}

-- ---- of each of a list

abbrev pub Each : {X : Type 0} → (X → Type 0) → List X → Type 0
Each P [] = Unit {0}
Each P (x ∷ xs) = P x × Each P xs

pub each_append : {X : Type 0} (P : X → Type 0) (xs ys : List X) → Each P xs → Each P ys → Each P (xs ++ ys)
each_append P [] ys p q = q
each_append P (x ∷ xs) ys p q = (p.0, each_append P xs ys p.1 q)

pub each_map : {X Y : Type 0} (P : X → Type 0) (Q : Y → Type 0) (f : X → Y) → ((x : X) → P x → Q (f x)) → (xs : List X) → Each P xs → Each Q (map f xs)
each_map P Q f h [] p = tt
each_map P Q f h (x ∷ xs) p = (h x p.0, each_map P Q f h xs p.1)

-- ---- the hull of numbers that lie inside lies inside

fold_keeps : (P : ℤ → Type 0) (f : ℤ → ℤ → ℤ) → ((a b : ℤ) → P a → P b → P (f a b)) → (v : ℤ) (vs : List ℤ) → P v → Each P vs → P (fold f v vs)
fold_keeps P f h v [] p q = p
fold_keeps P f h v (w ∷ vs) p q = fold_keeps P f h (f v w) vs (h v w p q.0) q.1

lesser_inside : (lo hi a b : ℤ) → IsInside lo hi a → IsInside lo hi b → IsInside lo hi (int_min a b)
lesser_inside lo hi a b p q =
    let l = p.low in
    let h = p.high in
    let k = q.low in
    record { low = omega (arith, ints, clamps, l, k); high = omega (arith, ints, clamps, h) }

greater_inside : (lo hi a b : ℤ) → IsInside lo hi a → IsInside lo hi b → IsInside lo hi (int_max a b)
greater_inside lo hi a b p q =
    let l = p.low in
    let h = p.high in
    let k = q.high in
    record { low = omega (arith, ints, clamps, l); high = omega (arith, ints, clamps, h, k) }

pub record HullInside (lo hi : ℤ) (vs : List ℤ) : Type 0 where
  pub low : lo ≤ℤ least_among vs
  pub high : greatest_among vs ≤ℤ hi

pub hull_inside : (lo hi : ℤ) (vs : List ℤ) → 1 ≤ length vs → Each (IsInside lo hi) vs → HullInside lo hi vs
hull_inside lo hi [] some p = absurd (omega arith)
hull_inside lo hi (v ∷ vs) some p = record {
  low = (fold_keeps (IsInside lo hi) int_min (lesser_inside lo hi) v vs p.0 p.1).low;
  high = (fold_keeps (IsInside lo hi) int_max (greater_inside lo hi) v vs p.0 p.1).high;
}

-- ---- the corners of one argument lie in its range

inside_tested : (b : Bounds) (p : ℤ) (points : List ℤ) (s t : Bool) → int_le b.lo p ≡ s → int_le p b.hi ≡ t → Each (IsInside b.lo b.hi) (points_inside b points) → Each (IsInside b.lo b.hi) (cond (s && t) (p ∷ points_inside b points) (points_inside b points))
inside_tested b p points true true e f h = (record { low = int_le-true _ _ e; high = int_le-true _ _ f }, h)
inside_tested b p points true false e f h = h
inside_tested b p points false t e f h = h

points_lie_inside : (b : Bounds) (points : List ℤ) → Each (IsInside b.lo b.hi) (points_inside b points)
points_lie_inside b [] = tt
points_lie_inside b (p ∷ points) = inside_tested b p points _ _ refl refl (points_lie_inside b points)

pub corners_inside : (b : Bounds) (points : List ℤ) → b.lo ≤ℤ b.hi → Each (IsInside b.lo b.hi) (corners_at b points)
corners_inside b points h = (record { low = int_le_refl _; high = h }, (record { low = h; high = int_le_refl _ }, points_lie_inside b points))

-- ---- the corners of all arguments

-- each argument's corners lie in its range
abbrev pub LieInRanges : List Bounds → List (List ℤ) → Type 0
LieInRanges [] [] = Unit {0}
LieInRanges [] (places ∷ others) = ⊥
LieInRanges (b ∷ bounds) [] = ⊥
LieInRanges (b ∷ bounds) (places ∷ others) = Each (IsInside b.lo b.hi) places × LieInRanges bounds others

-- a corner's numbers lie in the ranges, one by one
abbrev pub IsCorner : List Bounds → List ℤ → Type 0
IsCorner [] c = Unit {0}
IsCorner (b ∷ bounds) [] = ⊥
IsCorner (b ∷ bounds) (z ∷ c) = IsInside b.lo b.hi z × IsCorner bounds c

choices_inside : (b : Bounds) (bounds : List Bounds) (places : List ℤ) (rest : List (List ℤ)) → Each (IsInside b.lo b.hi) places → Each (IsCorner bounds) rest → Each (IsCorner (b ∷ bounds)) (flat_map (λ z. map (λ c. z ∷ c) rest) places)
choices_inside b bounds [] rest p q = tt
choices_inside b bounds (z ∷ places) rest p q =
    each_append (IsCorner (b ∷ bounds)) (map (λ c. z ∷ c) rest) (flat_map (λ z. map (λ c. z ∷ c) rest) places)
    (each_map (IsCorner bounds) (IsCorner (b ∷ bounds)) (λ c. z ∷ c) (λ c k. (p.0, k)) rest q)
    (choices_inside b bounds places rest p.1 q)

all_corners_inside : (bounds : List Bounds) (arguments : List (List ℤ)) → LieInRanges bounds arguments → Each (IsCorner bounds) (corners_of arguments)
all_corners_inside [] [] p = (tt, tt)
all_corners_inside [] (places ∷ others) p = absurd p
all_corners_inside (b ∷ bounds) [] p = absurd p
all_corners_inside (b ∷ bounds) (places ∷ others) p = choices_inside b bounds places (corners_of others) p.0 (all_corners_inside bounds others p.1)

abbrev IsOrdered : Bounds → Type 0
IsOrdered b = b.lo ≤ℤ b.hi

ends_inside : (bounds : List Bounds) → Each IsOrdered bounds → LieInRanges bounds (map (λ b. corners_at b []) bounds)
ends_inside [] p = tt
ends_inside (b ∷ bounds) p = (corners_inside b [] p.0, ends_inside bounds p.1)

corners_some : (bounds : List Bounds) → 1 ≤ length (corners_of (map (λ b. corners_at b []) bounds))
corners_some [] = omega arith
corners_some (b ∷ bounds) =
    let rest = corners_of (map (λ b. corners_at b []) bounds) in
    omega (arith, corners_some bounds, length-append (map (λ c. b.lo ∷ c) rest) (map (λ c. b.hi ∷ c) rest ++ []), length-map rest (λ c. b.lo ∷ c))

corner_number : (given : ℕ → Bounds) (p n q : ℕ) (c : List ℤ) → IsCorner (given_bounds given p n) c → q < n → IsInside (given (p + q)).lo (given (p + q)).hi (get_or c q (pos 0))
corner_number given p zero q c k h = absurd (omega arith)
corner_number given p (suc n) q [] k h = absurd k
corner_number given p (suc n) zero (z ∷ c) k h = subst (λ t. IsInside (given t).lo (given t).hi z) (omega arith) k.0
corner_number given p (suc n) (suc q) (z ∷ c) k h = subst (λ t. IsInside (given t).lo (given t).hi (get_or c q (pos 0))) (omega arith) (corner_number given (p + 1) n q c k.1 (omega arith))

ordered_from : (given : ℕ → Bounds) (p n : ℕ) → ((q : ℕ) → q < n → IsOrdered (given (p + q))) → Each IsOrdered (given_bounds given p n)
ordered_from given p zero h = tt
ordered_from given p (suc n) h = (subst (λ t. IsOrdered (given t)) (omega arith) (h 0 (omega arith)), ordered_from given (p + 1) n (λ q l. subst (λ t. IsOrdered (given t)) (omega arith) (h (suc q) (omega arith))))

-- ---- narrower ranges

-- the first n of one are narrower than those of the other
abbrev pub AreNarrower : ℕ → (ℕ → Bounds) → (ℕ → Bounds) → Type 0
AreNarrower n narrow wide = (p : ℕ) → p < n → IsNarrower (narrow p) (wide p)

-- numbers lie in the first n ranges
abbrev pub AreInside : ℕ → (ℕ → Bounds) → (ℕ → ℤ) → Type 0
AreInside n given m = (p : ℕ) → p < n → IsInside (given p).lo (given p).hi (m p)

inside_wide : (narrow wide : Bounds) (z : ℤ) → IsNarrower narrow wide → IsInside narrow.lo narrow.hi z → IsInside wide.lo wide.hi z
inside_wide narrow wide z n i = record { low = int_le_trans _ _ _ n.inside.low i.low; high = int_le_trans _ _ _ i.high n.inside.high }

ordered_ends : (n : ℕ) (narrow wide : ℕ → Bounds) → AreNarrower n narrow wide → LieInRanges (given_bounds narrow 0 n) (ends_of n narrow)
ordered_ends n narrow wide narrower = ends_inside (given_bounds narrow 0 n) (ordered_from narrow 0 n (λ q l. subst (λ t. IsOrdered (narrow t)) (omega arith) (narrower q l).proper.ordered))

-- the values at corners in narrower ranges lie between what all values in the wide ones lie between
pub values_inside : (n : ℕ) (value : (ℕ → ℤ) → ℤ) (arguments : List (List ℤ)) (narrow wide : ℕ → Bounds) (lo hi : ℤ) → LieInRanges (given_bounds narrow 0 n) arguments → AreNarrower n narrow wide → ((m : ℕ → ℤ) → AreInside n wide m → IsInside lo hi (value m)) → Each (IsInside lo hi) (corner_values value arguments)
values_inside n value arguments narrow wide lo hi lie narrower inside =
    each_map (IsCorner (given_bounds narrow 0 n)) (IsInside lo hi) (λ corner. value (λ p. get_or corner p (pos 0)))
    (λ c k. inside (λ p. get_or c p (pos 0)) (λ q l. inside_wide (narrow q) (wide q) _ (narrower q l) (subst (λ t. IsInside (narrow t).lo (narrow t).hi (get_or c q (pos 0))) (omega arith) (corner_number narrow 0 n q c k l))))
    (corners_of arguments)
    (all_corners_inside (given_bounds narrow 0 n) arguments lie)

-- so do those at the ends
pub corner_values_inside : (n : ℕ) (value : (ℕ → ℤ) → ℤ) (narrow wide : ℕ → Bounds) (lo hi : ℤ) → AreNarrower n narrow wide → ((m : ℕ → ℤ) → AreInside n wide m → IsInside lo hi (value m)) → Each (IsInside lo hi) (corner_values value (ends_of n narrow))
corner_values_inside n value narrow wide lo hi narrower inside = values_inside n value (ends_of n narrow) narrow wide lo hi (ordered_ends n narrow wide narrower) narrower inside

-- and so does their hull with other values that lie there
pub hull_grows : (n : ℕ) (value : (ℕ → ℤ) → ℤ) (narrow wide : ℕ → Bounds) (others : List ℤ) (lo hi : ℤ) → AreNarrower n narrow wide → ((m : ℕ → ℤ) → AreInside n wide m → IsInside lo hi (value m)) → Each (IsInside lo hi) others → HullInside lo hi (corner_values value (ends_of n narrow) ++ others)
hull_grows n value narrow wide others lo hi narrower inside rest =
    let vs = corner_values value (ends_of n narrow) in
    hull_inside lo hi (vs ++ others)
    (omega (arith, corners_some (given_bounds narrow 0 n), length-append vs others, length-map (corners_of (ends_of n narrow)) (λ corner. value (λ p. get_or corner p (pos 0)))))
    (each_append (IsInside lo hi) vs others (corner_values_inside n value narrow wide lo hi narrower inside) rest)

-- the ends of a narrower range lie in the hull of the wide one's
pub ends_grow : (narrow wide : Bounds) → IsNarrower narrow wide → HullInside (least_among (wide.lo ∷ wide.hi ∷ [])) (greatest_among (wide.lo ∷ wide.hi ∷ [])) (narrow.lo ∷ narrow.hi ∷ [])
ends_grow narrow wide n =
    let first = in_hull (wide.lo ∷ wide.hi ∷ []) 0 (omega arith) in
    let second = in_hull (wide.lo ∷ wide.hi ∷ []) 1 (omega arith) in
    hull_inside _ _ (narrow.lo ∷ narrow.hi ∷ []) (omega arith) (
      record { low = int_le_trans _ _ _ first.low n.inside.low; high = int_le_trans _ _ _ (int_le_trans _ _ _ n.proper.ordered n.inside.high) second.high },
      (record { low = int_le_trans _ _ _ first.low (int_le_trans _ _ _ n.inside.low n.proper.ordered); high = int_le_trans _ _ _ n.inside.high second.high }, tt),
    )

-- ---- the 0 of an absolute value

zero_there : (l h : ℤ) (s t : Bool) → int_le l (pos 0) ≡ s → int_le (pos 0) h ≡ t → l ≤ℤ pos 0 → pos 0 ≤ℤ h → (if s && t then pos 0 ∷ [] else []) ≡ pos 0 ∷ []
zero_there l h true true e f p q = refl
zero_there l h false t e f p q = absurd (omega (arith, ints, e, p))
zero_there l h true false e f p q = absurd (omega (arith, ints, f, q))

zero_tested : (lo hi l h l' h' : ℤ) (s t : Bool) → int_le l (pos 0) ≡ s → int_le (pos 0) h ≡ t → l' ≤ℤ l → h ≤ℤ h' → ((if int_le l' (pos 0) && int_le (pos 0) h' then pos 0 ∷ [] else []) ≡ pos 0 ∷ [] → IsInside lo hi (pos 0)) → Each (IsInside lo hi) (if s && t then pos 0 ∷ [] else [])
zero_tested lo hi l h l' h' true true e f p q inside = (inside (zero_there l' h' _ _ refl refl (int_le_trans _ _ _ p (int_le-true l (pos 0) e)) (int_le_trans _ _ _ (int_le-true (pos 0) h f) q)), tt)
zero_tested lo hi l h l' h' true false e f p q inside = tt
zero_tested lo hi l h l' h' false t e f p q inside = tt

-- where narrower numbers take 0 or both signs, the wide ones do
pub zero_grows : (lo hi : ℤ) (vs ws : List ℤ) → HullInside (least_among ws) (greatest_among ws) vs → (zero_between ws ≡ pos 0 ∷ [] → IsInside lo hi (pos 0)) → Each (IsInside lo hi) (zero_between vs)
zero_grows lo hi vs ws h inside = zero_tested lo hi (least_among vs) (greatest_among vs) (least_among ws) (greatest_among ws) _ _ refl refl h.low h.high inside
