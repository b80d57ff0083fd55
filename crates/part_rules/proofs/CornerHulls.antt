-- Where a value lies between two of a hull it lies in the hull. A function of numbers that lies, in each of them with the
-- others fixed in their ranges, between its values at the ends lies in every hull that holds its values at the corners.
use Rattle.std.specs.Prelude.{◌≡◌, ℕ, ◌<◌, ◌⊎◌, List, [], ◌∷◌, length, map, get_or, ℤ, pos, ◌≤ℤ◌, unsigned_abs}
use Rattle.std.proofs.Common.{refl, ap, sym, subst, arith, inl, inr}
use Rattle.std.proofs.lemmas.Int.{ints}
use Rattle.fx_fraction.proofs.WholeNumbers.{int_le_trans, int_le-pos, int_lt_or_le}
use Rattle.part_rules.specs.Ranges.{corner_values}
use Rattle.part_rules.proofs.Hulls.{IsInHull, least_among_below, greatest_among_above}

-- v lies between a and b, whichever of the two is the lesser
pub record IsUp (a v b : ℤ) : Type 0 where
  pub low : a ≤ℤ v
  pub high : v ≤ℤ b

abbrev pub IsBetween : ℤ → ℤ → ℤ → Type 0
IsBetween a v b = IsUp a v b ⊎ IsUp b v a

-- each number of a list lies in its hull
pub in_hull : (vs : List ℤ) (i : ℕ) → i < length vs → IsInHull vs (get_or vs i (pos 0))
in_hull vs i h = record { low = least_among_below vs i h; high = greatest_among_above vs i h }

pub between_in_hull : (vs : List ℤ) (a v b : ℤ) → IsInHull vs a → IsInHull vs b → IsBetween a v b → IsInHull vs v
between_in_hull vs a v b p q (inl h) = record { low = int_le_trans _ _ _ p.low h.low; high = int_le_trans _ _ _ h.high q.high }
between_in_hull vs a v b p q (inr h) = record { low = int_le_trans _ _ _ q.low h.low; high = int_le_trans _ _ _ h.high p.high }

-- a number in a range, by its ends
pub record IsInside (lo hi x : ℤ) : Type 0 where
  pub low : lo ≤ℤ x
  pub high : x ≤ℤ hi

-- a function of one number, from one end of a range to the other
abbrev pub LiesBetween : (ℤ → ℤ) → ℤ → ℤ → Type 0
LiesBetween g lo hi = (x : ℤ) → IsInside lo hi x → IsBetween (g lo) (g x) (g hi)

hull_of_one : (vs : List ℤ) (g : ℤ → ℤ) (a b : ℤ) → LiesBetween g a b → IsInHull vs (g a) → IsInHull vs (g b) → (x : ℤ) → IsInside a b x → IsInHull vs (g x)
hull_of_one vs g a b h p q x i = between_in_hull vs (g a) (g x) (g b) p q (h x i)

-- the ends of a range lie in it
pub lower_end : {lo hi x : ℤ} → IsInside lo hi x → IsInside lo hi lo
lower_end {lo} {hi} {x} i = record { low = omega (arith, ints); high = int_le_trans lo x hi i.low i.high }

pub upper_end : {lo hi x : ℤ} → IsInside lo hi x → IsInside lo hi hi
upper_end {lo} {hi} {x} i = record { low = int_le_trans lo x hi i.low i.high; high = omega (arith, ints) }

-- of two numbers, by the first and then by the second
hull_of_two : (vs : List ℤ) (g : ℤ → ℤ → ℤ) (a b c d : ℤ) → ((y : ℤ) → IsInside c d y → LiesBetween (λ x. g x y) a b) → ((x : ℤ) → IsInside a b x → LiesBetween (g x) c d) → IsInHull vs (g a c) → IsInHull vs (g a d) → IsInHull vs (g b c) → IsInHull vs (g b d) → (x y : ℤ) → IsInside a b x → IsInside c d y → IsInHull vs (g x y)
hull_of_two vs g a b c d first second p q r s x y i j =
    hull_of_one vs (λ t. g t y) a b (first y j) (hull_of_one vs (g a) c d (second a (lower_end i)) p q y j) (hull_of_one vs (g b) c d (second b (upper_end i)) r s y j) x i

-- ---- absolute values

not_negative_abs : (l v : ℤ) → pos 0 ≤ℤ l → l ≤ℤ v → pos (unsigned_abs l) ≤ℤ pos (unsigned_abs v)
not_negative_abs l v p h = int_le-pos _ _ (omega (arith, ints, p, h))

not_positive_abs : (v h : ℤ) → h ≤ℤ pos 0 → v ≤ℤ h → pos (unsigned_abs h) ≤ℤ pos (unsigned_abs v)
not_positive_abs v h p k = int_le-pos _ _ (omega (arith, ints, p, k))

-- a function that keeps the order, at the absolute value of a number between l and h, lies in a hull that holds its values
-- at those of l and h, and at 0 where l and h are on either side of it
pub ordered_in_hull : (f : ℤ → ℤ) → ((a b : ℤ) → a ≤ℤ b → f a ≤ℤ f b) → (vs : List ℤ) (l v h : ℤ) → l ≤ℤ v → v ≤ℤ h → IsInHull vs (f (pos (unsigned_abs l))) → IsInHull vs (f (pos (unsigned_abs h))) → (l ≤ℤ pos 0 → pos 0 ≤ℤ h → IsInHull vs (f (pos 0))) → IsInHull vs (f (pos (unsigned_abs v)))
ordered_in_hull f order vs l v h low high p q zero =
    elim (int_lt_or_le (pos 0) l) [
      | inl above ↦ between_in_hull vs _ _ _ p q (inl (record { low = order _ _ (not_negative_abs l v (omega (arith, ints, above)) low); high = order _ _ (not_negative_abs v h (omega (arith, ints, above, low)) high) }))
      | inr below ↦ elim (int_lt_or_le h (pos 0)) [
        | inl under ↦ between_in_hull vs _ _ _ q p (inl (record { low = order _ _ (not_positive_abs v h (omega (arith, ints, under)) high); high = order _ _ (not_positive_abs l v (omega (arith, ints, under, high)) low) }))
        | inr over ↦ elim (int_lt_or_le v (pos 0)) [
          | inl down ↦ between_in_hull vs _ _ _ (zero below over) p (inl (record { low = order _ _ (int_le-pos _ _ (omega arith)); high = order _ _ (not_positive_abs l v (omega (arith, ints, down)) low) }))
          | inr up ↦ between_in_hull vs _ _ _ (zero below over) q (inl (record { low = order _ _ (int_le-pos _ _ (omega arith)); high = order _ _ (not_negative_abs v h up high) }))
        ]
      ]
    ]

-- the absolute value itself
pub absolute_in_hull : (vs : List ℤ) (l v h : ℤ) → l ≤ℤ v → v ≤ℤ h → IsInHull vs (pos (unsigned_abs l)) → IsInHull vs (pos (unsigned_abs h)) → (l ≤ℤ pos 0 → pos 0 ≤ℤ h → IsInHull vs (pos 0)) → IsInHull vs (pos (unsigned_abs v))
absolute_in_hull vs l v h low high p q zero = ordered_in_hull (λ z. z) (λ a b k. k) vs l v h low high p q zero

-- ---- the corners of one range

-- a function's values at the corners of one argument are those at its places
pub values_of_one : (f : ℤ → ℤ) (places : List ℤ) → corner_values (λ m. f (m 0)) (places ∷ []) ≡ map f places
values_of_one f [] = refl
values_of_one f (z ∷ places) = ap (λ vs. f z ∷ vs) (values_of_one f places)

-- ---- the corners of two and of three ranges

-- a function f of two numbers by the values of g, which are those of f in the ranges
pub hull_of_corners : (g f : ℤ → ℤ → ℤ) (a b c d : ℤ) (others : List ℤ) → ((x y : ℤ) → IsInside a b x → IsInside c d y → g x y ≡ f x y) → ((y : ℤ) → IsInside c d y → LiesBetween (λ x. f x y) a b) → ((x : ℤ) → IsInside a b x → LiesBetween (f x) c d) → (x y : ℤ) → IsInside a b x → IsInside c d y → IsInHull (g a c ∷ g a d ∷ g b c ∷ g b d ∷ others) (g x y)
hull_of_corners g f a b c d others same first second x y i j =
    let vs = g a c ∷ g a d ∷ g b c ∷ g b d ∷ others in
    let a' : IsInside a b a = lower_end i in
    let b' : IsInside a b b = upper_end i in
    let c' : IsInside c d c = lower_end j in
    let d' : IsInside c d d = upper_end j in
    let at_ac : IsInHull vs (f a c) = subst (IsInHull vs) (same a c a' c') (in_hull vs 0 (omega arith)) in
    let at_ad : IsInHull vs (f a d) = subst (IsInHull vs) (same a d a' d') (in_hull vs 1 (omega arith)) in
    let at_bc : IsInHull vs (f b c) = subst (IsInHull vs) (same b c b' c') (in_hull vs 2 (omega arith)) in
    let at_bd : IsInHull vs (f b d) = subst (IsInHull vs) (same b d b' d') (in_hull vs 3 (omega arith)) in
    subst (IsInHull vs) (sym (same x y i j)) (hull_of_two vs f a b c d first second at_ac at_ad at_bc at_bd x y i j)

pub hull_of_three_corners : (g f : ℤ → ℤ → ℤ → ℤ) (a b c d k l : ℤ) → ((x y z : ℤ) → IsInside a b x → IsInside c d y → IsInside k l z → g x y z ≡ f x y z) → ((y z : ℤ) → IsInside c d y → IsInside k l z → LiesBetween (λ x. f x y z) a b) → ((x z : ℤ) → IsInside a b x → IsInside k l z → LiesBetween (λ y. f x y z) c d) → ((x y : ℤ) → IsInside a b x → IsInside c d y → LiesBetween (f x y) k l) → (x y z : ℤ) → IsInside a b x → IsInside c d y → IsInside k l z → IsInHull (g a c k ∷ g a c l ∷ g a d k ∷ g a d l ∷ g b c k ∷ g b c l ∷ g b d k ∷ g b d l ∷ []) (g x y z)
hull_of_three_corners g f a b c d k l same first second third x y z i j n =
    let vs = g a c k ∷ g a c l ∷ g a d k ∷ g a d l ∷ g b c k ∷ g b c l ∷ g b d k ∷ g b d l ∷ [] in
    let a' : IsInside a b a = lower_end i in
    let b' : IsInside a b b = upper_end i in
    let c' : IsInside c d c = lower_end j in
    let d' : IsInside c d d = upper_end j in
    let k' : IsInside k l k = lower_end n in
    let l' : IsInside k l l = upper_end n in
    let at_ack : IsInHull vs (f a c k) = subst (IsInHull vs) (same a c k a' c' k') (in_hull vs 0 (omega arith)) in
    let at_acl : IsInHull vs (f a c l) = subst (IsInHull vs) (same a c l a' c' l') (in_hull vs 1 (omega arith)) in
    let at_adk : IsInHull vs (f a d k) = subst (IsInHull vs) (same a d k a' d' k') (in_hull vs 2 (omega arith)) in
    let at_adl : IsInHull vs (f a d l) = subst (IsInHull vs) (same a d l a' d' l') (in_hull vs 3 (omega arith)) in
    let at_bck : IsInHull vs (f b c k) = subst (IsInHull vs) (same b c k b' c' k') (in_hull vs 4 (omega arith)) in
    let at_bcl : IsInHull vs (f b c l) = subst (IsInHull vs) (same b c l b' c' l') (in_hull vs 5 (omega arith)) in
    let at_bdk : IsInHull vs (f b d k) = subst (IsInHull vs) (same b d k b' d' k') (in_hull vs 6 (omega arith)) in
    let at_bdl : IsInHull vs (f b d l) = subst (IsInHull vs) (same b d l b' d' l') (in_hull vs 7 (omega arith)) in
    let at_a : IsInHull vs (f a y z) = hull_of_two vs (f a) c d k l (λ t u. second a t a' u) (λ t u. third a t a' u) at_ack at_acl at_adk at_adl y z j n in
    let at_b : IsInHull vs (f b y z) = hull_of_two vs (f b) c d k l (λ t u. second b t b' u) (λ t u. third b t b' u) at_bck at_bcl at_bdk at_bdl y z j n in
    subst (IsInHull vs) (sym (same x y z i j n)) (hull_of_one vs (λ t. f t y z) a b (first y z j n) at_a at_b x i)
