-- The laws of distances between fractions, on which bounds of errors stand, each as one statement.
use Rattle.std.specs.Prelude.{◌≡◌, ℕ, ◌≤◌, ◌↔◌, false, ℤ, pos, ◌+ℤ◌, ◌-ℤ◌, ◌*ℤ◌, ◌≤ℤ◌, unsigned_abs}
use Rattle.fx_fraction.specs.Fraction.{Fraction, whole, over, plus, minus, times, divided, lesser, greater, absolute, distance, is_zero, Same, AtMost, Is}

-- ---- one value, and the order

-- to have one value is an equality: each fraction has its own, either way round, and in a chain
abbrev pub LawOfSame : Type 0
LawOfSame = ((a : Fraction) → Same a a) × ((a b : Fraction) → Same a b → Same b a) × ((a b c : Fraction) → Same a b → Same b c → Same a c)

-- the order is one of values: each fraction is at most itself, chains join, and two that are each at most the other have one value
abbrev pub LawOfOrder : Type 0
LawOfOrder = ((a : Fraction) → AtMost a a) × ((a b c : Fraction) → AtMost a b → AtMost b c → AtMost a c) × ((a b : Fraction) → AtMost a b → AtMost b a → Same a b)

-- on either side of the order another name of the value may stand
abbrev pub LawOfNames : Type 0
LawOfNames = (a a' b b' : Fraction) → Same a a' → Same b b' → AtMost a b → AtMost a' b'

-- a sum of larger fractions is larger
abbrev pub LawOfMonotoneSums : Type 0
LawOfMonotoneSums = (a a' b b' : Fraction) → AtMost a a' → AtMost b b' → AtMost (plus a b) (plus a' b')

-- a factor that is not negative keeps the order
abbrev pub LawOfMonotoneFactors : Type 0
LawOfMonotoneFactors = (a b k : Fraction) → AtMost (whole (pos 0)) k → AtMost a b → AtMost (times a k) (times b k)

-- ---- distances

-- two sums are no further apart than their parts together
abbrev pub LawOfSums : Type 0
LawOfSums = (a b a' b' : Fraction) → AtMost (distance (plus a b) (plus a' b')) (plus (distance a a') (distance b b'))

-- nor are two differences
abbrev pub LawOfDifferences : Type 0
LawOfDifferences = (a b a' b' : Fraction) → AtMost (distance (minus a b) (minus a' b')) (plus (distance a a') (distance b b'))

-- a fixed factor stretches a distance by its absolute value
abbrev pub LawOfFactors : Type 0
LawOfFactors = (a a' k : Fraction) → Same (distance (times a k) (times a' k)) (times (distance a a') (absolute k))

-- two products are no further apart than each factor moves, times the other factor, and the product of the moves
abbrev pub LawOfProducts : Type 0
LawOfProducts = (a b a' b' : Fraction) → AtMost (distance (times a b) (times a' b')) (plus (plus (times (absolute a) (distance b b')) (times (absolute b) (distance a a'))) (times (distance a a') (distance b b')))

-- two quotients by what is not 0 are no further apart than the same moves over the product of the divisors
abbrev pub LawOfQuotients : Type 0
LawOfQuotients = (a b a' b' : Fraction) → is_zero b ≡ false → is_zero b' ≡ false → AtMost (distance (divided a b) (divided a' b')) (divided (plus (times (absolute a) (distance b b')) (times (absolute b) (distance a a'))) (times (absolute b) (absolute b')))

-- absolute values are no further apart than the fractions
abbrev pub LawOfAbsolutes : Type 0
LawOfAbsolutes = (a a' : Fraction) → AtMost (distance (absolute a) (absolute a')) (distance a a')

-- the smaller of two moves no more than one of the two does
abbrev pub LawOfLesser : Type 0
LawOfLesser = (a b a' b' : Fraction) → AtMost (distance (lesser a b) (lesser a' b')) (greater (distance a a') (distance b b'))

-- nor does the larger of two
abbrev pub LawOfGreater : Type 0
LawOfGreater = (a b a' b' : Fraction) → AtMost (distance (greater a b) (greater a' b')) (greater (distance a a') (distance b b'))

-- the way by a third fraction is no shorter
abbrev pub LawOfTriangles : Type 0
LawOfTriangles = (a b c : Fraction) → AtMost (distance a c) (plus (distance a b) (distance b c))

-- there is as far as back
abbrev pub LawOfSymmetry : Type 0
LawOfSymmetry = (a b : Fraction) → Same (distance a b) (distance b a)

-- a fraction is nowhere but at itself
abbrev pub LawOfNoDistance : Type 0
LawOfNoDistance = (a : Fraction) → Same (distance a a) (whole (pos 0))

-- ---- numerators over one denominator

-- numerators are added
abbrev pub LawOfCommonSums : Type 0
LawOfCommonSums = (m n : ℤ) (d : ℕ) → 1 ≤ d → Same (plus (over m d) (over n d)) (over (m +ℤ n) d)

-- numerators are compared
abbrev pub LawOfCommonOrder : Type 0
LawOfCommonOrder = (m n : ℤ) (d : ℕ) → 1 ≤ d → (AtMost (over m d) (over n d) ↔ (m ≤ℤ n))

-- m is within err / s of e, which is x / d, exactly where its numerator is within err * d / s of x
abbrev pub LawOfErrors : Type 0
LawOfErrors = (m err x : ℤ) (s d : ℕ) (e : Fraction) → 1 ≤ s → Is e d x → (AtMost (distance (whole m) e) (over err s) ↔ ((pos (unsigned_abs (m *ℤ pos d -ℤ x)) *ℤ pos s) ≤ℤ (err *ℤ pos d)))
