-- The laws of the order of fractions, and what sums and products keep of it.
use Rattle.std.specs.Prelude.{ℕ, ◌≤◌, ℤ, pos, ◌+ℤ◌, ◌≤ℤ◌}
use Rattle.std.proofs.Common.{refl, sym, ◌∙◌}
use Rattle.fx_fraction.specs.Fraction.{Fraction, whole, over, plus, minus, times, lesser, greater, Same, AtMost, Below}
use Rattle.fx_fraction.proofs.WholeNumbers.{int_le_refl, int_le_trans, int_lt-le_trans, int_le-lt_trans, int_le_of-lt, int_le_of-eq, int_le_antisymm, int_le-add, int_le-sub, int_le-mul, int_le-mul_reversed, int_le-min, int_le-max}
use Rattle.fx_fraction.proofs.Denominators.{is_nothing, is_over, is_plus, is_minus, is_times, is_lesser, is_greater, Same-in, Same-out, AtMost-in, AtMost-out, Below-in, Below-out, common_three, common_four}

-- ---- one value

pub Same_refl : (a : Fraction) → Same a a
Same_refl a = refl

pub Same_sym : (a b : Fraction) → Same a b → Same b a
Same_sym a b e = sym e

pub Same_trans : (a b c : Fraction) → Same a b → Same b c → Same a c
Same_trans a b c p q =
    let k = common_three a b c in
    Same-in k.first k.third (Same-out k.first k.second p ∙ Same-out k.second k.third q)

-- ---- the order

pub AtMost_refl : (a : Fraction) → AtMost a a
AtMost_refl a = int_le_refl _

pub AtMost_trans : (a b c : Fraction) → AtMost a b → AtMost b c → AtMost a c
AtMost_trans a b c p q =
    let k = common_three a b c in
    AtMost-in k.first k.third (int_le_trans _ _ _ (AtMost-out k.first k.second p) (AtMost-out k.second k.third q))

pub AtMost_antisymm : (a b : Fraction) → AtMost a b → AtMost b a → Same a b
AtMost_antisymm a b p q = int_le_antisymm _ _ p q

pub AtMost_of-Same : (a b : Fraction) → Same a b → AtMost a b
AtMost_of-Same a b e = int_le_of-eq _ _ e

pub AtMost_of-Below : (a b : Fraction) → Below a b → AtMost a b
AtMost_of-Below a b h = int_le_of-lt _ _ h

-- on either side of the order another name of the value may stand
pub AtMost_respects-Same : (a a' b b' : Fraction) → Same a a' → Same b b' → AtMost a b → AtMost a' b'
AtMost_respects-Same a a' b b' p q h = AtMost_trans a' b b' (AtMost_trans a' a b (AtMost_of-Same a' a (sym p)) h) (AtMost_of-Same b b' q)

pub Below-AtMost_trans : (a b c : Fraction) → Below a b → AtMost b c → Below a c
Below-AtMost_trans a b c p q =
    let k = common_three a b c in
    Below-in k.first k.third (int_lt-le_trans _ _ _ (Below-out k.first k.second p) (AtMost-out k.second k.third q))

pub AtMost-Below_trans : (a b c : Fraction) → AtMost a b → Below b c → Below a c
AtMost-Below_trans a b c p q =
    let k = common_three a b c in
    Below-in k.first k.third (int_le-lt_trans _ _ _ (AtMost-out k.first k.second p) (Below-out k.second k.third q))

-- ---- sums and products in order

-- a sum of larger fractions is larger
pub AtMost-plus : (a a' b b' : Fraction) → AtMost a a' → AtMost b b' → AtMost (plus a b) (plus a' b')
AtMost-plus a a' b b' p q =
    let k = common_four a a' b b' in
    AtMost-in (is_plus k.first k.third) (is_plus k.second k.fourth) (int_le-add _ _ _ _ (AtMost-out k.first k.second p) (AtMost-out k.third k.fourth q))

-- what is taken away is in the other order
pub AtMost-minus : (a a' b b' : Fraction) → AtMost a a' → AtMost b' b → AtMost (minus a b) (minus a' b')
AtMost-minus a a' b b' p q =
    let k = common_four a a' b b' in
    AtMost-in (is_minus k.first k.third) (is_minus k.second k.fourth) (int_le-sub _ _ _ _ (AtMost-out k.first k.second p) (AtMost-out k.fourth k.third q))

-- a factor that is not negative keeps the order
pub AtMost-times : (a b k : Fraction) → AtMost (whole (pos 0)) k → AtMost a b → AtMost (times a k) (times b k)
AtMost-times a b k p q =
    let c = common_three a b k in
    AtMost-in (is_times c.first c.third) (is_times c.second c.third)
    (int_le-mul _ _ _ (AtMost-out c.first c.second q) (AtMost-out (is_nothing c.bottom c.third.positive) c.third p))

-- a factor that is not above 0 turns the order round
pub AtMost-times_reversed : (a b k : Fraction) → AtMost k (whole (pos 0)) → AtMost a b → AtMost (times b k) (times a k)
AtMost-times_reversed a b k p q =
    let c = common_three a b k in
    AtMost-in (is_times c.second c.third) (is_times c.first c.third)
    (int_le-mul_reversed _ _ _ (AtMost-out c.first c.second q) (AtMost-out c.third (is_nothing c.bottom c.third.positive) p))

-- the smaller, and the larger, of larger fractions is larger
pub AtMost-lesser : (a a' b b' : Fraction) → AtMost a a' → AtMost b b' → AtMost (lesser a b) (lesser a' b')
AtMost-lesser a a' b b' p q =
    let k = common_four a a' b b' in
    AtMost-in (is_lesser k.first k.third) (is_lesser k.second k.fourth) (int_le-min _ _ _ _ (AtMost-out k.first k.second p) (AtMost-out k.third k.fourth q))

pub AtMost-greater : (a a' b b' : Fraction) → AtMost a a' → AtMost b b' → AtMost (greater a b) (greater a' b')
AtMost-greater a a' b b' p q =
    let k = common_four a a' b b' in
    AtMost-in (is_greater k.first k.third) (is_greater k.second k.fourth) (int_le-max _ _ _ _ (AtMost-out k.first k.second p) (AtMost-out k.third k.fourth q))

-- ---- numerators over one denominator

-- numerators are added
pub plus-over : (m n : ℤ) (d : ℕ) → 1 ≤ d → Same (plus (over m d) (over n d)) (over (m +ℤ n) d)
plus-over m n d p = Same-in (is_plus (is_over m d p) (is_over n d p)) (is_over (m +ℤ n) d p) refl

-- numerators are compared, either way
pub AtMost-over : (m n : ℤ) (d : ℕ) → 1 ≤ d → m ≤ℤ n → AtMost (over m d) (over n d)
AtMost-over m n d p h = AtMost-in (is_over m d p) (is_over n d p) h

pub over-AtMost : (m n : ℤ) (d : ℕ) → 1 ≤ d → AtMost (over m d) (over n d) → m ≤ℤ n
over-AtMost m n d p h = AtMost-out (is_over m d p) (is_over n d p) h
