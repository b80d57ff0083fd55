-- A broken line is no steeper than its steepest segment, over any two points.
use Rattle.std.specs.Prelude.{◌≡◌, ℕ, ◌+◌, ◌*◌, ◌≤◌, Bool, true, false, cond, List, [], ◌∷◌, ℤ, pos, ◌+ℤ◌, ◌-ℤ◌, ◌*ℤ◌, ◌≤ℤ◌, ◌<ℤ◌, unsigned_abs, int_le}
use Rattle.std.proofs.Common.{refl, sym, ap, ◌∙◌, subst, arith, mul-le-mul, le_refl, inl, inr, ◌⊎◌}
use native.Mathlib.Nat.{mul-pos}
use Rattle.std.proofs.lemmas.Int.{ints}
use Rattle.fx_fraction.specs.Fraction.{Fraction, denom, whole, minus, times, distance, AtMost, Is}
use Rattle.fx_fraction.proofs.Polynomials.{differences, as_difference, same}
use Rattle.fx_fraction.proofs.WholeNumbers.{int_sub-mul, int_sub_self, int_mul-one, int_le-true, int_le-false, int_le-pos, le_of-int_le, int_le_of-lt, int_le_of-eq, int_le-mul_pos, unsigned_abs-mul, unsigned_abs-sub_self, unsigned_abs-sub_comm, int_lt_or_le, unsigned_abs-triangle}
use lib.Signed.{clash_ℤ}
use Rattle.fx_fraction.proofs.Denominators.{is_self, is_whole, is_plus, is_minus, is_times, is_distance, is_divided, is_renamed, AtMost-in, AtMost-out, Below-in, Below-out, AtMost-in_cross, AtMost-out_cross, common_two, common_three}
use Rattle.fx_fraction.proofs.Order.{AtMost_trans}
use Rattle.ifx_search.specs.Positions.{is_at_most}
use Rattle.ifx_rules.proofs.Lines.{Knot, between, line}

-- ---- how far apart two heights are: at most D / G times the distance of their places

pub record Near (D G : ℕ) (x y f h : Fraction) : Type 0 where
  pub near : AtMost (times (distance f h) (whole (pos G))) (times (distance x y) (whole (pos D)))

renamed_times : (n k : ℕ) → pos n *ℤ (pos k *ℤ pos 1) ≡ pos (n * k)
renamed_times n k = ap pos (omega arith)

-- a distance, a number of times
is_stretched : {f h : Fraction} {d : ℕ} {x y : ℤ} (k : ℕ) → Is f d x → Is h d y → Is (times (distance f h) (whole (pos k))) d (pos (unsigned_abs (x -ℤ y) * k))
is_stretched {f} {h} {d} {x} {y} k i j =
    subst (λ z. Is (times (distance f h) (whole (pos k))) d z) (renamed_times (unsigned_abs (x -ℤ y)) k)
    (is_renamed (omega arith) (is_times (is_distance i j) (is_whole (pos k) 1 (omega arith))))

pub near_in : {D G : ℕ} {x y f h : Fraction} {d e : ℕ} {a b u v : ℤ} → Is x d a → Is y d b → Is f e u → Is h e v → unsigned_abs (u -ℤ v) * G * d ≤ unsigned_abs (a -ℤ b) * D * e → Near D G x y f h
near_in {D} {G} i j k l p = record { near = AtMost-in_cross (is_stretched G k l) (is_stretched D i j) (int_le-pos _ _ p) }

pub near_out : {D G : ℕ} {x y f h : Fraction} {d e : ℕ} {a b u v : ℤ} → Is x d a → Is y d b → Is f e u → Is h e v → Near D G x y f h → unsigned_abs (u -ℤ v) * G * d ≤ unsigned_abs (a -ℤ b) * D * e
near_out {D} {G} i j k l n = le_of-int_le _ _ (AtMost-out_cross (is_stretched G k l) (is_stretched D i j) n.near)

-- from a to b and on to c
joined : (a b c : ℤ) → a ≤ℤ b → b ≤ℤ c → unsigned_abs (a -ℤ b) + unsigned_abs (b -ℤ c) ≡ unsigned_abs (a -ℤ c)
joined a b c p q = omega (arith, ints, p, q)

joined_steps : (D G d e ab bc ac uv vw uw : ℕ) → ab + bc ≡ ac → uw ≤ uv + vw → uv * G * d ≤ ab * D * e → vw * G * d ≤ bc * D * e → uw * G * d ≤ ac * D * e
joined_steps D G d e ab bc ac uv vw uw p q r s = omega (arith, ap (λ t. t * D * e) p, mul-le-mul q (mul-le-mul (le_refl G) (le_refl d)), r, s)

pub near_joined : {D G : ℕ} (x y z f g h : Fraction) → AtMost x y → AtMost y z → Near D G x y f g → Near D G y z g h → Near D G x z f h
near_joined {D} {G} x y z f g h p q m n =
    let c = common_three x y z in
    let k = common_three f g h in
    near_in c.first c.third k.first k.third
    (joined_steps D G c.bottom k.bottom _ _ _ _ _ _ (joined c.x c.y c.z (AtMost-out c.first c.second p) (AtMost-out c.second c.third q)) (unsigned_abs-triangle k.x k.y k.z)
    (near_out c.first c.second k.first k.second m) (near_out c.second c.third k.second k.third n))

-- what stays at its place is near itself
level_step : (a D e n : ℕ) → n ≡ 0 → n * a * e ≤ D
level_step a D e n p = rw p (omega arith)

pub near_level : {D G : ℕ} (x y f : Fraction) → Near D G x y f f
near_level {D} {G} x y f =
    let c = common_two x y in
    near_in c.first c.second (is_self f) (is_self f) (level_step G _ c.bottom _ (unsigned_abs-sub_self f.numer))

-- ---- on one segment

-- the segment from p to q is g long and rises by r
pub record Spans (p q : Knot) (g : ℕ) : Type 0 where
  pub some : 1 ≤ g
  pub long : q.place -ℤ p.place ≡ pos g

-- the height of a segment over a denominator d of the place
abbrev pub height_on : Knot → Knot → ℕ → ℕ → ℤ → ℤ
height_on p q g d a = p.height *ℤ pos (g * d) +ℤ (q.height -ℤ p.height) *ℤ (a -ℤ p.place *ℤ pos d)

-- f is the height of a segment at a / d
pub record IsOn (p q : Knot) (g d : ℕ) (a : ℤ) (f : Fraction) : Type 0 where
  pub is : Is f (g * d) (height_on p q g d a)

long_over : (p q : ℤ) (g d : ℕ) → q -ℤ p ≡ pos g → q *ℤ pos d -ℤ p *ℤ pos d ≡ pos (g * d)
long_over p q g d h = sym (int_sub-mul q p (pos d)) ∙ ap (λ t. t *ℤ pos d) h

pub on_between : {p q : Knot} {g d : ℕ} {a : ℤ} {x : Fraction} → Spans p q g → Is x d a → IsOn p q g d a (between p q x)
unfolding between
on_between {p} {q} {g} {d} {a} {x} s i =
    let some = mul-pos s.some i.positive in
    let rise = is_renamed (omega arith) (is_times (is_whole (q.height -ℤ p.height) 1 (omega arith)) (is_minus i (is_whole p.place d i.positive))) in
    let run = subst (λ n. Is (minus (whole q.place) (whole p.place)) d n) (long_over p.place q.place g d s.long) (is_minus (is_whole q.place d i.positive) (is_whole p.place d i.positive)) in
    record { is = subst (λ n. Is (between p q x) (g * d) n) (ap (λ t. p.height *ℤ pos (g * d) +ℤ t *ℤ (a -ℤ p.place *ℤ pos d)) (int_mul-one (q.height -ℤ p.height))) (is_plus (is_whole p.height (g * d) some) (is_divided some rise run)) }

at_start : (v w p : ℤ) (g d : ℕ) → v *ℤ pos (g * d) ≡ v *ℤ pos (g * d) +ℤ (w -ℤ v) *ℤ (p *ℤ pos d -ℤ p *ℤ pos d)
at_start v w p g d = rw (int_sub_self (p *ℤ pos d)) (rw (as_difference v, as_difference w) (simp differences (same _ _ _ _ (omega arith))))

pub on_start : {p q : Knot} {g : ℕ} (d : ℕ) → 1 ≤ d → Spans p q g → IsOn p q g d (p.place *ℤ pos d) (whole p.height)
on_start {p} {q} {g} d k s = record { is = subst (λ n. Is (whole p.height) (g * d) n) (at_start p.height q.height p.place g d) (is_whole p.height (g * d) (mul-pos s.some k)) }

at_end : (v w : ℤ) (n : ℕ) → w *ℤ pos n ≡ v *ℤ pos n +ℤ (w -ℤ v) *ℤ pos n
at_end v w n = rw (as_difference v, as_difference w) (simp differences (same _ _ _ _ (omega arith)))

pub on_end : {p q : Knot} {g : ℕ} (d : ℕ) → 1 ≤ d → Spans p q g → IsOn p q g d (q.place *ℤ pos d) (whole q.height)
on_end {p} {q} {g} d k s = record {
  is = subst (λ n. Is (whole q.height) (g * d) n) (at_end p.height q.height (g * d) ∙ ap (λ t. p.height *ℤ pos (g * d) +ℤ (q.height -ℤ p.height) *ℤ t) (sym (long_over p.place q.place g d s.long)))
      (is_whole q.height (g * d) (mul-pos s.some k));
}

apart_on : (k r a b c : ℤ) → k +ℤ r *ℤ (a -ℤ c) -ℤ (k +ℤ r *ℤ (b -ℤ c)) ≡ r *ℤ (a -ℤ b)
apart_on k r a b c = rw (as_difference k, as_difference r, as_difference a, as_difference b, as_difference c) (simp differences (same _ _ _ _ (omega arith)))

steep_step : (D G d g r ab n : ℕ) → n ≡ r * ab → r * G ≤ D * g → n * G * d ≤ ab * D * (g * d)
steep_step D G d g r ab n p q = rw p (omega (arith, mul-le-mul q (le_refl (ab * d))))

-- two points of a segment that rises by no more than D / G times its length
near_on : {D G : ℕ} {p q : Knot} {g d : ℕ} {a b : ℤ} {x y f h : Fraction} → unsigned_abs (q.height -ℤ p.height) * G ≤ D * g → Is x d a → Is y d b → IsOn p q g d a f → IsOn p q g d b h → Near D G x y f h
near_on {D} {G} {p} {q} {g} {d} {a} {b} k i j m n =
    near_in i j m.is n.is
    (steep_step D G d g (unsigned_abs (q.height -ℤ p.height)) (unsigned_abs (a -ℤ b)) _ (ap unsigned_abs (apart_on (p.height *ℤ pos (g * d)) (q.height -ℤ p.height) a b (p.place *ℤ pos d)) ∙ unsigned_abs-mul (q.height -ℤ p.height) (a -ℤ b)) k)

-- ---- over all segments

-- a segment rises in place, and its height changes by at most D / G times its length
pub record IsGentle (D G : ℕ) (p q : Knot) : Type 0 where
  pub rising : p.place <ℤ q.place
  pub gentle : unsigned_abs (q.height -ℤ p.height) * G ≤ D * unsigned_abs (q.place -ℤ p.place)

-- and so do all segments of a line
abbrev pub AreGentle : ℕ → ℕ → List Knot → Type 0
AreGentle D G [] = Unit {0}
AreGentle D G (p ∷ []) = Unit {0}
AreGentle D G (p ∷ q ∷ knots) = IsGentle D G p q × AreGentle D G (q ∷ knots)

pub spans : {D G : ℕ} (p q : Knot) → IsGentle D G p q → Spans p q (unsigned_abs (q.place -ℤ p.place))
spans p q s = record { some = omega (arith, ints, s.rising); long = omega (arith, ints, s.rising) }

-- the test of a place, either way
pub at_most_place : (x : Fraction) (z : ℤ) → is_at_most x z ≡ true → AtMost x (whole z)
at_most_place x z h = AtMost-in (is_self x) (is_whole z (denom x) (omega arith)) (int_le-true _ _ h)

pub above_place : (x : Fraction) (z : ℤ) → is_at_most x z ≡ false → AtMost (whole z) x
above_place x z h = AtMost-in (is_whole z (denom x) (omega arith)) (is_self x) (int_le_of-lt _ _ (int_le-false _ _ h))

pub int_le_test : (a b : ℤ) (t : Bool) → int_le a b ≡ t → a ≤ℤ b → int_le a b ≡ true
int_le_test a b true e h = e
int_le_test a b false e h = clash_ℤ (int_le-false a b e) h

pub at_itself : (z : ℤ) → is_at_most (whole z) z ≡ true
unfolding whole
at_itself z = int_le_test z (z *ℤ pos 1) _ refl (int_le_of-eq _ _ (sym (int_mul-one z)))

-- at its first knot a line has that knot's height
pub line-first : (p : Knot) (knots : List Knot) → line (p ∷ knots) (whole p.place) ≡ whole p.height
unfolding line
line-first p [] = refl
line-first p (q ∷ knots) = ap (λ t. cond t (whole p.height) (cond (is_at_most (whole p.place) q.place) (between p q (whole p.place)) (line (q ∷ knots) (whole p.place)))) (at_itself p.place)

-- what is at most a place that is at most what is at most it
pub order_clash : {A : Type 0} (x y : Fraction) (z : ℤ) → AtMost x y → is_at_most y z ≡ true → is_at_most x z ≡ false → A
order_clash x y z h p q =
    let c = common_two x y in
    clash_ℤ (Below-out (is_whole z c.bottom c.first.positive) c.first (Below-in (is_whole z (denom x) (omega arith)) (is_self x) (int_le-false _ _ q)))
    (AtMost-out c.first (is_whole z c.bottom c.first.positive) (AtMost_trans x y (whole z) h (at_most_place y z p)))

-- from a place in a segment to the segment's end, and from its start
near_end : {D G : ℕ} (p q : Knot) (x : Fraction) → IsGentle D G p q → Near D G x (whole q.place) (between p q x) (whole q.height)
near_end p q x s =
    let t = spans p q s in
    let i = is_self x in
    near_on s.gentle i (is_whole q.place (denom x) i.positive) (on_between t i) (on_end (denom x) i.positive t)

near_start : {D G : ℕ} (p q : Knot) (y : Fraction) → IsGentle D G p q → Near D G (whole p.place) y (whole p.height) (between p q y)
near_start p q y s =
    let t = spans p q s in
    let i = is_self y in
    near_on s.gentle (is_whole p.place (denom y) i.positive) i (on_start (denom y) i.positive t) (on_between t i)

near_both : {D G : ℕ} (p q : Knot) (x y : Fraction) → IsGentle D G p q → Near D G x y (between p q x) (between p q y)
near_both p q x y s =
    let t = spans p q s in
    let c = common_two x y in
    near_on s.gentle c.first c.second (on_between t c.first) (on_between t c.second)

near_whole : {D G : ℕ} (p q : Knot) → IsGentle D G p q → Near D G (whole p.place) (whole q.place) (whole p.height) (whole q.height)
near_whole p q s =
    let t = spans p q s in
    near_on s.gentle (is_whole p.place 1 (omega arith)) (is_whole q.place 1 (omega arith)) (on_start 1 (omega arith) t) (on_end 1 (omega arith) t)

places_rise : {D G : ℕ} (p q : Knot) → IsGentle D G p q → AtMost (whole p.place) (whole q.place)
places_rise p q s = AtMost-in (is_whole p.place 1 (omega arith)) (is_whole q.place 1 (omega arith)) (int_le-mul_pos _ _ 1 (int_le_of-lt _ _ s.rising))

-- one step of the line: a and b are the tests of x, c and d those of y, and f is what is left of the line
near_step : {D G : ℕ} (p q : Knot) (f : Fraction → Fraction) (x y : Fraction) → IsGentle D G p q → AtMost x y → f (whole q.place) ≡ whole q.height → ((x y : Fraction) → AtMost x y → Near D G x y (f x) (f y)) →
    (a b c d : Bool) → is_at_most x p.place ≡ a → is_at_most x q.place ≡ b → is_at_most y p.place ≡ c → is_at_most y q.place ≡ d →
    Near D G x y (cond a (whole p.height) (cond b (between p q x) (f x))) (cond c (whole p.height) (cond d (between p q y) (f y)))
near_step p q f x y s h e n true b true d i j k l = near_level x y (whole p.height)
near_step p q f x y s h e n true b false true i j k l =
    near_joined x (whole p.place) y _ _ _ (at_most_place x p.place i) (above_place y p.place k) (near_level x (whole p.place) (whole p.height)) (near_start p q y s)
near_step {D} {G} p q f x y s h e n true b false false i j k l =
    near_joined x (whole p.place) y _ _ _ (at_most_place x p.place i) (above_place y p.place k) (near_level x (whole p.place) (whole p.height))
    (near_joined (whole p.place) (whole q.place) y _ _ _ (places_rise p q s) (above_place y q.place l) (near_whole p q s)
    (subst (λ v. Near D G (whole q.place) y v (f y)) e (n (whole q.place) y (above_place y q.place l))))
near_step p q f x y s h e n false b true d i j k l = order_clash x y p.place h k i
near_step p q f x y s h e n false true false true i j k l = near_both p q x y s
near_step {D} {G} p q f x y s h e n false true false false i j k l =
    near_joined x (whole q.place) y _ _ _ (at_most_place x q.place j) (above_place y q.place l) (near_end p q x s)
    (subst (λ v. Near D G (whole q.place) y v (f y)) e (n (whole q.place) y (above_place y q.place l)))
near_step p q f x y s h e n false false false true i j k l = order_clash x y q.place h l j
near_step p q f x y s h e n false false false false i j k l = n x y h

-- a line is nowhere steeper than D / G, over any two places in order
pub line_near : {D G : ℕ} (knots : List Knot) → AreGentle D G knots → (x y : Fraction) → AtMost x y → Near D G x y (line knots x) (line knots y)
unfolding line
line_near [] s x y h = near_level x y _
line_near (p ∷ []) s x y h = near_level x y _
line_near (p ∷ q ∷ knots) s x y h =
    near_step p q (line (q ∷ knots)) x y s.0 h (line-first q knots) (line_near (q ∷ knots) s.1) _ _ _ _ refl refl refl refl

-- and so in either order

near_turned : {D G : ℕ} (x y f h : Fraction) → Near D G y x h f → Near D G x y f h
near_turned {D} {G} x y f h n =
    let c = common_two x y in
    let k = common_two f h in
    near_in c.first c.second k.first k.second
    (rw (unsigned_abs-sub_comm k.x k.y, unsigned_abs-sub_comm c.x c.y) (near_out c.second c.first k.second k.first n))

either_order : {D G : ℕ} (knots : List Knot) → AreGentle D G knots → (x y : Fraction) → ((x.numer *ℤ pos (denom y)) <ℤ (y.numer *ℤ pos (denom x))) ⊎ ((y.numer *ℤ pos (denom x)) ≤ℤ (x.numer *ℤ pos (denom y))) → Near D G x y (line knots x) (line knots y)
either_order knots s x y (inl h) = line_near knots s x y (int_le_of-lt _ _ h)
either_order knots s x y (inr h) = near_turned x y _ _ (line_near knots s y x h)

pub line_near_any : {D G : ℕ} (knots : List Knot) → AreGentle D G knots → (x y : Fraction) → Near D G x y (line knots x) (line knots y)
line_near_any knots s x y = either_order knots s x y (int_lt_or_le _ _)
