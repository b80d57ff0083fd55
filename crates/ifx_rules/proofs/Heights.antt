-- Over a range of places a broken line has between its heights at the range's ends and at the knots inside it.
use Rattle.std.specs.Prelude.{◌≡◌, ℕ, Bool, true, false, cond, List, [], ◌∷◌, ℤ, pos, ◌+ℤ◌, ◌-ℤ◌, ◌*ℤ◌, ◌≤ℤ◌, ◌<ℤ◌}
use Rattle.std.proofs.Common.{refl, sym, subst, inl, inr, ◌⊎◌}
use Rattle.fx_fraction.specs.Fraction.{Fraction, whole, AtMost, Is}
use Rattle.fx_fraction.proofs.WholeNumbers.{int_le-add, int_le_refl, int_le-sub, int_le-mul, int_le-mul_reversed, int_lt_or_le, int_le_of-lt, int_mul_comm, int_mul-one}
use Rattle.fx_fraction.proofs.Denominators.{is_whole, AtMost-in, AtMost-out, common_three}
use Rattle.fx_fraction.proofs.Order.{AtMost_trans}
use Rattle.ifx_search.specs.Positions.{is_at_most}
use Rattle.ifx_rules.proofs.Lines.{Knot, between, line}
use Rattle.ifx_rules.proofs.Slopes.{IsOn, Spans, IsGentle, AreGentle, spans, on_between, on_start, on_end, line-first, at_most_place, above_place, order_clash, int_le_test}

-- what holds of two fractions holds of each between them
pub record IsConvex (P : Fraction → Type 0) : Type 0 where
  pub between : (f g h : Fraction) → AtMost f g → AtMost g h → P f → P h → P g

-- a knot's height has it, where the knot is between two places
pub record HasWhere (P : Fraction → Type 0) (lo hi : Fraction) (p : Knot) : Type 0 where
  pub has : AtMost lo (whole p.place) → AtMost (whole p.place) hi → P (whole p.height)

abbrev pub AllHave : (Fraction → Type 0) → Fraction → Fraction → List Knot → Type 0
AllHave P lo hi [] = Unit {0}
AllHave P lo hi (p ∷ knots) = HasWhere P lo hi p × AllHave P lo hi knots

-- ---- on one segment

-- f, g and h in order, upward or downward
data InOrder (f g h : Fraction) : Type 0 where
  upward : AtMost f g → AtMost g h → InOrder f g h
  downward : AtMost g f → AtMost h g → InOrder f g h

has_in_order : (P : Fraction → Type 0) (f g h : Fraction) → IsConvex P → InOrder f g h → P f → P h → P g
has_in_order P f g h c (upward p q) m n = c.between f g h p q m n
has_in_order P f g h c (downward p q) m n = c.between h g f q p n m

rises : (k r a b c : ℤ) → pos 0 ≤ℤ r → a ≤ℤ b → (k +ℤ r *ℤ (a -ℤ c)) ≤ℤ (k +ℤ r *ℤ (b -ℤ c))
rises k r a b c p q = int_le-add k k _ _ (int_le_refl k) (rw (int_mul_comm r (a -ℤ c), int_mul_comm r (b -ℤ c)) (int_le-mul _ _ r (int_le-sub a b c c q (int_le_refl c)) p))

falls : (k r a b c : ℤ) → r ≤ℤ pos 0 → a ≤ℤ b → (k +ℤ r *ℤ (b -ℤ c)) ≤ℤ (k +ℤ r *ℤ (a -ℤ c))
falls k r a b c p q = int_le-add k k _ _ (int_le_refl k) (rw (int_mul_comm r (a -ℤ c), int_mul_comm r (b -ℤ c)) (int_le-mul_reversed _ _ r (int_le-sub a b c c q (int_le_refl c)) p))

in_order_by : {p q : Knot} {s d : ℕ} {a b c : ℤ} {f g h : Fraction} → IsOn p q s d a f → IsOn p q s d b g → IsOn p q s d c h → a ≤ℤ b → b ≤ℤ c → (pos 0 <ℤ (q.height -ℤ p.height)) ⊎ ((q.height -ℤ p.height) ≤ℤ pos 0) → InOrder f g h
in_order_by {p} {q} {s} {d} {a} {b} {c} i j k m n (inl r) = upward (AtMost-in i.is j.is (rises _ _ a b _ (int_le_of-lt _ _ r) m)) (AtMost-in j.is k.is (rises _ _ b c _ (int_le_of-lt _ _ r) n))
in_order_by {p} {q} {s} {d} {a} {b} {c} i j k m n (inr r) = downward (AtMost-in j.is i.is (falls _ _ a b _ r m)) (AtMost-in k.is j.is (falls _ _ b c _ r n))

in_order : {p q : Knot} {s d : ℕ} {a b c : ℤ} {f g h : Fraction} → IsOn p q s d a f → IsOn p q s d b g → IsOn p q s d c h → a ≤ℤ b → b ≤ℤ c → InOrder f g h
in_order i j k m n = in_order_by i j k m n (int_lt_or_le _ _)

-- ---- from one segment to the next

-- a place on the segment at or before b, whose height has between
record Left (P : Fraction → Type 0) (p q : Knot) (s d : ℕ) (b : ℤ) : Type 0 where
  place : ℤ
  height : Fraction
  on : IsOn p q s d place height
  before : place ≤ℤ b
  has : P height

record Right (P : Fraction → Type 0) (p q : Knot) (s d : ℕ) (b : ℤ) : Type 0 where
  place : ℤ
  height : Fraction
  on : IsOn p q s d place height
  behind : b ≤ℤ place
  has : P height

left_of : (P : Fraction → Type 0) (lo hi : Fraction) (p q : Knot) (f : Fraction → Fraction) (x : Fraction) {s d : ℕ} {a b : ℤ} → Spans p q s → Is lo d a → Is x d b → AtMost lo x → AtMost x hi →
    is_at_most x p.place ≡ false → is_at_most x q.place ≡ true → HasWhere P lo hi p → (c e : Bool) → is_at_most lo p.place ≡ c → is_at_most lo q.place ≡ e →
    P (cond c (whole p.height) (cond e (between p q lo) (f lo))) → Left P p q s d b
left_of P lo hi p q f x {s} {d} t i j h k m n o true e u v l = record {
  place = p.place *ℤ pos d;
  height = whole p.height;
  on = on_start d i.positive t;
  before = AtMost-out (is_whole p.place d i.positive) j (above_place x p.place m);
  has = o.has (at_most_place lo p.place u) (AtMost_trans (whole p.place) x hi (above_place x p.place m) k);
}
left_of P lo hi p q f x {s} {d} {a} t i j h k m n o false true u v l = record { place = a; height = between p q lo; on = on_between t i; before = AtMost-out i j h; has = l }
left_of P lo hi p q f x t i j h k m n o false false u v l = order_clash lo x q.place h n v

right_of : (P : Fraction → Type 0) (lo hi : Fraction) (p q : Knot) (f : Fraction → Fraction) (x : Fraction) {s d : ℕ} {b c : ℤ} → Spans p q s → Is x d b → Is hi d c → AtMost lo x → AtMost x hi →
    is_at_most x p.place ≡ false → is_at_most x q.place ≡ true → HasWhere P lo hi q → (a e : Bool) → is_at_most hi p.place ≡ a → is_at_most hi q.place ≡ e →
    P (cond a (whole p.height) (cond e (between p q hi) (f hi))) → Right P p q s d b
right_of P lo hi p q f x t i j h k m n o true e u v l = order_clash x hi p.place k u m
right_of P lo hi p q f x {s} {d} {b} {c} t i j h k m n o false true u v l = record { place = c; height = between p q hi; on = on_between t j; behind = AtMost-out i j k; has = l }
right_of P lo hi p q f x {s} {d} t i j h k m n o false false u v l = record {
  place = q.place *ℤ pos d;
  height = whole q.height;
  on = on_end d i.positive t;
  behind = AtMost-out i (is_whole q.place d i.positive) (at_most_place x q.place n);
  has = o.has (AtMost_trans lo x (whole q.place) h (at_most_place x q.place n)) (above_place hi q.place v);
}

-- a place on the segment, between a place to the left and one to the right
on_segment : {D G : ℕ} (P : Fraction → Type 0) (lo hi : Fraction) (p q : Knot) (f : Fraction → Fraction) (x : Fraction) → IsConvex P → IsGentle D G p q → AtMost lo x → AtMost x hi →
    is_at_most x p.place ≡ false → is_at_most x q.place ≡ true → HasWhere P lo hi p → HasWhere P lo hi q →
    P (cond (is_at_most lo p.place) (whole p.height) (cond (is_at_most lo q.place) (between p q lo) (f lo))) →
    P (cond (is_at_most hi p.place) (whole p.height) (cond (is_at_most hi q.place) (between p q hi) (f hi))) →
    P (between p q x)
on_segment P lo hi p q f x convex s h k m n o r l u =
    let t = spans p q s in
    let c = common_three lo x hi in
    let left = left_of P lo hi p q f x t c.first c.second h k m n o _ _ refl refl l in
    let right = right_of P lo hi p q f x t c.second c.third h k m n r _ _ refl refl u in
    has_in_order P left.height (between p q x) right.height convex (in_order left.on (on_between t c.second) right.on left.before right.behind) left.has right.has

-- knots that lie between two places lie between others that are further apart
narrower : (P : Fraction → Type 0) (lo lo' hi : Fraction) (knots : List Knot) → AtMost lo lo' → AllHave P lo hi knots → AllHave P lo' hi knots
narrower P lo lo' hi [] h a = a
narrower P lo lo' hi (p ∷ knots) h a = (record { has = λ m n. a.0.has (AtMost_trans lo lo' (whole p.place) h m) n }, narrower P lo lo' hi knots h a.1)

at_most_test : {D G : ℕ} (p q : Knot) → IsGentle D G p q → is_at_most (whole p.place) q.place ≡ true
unfolding whole
at_most_test p q s = int_le_test p.place (q.place *ℤ pos 1) _ refl (rw (int_mul-one q.place) (int_le_of-lt _ _ s.rising))

-- behind a segment
past_segment : (P : Fraction → Type 0) (lo hi : Fraction) (p q : Knot) (knots : List Knot) (x : Fraction) → is_at_most (whole p.place) q.place ≡ true → AtMost lo x → AtMost x hi → is_at_most x p.place ≡ false → is_at_most x q.place ≡ false →
    AllHave P lo hi (q ∷ knots) →
    ((lo : Fraction) → AtMost lo x → P (line (q ∷ knots) lo) → P (line (q ∷ knots) hi) → AllHave P lo hi (q ∷ knots) → P (line (q ∷ knots) x)) →
    (a b c e : Bool) → is_at_most lo p.place ≡ a → is_at_most lo q.place ≡ b → is_at_most hi p.place ≡ c → is_at_most hi q.place ≡ e →
    P (cond a (whole p.height) (cond b (between p q lo) (line (q ∷ knots) lo))) →
    P (cond c (whole p.height) (cond e (between p q hi) (line (q ∷ knots) hi))) →
    P (line (q ∷ knots) x)
past_segment P lo hi p q knots x g h k m n o r a b true e i j u v l w = order_clash x hi p.place k u m
past_segment P lo hi p q knots x g h k m n o r a b false true i j u v l w = order_clash x hi q.place k v n
past_segment P lo hi p q knots x g h k m n o r false false false false i j u v l w = r lo h l w o
past_segment P lo hi p q knots x g h k m n o r a true false false i j u v l w =
    let from = at_most_place lo q.place j in
    let to = above_place x q.place n in
    r (whole q.place) to (subst P (sym (line-first q knots)) (o.0.has from (AtMost_trans (whole q.place) x hi to k))) w (narrower P lo (whole q.place) hi (q ∷ knots) from o)
past_segment P lo hi p q knots x g h k m n o r true false false false i j u v l w =
    order_clash lo (whole p.place) q.place (at_most_place lo p.place i) g j

-- at or before the first knot the range's lower end is there too
level_before : (P : Fraction → Type 0) (lo x : Fraction) (p : Knot) (f : Fraction) → AtMost lo x → is_at_most x p.place ≡ true → (a : Bool) → is_at_most lo p.place ≡ a → P (cond a (whole p.height) f) → P (whole p.height)
level_before P lo x p f h m true i l = l
level_before P lo x p f h m false i l = order_clash lo x p.place h m i

-- the whole line
step_has : {D G : ℕ} (P : Fraction → Type 0) (lo hi : Fraction) (p q : Knot) (knots : List Knot) (x : Fraction) → IsConvex P → IsGentle D G p q → AtMost lo x → AtMost x hi → AllHave P lo hi (p ∷ q ∷ knots) →
    ((lo : Fraction) → AtMost lo x → P (line (q ∷ knots) lo) → P (line (q ∷ knots) hi) → AllHave P lo hi (q ∷ knots) → P (line (q ∷ knots) x)) →
    P (cond (is_at_most lo p.place) (whole p.height) (cond (is_at_most lo q.place) (between p q lo) (line (q ∷ knots) lo))) →
    P (cond (is_at_most hi p.place) (whole p.height) (cond (is_at_most hi q.place) (between p q hi) (line (q ∷ knots) hi))) →
    (a b : Bool) → is_at_most x p.place ≡ a → is_at_most x q.place ≡ b →
    P (cond a (whole p.height) (cond b (between p q x) (line (q ∷ knots) x)))
step_has P lo hi p q knots x convex s h k o r l u true b m n = level_before P lo x p _ h m _ refl l
step_has P lo hi p q knots x convex s h k o r l u false true m n = on_segment P lo hi p q (line (q ∷ knots)) x convex s h k m n o.0 o.1.0 l u
step_has P lo hi p q knots x convex s h k o r l u false false m n = past_segment P lo hi p q knots x (at_most_test p q s) h k m n o.1 r _ _ _ _ refl refl refl refl l u

pub line_has : (D G : ℕ) (P : Fraction → Type 0) (lo hi : Fraction) (knots : List Knot) → IsConvex P → AreGentle D G knots → (x : Fraction) → AtMost lo x → AtMost x hi → P (line knots lo) → P (line knots hi) → AllHave P lo hi knots → P (line knots x)
unfolding line
line_has D G P lo hi [] convex s x h k l u o = l
line_has D G P lo hi (p ∷ []) convex s x h k l u o = l
line_has D G P lo hi (p ∷ q ∷ knots) convex s x h k l u o =
    step_has P lo hi p q knots x convex s.0 h k o (λ from m n v w. line_has D G P from hi (q ∷ knots) convex s.1 x m k n v w) l u _ _ refl refl
