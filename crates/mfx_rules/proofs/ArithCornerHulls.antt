-- The hull of an operation's values at the corners, by the ends of one argument's range after the other.
use Rattle.std.specs.Prelude.{◌≡◌, ℕ, Bool, true, false, ◌&&◌, [], ◌∷◌, ℤ, pos, int_le, fold, if◌then◌else◌}
use Rattle.std.specs.Int.{int_min, int_max}
use Rattle.std.proofs.Common.{refl, sym, ap, ap₂, ◌∙◌, arith}
use Rattle.std.proofs.lemmas.Int.{ints, clamps}
use Rattle.fx_routines.specs.declared.operation.ArithOp.{ArithOp}
use Rattle.fx_routines.specs.declared.operation.ArithOp.TheVariants.{Add, Sub, AbsDiff, Abs, Mul, Div, Mod, MulDiv, MulShRight, DivShLeft, Limit, Min, Max, RateLimiter}
use Rattle.fx_core.specs.Arguments.{three}
use Rattle.part_rules.specs.declared.bounds.Bounds.{Bounds}
use Rattle.part_rules.specs.Ranges.{least_among, greatest_among}
use Rattle.mfx_rules.specs.ArithRules.{arith_corner_values, arith_values}
use Rattle.mfx_rules.specs.ArithCorners.{corner_value, least_over_third, greatest_over_third, least_over_second, greatest_over_second, least_at_corners, greatest_at_corners}

-- ---- hulls of two, four and eight, for an operation that takes hulls

pub record Joins (f : ℤ → ℤ → ℤ) : Type 0 where
  pub itself : (a : ℤ) → f a a ≡ a
  pub regroup : (a b c : ℤ) → f a (f b c) ≡ f (f a b) c

pub least_joins : Joins int_min
least_joins = record { itself = λ a. omega (arith, ints, clamps); regroup = λ a b c. omega (arith, ints, clamps) }

pub greatest_joins : Joins int_max
greatest_joins = record { itself = λ a. omega (arith, ints, clamps); regroup = λ a b c. omega (arith, ints, clamps) }

-- where the third argument isn't looked at, and where the second isn't either
of_two : (f : ℤ → ℤ → ℤ) → Joins f → (a b : ℤ) → f (f (f a a) (f a a)) (f (f b b) (f b b)) ≡ fold f a (b ∷ [])
of_two f j a b =
    let both : (t : ℤ) → f (f t t) (f t t) ≡ t = λ t. j.itself (f t t) ∙ j.itself t in
    ap₂ f (both a) (both b)

of_four : (f : ℤ → ℤ → ℤ) → Joins f → (a b c d : ℤ) → f (f (f a a) (f b b)) (f (f c c) (f d d)) ≡ fold f a (b ∷ c ∷ d ∷ [])
of_four f j a b c d = ap₂ f (ap₂ f (j.itself a) (j.itself b)) (ap₂ f (j.itself c) (j.itself d)) ∙ j.regroup (f a b) c d

of_eight : (f : ℤ → ℤ → ℤ) → Joins f → (a b c d e g h i : ℤ) → f (f (f a b) (f c d)) (f (f e g) (f h i)) ≡ fold f a (b ∷ c ∷ d ∷ e ∷ g ∷ h ∷ i ∷ [])
of_eight f j a b c d e g h i =
    let first : f (f a b) (f c d) ≡ f (f (f a b) c) d = j.regroup (f a b) c d in
    let second : f (f e g) (f h i) ≡ f (f (f e g) h) i = j.regroup (f e g) h i in
    let v = f (f (f a b) c) d in
    ap₂ f first second ∙ j.regroup v (f (f e g) h) i ∙ ap (λ t. f t i) (j.regroup v (f e g) h ∙ ap (λ t. f t h) (j.regroup v e g))

-- the same for the ends of ranges
of_one_range : (f : ℤ → ℤ → ℤ) → Joins f → (g : ℤ → ℤ) (a b : ℤ) → f (f (f (g a) (g a)) (f (g a) (g a))) (f (f (g b) (g b)) (f (g b) (g b))) ≡ fold f (g a) (g b ∷ [])
of_one_range f j g a b = of_two f j (g a) (g b)

of_two_ranges : (f : ℤ → ℤ → ℤ) → Joins f → (g : ℤ → ℤ → ℤ) (a b c d : ℤ) → f (f (f (g a c) (g a c)) (f (g a d) (g a d))) (f (f (g b c) (g b c)) (f (g b d) (g b d))) ≡ fold f (g a c) (g a d ∷ g b c ∷ g b d ∷ [])
of_two_ranges f j g a b c d = of_four f j (g a c) (g a d) (g b c) (g b d)

of_three_ranges : (f : ℤ → ℤ → ℤ) → Joins f → (g : ℤ → ℤ → ℤ → ℤ) (a b c d k l : ℤ) → f (f (f (g a c k) (g a c l)) (f (g a d k) (g a d l))) (f (f (g b c k) (g b c l)) (f (g b d k) (g b d l))) ≡ fold f (g a c k) (g a c l ∷ g a d k ∷ g a d l ∷ g b c k ∷ g b c l ∷ g b d k ∷ g b d l ∷ [])
of_three_ranges f j g a b c d k l = of_eight f j (g a c k) (g a c l) (g a d k) (g a d l) (g b c k) (g b c l) (g b d k) (g b d l)

-- ---- each operation

pub least_is : (op : ArithOp) (shift : ℕ) (x y z : Bounds) → least_at_corners op shift x y z ≡ least_among (arith_corner_values op shift (three x y z))
unfolding least_at_corners least_over_second least_over_third corner_value
least_is Add shift x y z = of_two_ranges int_min least_joins (λ s t. corner_value Add shift s t z.lo) x.lo x.hi y.lo y.hi
least_is Sub shift x y z = of_two_ranges int_min least_joins (λ s t. corner_value Sub shift s t z.lo) x.lo x.hi y.lo y.hi
least_is AbsDiff shift x y z = of_two_ranges int_min least_joins (λ s t. corner_value AbsDiff shift s t z.lo) x.lo x.hi y.lo y.hi
least_is Abs shift x y z = of_one_range int_min least_joins (λ s. corner_value Abs shift s y.lo z.lo) x.lo x.hi
least_is Mul shift x y z = of_two_ranges int_min least_joins (λ s t. corner_value Mul shift s t z.lo) x.lo x.hi y.lo y.hi
least_is Div shift x y z = of_two_ranges int_min least_joins (λ s t. corner_value Div shift s t z.lo) x.lo x.hi y.lo y.hi
least_is Mod shift x y z = of_two_ranges int_min least_joins (λ s t. corner_value Mod shift s t z.lo) x.lo x.hi y.lo y.hi
least_is MulDiv shift x y z = of_three_ranges int_min least_joins (λ s t u. corner_value MulDiv shift s t u) x.lo x.hi y.lo y.hi z.lo z.hi
least_is MulShRight shift x y z = of_two_ranges int_min least_joins (λ s t. corner_value MulShRight shift s t z.lo) x.lo x.hi y.lo y.hi
least_is DivShLeft shift x y z = of_two_ranges int_min least_joins (λ s t. corner_value DivShLeft shift s t z.lo) x.lo x.hi y.lo y.hi
least_is Limit shift x y z = of_three_ranges int_min least_joins (λ s t u. corner_value Limit shift s t u) x.lo x.hi y.lo y.hi z.lo z.hi
least_is Min shift x y z = of_two_ranges int_min least_joins (λ s t. corner_value Min shift s t z.lo) x.lo x.hi y.lo y.hi
least_is Max shift x y z = of_two_ranges int_min least_joins (λ s t. corner_value Max shift s t z.lo) x.lo x.hi y.lo y.hi
least_is RateLimiter shift x y z = of_three_ranges int_min least_joins (λ s t u. corner_value RateLimiter shift s t u) x.lo x.hi y.lo y.hi z.lo z.hi

pub greatest_is : (op : ArithOp) (shift : ℕ) (x y z : Bounds) → greatest_at_corners op shift x y z ≡ greatest_among (arith_corner_values op shift (three x y z))
unfolding greatest_at_corners greatest_over_second greatest_over_third corner_value
greatest_is Add shift x y z = of_two_ranges int_max greatest_joins (λ s t. corner_value Add shift s t z.lo) x.lo x.hi y.lo y.hi
greatest_is Sub shift x y z = of_two_ranges int_max greatest_joins (λ s t. corner_value Sub shift s t z.lo) x.lo x.hi y.lo y.hi
greatest_is AbsDiff shift x y z = of_two_ranges int_max greatest_joins (λ s t. corner_value AbsDiff shift s t z.lo) x.lo x.hi y.lo y.hi
greatest_is Abs shift x y z = of_one_range int_max greatest_joins (λ s. corner_value Abs shift s y.lo z.lo) x.lo x.hi
greatest_is Mul shift x y z = of_two_ranges int_max greatest_joins (λ s t. corner_value Mul shift s t z.lo) x.lo x.hi y.lo y.hi
greatest_is Div shift x y z = of_two_ranges int_max greatest_joins (λ s t. corner_value Div shift s t z.lo) x.lo x.hi y.lo y.hi
greatest_is Mod shift x y z = of_two_ranges int_max greatest_joins (λ s t. corner_value Mod shift s t z.lo) x.lo x.hi y.lo y.hi
greatest_is MulDiv shift x y z = of_three_ranges int_max greatest_joins (λ s t u. corner_value MulDiv shift s t u) x.lo x.hi y.lo y.hi z.lo z.hi
greatest_is MulShRight shift x y z = of_two_ranges int_max greatest_joins (λ s t. corner_value MulShRight shift s t z.lo) x.lo x.hi y.lo y.hi
greatest_is DivShLeft shift x y z = of_two_ranges int_max greatest_joins (λ s t. corner_value DivShLeft shift s t z.lo) x.lo x.hi y.lo y.hi
greatest_is Limit shift x y z = of_three_ranges int_max greatest_joins (λ s t u. corner_value Limit shift s t u) x.lo x.hi y.lo y.hi z.lo z.hi
greatest_is Min shift x y z = of_two_ranges int_max greatest_joins (λ s t. corner_value Min shift s t z.lo) x.lo x.hi y.lo y.hi
greatest_is Max shift x y z = of_two_ranges int_max greatest_joins (λ s t. corner_value Max shift s t z.lo) x.lo x.hi y.lo y.hi
greatest_is RateLimiter shift x y z = of_three_ranges int_max greatest_joins (λ s t u. corner_value RateLimiter shift s t u) x.lo x.hi y.lo y.hi z.lo z.hi

-- an operation with no absolute value has the values at the corners alone
pub plain_least : (op : ArithOp) (shift : ℕ) (x y z : Bounds) → (op ≡ AbsDiff → ⊥) → (op ≡ Abs → ⊥) → least_at_corners op shift x y z ≡ least_among (arith_values op shift (three x y z))
unfolding arith_values
plain_least Add shift x y z h k = least_is Add shift x y z
plain_least Sub shift x y z h k = least_is Sub shift x y z
plain_least AbsDiff shift x y z h k = absurd (h refl)
plain_least Abs shift x y z h k = absurd (k refl)
plain_least Mul shift x y z h k = least_is Mul shift x y z
plain_least Div shift x y z h k = least_is Div shift x y z
plain_least Mod shift x y z h k = least_is Mod shift x y z
plain_least MulDiv shift x y z h k = least_is MulDiv shift x y z
plain_least MulShRight shift x y z h k = least_is MulShRight shift x y z
plain_least DivShLeft shift x y z h k = least_is DivShLeft shift x y z
plain_least Limit shift x y z h k = least_is Limit shift x y z
plain_least Min shift x y z h k = least_is Min shift x y z
plain_least Max shift x y z h k = least_is Max shift x y z
plain_least RateLimiter shift x y z h k = least_is RateLimiter shift x y z

pub plain_greatest : (op : ArithOp) (shift : ℕ) (x y z : Bounds) → (op ≡ AbsDiff → ⊥) → (op ≡ Abs → ⊥) → greatest_at_corners op shift x y z ≡ greatest_among (arith_values op shift (three x y z))
unfolding arith_values
plain_greatest Add shift x y z h k = greatest_is Add shift x y z
plain_greatest Sub shift x y z h k = greatest_is Sub shift x y z
plain_greatest AbsDiff shift x y z h k = absurd (h refl)
plain_greatest Abs shift x y z h k = absurd (k refl)
plain_greatest Mul shift x y z h k = greatest_is Mul shift x y z
plain_greatest Div shift x y z h k = greatest_is Div shift x y z
plain_greatest Mod shift x y z h k = greatest_is Mod shift x y z
plain_greatest MulDiv shift x y z h k = greatest_is MulDiv shift x y z
plain_greatest MulShRight shift x y z h k = greatest_is MulShRight shift x y z
plain_greatest DivShLeft shift x y z h k = greatest_is DivShLeft shift x y z
plain_greatest Limit shift x y z h k = greatest_is Limit shift x y z
plain_greatest Min shift x y z h k = greatest_is Min shift x y z
plain_greatest Max shift x y z h k = greatest_is Max shift x y z
plain_greatest RateLimiter shift x y z h k = greatest_is RateLimiter shift x y z

-- ---- absolute values

pub four_joined : (f : ℤ → ℤ → ℤ) (a b c d : ℤ) (t : Bool) → fold f a (b ∷ c ∷ d ∷ (if t then pos 0 ∷ [] else [])) ≡ (if t then f (fold f a (b ∷ c ∷ d ∷ [])) (pos 0) else fold f a (b ∷ c ∷ d ∷ []))
four_joined f a b c d true = refl
four_joined f a b c d false = refl

two_joined : (f : ℤ → ℤ → ℤ) (a b : ℤ) (t : Bool) → fold f a (b ∷ (if t then pos 0 ∷ [] else [])) ≡ (if t then f (fold f a (b ∷ [])) (pos 0) else fold f a (b ∷ []))
two_joined f a b true = refl
two_joined f a b false = refl

-- whether what stands inside takes 0 or both signs
abbrev pub passes : ℤ → ℤ → Bool
passes l h = int_le l (pos 0) && int_le (pos 0) h

pub abs_diff_least : (shift : ℕ) (x y z : Bounds) (r s l h : ℤ) → r ≡ (if passes l h then int_min s (pos 0) else s) → s ≡ least_at_corners AbsDiff shift x y z → l ≡ least_at_corners Sub 0 x y z → h ≡ greatest_at_corners Sub 0 x y z → r ≡ least_among (arith_values AbsDiff shift (three x y z))
unfolding arith_values corner_value
abs_diff_least shift x y z r s l h e p q k =
    let inside = ap₂ passes (q ∙ least_is Sub 0 x y z) (k ∙ greatest_is Sub 0 x y z) in
    e ∙ ap₂ (λ t v. if t then int_min v (pos 0) else v) inside (p ∙ least_is AbsDiff shift x y z) ∙ sym (four_joined int_min (corner_value AbsDiff shift x.lo y.lo z.lo) (corner_value AbsDiff shift x.lo y.hi z.lo) (corner_value AbsDiff shift x.hi y.lo z.lo) (corner_value AbsDiff shift x.hi y.hi z.lo) (passes (least_among (arith_corner_values Sub 0 (three x y z))) (greatest_among (arith_corner_values Sub 0 (three x y z)))))

pub abs_diff_greatest : (shift : ℕ) (x y z : Bounds) (r s l h : ℤ) → r ≡ (if passes l h then int_max s (pos 0) else s) → s ≡ greatest_at_corners AbsDiff shift x y z → l ≡ least_at_corners Sub 0 x y z → h ≡ greatest_at_corners Sub 0 x y z → r ≡ greatest_among (arith_values AbsDiff shift (three x y z))
unfolding arith_values corner_value
abs_diff_greatest shift x y z r s l h e p q k =
    let inside = ap₂ passes (q ∙ least_is Sub 0 x y z) (k ∙ greatest_is Sub 0 x y z) in
    e ∙ ap₂ (λ t v. if t then int_max v (pos 0) else v) inside (p ∙ greatest_is AbsDiff shift x y z) ∙ sym (four_joined int_max (corner_value AbsDiff shift x.lo y.lo z.lo) (corner_value AbsDiff shift x.lo y.hi z.lo) (corner_value AbsDiff shift x.hi y.lo z.lo) (corner_value AbsDiff shift x.hi y.hi z.lo) (passes (least_among (arith_corner_values Sub 0 (three x y z))) (greatest_among (arith_corner_values Sub 0 (three x y z)))))

pub abs_least : (shift : ℕ) (x y z : Bounds) (r s l h : ℤ) → r ≡ (if passes l h then int_min s (pos 0) else s) → s ≡ least_at_corners Abs shift x y z → l ≡ int_min x.lo x.hi → h ≡ int_max x.lo x.hi → r ≡ least_among (arith_values Abs shift (three x y z))
unfolding arith_values corner_value
abs_least shift x y z r s l h e p q k =
    e ∙ ap₂ (λ t v. if t then int_min v (pos 0) else v) (ap₂ passes q k) (p ∙ least_is Abs shift x y z) ∙ sym (two_joined int_min (corner_value Abs shift x.lo y.lo z.lo) (corner_value Abs shift x.hi y.lo z.lo) (passes (int_min x.lo x.hi) (int_max x.lo x.hi)))

pub abs_greatest : (shift : ℕ) (x y z : Bounds) (r s l h : ℤ) → r ≡ (if passes l h then int_max s (pos 0) else s) → s ≡ greatest_at_corners Abs shift x y z → l ≡ int_min x.lo x.hi → h ≡ int_max x.lo x.hi → r ≡ greatest_among (arith_values Abs shift (three x y z))
unfolding arith_values corner_value
abs_greatest shift x y z r s l h e p q k =
    e ∙ ap₂ (λ t v. if t then int_max v (pos 0) else v) (ap₂ passes q k) (p ∙ greatest_is Abs shift x y z) ∙ sym (two_joined int_max (corner_value Abs shift x.lo y.lo z.lo) (corner_value Abs shift x.hi y.lo z.lo) (passes (int_min x.lo x.hi) (int_max x.lo x.hi)))
