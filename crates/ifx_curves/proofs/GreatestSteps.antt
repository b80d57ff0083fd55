-- The greatest of some steps, and the steepest of some slopes, with one more.
use Rattle.std.specs.Prelude.{◌≡◌, ℕ, suc, ◌+◌, max, List, ℤ}
use Rattle.std.proofs.Common.{nat_cmp, sym, ap, ap₂, ◌∙◌, arith}
use Rattle.std.specs.Ordering.{ord_max}
use Rattle.ifx_curves.specs.declared.slopes.Slope.{Slope}
use Rattle.ifx_curves.specs.Slopes.{greatest_of_steps, slope_at, steeper, steepest_of, step_at}

pub greatest_of_next : (values : List ℤ) (n g s r : ℕ) → g ≡ greatest_of_steps values n → s ≡ step_at values n → r ≡ ord_max nat_cmp g s → r ≡ greatest_of_steps values (n + 1)
unfolding greatest_of_steps
greatest_of_next values n g s r e e' is = is ∙ greater g s ∙ ap₂ max e e' ∙ ap (greatest_of_steps values) (next n)
  where
    greater : (g s : ℕ) → ord_max nat_cmp g s ≡ max g s
    greater g s = grind arith

    next : (n : ℕ) → suc n ≡ n + 1
    next n = omega arith

pub steepest_of_next : (points values : List ℤ) (n : ℕ) (a b r : Slope) → a ≡ steepest_of points values n → b ≡ slope_at points values (n + 1) → r ≡ steeper a b → r ≡ steepest_of points values (n + 1)
unfolding steepest_of
steepest_of_next points values n a b r e e' is = is ∙ ap₂ steeper e (e' ∙ ap (slope_at points values) (next n)) ∙ ap (steepest_of points values) (sym (next n))
  where
    next : (n : ℕ) → n + 1 ≡ suc n
    next n = omega arith
