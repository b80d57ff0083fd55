-- The greatest of some steps, and the steepest of some slopes, with one more.
use Rattle.std.specs.Prelude.{◌≡◌, ℕ, suc, ◌+◌, max}
use Rattle.std.proofs.Common.{nat_cmp, sym, ap, ap₂, ◌∙◌, arith}
use Rattle.std.specs.Ordering.{ord_max}
use Rattle.ifx_curves.specs.declared.slopes.Slope.{Slope}
use Rattle.ifx_curves.specs.Slopes.{steeper}
use Rattle.ifx_maps.specs.Slopes.{greatest_of, steepest_of}

pub greatest_of_next : (step : ℕ → ℕ) (n g s r : ℕ) → g ≡ greatest_of step n → s ≡ step n → r ≡ ord_max nat_cmp g s → r ≡ greatest_of step (n + 1)
unfolding greatest_of
greatest_of_next step n g s r e e' is = is ∙ greater g s ∙ ap₂ max e e' ∙ ap (greatest_of step) (next n)
  where
    greater : (g s : ℕ) → ord_max nat_cmp g s ≡ max g s
    greater g s = grind arith

    next : (n : ℕ) → suc n ≡ n + 1
    next n = omega arith

pub steepest_of_next : (slope : ℕ → Slope) (n : ℕ) (a b r : Slope) → a ≡ steepest_of slope n → b ≡ slope (n + 1) → r ≡ steeper a b → r ≡ steepest_of slope (n + 1)
unfolding steepest_of
steepest_of_next slope n a b r e e' is = is ∙ ap₂ steeper e (e' ∙ ap slope (next n)) ∙ ap (steepest_of slope) (sym (next n))
  where
    next : (n : ℕ) → n + 1 ≡ suc n
    next n = omega arith
