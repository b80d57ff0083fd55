-- The rules of the filters as records over the numbers of what they read, what their parts mean, and that they are kept.
use Rattle.std.specs.Prelude.{ℕ, ◌<◌, ◌≤◌, Bool, false, List, [], ◌∷◌, ℤ, if◌then◌else◌}
use Rattle.fx_fraction.specs.Fraction.{Fraction, whole, minus}
use Rattle.fx_core.specs.declared.quotient.Mode.TheVariants.{Near}
use Rattle.fx_core.specs.Values.{rounded_fraction}
use Rattle.part_rules.specs.declared.bounds.Bounds.{Bounds}
use Rattle.part_rules.specs.Within.{IsWithin}
use Rattle.part_rules.specs.PartRules.{Reading, PartRule, PartMeaning, KeepsRule, IsMonotone, bounds_at, read_now, read_before}
use Rattle.efx_filters.specs.Formulas.{gain_formula, lag_formula, value_formula, average_formula}
use Rattle.efx_rules.specs.FilterRules.{gain_rounded, gain_bounds, lag_rounded, lag_bounds, difference_rounded, difference_bounds, value_rounded, value_bounds, average_bounds}

-- a rule that always gives something, from these parts
abbrev pub always : List (Reading ℕ) → ((ℕ → Bounds) → Bounds) → PartRule ℕ
always reads bounds = record { reads = reads; fails = λ given. false; bounds = λ given. bounds (bounds_at given) }

-- what a part means that divides by nothing
abbrev pub means : ((ℕ → ℤ) → ℤ) → ((ℕ → Fraction) → Fraction) → PartMeaning
means value exactly = record { value = value; exactly = exactly; Divides = λ e. Unit {0} }

-- all bounds fit
abbrev pub FitAll : List Bounds → Type 0
FitAll given = Unit {0}

-- ---- the rules

-- a proportional block's value, from its input
abbrev pub gain_rule : ℤ → PartRule ℕ
gain_rule k = always (read_now 0 ∷ []) (gain_bounds k)

abbrev pub gain_meaning : ℤ → PartMeaning
gain_meaning k = means (gain_rounded k) (λ e. gain_formula k (e 0))

-- a lag's state, from its old state, number 0, and the input of the row before, number 1
abbrev pub lag_rule : ℕ → ℤ → PartRule ℕ
lag_rule teq k = always (read_before 0 ∷ read_before 1 ∷ []) (lag_bounds teq k)

abbrev pub lag_meaning : ℕ → ℤ → PartMeaning
lag_meaning teq k = means (lag_rounded teq k) (λ e. lag_formula teq k (e 0) (e 1))

-- the state of a lag that a difference drives, from its old state, number 0, and the newer and the older input, numbers 1 and
-- 2: those of this row and of the row before where it is of the second type, else as the two states of the row before
abbrev pub difference_rule : Bool → ℕ → ℤ → PartRule ℕ
difference_rule second teq k =
    always (read_before 0 ∷ (if second then read_now 1 else read_before 1) ∷ read_before 2 ∷ []) (difference_bounds teq k)

abbrev pub difference_meaning : ℕ → ℤ → PartMeaning
difference_meaning teq k = means (difference_rounded teq k) (λ e. lag_formula teq k (e 0) (minus (e 1) (e 2)))

-- the value of a block with a state, from its state
abbrev pub value_rule : PartRule ℕ
value_rule = always (read_now 0 ∷ []) value_bounds

abbrev pub value_meaning : PartMeaning
value_meaning = means value_rounded (λ e. value_formula (e 0))

-- an average's value, from its input, number 0, and its window of the row before, number 1
abbrev pub average_rule : PartRule ℕ
average_rule = always (read_now 0 ∷ read_before 1 ∷ []) average_bounds

-- ---- that they are kept

abbrev pub GainsKeepRules : Type 0
GainsKeepRules = (k : ℤ) → KeepsRule (gain_rule k) (gain_meaning k) FitAll

abbrev pub LagsKeepRules : Type 0
LagsKeepRules = (teq : ℕ) (k : ℤ) → KeepsRule (lag_rule teq k) (lag_meaning teq k) FitAll

abbrev pub DifferencesKeepRules : Type 0
DifferencesKeepRules =
    (second : Bool) (teq : ℕ) (k : ℤ) → KeepsRule (difference_rule second teq k) (difference_meaning teq k) FitAll

abbrev pub ValuesKeepRules : Type 0
ValuesKeepRules = KeepsRule value_rule value_meaning FitAll

-- an average of n rows keeps its rule: where the input is within its bounds, and each input of the window within those of the
-- window, the mean is within what the rule gives
abbrev pub AveragesAreSound : Type 0
AveragesAreSound =
    (n : ℕ) → 1 ≤ n → (given : ℕ → Bounds) (m : ℕ → ℤ) (e : ℕ → Fraction) →
    IsWithin (given 0) (m 0) (e 0) → ((i : ℕ) → 1 ≤ i → i < n → IsWithin (given 1) (m i) (e i)) →
    IsWithin (average_bounds given) (rounded_fraction Near (average_formula n (λ i. whole (m i)))) (average_formula n e)

-- and the rule is monotone
abbrev pub AveragesAreMonotone : Type 0
AveragesAreMonotone = IsMonotone average_rule FitAll
