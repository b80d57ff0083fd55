-- The blocks with a state: what each keeps between rows, where it starts, what it keeps behind one more input x, and its value in
-- that row. The types of the input and of the output are x and o; the last inputs are x1, of the row before, and x2, of the row
-- before that.
use Rattle.std.specs.Prelude.{ℕ, ◌-◌, ℤ, pos, ◌≤ℤ◌, Bool, if◌then◌else◌, List, ◌∷◌, get_or, take, replicate}
use Rattle.fx_fraction.specs.Fraction.{Fraction, whole, minus}
use Rattle.fx_core.specs.declared.quotient.Mode.TheVariants.{Near}
use Rattle.fx_core.specs.declared.word_type.Ty.{Ty}
use Rattle.fx_core.specs.Types.{saturated, saturated_to}
use Rattle.fx_core.specs.Values.{rounded_fraction}
use Rattle.efx_filters.specs.Formulas.{average_formula, gain_formula, lag_formula, state_greatest, state_least, value_formula}

-- ---- what a lag makes of its state

-- y is a state
abbrev pub IsState : ℤ → Type 0
IsState y = (state_least ≤ℤ y) × (y ≤ℤ state_greatest)

-- the new state, from the old one and what drives the lag: rounded to the nearest, and saturated
unfoldable pub next_state : ℕ → ℤ → ℤ → Fraction → ℤ
next_state teq k y drive = saturated_to state_least state_greatest (rounded_fraction Near (lag_formula teq k (whole y) drive))

-- the value of a new state: rounded to the nearest, and saturated
unfoldable pub state_value : Ty → ℤ → ℤ
state_value o y = saturated o (rounded_fraction Near (value_formula (whole y)))

-- ---- a proportional block

pub record GainData : Type 0 where
  pub x : Ty
  pub o : Ty
  pub k : ℤ

abbrev pub gain_start : Ty → Ty → ℤ → GainData
gain_start x o k = record { x = x; o = o; k = k }

-- it keeps nothing of its inputs
abbrev pub gain_after : GainData → ℤ → GainData
gain_after gain x = gain

unfoldable pub gain_value : GainData → ℤ → ℤ
gain_value gain x = saturated gain.o (rounded_fraction Near (gain_formula gain.k (whole x)))

-- ---- a lag of first order: the input of the row before drives it

pub record Pt1Data : Type 0 where
  pub x : Ty
  pub o : Ty
  pub teq : ℕ
  pub k : ℤ
  pub y : ℤ
  pub x1 : ℤ

abbrev pub pt1_start : Ty → Ty → ℕ → ℤ → Pt1Data
pt1_start x o teq k = record { x = x; o = o; teq = teq; k = k; y = pos 0; x1 = pos 0 }

abbrev pub pt1_after : Pt1Data → ℤ → Pt1Data
pt1_after lag x = record {
  x = lag.x;
  o = lag.o;
  teq = lag.teq;
  k = lag.k;
  y = next_state lag.teq lag.k lag.y (whole lag.x1);
  x1 = x;
}

abbrev pub pt1_value : Pt1Data → ℤ → ℤ
pt1_value lag x = state_value lag.o (pt1_after lag x).y

-- ---- a differentiating lag of first order: a change of the input drives it, by type 1 (second = false) the change up to the row
-- before, by type 2 (second = true) the one up to this row

pub record Dt1Data : Type 0 where
  pub second : Bool
  pub x : Ty
  pub o : Ty
  pub teq : ℕ
  pub k : ℤ
  pub y : ℤ
  pub x1 : ℤ
  pub x2 : ℤ

abbrev pub dt1_start : Bool → Ty → Ty → ℕ → ℤ → Dt1Data
dt1_start second x o teq k = record { second = second; x = x; o = o; teq = teq; k = k; y = pos 0; x1 = pos 0; x2 = pos 0 }

-- the change that drives it
abbrev pub dt1_drive : Dt1Data → ℤ → Fraction
dt1_drive lag x = if lag.second then minus (whole x) (whole lag.x1) else minus (whole lag.x1) (whole lag.x2)

abbrev pub dt1_after : Dt1Data → ℤ → Dt1Data
dt1_after lag x = record {
  second = lag.second;
  x = lag.x;
  o = lag.o;
  teq = lag.teq;
  k = lag.k;
  y = next_state lag.teq lag.k lag.y (dt1_drive lag x);
  x1 = x;
  x2 = lag.x1;
}

abbrev pub dt1_value : Dt1Data → ℤ → ℤ
dt1_value lag x = state_value lag.o (dt1_after lag x).y

-- ---- a moving average over n rows: it keeps the n - 1 inputs before, newest first

pub record AverageData : Type 0 where
  pub x : Ty
  pub o : Ty
  pub n : ℕ
  pub window : List ℤ

abbrev pub average_start : Ty → Ty → ℕ → AverageData
average_start x o n = record { x = x; o = o; n = n; window = replicate (n - 1) (pos 0) }

abbrev pub average_after : AverageData → ℤ → AverageData
average_after average x = record { x = average.x; o = average.o; n = average.n; window = take (average.n - 1) (x ∷ average.window) }

-- the input so many rows ago, where x is that of this row
abbrev pub input_ago : List ℤ → ℤ → ℕ → Fraction
input_ago window x ago = whole (get_or (x ∷ window) ago (pos 0))

unfoldable pub average_value : AverageData → ℤ → ℤ
average_value average x = saturated average.o (rounded_fraction Near (average_formula average.n (input_ago average.window x)))
