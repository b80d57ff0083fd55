-- The controllers: what each keeps between rows, where it starts, what it keeps behind one more input x, and its value in that
-- row. The types of the input and of the output are x and o, the state is y, and x1 is the input of the row before.
use Rattle.std.specs.Prelude.{ℕ, ℤ, pos, Bool}
use Rattle.fx_fraction.specs.Fraction.{Fraction, whole}
use Rattle.fx_core.specs.declared.quotient.Mode.TheVariants.{Near}
use Rattle.fx_core.specs.declared.word_type.Ty.{Ty}
use Rattle.fx_core.specs.Types.{saturated_to}
use Rattle.fx_core.specs.Values.{rounded_fraction}
use Rattle.efx_filters.specs.Formulas.{state_greatest, state_least}
use Rattle.efx_filters.specs.States.{state_value}
use Rattle.efx_control.specs.Formulas.{limited_formula, pi_formula, ramp_formula}

-- what is kept of a new state: rounded to the nearest, and saturated
unfoldable pub kept_state : Fraction → ℤ
kept_state state = saturated_to state_least state_greatest (rounded_fraction Near state)

-- ---- a PI controller, of type 1 (second = false) or of type 2 (second = true)

pub record PiData : Type 0 where
  pub second : Bool
  pub x : Ty
  pub o : Ty
  pub k : ℤ
  pub r : ℕ
  pub y : ℤ
  pub x1 : ℤ

abbrev pub pi_start : Bool → Ty → Ty → ℤ → ℕ → PiData
pi_start second x o k r = record { second = second; x = x; o = o; k = k; r = r; y = pos 0; x1 = pos 0 }

abbrev pub pi_after : PiData → ℤ → PiData
pi_after pi x = record {
  second = pi.second;
  x = pi.x;
  o = pi.o;
  k = pi.k;
  r = pi.r;
  y = kept_state (pi_formula pi.second pi.k pi.r (whole pi.y) (whole x) (whole pi.x1));
  x1 = x;
}

abbrev pub pi_value : PiData → ℤ → ℤ
pi_value pi x = state_value pi.o (pi_after pi x).y

-- ---- one whose state is held between the limits lo and hi

pub record PiLimData : Type 0 where
  pub second : Bool
  pub x : Ty
  pub o : Ty
  pub k : ℤ
  pub r : ℕ
  pub lo : ℤ
  pub hi : ℤ
  pub y : ℤ
  pub x1 : ℤ

abbrev pub pi_lim_start : Bool → Ty → Ty → ℤ → ℕ → ℤ → ℤ → PiLimData
pi_lim_start second x o k r lo hi = record { second = second; x = x; o = o; k = k; r = r; lo = lo; hi = hi; y = pos 0; x1 = pos 0 }

abbrev pub pi_lim_after : PiLimData → ℤ → PiLimData
pi_lim_after pi x = record {
  second = pi.second;
  x = pi.x;
  o = pi.o;
  k = pi.k;
  r = pi.r;
  lo = pi.lo;
  hi = pi.hi;
  y = kept_state (limited_formula pi.lo pi.hi (pi_formula pi.second pi.k pi.r (whole pi.y) (whole x) (whole pi.x1)));
  x1 = x;
}

abbrev pub pi_lim_value : PiLimData → ℤ → ℤ
pi_lim_value pi x = state_value pi.o (pi_lim_after pi x).y

-- ---- a ramp, which rises by at most `up` and falls by at most `down` in a row

pub record RampData : Type 0 where
  pub x : Ty
  pub o : Ty
  pub up : ℕ
  pub down : ℕ
  pub y : ℤ

abbrev pub ramp_start : Ty → Ty → ℕ → ℕ → RampData
ramp_start x o up down = record { x = x; o = o; up = up; down = down; y = pos 0 }

abbrev pub ramp_after : RampData → ℤ → RampData
ramp_after ramp x = record {
  x = ramp.x;
  o = ramp.o;
  up = ramp.up;
  down = ramp.down;
  y = kept_state (ramp_formula ramp.up ramp.down (whole ramp.y) (whole x));
}

abbrev pub ramp_value : RampData → ℤ → ℤ
ramp_value ramp x = state_value ramp.o (ramp_after ramp x).y
