-- The switches: what each keeps between rows, where it starts, what it keeps behind one more input x, and its value in that row,
-- 0 or 1. No step changes a parameter.
use Rattle.std.specs.Prelude.{ℕ, ◌+◌, ℤ, Bool, true, false, not, ◌&&◌, nat_le, int_lt, if◌then◌else◌}
use Rattle.fx_core.specs.declared.word_type.Ty.{Ty}
use Rattle.fx_routines.specs.declared.control.HystOp.{HystOp}
use Rattle.fx_routines.specs.declared.control.EdgeOp.{EdgeOp}
use Rattle.efx_switch.specs.Switching.{differ, is_edge, is_one, left_end, number_of, right_end}

-- ---- a hysteresis over inputs of the type x, with the ends that p and q give: whether it is on

pub record HystData : Type 0 where
  pub op : HystOp
  pub x : Ty
  pub p : ℤ
  pub q : ℤ
  pub on : Bool

abbrev pub hyst_start : HystOp → Ty → ℤ → ℤ → HystData
hyst_start op x p q = record { op = op; x = x; p = p; q = q; on = false }

-- on above the right end, else off below the left one, and else what it was
abbrev pub hyst_is_on : HystData → ℤ → Bool
hyst_is_on h x = if int_lt (right_end h.op h.p h.q) x then true else (if int_lt x (left_end h.op h.p h.q) then false else h.on)

abbrev pub hyst_after : HystData → ℤ → HystData
hyst_after h x = record { op = h.op; x = h.x; p = h.p; q = h.q; on = hyst_is_on h x }

abbrev pub hyst_value : HystData → ℤ → ℤ
hyst_value h x = number_of (hyst_after h x).on

-- ---- a debounced input: whether it is on, and for how many rows the input has differed from that

pub record DebounceData : Type 0 where
  pub rise : ℕ
  pub fall : ℕ
  pub on : Bool
  pub count : ℕ

abbrev pub debounce_start : ℕ → ℕ → DebounceData
debounce_start rise fall = record { rise = rise; fall = fall; on = false; count = 0 }

-- whether the input differs from what it is
abbrev pub differs : DebounceData → ℤ → Bool
differs d x = differ (is_one x) d.on

-- how many rows the input must differ for: to rise where it is 1, and to fall where it is 0
abbrev pub rows_to_turn : DebounceData → ℤ → ℕ
rows_to_turn d x = if is_one x then d.rise else d.fall

-- whether it turns in this row, which is one more in which the input differs
abbrev pub turns : DebounceData → ℤ → Bool
turns d x = differs d x && nat_le (rows_to_turn d x) (d.count + 1)

-- the input where it turns, and else what it was; the count grows only where the input differs and it doesn't turn
abbrev pub debounce_after : DebounceData → ℤ → DebounceData
debounce_after d x = record {
  rise = d.rise;
  fall = d.fall;
  on = if turns d x then is_one x else d.on;
  count = if differs d x && not (turns d x) then d.count + 1 else 0;
}

abbrev pub debounce_value : DebounceData → ℤ → ℤ
debounce_value d x = number_of (debounce_after d x).on

-- ---- an edge: the input of the row before

pub record EdgeData : Type 0 where
  pub op : EdgeOp
  pub before : Bool

abbrev pub edge_start : EdgeOp → EdgeData
edge_start op = record { op = op; before = false }

abbrev pub edge_after : EdgeData → ℤ → EdgeData
edge_after e x = record { op = e.op; before = is_one x }

abbrev pub edge_value : EdgeData → ℤ → ℤ
edge_value e x = number_of (is_edge e.op e.before (is_one x))
