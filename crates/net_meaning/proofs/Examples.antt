-- Worked recordings. The first: `b` at the binary point 4 is converted to the point 0 and added to `a`, over two rows with the
-- newest first. 24 and -24 at the point 4 are 1.5 and -1.5.
use Rattle.std.specs.Prelude.{◌≡◌, List, [], ◌∷◌, map, ℤ, pos, negsuc, None, refl, codes}
use Rattle.fx_core.specs.Rounding.{rounded}
use Rattle.fx_fraction.specs.Fraction.{Same, whole, over, plus, minus, times, quotient, divided}
use Rattle.fx_core.specs.declared.word_type.Ty.TheVariants.{S16}
use Rattle.fx_routines.specs.declared.operation.ArithOp.TheVariants.{Add}
use Rattle.fx_routines.specs.declared.operation.ScaledOp.TheVariants.{Convert}
use Rattle.fx_routines.specs.declared.interpolation.CurveOp.TheVariants.{Ipo}
use Rattle.ifx_search.specs.Positions.{position, way_in}
use Rattle.ifx_curves.specs.Curves.{curve, curve_through, on_way}
use Rattle.net_model.specs.declared.wires.Kind.TheVariants.{Num, Position}
use Rattle.net_model.specs.declared.wires.Block.TheVariants.{Arith, Scaled, Pt1, Search, Curve, IntCurve}
use Rattle.net_model.specs.declared.wires.Item.TheVariants.{Input, Delay, Block as OfBlock}
use Rattle.net_model.specs.Wires.{NetData}
use Rattle.mfx_scaled.specs.Formulas.{point_factor}
use Rattle.efx_filters.specs.Formulas.{lag_formula, value_formula}
use Rattle.net_meaning.specs.Cells.{cell_at}
use Rattle.net_meaning.specs.Blocks.{formula, state_formula, quotient_of, machine, machine_cell, machine_state_of, exact, exact_cell}
use Rattle.net_meaning.specs.Runs.{equation_of, row_of, table}

net : NetData
net = record {
  axes = [];
  tables = [];
  wires =
      record { name = codes "a"; kind = Num S16 0; item = Input (negsuc 999) (pos 32767) } ∷
      record { name = codes "b"; kind = Num S16 4; item = Input (negsuc 159) (pos 160) } ∷
      record { name = codes "c"; kind = Num S16 0; item = OfBlock (Scaled Convert (record { x = S16; y = S16; o = S16 }) (record { 0 = 1 }) (record { 0 = 1 })) } ∷
      record { name = codes "s"; kind = Num S16 0; item = OfBlock (Arith Add (record { x = S16; y = S16; o = S16 }) (record { 0 = 0 }) (record { 0 = 2 }) (record { 0 = 0 }) 0) } ∷ [];
  outs = record { 0 = 3 } ∷ [];
}

rows : List (List ℤ)
rows = (pos 32767 ∷ pos 24 ∷ []) ∷ (negsuc 0 ∷ negsuc 23 ∷ []) ∷ []

-- the machine rounds toward zero and saturates
machine_values : map (map (λ c. c.value)) (table machine net rows) ≡ (pos 32767 ∷ pos 24 ∷ pos 1 ∷ pos 32767 ∷ []) ∷ (negsuc 0 ∷ negsuc 23 ∷ negsuc 0 ∷ negsuc 1 ∷ []) ∷ []
unfolding net rows table row_of equation_of machine machine_cell machine_state_of formula state_formula quotient_of point_factor rounded whole over plus times
machine_values = refl

-- the exact values do neither
exact_value : (cell_at exact (table exact net rows) 0 3).value ≡ over (pos 524296) 16
unfolding net rows table row_of equation_of exact exact_cell formula state_formula quotient_of point_factor whole over plus times
exact_value = refl

-- ---- a lag and a delay

-- `x` drives a lag of half weight, and `d` hands on the lag's value
lagging : NetData
lagging = record {
  axes = [];
  tables = [];
  wires =
      record { name = codes "x"; kind = Num S16 0; item = Input (negsuc 999) (pos 1000) } ∷
      record { name = codes "y"; kind = Num S16 0; item = OfBlock (Pt1 S16 S16 (record { 0 = 0 }) 32768 (pos 65536)) } ∷
      record { name = codes "d"; kind = Num S16 0; item = Delay (pos 7) (record { 0 = 1 }) } ∷ [];
  outs = record { 0 = 1 } ∷ [];
}

thousands : List (List ℤ)
thousands = (pos 1000 ∷ []) ∷ (pos 1000 ∷ []) ∷ (pos 1000 ∷ []) ∷ (pos 1000 ∷ []) ∷ []

-- the lag halves its distance row by row, one row behind its input; the delay starts from 7
lag_values : map (map (λ c. c.value)) (table machine lagging thousands) ≡ (pos 1000 ∷ pos 875 ∷ pos 750 ∷ []) ∷ (pos 1000 ∷ pos 750 ∷ pos 500 ∷ []) ∷ (pos 1000 ∷ pos 500 ∷ pos 0 ∷ []) ∷ (pos 1000 ∷ pos 0 ∷ pos 7 ∷ []) ∷ []
unfolding lagging thousands table row_of equation_of machine machine_cell machine_state_of formula state_formula quotient_of lag_formula value_formula rounded whole over plus times quotient divided
lag_values = refl

-- ---- a search and curves

-- `p` is the position of `x` on an axis of 0, 10 and 30, `c` the curve through 0, 100 and 50 at that position, and `d` the same
-- curve at `x`
looking : NetData
looking = record {
  axes = (codes "points", record { ty = S16; points = pos 0 ∷ pos 10 ∷ pos 30 ∷ []; spacing = None }) ∷ [];
  tables = (codes "heights", record { ty = S16; values = pos 0 ∷ pos 100 ∷ pos 50 ∷ [] }) ∷ [];
  wires =
      record { name = codes "x"; kind = Num S16 0; item = Input (negsuc 999) (pos 1000) } ∷
      record { name = codes "p"; kind = Position 0; item = OfBlock (Search S16 (record { 0 = 0 }) 0) } ∷
      record { name = codes "c"; kind = Num S16 0; item = OfBlock (Curve Ipo (record { 0 = 1 }) 0) } ∷
      record { name = codes "d"; kind = Num S16 0; item = OfBlock (IntCurve Ipo (record { 0 = 0 }) 0 0) } ∷ [];
  outs = record { 0 = 2 } ∷ [];
}

fifteen : List (List ℤ)
fifteen = (pos 15 ∷ []) ∷ []

-- 15 is a quarter of the way from 10 to 30, and 87.5 is rounded downward
look_up_values : map (map (λ c. c.value)) (table machine looking fifteen) ≡ (pos 15 ∷ pos 81920 ∷ pos 87 ∷ pos 87 ∷ []) ∷ []
unfolding looking fifteen table row_of equation_of machine machine_cell machine_state_of formula state_formula quotient_of position way_in curve curve_through on_way rounded whole over plus minus times quotient divided
look_up_values = refl

-- exactly it is 87.5
exact_look_up : Same (cell_at exact (table exact looking fifteen) 0 2).value (over (pos 175) 2)
unfolding looking fifteen table row_of equation_of exact exact_cell formula state_formula quotient_of position way_in curve curve_through on_way whole over plus minus times quotient divided
exact_look_up = refl
