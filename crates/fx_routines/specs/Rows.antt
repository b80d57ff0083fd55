-- The rows of the table of names. `row_at` and `IsAt` are for private functions' clauses alone.
use Rattle.std.specs.Prelude.{◌≡◌, ℕ, Bool, true, false, List, [], slice_index_or}
use Rattle.fx_routines.specs.contracts.table.RoutinePartialEq.TheImpl as routine_eq
use Rattle.fx_routines.specs.declared.control.SwitchOp.TheVariants.{Debounce}
use Rattle.fx_routines.specs.declared.shape.Part.{Part}
use Rattle.fx_routines.specs.declared.shape.Shape.{Shape}
use Rattle.fx_routines.specs.declared.shape.Shape.TheVariants.{BoolToBool}
use Rattle.fx_routines.specs.declared.table.Routine.{Routine}
use Rattle.fx_routines.specs.declared.table.Routine.TheVariants.{Arith, Scaled, Switch}
use Rattle.fx_routines.specs.declared.table.TheConstants.{TABLE}
use Rattle.fx_routines.specs.Shapes.{parts_in}

-- a row: a routine, the front of its names, and their shape
abbrev pub Row : Type 0
Row = Routine × record { now : List ℕ } × Shape

-- the routine of a row
abbrev pub routine_of : Row → Routine
routine_of row = row.0

-- the front of a row's names
abbrev pub front_of : Row → List ℕ
front_of row = row.1.now

-- the shape of a row's names
abbrev pub shape_of : Row → Shape
shape_of row = row.2

-- the parts of a row's names
abbrev pub parts_of : Row → List Part
parts_of row = parts_in (shape_of row)

-- all rows
unfoldable pub rows : List Row
rows = TABLE

-- the row at a place of the table
abbrev pub row_at : ℕ → Row
row_at i = slice_index_or rows i (Switch Debounce, record { now = [] }, BoolToBool)

-- x stands at the place of the list
pub record IsAt {A : Type 0} (xs : List A) (place : ℕ) (x : A) : Type 0 where
  pub is : x ≡ slice_index_or xs place x

-- both are one routine, as `==` says
abbrev pub same_routine : Routine → Routine → Bool
same_routine = routine_eq.ghosts.eq

-- the types of the routine are those of a `Variant`: it is one of arithmetic, or a form with binary points
abbrev pub has_variant : Routine → Bool
has_variant (Arith op) = true
has_variant (Scaled op) = true
has_variant other = false
