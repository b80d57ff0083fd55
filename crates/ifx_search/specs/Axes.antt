-- Axes of breakpoints: what an axis is seen as, which points one may have, and why points are refused.
use Rattle.std.specs.Prelude.{◌≡◌, ℕ, zero, suc, ◌-◌, ◌<◌, ◌≤◌, ◌^◌, unsigned_abs, ℤ, pos, ◌+ℤ◌, ◌*ℤ◌, ◌<ℤ◌, int_le, Bool, not, nat_lt, if◌then◌else◌, List, length, get_or, map, Option, Some, None, Result, Ok, Err}
use Rattle.std.specs.List.{range_with_len}
use Rattle.fx_core.specs.declared.word_type.Ty.{Ty}
use Rattle.fx_core.specs.Types.{Holds, holds, width_of}
use Rattle.ifx_search.specs.declared.axis.AxisFault.{AxisFault}
use Rattle.ifx_search.specs.declared.axis.AxisFault.TheVariants.{TooFew, TooMany, OutOfType, NotRising, OutOfMemory}
use Rattle.ifx_search.specs.declared.axis.Grid.{Grid}
use Rattle.ifx_search.specs.declared.axis.Breakpoints.{Breakpoints}
use Rattle.ifx_search.specs.declared.axis.Breakpoints.TheVariants.{Listed, Stepped}

-- an axis: its type, its points from the lowest on, and its offset and step where it was made by them
pub record AxisData : Type 0 where
  pub ty : Ty
  pub points : List ℤ
  pub spacing : Option (ℤ × ℤ)

-- point number i, from 0
abbrev pub point_at : List ℤ → ℕ → ℤ
point_at points i = get_or points i (pos 0)

-- the points offset, offset + step, offset + 2*step ..
unfoldable pub stepped_points : ℤ → ℤ → ℕ → List ℤ
stepped_points offset step count = map (λ i. offset +ℤ pos i *ℤ step) (range_with_len 0 count)

-- the axis of listed points, and the one of points in equal steps
abbrev pub listed_axis : Ty → List ℤ → AxisData
listed_axis ty points = record { ty = ty; points = points; spacing = None }

abbrev pub stepped_axis : Ty → ℤ → ℤ → ℕ → AxisData
stepped_axis ty offset step count = record { ty = ty; points = stepped_points offset step count; spacing = Some (offset, step) }

-- what an axis may be: 2 to 4,096 points, each a number of its type, which has at most 16 bits, and each above the one before
pub record IsAxis (ty : Ty) (points : List ℤ) : Type 0 where
  pub narrow : width_of ty ≤ 16
  pub some : 2 ≤ length points
  pub few : length points ≤ 4096
  pub held : (i : ℕ) → i < length points → Holds ty (point_at points i)
  pub rising : (i : ℕ) → suc i < length points → point_at points i <ℤ point_at points (suc i)

-- points that are said to be in equal steps are
abbrev pub IsSpaced : List ℤ → Option (ℤ × ℤ) → Type 0
IsSpaced points None = Unit {0}
IsSpaced points (Some spacing) = points ≡ stepped_points spacing.0 spacing.1 (length points)

-- ---- why points are refused

-- the first of so many places, from `start` on, that the test holds of
unfoldable pub first_place : (ℕ → Bool) → ℕ → ℕ → Option ℕ
first_place test start zero = None
first_place test start (suc count) = if test start then Some start else first_place test (suc start) count

-- whether point i is no number of the type
abbrev pub is_outside : Ty → List ℤ → ℕ → Bool
is_outside ty points i = not (holds ty (point_at points i))

-- whether point i isn't above the one before
abbrev pub is_not_above : List ℤ → ℕ → Bool
is_not_above points i = int_le (point_at points i) (point_at points (i - 1))

-- a point outside the type is told before one that doesn't rise
abbrev pub fault_at : Option ℕ → Option ℕ → Option AxisFault
fault_at (Some outside) not_above = Some (OutOfType outside)
fault_at None (Some not_above) = Some (NotRising not_above)
fault_at None None = None

-- the first cause for which points make no axis of the type, if there is one
abbrev pub axis_fault : Ty → List ℤ → Option AxisFault
axis_fault ty points =
    if nat_lt (length points) 2 then Some TooFew
    else if nat_lt 4096 (length points) then Some TooMany
    else fault_at (first_place (is_outside ty points) 0 (length points)) (first_place (is_not_above points) 1 (length points - 1))

-- the cause in the points that an answer gives, and none where it gives an axis or memory was wanting
abbrev pub cause_of : {A : Type 0} → Result A AxisFault → Option AxisFault
cause_of (Ok axis) = None
cause_of (Err TooFew) = Some TooFew
cause_of (Err TooMany) = Some TooMany
cause_of (Err (OutOfType i)) = Some (OutOfType i)
cause_of (Err (NotRising i)) = Some (NotRising i)
cause_of (Err OutOfMemory) = None

-- ---- what an axis keeps, for its model

-- the points of equal steps
abbrev pub grid_points : Grid → List ℤ
grid_points grid = stepped_points grid.offset grid.step grid.count

-- an offset and a step so small that no point leaves 64 bits
abbrev pub IsSmall : Grid → Type 0
IsSmall grid = (unsigned_abs grid.offset ≤ 2 ^ 32) × (unsigned_abs grid.step ≤ 2 ^ 32)

-- its points
abbrev pub points_of : Breakpoints → List ℤ
points_of (Listed points) = points.items
points_of (Stepped grid) = grid_points grid

-- its offset and its step, where it was made by them
abbrev pub spacing_of : Breakpoints → Option (ℤ × ℤ)
spacing_of (Listed points) = None
spacing_of (Stepped grid) = Some (grid.offset, grid.step)

-- no point leaves 64 bits
abbrev pub IsKeptSmall : Breakpoints → Type 0
IsKeptSmall (Listed points) = Unit {0}
IsKeptSmall (Stepped grid) = IsSmall grid
