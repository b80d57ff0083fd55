-- Maps: what a map is seen as, which values one may have, and why values are refused.
use Rattle.std.specs.Prelude.{◌≡◌, ℕ, ◌+◌, ◌*◌, ◌<◌, ◌≤◌, ℤ, ◌==◌, ◌||◌, nat_lt, if◌then◌else◌, List, length, Option, Some, None, Result, Ok, Err}
use Rattle.fx_core.specs.declared.word_type.Ty.{Ty}
use Rattle.fx_core.specs.Types.{Holds, width_of}
use Rattle.ifx_search.specs.Axes.{first_place}
use Rattle.ifx_curves.specs.Tables.{is_outside, value_at}
use Rattle.ifx_maps.specs.declared.map_table.MapFault.{MapFault}
use Rattle.ifx_maps.specs.declared.map_table.MapFault.TheVariants.{TooFew, TooMany, WrongCount, OutOfType, OutOfMemory}

-- a map: its type, how many columns it has along x and how many lines along y, and its values, one column behind the other
pub record MapData : Type 0 where
  pub ty : Ty
  pub nx : ℕ
  pub ny : ℕ
  pub values : List ℤ

-- the value of column ix and line iy, both from 0
abbrev pub map_at : MapData → ℕ → ℕ → ℤ
map_at m ix iy = value_at m.values (ix * m.ny + iy)

-- what a map may be: 2 to 4,096 columns and lines, at most 65,536 values, one for each column and line, and each a number of its
-- type, which has at most 16 bits
pub record IsMap (ty : Ty) (nx ny : ℕ) (values : List ℤ) : Type 0 where
  pub narrow : width_of ty ≤ 16
  pub some_columns : 2 ≤ nx
  pub some_lines : 2 ≤ ny
  pub few_columns : nx ≤ 4096
  pub few_lines : ny ≤ 4096
  pub few : nx * ny ≤ 65536
  pub count : length values ≡ nx * ny
  pub held : (i : ℕ) → i < length values → Holds ty (value_at values i)

-- ---- why values are refused

-- a value outside the type is told by its place
abbrev pub fault_at : Option ℕ → Option MapFault
fault_at (Some outside) = Some (OutOfType outside)
fault_at None = None

-- the first cause for which values make no map of the type with so many columns and lines, if there is one
abbrev pub map_fault : Ty → ℕ → ℕ → List ℤ → Option MapFault
map_fault ty nx ny values =
    if nat_lt nx 2 || nat_lt ny 2 then Some TooFew
    else if nat_lt 4096 nx || nat_lt 4096 ny || nat_lt 65536 (nx * ny) then Some TooMany
    else if length values == nx * ny then fault_at (first_place (is_outside ty values) 0 (length values))
    else Some WrongCount

-- the cause in the values that an answer gives, and none where it gives a map or memory was wanting
abbrev pub cause_of : {A : Type 0} → Result A MapFault → Option MapFault
cause_of (Ok m) = None
cause_of (Err TooFew) = Some TooFew
cause_of (Err TooMany) = Some TooMany
cause_of (Err WrongCount) = Some WrongCount
cause_of (Err (OutOfType i)) = Some (OutOfType i)
cause_of (Err OutOfMemory) = None
