-- Tables of values: what a table is seen as, which values one may have, and why values are refused.
use Rattle.std.specs.Prelude.{ℕ, ◌<◌, ◌≤◌, ℤ, pos, Bool, not, nat_lt, if◌then◌else◌, List, length, get_or, Option, Some, None, Result, Ok, Err}
use Rattle.fx_core.specs.declared.word_type.Ty.{Ty}
use Rattle.fx_core.specs.Types.{Holds, holds, width_of}
use Rattle.ifx_search.specs.Axes.{first_place}
use Rattle.ifx_curves.specs.declared.table.TableFault.{TableFault}
use Rattle.ifx_curves.specs.declared.table.TableFault.TheVariants.{TooFew, TooMany, OutOfType, OutOfMemory}

-- a table: its type, and its values
pub record TableData : Type 0 where
  pub ty : Ty
  pub values : List ℤ

-- value number i, from 0
abbrev pub value_at : List ℤ → ℕ → ℤ
value_at values i = get_or values i (pos 0)

-- what a table may be: 2 to 4,096 values, each a number of its type, which has at most 16 bits
pub record IsTable (ty : Ty) (values : List ℤ) : Type 0 where
  pub narrow : width_of ty ≤ 16
  pub some : 2 ≤ length values
  pub few : length values ≤ 4096
  pub held : (i : ℕ) → i < length values → Holds ty (value_at values i)

-- ---- why values are refused

-- whether value i is no number of the type
abbrev pub is_outside : Ty → List ℤ → ℕ → Bool
is_outside ty values i = not (holds ty (value_at values i))

-- a value outside the type is told by its place
abbrev pub fault_at : Option ℕ → Option TableFault
fault_at (Some outside) = Some (OutOfType outside)
fault_at None = None

-- the first cause for which values make no table of the type, if there is one
abbrev pub table_fault : Ty → List ℤ → Option TableFault
table_fault ty values =
    if nat_lt (length values) 2 then Some TooFew
    else if nat_lt 4096 (length values) then Some TooMany
    else fault_at (first_place (is_outside ty values) 0 (length values))

-- the cause in the values that an answer gives, and none where it gives a table or memory was wanting
abbrev pub cause_of : {A : Type 0} → Result A TableFault → Option TableFault
cause_of (Ok table) = None
cause_of (Err TooFew) = Some TooFew
cause_of (Err TooMany) = Some TooMany
cause_of (Err (OutOfType i)) = Some (OutOfType i)
cause_of (Err OutOfMemory) = None
