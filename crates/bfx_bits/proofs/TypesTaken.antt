-- What the rows of the operations take.
use Rattle.std.proofs.Common.{◌≡◌, refl}
use Rattle.fx_core.specs.declared.word_type.Ty.{Ty}
use Rattle.fx_core.specs.declared.word_type.Ty.TheVariants.{U8, S8, U16, S16, U32, S32}
use Rattle.fx_routines.specs.declared.bits.BitOp.{BitOp}
use Rattle.fx_routines.specs.declared.bits.BitOp.TheVariants.{SetBit}
use Rattle.fx_routines.specs.declared.table.Routine.TheVariants.{Bit}
use Rattle.fx_routines.specs.Names.{row_of, takes}
use Rattle.fx_routines.specs.Rows.{rows}
use Rattle.fx_routines.specs.Variants.{types}
use Rattle.bfx_bits.specs.Routines.{takes_type}

-- what the table's row of an operation takes is what the operation takes
pub taken : (op : BitOp) (t : Ty) → takes (Bit op) (types t t t) ≡ takes_type op t
unfolding row_of rows
taken SetBit U8 = refl
taken other U8 = refl
taken SetBit S8 = refl
taken other S8 = refl
taken SetBit U16 = refl
taken other U16 = refl
taken SetBit S16 = refl
taken other S16 = refl
taken SetBit U32 = refl
taken other U32 = refl
taken SetBit S32 = refl
taken other S32 = refl
