-- Worked values of the routines: each computes.
use Rattle.std.proofs.Common.{◌≡◌, pos, negsuc, refl}
use Rattle.fx_core.specs.Rounding.{rounded, shifted_rounded}
use Rattle.fx_core.specs.declared.word_type.Ty.TheVariants.{U8, S8, U16}
use Rattle.fx_routines.specs.declared.bits.BitOp.TheVariants.{SetBit, ClrBit, GetBit, PutBit, SetBits, GetBits, PutBits, CopyBit, SetBitMask, ClrBitMask, ToggleBitMask, PutBitsMask, TstBitMask, TstBitLnMask, TstParityEven, ToggleBits, RotBitLt, RotBitRt, ShiftBitLt, ShiftBitRt, ShiftBitSat}
use Rattle.bfx_bits.specs.Routines.{bit_value}

-- a place past the width has no effect
set_past_the_width : bit_value SetBit U8 (pos 1) (pos 9) (pos 0) (pos 0) ≡ pos 1
unfolding bit_value
set_past_the_width = refl

set_in_the_width : bit_value SetBit U16 (pos 1) (pos 9) (pos 0) (pos 0) ≡ pos 513
unfolding bit_value
set_in_the_width = refl

cleared : bit_value ClrBit U8 (pos 255) (pos 7) (pos 0) (pos 0) ≡ pos 127
unfolding bit_value
cleared = refl

-- and reads 0
bit_past_the_width : bit_value GetBit U8 (pos 255) (pos 8) (pos 0) (pos 0) ≡ pos 0
unfolding bit_value
bit_past_the_width = refl

highest_bit : bit_value GetBit U8 (pos 128) (pos 7) (pos 0) (pos 0) ≡ pos 1
unfolding bit_value
highest_bit = refl

put : bit_value PutBit U8 (pos 5) (pos 0) (pos 0) (pos 0) ≡ pos 4
unfolding bit_value
put = refl

-- a range is cut at the width
range_set : bit_value SetBits U8 (pos 0) (pos 6) (pos 4) (pos 1) ≡ pos 192
unfolding bit_value
range_set = refl

range_read : bit_value GetBits U8 (pos 180) (pos 2) (pos 3) (pos 0) ≡ pos 5
unfolding bit_value
range_read = refl

range_read_past_the_width : bit_value GetBits U8 (pos 180) (pos 6) (pos 200) (pos 0) ≡ pos 2
unfolding bit_value
range_read_past_the_width = refl

range_written : bit_value PutBits U8 (pos 255) (pos 2) (pos 3) (pos 2) ≡ pos 235
unfolding bit_value
range_written = refl

copied : bit_value CopyBit U8 (pos 0) (pos 1) (pos 128) (pos 7) ≡ pos 2
unfolding bit_value
copied = refl

mask_set : bit_value SetBitMask U8 (pos 5) (pos 6) (pos 0) (pos 0) ≡ pos 7
unfolding bit_value
mask_set = refl

mask_cleared : bit_value ClrBitMask U8 (pos 5) (pos 6) (pos 0) (pos 0) ≡ pos 1
unfolding bit_value
mask_cleared = refl

mask_toggled : bit_value ToggleBitMask U8 (pos 5) (pos 6) (pos 0) (pos 0) ≡ pos 3
unfolding bit_value
mask_toggled = refl

mask_put : bit_value PutBitsMask U8 (pos 5) (pos 10) (pos 6) (pos 0) ≡ pos 3
unfolding bit_value
mask_put = refl

all_of_a_mask : bit_value TstBitMask U8 (pos 5) (pos 6) (pos 0) (pos 0) ≡ pos 0
unfolding bit_value
all_of_a_mask = refl

-- all bits of an empty mask are set, and none of it is
all_of_no_mask : bit_value TstBitMask U8 (pos 5) (pos 0) (pos 0) (pos 0) ≡ pos 1
unfolding bit_value
all_of_no_mask = refl

some_of_no_mask : bit_value TstBitLnMask U8 (pos 5) (pos 0) (pos 0) (pos 0) ≡ pos 0
unfolding bit_value
some_of_no_mask = refl

some_of_another_mask : bit_value TstBitLnMask U8 (pos 4) (pos 3) (pos 0) (pos 0) ≡ pos 0
unfolding bit_value
some_of_another_mask = refl

parity : bit_value TstParityEven U8 (pos 3) (pos 0) (pos 0) (pos 0) ≡ pos 1
unfolding bit_value
parity = refl

inverted : bit_value ToggleBits U8 (pos 5) (pos 0) (pos 0) (pos 0) ≡ pos 250
unfolding bit_value
inverted = refl

rotated_left : bit_value RotBitLt U8 (pos 129) (pos 1) (pos 0) (pos 0) ≡ pos 3
unfolding bit_value
rotated_left = refl

-- the count of a rotation is taken modulo the width
rotated_by_more_than_the_width : bit_value RotBitLt U8 (pos 129) (pos 9) (pos 0) (pos 0) ≡ pos 3
unfolding bit_value
rotated_by_more_than_the_width = refl

rotated_right : bit_value RotBitRt U8 (pos 129) (pos 9) (pos 0) (pos 0) ≡ pos 192
unfolding bit_value
rotated_right = refl

shifted_left : bit_value ShiftBitLt U8 (pos 129) (pos 1) (pos 0) (pos 0) ≡ pos 2
unfolding bit_value
shifted_left = refl

shifted_right : bit_value ShiftBitRt U8 (pos 129) (pos 7) (pos 0) (pos 0) ≡ pos 1
unfolding bit_value
shifted_right = refl

shifted_past_all : bit_value ShiftBitRt U8 (pos 129) (pos 255) (pos 0) (pos 0) ≡ pos 0
unfolding bit_value
shifted_past_all = refl

saturated_above : bit_value ShiftBitSat S8 (pos 100) (pos 1) (pos 0) (pos 0) ≡ pos 127
unfolding bit_value shifted_rounded rounded
saturated_above = refl

saturated_below : bit_value ShiftBitSat S8 (negsuc 99) (pos 1) (pos 0) (pos 0) ≡ negsuc 127
unfolding bit_value shifted_rounded rounded
saturated_below = refl

halved_downward : bit_value ShiftBitSat S8 (negsuc 4) (negsuc 0) (pos 0) (pos 0) ≡ negsuc 2
unfolding bit_value shifted_rounded rounded
halved_downward = refl

far_count : bit_value ShiftBitSat S8 (pos 1) (pos 127) (pos 0) (pos 0) ≡ pos 127
unfolding bit_value shifted_rounded rounded
far_count = refl
