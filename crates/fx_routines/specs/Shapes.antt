-- What stands behind the front of a routine's names, by its shape.
use Rattle.std.specs.Prelude.{List}
use Rattle.fx_routines.specs.declared.shape.Part.{Part}
use Rattle.fx_routines.specs.declared.shape.Shape.{Shape}
use Rattle.fx_routines.specs.declared.shape.Shape.TheVariants as shape
use Rattle.fx_routines.specs.declared.shape.TheConstants.{ONE_TYPE, ONE_INPUT, PAIR, PAIR_AND_THIRD, PAIR_AND_SHIFT, BITS, BITS_TO_BOOL, BITS_PLACE, BITS_PLACE_TO_BOOL, BITS_PLACE_BOOL, BITS_RANGE, BITS_RANGE_BOOL, BITS_RANGE_BITS, BITS_PLACE_TWICE, BITS_MASK, BITS_MASK_TO_BOOL, BITS_BITS_MASK, SIGNED_COUNT, NARROW, NARROW_INPUT, NARROW_INPUTS, INPUT_TO_BOOL, BOOL_TO_BOOL}

-- the parts of a shape, from the left
abbrev pub parts_in : Shape → List Part
parts_in shape.OneType = ONE_TYPE.now
parts_in shape.OneInput = ONE_INPUT.now
parts_in shape.Pair = PAIR.now
parts_in shape.PairAndThird = PAIR_AND_THIRD.now
parts_in shape.PairAndShift = PAIR_AND_SHIFT.now
parts_in shape.Bits = BITS.now
parts_in shape.BitsToBool = BITS_TO_BOOL.now
parts_in shape.BitsPlace = BITS_PLACE.now
parts_in shape.BitsPlaceToBool = BITS_PLACE_TO_BOOL.now
parts_in shape.BitsPlaceBool = BITS_PLACE_BOOL.now
parts_in shape.BitsRange = BITS_RANGE.now
parts_in shape.BitsRangeBool = BITS_RANGE_BOOL.now
parts_in shape.BitsRangeBits = BITS_RANGE_BITS.now
parts_in shape.BitsPlaceTwice = BITS_PLACE_TWICE.now
parts_in shape.BitsMask = BITS_MASK.now
parts_in shape.BitsMaskToBool = BITS_MASK_TO_BOOL.now
parts_in shape.BitsBitsMask = BITS_BITS_MASK.now
parts_in shape.SignedCount = SIGNED_COUNT.now
parts_in shape.Narrow = NARROW.now
parts_in shape.NarrowInput = NARROW_INPUT.now
parts_in shape.NarrowInputs = NARROW_INPUTS.now
parts_in shape.InputToBool = INPUT_TO_BOOL.now
parts_in shape.BoolToBool = BOOL_TO_BOOL.now
