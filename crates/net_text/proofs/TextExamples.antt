-- Texts, and what they say.
use Rattle.std.specs.Fmt.{digits}
use Rattle.std.proofs.Common.{◌≡◌, ℕ, List, [], ◌∷◌, ◌++◌, codes, refl, pos, negsuc, Some, None, Ok, Err}
use Rattle.text_words.specs.Lines.{lines_of, lines_from, words_of}
use Rattle.text_words.specs.Names.{is_name}
use Rattle.text_words.specs.Numbers.{number_of}
use Rattle.fx_core.specs.declared.word_type.Ty.TheVariants.{U8, S16, S32}
use Rattle.net_model.specs.declared.network.NetKind.{NetKind}
use Rattle.net_model.specs.declared.network.NetKind.TheVariants.{NoHead, BadLine, BadName, Repeated, BadType, UnknownRoutine, BadCount, UnknownName, LaterWire, TypeDiffers, BadNumber, OutOfRange, Missing, NotBuilt}
use Rattle.fx_routines.specs.declared.operation.ArithOp.TheVariants.{Add}
use Rattle.fx_routines.specs.declared.interpolation.CurveOp.TheVariants.{Ipo}
use Rattle.fx_routines.specs.Rows.{rows}
use Rattle.fx_routines.specs.Names.{row_of}
use Rattle.fx_routines.specs.Reading.{after, first_type, read_first, read_second, read_output, read_word, read_part, read_parts, row_named, named}
use Rattle.fx_routines.specs.declared.operation.ScaledOp.TheVariants.{Convert}
use Rattle.net_model.specs.declared.wires.Kind.TheVariants.{Num, Position}
use Rattle.net_model.specs.declared.wires.Block.TheVariants.{Arith, Scaled, Search, Curve}
use Rattle.net_model.specs.declared.wires.Item.TheVariants.{Input, Const, Delay, Block as OfBlock}
use Rattle.net_model.specs.BlockForms.{form_of}
use Rattle.net_model.specs.Families.{signature_of, block_of}
use Rattle.net_model.specs.Wires.{NetData, place_of}
use Rattle.net_text.specs.TypeWords.{point_of_word, number_kind_of, kind_of, is_position}
use Rattle.net_text.specs.RoutineWords.{routine_at}
use Rattle.ifx_search.specs.Axes.{stepped_points}
use Rattle.net_text.specs.Forms.{is_known, all_pass, wire_named, wires_named, list_named, lists_named, are_numbers, number_in, numbers_in, given_line, fresh, input_of, const_of, agreed, kind_named, in_line, const_line, wire_line, delay_of, delay_line, source_named, list_front, points_given, values_given, steps_given, shift_given, axis_line, table_line, axisstep_line, axisshift_line, map_line, line_of, out_line, defining_line}
use Rattle.net_text.specs.Names.{keyword_of, is_defined, names_below, line_naming, axis_place, table_place}
use Rattle.net_text.specs.Printing.{list_words, text_of}
use Rattle.net_text.specs.Text.{after_out, after_definition, after_line, tested_behind, network_of}
use Rattle.text_words.specs.Readers.{said_by, head_below, read_below, behind_line, behind_all}

-- the first fault of a text, by its line and its kind
abbrev HasFault : List ℕ → ℕ → NetKind → Type 0
HasFault text line kind = network_of text ≡ Err (record { line = line; kind = kind })

-- no bytes, comments, a head behind another line, and a head of another version
heads : HasFault [] 1 NoHead × HasFault (codes "# nothing\n\n") 1 NoHead × HasFault (codes "# a\n\nin x s16 0 4\nnet 1\n") 3 NoHead × HasFault (codes "net 01\n") 1 NoHead
unfolding network_of said_by head_below lines_of lines_from words_of
heads = (refl, refl, refl, refl)

-- the first line below `net 1` and an input
abbrev HasFaultBelow : List ℕ → NetKind → Type 0
HasFaultBelow line kind = HasFault (codes "net 1\nin x s16 0 4\n" ++ line) 3 kind

-- a second head, a bad name before its type, a name that comes again, and a type that the line doesn't take
names_and_types : HasFaultBelow (codes "net 1\n") BadLine × HasFaultBelow (codes "in 1 s17 0 4\n") BadName × HasFaultBelow (codes "const x s17 0\n") Repeated × HasFaultBelow (codes "in y dp:x 0 4\n") BadType
unfolding network_of said_by head_below lines_of lines_from words_of read_below behind_line behind_all after_line after_out after_definition keyword_of names_below defining_line line_of in_line const_line wire_line given_line delay_line delay_of source_named all_pass wire_named wires_named list_named lists_named are_numbers number_in numbers_in list_front points_given values_given steps_given shift_given axis_line table_line axisstep_line axisshift_line map_line kind_named axis_place table_place signature_of block_of out_line fresh place_of is_known is_defined agreed input_of const_of kind_of number_kind_of point_of_word is_position routine_at named rows row_of row_named read_parts read_part read_first read_second read_output read_word first_type after is_name number_of tested_behind line_naming stepped_points
names_and_types = (refl, refl, refl, refl)

-- an axis with a point in its type, a map, points that stay, one that is outside the type, too few points, and an axis in
-- steps whose last point is outside
lists : HasFaultBelow (codes "axis a s16.0 0\n") BadType × HasFaultBelow (codes "map a s16 2 2 0\n") NotBuilt × HasFaultBelow (codes "axis a s16 4 4\n") OutOfRange × HasFaultBelow (codes "axis a u8 4 256\n") OutOfRange × HasFaultBelow (codes "table a u8 4\n") OutOfRange × HasFaultBelow (codes "axisstep a u8 0 51 7\n") OutOfRange × HasFaultBelow (codes "axisshift a u8 0 16 2\n") OutOfRange × HasFaultBelow (codes "table a u8 4 y\n") BadNumber
unfolding network_of said_by head_below lines_of lines_from words_of read_below behind_line behind_all after_line after_out after_definition keyword_of names_below defining_line line_of in_line const_line wire_line given_line delay_line delay_of source_named all_pass wire_named wires_named list_named lists_named are_numbers number_in numbers_in list_front points_given values_given steps_given shift_given axis_line table_line axisstep_line axisshift_line map_line kind_named axis_place table_place signature_of block_of out_line fresh place_of is_known is_defined agreed input_of const_of kind_of number_kind_of point_of_word is_position routine_at named rows row_of row_named read_parts read_part read_first read_second read_output read_word first_type after is_name number_of tested_behind line_naming stepped_points
lists = (refl, refl, refl, refl, refl, refl, refl, refl)

-- an axis that stands below, a wire in an axis's place, and a table of another length
over_lists : HasFaultBelow (codes "wire p dp:a = Ifx_DPSearch_s16 x a\naxis a s16 0 9\n") LaterWire × HasFaultBelow (codes "wire p s16 = Ifx_DPSearch_s16 x x\n") TypeDiffers × HasFault (codes "net 1\nin x s16 0 4\naxis a s16 0 9\ntable t s16 1 2 3\nwire y s16 = Ifx_IntIpoCur_s16_s16 x a t\n") 5 TypeDiffers × HasFault (codes "net 1\nin x s16 0 4\naxis a s16 0 9\nout a\n") 4 TypeDiffers
unfolding network_of said_by head_below lines_of lines_from words_of read_below behind_line behind_all after_line after_out after_definition keyword_of names_below defining_line line_of in_line const_line wire_line given_line delay_line delay_of source_named all_pass wire_named wires_named list_named lists_named are_numbers number_in numbers_in list_front points_given values_given steps_given shift_given axis_line table_line axisstep_line axisshift_line map_line kind_named axis_place table_place signature_of block_of out_line fresh place_of is_known is_defined agreed input_of const_of kind_of number_kind_of point_of_word is_position routine_at named rows row_of row_named read_parts read_part read_first read_second read_output read_word first_type after is_name number_of tested_behind line_naming stepped_points
over_lists = (refl, refl, refl, refl)

-- a delay whose source no line defines, one of positions, and one whose first value is too great for its type
delays : HasFaultBelow (codes "delay y s16 0 = z\n") UnknownName × HasFaultBelow (codes "delay y dp:x 0 = x\n") TypeDiffers × HasFaultBelow (codes "delay y u8 256 = y\n") OutOfRange
unfolding network_of said_by head_below lines_of lines_from words_of read_below behind_line behind_all after_line after_out after_definition keyword_of names_below defining_line line_of in_line const_line wire_line given_line delay_line delay_of source_named all_pass wire_named wires_named list_named lists_named are_numbers number_in numbers_in list_front points_given values_given steps_given shift_given axis_line table_line axisstep_line axisshift_line map_line kind_named axis_place table_place signature_of block_of out_line fresh place_of is_known is_defined agreed input_of const_of kind_of number_kind_of point_of_word is_position routine_at named rows row_of row_named read_parts read_part read_first read_second read_output read_word first_type after is_name number_of tested_behind line_naming stepped_points
delays = (refl, refl, refl)

-- a source of another type is told at the line of its delay, and before what is missing
unsourced : HasFaultBelow (codes "delay y s32 0 = z\n\ndelay z s16 0 = x\n") TypeDiffers
unfolding network_of said_by head_below lines_of lines_from words_of read_below behind_line behind_all after_line after_out after_definition keyword_of names_below defining_line line_of in_line const_line wire_line given_line delay_line delay_of source_named all_pass wire_named wires_named list_named lists_named are_numbers number_in numbers_in list_front points_given values_given steps_given shift_given axis_line table_line axisstep_line axisshift_line map_line kind_named axis_place table_place signature_of block_of out_line fresh place_of is_known is_defined agreed input_of const_of kind_of number_kind_of point_of_word is_position routine_at named rows row_of row_named read_parts read_part read_first read_second read_output read_word first_type after is_name number_of tested_behind line_naming stepped_points
unsourced = refl

-- a routine that there isn't, one that isn't built, and too few arguments
routines : HasFaultBelow (codes "wire y s16 = Mfx_Add_s8s16_s16 x z\n") UnknownRoutine × HasFaultBelow (codes "wire y s16 = Mfx_Mod_s16s16_s16 x\n") NotBuilt × HasFaultBelow (codes "wire y s16 = Mfx_Add_s16s16_s16 z\n") BadCount
unfolding network_of said_by head_below lines_of lines_from words_of read_below behind_line behind_all after_line after_out after_definition keyword_of names_below defining_line line_of in_line const_line wire_line given_line delay_line delay_of source_named all_pass wire_named wires_named list_named lists_named are_numbers number_in numbers_in list_front points_given values_given steps_given shift_given axis_line table_line axisstep_line axisshift_line map_line kind_named axis_place table_place signature_of block_of out_line fresh place_of is_known is_defined agreed input_of const_of kind_of number_kind_of point_of_word is_position routine_at named rows row_of row_named read_parts read_part read_first read_second read_output read_word first_type after is_name number_of tested_behind line_naming stepped_points
routines = (refl, refl, refl)

-- an argument that no line defines, one that this line defines, one that a line below defines, one of another type,
-- and a type that no block gives
arguments : HasFaultBelow (codes "wire y s16 = Mfx_Add_s16s16_s16 x z\n") UnknownName × HasFaultBelow (codes "wire y s16 = Mfx_Add_s16s16_s16 x y\n") LaterWire × HasFaultBelow (codes "wire y s16 = Mfx_Add_s16s16_s16 z x\naxis z\n") LaterWire × HasFaultBelow (codes "wire y s16 = Mfx_Add_s8s8_s16 x x\n") TypeDiffers × HasFaultBelow (codes "wire y dp:x = Mfx_ConvertP2_s16_s16 x\n") TypeDiffers
unfolding network_of said_by head_below lines_of lines_from words_of read_below behind_line behind_all after_line after_out after_definition keyword_of names_below defining_line line_of in_line const_line wire_line given_line delay_line delay_of source_named all_pass wire_named wires_named list_named lists_named are_numbers number_in numbers_in list_front points_given values_given steps_given shift_given axis_line table_line axisstep_line axisshift_line map_line kind_named axis_place table_place signature_of block_of out_line fresh place_of is_known is_defined agreed input_of const_of kind_of number_kind_of point_of_word is_position routine_at named rows row_of row_named read_parts read_part read_first read_second read_output read_word first_type after is_name number_of tested_behind line_naming stepped_points
arguments = (refl, refl, refl, refl, refl)

-- a count of places that is no number, and one above 15; an empty range; and no output, told at the last line
numbers : HasFaultBelow (codes "wire y s16 = Mfx_MulShRight_s16s16u8_s16 x x x\n") BadNumber × HasFaultBelow (codes "wire y s16 = Mfx_MulShRight_s16s16u8_s16 x x 16\n") OutOfRange × HasFaultBelow (codes "in y s16 5 4\n") OutOfRange × HasFaultBelow (codes "\n") Missing
unfolding network_of said_by head_below lines_of lines_from words_of read_below behind_line behind_all after_line after_out after_definition keyword_of names_below defining_line line_of in_line const_line wire_line given_line delay_line delay_of source_named all_pass wire_named wires_named list_named lists_named are_numbers number_in numbers_in list_front points_given values_given steps_given shift_given axis_line table_line axisstep_line axisshift_line map_line kind_named axis_place table_place signature_of block_of out_line fresh place_of is_known is_defined agreed input_of const_of kind_of number_kind_of point_of_word is_position routine_at named rows row_of row_named read_parts read_part read_first read_second read_output read_word first_type after is_name number_of tested_behind line_naming stepped_points
numbers = (refl, refl, refl, refl)

-- a good one
abbrev summed : NetData
summed = record {
  axes = [];
  tables = [];
  wires =
      record { name = codes "x"; kind = Num S16 0; item = Input (pos 0) (pos 4) }
      ∷ record { name = codes "k"; kind = Num S16 7; item = Const (negsuc 2) }
      ∷ record { name = codes "y"; kind = Num S32 0; item = OfBlock (Arith Add (record { x = S16; y = S16; o = S32 }) (record { 0 = 0 }) (record { 0 = 1 }) (record { 0 = 0 }) 0) }
      ∷ record { name = codes "z"; kind = Num S16 12; item = OfBlock (Scaled Convert (record { x = S32; y = S32; o = S16 }) (record { 0 = 2 }) (record { 0 = 2 })) }
      ∷ [];
  outs = record { 0 = 3 } ∷ record { 0 = 2 } ∷ [];
}

good_text : network_of (codes "net 1 # a sum\n\nin x s16 0 4\nconst k s16.07 -3\nwire y s32 = Mfx_Add_s16s16_s32 x k\nwire z s16.12 = Mfx_ConvertP2_s32_s16 y\nout z\nout y\n") ≡ Ok summed
unfolding network_of said_by head_below lines_of lines_from words_of read_below behind_line behind_all after_line after_out after_definition keyword_of names_below defining_line line_of in_line const_line wire_line given_line delay_line delay_of source_named all_pass wire_named wires_named list_named lists_named are_numbers number_in numbers_in list_front points_given values_given steps_given shift_given axis_line table_line axisstep_line axisshift_line map_line kind_named axis_place table_place signature_of block_of out_line fresh place_of is_known is_defined agreed input_of const_of kind_of number_kind_of point_of_word is_position routine_at named rows row_of row_named read_parts read_part read_first read_second read_output read_word first_type after is_name number_of tested_behind line_naming stepped_points
good_text = refl

-- one with axes, a table, and a position
abbrev looked_up : NetData
looked_up = record {
  axes =
      (codes "a", record { ty = S16; points = negsuc 0 ∷ pos 7 ∷ pos 9 ∷ []; spacing = None })
      ∷ (codes "b", record { ty = U8; points = pos 0 ∷ pos 100 ∷ pos 200 ∷ []; spacing = Some (pos 0, pos 100) })
      ∷ [];
  tables = (codes "t", record { ty = U8; values = pos 5 ∷ pos 6 ∷ pos 0 ∷ [] }) ∷ [];
  wires =
      record { name = codes "x"; kind = Num S16 0; item = Input (pos 0) (pos 4) }
      ∷ record { name = codes "p"; kind = Position 0; item = OfBlock (Search S16 (record { 0 = 0 }) 0) }
      ∷ record { name = codes "y"; kind = Num U8 4; item = OfBlock (Curve Ipo (record { 0 = 1 }) 0) }
      ∷ [];
  outs = record { 0 = 2 } ∷ [];
}

abbrev look_up_text : List ℕ
look_up_text = codes "net 1\naxis a s16 -1 7 9\naxisstep b u8 0 100 3\ntable t u8 5 6 0\nin x s16 0 4\nwire p dp:a = Ifx_DPSearch_s16 x a\nwire y u8.4 = Ifx_IpoCur_u8 p t\nout y\n"

read_lists : network_of look_up_text ≡ Ok looked_up
unfolding network_of said_by head_below lines_of lines_from words_of read_below behind_line behind_all after_line after_out after_definition keyword_of names_below defining_line line_of in_line const_line wire_line given_line delay_line delay_of source_named all_pass wire_named wires_named list_named lists_named are_numbers number_in numbers_in list_front points_given values_given steps_given shift_given axis_line table_line axisstep_line axisshift_line map_line kind_named axis_place table_place signature_of block_of out_line fresh place_of is_known is_defined agreed input_of const_of kind_of number_kind_of point_of_word is_position routine_at named rows row_of row_named read_parts read_part read_first read_second read_output read_word first_type after is_name number_of tested_behind line_naming stepped_points
read_lists = refl

-- each is printed as it was read
printed_text : (text_of summed ≡ codes "net 1\nin x s16 0 4\nconst k s16.7 -3\nwire y s32 = Mfx_Add_s16s16_s32 x k\nwire z s16.12 = Mfx_ConvertP2_s32_s16 y\nout z\nout y\n") × (text_of looked_up ≡ look_up_text)
unfolding text_of list_words form_of signature_of row_of rows digits
printed_text = (refl, refl)

-- one with a delay on a later wire and one on itself
abbrev counted : NetData
counted = record {
  axes = [];
  tables = [];
  wires =
      record { name = codes "x"; kind = Num S16 0; item = Input (pos 0) (pos 4) }
      ∷ record { name = codes "y"; kind = Num S16 0; item = Delay (negsuc 0) (record { 0 = 2 }) }
      ∷ record { name = codes "z"; kind = Num S16 0; item = OfBlock (Arith Add (record { x = S16; y = S16; o = S16 }) (record { 0 = 0 }) (record { 0 = 1 }) (record { 0 = 0 }) 0) }
      ∷ record { name = codes "k"; kind = Num U8 2; item = Delay (pos 7) (record { 0 = 3 }) }
      ∷ [];
  outs = record { 0 = 2 } ∷ [];
}

delayed_text : network_of (codes "net 1\nin x s16 0 4\ndelay y s16 -1 = z\nwire z s16 = Mfx_Add_s16s16_s16 x y\ndelay k u8.2 7 = k\nout z\n") ≡ Ok counted
unfolding network_of said_by head_below lines_of lines_from words_of read_below behind_line behind_all after_line after_out after_definition keyword_of names_below defining_line line_of in_line const_line wire_line given_line delay_line delay_of source_named all_pass wire_named wires_named list_named lists_named are_numbers number_in numbers_in list_front points_given values_given steps_given shift_given axis_line table_line axisstep_line axisshift_line map_line kind_named axis_place table_place signature_of block_of out_line fresh place_of is_known is_defined agreed input_of const_of kind_of number_kind_of point_of_word is_position routine_at named rows row_of row_named read_parts read_part read_first read_second read_output read_word first_type after is_name number_of tested_behind line_naming stepped_points
delayed_text = refl
