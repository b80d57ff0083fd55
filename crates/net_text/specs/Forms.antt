-- The lines of a network's text, one definition for each form. The order of its lines is the order in which a
-- line is tested; the first test that fails says what is wrong. `HasPlace`, `IsShortKind`, `IsNarrow` and `GivesLine` are for
-- private functions' clauses alone.
use Rattle.std.specs.Prelude.{◌≡◌, ℕ, zero, suc, ◌+◌, ◌-◌, ◌^◌, ◌<◌, ◌≤◌, Bool, true, false, not, ◌&&◌, ◌||◌, ◌==◌, nat_le, nat_lt, List, [], ◌∷◌, map, length, drop, ℤ, pos, ◌+ℤ◌, ◌-ℤ◌, ◌*ℤ◌, int_le, unsigned_abs, codes, bytes_eq, Option, Some, None, option_map, ok_or, is_some, Result, Ok, Err, if◌then◌else◌}
use Rattle.std.specs.List.{list_all}
use Rattle.text_words.specs.Lines.{nth}
use Rattle.text_words.specs.Names.{is_name}
use Rattle.text_words.specs.Numbers.{number_of}
use Rattle.text_words.specs.Steps.{◌>>=◌, demand}
use Rattle.fx_core.specs.declared.word_type.Ty.{Ty}
use Rattle.fx_core.specs.declared.word_type.Ty.TheVariants.{U8, S8, U16, S16}
use Rattle.fx_core.specs.Types.{holds, width_of}
use Rattle.fx_routines.specs.declared.operation.Types.{Types}
use Rattle.fx_routines.specs.declared.table.Routine.{Routine}
use Rattle.ifx_search.specs.Axes.{AxisData, listed_axis, stepped_axis}
use Rattle.ifx_curves.specs.Tables.{TableData}
use Rattle.net_model.specs.declared.network.NetKind.{NetKind}
use Rattle.net_model.specs.declared.network.NetKind.TheVariants.{BadLine, BadName, Repeated, BadType, NotBuilt, BadCount, UnknownName, LaterWire, TypeDiffers, BadNumber, OutOfRange, TooMany}
use Rattle.net_model.specs.declared.wires.WireNo.{WireNo}
use Rattle.net_model.specs.declared.wires.Kind.{Kind}
use Rattle.net_model.specs.declared.wires.Kind.TheVariants.{Num, Truth, Position}
use Rattle.net_model.specs.declared.wires.Item.{Item}
use Rattle.net_model.specs.declared.wires.Item.TheVariants.{Input, Const, Delay, Block as OfBlock}
use Rattle.net_model.specs.declared.wires.Wire.{Wire}
use Rattle.net_model.specs.declared.signatures.Sort.{Sort}
use Rattle.net_model.specs.declared.signatures.ListSort.{ListSort}
use Rattle.net_model.specs.declared.signatures.ListSort.TheVariants.{AxisOf, TableOf, TableOver}
use Rattle.net_model.specs.declared.signatures.Range.{Range}
use Rattle.net_model.specs.declared.signatures.Signature.{Signature}
use Rattle.net_model.specs.declared.block_forms.Form.{Form}
use Rattle.net_text.specs.declared.keyword.Keyword.{Keyword}
use Rattle.net_text.specs.declared.keyword.Keyword.TheVariants.{InLine, ConstLine, AxisLine, AxisStepLine, AxisShiftLine, TableLine, MapLine, WireLine, DelayLine}
use Rattle.net_text.specs.declared.line_forms.WireContent.{WireContent}
use Rattle.net_text.specs.declared.line_forms.Given.{Given}
use Rattle.net_text.specs.declared.content.Content.{Content}
use Rattle.net_text.specs.declared.content.Content.TheVariants.{OfWire, OfAxis, OfTable}
use Rattle.net_text.specs.declared.list_forms.LineFault.{LineFault}
use Rattle.net_text.specs.declared.list_forms.LineFault.TheVariants.{OfKind, OutOfMemory}
use Rattle.net_model.specs.Wires.{NamedAxis, NetData, axis_at, last_position, place_of}
use Rattle.net_model.specs.Families.{between, signature_of, block_of}
use Rattle.net_model.specs.BlockForms.{in_range as is_in_range}
use Rattle.net_model.specs.Validity.{item_in_range, form_agrees, is_among, most_lists, most_wires}
use Rattle.net_model.specs.Faults.{has_room}
use Rattle.net_text.specs.Names.{keyword_of, is_defined, number_named, axis_place, table_place}
use Rattle.net_text.specs.TypeWords.{kind_of, ty_of, axis_name, is_position}
use Rattle.net_text.specs.RoutineWords.{routine_at}

-- ---- names

-- a wire so far has the name
abbrev pub is_wire : List Wire → List ℕ → Bool
is_wire wires name = is_some (place_of wires name)

-- an axis, and a table so far has it
abbrev pub is_axis : NetData → List ℕ → Bool
is_axis net name = is_some (axis_place net.axes name)

abbrev pub is_table : NetData → List ℕ → Bool
is_table net name = is_some (table_place net.tables name)

-- a line above defines the name
abbrev pub is_above : NetData → List ℕ → Bool
is_above net name = is_wire net.wires name || is_axis net name || is_table net name

-- a name that is used is defined above, or some line defines it
unfoldable pub is_known : List (List ℕ) → NetData → List ℕ → Bool
is_known lines net name = is_above net name || is_defined lines name

-- the number of a wire that is used: a name that is defined above may be that of an axis or a table
abbrev pub wire_above : List Wire → List ℕ → Result ℕ NetKind
wire_above wires name = ok_or (place_of wires name) TypeDiffers

-- a name that no line above defines
unfoldable pub fresh : NetData → List ℕ → Result (Unit {0}) NetKind
fresh net name = do
  _ ← demand (is_name name) BadName
  demand (not (is_above net name)) Repeated

-- ---- numbers

-- the number that a word writes
abbrev pub number_at : List ℕ → Result ℤ NetKind
number_at word = ok_or (number_of word) BadNumber

-- an item whose numbers lie in their ranges
abbrev pub in_range : List NamedAxis → Kind → Item → Result Item NetKind
in_range axes kind item = do
  _ ← demand (item_in_range axes kind item) OutOfRange
  Ok item

-- an input with the declared range that two words write
unfoldable pub input_of : List NamedAxis → Kind → List ℕ → List ℕ → Result Item NetKind
input_of axes kind low high = do
  lo ← number_at low
  hi ← number_at high
  in_range axes kind (Input lo hi)

-- a constant with the value that a word writes
unfoldable pub const_of : List NamedAxis → Kind → List ℕ → Result Item NetKind
const_of axes kind word = do
  value ← number_at word
  in_range axes kind (Const value)

-- the positions of a kind fit 32 bits
abbrev pub IsShortKind : List NamedAxis → Kind → Type 0
IsShortKind axes (Num ty point) = Unit {0}
IsShortKind axes Truth = Unit {0}
IsShortKind axes (Position axis) = last_position (axis_at axes axis) < 2 ^ 32

-- ---- types

-- a number type or `bool`
abbrev pub kind_at : List ℕ → Result Kind NetKind
kind_at word = ok_or (kind_of word) BadType

-- a type word of any sort
abbrev pub is_type : List ℕ → Bool
is_type word = is_some (kind_of word) || is_position word

-- the type of an axis, a table or a map: one of at most 16 bits, without a point
abbrev pub narrow_of : Option Ty → Option Ty
narrow_of (Some U8) = Some U8
narrow_of (Some S8) = Some S8
narrow_of (Some U16) = Some U16
narrow_of (Some S16) = Some S16
narrow_of other = None

-- what is narrow has at most 16 bits
abbrev pub IsNarrow : Ty → Type 0
IsNarrow ty = width_of ty ≤ 16

-- the kind that a type word names: a position is that on an axis above
unfoldable pub kind_named : NetData → List ℕ → Option Kind
kind_named net word =
    if is_position word then option_map (λ n. Position n) (axis_place net.axes (axis_name word)) else kind_of word

-- the kind of a wire that a form gives, where they agree with the wires and the lists that it reads
abbrev pub agreeing : NetData → Form → Kind → Result Kind NetKind
agreeing net form kind = do
  _ ← demand (form_agrees net kind form) TypeDiffers
  Ok kind

unfoldable pub agreed : NetData → Form → List ℕ → Result Kind NetKind
agreed net form word = do
  kind ← ok_or (kind_named net word) TypeDiffers
  agreeing net form kind

-- ---- room

-- there is room for one more wire
abbrev pub has_place : List Wire → Result (Unit {0}) NetKind
has_place wires = demand (nat_lt (length wires) most_wires) TooMany

-- what a block's line gives its wire, where there is room for the wire and for the rows of its average
abbrev pub with_room : List Wire → Kind → Item → Result WireContent NetKind
with_room wires kind item = do
  _ ← demand (has_room wires item) TooMany
  Ok (record { kind = kind; item = item })

-- what is given has its room
abbrev pub HasPlace : NetData → Content → Type 0
HasPlace net (OfWire content) = length net.wires < 512
HasPlace net (OfAxis axis) = length net.axes < 64
HasPlace net (OfTable table) = length net.tables < 64

-- what is wanted of a line is given, unless memory runs out
abbrev pub GivesLine : {A : Type 0} → Result A NetKind → Result A LineFault → Type 0
GivesLine wanted (Ok value) = wanted ≡ Ok value
GivesLine wanted (Err (OfKind kind)) = wanted ≡ Err kind
GivesLine wanted (Err OutOfMemory) = Unit {0}

-- ---- the forms of wires

-- `in NAME TYPE LO HI`
unfoldable pub in_line : NetData → List (List ℕ) → Result WireContent NetKind
in_line net words = do
  _ ← demand (length words == 5) BadLine
  _ ← fresh net (nth words 1)
  kind ← kind_at (nth words 2)
  item ← input_of net.axes kind (nth words 3) (nth words 4)
  _ ← has_place net.wires
  Ok (record { kind = kind; item = item })

-- `const NAME TYPE VALUE`
unfoldable pub const_line : NetData → List (List ℕ) → Result WireContent NetKind
const_line net words = do
  _ ← demand (length words == 4) BadLine
  _ ← fresh net (nth words 1)
  kind ← kind_at (nth words 2)
  item ← const_of net.axes kind (nth words 3)
  _ ← has_place net.wires
  Ok (record { kind = kind; item = item })

-- so many words from number k on pass the test
unfoldable pub all_pass : (List ℕ → Bool) → ℕ → ℕ → List (List ℕ) → Bool
all_pass test zero k words = true
all_pass test (suc count) k words = test (nth words k) && all_pass test count (k + 1) words

-- the wire that a word names
unfoldable pub wire_named : List Wire → List ℕ → Result WireNo NetKind
wire_named wires name = do
  place ← wire_above wires name
  Ok (record { 0 = place })

-- the wires that the words from number k on name, one for each sort
unfoldable pub wires_named : List Wire → List Sort → ℕ → List (List ℕ) → Result (List WireNo) NetKind
wires_named wires [] k words = Ok []
wires_named wires (sort ∷ sorts) k words = do
  w ← wire_named wires (nth words k)
  rest ← wires_named wires sorts (k + 1) words
  Ok (w ∷ rest)

-- the axis or the table that a word names
unfoldable pub list_named : NetData → ListSort → List ℕ → Result ℕ NetKind
list_named net (AxisOf ty) name = ok_or (axis_place net.axes name) TypeDiffers
list_named net (TableOf ty) name = ok_or (table_place net.tables name) TypeDiffers
list_named net (TableOver ty place) name = ok_or (table_place net.tables name) TypeDiffers

-- the axes and tables that the words from number k on name, one for each sort
unfoldable pub lists_named : NetData → List ListSort → ℕ → List (List ℕ) → Result (List ℕ) NetKind
lists_named net [] k words = Ok []
lists_named net (sort ∷ sorts) k words = do
  n ← list_named net sort (nth words k)
  rest ← lists_named net sorts (k + 1) words
  Ok (n ∷ rest)

-- the words from number k on, one for each range, are numbers
unfoldable pub are_numbers : List Range → ℕ → List (List ℕ) → Bool
are_numbers [] k words = true
are_numbers (range ∷ ranges) k words = is_some (number_of (nth words k)) && are_numbers ranges (k + 1) words

-- the number of a range that a word writes
unfoldable pub number_in : Range → List ℕ → Result ℤ NetKind
number_in range word = do
  number ← number_at word
  _ ← demand (is_in_range range number) OutOfRange
  Ok number

-- the numbers that the words from number k on write, one for each range
unfoldable pub numbers_in : List Range → ℕ → List (List ℕ) → Result (List ℤ) NetKind
numbers_in [] k words = Ok []
numbers_in (range ∷ ranges) k words = do
  number ← number_in range (nth words k)
  rest ← numbers_in ranges (k + 1) words
  Ok (number ∷ rest)

-- the axis that a type word names, if it names one, passes the test
abbrev pub axis_passes : (List ℕ → Bool) → List ℕ → Bool
axis_passes test word = not (is_position word) || test (axis_name word)

-- how many names stand behind a routine of this signature: those of wires, and then those of axes and tables
abbrev pub names_in : Signature → ℕ
names_in signature = length signature.sorts + length signature.lists

-- what a line gives of a routine of this signature: names, and then numbers stand behind `wire NAME TYPE = ROUTINE`
unfoldable pub given_line : List (List ℕ) → NetData → Routine → Types → Signature → List (List ℕ) → Result Given NetKind
given_line lines net routine types signature words = do
  _ ← demand (length words == 5 + names_in signature + length signature.ranges) BadCount
  _ ← demand (axis_passes (is_known lines net) (nth words 2) && all_pass (is_known lines net) (names_in signature) 5 words) UnknownName
  _ ← demand (axis_passes (is_above net) (nth words 2) && all_pass (is_above net) (names_in signature) 5 words) LaterWire
  wires ← wires_named net.wires signature.sorts 5 words
  lists ← lists_named net signature.lists (5 + length signature.sorts) words
  kind ← agreed net (record { routine = routine; types = types; wires = wires; lists = lists; numbers = [] }) (nth words 2)
  _ ← demand (are_numbers signature.ranges (5 + names_in signature) words) BadNumber
  numbers ← numbers_in signature.ranges (5 + names_in signature) words
  Ok (record { kind = kind; form = record { routine = routine; types = types; wires = wires; lists = lists; numbers = numbers } })

-- `wire NAME TYPE = ROUTINE ARG ..`
unfoldable pub wire_line : List (List ℕ) → NetData → List (List ℕ) → Result WireContent NetKind
wire_line lines net words = do
  _ ← demand (nat_le 6 (length words) && bytes_eq (nth words 3) (codes "=")) BadLine
  _ ← fresh net (nth words 1)
  _ ← demand (is_type (nth words 2)) BadType
  found ← routine_at (nth words 4)
  given ← given_line lines net found.0 found.1 (signature_of found.0 found.1) words
  with_room net.wires given.kind (OfBlock (block_of given.form))

-- the number of a wire's name, and one that no wire has where no line of a wire defines the name
abbrev pub number_or_none : Option ℕ → ℕ
number_or_none (Some number) = number
number_or_none None = 2 ^ 32 - 1

-- the source of a delay: any wire of the text, by the number of its name; one that is no wire is refused behind all lines
unfoldable pub source_named : List (List ℕ) → List ℕ → WireNo
source_named lines name = record { 0 = number_or_none (number_named lines name) }

-- a delay with the first value that a word writes
unfoldable pub delay_of : List NamedAxis → Kind → List ℕ → WireNo → Result Item NetKind
delay_of axes kind word source = do
  init ← number_at word
  in_range axes kind (Delay init source)

-- `delay NAME TYPE INIT = SOURCE`
unfoldable pub delay_line : List (List ℕ) → NetData → List (List ℕ) → Result WireContent NetKind
delay_line lines net words = do
  _ ← demand ((length words == 6) && bytes_eq (nth words 4) (codes "=")) BadLine
  _ ← fresh net (nth words 1)
  _ ← demand (is_type (nth words 2)) BadType
  _ ← demand (axis_passes (is_known lines net) (nth words 2) && is_known lines net (nth words 5)) UnknownName
  _ ← demand (axis_passes (is_above net) (nth words 2)) LaterWire
  kind ← ok_or (kind_named net (nth words 2)) TypeDiffers
  item ← delay_of net.axes kind (nth words 3) (source_named lines (nth words 5))
  _ ← has_place net.wires
  Ok (record { kind = kind; item = item })

-- ---- the forms of axes and tables

-- the number that a word writes, and 0 where it writes none
abbrev pub number_written : List ℕ → ℤ
number_written word = number_or_zero (number_of word) where
  number_or_zero : Option ℤ → ℤ
  number_or_zero (Some number) = number
  number_or_zero None = pos 0

-- the numbers that words write
abbrev pub numbers_written : List (List ℕ) → List ℤ
numbers_written words = map number_written words

-- the front of a line of this form whose words behind the type are numbers: its type
unfoldable pub list_front : Bool → NetData → List (List ℕ) → Result Ty NetKind
list_front has_form net words = do
  _ ← demand has_form BadLine
  _ ← fresh net (nth words 1)
  ty ← ok_or (narrow_of (ty_of (nth words 2))) BadType
  _ ← demand (list_all (λ word. is_some (number_of word)) (drop 3 words)) BadNumber
  Ok ty

-- two or more numbers of a type
abbrev pub are_values : Ty → List ℤ → Bool
are_values ty numbers = nat_le 2 (length numbers) && list_all (λ number. holds ty number) numbers

-- each number is above the one before
abbrev pub rises : List ℤ → Bool
rises [] = true
rises (p ∷ []) = true
rises (p ∷ q ∷ numbers) = not (int_le q p) && rises (q ∷ numbers)

-- there is room for one more list of so many numbers, where so many are there
abbrev pub list_room : ℕ → ℕ → Bool
list_room above count = nat_le count 4096 && nat_lt above most_lists

-- the axis of these points, where so many axes stand above
unfoldable pub points_given : ℕ → Ty → List ℤ → Result AxisData NetKind
points_given above ty points = do
  _ ← demand (are_values ty points && rises points) OutOfRange
  _ ← demand (list_room above (length points)) TooMany
  Ok (listed_axis ty points)

-- `axis NAME TYPE P P ..`
unfoldable pub axis_line : NetData → List (List ℕ) → Result AxisData NetKind
axis_line net words = do
  ty ← list_front (nat_le 4 (length words)) net words
  points_given (length net.axes) ty (numbers_written (drop 3 words))

-- the table of these values, where so many tables stand above
unfoldable pub values_given : ℕ → Ty → List ℤ → Result TableData NetKind
values_given above ty values = do
  _ ← demand (are_values ty values) OutOfRange
  _ ← demand (list_room above (length values)) TooMany
  Ok (record { ty = ty; values = values })

-- `table NAME TYPE V V ..`
unfoldable pub table_line : NetData → List (List ℕ) → Result TableData NetKind
table_line net words = do
  ty ← list_front (nat_le 4 (length words)) net words
  values_given (length net.tables) ty (numbers_written (drop 3 words))

-- a step and a count of equal steps: where the first and the last of two points or more lie in a type of 16 bits and rise,
-- they are not greater
abbrev pub steps : Range
steps = between (pos 1) 65535

abbrev pub counts : Range
counts = between (pos 2) 65536

-- two points or more in equal steps that rise, of which the first and the last lie in the type, and so all
abbrev pub are_steps : Ty → ℤ → ℤ → ℤ → Bool
are_steps ty offset step count =
    is_in_range steps step && is_in_range counts count && holds ty offset && holds ty (offset +ℤ (count -ℤ pos 1) *ℤ step)

-- the axis of a count of points in equal steps, where so many axes stand above
unfoldable pub steps_given : ℕ → Ty → ℤ → ℤ → ℤ → Result AxisData NetKind
steps_given above ty offset step count = do
  _ ← demand (are_steps ty offset step count) OutOfRange
  _ ← demand (list_room above (unsigned_abs count)) TooMany
  Ok (stepped_axis ty offset step (unsigned_abs count))

-- `axisstep NAME TYPE OFFSET STEP COUNT`
unfoldable pub axisstep_line : NetData → List (List ℕ) → Result AxisData NetKind
axisstep_line net words = do
  ty ← list_front (length words == 6) net words
  steps_given (length net.axes) ty (number_written (nth words 3)) (number_written (nth words 4)) (number_written (nth words 5))

-- how many places a step is shifted by
abbrev pub shifts : Range
shifts = between (pos 0) 15

-- the axis of a count of points in steps of a power of two, where so many axes stand above
unfoldable pub shift_given : ℕ → Ty → ℤ → ℤ → ℤ → Result AxisData NetKind
shift_given above ty offset shift count = do
  _ ← demand (is_in_range shifts shift) OutOfRange
  steps_given above ty offset (pos (2 ^ unsigned_abs shift)) count

-- `axisshift NAME TYPE OFFSET SHIFT COUNT`
unfoldable pub axisshift_line : NetData → List (List ℕ) → Result AxisData NetKind
axisshift_line net words = do
  ty ← list_front (length words == 6) net words
  shift_given (length net.axes) ty (number_written (nth words 3)) (number_written (nth words 4)) (number_written (nth words 5))

-- `map NAME TYPE NX NY V V ..`, which isn't built: its count of words, its name and its type are tested first
unfoldable pub map_line : NetData → List (List ℕ) → Result Content NetKind
map_line net words = do
  _ ← demand (nat_le 5 (length words)) BadLine
  _ ← fresh net (nth words 1)
  _ ← demand (is_some (narrow_of (ty_of (nth words 2)))) BadType
  Err NotBuilt

-- ---- outputs

-- an output is among those so far
abbrev pub is_output : List WireNo → Option ℕ → Bool
is_output outs (Some place) = is_among outs (record { 0 = place })
is_output outs None = false

-- `out NAME`
unfoldable pub out_line : List (List ℕ) → NetData → List (List ℕ) → Result WireNo NetKind
out_line lines net words = do
  _ ← demand (length words == 2) BadLine
  _ ← demand (is_name (nth words 1)) BadName
  _ ← demand (not (is_output net.outs (place_of net.wires (nth words 1)))) Repeated
  _ ← demand (is_known lines net (nth words 1)) UnknownName
  _ ← demand (is_above net (nth words 1)) LaterWire
  wire_named net.wires (nth words 1)

-- ---- any line that defines a name

-- what a wire's line gives, what an axis's line gives, and what a table's line gives
abbrev pub as_wire : Result WireContent NetKind → Result Content NetKind
as_wire (Ok content) = Ok (OfWire content)
as_wire (Err kind) = Err kind

abbrev pub as_axis : Result AxisData NetKind → Result Content NetKind
as_axis (Ok axis) = Ok (OfAxis axis)
as_axis (Err kind) = Err kind

abbrev pub as_table : Result TableData NetKind → Result Content NetKind
as_table (Ok table) = Ok (OfTable table)
as_table (Err kind) = Err kind

-- the line of a keyword
unfoldable pub line_of : Keyword → List (List ℕ) → NetData → List (List ℕ) → Result Content NetKind
line_of InLine lines net words = as_wire (in_line net words)
line_of ConstLine lines net words = as_wire (const_line net words)
line_of AxisLine lines net words = as_axis (axis_line net words)
line_of AxisStepLine lines net words = as_axis (axisstep_line net words)
line_of AxisShiftLine lines net words = as_axis (axisshift_line net words)
line_of TableLine lines net words = as_table (table_line net words)
line_of MapLine lines net words = map_line net words
line_of WireLine lines net words = as_wire (wire_line lines net words)
line_of DelayLine lines net words = as_wire (delay_line lines net words)

-- what a line gives that defines a name
unfoldable pub defining_line : List (List ℕ) → NetData → List (List ℕ) → Result Content NetKind
defining_line lines net words = do
  keyword ← ok_or (keyword_of (nth words 0)) BadLine
  line_of keyword lines net words
