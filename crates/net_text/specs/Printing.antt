-- The canonical text of a network: a line for each axis, each table, each wire and each output, with one space between words.
-- `lines_below` is for private functions' clauses alone.
use Rattle.std.specs.Prelude.{◌≡◌, ℕ, zero, suc, pos, List, [], ◌∷◌, ◌++◌, map, length, get_or, codes, Option, Some, None, Ok, ℤ}
use Rattle.std.specs.Fmt.{signed_decimal}
use Rattle.text_words.specs.Printed.{spaced, word_lines}
use Rattle.fx_routines.specs.Names.{type_word, routine_name}
use Rattle.net_model.specs.declared.wires.WireNo.{WireNo}
use Rattle.net_model.specs.declared.wires.Kind.{Kind}
use Rattle.net_model.specs.declared.wires.Kind.TheVariants.{Num, Truth, Position}
use Rattle.net_model.specs.declared.wires.Item.{Item}
use Rattle.net_model.specs.declared.wires.Item.TheVariants.{Input, Const, Delay, Block as OfBlock}
use Rattle.net_model.specs.declared.wires.Wire.{Wire}
use Rattle.net_model.specs.declared.signatures.ListSort.{ListSort}
use Rattle.net_model.specs.declared.signatures.ListSort.TheVariants.{AxisOf, TableOf, TableOver}
use Rattle.net_model.specs.declared.block_forms.Form.{Form}
use Rattle.net_model.specs.BlockForms.{form_in, signature_in}
use Rattle.net_model.specs.Wires.{NamedAxis, NamedTable, NetData, no_axis, no_table, wire_at}
use Rattle.net_model.specs.Validity.{IsValid}
use Rattle.net_text.specs.Text.{network_of}

-- a binary point behind a type: the point 0 isn't written
abbrev pub point_word : ℕ → List ℕ
point_word zero = []
point_word (suc point) = 46 ∷ signed_decimal (pos (suc point))

-- the name of an axis, and of a table
abbrev pub name_of_axis : List NamedAxis → ℕ → List ℕ
name_of_axis axes n = (get_or axes n no_axis).0

abbrev pub name_of_table : List NamedTable → ℕ → List ℕ
name_of_table tables n = (get_or tables n no_table).0

-- the type word of a kind
abbrev pub kind_word : List NamedAxis → Kind → List ℕ
kind_word axes (Num ty point) = type_word ty ++ point_word point
kind_word axes Truth = codes "bool"
kind_word axes (Position axis) = codes "dp:" ++ name_of_axis axes axis

-- the numbers that a form is given, or that an axis or a table has
abbrev pub number_words : List ℤ → List (List ℕ)
number_words numbers = map signed_decimal numbers

-- the words of an axis's line: its points, or its offset, its step and how many points it has
abbrev pub axis_words : NamedAxis → List (List ℕ)
axis_words a = by a.0 (type_word a.1.ty) a.1.points a.1.spacing where
  by : List ℕ → List ℕ → List ℤ → Option (ℤ × ℤ) → List (List ℕ)
  by name ty points None = codes "axis" ∷ name ∷ ty ∷ number_words points
  by name ty points (Some spacing) =
      codes "axisstep" ∷ name ∷ ty ∷ signed_decimal spacing.0 ∷ signed_decimal spacing.1 ∷ signed_decimal (pos (length points)) ∷ []

-- the words of a table's line
abbrev pub table_words : NamedTable → List (List ℕ)
table_words t = codes "table" ∷ t.0 ∷ type_word t.1.ty ∷ number_words t.1.values

-- the names of the wires that a form reads
abbrev pub argument_words : List Wire → List WireNo → List (List ℕ)
argument_words all wires = map (λ w. (wire_at all w.0).name) wires

-- the name of a list of a sort
abbrev pub list_word : NetData → ListSort → ℕ → List ℕ
list_word net (AxisOf ty) n = name_of_axis net.axes n
list_word net (TableOf ty) n = name_of_table net.tables n
list_word net (TableOver ty place) n = name_of_table net.tables n

-- the names of the lists that a form goes over, one for each sort
unfoldable pub list_words : NetData → List ListSort → List ℕ → List (List ℕ)
list_words net [] lists = []
list_words net (sort ∷ sorts) [] = []
list_words net (sort ∷ sorts) (n ∷ lists) = list_word net sort n ∷ list_words net sorts lists

-- what stands behind the name of a form's routine
abbrev pub given_words : NetData → Form → List (List ℕ)
given_words net form =
    argument_words net.wires form.wires ++ (list_words net (signature_in form).lists form.lists ++ number_words form.numbers)

-- a form, from its routine's name on
abbrev pub form_words : NetData → Form → List (List ℕ)
form_words net form = routine_name form.routine form.types ∷ given_words net form

-- the words of a wire's line
abbrev pub wire_words : NetData → Wire → List (List ℕ)
wire_words net w = item_words net w.name (kind_word net.axes w.kind) w.item where
  item_words : NetData → List ℕ → List ℕ → Item → List (List ℕ)
  item_words net name kind (Input lo hi) = codes "in" ∷ name ∷ kind ∷ signed_decimal lo ∷ signed_decimal hi ∷ []
  item_words net name kind (Const value) = codes "const" ∷ name ∷ kind ∷ signed_decimal value ∷ []
  item_words net name kind (Delay init source) =
      codes "delay" ∷ name ∷ kind ∷ signed_decimal init ∷ codes "=" ∷ (wire_at net.wires source.0).name ∷ []
  item_words net name kind (OfBlock b) = codes "wire" ∷ name ∷ kind ∷ codes "=" ∷ form_words net (form_in net b)

-- the words of an output's line
abbrev pub out_words : List Wire → WireNo → List (List ℕ)
out_words wires o = codes "out" ∷ (wire_at wires o.0).name ∷ []

-- the words of all lines, in their order
abbrev pub words_printed : NetData → List (List (List ℕ))
words_printed net =
    (codes "net" ∷ codes "1" ∷ []) ∷ (map axis_words net.axes ++ (map table_words net.tables ++ (map (wire_words net) net.wires ++ map (out_words net.wires) net.outs)))

-- lines of words below another line, each behind the line feed that ends the line above
abbrev pub lines_below : List (List (List ℕ)) → List ℕ
lines_below [] = []
lines_below (words ∷ lines) = 10 ∷ spaced words ++ lines_below lines

-- the canonical text of a network
unfoldable pub text_of : NetData → List ℕ
text_of net = word_lines (words_printed net)

-- each valid network is read again from its canonical text
abbrev pub PrintedNetworksAreRead : Type 0
PrintedNetworksAreRead = (net : NetData) → IsValid net → network_of (text_of net) ≡ Ok net
