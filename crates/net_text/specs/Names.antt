-- The names that a text's lines define, in the order of the lines, and what stands above a line. `SoFar`, `AreFirst` and
-- `AreFew` are for private functions' clauses alone.
use Rattle.std.specs.Prelude.{◌≡◌, ℕ, ◌+◌, ◌≤◌, Bool, true, false, ◌&&◌, List, [], ◌∷◌, ◌++◌, length, take, codes, bytes_eq, Option, Some, None, is_some, position, if◌then◌else◌}
use Rattle.std.specs.List.{list_any}
use Rattle.text_words.specs.Lines.{nth, words_of}
use Rattle.net_model.specs.declared.wires.Wire.{Wire}
use Rattle.net_model.specs.Wires.{NamedAxis, NamedTable, NetData}
use Rattle.net_model.specs.Validity.{wire_names}
use Rattle.net_text.specs.declared.keyword.Keyword.{Keyword}
use Rattle.net_text.specs.declared.keyword.Keyword.TheVariants.{InLine, ConstLine, AxisLine, AxisStepLine, AxisShiftLine, TableLine, MapLine, WireLine, DelayLine}
use Rattle.net_text.specs.declared.keyword.Defined.{Defined}
use Rattle.net_text.specs.declared.keyword.Defined.TheVariants.{Wires, Lists}

-- ---- the lines that define a name

-- the keyword of a line that defines a name
unfoldable pub keyword_of : List ℕ → Option Keyword
keyword_of word =
    if bytes_eq word (codes "in") then Some InLine
    else (if bytes_eq word (codes "const") then Some ConstLine
    else (if bytes_eq word (codes "axis") then Some AxisLine
    else (if bytes_eq word (codes "axisstep") then Some AxisStepLine
    else (if bytes_eq word (codes "axisshift") then Some AxisShiftLine
    else (if bytes_eq word (codes "table") then Some TableLine
    else (if bytes_eq word (codes "map") then Some MapLine
    else (if bytes_eq word (codes "wire") then Some WireLine
    else (if bytes_eq word (codes "delay") then Some DelayLine
    else None))))))))

-- the first words of the lines that define a name
abbrev pub is_defining : List ℕ → Bool
is_defining word = is_some (keyword_of word)

-- a line of such a word defines its second word, whatever else the line says
abbrev pub defines : List ℕ → List (List ℕ) → Bool
defines name words = is_defining (nth words 0) && bytes_eq (nth words 1) name

-- some line of the text defines the name
unfoldable pub is_defined : List (List ℕ) → List ℕ → Bool
is_defined lines name = list_any (λ line. defines name (words_of line)) lines

-- ---- their names

-- the keyword of a line that defines a wire, and of one that defines an axis, a table or a map
abbrev pub is_of_wire : Keyword → Bool
is_of_wire InLine = true
is_of_wire ConstLine = true
is_of_wire WireLine = true
is_of_wire DelayLine = true
is_of_wire other = false

abbrev pub is_of_list : Keyword → Bool
is_of_list InLine = false
is_of_list ConstLine = false
is_of_list WireLine = false
is_of_list DelayLine = false
is_of_list other = true

-- the keyword of a line that defines a name of this sort, if there is a keyword
abbrev pub is_keyword : Defined → Option Keyword → Bool
is_keyword sort None = false
is_keyword Wires (Some keyword) = is_of_wire keyword
is_keyword Lists (Some keyword) = is_of_list keyword

-- the first words of the lines that define such a name
abbrev pub begins : Defined → List ℕ → Bool
begins sort word = is_keyword sort (keyword_of word)

-- the names, with one more behind them where it isn't among them
abbrev pub with_name : List (List ℕ) → List ℕ → List (List ℕ)
with_name names name = if list_any (bytes_eq name) names then names else names ++ name ∷ []

-- the names, with the one that a line of these words defines, if it defines one of this sort
abbrev pub with_defined : Defined → List (List ℕ) → List (List ℕ) → List (List ℕ)
with_defined sort names words = if begins sort (nth words 0) then with_name names (nth words 1) else names

-- the names, with those of this sort that the lines define
unfoldable pub names_below : Defined → List (List ℕ) → List (List ℕ) → List (List ℕ)
names_below sort names [] = names
names_below sort names (line ∷ rest) = names_below sort (with_defined sort names (words_of line)) rest

-- the names of this sort that the lines define, each once
abbrev pub names_of : Defined → List (List ℕ) → List (List ℕ)
names_of sort lines = names_below sort [] lines

-- the number of a wire's name, from 0: its place among the names of wires that the lines define
abbrev pub number_named : List (List ℕ) → List ℕ → Option ℕ
number_named lines name = position (bytes_eq name) (names_of Wires lines)

-- the number of the first line, from 1, that defines the name; of the last line where none does
unfoldable pub line_naming : List (List ℕ) → List ℕ → ℕ
line_naming [] name = 0
line_naming (line ∷ rest) name = if defines name (words_of line) then 1 else line_naming rest name + 1

-- ---- what stands above a line

-- what is read so far of a text: its lines, read or not, and the network of the lines that were read
pub record SoFar : Type 0 where
  pub lines : List (List ℕ)
  pub net : NetData

-- the wires are those of the first names
abbrev pub AreFirst : List Wire → List (List ℕ) → Type 0
AreFirst wires names = take (length wires) names ≡ wire_names wires

-- there are no more wires, axes and tables than a network may have
abbrev pub AreFew : NetData → Type 0
AreFew net = (length net.wires ≤ 512) × (length net.axes ≤ 64) × (length net.tables ≤ 64)

-- the number of the first axis of a name, and of the first table
unfoldable pub axis_place : List NamedAxis → List ℕ → Option ℕ
axis_place axes name = position (λ a. bytes_eq name a.0) axes

unfoldable pub table_place : List NamedTable → List ℕ → Option ℕ
table_place tables name = position (λ t. bytes_eq name t.0) tables
