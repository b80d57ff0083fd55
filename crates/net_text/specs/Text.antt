-- A network's text: the network that it says, or its first fault. How its lines are read is the crate of words'; so are
-- words, names and numbers. `GivesDraft` is for private functions' clauses alone.
use Rattle.std.specs.Prelude.{◌≡◌, List, length, ℕ, true, codes, Option, Some, None, bytes_eq, Result, Ok, Err, if◌then◌else◌}
use Rattle.text_words.specs.Lines.{lines_of, nth}
use Rattle.text_words.specs.Steps.{◌>>=◌, demand}
use Rattle.text_words.specs.Readers.{Reader, said_by}
use Rattle.net_model.specs.declared.network.NetKind.{NetKind}
use Rattle.net_model.specs.declared.network.NetKind.TheVariants.{NoHead, TypeDiffers, Missing}
use Rattle.net_model.specs.declared.network.Draft.{Draft}
use Rattle.net_model.specs.declared.wires.Wire.{Wire}
use Rattle.net_text.specs.declared.content.Content.{Content}
use Rattle.net_text.specs.declared.content.Content.TheVariants.{OfWire, OfAxis, OfTable}
use Rattle.net_text.specs.declared.reader.NetFault.{NetFault}
use Rattle.net_text.specs.declared.reader.NetError.{NetError}
use Rattle.net_text.specs.declared.reader.NetError.TheVariants.{Fault, OutOfMemory}
use Rattle.net_model.specs.Wires.{NetData, wire_at, no_net, with_axis, with_out, with_table, with_wire}
use Rattle.net_model.specs.Drafts.{data_of}
use Rattle.net_model.specs.Validity.{has_ends}
use Rattle.net_model.specs.Faults.{first_unsourced}
use Rattle.net_text.specs.Names.{line_naming}
use Rattle.net_text.specs.Forms.{out_line, defining_line}

-- ---- the lines below the head

-- one more output
unfoldable pub after_out : List (List ℕ) → NetData → List (List ℕ) → Result NetData NetKind
after_out lines net words = do
  o ← out_line lines net words
  Ok (with_out net o)

-- a network with one more wire, axis or table of this name
abbrev pub with_content : NetData → List ℕ → Content → NetData
with_content net name (OfWire content) = with_wire net (record { name = name; kind = content.kind; item = content.item })
with_content net name (OfAxis axis) = with_axis net (name, axis)
with_content net name (OfTable table) = with_table net (name, table)

-- one more wire, axis or table
unfoldable pub after_definition : List (List ℕ) → NetData → List (List ℕ) → Result NetData NetKind
after_definition lines net words = do
  content ← defining_line lines net words
  Ok (with_content net (nth words 1) content)

-- the network so far, after a line of these words, of which there is one at least
unfoldable pub after_line : List (List ℕ) → NetData → List (List ℕ) → Result NetData NetKind
after_line lines net words =
    if bytes_eq (nth words 0) (codes "out") then after_out lines net words else after_definition lines net words

-- how a text of these lines is read: below `net 1` each line is one more wire, axis, table or output; the tests behind all
-- lines stand below
abbrev pub net_reader : List (List ℕ) → Reader NetData NetKind NetFault
net_reader lines = record {
  keyword = codes "net";
  no_head = NoHead;
  start = no_net;
  step = after_line lines;
  is_complete = λ net. true;
  incomplete = Missing;
  fault = λ line kind. record { line = line; kind = kind };
}

-- ---- the tests behind all lines

-- the fault of a delay, if there is one, which is told at the delay's own line
abbrev pub unsourced_at : List (List ℕ) → List Wire → Option ℕ → Result (Unit {0}) NetFault
unsourced_at lines wires None = Ok tt
unsourced_at lines wires (Some delay) = Err (record { line = line_naming lines (wire_at wires delay).name; kind = TypeDiffers })

-- the source of each delay is a wire of the delay's kind
abbrev pub sources_tested : List (List ℕ) → List Wire → Result (Unit {0}) NetFault
sources_tested lines wires = unsourced_at lines wires (first_unsourced wires)

-- the network, if it has an input and an output; that it lacks one is told at the last line
abbrev pub with_ends : List (List ℕ) → NetData → Result NetData NetFault
with_ends lines net = do
  _ ← demand (has_ends net.wires net.outs) (record { line = length lines; kind = Missing })
  Ok net

-- the network, if it passes these tests
unfoldable pub tested_behind : List (List ℕ) → NetData → Result NetData NetFault
tested_behind lines net = do
  _ ← sources_tested lines net.wires
  with_ends lines net

-- ---- the whole

-- the network of a text, or its first fault
unfoldable pub network_of : List ℕ → Result NetData NetFault
network_of text = do
  net ← said_by (net_reader (lines_of text)) text
  tested_behind (lines_of text) net

-- ---- reading

-- a draft, or a fault, is what is wanted, unless memory runs out
abbrev pub GivesDraft : Result NetData NetFault → Result Draft NetError → Type 0
GivesDraft wanted (Ok draft) = wanted ≡ Ok (data_of draft)
GivesDraft wanted (Err (Fault fault)) = wanted ≡ Err fault
GivesDraft wanted (Err OutOfMemory) = Unit {0}

-- what reading a text gives
abbrev pub Reads : List ℕ → Result NetData NetError → Type 0
Reads text (Ok net) = network_of text ≡ Ok net
Reads text (Err (Fault fault)) = network_of text ≡ Err fault
Reads text (Err OutOfMemory) = Unit {0}
