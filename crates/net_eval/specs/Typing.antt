-- What an evaluator is given for a row.
use Rattle.std.specs.Prelude.{ℕ, ◌<◌, ℤ, pos, List, length, get_or, IsTrue}
use Rattle.net_model.specs.Wires.{NetData, wire_at, is_input, input_place}
use Rattle.net_model.specs.Validity.{kind_holds}

-- each input's number is one of its wire's kind
abbrev pub AreTyped : NetData → List ℤ → Type 0
AreTyped net inputs =
    (i : ℕ) → i < length net.wires → IsTrue (is_input (wire_at net.wires i).item) →
    IsTrue (kind_holds net.axes (wire_at net.wires i).kind (get_or inputs (input_place net.wires i) (pos 0)))
