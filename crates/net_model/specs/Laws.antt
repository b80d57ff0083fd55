-- What the tests of a draft decide.
use Rattle.std.specs.Prelude.{◌≡◌, ◌↔◌, Ok, IsTrue}
use Rattle.net_model.specs.Wires.{NetData}
use Rattle.net_model.specs.Validity.{AreAxes, AreTables, IsValid}
use Rattle.net_model.specs.Faults.{are_named, tested}

-- a draft is valid exactly where its tests find no fault; that the names of its wires are names, and that its axes and
-- tables are what they may be, isn't tested, since they are of types that keep it
abbrev pub TestsDecideValidity : Type 0
TestsDecideValidity = (net : NetData) → IsTrue (are_named net.wires) → AreAxes net.axes → AreTables net.tables → (tested net ≡ Ok tt ↔ IsValid net)
