-- Why a draft gives no network.
use Rattle.std.specs.Prelude.{◌≡◌, Ok, Err}
use Rattle.net_model.specs.declared.network.NetRefusal.{NetRefusal}
use Rattle.net_model.specs.declared.network.NetRefusal.TheVariants.{At, OutOfMemory}
use Rattle.net_model.specs.Wires.{NetData}
use Rattle.net_model.specs.Faults.{tested}

-- the refusal names the first test that fails, and a draft that passes all is refused only at want of memory
abbrev pub IsRefusedFor : NetData → NetRefusal → Type 0
IsRefusedFor net (At wire kind) = tested net ≡ Err (record { wire = wire; kind = kind })
IsRefusedFor net OutOfMemory = tested net ≡ Ok tt
