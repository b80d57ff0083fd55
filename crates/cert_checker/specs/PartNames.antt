-- How the parts of a network are named in texts.
use Rattle.std.specs.Prelude.{ℕ, List, [], ◌++◌, codes}
use Rattle.net_model.specs.declared.wires.Role.{Role}
use Rattle.net_model.specs.declared.wires.Role.TheVariants.{Y, X1, X2, W, Value}
use Rattle.net_model.specs.Wires.{NetData, wire_at}
use Rattle.cert_rules.specs.Acceptance.{part_at}

-- what stands behind the wire's name: nothing for its value, and for what its block keeps a point and the part's role
abbrev pub role_suffix : Role → List ℕ
role_suffix Y = codes ".Y"
role_suffix X1 = codes ".X1"
role_suffix X2 = codes ".X2"
role_suffix W = codes ".W"
role_suffix Value = []

-- the name of part number k
abbrev pub part_name : NetData → ℕ → List ℕ
part_name net k = (wire_at net.wires (part_at net k).wire.0).name ++ role_suffix (part_at net k).role
