-- What a network's map of names answers.
use Rattle.std.specs.Prelude.{◌≡◌, ℕ, List, Option, option_map, bytes_eq}
use Rattle.std.specs.Global.{Vec}
use Rattle.indexmap.specs.IndexMap.{IndexMap, get_by}
use Rattle.net_model.specs.declared.wires.WireNo.{WireNo}
use Rattle.net_model.specs.declared.wires.Wire.{Wire}
use Rattle.net_model.specs.Wires.{place_of}

-- the number at a name
abbrev pub number_at : {S : Type 0} → IndexMap (Vec ℕ) WireNo S → List ℕ → Option WireNo
number_at names name = get_by (λ key. bytes_eq name key.items) names

-- each name has the number of the first wire of that name, and a name of no wire has none
abbrev pub HasNumbersOf : {S : Type 0} → List Wire → IndexMap (Vec ℕ) WireNo S → Type 0
HasNumbersOf wires names = (name : List ℕ) → number_at names name ≡ option_map (λ n. record { 0 = n }) (place_of wires name)
