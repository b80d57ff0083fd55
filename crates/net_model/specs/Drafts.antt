-- What is made of a draft.
use Rattle.net_model.specs.declared.network.Draft.{Draft}
use Rattle.net_model.specs.Wires.{NetData}

-- the network of a draft, valid or not
abbrev pub data_of : Draft → NetData
data_of d = record { axes = d.axes.items; tables = d.tables.items; wires = d.wires.items; outs = d.outs.items }
