use Rattle.std.proofs.Common.{rules, ap, ◌∙◌}
use Rattle.net_model.proofs.NameLemmas.{names_start, names_grow, names_end}
use Rattle.net_model.proofs.numbering.name_map.Goals as goal

pub loop-i-init : goal.loop-i-init
loop-i-init c = names_start c.in_ok-names.names c.args.wires.now c.in_ok-names.ensures.empty

pub loop-i-preserved : goal.loop-i-preserved
loop-i-preserved c =
    names_grow c.loop-i.names c.insert.new.self c.args.wires.now c.loop-i.i c.in_ok-name.name c.index-wires-i.result c.loop-i-test.true c.requires.distinct (c.in_ok-name.ensures.items ∙ c.bytes.ensures.bytes ∙ ap (λ w. w.name) c.index-wires-i.is) c.in_ok-insert.ensures.entries c.loop-i.invariant

pub returns : goal.returns
returns c = names_end c.loop-i.names c.args.wires.now c.loop-i.i (search rules) c.loop-i.invariant
