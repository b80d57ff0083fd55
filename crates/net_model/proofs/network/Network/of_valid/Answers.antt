use Rattle.std.proofs.Common.{ap, map, ◌∙◌}
use Rattle.net_model.specs.Validity.{are_distinct}
use Rattle.net_model.specs.Drafts.{data_of}
use Rattle.net_model.proofs.DraftLemmas.{few_valid}
use Rattle.net_model.proofs.ValidityFacts.{length-valid}
use Rattle.net_model.proofs.NameLemmas.{distinct_names}
use Rattle.net_model.proofs.network.Network.of_valid.Goals as goal

pub input_numbers-requires : goal.input_numbers-requires
input_numbers-requires c = rw c.deref.ensures.value (few_valid (data_of c.args.draft) c.requires)

pub part_list-requires : goal.part_list-requires
part_list-requires c = rw c.deref-2.ensures.value (few_valid (data_of c.args.draft) c.requires)

pub first_parts-requires : goal.first_parts-requires
first_parts-requires c = rw c.deref-3.ensures.value (length-valid (data_of c.args.draft) c.requires)

pub name_map-requires-clause-few : goal.name_map-requires-clause-few
name_map-requires-clause-few c = rw c.deref-4.ensures.value (few_valid (data_of c.args.draft) c.requires)

pub name_map-requires-clause-distinct : goal.name_map-requires-clause-distinct
name_map-requires-clause-distinct c =
    ap (λ wires. are_distinct (map (λ w. w.name) wires)) c.deref-4.ensures.value ∙ distinct_names (data_of c.args.draft) c.requires
