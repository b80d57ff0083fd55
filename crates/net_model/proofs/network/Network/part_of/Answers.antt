use Rattle.std.proofs.Common.{ap, sym, ◌∙◌}
use Rattle.std.specs.Prelude.{position}
use Rattle.net_model.specs.Wires.{same_role}
use Rattle.net_model.proofs.PartPlaces.{number_found, number_missing, number_fits}
use Rattle.net_model.proofs.network.Network.part_of.Goals as goal

pub returns-in_err-place : goal.returns-in_err-place
returns-in_err-place c =
    c.from_residual.ensures ∙ number_missing c.args.self.now c.args.w.0 c.args.role (ap (position (λ r. same_role r c.args.role)) (sym c.roles.ensures.roles) ∙ sym c.place_of_role.ensures.place ∙ c.in_err-place.was)

pub overflow_add-result : goal.overflow_add-result
overflow_add-result c = record {
  fits = number_fits c.args.self.now c.args.w.0 c.args.role _ _ c.roles.ensures.valid c.requires (ap (position (λ r. same_role r c.args.role)) (sym c.roles.ensures.roles) ∙ sym c.place_of_role.ensures.place ∙ c.in_ok-place.was) c.first_part.ensures;
}

pub returns : goal.returns
returns c =
    number_found c.args.self.now c.args.w.0 c.args.role _ _ c.requires (ap (position (λ r. same_role r c.args.role)) (sym c.roles.ensures.roles) ∙ sym c.place_of_role.ensures.place ∙ c.in_ok-place.was) c.first_part.ensures
