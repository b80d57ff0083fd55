use Rattle.std.proofs.Common.{◌&&◌, ap, ap₂, sym, ◌∙◌}
use Rattle.net_model.specs.BlockForms.{form_of, repeats_first, typed}
use Rattle.net_model.specs.Drafts.{data_of}
use Rattle.net_model.specs.Validity.{form_agrees}
use Rattle.net_model.proofs.conditions.agrees.Goals as goal

pub returns-then-form_agrees : goal.returns-then-form_agrees
returns-then-form_agrees c =
    let form = c.form_in-form.ensures ∙ ap₂ (λ axes tables. typed axes tables (form_of c.args.block.now)) c.deref.ensures.value c.deref-2.ensures.value in
    c.repeats_first.ensures
    ∙ ap (λ t. t && repeats_first c.args.block.now) (sym c.if-form_agrees.true ∙ c.form_agrees.ensures ∙ ap (form_agrees (data_of c.args.draft.now) c.args.kind) form)
