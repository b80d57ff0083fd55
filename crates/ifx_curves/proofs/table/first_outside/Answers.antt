use Rattle.std.proofs.Common.{rules, ◌≡◌, ◌∙◌, sym, length, true, false, not}
use Rattle.fx_core.specs.Types.{holds}
use Rattle.ifx_curves.specs.Tables.{is_outside, value_at}
use Rattle.ifx_search.proofs.Places.{found_here, found_later, found_nowhere}
use Rattle.ifx_curves.proofs.table.first_outside.Goals as goal

pub returns-then-not-holds : goal.returns-then-not-holds
returns-then-not-holds c =
    let outside : not (holds c.args.ty (value_at c.args.values.now c.loop-i.i)) ≡ true = search rules in
    sym (found_here (is_outside c.args.ty c.args.values.now) c.loop-i.i (length c.args.values.now) c.loop-i-test.true outside) ∙ c.loop-i.invariant

pub loop-i-preserved : goal.loop-i-preserved
loop-i-preserved c =
    let inside : not (holds c.args.ty (value_at c.args.values.now c.loop-i.i)) ≡ false = search rules in
    found_later (is_outside c.args.ty c.args.values.now) c.loop-i.i (length c.args.values.now) _ c.loop-i.invariant c.loop-i-test.true inside

pub returns : goal.returns
returns c = sym (found_nowhere (is_outside c.args.ty c.args.values.now) c.loop-i.i (length c.args.values.now) c.loop-i-test.false) ∙ c.loop-i.invariant
