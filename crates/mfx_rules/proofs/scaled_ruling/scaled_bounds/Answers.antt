use Rattle.std.proofs.Common.{rules, ◌∙◌, sym}
use Rattle.std.specs.Int.{w128}
use Rattle.std.proofs.lemmas.Int.{to_z-of_z}
use Rattle.fx_core.specs.Arguments.{two}
use Rattle.mfx_rules.specs.ScaledRules.{scaled_bounds, scaled_may_divide_by_zero}
use Rattle.part_rules.proofs.DivisorEnds.{gives_bounds, gives_none}
use Rattle.mfx_rules.proofs.ScaledArguments.{form_divisors_at_ends}
use Rattle.mfx_rules.proofs.scaled_ruling.scaled_bounds.Goals as goal

pub returns-then-may_divide_by_zero : goal.returns-then-may_divide_by_zero
returns-then-may_divide_by_zero c =
    gives_none _ _ (sym (c.may_divide_by_zero.ensures c.args.x) ∙ c.if-may_divide_by_zero.true)

pub range_of-range-requires-clause-divisor : goal.range_of-range-requires-clause-divisor
range_of-range-requires-clause-divisor c =
    form_divisors_at_ends c.args.op c.args.x c.args.y c.requires.second.ordered (sym (c.may_divide_by_zero.ensures c.args.x) ∙ c.if-may_divide_by_zero.false)

pub error_of-requires-clause-nonzero : goal.error_of-requires-clause-nonzero
error_of-requires-clause-nonzero c = sym (c.may_divide_by_zero.ensures c.args.x) ∙ c.if-may_divide_by_zero.false

pub returns : goal.returns
unfolding scaled_bounds
returns c =
    gives_bounds (scaled_may_divide_by_zero c.args.op (two c.args.x c.args.y)) _ _ _ (scaled_bounds c.args.op c.args.p (two c.args.x c.args.y)) (sym (c.may_divide_by_zero.ensures c.args.x) ∙ c.if-may_divide_by_zero.false) (to_z-of_z w128 c.range_of-range.result.lo (search rules) ∙ c.range_of-range.ensures.lo) (to_z-of_z w128 c.range_of-range.result.hi (search rules) ∙ c.range_of-range.ensures.hi) (to_z-of_z w128 c.error_of.result (record { sfits = c.error_of.type_inv }) ∙ c.error_of.ensures)
