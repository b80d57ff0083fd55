use Rattle.std.proofs.Common.{◌∙◌}
use Rattle.std.specs.Int.{w128}
use Rattle.std.proofs.lemmas.Int.{to_z-of_z}
use Rattle.mfx_rules.proofs.ScaledSizes.{converted_value, error_size, is_raised}
use Rattle.mfx_rules.proofs.scaled_errors.converted_error.Goals as goal

pub raised-requires-clause-size : goal.raised-requires-clause-size
raised-requires-clause-size c = error_size c.args.err.number c.requires.low c.requires.high

pub shifted_error-requires-clause-low : goal.shifted_error-requires-clause-low
shifted_error-requires-clause-low c =
    (is_raised c.args.err.number c.raised.result.number c.args.err.point c.max-high.result c.requires.low c.requires.high c.raised.ensures.number c.raised.ensures.size).low

pub shifted_error-requires-clause-high : goal.shifted_error-requires-clause-high
shifted_error-requires-clause-high c =
    (is_raised c.args.err.number c.raised.result.number c.args.err.point c.max-high.result c.requires.low c.requires.high c.raised.ensures.number c.raised.ensures.size).high

pub returns : goal.returns
returns c =
    to_z-of_z w128 c.shifted_error.result (record { sfits = c.shifted_error.type_inv }) ∙ converted_value c.args.err.point c.args.point c.max-high.result c.args.err.number _ _ c.max-high.ensures (is_raised c.args.err.number c.raised.result.number c.args.err.point c.max-high.result c.requires.low c.requires.high c.raised.ensures.number c.raised.ensures.size).value c.shifted_error.ensures
