use Rattle.mfx_scaled.proofs.Steps.{quotient_by_other_word, quotient_by_zero_word}
use Rattle.mfx_scaled.proofs.counts.quotient.Goals as goal

pub returns-then-divisor-eq0 : goal.returns-then-divisor-eq0
returns-then-divisor-eq0 c =
    quotient_by_zero_word c.args.t c.args.dividend.number c.args.divisor.number c.end_beside.result c.requires.dividend c.requires.divisor c.if-divisor-eq0.true (record { sfits = c.end_beside.type_inv }) c.end_beside.ensures

pub returns-else-divisor-eq0 : goal.returns-else-divisor-eq0
returns-else-divisor-eq0 c =
    quotient_by_other_word c.args.t c.args.dividend.number c.args.divisor.number c.toward_zero.result c.nearest.result c.if-divisor-eq0.false (record { sfits = c.toward_zero.type_inv }) (record { sfits = c.nearest.type_inv }) c.toward_zero.ensures c.nearest.ensures
