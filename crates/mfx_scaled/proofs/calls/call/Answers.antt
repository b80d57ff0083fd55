use Rattle.std.proofs.Common.{rules}
use Rattle.mfx_scaled.proofs.Steps.{abs_diff_is, add_is, convert_is, div_is, mul_is, sub_is}
use Rattle.mfx_scaled.proofs.calls.call.Goals as goal

pub returns-in-Convert : goal.returns-in-Convert
returns-in-Convert c = rw (c.in-Convert.is, convert_is) (search rules)

pub returns-in-Add : goal.returns-in-Add
returns-in-Add c = rw (c.in-Add.is, add_is) (search rules)

pub returns-in-Sub : goal.returns-in-Sub
returns-in-Sub c = rw (c.in-Sub.is, sub_is) (search rules)

pub returns-in-AbsDiff : goal.returns-in-AbsDiff
returns-in-AbsDiff c = rw (c.in-AbsDiff.is, abs_diff_is) (search rules)

pub returns-in-Mul : goal.returns-in-Mul
returns-in-Mul c = rw (c.in-Mul.is, mul_is) (search rules)

pub returns-in-Div : goal.returns-in-Div
returns-in-Div c = rw (c.in-Div.is, div_is) (search rules)
