use Rattle.std.proofs.Common.{rules}
use Rattle.mfx_arith.proofs.WholeNumbers.{add_is, sub_is, min_is, max_is}
use Rattle.mfx_arith.proofs.calls.call.Goals as goal

pub returns-in-Add : goal.returns-in-Add
returns-in-Add c = rw (c.in-Add.is, add_is) (search rules)

pub returns-in-Sub : goal.returns-in-Sub
returns-in-Sub c = rw (c.in-Sub.is, sub_is) (search rules)

pub returns-in-Min : goal.returns-in-Min
returns-in-Min c = rw (c.in-Min.is, min_is) (search rules)

pub returns-in-Max : goal.returns-in-Max
returns-in-Max c = rw (c.in-Max.is, max_is) (search rules)
