-- The unit of errors.
use Rattle.std.specs.Prelude.{ℤ, pos}

-- one raw count, by which a rounding toward zero may move a value; errors are in units of 1/65536 of a raw count
abbrev pub one_count : ℤ
one_count = pos 65536
