-- What wide bounds say, as bounds.
use Rattle.part_rules.specs.declared.bounds.Bounds.{Bounds}
use Rattle.part_rules.specs.declared.wide_bounds.WideBounds.{WideBounds}

-- the same three numbers, as bounds
abbrev pub exact_bounds : WideBounds → Bounds
exact_bounds b = record { lo = b.lo; hi = b.hi; err = b.err }
