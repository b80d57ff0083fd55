-- Stretches of an axis: where one ends, and what its end makes of the two points round it.
use Rattle.std.specs.Prelude.{ℕ, suc, ◌+◌, ◌-◌, ◌*◌, ℤ, pos, ◌+ℤ◌, ◌*ℤ◌, ◌≤ℤ◌, nat_lt, if◌then◌else◌}
use Rattle.fx_fraction.specs.Fraction.{Fraction, Is}
use Rattle.fx_core.specs.declared.word_type.Ty.{Ty}
use Rattle.fx_core.specs.Types.{greatest_of, least_of}
use Rattle.ifx_curves.specs.declared.stretch.Stretch.{Stretch}

-- the stretch ends at the position t: at 65536 for each whole segment, and the part way / span of the next one
abbrev pub EndsAt : Stretch → Fraction → Type 0
EndsAt s t = Is t s.span (pos (65536 * s.segment * s.span + 65536 * s.way))

-- the sum of two heights at its segment's points, each weighted by the way from the other one to the end
abbrev pub weighted_sum : Stretch → ℤ → ℤ → ℤ
weighted_sum s low high = low *ℤ pos (s.span - s.way) +ℤ high *ℤ pos s.way

-- such a sum z over the sum d of its weights lies in the type
abbrev pub HoldsOver : Ty → ℕ → ℤ → Type 0
HoldsOver ty d z = ((least_of ty *ℤ pos d) ≤ℤ z) × (z ≤ℤ (greatest_of ty *ℤ pos d))

-- of the two points the one that is nearer to the end: the upper one from half the way on
abbrev pub nearer_end : Stretch → ℕ
nearer_end s = if nat_lt (2 * s.way) s.span then s.segment else suc s.segment
