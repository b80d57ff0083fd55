-- The states of a lag at the corners, by one old state.
use Rattle.std.specs.Prelude.{ℕ, List, [], ◌∷◌, ◌++◌, ℤ}
use Rattle.fx_core.specs.Arguments.{two, three}
use Rattle.part_rules.specs.declared.bounds.Bounds.{Bounds}
use Rattle.efx_rules.specs.FilterRules.{lag_rounded, difference_rounded}

-- over the ends of what drives it
abbrev pub states_over_drive : ℕ → ℤ → ℤ → Bounds → List ℤ
states_over_drive teq k y x = lag_rounded teq k (two y x.lo) ∷ lag_rounded teq k (two y x.hi) ∷ []

-- over the ends of the older input, by one newer input
abbrev pub states_over_older : ℕ → ℤ → ℤ → ℤ → Bounds → List ℤ
states_over_older teq k y newer older =
    difference_rounded teq k (three y newer older.lo) ∷ difference_rounded teq k (three y newer older.hi) ∷ []

-- over the corners of both inputs
abbrev pub states_over_inputs : ℕ → ℤ → ℤ → Bounds → Bounds → List ℤ
states_over_inputs teq k y newer older =
    states_over_older teq k y newer.lo older ++ states_over_older teq k y newer.hi older
