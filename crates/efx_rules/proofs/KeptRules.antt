-- The rules of the filters as records are kept: each is sound and monotone.
use Rattle.std.proofs.Common.{refl}
use Rattle.part_rules.specs.PartRules.{bounds_at}
use Rattle.efx_rules.specs.KeptRules.{GainsKeepRules, LagsKeepRules, DifferencesKeepRules, ValuesKeepRules, AveragesAreMonotone}
use Rattle.efx_rules.proofs.FilterSoundness.{gain_within, lag_within, difference_within, value_within}
use Rattle.efx_rules.proofs.FilterGrows.{gain_grows, lag_grows, difference_grows, value_grows, average_grows}

pub gains_keep_rules : GainsKeepRules
gains_keep_rules k = record {
  sound = λ given m e fit ruled within. record { machine_divides = tt; exact_divides = tt; within = gain_within k (bounds_at given) m e within };
  monotone = λ narrow wide fit ruled n. (refl, gain_grows k (bounds_at narrow) (bounds_at wide) n);
}

pub lags_keep_rules : LagsKeepRules
lags_keep_rules teq k = record {
  sound = λ given m e fit ruled within. record { machine_divides = tt; exact_divides = tt; within = lag_within teq k (bounds_at given) m e within };
  monotone = λ narrow wide fit ruled n. (refl, lag_grows teq k (bounds_at narrow) (bounds_at wide) n);
}

pub differences_keep_rules : DifferencesKeepRules
differences_keep_rules second teq k = record {
  sound = λ given m e fit ruled within. record { machine_divides = tt; exact_divides = tt; within = difference_within teq k (bounds_at given) m e within };
  monotone = λ narrow wide fit ruled n. (refl, difference_grows teq k (bounds_at narrow) (bounds_at wide) n);
}

pub values_keep_rules : ValuesKeepRules
values_keep_rules = record {
  sound = λ given m e fit ruled within. record { machine_divides = tt; exact_divides = tt; within = value_within (bounds_at given) m e within };
  monotone = λ narrow wide fit ruled n. (refl, value_grows (bounds_at narrow) (bounds_at wide) n);
}

pub averages_are_monotone : AveragesAreMonotone
averages_are_monotone narrow wide fit ruled n = (refl, average_grows (bounds_at narrow) (bounds_at wide) n)
