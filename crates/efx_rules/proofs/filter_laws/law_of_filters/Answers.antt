use Rattle.efx_rules.proofs.AverageLaws.{averages_are_sound}
use Rattle.efx_rules.proofs.KeptRules.{gains_keep_rules, lags_keep_rules, differences_keep_rules, values_keep_rules, averages_are_monotone}
use Rattle.efx_rules.proofs.filter_laws.law_of_filters.Goals as goal

pub returns-clause-gains : goal.returns-clause-gains
returns-clause-gains c = gains_keep_rules

pub returns-clause-lags : goal.returns-clause-lags
returns-clause-lags c = lags_keep_rules

pub returns-clause-differences : goal.returns-clause-differences
returns-clause-differences c = differences_keep_rules

pub returns-clause-values : goal.returns-clause-values
returns-clause-values c = values_keep_rules

pub returns-clause-averages : goal.returns-clause-averages
returns-clause-averages c = averages_are_sound

pub returns-clause-monotone_averages : goal.returns-clause-monotone_averages
returns-clause-monotone_averages c = averages_are_monotone
