-- The rule of each operation of arithmetic that has one is sound: one lemma for each, and this is the join.
use Rattle.std.proofs.lemmas.Bool.{false≢true}
use Rattle.fx_routines.specs.declared.operation.ArithOp.TheVariants.{Add, Sub, AbsDiff, Abs, Mul, Div, Mod, MulDiv, MulShRight, DivShLeft, Limit, Min, Max, RateLimiter}
use Rattle.mfx_rules.specs.ArithSoundness.{ArithRulesAreSound}
use Rattle.mfx_rules.proofs.ArithRoutines.{add_keeps, sub_keeps, abs_diff_keeps, abs_keeps, mul_keeps, div_keeps, mul_div_keeps, mul_sh_right_keeps, div_sh_left_keeps, limit_keeps, min_keeps, max_keeps, rate_limiter_keeps}

pub arith_rules_are_sound : ArithRulesAreSound
arith_rules_are_sound Add rule shift given m e divides step w = add_keeps shift given m e w
arith_rules_are_sound Sub rule shift given m e divides step w = sub_keeps shift given m e w
arith_rules_are_sound AbsDiff rule shift given m e divides step w = abs_diff_keeps shift given m e w
arith_rules_are_sound Abs rule shift given m e divides step w = abs_keeps shift given m e w
arith_rules_are_sound Mul rule shift given m e divides step w = mul_keeps shift given m e w
arith_rules_are_sound Div rule shift given m e divides step w = div_keeps shift given m e divides w
arith_rules_are_sound Mod rule shift given m e divides step w = absurd (false≢true rule)
arith_rules_are_sound MulDiv rule shift given m e divides step w = mul_div_keeps shift given m e divides w
arith_rules_are_sound MulShRight rule shift given m e divides step w = mul_sh_right_keeps shift given m e w
arith_rules_are_sound DivShLeft rule shift given m e divides step w = div_sh_left_keeps shift given m e divides w
arith_rules_are_sound Limit rule shift given m e divides step w = limit_keeps shift given m e w
arith_rules_are_sound Min rule shift given m e divides step w = min_keeps shift given m e w
arith_rules_are_sound Max rule shift given m e divides step w = max_keeps shift given m e w
arith_rules_are_sound RateLimiter rule shift given m e divides step w = rate_limiter_keeps shift given m e step w
