use Rattle.std.proofs.Common.{◌∙◌, ap, ap₂, ◌*ℤ◌}
use Rattle.std.specs.Prelude.{◌≤◌, pos, int_div, unsigned_abs}
use Rattle.std.specs.Int.{int_max, int_min}
use Rattle.mfx_rules.proofs.ArithCornerValues.{add_at, sub_at, abs_diff_at, abs_at, mul_at, div_at, mul_div_at, mul_sh_right_at, div_sh_left_at, limit_at, min_at, max_at, rate_limiter_at}
use Rattle.mfx_rules.proofs.arith_values.value_at.Goals as goal

pub returns-in-Add : goal.returns-in-Add
returns-in-Add c =
    rw c.in-Add.is (c.plus.ensures ∙ add_at c.args.shift c.args.x.number c.args.y.number c.args.z.number)

pub returns-in-Sub : goal.returns-in-Sub
returns-in-Sub c =
    rw c.in-Sub.is (c.minus.ensures.value ∙ sub_at c.args.shift c.args.x.number c.args.y.number c.args.z.number)

pub returns-in-AbsDiff : goal.returns-in-AbsDiff
returns-in-AbsDiff c =
    rw c.in-AbsDiff.is (c.absolute.ensures ∙ ap (λ n. pos (unsigned_abs n)) c.minus-in-AbsDiff.ensures.value ∙ abs_diff_at c.args.shift c.args.x.number c.args.y.number c.args.z.number)

pub returns-in-Abs : goal.returns-in-Abs
returns-in-Abs c =
    rw c.in-Abs.is (c.absolute-in-Abs.ensures ∙ abs_at c.args.shift c.args.x.number c.args.y.number c.args.z.number)

pub returns-in-Mul : goal.returns-in-Mul
returns-in-Mul c =
    rw c.in-Mul.is (c.times.ensures.value ∙ mul_at c.args.shift c.args.x.number c.args.y.number c.args.z.number)

pub returns-in-Div : goal.returns-in-Div
returns-in-Div c =
    let some : 1 ≤ unsigned_abs c.args.y.number = rw c.in-Div.is at c.requires.divisor in
    rw c.in-Div.is (c.over.ensures ∙ div_at c.args.shift c.args.x.number c.args.y.number c.args.z.number some)

pub returns-in-MulDiv : goal.returns-in-MulDiv
returns-in-MulDiv c =
    let some : 1 ≤ unsigned_abs c.args.z.number = rw c.in-MulDiv.is at c.requires.divisor in
    rw c.in-MulDiv.is (c.over-in-MulDiv.ensures ∙ ap (λ n. int_div n c.args.z.number) c.times-in-MulDiv.ensures.value ∙ mul_div_at c.args.shift c.args.x.number c.args.y.number c.args.z.number some)

pub returns-in-MulShRight : goal.returns-in-MulShRight
returns-in-MulShRight c =
    rw c.in-MulShRight.is (c.over-in-MulShRight.ensures ∙ ap₂ int_div c.times-in-MulShRight.ensures.value c.of_shift.ensures.value ∙ mul_sh_right_at c.args.shift c.args.x.number c.args.y.number c.args.z.number)

pub returns-in-DivShLeft : goal.returns-in-DivShLeft
returns-in-DivShLeft c =
    let some : 1 ≤ unsigned_abs c.args.y.number = rw c.in-DivShLeft.is at c.requires.divisor in
    rw c.in-DivShLeft.is (c.over-in-DivShLeft.ensures ∙ ap (λ n. int_div n c.args.y.number) (c.times-in-DivShLeft.ensures.value ∙ ap (λ n. c.args.x.number *ℤ n) c.of_shift-in-DivShLeft.ensures.value) ∙ div_sh_left_at c.args.shift c.args.x.number c.args.y.number c.args.z.number some)

pub returns-in-Limit : goal.returns-in-Limit
returns-in-Limit c =
    rw c.in-Limit.is (c.lesser.ensures ∙ ap (int_min c.args.z.number) c.greater.ensures ∙ limit_at c.args.shift c.args.x.number c.args.y.number c.args.z.number)

pub returns-in-Min : goal.returns-in-Min
returns-in-Min c =
    rw c.in-Min.is (c.lesser-in-Min.ensures ∙ min_at c.args.shift c.args.x.number c.args.y.number c.args.z.number)

pub returns-in-Max : goal.returns-in-Max
returns-in-Max c =
    rw c.in-Max.is (c.greater-in-Max.ensures ∙ max_at c.args.shift c.args.x.number c.args.y.number c.args.z.number)

pub returns-in-RateLimiter : goal.returns-in-RateLimiter
returns-in-RateLimiter c =
    rw c.in-RateLimiter.is (c.lesser-in-RateLimiter.ensures ∙ ap₂ int_min c.plus-in-RateLimiter.ensures (c.greater-in-RateLimiter.ensures ∙ ap (λ n. int_max n c.args.x.number) c.minus-in-RateLimiter.ensures.value) ∙ rate_limiter_at c.args.shift c.args.x.number c.args.y.number c.args.z.number)
