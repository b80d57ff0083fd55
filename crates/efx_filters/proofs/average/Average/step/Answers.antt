use Rattle.std.proofs.Common.{◌≡◌, ◌∙◌, ◌+ℤ◌, pos, arith, ap, rules, subst, sym}
use Rattle.std.proofs.lemmas.Int.{ints}
use Rattle.fx_core.specs.declared.quotient.Mode.TheVariants.{Near}
use Rattle.fx_core.specs.Rounding.{rounded}
use Rattle.fx_core.specs.Types.{Holds, saturated}
use Rattle.efx_filters.specs.States.{average_value}
use Rattle.efx_filters.proofs.AverageSteps.{kept_in_words, rest_word, sum_word}
use Rattle.efx_filters.proofs.WindowSums.{is_average}
use Rattle.efx_filters.proofs.average.Average.step.Goals as goal

pub overflow_add-sum : goal.overflow_add-sum
overflow_add-sum c =
    let a = c.self.inside in
    let held : Holds a.x c.args.x = subst (λ b. Holds b.x c.args.x) (sym c.self.view_is) c.requires in
    (sum_word a.x a.n a.sum c.args.x a.inputs c.self.invariant held).fits

pub overflow_sub-self : goal.overflow_sub-self
overflow_sub-self c =
    let a = c.self.inside in
    let held : Holds a.x c.args.x = subst (λ b. Holds b.x c.args.x) (sym c.self.view_is) c.requires in
    (rest_word a.x a.n a.sum c.args.x c.push.result a.inputs c.self.invariant held c.push.ensures.last).fits

pub mean-requires-clause-sum : goal.mean-requires-clause-sum
mean-requires-clause-sum c =
    let a = c.self.inside in
    let held : Holds a.x c.args.x = subst (λ b. Holds b.x c.args.x) (sym c.self.view_is) c.requires in
    (sum_word a.x a.n a.sum c.args.x a.inputs c.self.invariant held).size

pub invariant_of-self : goal.invariant_of-self
invariant_of-self c =
    let a = c.self.inside in
    let held : Holds a.x c.args.x = subst (λ b. Holds b.x c.args.x) (sym c.self.view_is) c.requires in
    kept_in_words a.x a.n a.sum c.args.x c.push.result a.inputs c.push.new.self c.self.invariant held c.push.ensures.after c.push.ensures.last

pub returns-clause-value : goal.returns-clause-value
returns-clause-value c =
    let a = c.self.inside in
    let held : Holds a.x c.args.x = subst (λ b. Holds b.x c.args.x) (sym c.self.view_is) c.requires in
    let sum = (sum_word a.x a.n a.sum c.args.x a.inputs c.self.invariant held).value in
    let mean : c.mean.result ≡ rounded Near (a.sum +ℤ c.args.x) (pos a.n) = c.mean.ensures ∙ ap (λ s. rounded Near s (pos a.n)) sum in
    let value : c.nearest.result ≡ saturated a.o (rounded Near (a.sum +ℤ c.args.x) (pos a.n)) = search (rules, mean) in
    (search rules)
    ∙ value
    ∙ is_average (record { x = a.x; o = a.o; n = a.n; window = a.inputs }) c.args.x (a.sum +ℤ c.args.x) c.self.invariant.0 (omega (arith, ints, c.self.invariant.2))
    ∙ ap (λ b. average_value b c.args.x) c.self.view_is
