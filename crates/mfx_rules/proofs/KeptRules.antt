-- The rules of Mfx arithmetic and of the forms with binary points as records are kept: each is sound and monotone.
use Rattle.std.specs.Prelude.{◌≡◌, Bool, true, false, not, ◌||◌}
use Rattle.std.proofs.Common.{refl, sym}
use Rattle.std.proofs.lemmas.Bool.{true≢false}
use Rattle.mfx_arith.specs.Operations.{arith_arity, is_smooth_operation}
use Rattle.mfx_scaled.specs.Operations.{scaled_arity}
use Rattle.part_rules.specs.PartRules.{bounds_at}
use Rattle.part_rules.proofs.RuleLaws.{argument_there}
use Rattle.part_rules.proofs.RangesGrow.{AreNarrower}
use Rattle.mfx_rules.specs.ArithRules.{arith_may_divide_by_zero}
use Rattle.mfx_rules.specs.OperationRules.{FormsKeepRules, OperationsKeepRules}
use Rattle.mfx_rules.proofs.ArithSoundnessProof.{arith_rules_are_sound}
use Rattle.mfx_rules.proofs.ScaledSoundnessProof.{scaled_rules_are_sound}
use Rattle.mfx_rules.proofs.ArithGrows.{arith_grows, divides_narrower}
use Rattle.mfx_rules.proofs.ScaledGrows.{scaled_grows, divides_narrower as form_divides_narrower}

-- an operation that has a rule, whose divisor can't be 0
pub record IsRuled (smooth divides : Bool) : Type 0 where
  pub is_smooth : smooth ≡ true
  pub away : divides ≡ false

pub is_ruled : (smooth divides : Bool) → (not smooth || divides) ≡ false → IsRuled smooth divides
is_ruled true true h = absurd (true≢false h)
is_ruled true false h = record { is_smooth = refl; away = refl }
is_ruled false divides h = absurd (true≢false h)

ruled_from : (smooth divides : Bool) → smooth ≡ true → divides ≡ false → (not smooth || divides) ≡ false
ruled_from true divides p h = h
ruled_from false divides p h = absurd (true≢false (sym p))

pub operations_keep_rules : OperationsKeepRules
operations_keep_rules op shift = record {
  sound = λ given m e fit ruled within.
      let r = is_ruled (is_smooth_operation op) (arith_may_divide_by_zero op (bounds_at given)) ruled in
      let keeps = arith_rules_are_sound op r.is_smooth shift (bounds_at given) m e r.away fit (λ p l. within p (argument_there (arith_arity op) p l)) in
      record { machine_divides = keeps.machine_divides; exact_divides = keeps.exact_divides; within = keeps.within };
  monotone = λ narrow wide fit ruled narrower.
      let r = is_ruled (is_smooth_operation op) (arith_may_divide_by_zero op (bounds_at wide)) ruled in
      let n : AreNarrower (arith_arity op) (bounds_at narrow) (bounds_at wide) = λ p l. narrower p (argument_there (arith_arity op) p l) in
      (ruled_from (is_smooth_operation op) _ r.is_smooth (divides_narrower op (bounds_at narrow) (bounds_at wide) n r.away), arith_grows op r.is_smooth shift (bounds_at narrow) (bounds_at wide) r.away fit n);
}

pub forms_keep_rules : FormsKeepRules
forms_keep_rules op points = record {
  sound = λ given m e fit ruled within.
      let keeps = scaled_rules_are_sound op points (bounds_at given) m e ruled (λ p l. within p (argument_there (scaled_arity op) p l)) in
      record { machine_divides = keeps.machine_divides; exact_divides = keeps.exact_divides; within = keeps.within };
  monotone = λ narrow wide fit ruled narrower.
      let n : AreNarrower (scaled_arity op) (bounds_at narrow) (bounds_at wide) = λ p l. narrower p (argument_there (scaled_arity op) p l) in
      (form_divides_narrower op (bounds_at narrow) (bounds_at wide) n ruled, scaled_grows op points (bounds_at narrow) (bounds_at wide) ruled n);
}
