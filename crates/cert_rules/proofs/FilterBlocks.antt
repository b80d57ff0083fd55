-- The filters: that what the equations of their wires make is within their rules' bounds.
use Rattle.std.specs.Prelude.{◌≡◌, ℕ, zero, suc, ◌<◌, ◌≤◌, Bool, true, false, List, [], ◌∷◌, ℤ}
use Rattle.std.proofs.Common.{refl, sym, subst, arith}
use Rattle.fx_fraction.specs.Fraction.{Fraction, whole}
use Rattle.fx_core.specs.declared.word_type.Ty.{Ty}
use Rattle.fx_core.specs.declared.quotient.Mode.TheVariants.{Near}
use Rattle.fx_core.specs.Values.{rounded_fraction}
use Rattle.fx_core.specs.Arguments.{three, two}
use Rattle.net_model.specs.declared.wires.WireNo.{WireNo}
use Rattle.net_model.specs.declared.wires.Block.{Block}
use Rattle.net_model.specs.declared.wires.Block.TheVariants.{Gain, Average, Pt1, Dt1}
use Rattle.net_model.specs.declared.wires.Item.TheVariants.{Block as OfBlock}
use Rattle.net_model.specs.declared.wires.Role.TheVariants.{Y, X1, X2, W, Value}
use Rattle.net_model.specs.declared.wires.Part.{Part}
use Rattle.net_model.specs.Wires.{NetData, wire_at}
use Rattle.net_meaning.specs.Cells.{Cell}
use Rattle.net_meaning.specs.Blocks.{formula, machine, machine_cell, machine_state_of, exact, exact_cell, quotient_of, state_formula}
use Rattle.net_meaning.specs.Runs.{equation_of}
use Rattle.efx_filters.specs.Formulas.{average_formula, value_formula}
use Rattle.part_rules.specs.declared.bounds.Bounds.{Bounds}
use Rattle.part_rules.specs.Within.{IsWithin}
use Rattle.part_rules.specs.PartRules.{KeepsRule, PartMeaning, bounds_at, bounds_read}
use Rattle.efx_rules.specs.FilterRules.{difference_rounded, gain_rounded, lag_rounded, value_bounds, value_rounded}
use Rattle.efx_rules.specs.KeptRules.{FitAll, average_rule, means}
use Rattle.efx_rules.proofs.AverageLaws.{averages_are_sound}
use Rattle.efx_rules.proofs.KeptRules.{averages_are_monotone, differences_keep_rules, gains_keep_rules, lags_keep_rules, values_keep_rules}
use Rattle.cert_rules.specs.Rules.{count_held, held_wire, part_on, state_rule_of, value_rule_of}
use Rattle.cert_rules.proofs.PartValues.{ReadsWithin, both_hold, three_hold, within_at}

-- ---- averages keep their rule

-- the mean of the input and of one of the window, which stands for each of that
abbrev pub mean_meaning : PartMeaning
mean_meaning = means (λ m. rounded_fraction Near (average_formula 2 (λ i. whole (m i)))) (λ e. average_formula 2 e)

pub means_keep : KeepsRule average_rule mean_meaning FitAll
means_keep = record {
  sound = λ given m e fit ruled within. record {
    machine_divides = tt;
    exact_divides = tt;
    within = averages_are_sound 2 (omega arith) (bounds_at given) m e (within 0 (omega arith)) (λ i low high. let here : i ≡ 1 = omega arith in subst (λ (n : ℕ). IsWithin (bounds_at given 1) (m n) (e n)) (sym here) (within 1 (omega arith)));
  };
  monotone = averages_are_monotone;
}

-- ---- what is read

-- the input that a block on wire i keeps
last_read : (net : NetData) (i : ℕ) (b : Block) (known : Bounds) (m : ℕ → ℕ → Cell ℤ) (e : ℕ → ℕ → Cell Fraction) → (wire_at net.wires i).item ≡ OfBlock b → IsWithin known (m 1 (held_wire X1 i (wire_at net.wires i).item)).value (e 1 (held_wire X1 i (wire_at net.wires i).item)).value → IsWithin known (m 1 (held_wire X1 i (OfBlock b))).value (e 1 (held_wire X1 i (OfBlock b))).value
last_read net i b known m e is h = subst (λ item. IsWithin known (m 1 (held_wire X1 i item)).value (e 1 (held_wire X1 i item)).value) is h

-- the one before that
older_read : (net : NetData) (i : ℕ) (b : Block) (known : Bounds) (m : ℕ → ℕ → Cell ℤ) (e : ℕ → ℕ → Cell Fraction) → (wire_at net.wires i).item ≡ OfBlock b → IsWithin known (m 2 (held_wire X2 i (wire_at net.wires i).item)).value (e 2 (held_wire X2 i (wire_at net.wires i).item)).value → IsWithin known (m 2 (held_wire X2 i (OfBlock b))).value (e 2 (held_wire X2 i (OfBlock b))).value
older_read net i b known m e is h = subst (λ item. IsWithin known (m 2 (held_wire X2 i item)).value (e 2 (held_wire X2 i item)).value) is h

-- ---- states

pub lag_within : (net : NetData) (i : ℕ) (xty ty : Ty) (x : WireNo) (teq : ℕ) (k : ℤ) (known : Part → Bounds) (rows : List (List ℤ)) (m : ℕ → ℕ → Cell ℤ) (e : ℕ → ℕ → Cell Fraction) → let b = Pt1 xty ty x teq k in let rule = state_rule_of i b in (wire_at net.wires i).item ≡ OfBlock b → ReadsWithin net rule.reads known m e → IsWithin (rule.bounds (bounds_read rule.reads known)) (equation_of machine net rows m i (OfBlock b)).state_unsaturated (equation_of exact net rows e i (OfBlock b)).state
unfolding equation_of machine machine_cell machine_state_of exact exact_cell state_formula lag_rounded
lag_within net i xty ty x teq k known rows m e is within =
    let given = known (part_on i Y) ∷ known (part_on i X1) ∷ [] in
    let state : IsWithin (known (part_on i Y)) (m 1 i).state (e 1 i).state = within 0 (omega arith) 0 (omega arith) in
    let last : IsWithin (known (part_on i X1)) (m 1 x.0).value (e 1 x.0).value = last_read net i (Pt1 xty ty x teq k) (known (part_on i X1)) m e is (within 1 (omega arith) 0 (omega arith)) in
    let ms = two (m 1 i).state (m 1 x.0).value in
    let es = two (e 1 i).state (e 1 x.0).value in
    ((lags_keep_rules teq k).sound given ms es tt refl (both_hold (λ p. IsWithin (bounds_at given p) (ms p) (es p)) state last)).within

-- a lag that the difference of this row's input and the one's before drives
pub second_within : (net : NetData) (i : ℕ) (xty ty : Ty) (x : WireNo) (teq : ℕ) (k : ℤ) (known : Part → Bounds) (rows : List (List ℤ)) (m : ℕ → ℕ → Cell ℤ) (e : ℕ → ℕ → Cell Fraction) → let b = Dt1 true xty ty x teq k in let rule = state_rule_of i b in (wire_at net.wires i).item ≡ OfBlock b → ReadsWithin net rule.reads known m e → IsWithin (rule.bounds (bounds_read rule.reads known)) (equation_of machine net rows m i (OfBlock b)).state_unsaturated (equation_of exact net rows e i (OfBlock b)).state
unfolding equation_of machine machine_cell machine_state_of exact exact_cell state_formula difference_rounded
second_within net i xty ty x teq k known rows m e is within =
    let given = known (part_on i Y) ∷ known (part_on x.0 Value) ∷ known (part_on i X1) ∷ [] in
    let state : IsWithin (known (part_on i Y)) (m 1 i).state (e 1 i).state = within 0 (omega arith) 0 (omega arith) in
    let now : IsWithin (known (part_on x.0 Value)) (m 0 x.0).value (e 0 x.0).value = within 1 (omega arith) 0 (omega arith) in
    let last : IsWithin (known (part_on i X1)) (m 1 x.0).value (e 1 x.0).value = last_read net i (Dt1 true xty ty x teq k) (known (part_on i X1)) m e is (within 2 (omega arith) 0 (omega arith)) in
    let ms = three (m 1 i).state (m 0 x.0).value (m 1 x.0).value in
    let es = three (e 1 i).state (e 0 x.0).value (e 1 x.0).value in
    ((differences_keep_rules true teq k).sound given ms es tt refl (three_hold (λ p. IsWithin (bounds_at given p) (ms p) (es p)) state now last)).within

-- one that the difference of the input of the row before and the one before that drives
pub first_within : (net : NetData) (i : ℕ) (xty ty : Ty) (x : WireNo) (teq : ℕ) (k : ℤ) (known : Part → Bounds) (rows : List (List ℤ)) (m : ℕ → ℕ → Cell ℤ) (e : ℕ → ℕ → Cell Fraction) → let b = Dt1 false xty ty x teq k in let rule = state_rule_of i b in (wire_at net.wires i).item ≡ OfBlock b → ReadsWithin net rule.reads known m e → IsWithin (rule.bounds (bounds_read rule.reads known)) (equation_of machine net rows m i (OfBlock b)).state_unsaturated (equation_of exact net rows e i (OfBlock b)).state
unfolding equation_of machine machine_cell machine_state_of exact exact_cell state_formula difference_rounded
first_within net i xty ty x teq k known rows m e is within =
    let b = Dt1 false xty ty x teq k in
    let given = known (part_on i Y) ∷ known (part_on i X1) ∷ known (part_on i X2) ∷ [] in
    let state : IsWithin (known (part_on i Y)) (m 1 i).state (e 1 i).state = within 0 (omega arith) 0 (omega arith) in
    let last : IsWithin (known (part_on i X1)) (m 1 x.0).value (e 1 x.0).value = last_read net i b (known (part_on i X1)) m e is (within 1 (omega arith) 0 (omega arith)) in
    let older : IsWithin (known (part_on i X2)) (m 2 x.0).value (e 2 x.0).value = older_read net i b (known (part_on i X2)) m e is (within 2 (omega arith) 0 (omega arith)) in
    let ms = three (m 1 i).state (m 1 x.0).value (m 2 x.0).value in
    let es = three (e 1 i).state (e 1 x.0).value (e 2 x.0).value in
    ((differences_keep_rules false teq k).sound given ms es tt refl (three_hold (λ p. IsWithin (bounds_at given p) (ms p) (es p)) state last older)).within

-- ---- values

pub gain_within : (net : NetData) (i : ℕ) (xty ty : Ty) (x : WireNo) (k : ℤ) (known : Part → Bounds) (rows : List (List ℤ)) (m : ℕ → ℕ → Cell ℤ) (e : ℕ → ℕ → Cell Fraction) → let b = Gain xty ty x k in let rule = value_rule_of net i b in ReadsWithin net rule.reads known m e → IsWithin (rule.bounds (bounds_read rule.reads known)) (equation_of machine net rows m i (OfBlock b)).value_unsaturated (equation_of exact net rows e i (OfBlock b)).value
unfolding equation_of machine machine_cell machine_state_of exact exact_cell state_formula formula quotient_of gain_rounded
gain_within net i xty ty x k known rows m e within =
    let given = known (part_on x.0 Value) ∷ [] in
    ((gains_keep_rules k).sound given (λ p. (m 0 x.0).value) (λ p. (e 0 x.0).value) tt refl (λ p h. let here : p ≡ 0 = omega arith in subst (λ (n : ℕ). IsWithin (bounds_at given n) (m 0 x.0).value (e 0 x.0).value) (sym here) (within 0 (omega arith) 0 (omega arith)))).within

-- the value of a lag, from its new state
value_from : (known : Bounds) (v : ℤ) (f : Fraction) → IsWithin known v f → IsWithin (value_bounds (bounds_at (known ∷ []))) (value_rounded (λ p. v)) (value_formula f)
value_from known v f h =
    let given = known ∷ [] in
    (values_keep_rules.sound given (λ p. v) (λ p. f) tt refl (λ p h'. let here : p ≡ 0 = omega arith in subst (λ (n : ℕ). IsWithin (bounds_at given n) v f) (sym here) h)).within

pub lag_value_within : (net : NetData) (i : ℕ) (xty ty : Ty) (x : WireNo) (teq : ℕ) (k : ℤ) (known : Part → Bounds) (rows : List (List ℤ)) (m : ℕ → ℕ → Cell ℤ) (e : ℕ → ℕ → Cell Fraction) → let b = Pt1 xty ty x teq k in let rule = value_rule_of net i b in (m 0 i).state ≡ (equation_of machine net rows m i (OfBlock b)).state → (e 0 i).state ≡ (equation_of exact net rows e i (OfBlock b)).state → ReadsWithin net rule.reads known m e → IsWithin (rule.bounds (bounds_read rule.reads known)) (equation_of machine net rows m i (OfBlock b)).value_unsaturated (equation_of exact net rows e i (OfBlock b)).value
unfolding equation_of machine machine_cell machine_state_of exact exact_cell state_formula formula quotient_of value_rounded
lag_value_within net i xty ty x teq k known rows m e own_m own_e within =
    value_from (known (part_on i Y)) _ _ (within_at (known (part_on i Y)) _ _ _ _ (sym own_m) (sym own_e) (within 0 (omega arith) 0 (omega arith)))

pub difference_value_within : (net : NetData) (i : ℕ) (second : Bool) (xty ty : Ty) (x : WireNo) (teq : ℕ) (k : ℤ) (known : Part → Bounds) (rows : List (List ℤ)) (m : ℕ → ℕ → Cell ℤ) (e : ℕ → ℕ → Cell Fraction) → let b = Dt1 second xty ty x teq k in let rule = value_rule_of net i b in (m 0 i).state ≡ (equation_of machine net rows m i (OfBlock b)).state → (e 0 i).state ≡ (equation_of exact net rows e i (OfBlock b)).state → ReadsWithin net rule.reads known m e → IsWithin (rule.bounds (bounds_read rule.reads known)) (equation_of machine net rows m i (OfBlock b)).value_unsaturated (equation_of exact net rows e i (OfBlock b)).value
unfolding equation_of machine machine_cell machine_state_of exact exact_cell state_formula formula quotient_of value_rounded
difference_value_within net i second xty ty x teq k known rows m e own_m own_e within =
    value_from (known (part_on i Y)) _ _ (within_at (known (part_on i Y)) _ _ _ _ (sym own_m) (sym own_e) (within 0 (omega arith) 0 (omega arith)))

-- an average's value, from the input and the window of the row before
pub average_within : (net : NetData) (i : ℕ) (xty ty : Ty) (x : WireNo) (n : ℕ) (known : Part → Bounds) (rows : List (List ℤ)) (m : ℕ → ℕ → Cell ℤ) (e : ℕ → ℕ → Cell Fraction) → let b = Average xty ty x n in let rule = value_rule_of net i b in (wire_at net.wires i).item ≡ OfBlock b → 1 ≤ n → ReadsWithin net rule.reads known m e → IsWithin (rule.bounds (bounds_read rule.reads known)) (equation_of machine net rows m i (OfBlock b)).value_unsaturated (equation_of exact net rows e i (OfBlock b)).value
unfolding equation_of machine machine_cell machine_state_of exact exact_cell state_formula formula quotient_of
average_within net i xty ty x n known rows m e is some within =
    let given = known (part_on x.0 Value) ∷ known (part_on i W) ∷ [] in
    averages_are_sound n some (bounds_at given) (λ ago. (m ago x.0).value) (λ ago. (e ago x.0).value) (within 0 (omega arith) 0 (omega arith)) window
  where
    window : (ago : ℕ) → 1 ≤ ago → ago < n → IsWithin (known (part_on i W)) (m ago x.0).value (e ago x.0).value
    window zero low high = absurd (omega arith)
    window (suc ago) low high =
        subst (λ item. IsWithin (known (part_on i W)) (m (suc ago) (held_wire W i item)).value (e (suc ago) (held_wire W i item)).value) is
        (within 1 (omega arith) ago (subst (λ item. ago < count_held W item) (sym is) (omega arith)))
