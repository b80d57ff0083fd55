-- What the equation of a block's wire makes is within what the rule of each of its parts gives, block by block.
use Rattle.std.specs.Prelude.{◌≡◌, ℕ, ◌<◌, ◌≤◌, Bool, true, false, List, [], ◌∷◌, length, ℤ, pos, IsTrue, Option, Some, None}
use Rattle.std.proofs.Common.{refl, ap, sym, ◌∙◌, subst, arith}
use Rattle.std.proofs.lemmas.Bool.{false≢true}
use Rattle.fx_fraction.specs.Fraction.{Fraction, whole}
use Rattle.fx_core.specs.Values.{Divides, unsaturated}
use Rattle.net_model.specs.declared.wires.Kind.{Kind}
use Rattle.net_model.specs.declared.wires.Block.{Block}
use Rattle.net_model.specs.declared.wires.Block.TheVariants.{Gain, Average, Pt1, Dt1}
use Rattle.net_model.specs.declared.wires.Item.TheVariants.{Block as OfBlock}
use Rattle.net_model.specs.declared.wires.Role.{Role}
use Rattle.net_model.specs.declared.wires.Role.TheVariants.{Y, X1, X2, W, Value}
use Rattle.net_model.specs.declared.wires.Part.{Part}
use Rattle.net_model.specs.Wires.{NetData, wire_at, argument_of, block_roles, has_role, kind_least, kind_greatest}
use Rattle.net_model.specs.Validity.{IsValid}
use Rattle.net_model.proofs.ValidityFacts.{average-valid}
use Rattle.net_meaning.specs.Cells.{Cell, values_read as read_values, wire_values}
use Rattle.net_meaning.specs.Blocks.{as_fractions, formula, state_formula, quotient_of, mode_of, machine, machine_cell, machine_state_of, exact, exact_cell}
use Rattle.net_meaning.specs.Runs.{equation_of}
use Rattle.part_rules.specs.declared.bounds.Bounds.{Bounds}
use Rattle.part_rules.specs.Within.{IsWithin}
use Rattle.part_rules.specs.PartRules.{KeepsRule, PartRule, Reading, bounds_at, bounds_read, given_by, read_now}
use Rattle.cert_rules.specs.Rules.{argument_part, block_rule, copied_rule, held_wire, kept_reading, kept_rule_of, no_rule, part_on, state_rule_of, value_rule_of}
use Rattle.cert_rules.specs.GivenBounds.{reading_at}
use Rattle.cert_rules.specs.Soundness.{count_of, value_of}
use Rattle.cert_rules.proofs.BlockRules.{FitReads, plain_meaning, plain_reads, values_keep_rules, values_read}
use Rattle.cert_rules.proofs.FilterBlocks.{average_within, difference_value_within, first_within, gain_within, lag_value_within, lag_within, second_within}
use Rattle.cert_rules.proofs.PartValues.{IsReadWithin, PartKeeps, ReadsWithin, is_ruled, not_by_zero, within_at}
use Rattle.cert_rules.proofs.Readings.{given_at}
use Rattle.cert_rules.proofs.ReadParts.{values_at}

-- ---- values without a state

-- the values of a block's arguments at the same row
abbrev values_now : {V : Type 0} → Block → (ℕ → ℕ → Cell V) → ℕ → V
values_now b cells p = (cells 0 (argument_of b p)).value

-- they are within what its rule is given
arguments_within : (net : NetData) (b : Block) (rule : PartRule Part) (known : Part → Bounds) (m : ℕ → ℕ → Cell ℤ) (e : ℕ → ℕ → Cell Fraction) → rule.reads ≡ values_read b → ReadsWithin net rule.reads known m e → (q : ℕ) → q < length rule.reads → IsWithin (bounds_at (bounds_read rule.reads known) q) (values_now b m q) (values_now b e q)
arguments_within net b rule known m e same within q l =
    let l' : q < length (values_read b) = rw same at l in
    let is : reading_at rule.reads q ≡ read_now (argument_part b q) = ap (λ r. reading_at r q) same ∙ values_at b q l' in
    let here = subst (λ (t : Reading Part). (n : ℕ) → n < count_of net t.part → IsReadWithin net known m e t n) is (within q l) 0 (omega arith) in
    rw (given_at rule.reads known q l ∙ ap (λ r. known r.part) is) here

-- a block that means its formula at its arguments keeps to what its rule gives
plain_keeps : (net : NetData) (i : ℕ) (b : Block) (known : Part → Bounds) (rows : List (List ℤ)) (m : ℕ → ℕ → Cell ℤ) (e : ℕ → ℕ → Cell Fraction) (bounds : Bounds) →
    let kind = (wire_at net.wires i).kind in
    let rule = value_rule_of net i b in
    rule.reads ≡ values_read b →
    KeepsRule rule (plain_meaning net kind b) (FitReads net rule.reads) →
    ((values : ℕ → ℕ → Fraction) → quotient_of net kind b (read_values b values) ≡ quotient_of net kind b (λ p ago. values 0 (argument_of b p))) →
    (equation_of machine net rows m i (OfBlock b)).value_unsaturated ≡ unsaturated (mode_of b) (kind_least net.axes kind) (kind_greatest net.axes kind) (quotient_of net kind b (λ p ago. whole (values_now b m p))) (formula net kind b (λ p ago. whole (values_now b m p)) (whole (pos 0))) →
    (equation_of exact net rows e i (OfBlock b)).value ≡ formula net kind b (λ p ago. values_now b e p) (whole (pos 0)) →
    FitReads net rule.reads (bounds_read rule.reads known) → ReadsWithin net rule.reads known m e → given_by rule known ≡ Some bounds → PartKeeps net i Value (OfBlock b) rows m e bounds
plain_keeps net i b known rows m e bounds reads keeps quotient value exactly fit within given =
    let kind = (wire_at net.wires i).kind in
    let rule = value_rule_of net i b in
    let r = is_ruled rule known bounds given in
    let k = keeps.sound (bounds_read rule.reads known) (values_now b m) (values_now b e) fit r.ruled (arguments_within net b rule known m e reads within) in
    record {
      machine_divides = rw (quotient (as_fractions (wire_values m))) k.machine_divides;
      exact_divides = rw (quotient (wire_values e)) k.exact_divides;
      within = within_at bounds _ _ _ _ (value ∙ not_by_zero (mode_of b) (kind_least net.axes kind) (kind_greatest net.axes kind) (quotient_of net kind b (λ p ago. whole (values_now b m p))) (formula net kind b (λ p ago. whole (values_now b m p)) (whole (pos 0))) k.machine_divides) exactly (rw r.same at k.within);
    }

-- ---- the value of each block

-- the state of a block's wire is by its equation
abbrev HasState : NetData → ℕ → Block → List (List ℤ) → (ℕ → ℕ → Cell ℤ) → (ℕ → ℕ → Cell Fraction) → Type 0
HasState net i b rows m e =
    IsTrue (has_role Y (block_roles b)) → ((m 0 i).state ≡ (equation_of machine net rows m i (OfBlock b)).state) × ((e 0 i).state ≡ (equation_of exact net rows e i (OfBlock b)).state)

value_keeps : (net : NetData) (i : ℕ) (b : Block) (known : Part → Bounds) (rows : List (List ℤ)) (m : ℕ → ℕ → Cell ℤ) (e : ℕ → ℕ → Cell Fraction) (bounds : Bounds) → IsValid net → i < length net.wires → (wire_at net.wires i).item ≡ OfBlock b → HasState net i b rows m e → FitReads net (value_rule_of net i b).reads (bounds_read (value_rule_of net i b).reads known) → ReadsWithin net (value_rule_of net i b).reads known m e → given_by (value_rule_of net i b) known ≡ Some bounds → PartKeeps net i Value (OfBlock b) rows m e bounds
unfolding equation_of machine machine_cell machine_state_of exact exact_cell state_formula quotient_of formula
value_keeps net i (Gain xty ty x k) known rows m e bounds valid h is state fit within given =
    let r = is_ruled (value_rule_of net i (Gain xty ty x k)) known bounds given in
    record { machine_divides = tt; exact_divides = tt; within = rw r.same at (gain_within net i xty ty x k known rows m e within) }
value_keeps net i (Average xty ty x n) known rows m e bounds valid h is state fit within given =
    let r = is_ruled (value_rule_of net i (Average xty ty x n)) known bounds given in
    let some : 1 ≤ n = (average-valid net i xty ty x n valid h is).some in
    record { machine_divides = tt; exact_divides = tt; within = rw r.same at (average_within net i xty ty x n known rows m e is some within) }
value_keeps net i (Pt1 xty ty x teq k) known rows m e bounds valid h is state fit within given =
    let r = is_ruled (value_rule_of net i (Pt1 xty ty x teq k)) known bounds given in
    let own = state refl in
    record { machine_divides = tt; exact_divides = tt; within = rw r.same at (lag_value_within net i xty ty x teq k known rows m e own.0 own.1 within) }
value_keeps net i (Dt1 true xty ty x teq k) known rows m e bounds valid h is state fit within given =
    let r = is_ruled (value_rule_of net i (Dt1 true xty ty x teq k)) known bounds given in
    let own = state refl in
    record { machine_divides = tt; exact_divides = tt; within = rw r.same at (difference_value_within net i true xty ty x teq k known rows m e own.0 own.1 within) }
value_keeps net i (Dt1 false xty ty x teq k) known rows m e bounds valid h is state fit within given =
    let r = is_ruled (value_rule_of net i (Dt1 false xty ty x teq k)) known bounds given in
    let own = state refl in
    record { machine_divides = tt; exact_divides = tt; within = rw r.same at (difference_value_within net i false xty ty x teq k known rows m e own.0 own.1 within) }
value_keeps net i other known rows m e bounds valid h is state fit within given =
    plain_keeps net i other known rows m e bounds (plain_reads net i other refl) (values_keep_rules net i other valid h is) (λ values. refl) refl refl fit within given

-- ---- the state of each block that has one

nothing_given : {A : Type 0} (b : Bounds) → ◌≡◌ {A = Option Bounds} None (Some b) → A
nothing_given b h = absurd (cc)

state_keeps : (net : NetData) (i : ℕ) (b : Block) (known : Part → Bounds) (rows : List (List ℤ)) (m : ℕ → ℕ → Cell ℤ) (e : ℕ → ℕ → Cell Fraction) (bounds : Bounds) → (wire_at net.wires i).item ≡ OfBlock b → ReadsWithin net (state_rule_of i b).reads known m e → given_by (state_rule_of i b) known ≡ Some bounds → PartKeeps net i Y (OfBlock b) rows m e bounds
unfolding quotient_of
state_keeps net i (Pt1 xty ty x teq k) known rows m e bounds is within given =
    let r = is_ruled (state_rule_of i (Pt1 xty ty x teq k)) known bounds given in
    record { machine_divides = tt; exact_divides = tt; within = rw r.same at (lag_within net i xty ty x teq k known rows m e is within) }
state_keeps net i (Dt1 true xty ty x teq k) known rows m e bounds is within given =
    let r = is_ruled (state_rule_of i (Dt1 true xty ty x teq k)) known bounds given in
    record { machine_divides = tt; exact_divides = tt; within = rw r.same at (second_within net i xty ty x teq k known rows m e is within) }
state_keeps net i (Dt1 false xty ty x teq k) known rows m e bounds is within given =
    let r = is_ruled (state_rule_of i (Dt1 false xty ty x teq k)) known bounds given in
    record { machine_divides = tt; exact_divides = tt; within = rw r.same at (first_within net i xty ty x teq k known rows m e is within) }
state_keeps net i other known rows m e bounds is within given = nothing_given bounds given

-- ---- what a block keeps of earlier rows

-- a block that keeps something divides by nothing
keeper_divides : (net : NetData) (kind : Kind) (b : Block) (role : Role) (values : ℕ → ℕ → Fraction) → has_role role (Value ∷ []) ≡ false → has_role role (block_roles b) ≡ true → Divides (quotient_of net kind b values)
unfolding quotient_of
keeper_divides net kind (Average xty ty x n) role values none has = tt
keeper_divides net kind (Pt1 xty ty x teq k) role values none has = tt
keeper_divides net kind (Dt1 second xty ty x teq k) role values none has = tt
keeper_divides net kind other role values none has = absurd (false≢true (sym none ∙ has))

-- what is held of the wire of a block that keeps values of another
abbrev IsCopied : NetData → ℕ → Block → Role → (Part → Bounds) → (ℕ → ℕ → Cell ℤ) → (ℕ → ℕ → Cell Fraction) → Type 0
IsCopied net i b role known m e =
    IsWithin (known (kept_reading i b role).part) (value_of net (part_on i role) m 0) (value_of net (part_on i role) e 0)

-- the input is that of the same row
last_copied : (net : NetData) (i : ℕ) (b : Block) (bounds : Bounds) (m : ℕ → ℕ → Cell ℤ) (e : ℕ → ℕ → Cell Fraction) (role : Role) → (wire_at net.wires i).item ≡ OfBlock b → IsWithin bounds (m 0 (held_wire role i (OfBlock b))).value (e 0 (held_wire role i (OfBlock b))).value → IsWithin bounds (m 0 (held_wire role i (wire_at net.wires i).item)).value (e 0 (held_wire role i (wire_at net.wires i).item)).value
last_copied net i b bounds m e role is h = rw is h

copied : (net : NetData) (i : ℕ) (b : Block) (role : Role) (known : Part → Bounds) (m : ℕ → ℕ → Cell ℤ) (e : ℕ → ℕ → Cell Fraction) → (wire_at net.wires i).item ≡ OfBlock b → has_role role (Value ∷ Y ∷ []) ≡ false → ReadsWithin net (kept_reading i b role ∷ []) known m e → IsCopied net i b role known m e
copied net i b Value known m e is none within = absurd (cc)
copied net i b Y known m e is none within = absurd (cc)
copied net i b X1 known m e is none within = last_copied net i b (known (kept_reading i b X1).part) m e X1 is (within 0 (omega arith) 0 (omega arith))
copied net i b X2 known m e is none within = within 0 (omega arith) 0 (omega arith)
copied net i b W known m e is none within = last_copied net i b (known (kept_reading i b W).part) m e W is (within 0 (omega arith) 0 (omega arith))

-- a part of a block that keeps values of another wire
record IsKeptPart (net : NetData) (i : ℕ) (b : Block) (role : Role) (rows : List (List ℤ)) (m : ℕ → ℕ → Cell ℤ) (e : ℕ → ℕ → Cell Fraction) (bounds : Bounds) : Type 0 where
  machine_divides : Divides (quotient_of net (wire_at net.wires i).kind b (read_values b (as_fractions (wire_values m))))
  exact_divides : Divides (quotient_of net (wire_at net.wires i).kind b (read_values b (wire_values e)))
  within : IsWithin bounds (value_of net (part_on i role) m 0) (value_of net (part_on i role) e 0)

kept_keeps : (net : NetData) (i : ℕ) (b : Block) (role : Role) (known : Part → Bounds) (rows : List (List ℤ)) (m : ℕ → ℕ → Cell ℤ) (e : ℕ → ℕ → Cell Fraction) (bounds : Bounds) (has : Bool) → has_role role (block_roles b) ≡ has → (wire_at net.wires i).item ≡ OfBlock b → has_role role (Value ∷ Y ∷ []) ≡ false → has_role role (Value ∷ []) ≡ false → ReadsWithin net (kept_rule_of i b role).reads known m e → given_by (kept_rule_of i b role) known ≡ Some bounds → IsKeptPart net i b role rows m e bounds
kept_keeps net i b role known rows m e bounds true has is none single within given =
    let read : ReadsWithin net (kept_reading i b role ∷ []) known m e = rw has at within in
    let gives : given_by (copied_rule (kept_reading i b role)) known ≡ Some bounds = rw has at given in
    let r = is_ruled (copied_rule (kept_reading i b role)) known bounds gives in
    record {
      machine_divides = keeper_divides net (wire_at net.wires i).kind b role (read_values b (as_fractions (wire_values m))) single has;
      exact_divides = keeper_divides net (wire_at net.wires i).kind b role (read_values b (wire_values e)) single has;
      within = rw r.same at (copied net i b role known m e is none read);
    }
kept_keeps net i b role known rows m e bounds false has is none single within given =
    let gives : given_by no_rule known ≡ Some bounds = rw has at given in nothing_given bounds gives

-- ---- each part of a block

pub block_keeps : (net : NetData) (i : ℕ) (b : Block) (role : Role) (known : Part → Bounds) (rows : List (List ℤ)) (m : ℕ → ℕ → Cell ℤ) (e : ℕ → ℕ → Cell Fraction) (bounds : Bounds) → IsValid net → i < length net.wires → (wire_at net.wires i).item ≡ OfBlock b → HasState net i b rows m e → FitReads net (block_rule net i b role).reads (bounds_read (block_rule net i b role).reads known) → ReadsWithin net (block_rule net i b role).reads known m e → given_by (block_rule net i b role) known ≡ Some bounds → PartKeeps net i role (OfBlock b) rows m e bounds
unfolding block_rule
block_keeps net i b Value known rows m e bounds valid h is state fit within given = value_keeps net i b known rows m e bounds valid h is state fit within given
block_keeps net i b Y known rows m e bounds valid h is state fit within given = state_keeps net i b known rows m e bounds is within given
block_keeps net i b X1 known rows m e bounds valid h is state fit within given =
    let k = kept_keeps net i b X1 known rows m e bounds _ refl is refl refl within given in
    record { machine_divides = k.machine_divides; exact_divides = k.exact_divides; within = k.within }
block_keeps net i b X2 known rows m e bounds valid h is state fit within given =
    let k = kept_keeps net i b X2 known rows m e bounds _ refl is refl refl within given in
    record { machine_divides = k.machine_divides; exact_divides = k.exact_divides; within = k.within }
block_keeps net i b W known rows m e bounds valid h is state fit within given =
    let k = kept_keeps net i b W known rows m e bounds _ refl is refl refl within given in
    record { machine_divides = k.machine_divides; exact_divides = k.exact_divides; within = k.within }
