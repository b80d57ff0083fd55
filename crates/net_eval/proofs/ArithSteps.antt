-- The steps of Mfx arithmetic: what they are given, and the values that they give.
use Rattle.std.proofs.Common.{◌≡◌, ℕ, ◌<◌, ◌≤◌, List, [], ◌∷◌, length, ℤ, refl, sym, ap, ap₂, ◌∙◌, arith}
use Rattle.std.specs.Prelude.{IfSome, slice_get}
use Rattle.fx_fraction.specs.Fraction.{Fraction, whole}
use Rattle.fx_core.specs.declared.word_type.Ty.{Ty}
use Rattle.fx_core.specs.declared.quotient.Mode.TheVariants.{Zero}
use Rattle.fx_core.specs.Types.{Holds, least_of, greatest_of}
use Rattle.fx_core.specs.Arguments.{three}
use Rattle.fx_core.specs.Values.{value_between, value_in}
use Rattle.fx_core.proofs.TypeLaws.{saturated_held}
use Rattle.fx_routines.specs.declared.operation.ArithOp.{ArithOp}
use Rattle.fx_routines.specs.declared.operation.ArithOp.TheVariants.{Add, Abs, MulDiv, Limit, Min, Max, RateLimiter}
use Rattle.fx_routines.specs.declared.operation.Variant.{Variant}
use Rattle.mfx_arith.specs.Operations.{argument_types, AreHeld, HasArguments}
use Rattle.mfx_arith.specs.Formulas.{arith_formula, quotient_of}
use Rattle.mfx_arith.specs.Calls.{arith_value}
use Rattle.net_model.specs.declared.wires.WireNo.{WireNo}
use Rattle.net_model.specs.declared.wires.Kind.{Kind}
use Rattle.net_model.specs.declared.wires.Kind.TheVariants.{Num}
use Rattle.net_model.specs.declared.wires.Block.TheVariants.{Arith}
use Rattle.net_model.specs.declared.wires.Item.TheVariants.{Block as OfBlock}
use Rattle.net_model.specs.Wires.{NamedAxis, NetData, wire_at, argument_of, kind_least, kind_greatest}
use Rattle.net_model.specs.Validity.{IsValid}
use Rattle.net_model.proofs.FamilyFacts.{shift_from_test}
use Rattle.net_model.proofs.ValidityFacts.{arith-valid, number_kind}
use Rattle.net_meaning.specs.Cells.{cell_at}
use Rattle.net_meaning.specs.Blocks.{machine, machine_cell, formula, state_formula, quotient_of as block_quotient}
use Rattle.net_meaning.specs.Runs.{equation_of}
use Rattle.net_eval.proofs.FaithfulSteps.{IsFaithful, given_held, held_in_kind, value_at-values_in}

-- ---- what is given

-- a routine has at most three arguments
few_types : (op : ArithOp) (v : Variant) → length (argument_types op v) ≤ 3
few_types MulDiv v = omega arith
few_types Abs v = omega arith
few_types Limit v = omega arith
few_types Min v = omega arith
few_types Max v = omega arith
few_types RateLimiter v = omega arith
few_types other v = omega arith

-- numbers of at most three types, one by one
held_types : (types : List Ty) (x y z : ℤ) → length types ≤ 3 → IfSome (slice_get types 0) (λ t. Holds t x) → IfSome (slice_get types 1) (λ t. Holds t y) → IfSome (slice_get types 2) (λ t. Holds t z) → AreHeld types (x ∷ y ∷ z ∷ [])
held_types [] x y z few h k l = tt
held_types (s ∷ []) x y z few h k l = (h, tt)
held_types (s ∷ t ∷ []) x y z few h k l = (h, (k, tt))
held_types (s ∷ t ∷ u ∷ []) x y z few h k l = (h, (k, (l, tt)))
held_types (s ∷ t ∷ u ∷ w ∷ more) x y z few h k l = absurd (omega arith)

arguments_held : (op : ArithOp) (v : Variant) (x y z : ℤ) → IfSome (slice_get (argument_types op v) 0) (λ t. Holds t x) → IfSome (slice_get (argument_types op v) 1) (λ t. Holds t y) → IfSome (slice_get (argument_types op v) 2) (λ t. Holds t z) → HasArguments op v x y z
arguments_held op v x y z h k l = held_types (argument_types op v) x y z (few_types op v) h k l

-- ---- the value

-- a formula reads no more than three arguments
formula_reads : (op : ArithOp) (sh : ℕ) (m : ℕ → ℤ) → arith_formula op sh (three (whole (m 0)) (whole (m 1)) (whole (m 2))) ≡ arith_formula op sh (λ p. whole (m p))
formula_reads Add sh m = refl
formula_reads other sh m = refl

quotient_reads : (op : ArithOp) (sh : ℕ) (m : ℕ → ℤ) → quotient_of op sh (three (whole (m 0)) (whole (m 1)) (whole (m 2))) ≡ quotient_of op sh (λ p. whole (m p))
quotient_reads Add sh m = refl
quotient_reads other sh m = refl

-- the value of an operation between the ends of a kind, in a network with these axes, from its arguments by number
abbrev arith_between : List NamedAxis → ArithOp → Kind → (ℕ → ℤ) → ℕ → ℤ
arith_between axes op kind m sh =
    let given : ℕ → Fraction = λ p. whole (m p) in
    value_between Zero (kind_least axes kind) (kind_greatest axes kind) (quotient_of op sh given) (arith_formula op sh given)

-- a routine's value on a wire of its output's type
arith_value-is : (axes : List NamedAxis) (op : ArithOp) (t : Ty) (kind : Kind) (point : ℕ) (m : ℕ → ℤ) (sh : ℕ) → kind ≡ Num t point → arith_value op t (m 0) (m 1) (m 2) sh ≡ arith_between axes op kind m sh
unfolding arith_value value_in
arith_value-is axes op t kind point m sh e =
    ap₂ (value_between Zero (least_of t) (greatest_of t)) (quotient_reads op sh m) (formula_reads op sh m)
    ∙ ap (λ k. arith_between axes op k m sh) (sym e)

-- of other names of the same arguments
arith_value-same : (op : ArithOp) (t : Ty) (x y z x' y' z' : ℤ) (sh : ℕ) → x ≡ x' → y ≡ y' → z ≡ z' → arith_value op t x y z sh ≡ arith_value op t x' y' z' sh
arith_value-same op t x y z x' y' z' sh h k l =
    ap₂ (λ a b. arith_value op t a b z sh) h k ∙ ap (λ c. arith_value op t x' y' c sh) l

-- ---- the step

pub arith_faithful : (net : NetData) (i : ℕ) (op : ArithOp) (v : Variant) (x y z : WireNo) (shift : ℕ) → IsValid net → i < length net.wires → (wire_at net.wires i).item ≡ OfBlock (Arith op v x y z shift) → IsFaithful net i (OfBlock (Arith op v x y z shift))
unfolding arith_value value_in equation_of machine machine_cell formula state_formula block_quotient
arith_faithful net i op v x y z shift valid lt e =
    let g = arith-valid net i op v x y z shift valid lt e in
    let kind = number_kind v.o (wire_at net.wires i).kind g.output in
    let types = argument_types op v in
    record {
      ready = λ state inputs values one_each len held may. (
        omega (arith, len, g.earlier_x),
        omega (arith, len, g.earlier_y),
        omega (arith, len, g.earlier_z),
        g.taken,
        arguments_held op v _ _ _ (given_held net values i x (slice_get types 0) x held g.first) (given_held net values i x (slice_get types 1) y held g.second) (given_held net values i x (slice_get types 2) z held g.third),
        shift_from_test op shift g.shift,
      );
      held = λ state inputs values typed may. held_in_kind net.axes v.o _ kind.0 _ kind.1 (saturated_held v.o _);
      right = λ state inputs rows past cells kept.
          arith_value-same op v.o _ _ _ _ _ _ shift (value_at-values_in cells x.0) (value_at-values_in cells y.0) (value_at-values_in cells z.0)
          ∙ arith_value-is net.axes op v.o (wire_at net.wires i).kind kind.0 (λ p. (cell_at machine (cells ∷ past) 0 (argument_of (Arith op v x y z shift) p)).value) shift kind.1;
    }
