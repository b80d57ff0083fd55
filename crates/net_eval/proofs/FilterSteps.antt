-- The steps of the filters: what they are given, the values that they give, and what they keep.
use Rattle.std.proofs.Common.{◌≡◌, ℕ, zero, suc, ◌-◌, ◌<◌, Bool, List, [], ◌∷◌, length, take, get_or, replicate, ℤ, pos, refl, sym, ap, ap₂, ◌∙◌, subst, arith}
use Rattle.std.proofs.lemmas.Int.{ints}
use Rattle.std.proofs.lemmas.List.{ext_get_or, get_or-replicate, get_or-take, length-replicate, length-take-le}
use Rattle.std.proofs.lemmas.List.FromFn.{length-map-range_with_len}
use Rattle.fx_fraction.specs.Fraction.{Fraction, whole, plus, divided}
use Rattle.fx_core.specs.declared.word_type.Ty.{Ty}
use Rattle.fx_core.specs.declared.word_type.Ty.TheVariants.{U8}
use Rattle.fx_core.specs.declared.quotient.Mode.TheVariants.{Near}
use Rattle.fx_core.specs.Types.{Holds, saturated, saturated_to}
use Rattle.fx_core.specs.Values.{rounded_fraction}
use Rattle.fx_core.proofs.TypeLaws.{saturated_held}
use Rattle.efx_filters.specs.Formulas.{sum_of, average_formula}
use Rattle.efx_filters.specs.States.{next_state, state_value, gain_value, average_value, input_ago}
use Rattle.net_model.specs.declared.wires.WireNo.{WireNo}
use Rattle.net_model.specs.declared.wires.Kind.{Kind}
use Rattle.net_model.specs.declared.wires.Kind.TheVariants.{Num}
use Rattle.net_model.specs.declared.wires.Block.{Block}
use Rattle.net_model.specs.declared.wires.Block.TheVariants.{Gain, Average, Pt1, Dt1}
use Rattle.net_model.specs.declared.wires.Item.TheVariants.{Block as OfBlock}
use Rattle.net_model.specs.Wires.{NamedAxis, NetData, wire_at, kind_least, kind_greatest}
use Rattle.net_model.specs.Validity.{IsValid}
use Rattle.net_model.proofs.ValidityFacts.{IsInKind, IsGoodFilter, number_kind, gain-valid, average-valid, pt1-valid, dt1-valid}
use Rattle.net_meaning.specs.Cells.{Cell, cell_at}
use Rattle.net_meaning.specs.Blocks.{machine, machine_cell, machine_state_of, formula, state_formula, quotient_of as block_quotient}
use Rattle.net_meaning.specs.Runs.{equation_of}
use Rattle.net_meaning.proofs.Arguments.{arguments_earlier}
use Rattle.net_meaning.proofs.TableRun.{row-meets}
use Rattle.net_eval.specs.declared.states.State.{State}
use Rattle.net_eval.specs.declared.states.State.TheVariants.{Nothing, Held, Gaining, Lagging, Differencing, Averaging}
use Rattle.net_eval.specs.States.{TakesInput, block_start, filter_value, filter_after, last_values, restarted, value_ago}
use Rattle.net_eval.specs.Steps.{value_at}
use Rattle.net_eval.proofs.Listings.{list_at}
use Rattle.net_eval.proofs.FaithfulSteps.{IsFaithful, IsKeptRight, AreHeld, cells_of, cells_to, held_in_kind, kind_held, values_in, value_at-values_in, value_in_row}

-- ---- the types of a filter

-- of its inputs, and of its values; those of what is no filter don't matter
abbrev input_type : State → Ty
input_type Nothing = U8
input_type (Held value) = U8
input_type (Gaining gain) = gain.x
input_type (Lagging lag) = lag.x
input_type (Differencing lag) = lag.x
input_type (Averaging average) = average.x

abbrev output_type : State → Ty
output_type Nothing = U8
output_type (Held value) = U8
output_type (Gaining gain) = gain.o
output_type (Lagging lag) = lag.o
output_type (Differencing lag) = lag.o
output_type (Averaging average) = average.o

-- a filter that is put back has the same types
same_input : (state : State) → input_type (restarted state) ≡ input_type state
same_input Nothing = refl
same_input (Held value) = refl
same_input (Gaining gain) = refl
same_input (Lagging lag) = refl
same_input (Differencing lag) = refl
same_input (Averaging average) = refl

same_output : (state : State) → output_type (restarted state) ≡ output_type state
same_output Nothing = refl
same_output (Held value) = refl
same_output (Gaining gain) = refl
same_output (Lagging lag) = refl
same_output (Differencing lag) = refl
same_output (Averaging average) = refl

-- a filter behind a row is put back to where it was before
same_filter : (state : State) (input : ℤ) → restarted (filter_after state input) ≡ restarted state
same_filter Nothing input = refl
same_filter (Held value) input = refl
same_filter (Gaining gain) input = refl
same_filter (Lagging lag) input = refl
same_filter (Differencing lag) input = refl
same_filter (Averaging average) input = refl

takes_input : (state : State) (input : ℤ) → Holds (input_type state) input → TakesInput state input
takes_input Nothing input h = tt
takes_input (Held value) input h = tt
takes_input (Gaining gain) input h = h
takes_input (Lagging lag) input h = h
takes_input (Differencing lag) input h = h
takes_input (Averaging average) input h = h

gives_output : (state : State) (input : ℤ) → Holds (output_type state) (filter_value state input)
unfolding gain_value state_value average_value
gives_output Nothing input = (omega (arith, ints), omega (arith, ints))
gives_output (Held value) input = (omega (arith, ints), omega (arith, ints))
gives_output (Gaining gain) input = saturated_held gain.o _
gives_output (Lagging lag) input = saturated_held lag.o _
gives_output (Differencing lag) input = saturated_held lag.o _
gives_output (Averaging average) input = saturated_held average.o _

-- ---- the step of any filter

filter_ready : (net : NetData) (i : ℕ) (b : Block) (xty ty : Ty) (x : WireNo) (state : State) (values : List ℤ) → IsGoodFilter net i (wire_at net.wires i).kind xty ty x → input_type (block_start b) ≡ xty → length values ≡ i → AreHeld net values i → restarted state ≡ block_start b → (x.0 < length values) × TakesInput state (value_at values x.0)
filter_ready net i b xty ty x state values filter typed len held may =
    let kind = number_kind xty (wire_at net.wires x.0).kind filter.input in
    let holds : Holds xty (value_at values x.0) = kind_held net.axes xty _ kind.0 _ kind.1 (held x.0 filter.earlier) in
    let same : input_type state ≡ xty = sym (same_input state) ∙ ap input_type may ∙ typed in
    (omega (arith, len, filter.earlier), takes_input state _ (subst (λ t. Holds t (value_at values x.0)) (sym same) holds))

filter_held : (net : NetData) (i : ℕ) (b : Block) (xty ty : Ty) (x : WireNo) (state : State) (input : ℤ) → IsGoodFilter net i (wire_at net.wires i).kind xty ty x → output_type (block_start b) ≡ ty → restarted state ≡ block_start b → IsInKind net.axes (wire_at net.wires i).kind (filter_value state input)
filter_held net i b xty ty x state input filter typed may =
    let kind = number_kind ty (wire_at net.wires i).kind filter.output in
    let same : output_type state ≡ ty = sym (same_output state) ∙ ap output_type may ∙ typed in
    held_in_kind net.axes ty _ kind.0 _ kind.1 (subst (λ t. Holds t (filter_value state input)) same (gives_output state input))

-- ---- the values

-- what saturates to a type saturates to the kind of a wire of the type
saturated_in_kind : (axes : List NamedAxis) (ty : Ty) (kind : Kind) (point : ℕ) (v : ℤ) → kind ≡ Num ty point → saturated ty v ≡ saturated_to (kind_least axes kind) (kind_greatest axes kind) v
saturated_in_kind axes ty kind point v e = ap (λ k. saturated_to (kind_least axes k) (kind_greatest axes k) v) (sym e)

-- the same on the wire of a filter
saturated_on : (net : NetData) (i : ℕ) (xty ty : Ty) (x : WireNo) (v : ℤ) → IsGoodFilter net i (wire_at net.wires i).kind xty ty x → saturated ty v ≡ saturated_to (kind_least net.axes (wire_at net.wires i).kind) (kind_greatest net.axes (wire_at net.wires i).kind) v
saturated_on net i xty ty x v filter =
    let kind = number_kind ty (wire_at net.wires i).kind filter.output in saturated_in_kind net.axes ty _ kind.0 v kind.1

-- ---- proportional blocks

pub gain_faithful : (net : NetData) (i : ℕ) (xty ty : Ty) (x : WireNo) (k : ℤ) → IsValid net → i < length net.wires → (wire_at net.wires i).item ≡ OfBlock (Gain xty ty x k) → IsFaithful net i (OfBlock (Gain xty ty x k))
unfolding gain_value equation_of machine machine_cell formula state_formula block_quotient
gain_faithful net i xty ty x k valid lt e =
    let b = Gain xty ty x k in
    let filter = (gain-valid net i xty ty x k valid lt e).wires in
    record {
      ready = λ state inputs values one_each len held may. filter_ready net i b xty ty x state values filter refl len held may;
      held = λ state inputs values typed may. filter_held net i b xty ty x state _ filter refl may;
      right = λ state inputs rows past cells kept.
          ap₂ filter_value kept (value_at-values_in cells x.0) ∙ saturated_on net i xty ty x _ filter;
    }

pub gain_kept : (net : NetData) (i : ℕ) (xty ty : Ty) (x : WireNo) (k : ℤ) → IsKeptRight net i (OfBlock (Gain xty ty x k))
gain_kept net i xty ty x k = record {
  start = refl;
  next = λ state inputs rows past kept. ap (λ s. filter_after s (value_at (values_in (cells_to net (inputs ∷ rows) past i)) x.0)) kept;
  may_start = refl;
  may_next = λ state values all held may. same_filter state _ ∙ may;
  back = λ state may. may;
}

-- ---- lags

-- the newest state of a block's wire is what its equation makes
newest_state : (net : NetData) (rows : List (List ℤ)) (past : List (List (Cell ℤ))) (i : ℕ) (b : Block) → IsValid net → i < length net.wires → (wire_at net.wires i).item ≡ OfBlock b → (cell_at machine (cells_of net rows past ∷ past) 0 i).state ≡ (equation_of machine net rows (cell_at machine (cells_of net rows past ∷ past)) i (OfBlock b)).state
newest_state net rows past i b valid lt e =
    ap (λ (c : Cell ℤ). c.state) (row-meets machine net (arguments_earlier net valid) rows past i lt)
    ∙ ap (λ item. (equation_of machine net rows (cell_at machine (cells_of net rows past ∷ past)) i item).state) e

pub pt1_faithful : (net : NetData) (i : ℕ) (xty ty : Ty) (x : WireNo) (teq : ℕ) (k : ℤ) → IsValid net → i < length net.wires → (wire_at net.wires i).item ≡ OfBlock (Pt1 xty ty x teq k) → IsFaithful net i (OfBlock (Pt1 xty ty x teq k))
unfolding next_state state_value equation_of machine machine_cell machine_state_of formula state_formula block_quotient
pt1_faithful net i xty ty x teq k valid lt e =
    let b = Pt1 xty ty x teq k in
    let filter = (pt1-valid net i xty ty x teq k valid lt e).wires in
    record {
      ready = λ state inputs values one_each len held may. filter_ready net i b xty ty x state values filter refl len held may;
      held = λ state inputs values typed may. filter_held net i b xty ty x state _ filter refl may;
      right = λ state inputs rows past cells kept.
          ap₂ filter_value kept (value_at-values_in cells x.0) ∙ saturated_on net i xty ty x _ filter;
    }

pub pt1_kept : (net : NetData) (i : ℕ) (xty ty : Ty) (x : WireNo) (teq : ℕ) (k : ℤ) → IsValid net → i < length net.wires → (wire_at net.wires i).item ≡ OfBlock (Pt1 xty ty x teq k) → IsKeptRight net i (OfBlock (Pt1 xty ty x teq k))
unfolding next_state equation_of machine machine_cell machine_state_of state_formula
pt1_kept net i xty ty x teq k valid lt e =
    let filter = (pt1-valid net i xty ty x teq k valid lt e).wires in
    record {
      start = refl;
      next = λ state inputs rows past kept.
          ap₂ filter_after kept (value_in_row net (inputs ∷ rows) past i x.0 filter.earlier (omega (arith, lt)))
          ∙ ap (λ y. Lagging (record { x = xty; o = ty; teq = teq; k = k; y = y; x1 = value_ago (cells_of net (inputs ∷ rows) past ∷ past) x.0 0 })) (sym (newest_state net (inputs ∷ rows) past i (Pt1 xty ty x teq k) valid lt e));
      may_start = refl;
      may_next = λ state values all held may. same_filter state _ ∙ may;
      back = λ state may. may;
    }

-- ---- differentiating lags

pub dt1_faithful : (net : NetData) (i : ℕ) (second : Bool) (xty ty : Ty) (x : WireNo) (teq : ℕ) (k : ℤ) → IsValid net → i < length net.wires → (wire_at net.wires i).item ≡ OfBlock (Dt1 second xty ty x teq k) → IsFaithful net i (OfBlock (Dt1 second xty ty x teq k))
unfolding next_state state_value equation_of machine machine_cell machine_state_of formula state_formula block_quotient
dt1_faithful net i second xty ty x teq k valid lt e =
    let b = Dt1 second xty ty x teq k in
    let filter = (dt1-valid net i second xty ty x teq k valid lt e).wires in
    record {
      ready = λ state inputs values one_each len held may. filter_ready net i b xty ty x state values filter refl len held may;
      held = λ state inputs values typed may. filter_held net i b xty ty x state _ filter refl may;
      right = λ state inputs rows past cells kept.
          ap₂ filter_value kept (value_at-values_in cells x.0) ∙ saturated_on net i xty ty x _ filter;
    }

pub dt1_kept : (net : NetData) (i : ℕ) (second : Bool) (xty ty : Ty) (x : WireNo) (teq : ℕ) (k : ℤ) → IsValid net → i < length net.wires → (wire_at net.wires i).item ≡ OfBlock (Dt1 second xty ty x teq k) → IsKeptRight net i (OfBlock (Dt1 second xty ty x teq k))
unfolding next_state equation_of machine machine_cell machine_state_of state_formula
dt1_kept net i second xty ty x teq k valid lt e =
    let filter = (dt1-valid net i second xty ty x teq k valid lt e).wires in
    record {
      start = refl;
      next = λ state inputs rows past kept.
          let now = value_ago (cells_of net (inputs ∷ rows) past ∷ past) x.0 in
          ap₂ filter_after kept (value_in_row net (inputs ∷ rows) past i x.0 filter.earlier (omega (arith, lt)))
          ∙ ap (λ y. Differencing (record { second = second; x = xty; o = ty; teq = teq; k = k; y = y; x1 = now 0; x2 = now 1 })) (sym (newest_state net (inputs ∷ rows) past i (Dt1 second xty ty x teq k) valid lt e));
      may_start = refl;
      may_next = λ state values all held may. same_filter state _ ∙ may;
      back = λ state may. may;
    }

-- ---- averages

-- a sum reads as many values as it has
same_sum : (n : ℕ) (f g : ℕ → Fraction) → ((k : ℕ) → k < n → f k ≡ g k) → sum_of n f ≡ sum_of n g
same_sum zero f g same = refl
same_sum (suc n) f g same = ap₂ plus (same_sum n f g (λ k below. same k (omega (arith, below)))) (same n (omega arith))

-- before the first row a window has zeros alone
window_start : (x n : ℕ) → replicate n (pos 0) ≡ last_values [] x n
unfolding machine
window_start x n =
    ext_get_or (pos 0) _ _ (zeros ∙ sym (length-map-range_with_len (value_ago [] x) 0 n)) (λ k below. each k (omega (arith, below, zeros)))
  where
    zeros : length (replicate n (pos 0)) ≡ n
    zeros = length-replicate n (pos 0)

    each : (k : ℕ) → k < n → get_or (replicate n (pos 0)) k (pos 0) ≡ get_or (last_values [] x n) k (pos 0)
    each k lt = get_or-replicate n k (pos 0) (pos 0) lt ∙ sym (list_at (value_ago [] x) n k (pos 0) lt)

-- the input of a row in front of the last n before it are the last of it
window_next : (cells : List (Cell ℤ)) (past : List (List (Cell ℤ))) (x n : ℕ) → take n (value_ago (cells ∷ past) x 0 ∷ last_values past x n) ≡ last_values (cells ∷ past) x n
window_next cells past x n = ext_get_or (pos 0) _ _ lengths each
  where
    whole_length : length (last_values past x n) ≡ n
    whole_length = length-map-range_with_len (value_ago past x) 0 n

    lengths : length (take n (value_ago (cells ∷ past) x 0 ∷ last_values past x n)) ≡ length (last_values (cells ∷ past) x n)
    lengths = omega (arith, whole_length, length-take-le n (value_ago (cells ∷ past) x 0 ∷ last_values past x n) (omega (arith, whole_length)), length-map-range_with_len (value_ago (cells ∷ past) x) 0 n)

    short : length (take n (value_ago (cells ∷ past) x 0 ∷ last_values past x n)) ≡ n
    short = length-take-le n (value_ago (cells ∷ past) x 0 ∷ last_values past x n) (omega (arith, whole_length))

    shifted : (k : ℕ) → k < n → get_or (value_ago (cells ∷ past) x 0 ∷ last_values past x n) k (pos 0) ≡ value_ago (cells ∷ past) x k
    shifted zero below = refl
    shifted (suc k) below = list_at (value_ago past x) n k (pos 0) (omega (arith, below))

    each : (k : ℕ) → k < length (take n (value_ago (cells ∷ past) x 0 ∷ last_values past x n)) → get_or (take n (value_ago (cells ∷ past) x 0 ∷ last_values past x n)) k (pos 0) ≡ get_or (last_values (cells ∷ past) x n) k (pos 0)
    each k below =
        let lt : k < n = omega (arith, below, short) in
        get_or-take n _ k (pos 0) lt ∙ shifted k lt ∙ sym (list_at (value_ago (cells ∷ past) x) n k (pos 0) lt)

-- the inputs that an average is of
same_inputs : (cells : List (Cell ℤ)) (past : List (List (Cell ℤ))) (x n k : ℕ) (input : ℤ) → input ≡ value_ago (cells ∷ past) x 0 → k < n → input_ago (last_values past x (n - 1)) input k ≡ whole (value_ago (cells ∷ past) x k)
same_inputs cells past x n zero input e below = ap whole e
same_inputs cells past x n (suc k) input e below = ap whole (list_at (value_ago past x) (n - 1) k (pos 0) (omega (arith, below)))

-- the mean of them
same_mean : (cells : List (Cell ℤ)) (past : List (List (Cell ℤ))) (x n : ℕ) (input : ℤ) → input ≡ value_ago (cells ∷ past) x 0 → average_formula n (input_ago (last_values past x (n - 1)) input) ≡ average_formula n (λ k. whole (value_ago (cells ∷ past) x k))
unfolding average_formula
same_mean cells past x n input e =
    ap (λ f. divided f (whole (pos n))) (same_sum n _ _ (λ k below. same_inputs cells past x n k input e below))

pub average_faithful : (net : NetData) (i : ℕ) (xty ty : Ty) (x : WireNo) (n : ℕ) → IsValid net → i < length net.wires → (wire_at net.wires i).item ≡ OfBlock (Average xty ty x n) → IsFaithful net i (OfBlock (Average xty ty x n))
unfolding average_value equation_of machine machine_cell formula state_formula block_quotient
average_faithful net i xty ty x n valid lt e =
    let b = Average xty ty x n in
    let filter = (average-valid net i xty ty x n valid lt e).wires in
    record {
      ready = λ state inputs values one_each len held may. filter_ready net i b xty ty x state values filter refl len held may;
      held = λ state inputs values typed may. filter_held net i b xty ty x state _ filter refl may;
      right = λ state inputs rows past cells kept.
          ap (λ s. filter_value s (value_at (values_in cells) x.0)) kept
          ∙ ap (λ f. saturated ty (rounded_fraction Near f)) (same_mean cells past x.0 n _ (value_at-values_in cells x.0))
          ∙ saturated_on net i xty ty x _ filter;
    }

pub average_kept : (net : NetData) (i : ℕ) (xty ty : Ty) (x : WireNo) (n : ℕ) → IsValid net → i < length net.wires → (wire_at net.wires i).item ≡ OfBlock (Average xty ty x n) → IsKeptRight net i (OfBlock (Average xty ty x n))
average_kept net i xty ty x n valid lt e =
    let filter = (average-valid net i xty ty x n valid lt e).wires in
    record {
      start = ap (λ window. Averaging (record { x = xty; o = ty; n = n; window = window })) (window_start x.0 (n - 1));
      next = λ state inputs rows past kept.
          ap₂ filter_after kept (value_in_row net (inputs ∷ rows) past i x.0 filter.earlier (omega (arith, lt)))
          ∙ ap (λ window. Averaging (record { x = xty; o = ty; n = n; window = window })) (window_next (cells_of net (inputs ∷ rows) past) past x.0 (n - 1));
      may_start = refl;
      may_next = λ state values all held may. same_filter state _ ∙ may;
      back = λ state may. may;
    }

-- ---- a block without a state

-- what isn't a filter starts with nothing
pub stateless_start : (b : Block) → ((xty ty : Ty) (x : WireNo) (k : ℤ) → b ≡ Gain xty ty x k → ⊥) → ((xty ty : Ty) (x : WireNo) (n : ℕ) → b ≡ Average xty ty x n → ⊥) → ((xty ty : Ty) (x : WireNo) (teq : ℕ) (k : ℤ) → b ≡ Pt1 xty ty x teq k → ⊥) → ((second : Bool) (xty ty : Ty) (x : WireNo) (teq : ℕ) (k : ℤ) → b ≡ Dt1 second xty ty x teq k → ⊥) → Nothing ≡ block_start b
stateless_start (Gain xty ty x k) gain average lag difference = absurd (gain xty ty x k refl)
stateless_start (Average xty ty x n) gain average lag difference = absurd (average xty ty x n refl)
stateless_start (Pt1 xty ty x teq k) gain average lag difference = absurd (lag xty ty x teq k refl)
stateless_start (Dt1 second xty ty x teq k) gain average lag difference = absurd (difference second xty ty x teq k refl)
stateless_start other gain average lag difference = refl
