-- The rules of blocks, family by family: what they read, that they are kept, and what the equations of their wires make. No
-- other proof here names a family but that of the filters.
use Rattle.std.specs.Prelude.{Option, None}
use Rattle.std.proofs.Common.{ap₂, ◌≡◌, ℕ, ◌<◌, ◌≤◌, Bool, true, false, cond, List, [], ◌∷◌, map, length, ℤ, pos, ◌≤ℤ◌, refl, sym, ap, ◌∙◌, subst, arith, true≢false}
use Rattle.fx_fraction.specs.Fraction.{whole}
use Rattle.fx_core.specs.declared.word_type.Ty.{Ty}
use Rattle.fx_core.specs.declared.word_type.Ty.TheVariants.{U8, S8, U16, S16, U32, S32}
use Rattle.fx_core.specs.Types.{least_of}
use Rattle.fx_core.specs.Values.{Divides, rounded_fraction}
use Rattle.fx_core.proofs.TypeLaws.{saturated_to-between}
use Rattle.fx_routines.specs.declared.operation.ArithOp.{ArithOp}
use Rattle.fx_routines.specs.declared.operation.ArithOp.TheVariants.{Abs, MulDiv, Limit, Min, Max, RateLimiter}
use Rattle.fx_routines.specs.declared.operation.ScaledOp.{ScaledOp}
use Rattle.fx_routines.specs.declared.operation.ScaledOp.TheVariants.{Convert}
use Rattle.fx_routines.specs.declared.operation.Variant.{Variant}
use Rattle.fx_core.specs.Arguments.{three, two}
use Rattle.mfx_arith.specs.Operations.{is_smooth_operation, unsigned_of}
use Rattle.fx_routines.specs.declared.interpolation.CurveOp.{CurveOp}
use Rattle.fx_routines.specs.declared.interpolation.CurveOp.TheVariants.{Ipo, LkUp}
use Rattle.ifx_search.specs.Positions.{position}
use Rattle.ifx_curves.specs.Curves.{curve}
use Rattle.mfx_scaled.specs.declared.binary_points.Points.{Points}
use Rattle.net_model.specs.declared.wires.WireNo.{WireNo}
use Rattle.net_model.specs.declared.wires.Kind.{Kind}
use Rattle.net_model.specs.declared.wires.Block.{Block}
use Rattle.net_model.specs.declared.wires.Block.TheVariants.{Arith, Scaled, Gain, Average, Pt1, Dt1, Search, Curve, IntCurve}
use Rattle.net_model.specs.declared.wires.Item.TheVariants.{Block as OfBlock}
use Rattle.net_model.specs.declared.wires.Role.{Role}
use Rattle.net_model.specs.declared.wires.Role.TheVariants.{Y, X1, X2, W, Value}
use Rattle.net_model.specs.declared.wires.Part.{Part}
use Rattle.net_model.specs.Wires.{NamedAxis, NetData, axis_at, table_at, wire_at, block_roles, has_role, kind_least, kind_greatest, point_of}
use Rattle.net_model.specs.Families.{signature_of}
use Rattle.net_model.specs.BlockForms.{form_of}
use Rattle.net_model.specs.Validity.{IsValid}
use Rattle.net_model.proofs.ValidityFacts.{arith-valid, number_kind}
use Rattle.net_model.proofs.FamilyFacts.{ruled_if_built, shift_from_test}
use Rattle.net_model.proofs.LookUpFacts.{IsGoodCurve, IsGoodIntCurve, IsGoodSearch, curve-valid, int_curve-valid, search-valid}
use Rattle.net_meaning.specs.Cells.{Cell}
use Rattle.net_meaning.specs.Blocks.{formula, state_formula, quotient_of, mode_of, points_of, machine, machine_cell, machine_state_of, state_least, state_greatest}
use Rattle.net_meaning.specs.Runs.{equation_of}
use Rattle.part_rules.specs.declared.bounds.Bounds.{Bounds}
use Rattle.part_rules.specs.Entries.{if_small}
use Rattle.part_rules.specs.PartRules.{Reading, PartMeaning, PartRule, KeepsRule, bounds_at, read_now, renamed}
use Rattle.part_rules.proofs.RuleLaws.{renamed_keeps, keeps_where_fit}
use Rattle.mfx_rules.specs.ArithRules.{arith_bounds, arith_may_divide_by_zero}
use Rattle.mfx_rules.specs.ScaledRules.{scaled_bounds, scaled_may_divide_by_zero}
use Rattle.mfx_rules.proofs.ArithArguments.{bounds_of_three, divisor_of_three}
use Rattle.mfx_rules.proofs.ScaledArguments.{form_bounds_of_two, form_divisor_of_two}
use Rattle.mfx_rules.specs.OperationRules.{arith_rule, arith_meaning, FitOperation, scaled_rule, scaled_meaning, FitForm}
use Rattle.mfx_rules.proofs.KeptRules.{operations_keep_rules, forms_keep_rules}
use Rattle.efx_rules.specs.KeptRules.{FitAll, gain_rule, gain_meaning, lag_rule, lag_meaning, difference_rule, difference_meaning, value_rule, value_meaning, average_rule}
use Rattle.efx_rules.proofs.KeptRules.{gains_keep_rules, lags_keep_rules, differences_keep_rules, values_keep_rules as state_values_keep_rules}
use Rattle.ifx_rules.specs.LookUpRules.{curve_over}
use Rattle.ifx_rules.specs.KeptRules.{FitAll as FitLookUp, curve_over_rule, curve_rule, position_rule, rounds_down}
use Rattle.ifx_rules.proofs.Bends.{are_axis}
use Rattle.ifx_rules.proofs.KeptRules.{curves_keep_rules, curves_over_keep_rules, positions_keep_rules}
use Rattle.cert_rules.specs.Rules.{argument_part, block_rule, copied_rule, kept_reading, kept_rule_of, least_of_part, listed, no_rule, part_on, state_rule_of, value_rule_of}
use Rattle.cert_rules.specs.declared.lookups.Given.{Given}
use Rattle.cert_rules.specs.GivenBounds.{AreGiven, parts_in, reading_at, value_part}
use Rattle.cert_rules.proofs.FilterBlocks.{mean_meaning, means_keep}

-- ---- what is read

-- the values of the wires that a block reads, at the same row
abbrev pub values_read : Block → List (Reading Part)
values_read b = map (λ w. read_now (value_part w.0)) (form_of b).wires

arith_reads : (net : NetData) (i : ℕ) (op : ArithOp) (v : Variant) (x y z : WireNo) (sh : ℕ) → (value_rule_of net i (Arith op v x y z sh)).reads ≡ values_read (Arith op v x y z sh)
unfolding form_of signature_of
arith_reads net i Abs v x y z sh = refl
arith_reads net i MulDiv v x y z sh = refl
arith_reads net i Limit v x y z sh = refl
arith_reads net i Min v x y z sh = refl
arith_reads net i Max v x y z sh = refl
arith_reads net i RateLimiter v x y z sh = refl
arith_reads net i other v x y z sh = refl

scaled_reads : (net : NetData) (i : ℕ) (op : ScaledOp) (v : Variant) (x y : WireNo) → (value_rule_of net i (Scaled op v x y)).reads ≡ values_read (Scaled op v x y)
unfolding form_of signature_of
scaled_reads net i Convert v x y = refl
scaled_reads net i other v x y = refl

gain_reads : (net : NetData) (i : ℕ) (xty ty : Ty) (x : WireNo) (k : ℤ) → (value_rule_of net i (Gain xty ty x k)).reads ≡ values_read (Gain xty ty x k)
unfolding form_of signature_of
gain_reads net i xty ty x k = refl

search_reads : (net : NetData) (i : ℕ) (ty : Ty) (x : WireNo) (axis : ℕ) → (value_rule_of net i (Search ty x axis)).reads ≡ values_read (Search ty x axis)
unfolding form_of signature_of
search_reads net i ty x axis = refl

curve_reads : (net : NetData) (i : ℕ) (op : CurveOp) (dp : WireNo) (table : ℕ) → (value_rule_of net i (Curve op dp table)).reads ≡ values_read (Curve op dp table)
unfolding form_of signature_of
curve_reads net i op dp table = refl

int_curve_reads : (net : NetData) (i : ℕ) (op : CurveOp) (x : WireNo) (axis table : ℕ) → (value_rule_of net i (IntCurve op x axis table)).reads ≡ values_read (IntCurve op x axis table)
unfolding form_of signature_of
int_curve_reads net i op x axis table = refl

-- a block that reads the values of its wires, and whose value means its formula at these
abbrev pub is_plain : Block → Bool
is_plain (Arith op v x y z sh) = true
is_plain (Scaled op v x y) = true
is_plain (Search ty x axis) = true
is_plain (Curve op dp table) = true
is_plain (IntCurve op x axis table) = true
is_plain other = false

pub plain_reads : (net : NetData) (i : ℕ) (b : Block) → is_plain b ≡ true → (value_rule_of net i b).reads ≡ values_read b
plain_reads net i (Arith op v x y z sh) plain = arith_reads net i op v x y z sh
plain_reads net i (Scaled op v x y) plain = scaled_reads net i op v x y
plain_reads net i (Search ty x axis) plain = search_reads net i ty x axis
plain_reads net i (Curve op dp table) plain = curve_reads net i op dp table
plain_reads net i (IntCurve op x axis table) plain = int_curve_reads net i op x axis table
plain_reads net i other plain = absurd (true≢false (sym plain))

same_parts : (reads : List (Reading Part)) (wires : List WireNo) → reads ≡ map (λ w. read_now (value_part w.0)) wires → map (λ w. value_part w.0) wires ≡ parts_in reads
same_parts reads wires e = parts_of wires ∙ ap parts_in (sym e)
  where
    parts_of : (wires : List WireNo) → map (λ w. value_part w.0) wires ≡ parts_in (map (λ w. read_now (value_part w.0)) wires)
    parts_of [] = refl
    parts_of (w ∷ wires) = ap (λ t. value_part w.0 ∷ t) (parts_of wires)

-- a block without a state reads the values of its wires
pub plain_parts : (net : NetData) (i : ℕ) (b : Block) → ((xty ty : Ty) (x : WireNo) (n : ℕ) → b ≡ Average xty ty x n → ⊥) → ((xty ty : Ty) (x : WireNo) (teq : ℕ) (k : ℤ) → b ≡ Pt1 xty ty x teq k → ⊥) → ((second : Bool) (xty ty : Ty) (x : WireNo) (teq : ℕ) (k : ℤ) → b ≡ Dt1 second xty ty x teq k → ⊥) → map (λ w. value_part w.0) (form_of b).wires ≡ parts_in (value_rule_of net i b).reads
plain_parts net i (Arith op v x y z sh) a p d = same_parts _ _ (arith_reads net i op v x y z sh)
plain_parts net i (Scaled op v x y) a p d = same_parts _ _ (scaled_reads net i op v x y)
plain_parts net i (Gain xty ty x k) a p d = same_parts _ _ (gain_reads net i xty ty x k)
plain_parts net i (Average xty ty x n) a p d = absurd (a xty ty x n refl)
plain_parts net i (Pt1 xty ty x teq k) a p d = absurd (p xty ty x teq k refl)
plain_parts net i (Dt1 second xty ty x teq k) a p d = absurd (d second xty ty x teq k refl)
plain_parts net i (Search ty x axis) a p d = same_parts _ _ (search_reads net i ty x axis)
plain_parts net i (Curve op dp table) a p d = same_parts _ _ (curve_reads net i op dp table)
plain_parts net i (IntCurve op x axis table) a p d = same_parts _ _ (int_curve_reads net i op x axis table)

-- a block without a state Y has no rule of one
pub stateless_parts : (i : ℕ) (b : Block) → ((xty ty : Ty) (x : WireNo) (teq : ℕ) (k : ℤ) → b ≡ Pt1 xty ty x teq k → ⊥) → ((second : Bool) (xty ty : Ty) (x : WireNo) (teq : ℕ) (k : ℤ) → b ≡ Dt1 second xty ty x teq k → ⊥) → state_rule_of i b ≡ no_rule
stateless_parts i (Arith op v x y z sh) p d = refl
stateless_parts i (Scaled op v x y) p d = refl
stateless_parts i (Gain xty ty x k) p d = refl
stateless_parts i (Average xty ty x n) p d = refl
stateless_parts i (Pt1 xty ty x teq k) p d = absurd (p xty ty x teq k refl)
stateless_parts i (Dt1 second xty ty x teq k) p d = absurd (d second xty ty x teq k refl)
stateless_parts i (Search ty x axis) p d = refl
stateless_parts i (Curve op dp table) p d = refl
stateless_parts i (IntCurve op x axis table) p d = refl

-- ---- what a block's parts mean, and that they keep their rules

-- a value by the formula and the quotient, from the arguments at the same row and without a state
abbrev pub plain_meaning : NetData → Kind → Block → PartMeaning
plain_meaning net kind b = record {
  value = λ m. rounded_fraction (mode_of b) (formula net kind b (λ p ago. whole (m p)) (whole (pos 0)));
  exactly = λ e. formula net kind b (λ p ago. e p) (whole (pos 0));
  Divides = λ e. Divides (quotient_of net kind b (λ p ago. e p));
}

abbrev pub value_meaning_of : NetData → ℕ → Block → PartMeaning
value_meaning_of net i (Gain xty ty x k) = gain_meaning k
value_meaning_of net i (Average xty ty x n) = mean_meaning
value_meaning_of net i (Pt1 xty ty x teq k) = value_meaning
value_meaning_of net i (Dt1 second xty ty x teq k) = value_meaning
value_meaning_of net i other = plain_meaning net (wire_at net.wires i).kind other

-- what is held, as it is
abbrev pub copied_meaning : PartMeaning
copied_meaning = record { value = λ m. m 0; exactly = λ e. e 0; Divides = λ e. Unit {0} }

abbrev pub state_meaning_of : Block → PartMeaning
state_meaning_of (Pt1 xty ty x teq k) = lag_meaning teq k
state_meaning_of (Dt1 second xty ty x teq k) = difference_meaning teq k
state_meaning_of other = copied_meaning

abbrev pub block_meaning : NetData → ℕ → Block → Role → PartMeaning
block_meaning net i b Value = value_meaning_of net i b
block_meaning net i b Y = state_meaning_of b
block_meaning net i b kept = copied_meaning

-- bounds fit where the range of each that is read begins within its part
abbrev pub FitReads : NetData → List (Reading Part) → List Bounds → Type 0
FitReads net reads given = (q : ℕ) → q < length reads → least_of_part net (reading_at reads q).part ≤ℤ (bounds_at given q).lo

least_unsigned : (t : Ty) → least_of (unsigned_of t) ≡ pos 0
least_unsigned U8 = refl
least_unsigned S8 = refl
least_unsigned U16 = refl
least_unsigned S16 = refl
least_unsigned U32 = refl
least_unsigned S32 = refl

-- the step of a rate limiter isn't below 0, since its wire is of an unsigned type
arith_fits : (net : NetData) (i : ℕ) (op : ArithOp) (v : Variant) (x y z : WireNo) (sh : ℕ) (given : List Bounds) → IsValid net → i < length net.wires → (wire_at net.wires i).item ≡ OfBlock (Arith op v x y z sh) → FitReads net (renamed (argument_part (Arith op v x y z sh)) (arith_rule op sh)).reads given → FitOperation op given
arith_fits net i RateLimiter v x y z sh given valid h is fit =
    let good = arith-valid net i RateLimiter v x y z sh valid h is in
    let number = number_kind (unsigned_of v.o) (wire_at net.wires z.0).kind good.third.number in
    let least : kind_least net.axes (wire_at net.wires z.0).kind ≡ pos 0 = ap (kind_least net.axes) number.1 ∙ least_unsigned v.o in
    subst (λ n. n ≤ℤ (bounds_at given 2).lo) least (fit 2 (omega arith))
arith_fits net i other v x y z sh given valid h is fit = tt

-- what gives no bounds keeps its rule
failing_keeps : (rule : PartRule Part) (meaning : PartMeaning) (Fit : List Bounds → Type 0) → ((given : List Bounds) → rule.fails given ≡ true) → KeepsRule rule meaning Fit
failing_keeps rule meaning Fit fails = record {
  sound = λ given m e fit ruled within. absurd (true≢false (sym (fails given) ∙ ruled));
  monotone = λ narrow wide fit ruled n. absurd (true≢false (sym (fails wide) ∙ ruled));
}

no_rule_keeps : (meaning : PartMeaning) (Fit : List Bounds → Type 0) → KeepsRule no_rule meaning Fit
no_rule_keeps meaning Fit = failing_keeps no_rule meaning Fit (λ given. refl)

-- what is held within its bounds keeps them
copied_keeps : (reading : Reading Part) (Fit : List Bounds → Type 0) → KeepsRule (copied_rule reading) copied_meaning Fit
copied_keeps reading Fit = record {
  sound = λ given m e fit ruled within. record { machine_divides = tt; exact_divides = tt; within = within 0 (omega arith) };
  monotone = λ narrow wide fit ruled n. (refl, (n 0 (omega arith)).inside);
}

-- a filter's rule fits all bounds
filter_keeps : (net : NetData) (name : ℕ → Part) (rule : PartRule ℕ) (meaning : PartMeaning) → KeepsRule rule meaning FitAll → KeepsRule (renamed name rule) meaning (FitReads net (renamed name rule).reads)
filter_keeps net name rule meaning keeps = keeps_where_fit (renamed name rule) meaning FitAll (FitReads net (renamed name rule).reads) (λ given fit. tt) (renamed_keeps name rule meaning FitAll keeps)

-- what is looked up keeps its rule
look_up_keeps : (net : NetData) (wire : ℕ) (rule : PartRule ℕ) (meaning : PartMeaning) → KeepsRule rule meaning FitLookUp → KeepsRule (renamed (listed (part_on wire Value ∷ [])) rule) meaning (FitReads net (renamed (listed (part_on wire Value ∷ [])) rule).reads)
look_up_keeps net wire rule meaning keeps =
    let name = listed (part_on wire Value ∷ []) in
    keeps_where_fit (renamed name rule) meaning FitLookUp (FitReads net (renamed name rule).reads) (λ given fit. tt) (renamed_keeps name rule meaning FitLookUp keeps)

search_keeps : (net : NetData) (i : ℕ) (ty : Ty) (x : WireNo) (axis : ℕ) → IsGoodSearch net i (wire_at net.wires i).kind ty x axis → KeepsRule (value_rule_of net i (Search ty x axis)) (plain_meaning net (wire_at net.wires i).kind (Search ty x axis)) (FitReads net (value_rule_of net i (Search ty x axis)).reads)
unfolding formula quotient_of
search_keeps net i ty x axis good =
    let points = (axis_at net.axes axis).points in
    look_up_keeps net x.0 (position_rule points) (rounds_down (position points)) (positions_keep_rules points (are_axis ty points good.points))

curve_keeps : (net : NetData) (i : ℕ) (op : CurveOp) (dp : WireNo) (table : ℕ) → IsGoodCurve net i (wire_at net.wires i).kind dp table → KeepsRule (value_rule_of net i (Curve op dp table)) (plain_meaning net (wire_at net.wires i).kind (Curve op dp table)) (FitReads net (value_rule_of net i (Curve op dp table)).reads)
unfolding formula quotient_of
curve_keeps net i Ipo dp table good =
    let values = (table_at net.tables table).values in
    look_up_keeps net dp.0 (curve_rule values) (rounds_down (curve values)) (curves_keep_rules values good.values.some)
curve_keeps net i LkUp dp table good = failing_keeps _ _ _ (λ given. refl)

int_curve_keeps : (net : NetData) (i : ℕ) (op : CurveOp) (x : WireNo) (axis table : ℕ) → IsGoodIntCurve net i (wire_at net.wires i).kind x axis table → KeepsRule (value_rule_of net i (IntCurve op x axis table)) (plain_meaning net (wire_at net.wires i).kind (IntCurve op x axis table)) (FitReads net (value_rule_of net i (IntCurve op x axis table)).reads)
unfolding formula quotient_of
int_curve_keeps net i Ipo x axis table good =
    let points = (axis_at net.axes axis).points in
    let values = (table_at net.tables table).values in
    let axis_of = are_axis (axis_at net.axes axis).ty points good.points in
    look_up_keeps net x.0 (curve_over_rule points values) (rounds_down (curve_over points values)) (curves_over_keep_rules points values axis_of good.long)
int_curve_keeps net i LkUp x axis table good = failing_keeps _ _ _ (λ given. refl)

pub values_keep_rules : (net : NetData) (i : ℕ) (b : Block) → IsValid net → i < length net.wires → (wire_at net.wires i).item ≡ OfBlock b → KeepsRule (value_rule_of net i b) (value_meaning_of net i b) (FitReads net (value_rule_of net i b).reads)
unfolding formula quotient_of
values_keep_rules net i (Arith op v x y z sh) valid h is =
    let b = Arith op v x y z sh in
    let rule = renamed (argument_part b) (arith_rule op sh) in
    keeps_where_fit rule (arith_meaning op sh) (FitOperation op) (FitReads net rule.reads) (λ given fit. arith_fits net i op v x y z sh given valid h is fit) (renamed_keeps (argument_part b) (arith_rule op sh) (arith_meaning op sh) (FitOperation op) (operations_keep_rules op sh))
values_keep_rules net i (Scaled op v x y) valid h is =
    let b = Scaled op v x y in
    let points = points_of net (wire_at net.wires i).kind b in
    let rule = renamed (argument_part b) (scaled_rule op points) in
    keeps_where_fit rule (scaled_meaning op points) FitForm (FitReads net rule.reads) (λ given fit. tt) (renamed_keeps (argument_part b) (scaled_rule op points) (scaled_meaning op points) FitForm (forms_keep_rules op points))
values_keep_rules net i (Gain xty ty x k) valid h is = filter_keeps net (listed (part_on x.0 Value ∷ [])) (gain_rule k) (gain_meaning k) (gains_keep_rules k)
values_keep_rules net i (Average xty ty x n) valid h is = filter_keeps net (listed (part_on x.0 Value ∷ part_on i W ∷ [])) average_rule mean_meaning means_keep
values_keep_rules net i (Pt1 xty ty x teq k) valid h is = filter_keeps net (listed (part_on i Y ∷ [])) value_rule value_meaning state_values_keep_rules
values_keep_rules net i (Dt1 second xty ty x teq k) valid h is = filter_keeps net (listed (part_on i Y ∷ [])) value_rule value_meaning state_values_keep_rules
values_keep_rules net i (Search ty x axis) valid h is = search_keeps net i ty x axis (search-valid net i ty x axis valid h is)
values_keep_rules net i (Curve op dp table) valid h is = curve_keeps net i op dp table (curve-valid net i op dp table valid h is)
values_keep_rules net i (IntCurve op x axis table) valid h is = int_curve_keeps net i op x axis table (int_curve-valid net i op x axis table valid h is)

states_keep_rules : (net : NetData) (i : ℕ) (b : Block) → KeepsRule (state_rule_of i b) (state_meaning_of b) (FitReads net (state_rule_of i b).reads)
states_keep_rules net i (Arith op v x y z sh) = no_rule_keeps _ _
states_keep_rules net i (Scaled op v x y) = no_rule_keeps _ _
states_keep_rules net i (Gain xty ty x k) = no_rule_keeps _ _
states_keep_rules net i (Average xty ty x n) = no_rule_keeps _ _
states_keep_rules net i (Search ty x axis) = no_rule_keeps _ _
states_keep_rules net i (Curve op dp table) = no_rule_keeps _ _
states_keep_rules net i (IntCurve op x axis table) = no_rule_keeps _ _
states_keep_rules net i (Pt1 xty ty x teq k) = filter_keeps net (listed (part_on i Y ∷ part_on i X1 ∷ [])) (lag_rule teq k) (lag_meaning teq k) (lags_keep_rules teq k)
states_keep_rules net i (Dt1 true xty ty x teq k) = filter_keeps net (listed (part_on i Y ∷ part_on x.0 Value ∷ part_on i X1 ∷ [])) (difference_rule true teq k) (difference_meaning teq k) (differences_keep_rules true teq k)
states_keep_rules net i (Dt1 false xty ty x teq k) = filter_keeps net (listed (part_on i Y ∷ part_on i X1 ∷ part_on i X2 ∷ [])) (difference_rule false teq k) (difference_meaning teq k) (differences_keep_rules false teq k)

kept_keeps_rule : (net : NetData) (i : ℕ) (b : Block) (role : Role) (has : Bool) → has_role role (block_roles b) ≡ has → KeepsRule (kept_rule_of i b role) copied_meaning (FitReads net (kept_rule_of i b role).reads)
kept_keeps_rule net i b role true is = rw is (copied_keeps (kept_reading i b role) (FitReads net (kept_reading i b role ∷ [])))
kept_keeps_rule net i b role false is = rw is (no_rule_keeps copied_meaning (FitReads net []))

pub blocks_keep : (net : NetData) (i : ℕ) (b : Block) (role : Role) → IsValid net → i < length net.wires → (wire_at net.wires i).item ≡ OfBlock b → KeepsRule (block_rule net i b role) (block_meaning net i b role) (FitReads net (block_rule net i b role).reads)
unfolding block_rule
blocks_keep net i b Value valid h is = values_keep_rules net i b valid h is
blocks_keep net i b Y valid h is = states_keep_rules net i b
blocks_keep net i b X1 valid h is = kept_keeps_rule net i b X1 _ refl
blocks_keep net i b X2 valid h is = kept_keeps_rule net i b X2 _ refl
blocks_keep net i b W valid h is = kept_keeps_rule net i b W _ refl

-- ---- saturation

-- saturation leaves a value between the ends of its kind alone, and a state between those of states
pub record IsKept (axes : List NamedAxis) (kind : Kind) (cell : Cell ℤ) : Type 0 where
  pub value : kind_least axes kind ≤ℤ cell.value_unsaturated → cell.value_unsaturated ≤ℤ kind_greatest axes kind → cell.value ≡ cell.value_unsaturated
  pub state : state_least ≤ℤ cell.state_unsaturated → cell.state_unsaturated ≤ℤ state_greatest → cell.state ≡ cell.state_unsaturated

pub block_kept : (net : NetData) (rows : List (List ℤ)) (i : ℕ) (b : Block) (m : ℕ → ℕ → Cell ℤ) → IsKept net.axes (wire_at net.wires i).kind (equation_of machine net rows m i (OfBlock b))
unfolding equation_of machine machine_cell
block_kept net rows i b m = record { value = saturated_to-between _ _ _; state = saturated_to-between _ _ _ }

-- a number between the ends of states
pub record IsStateNumber (z : ℤ) : Type 0 where
  pub low : state_least ≤ℤ z
  pub high : z ≤ℤ state_greatest

pub zero_is_state : IsStateNumber (pos 0)
zero_is_state = record { low = record { le = tt }; high = record { le = tt } }

-- the state of a block without one is 0
pub block_state : (net : NetData) (rows : List (List ℤ)) (i : ℕ) (b : Block) (m : ℕ → ℕ → Cell ℤ) → (has_role Y (block_roles b) ≡ true → IsStateNumber (equation_of machine net rows m i (OfBlock b)).state_unsaturated) → IsStateNumber (equation_of machine net rows m i (OfBlock b)).state_unsaturated
unfolding equation_of machine machine_cell machine_state_of state_formula
block_state net rows i (Arith op v x y z sh) m has = zero_is_state
block_state net rows i (Scaled op v x y) m has = zero_is_state
block_state net rows i (Gain xty ty x k) m has = zero_is_state
block_state net rows i (Average xty ty x n) m has = zero_is_state
block_state net rows i (Search ty x axis) m has = zero_is_state
block_state net rows i (Curve op dp table) m has = zero_is_state
block_state net rows i (IntCurve op x axis table) m has = zero_is_state
block_state net rows i (Pt1 xty ty x teq k) m has = has refl
block_state net rows i (Dt1 true xty ty x teq k) m has = has refl
block_state net rows i (Dt1 false xty ty x teq k) m has = has refl

-- ---- what the functions of the rules owe, family by family

-- bounds by the first three that are known
pub arith_returns : (net : NetData) (i : ℕ) (b : Block) (op : ArithOp) (v : Variant) (x y z : WireNo) (sh : ℕ) (given : Given) (known : List Bounds) (result : Option Bounds) → b ≡ Arith op v x y z sh → is_smooth_operation op ≡ true → AreGiven given known → result ≡ cond (arith_may_divide_by_zero op (three given.first given.second given.third)) None (if_small (arith_bounds op sh (three given.first given.second given.third))) → result ≡ cond ((block_rule net i b Value).fails known) None (if_small ((block_rule net i b Value).bounds known))
unfolding block_rule
arith_returns net i b op v x y z sh given known result is smooth g e =
    rw is (e ∙ rw (g.first, g.second, g.third) (ap₂ (λ t n. cond t None (if_small n)) (divisor_of_three op (bounds_at known) ∙ rw smooth refl) (bounds_of_three op sh (bounds_at known))))

pub scaled_returns : (net : NetData) (i : ℕ) (b : Block) (op : ScaledOp) (v : Variant) (x y : WireNo) (points : Points) (given : Given) (known : List Bounds) (result : Option Bounds) → b ≡ Scaled op v x y → points ≡ points_of net (wire_at net.wires i).kind b → AreGiven given known → result ≡ cond (scaled_may_divide_by_zero op (two given.first given.second)) None (if_small (scaled_bounds op points (two given.first given.second))) → result ≡ cond ((block_rule net i b Value).fails known) None (if_small ((block_rule net i b Value).bounds known))
unfolding block_rule
scaled_returns net i b op v x y points given known result is same g e =
    rw is (e ∙ rw (g.first, g.second, same ∙ ap (points_of net (wire_at net.wires i).kind) is) (ap₂ (λ t n. cond t None (if_small n)) (form_divisor_of_two op (bounds_at known)) (form_bounds_of_two op (points_of net (wire_at net.wires i).kind (Scaled op v x y)) (bounds_at known))))

-- a block of arithmetic in a network is smooth, and shifts by at most 15 places
pub arith_there : (net : NetData) (i : ℕ) (b : Block) (op : ArithOp) (v : Variant) (x y z : WireNo) (sh : ℕ) → IsValid net → i < length net.wires → (wire_at net.wires i).item ≡ OfBlock b → b ≡ Arith op v x y z sh → (is_smooth_operation op ≡ true) × (sh ≤ 15)
arith_there net i b op v x y z sh valid h is case =
    let good = arith-valid net i op v x y z sh valid h (is ∙ ap OfBlock case) in
    (ruled_if_built op good.built, shift_from_test op sh good.shift)

-- a form's binary points, by their fields
same_points : (a b c a' b' c' : ℕ) → a ≡ a' → b ≡ b' → c ≡ c' → ◌≡◌ {A = Points} (record { a = a; b = b; c = c }) (record { a = a'; b = b'; c = c' })
same_points a b c a' b' c' p q r = ap₂ (λ (s t : ℕ). record { a = s; b = t; c = c }) p q ∙ ap (λ (t : ℕ). record { a = a'; b = b'; c = t }) r

pub scaled_points : (net : NetData) (i : ℕ) (b : Block) (op : ScaledOp) (v : Variant) (x y : WireNo) (p q r : ℕ) → b ≡ Scaled op v x y → p ≡ point_of (wire_at net.wires x.0).kind → q ≡ point_of (wire_at net.wires y.0).kind → r ≡ point_of (wire_at net.wires i).kind → ◌≡◌ {A = Points} (record { a = p; b = q; c = r }) (points_of net (wire_at net.wires i).kind b)
scaled_points net i b op v x y p q r case e f g = rw case (same_points _ _ _ _ _ _ e f g)
