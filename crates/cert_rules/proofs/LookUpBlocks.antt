-- Searches and curves: what the functions of their rules are given, and that what these compute is what the rules give.
use Rattle.std.specs.Prelude.{◌≡◌, ℕ, ◌-◌, ◌*◌, ◌<◌, true, false, not, ◌||◌, List, length, ℤ, pos, ◌≤ℤ◌, Option, None}
use Rattle.std.proofs.Common.{refl, ap, sym, ◌∙◌, cond, subst, arith}
use Rattle.fx_fraction.proofs.WholeNumbers.{int_le_trans}
use Rattle.fx_core.specs.declared.word_type.Ty.{Ty}
use Rattle.fx_core.specs.Types.{Holds, least_of, greatest_of}
use Rattle.fx_routines.specs.declared.interpolation.CurveOp.{CurveOp}
use Rattle.ifx_search.specs.Axes.{AxisData}
use Rattle.ifx_curves.specs.Tables.{TableData}
use Rattle.net_model.specs.declared.wires.WireNo.{WireNo}
use Rattle.net_model.specs.declared.wires.Kind.{Kind}
use Rattle.net_model.specs.declared.wires.Block.{Block}
use Rattle.net_model.specs.declared.wires.Block.TheVariants.{Search, Curve, IntCurve}
use Rattle.net_model.specs.declared.wires.Item.TheVariants.{Block as OfBlock}
use Rattle.net_model.specs.declared.wires.Role.TheVariants.{Value}
use Rattle.net_model.specs.Wires.{NamedAxis, NetData, axis_at, table_at, wire_at, kind_least, kind_greatest}
use Rattle.net_model.specs.Families.{is_interpolated, signature_of}
use Rattle.net_model.specs.BlockForms.{form_of}
use Rattle.net_model.specs.Validity.{IsValid, is_number_of}
use Rattle.net_model.proofs.ValidityFacts.{block-valid, number_kind}
use Rattle.net_model.proofs.FamilyFacts.{smooth_if_built}
use Rattle.net_model.proofs.LookUpFacts.{curve-valid, int_curve-valid, search-valid}
use Rattle.part_rules.specs.declared.bounds.Bounds.{Bounds}
use Rattle.part_rules.specs.Entries.{IsSmall, if_small}
use Rattle.part_rules.specs.PartRules.{bounds_at}
use Rattle.ifx_rules.specs.LookUpRules.{curve_bounds, curve_over_bounds, position_bounds}
use Rattle.cert_rules.specs.declared.lookups.Given.{Given}
use Rattle.cert_rules.specs.Rules.{block_rule}
use Rattle.cert_rules.specs.GivenBounds.{AreGiven, AreSized}
use Rattle.cert_rules.proofs.GivenFacts.{GivesValue, value_sized}

-- ---- what is given

-- bounds of a number of a type
pub record IsNumberGiven (ty : Ty) (b : Bounds) : Type 0 where
  pub small : IsSmall b
  pub low : Holds ty b.lo
  pub high : Holds ty b.hi

-- bounds of a wire of a type lie in the type
number_given : (axes : List NamedAxis) (ty : Ty) (kind : Kind) (b : Bounds) → is_number_of ty kind ≡ true → IsSmall b → kind_least axes kind ≤ℤ b.lo → b.hi ≤ℤ kind_greatest axes kind → IsNumberGiven ty b
number_given axes ty kind b is small low high =
    let number = number_kind ty kind is in
    let l : least_of ty ≤ℤ b.lo = subst (λ n. n ≤ℤ b.lo) (ap (kind_least axes) number.1) low in
    let g : b.hi ≤ℤ greatest_of ty = subst (λ n. b.hi ≤ℤ n) (ap (kind_greatest axes) number.1) high in
    record { small = small; low = (l, int_le_trans b.lo b.hi (greatest_of ty) small.ordered g); high = (int_le_trans (least_of ty) b.lo b.hi l small.ordered, g) }

-- a search is given an axis that is there, and bounds of a number of its type
pub record IsSearchGiven (net : NetData) (axis : ℕ) (given : Given) : Type 0 where
  pub there : axis < length net.axes
  pub number : IsNumberGiven (axis_at net.axes axis).ty given.first

pub search_given : (net : NetData) (i : ℕ) (b : Block) (ty : Ty) (x : WireNo) (axis : ℕ) (given : Given) → IsValid net → i < length net.wires → (wire_at net.wires i).item ≡ OfBlock b → AreSized net (block_rule net i b Value).reads given → b ≡ Search ty x axis → IsSearchGiven net axis given
search_given net i b ty x axis given valid h here sized is =
    let s = value_sized net i (Search ty x axis) given (rw is at sized) in
    let good = search-valid net i ty x axis valid h (here ∙ ap OfBlock is) in
    record {
      there = good.there;
      number = subst (λ t. IsNumberGiven t given.first) (sym good.type) (number_given net.axes ty (wire_at net.wires x.0).kind given.first good.input s.first (s.low (omega arith)) (s.high (omega arith)));
    }

-- a curve is given a table that is there, and bounds of a position along its values
pub record IsCurveGiven (net : NetData) (table : ℕ) (given : Given) : Type 0 where
  pub there : table < length net.tables
  pub small : IsSmall given.first
  pub low : pos 0 ≤ℤ given.first.lo
  pub high : given.first.hi ≤ℤ pos (65536 * (length (table_at net.tables table).values - 1))

pub curve_given : (net : NetData) (i : ℕ) (b : Block) (op : CurveOp) (dp : WireNo) (table : ℕ) (given : Given) → IsValid net → i < length net.wires → (wire_at net.wires i).item ≡ OfBlock b → AreSized net (block_rule net i b Value).reads given → b ≡ Curve op dp table → IsCurveGiven net table given
curve_given net i b op dp table given valid h here sized is =
    let s = value_sized net i (Curve op dp table) given (rw is at sized) in
    let good = curve-valid net i op dp table valid h (here ∙ ap OfBlock is) in
    let last = ap (kind_greatest net.axes) good.over.same ∙ ap (λ n. pos (65536 * (n - 1))) good.over.long in
    record {
      there = good.there;
      small = s.first;
      low = subst (λ n. n ≤ℤ given.first.lo) (ap (kind_least net.axes) good.over.same) (s.low (omega arith));
      high = subst (λ n. given.first.hi ≤ℤ n) last (s.high (omega arith));
    }

-- a curve over an axis is given both, of the same length, and bounds of a number of the axis's type
pub record IsIntCurveGiven (net : NetData) (axis table : ℕ) (given : Given) : Type 0 where
  pub axis_there : axis < length net.axes
  pub table_there : table < length net.tables
  pub long : length (axis_at net.axes axis).points ≡ length (table_at net.tables table).values
  pub number : IsNumberGiven (axis_at net.axes axis).ty given.first

pub int_curve_given : (net : NetData) (i : ℕ) (b : Block) (op : CurveOp) (x : WireNo) (axis table : ℕ) (given : Given) → IsValid net → i < length net.wires → (wire_at net.wires i).item ≡ OfBlock b → AreSized net (block_rule net i b Value).reads given → b ≡ IntCurve op x axis table → IsIntCurveGiven net axis table given
int_curve_given net i b op x axis table given valid h here sized is =
    let s = value_sized net i (IntCurve op x axis table) given (rw is at sized) in
    let good = int_curve-valid net i op x axis table valid h (here ∙ ap OfBlock is) in
    record {
      axis_there = good.axis_there;
      table_there = good.table_there;
      long = good.long;
      number = number_given net.axes (axis_at net.axes axis).ty (wire_at net.wires x.0).kind given.first good.input s.first (s.low (omega arith)) (s.high (omega arith));
    }

-- ---- an axis and a table that were read

pub holds_there : (read axis : AxisData) (z : ℤ) → read ≡ axis → Holds axis.ty z → Holds read.ty z
holds_there read axis z same h = rw same h

pub below_last : (read table : TableData) (z : ℤ) → read ≡ table → z ≤ℤ pos (65536 * (length table.values - 1)) → z ≤ℤ pos (65536 * (length read.values - 1))
below_last read table z same h = rw same h

pub long_as : (read axis : AxisData) (other table : TableData) → read ≡ axis → other ≡ table → length axis.points ≡ length table.values → length read.points ≡ length other.values
long_as read axis other table same alike long = rw (same, alike) long

-- ---- curves of a network are interpolated

curve_interpolated : (net : NetData) (i : ℕ) (op : CurveOp) (dp : WireNo) (table : ℕ) → IsValid net → i < length net.wires → (wire_at net.wires i).item ≡ OfBlock (Curve op dp table) → is_interpolated op ≡ true
unfolding form_of signature_of
curve_interpolated net i op dp table valid h is = smooth_if_built (Curve op dp table) (block-valid net i (Curve op dp table) valid h is).built

int_curve_interpolated : (net : NetData) (i : ℕ) (op : CurveOp) (x : WireNo) (axis table : ℕ) → IsValid net → i < length net.wires → (wire_at net.wires i).item ≡ OfBlock (IntCurve op x axis table) → is_interpolated op ≡ true
unfolding form_of signature_of
int_curve_interpolated net i op x axis table valid h is = smooth_if_built (IntCurve op x axis table) (block-valid net i (IntCurve op x axis table) valid h is).built

-- ---- what is computed is what the rule gives

-- the bounds of what reads one number are those by its first
position_of_one : (points : List ℤ) (given : ℕ → Bounds) → position_bounds points (λ p. given 0) ≡ position_bounds points given
unfolding position_bounds
position_of_one points given = refl

curve_of_one : (values : List ℤ) (given : ℕ → Bounds) → curve_bounds values (λ p. given 0) ≡ curve_bounds values given
unfolding curve_bounds
curve_of_one values given = refl

curve_over_of_one : (points values : List ℤ) (given : ℕ → Bounds) → curve_over_bounds points values (λ p. given 0) ≡ curve_over_bounds points values given
unfolding curve_over_bounds
curve_over_of_one points values given = refl

pub search_returns : (net : NetData) (i : ℕ) (b : Block) (ty : Ty) (x : WireNo) (axis : ℕ) (read : AxisData) (given : Given) (known : List Bounds) (result : Option Bounds) → b ≡ Search ty x axis → read ≡ axis_at net.axes axis → AreGiven given known → result ≡ if_small (position_bounds read.points (λ p. given.first)) → GivesValue net i b known result
unfolding block_rule
search_returns net i b ty x axis read given known result is same g e =
    let points = (axis_at net.axes axis).points in
    rw is (e ∙ ap if_small (ap (λ (a : AxisData). position_bounds a.points (λ p. given.first)) same ∙ ap (λ t. position_bounds points (λ p. t)) g.first ∙ position_of_one points (bounds_at known)))

pub curve_returns : (net : NetData) (i : ℕ) (b : Block) (op : CurveOp) (dp : WireNo) (table : ℕ) (read : TableData) (given : Given) (known : List Bounds) (result : Option Bounds) → IsValid net → i < length net.wires → (wire_at net.wires i).item ≡ OfBlock b → b ≡ Curve op dp table → read ≡ table_at net.tables table → AreGiven given known → result ≡ if_small (curve_bounds read.values (λ p. given.first)) → GivesValue net i b known result
unfolding block_rule
curve_returns net i b op dp table read given known result valid h here is same g e =
    let values = (table_at net.tables table).values in
    let smooth = curve_interpolated net i op dp table valid h (here ∙ ap OfBlock is) in
    rw is (e ∙ ap if_small (ap (λ (t : TableData). curve_bounds t.values (λ p. given.first)) same ∙ ap (λ t. curve_bounds values (λ p. t)) g.first ∙ curve_of_one values (bounds_at known)) ∙ ap (λ t. cond (not t || false) None (if_small (curve_bounds values (bounds_at known)))) (sym smooth))

pub int_curve_returns : (net : NetData) (i : ℕ) (b : Block) (op : CurveOp) (x : WireNo) (axis table : ℕ) (read : AxisData) (other : TableData) (given : Given) (known : List Bounds) (result : Option Bounds) → IsValid net → i < length net.wires → (wire_at net.wires i).item ≡ OfBlock b → b ≡ IntCurve op x axis table → read ≡ axis_at net.axes axis → other ≡ table_at net.tables table → AreGiven given known → result ≡ if_small (curve_over_bounds read.points other.values (λ p. given.first)) → GivesValue net i b known result
unfolding block_rule
int_curve_returns net i b op x axis table read other given known result valid h here is same alike g e =
    let points = (axis_at net.axes axis).points in
    let values = (table_at net.tables table).values in
    let smooth = int_curve_interpolated net i op x axis table valid h (here ∙ ap OfBlock is) in
    rw is (e ∙ ap if_small (ap (λ (a : AxisData). curve_over_bounds a.points other.values (λ p. given.first)) same ∙ ap (λ (t : TableData). curve_over_bounds points t.values (λ p. given.first)) alike ∙ ap (λ t. curve_over_bounds points values (λ p. t)) g.first ∙ curve_over_of_one points values (bounds_at known)) ∙ ap (λ t. cond (not t || false) None (if_small (curve_over_bounds points values (bounds_at known)))) (sym smooth))
