-- What a valid network keeps of its searches and its curves: the axes and tables are there, and what they are given and give goes with
-- them.
use Rattle.std.proofs.Common.{◌≡◌, ℕ, ◌<◌, true, false, ◌&&◌, List, [], ◌∷◌, length, ◌==◌, nat_lt, refl, sym, ap, subst, ◌∙◌, true≢false, ltb-true, eqb-true}
use Rattle.std.proofs.lemmas.Bool.{and_parts}
use denote.Enum.Bare.{same_true}
use Rattle.fx_core.specs.contracts.word_type.Ty.{the_type}
use Rattle.fx_core.specs.declared.word_type.Ty.{Ty}
use Rattle.fx_routines.specs.declared.interpolation.CurveOp.{CurveOp}
use Rattle.fx_routines.specs.declared.interpolation.InterpolationOp.TheVariants as interpolation
use Rattle.fx_routines.specs.declared.operation.Types.{Types}
use Rattle.fx_routines.specs.declared.table.Routine.{Routine}
use Rattle.fx_routines.specs.declared.table.Routine.TheVariants.{Interpolation as NamedInterpolation}
use Rattle.fx_routines.specs.Variants.{same_type}
use Rattle.ifx_search.specs.Axes.{IsAxis}
use Rattle.ifx_curves.specs.Tables.{IsTable}
use Rattle.net_model.specs.declared.wires.WireNo.{WireNo}
use Rattle.net_model.specs.declared.wires.Kind.{Kind}
use Rattle.net_model.specs.declared.wires.Kind.TheVariants.{Num, Truth, Position}
use Rattle.net_model.specs.declared.wires.Block.TheVariants.{Search, Curve, IntCurve}
use Rattle.net_model.specs.declared.wires.Item.{Item}
use Rattle.net_model.specs.declared.wires.Item.TheVariants.{Input, Const, Delay, Block as OfBlock}
use Rattle.net_model.specs.declared.signatures.ListSort.TheVariants.{AxisOf}
use Rattle.net_model.specs.Wires.{NamedAxis, NamedTable, NetData, axis_at, table_at, wire_at}
use Rattle.net_model.specs.Families.{list_or_zero, signature_of}
use Rattle.net_model.specs.BlockForms.{form_in, form_of}
use Rattle.net_model.specs.Validity.{IsValid, is_axis_of, is_kind_there, is_number_of, is_of_sort, is_plain, lists_agree, is_position_on, is_position_over, is_table_of}
use Rattle.net_model.proofs.ValidityFacts.{IsGoodBlock, IsGoodWire, good_block, block-valid}

-- ---- axes and tables

-- the axes and the tables of a valid network are what they may be
pub axis-valid : (net : NetData) (n : ℕ) → IsValid net → n < length net.axes → IsAxis (axis_at net.axes n).ty (axis_at net.axes n).points
axis-valid net n h lt = (h.axes n lt).axis

pub table-valid : (net : NetData) (n : ℕ) → IsValid net → n < length net.tables → IsTable (table_at net.tables n).ty (table_at net.tables n).values
table-valid net n h lt = (h.tables n lt).table

-- an axis of a type, and a table
record HasAxis (axes : List NamedAxis) (ty : Ty) (n : ℕ) : Type 0 where
  pub there : n < length axes
  pub type : (axis_at axes n).ty ≡ ty

has_axis : (axes : List NamedAxis) (ty : Ty) (n : ℕ) → is_axis_of axes ty n ≡ true → HasAxis axes ty n
has_axis axes ty n h =
    let p = and_parts (nat_lt n (length axes)) (same_type ty (axis_at axes n).ty) h in
    record { there = ltb-true _ _ p.0; type = sym (same_true the_type tt ty (axis_at axes n).ty p.1) }

has_table : (tables : List NamedTable) (ty : Ty) (n : ℕ) → is_table_of tables ty n ≡ true → n < length tables
has_table tables ty n h = ltb-true _ _ (and_parts (nat_lt n (length tables)) (same_type ty (table_at tables n).ty) h).0

-- ---- positions

-- a position on axis number n
pub position_on : (n : ℕ) (kind : Kind) → is_position_on n kind ≡ true → kind ≡ Position n
position_on n (Num ty point) h = absurd (true≢false (sym h))
position_on n Truth h = absurd (true≢false (sym h))
position_on n (Position axis) h = ap Position (eqb-true axis n h)

-- a position on an axis of n points
pub record IsPositionOver (axes : List NamedAxis) (n : ℕ) (kind : Kind) : Type 0 where
  pub axis : ℕ
  pub same : kind ≡ Position axis
  pub there : axis < length axes
  pub long : length (axis_at axes axis).points ≡ n

position_over : (axes : List NamedAxis) (n : ℕ) (kind : Kind) → is_position_over axes n kind ≡ true → IsPositionOver axes n kind
position_over axes n (Num ty point) h = absurd (true≢false (sym h))
position_over axes n Truth h = absurd (true≢false (sym h))
position_over axes n (Position axis) h =
    let p = and_parts (nat_lt axis (length axes)) (length (axis_at axes axis).points == n) h in
    record { axis = axis; same = refl; there = ltb-true _ _ p.0; long = eqb-true _ _ p.1 }

-- ---- the axis of each kind is there

-- a number or a truth value needs none
pub plain_there : (axes : List NamedAxis) (kind : Kind) → is_plain kind ≡ true → is_kind_there axes kind ≡ true
plain_there axes (Num ty point) h = refl
plain_there axes Truth h = refl
plain_there axes (Position axis) h = absurd (true≢false (sym h))

no_position : (axes : List NamedAxis) (ty : Ty) (kind : Kind) → is_number_of ty kind ≡ true → is_kind_there axes kind ≡ true
no_position axes ty (Num t point) h = refl
no_position axes ty Truth h = refl
no_position axes ty (Position axis) h = absurd (true≢false (sym h))

-- a position that is given on the one list is on an axis
on_axis : (net : NetData) (ty : Ty) (lists : List ℕ) (kind : Kind) → lists_agree net lists (AxisOf ty ∷ []) lists ≡ true → is_position_on (list_or_zero lists 0) kind ≡ true → is_kind_there net.axes kind ≡ true
on_axis net ty [] kind agree h = absurd (true≢false (sym agree))
on_axis net ty (n ∷ m ∷ lists) kind agree h = absurd (true≢false (sym (and_parts (is_axis_of net.axes ty n) false agree).1))
on_axis net ty (n ∷ []) (Num t point) agree h = refl
on_axis net ty (n ∷ []) Truth agree h = refl
on_axis net ty (n ∷ []) (Position axis) agree h =
    let same : axis ≡ n = eqb-true axis n h in
    let given = (and_parts (is_axis_of net.axes ty n) true agree).0 in
    ap (λ k. nat_lt k (length net.axes)) same ∙ (and_parts (nat_lt n (length net.axes)) (same_type ty (axis_at net.axes n).ty) given).0

given_there : (net : NetData) (routine : Routine) (v : Types) (lists : List ℕ) (kind : Kind) → lists_agree net lists (signature_of routine v).lists lists ≡ true → is_of_sort net lists (signature_of routine v).gives kind ≡ true → is_kind_there net.axes kind ≡ true
unfolding signature_of
given_there net (NamedInterpolation interpolation.Search) v lists kind agree h = on_axis net v.x lists kind agree h
given_there net (NamedInterpolation (interpolation.Curve op)) v lists kind agree h = no_position net.axes v.o kind h
given_there net (NamedInterpolation (interpolation.IntCurve op)) v lists kind agree h = no_position net.axes v.o kind h
given_there net other v lists kind agree h = no_position net.axes v.o kind h

-- so is that of each good wire
pub kind_there : {net : NetData} {i : ℕ} {name : List ℕ} {kind : Kind} (item : Item) → IsGoodWire net i name kind item → is_kind_there net.axes kind ≡ true
kind_there {net} {i} {name} {kind} (Input lo hi) is = plain_there net.axes kind is.agreed
kind_there {net} {i} {name} {kind} (Const value) is = plain_there net.axes kind is.agreed
kind_there {net} {i} {name} {kind} (Delay init source) is = is.agreed
kind_there {net} {i} {name} {kind} (OfBlock b) is =
    let good = good_block net i name kind b is in
    let form = form_in net b in
    given_there net form.routine form.types form.lists kind good.lists good.gives

-- ---- the search

-- its argument is an earlier wire of its axis's type, and its wire a position on that axis
pub record IsGoodSearch (net : NetData) (i : ℕ) (kind : Kind) (ty : Ty) (x : WireNo) (axis : ℕ) : Type 0 where
  pub earlier : x.0 < i
  pub input : is_number_of ty (wire_at net.wires x.0).kind ≡ true
  pub there : axis < length net.axes
  pub type : (axis_at net.axes axis).ty ≡ ty
  pub points : IsAxis ty (axis_at net.axes axis).points
  pub output : kind ≡ Position axis

good_search : (net : NetData) (i : ℕ) (kind : Kind) (ty : Ty) (x : WireNo) (axis : ℕ) → IsValid net → IsGoodBlock net i kind (Search ty x axis) → IsGoodSearch net i kind ty x axis
unfolding form_of signature_of
good_search net i kind ty x axis valid g =
    let has = has_axis net.axes ty axis (and_parts (is_axis_of net.axes ty axis) true g.lists).0 in
    record {
      earlier = ltb-true _ _ (and_parts (nat_lt x.0 i) true g.earlier).0;
      input = (and_parts (is_number_of ty (wire_at net.wires x.0).kind) true g.agree).0;
      there = has.there;
      type = has.type;
      points = subst (λ t. IsAxis t (axis_at net.axes axis).points) has.type (axis-valid net axis valid has.there);
      output = position_on axis kind g.gives;
    }

pub search-valid : (net : NetData) (i : ℕ) (ty : Ty) (x : WireNo) (axis : ℕ) → IsValid net → i < length net.wires → (wire_at net.wires i).item ≡ OfBlock (Search ty x axis) → IsGoodSearch net i (wire_at net.wires i).kind ty x axis
search-valid net i ty x axis h lt e = good_search net i (wire_at net.wires i).kind ty x axis h (block-valid net i (Search ty x axis) h lt e)

-- ---- curves

-- its argument is an earlier wire, a position on an axis of as many points as its table has values, and its wire a number of the
-- table's type
pub record IsGoodCurve (net : NetData) (i : ℕ) (kind : Kind) (dp : WireNo) (table : ℕ) : Type 0 where
  pub earlier : dp.0 < i
  pub over : IsPositionOver net.axes (length (table_at net.tables table).values) (wire_at net.wires dp.0).kind
  pub there : table < length net.tables
  pub values : IsTable (table_at net.tables table).ty (table_at net.tables table).values
  pub output : is_number_of (table_at net.tables table).ty kind ≡ true

good_curve : (net : NetData) (i : ℕ) (kind : Kind) (op : CurveOp) (dp : WireNo) (table : ℕ) → IsValid net → IsGoodBlock net i kind (Curve op dp table) → IsGoodCurve net i kind dp table
unfolding form_of signature_of
good_curve net i kind op dp table valid g =
    let ty = (table_at net.tables table).ty in
    let count = length (table_at net.tables table).values in
    let there = has_table net.tables ty table (and_parts (is_table_of net.tables ty table) true g.lists).0 in
    record {
      earlier = ltb-true _ _ (and_parts (nat_lt dp.0 i) true g.earlier).0;
      over = position_over net.axes count (wire_at net.wires dp.0).kind (and_parts (is_position_over net.axes count (wire_at net.wires dp.0).kind) true g.agree).0;
      there = there;
      values = table-valid net table valid there;
      output = g.gives;
    }

pub curve-valid : (net : NetData) (i : ℕ) (op : CurveOp) (dp : WireNo) (table : ℕ) → IsValid net → i < length net.wires → (wire_at net.wires i).item ≡ OfBlock (Curve op dp table) → IsGoodCurve net i (wire_at net.wires i).kind dp table
curve-valid net i op dp table h lt e = good_curve net i (wire_at net.wires i).kind op dp table h (block-valid net i (Curve op dp table) h lt e)

-- ---- curves over an axis

-- its argument is an earlier wire of its axis's type, its table has a value for each point, and its wire is a number of the table's
-- type
pub record IsGoodIntCurve (net : NetData) (i : ℕ) (kind : Kind) (x : WireNo) (axis table : ℕ) : Type 0 where
  pub earlier : x.0 < i
  pub input : is_number_of (axis_at net.axes axis).ty (wire_at net.wires x.0).kind ≡ true
  pub axis_there : axis < length net.axes
  pub points : IsAxis (axis_at net.axes axis).ty (axis_at net.axes axis).points
  pub table_there : table < length net.tables
  pub values : IsTable (table_at net.tables table).ty (table_at net.tables table).values
  pub long : length (axis_at net.axes axis).points ≡ length (table_at net.tables table).values
  pub output : is_number_of (table_at net.tables table).ty kind ≡ true

good_int_curve : (net : NetData) (i : ℕ) (kind : Kind) (op : CurveOp) (x : WireNo) (axis table : ℕ) → IsValid net → IsGoodBlock net i kind (IntCurve op x axis table) → IsGoodIntCurve net i kind x axis table
unfolding form_of signature_of
good_int_curve net i kind op x axis table valid g =
    let xty = (axis_at net.axes axis).ty in
    let ty = (table_at net.tables table).ty in
    let same = length (axis_at net.axes axis).points == length (table_at net.tables table).values in
    let lists = and_parts (is_axis_of net.axes xty axis) (is_table_of net.tables ty table && same && true) g.lists in
    let over = and_parts (is_table_of net.tables ty table) same (and_parts (is_table_of net.tables ty table && same) true lists.1).0 in
    let has = has_axis net.axes xty axis lists.0 in
    let there = has_table net.tables ty table over.0 in
    record {
      earlier = ltb-true _ _ (and_parts (nat_lt x.0 i) true g.earlier).0;
      input = (and_parts (is_number_of xty (wire_at net.wires x.0).kind) true g.agree).0;
      axis_there = has.there;
      points = axis-valid net axis valid has.there;
      table_there = there;
      values = table-valid net table valid there;
      long = eqb-true _ _ over.1;
      output = g.gives;
    }

pub int_curve-valid : (net : NetData) (i : ℕ) (op : CurveOp) (x : WireNo) (axis table : ℕ) → IsValid net → i < length net.wires → (wire_at net.wires i).item ≡ OfBlock (IntCurve op x axis table) → IsGoodIntCurve net i (wire_at net.wires i).kind x axis table
int_curve-valid net i op x axis table h lt e = good_int_curve net i (wire_at net.wires i).kind op x axis table h (block-valid net i (IntCurve op x axis table) h lt e)
