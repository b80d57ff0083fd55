-- The families, one equation each: which routines are built, what a routine takes and gives, what a block holds, and the
-- block of what is given.
use Rattle.std.specs.Prelude.{ℕ, Bool, true, false, List, [], ◌∷◌, map, get_or, ℤ, pos, negsuc, unsigned_abs, if◌then◌else◌}
use Rattle.fx_routines.specs.declared.operation.ArithOp.{ArithOp}
use Rattle.fx_routines.specs.declared.operation.ArithOp.TheVariants.{Mod, MulShRight, DivShLeft}
use Rattle.fx_core.specs.declared.word_type.Ty.TheVariants.{U8}
use Rattle.fx_routines.specs.declared.operation.Types.{Types}
use Rattle.fx_routines.specs.declared.control.FilterOp.{FilterOp}
use Rattle.fx_routines.specs.declared.control.FilterOp.TheVariants as filter
use Rattle.fx_routines.specs.declared.interpolation.CurveOp.{CurveOp}
use Rattle.fx_routines.specs.declared.interpolation.CurveOp.TheVariants.{Ipo, LkUp}
use Rattle.fx_routines.specs.declared.interpolation.InterpolationOp.TheVariants as interpolation
use Rattle.fx_routines.specs.Variants.{types}
use Rattle.fx_routines.specs.declared.table.Routine.{Routine}
use Rattle.fx_routines.specs.declared.table.Routine.TheVariants.{Arith as NamedArith, Scaled as NamedScaled, Filter as NamedFilter, Interpolation as NamedInterpolation}
use Rattle.mfx_arith.specs.Operations.{argument_types, is_smooth_operation}
use Rattle.mfx_scaled.specs.Operations.{argument_types as scaled_types}
use Rattle.net_model.specs.declared.wires.WireNo.{WireNo}
use Rattle.net_model.specs.declared.wires.Block.{Block}
use Rattle.net_model.specs.declared.wires.Block.TheVariants.{Arith, Scaled, Gain, Average, Pt1, Dt1, Search, Curve, IntCurve}
use Rattle.net_model.specs.declared.signatures.Sort.TheVariants.{Number, On, Over}
use Rattle.net_model.specs.declared.signatures.ListSort.TheVariants.{AxisOf, TableOf, TableOver}
use Rattle.net_model.specs.declared.signatures.Range.{Range}
use Rattle.net_model.specs.declared.signatures.Signature.{Signature}
use Rattle.net_model.specs.declared.block_forms.Form.{Form}

-- ---- what is built

-- the routine is built as a block: all of arithmetic are but the remainder, all forms with binary points, all filters, the
-- search on an axis, and curves that are interpolated
abbrev pub is_built : Routine → Bool
is_built (NamedArith Mod) = false
is_built (NamedArith other) = true
is_built (NamedScaled op) = true
is_built (NamedFilter op) = true
is_built (NamedInterpolation interpolation.Search) = true
is_built (NamedInterpolation (interpolation.Curve Ipo)) = true
is_built (NamedInterpolation (interpolation.IntCurve Ipo)) = true
is_built other = false

-- the greatest count of places that an operation shifts by
abbrev pub most_shift : ℕ
most_shift = 15

-- ---- what a routine takes and gives

-- the numbers from low to high
abbrev pub between : ℤ → ℕ → Range
between low high = record { low = low; high = high }

-- an operation that shifts is given a count of places
abbrev pub arith_ranges : ArithOp → List Range
arith_ranges MulShRight = between (pos 0) most_shift ∷ []
arith_ranges DivShLeft = between (pos 0) most_shift ∷ []
arith_ranges other = []

-- a gain, with 16 fractional bits
abbrev pub gains : Range
gains = between (negsuc 2147483647) 2147483647

-- the weight of an old state, in 1/65536
abbrev pub weights : Range
weights = between (pos 0) 65536

-- over how many rows an average goes
abbrev pub counts_of_rows : Range
counts_of_rows = between (pos 1) 1024

-- the numbers of a filter
abbrev pub filter_ranges : FilterOp → List Range
filter_ranges filter.Gain = gains ∷ []
filter_ranges filter.Average = counts_of_rows ∷ []
filter_ranges other = weights ∷ gains ∷ []

-- a curve that is interpolated is smooth, and one that is looked up isn't
abbrev pub is_interpolated : CurveOp → Bool
is_interpolated Ipo = true
is_interpolated LkUp = false

-- the signature of a routine at its types; one that isn't built has an empty one
unfoldable pub signature_of : Routine → Types → Signature
signature_of (NamedArith op) v = record {
  sorts = map Number (argument_types op v);
  lists = [];
  ranges = arith_ranges op;
  gives = Number v.o;
  smooth = is_smooth_operation op;
}
signature_of (NamedScaled op) v = record { sorts = map Number (scaled_types op v); lists = []; ranges = []; gives = Number v.o; smooth = true }
signature_of (NamedFilter op) v = record { sorts = Number v.x ∷ []; lists = []; ranges = filter_ranges op; gives = Number v.o; smooth = true }
signature_of (NamedInterpolation interpolation.Search) v =
    record { sorts = Number v.x ∷ []; lists = AxisOf v.x ∷ []; ranges = []; gives = On 0; smooth = true }
signature_of (NamedInterpolation (interpolation.Curve op)) v =
    record { sorts = Over 0 ∷ []; lists = TableOf v.o ∷ []; ranges = []; gives = Number v.o; smooth = is_interpolated op }
signature_of (NamedInterpolation (interpolation.IntCurve op)) v = record {
  sorts = Number v.x ∷ [];
  lists = AxisOf v.x ∷ TableOver v.o 0 ∷ [];
  ranges = [];
  gives = Number v.o;
  smooth = is_interpolated op;
}
signature_of other v = record { sorts = []; lists = []; ranges = []; gives = Number v.o; smooth = false }

-- ---- what a block holds

-- the types of a form whose lists tell them
abbrev pub no_types : Types
no_types = types U8 U8 U8

-- all that a block holds: also the wires and numbers that its routine doesn't have; the types of a curve are told by its lists
abbrev pub held_by : Block → Form
held_by (Arith op v x y z sh) =
    record { routine = NamedArith op; types = v; wires = x ∷ y ∷ z ∷ []; lists = []; numbers = pos sh ∷ [] }
held_by (Scaled op v x y) = record { routine = NamedScaled op; types = v; wires = x ∷ y ∷ []; lists = []; numbers = [] }
held_by (Gain xty ty x k) =
    record { routine = NamedFilter filter.Gain; types = types xty xty ty; wires = x ∷ []; lists = []; numbers = k ∷ [] }
held_by (Average xty ty x n) =
    record { routine = NamedFilter filter.Average; types = types xty xty ty; wires = x ∷ []; lists = []; numbers = pos n ∷ [] }
held_by (Pt1 xty ty x teq k) =
    record { routine = NamedFilter filter.Pt1; types = types xty xty ty; wires = x ∷ []; lists = []; numbers = pos teq ∷ k ∷ [] }
held_by (Dt1 second xty ty x teq k) = record {
  routine = NamedFilter (if second then filter.Dt1Typ2 else filter.Dt1Typ1);
  types = types xty xty ty;
  wires = x ∷ [];
  lists = [];
  numbers = pos teq ∷ k ∷ [];
}
held_by (Search ty x axis) = record {
  routine = NamedInterpolation interpolation.Search;
  types = types ty ty ty;
  wires = x ∷ [];
  lists = axis ∷ [];
  numbers = [];
}
held_by (Curve op dp table) = record {
  routine = NamedInterpolation (interpolation.Curve op);
  types = no_types;
  wires = dp ∷ [];
  lists = table ∷ [];
  numbers = [];
}
held_by (IntCurve op x axis table) = record {
  routine = NamedInterpolation (interpolation.IntCurve op);
  types = no_types;
  wires = x ∷ [];
  lists = axis ∷ table ∷ [];
  numbers = [];
}

-- ---- the block of what is given

-- the first wire, and wire 0 where there is none
abbrev pub first_of : List WireNo → WireNo
first_of wires = get_or wires 0 (record { 0 = 0 })

-- wire number p, from 0, and the first where there is none
abbrev pub wire_or_first : List WireNo → ℕ → WireNo
wire_or_first wires p = get_or wires p (first_of wires)

-- number p, from 0, and 0 where there is none
abbrev pub number_or_zero : List ℤ → ℕ → ℤ
number_or_zero numbers p = get_or numbers p (pos 0)

-- list number p, from 0, and list 0 where there is none
abbrev pub list_or_zero : List ℕ → ℕ → ℕ
list_or_zero lists p = get_or lists p 0

-- the block of a form; that of a routine that isn't built is the remainder, which isn't built either
unfoldable pub block_of : Form → Block
block_of form = by form.routine form.types form.wires form.lists form.numbers where
  by : Routine → Types → List WireNo → List ℕ → List ℤ → Block
  by (NamedArith op) v wires lists numbers =
      let wire : ℕ → WireNo = wire_or_first wires in
      Arith op v (wire 0) (wire 1) (wire 2) (unsigned_abs (number_or_zero numbers 0))
  by (NamedScaled op) v wires lists numbers = Scaled op v (wire_or_first wires 0) (wire_or_first wires 1)
  by (NamedFilter filter.Gain) v wires lists numbers = Gain v.x v.o (first_of wires) (number_or_zero numbers 0)
  by (NamedFilter filter.Average) v wires lists numbers =
      Average v.x v.o (first_of wires) (unsigned_abs (number_or_zero numbers 0))
  by (NamedFilter filter.Pt1) v wires lists numbers =
      Pt1 v.x v.o (first_of wires) (unsigned_abs (number_or_zero numbers 0)) (number_or_zero numbers 1)
  by (NamedFilter filter.Dt1Typ1) v wires lists numbers =
      Dt1 false v.x v.o (first_of wires) (unsigned_abs (number_or_zero numbers 0)) (number_or_zero numbers 1)
  by (NamedFilter filter.Dt1Typ2) v wires lists numbers =
      Dt1 true v.x v.o (first_of wires) (unsigned_abs (number_or_zero numbers 0)) (number_or_zero numbers 1)
  by (NamedInterpolation interpolation.Search) v wires lists numbers = Search v.x (first_of wires) (list_or_zero lists 0)
  by (NamedInterpolation (interpolation.Curve op)) v wires lists numbers = Curve op (first_of wires) (list_or_zero lists 0)
  by (NamedInterpolation (interpolation.IntCurve op)) v wires lists numbers =
      IntCurve op (first_of wires) (list_or_zero lists 0) (list_or_zero lists 1)
  by other v wires lists numbers = Arith Mod v (first_of wires) (first_of wires) (first_of wires) 0
