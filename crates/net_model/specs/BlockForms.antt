-- The form of a block: what it is given, as many wires and numbers as its routine has.
use Rattle.std.specs.Prelude.{ℕ, Bool, true, false, ◌&&◌, ◌==◌, List, [], ◌∷◌, take, drop, length, ℤ, pos, int_le}
use Rattle.std.specs.List.{list_all}
use Rattle.std.specs.Ordering.{int_eq}
use Rattle.fx_core.specs.declared.word_type.Ty.{Ty}
use Rattle.fx_routines.specs.declared.operation.Types.{Types}
use Rattle.fx_routines.specs.declared.interpolation.InterpolationOp.TheVariants as interpolation
use Rattle.fx_routines.specs.declared.table.Routine.{Routine}
use Rattle.fx_routines.specs.declared.table.Routine.TheVariants.{Interpolation as NamedInterpolation}
use Rattle.fx_routines.specs.Variants.{types}
use Rattle.net_model.specs.declared.wires.WireNo.{WireNo}
use Rattle.net_model.specs.declared.wires.Block.{Block}
use Rattle.net_model.specs.declared.signatures.Range.{Range}
use Rattle.net_model.specs.declared.signatures.Signature.{Signature}
use Rattle.net_model.specs.declared.block_forms.Form.{Form}
use Rattle.net_model.specs.Families.{first_of, held_by, list_or_zero, no_types, signature_of}
use Rattle.net_model.specs.Wires.{NamedAxis, NamedTable, NetData, axis_at, table_at}

-- ---- lists side by side

-- there are as many of both, and each passes beside the other
abbrev pub both : {A B : Type 0} → (A → B → Bool) → List A → List B → Bool
both test [] [] = true
both test (a ∷ xs) (b ∷ ys) = test a b && both test xs ys
both test xs ys = false

-- a number of a range
abbrev pub in_range : Range → ℤ → Bool
in_range range number = int_le range.low number && int_le number (pos range.high)

-- there is one number for each range, in that range
abbrev pub in_ranges : List Range → List ℤ → Bool
in_ranges = both in_range

-- ---- forms

-- the signature of a form's routine at its types
abbrev pub signature_in : Form → Signature
signature_in form = signature_of form.routine form.types

-- as many wires and numbers as the routine has
abbrev pub trimmed : Form → Form
trimmed form = record {
  routine = form.routine;
  types = form.types;
  wires = take (length (signature_in form).sorts) form.wires;
  lists = form.lists;
  numbers = take (length (signature_in form).ranges) form.numbers;
}

-- the form of a block, without the types that its lists tell
unfoldable pub form_of : Block → Form
form_of b = trimmed (held_by b)

-- ---- types that lists tell

-- the types that a block keeps: a curve keeps none
abbrev pub kept_types : Routine → Types → Types
kept_types (NamedInterpolation (interpolation.Curve op)) v = no_types
kept_types (NamedInterpolation (interpolation.IntCurve op)) v = no_types
kept_types other v = v

-- a form, with the types that a block keeps
abbrev pub untyped : Form → Form
untyped form = record {
  routine = form.routine;
  types = kept_types form.routine form.types;
  wires = form.wires;
  lists = form.lists;
  numbers = form.numbers;
}

-- the types of a routine over lists, in a network with these axes and tables: a curve's are those of its axis and its table
abbrev pub types_over : List NamedAxis → List NamedTable → Routine → Types → List ℕ → Types
types_over axes tables (NamedInterpolation (interpolation.Curve op)) v lists =
    let o : Ty = (table_at tables (list_or_zero lists 0)).ty in types o o o
types_over axes tables (NamedInterpolation (interpolation.IntCurve op)) v lists =
    let x : Ty = (axis_at axes (list_or_zero lists 0)).ty in types x x (table_at tables (list_or_zero lists 1)).ty
types_over axes tables other v lists = v

-- a form, with the types that its lists tell
abbrev pub typed : List NamedAxis → List NamedTable → Form → Form
typed axes tables form = record {
  routine = form.routine;
  types = types_over axes tables form.routine form.types form.lists;
  wires = form.wires;
  lists = form.lists;
  numbers = form.numbers;
}

-- the form of a block of a network
abbrev pub form_in : NetData → Block → Form
form_in net b = typed net.axes net.tables (form_of b)

-- ---- what a block holds beyond that: its places are spare

-- the wires that a block holds beyond those that its routine has
abbrev pub spare_wires : Block → List WireNo
spare_wires b = drop (length (signature_in (held_by b)).sorts) (held_by b).wires

-- the numbers that a block holds beyond those that its routine has
abbrev pub spare_numbers : Block → List ℤ
spare_numbers b = drop (length (signature_in (held_by b)).ranges) (held_by b).numbers

-- each spare wire repeats the first
abbrev pub repeats_first : Block → Bool
repeats_first b = list_all (λ w. w.0 == (first_of (form_of b).wires).0) (spare_wires b)

-- each spare number is 0
abbrev pub adds_no_number : Block → Bool
adds_no_number b = list_all (λ n. int_eq n (pos 0)) (spare_numbers b)
