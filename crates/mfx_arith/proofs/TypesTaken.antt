-- What the rows of the operations take, said by equations of types.
use Rattle.std.proofs.Common.{◌≡◌, ◌↔◌, ◌==◌, Bool, true, false, cond, ◌&&◌, is_some, Some, None, refl, sym, ◌∙◌}
use Rattle.std.proofs.lemmas.Bool.{and_from, and_parts}
use Rattle.std.proofs.lemmas.Bool.Decides.{Decides-eqb}
use denote.Enum.Bare.{same_true, true_same}
use Rattle.fx_core.specs.Types.{width_of}
use Rattle.fx_core.specs.contracts.word_type.Ty.{the_type}
use Rattle.fx_routines.specs.declared.operation.ArithOp.{ArithOp}
use Rattle.fx_routines.specs.declared.operation.ArithOp.TheVariants.{Add, Sub, AbsDiff, Abs, Mul, Div, Mod, MulDiv, MulShRight, DivShLeft, Limit, Min, Max, RateLimiter}
use Rattle.fx_routines.specs.declared.operation.Variant.{Variant}
use Rattle.fx_routines.specs.declared.table.Routine.TheVariants.{Arith}
use Rattle.fx_routines.specs.Names.{row_of, takes}
use Rattle.fx_routines.specs.Rows.{Row, rows}
use Rattle.fx_routines.specs.Variants.{same_type}
use Rattle.mfx_arith.specs.Operations.{HasOneInput, HasOneType, HasOneWidth, Takes}

-- the row is found exactly where the types fit it
if_fits : (fit : Bool) (row : Row) → is_some (cond fit (Some row) None) ≡ true → fit ≡ true
if_fits true row h = refl
if_fits false row h = absurd (cc)

is_found : (fit : Bool) (row : Row) → fit ≡ true → is_some (cond fit (Some row) None) ≡ true
is_found true row h = refl
is_found false row h = absurd (cc)

only : (a : Bool) → (a && true) ≡ true → a ≡ true
only true h = refl
only false h = absurd (cc)

alone : (a : Bool) → a ≡ true → (a && true) ≡ true
alone true h = refl
alone false h = absurd (cc)

abbrev one_width : Variant → Bool
one_width v = width_of v.y == width_of v.x

-- the row of a pair, and of a pair with a third input or a shift
pair : (row : Row) (v : Variant) → (is_some (cond ((((one_width v && true) && true) && true) && true) (Some row) None) ≡ true) ↔ HasOneWidth v
pair row v = (
  (λ h. sym ((Decides-eqb (width_of v.y) (width_of v.x)).0 (only _ (only _ (only _ (only _ (if_fits _ row h))))))),
  (λ h. is_found _ row (alone _ (alone _ (alone _ (alone _ ((Decides-eqb (width_of v.y) (width_of v.x)).1 (sym h))))))),
)

-- the row of one input
one_input : (row : Row) (v : Variant) → (is_some (cond (same_type v.y v.x && true) (Some row) None) ≡ true) ↔ HasOneInput v
one_input row v = (
  (λ h. sym (same_true the_type tt v.y v.x (only _ (if_fits _ row h)))),
  (λ h. is_found _ row (alone _ (true_same the_type v.y v.x (sym h)))),
)

-- the row of one type
one_type : (row : Row) (v : Variant) → (is_some (cond (same_type v.y v.x && same_type v.o v.x) (Some row) None) ≡ true) ↔ HasOneType v
one_type row v = (
  (λ h. let a = and_parts (same_type v.y v.x) (same_type v.o v.x) (if_fits _ row h) in
      let y = same_true the_type tt v.y v.x a.0 in
      (sym y, y ∙ sym (same_true the_type tt v.o v.x a.1))),
  (λ h. is_found _ row (and_from _ _ (true_same the_type v.y v.x (sym h.0)) (true_same the_type v.o v.x (sym (h.0 ∙ h.1))))),
)

-- what the table's row of an operation takes is what the operation takes
pub taken : (op : ArithOp) (v : Variant) → (takes (Arith op) v ≡ true) ↔ Takes op v
unfolding row_of rows
taken Add v = pair _ v
taken Sub v = pair _ v
taken AbsDiff v = pair _ v
taken Abs v = one_input _ v
taken Mul v = pair _ v
taken Div v = pair _ v
taken Mod v = pair _ v
taken MulDiv v = pair _ v
taken MulShRight v = pair _ v
taken DivShLeft v = pair _ v
taken Limit v = one_type _ v
taken Min v = one_type _ v
taken Max v = one_type _ v
taken RateLimiter v = one_type _ v
