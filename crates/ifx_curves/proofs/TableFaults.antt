-- Where no fault is told, the values make a table.
use Rattle.std.specs.Prelude.{◌≡◌, ℕ, ◌≤◌, ℤ, Bool, true, false, not, nat_lt, if◌then◌else◌, List, length, Option, Some, None}
use Rattle.std.proofs.Common.{refl, sym, arith}
use Rattle.std.proofs.lemmas.Bool.Decides.{nat_tests}
use Rattle.fx_core.specs.declared.word_type.Ty.{Ty}
use Rattle.fx_core.specs.Types.{holds, width_of}
use Rattle.fx_core.proofs.TypeLaws.{Holds-holds}
use Rattle.ifx_curves.specs.declared.table.TableFault.{TableFault}
use Rattle.ifx_curves.specs.declared.table.TableFault.TheVariants.{TooFew, TooMany, OutOfType}
use Rattle.ifx_search.specs.Axes.{first_place}
use Rattle.ifx_curves.specs.Tables.{IsTable, fault_at, is_outside, table_fault, value_at}
use Rattle.ifx_search.proofs.Places.{is_nowhere}

fault_is_not_none : (f : TableFault) → Some f ≡ None → ⊥
fault_is_not_none f h = cc

not_false : (b : Bool) → not b ≡ false → b ≡ true
not_false true e = refl
not_false false e = sym e

no_place : (a : Option ℕ) → fault_at a ≡ None → a ≡ None
no_place None e = refl
no_place (Some i) e = absurd (fault_is_not_none (OutOfType i) e)

by_tests : (ty : Ty) (values : List ℤ) (a b : Bool) → width_of ty ≤ 16 → nat_lt (length values) 2 ≡ a → nat_lt 4096 (length values) ≡ b
    → (if a then Some TooFew else if b then Some TooMany else fault_at (first_place (is_outside ty values) 0 (length values))) ≡ None
    → IsTable ty values
by_tests ty values true b narrow p q e = absurd (fault_is_not_none TooFew e)
by_tests ty values false true narrow p q e = absurd (fault_is_not_none TooMany e)
by_tests ty values false false narrow p q e =
    let found = no_place (first_place (is_outside ty values) 0 (length values)) e in record {
      narrow = narrow;
      some = grind (arith, nat_tests);
      few = grind (arith, nat_tests);
      held = λ i h. Holds-holds ty (value_at values i) (not_false (holds ty (value_at values i)) (is_nowhere (is_outside ty values) 0 (length values) found i (omega arith) (omega (arith, h))));
    }

pub is_table : (ty : Ty) (values : List ℤ) → width_of ty ≤ 16 → table_fault ty values ≡ None → IsTable ty values
is_table ty values narrow e = by_tests ty values (nat_lt (length values) 2) (nat_lt 4096 (length values)) narrow refl refl e
