-- Where no fault is told, the values make a map.
use Rattle.std.specs.Prelude.{◌≡◌, ℕ, ◌*◌, ◌≤◌, ℤ, Bool, true, false, not, ◌==◌, ◌||◌, nat_lt, if◌then◌else◌, List, length, Option, Some, None}
use Rattle.std.proofs.Common.{refl, sym, arith, eqb-true}
use Rattle.std.proofs.lemmas.Bool.Decides.{nat_tests}
use Rattle.fx_core.specs.declared.word_type.Ty.{Ty}
use Rattle.fx_core.specs.Types.{holds, width_of}
use Rattle.fx_core.proofs.TypeLaws.{Holds-holds}
use Rattle.ifx_search.specs.Axes.{first_place}
use Rattle.ifx_search.proofs.Places.{is_nowhere}
use Rattle.ifx_curves.specs.Tables.{is_outside, value_at}
use Rattle.ifx_maps.specs.declared.map_table.MapFault.{MapFault}
use Rattle.ifx_maps.specs.declared.map_table.MapFault.TheVariants.{TooFew, TooMany, WrongCount, OutOfType}
use Rattle.ifx_maps.specs.Maps.{IsMap, fault_at, map_fault}

fault_is_not_none : (f : MapFault) → Some f ≡ None → ⊥
fault_is_not_none f h = cc

not_false : (b : Bool) → not b ≡ false → b ≡ true
not_false true e = refl
not_false false e = sym e

no_place : (a : Option ℕ) → fault_at a ≡ None → a ≡ None
no_place None e = refl
no_place (Some i) e = absurd (fault_is_not_none (OutOfType i) e)

-- the sizes that pass
by_sizes : (ty : Ty) (nx ny : ℕ) (values : List ℤ) (a b c d e : Bool) → width_of ty ≤ 16 → nat_lt nx 2 ≡ a → nat_lt ny 2 ≡ b → nat_lt 4096 nx ≡ c → nat_lt 4096 ny ≡ d → nat_lt 65536 (nx * ny) ≡ e
    → (if a || b then Some TooFew
    else if c || d || e then Some TooMany
    else if length values == nx * ny then fault_at (first_place (is_outside ty values) 0 (length values))
    else Some WrongCount) ≡ None
    → IsMap ty nx ny values
by_sizes ty nx ny values true b c d e narrow p q r s t h = absurd (fault_is_not_none TooFew h)
by_sizes ty nx ny values false true c d e narrow p q r s t h = absurd (fault_is_not_none TooFew h)
by_sizes ty nx ny values false false true d e narrow p q r s t h = absurd (fault_is_not_none TooMany h)
by_sizes ty nx ny values false false false true e narrow p q r s t h = absurd (fault_is_not_none TooMany h)
by_sizes ty nx ny values false false false false true narrow p q r s t h = absurd (fault_is_not_none TooMany h)
by_sizes ty nx ny values false false false false false narrow p q r s t h = by_count _ refl h
  where
    by_count : (b : Bool) → (length values == nx * ny) ≡ b → (if b then fault_at (first_place (is_outside ty values) 0 (length values)) else Some WrongCount) ≡ None → IsMap ty nx ny values
    by_count false e h = absurd (fault_is_not_none WrongCount h)
    by_count true e h =
        let found = no_place (first_place (is_outside ty values) 0 (length values)) h in record {
          narrow = narrow;
          some_columns = grind (arith, nat_tests);
          some_lines = grind (arith, nat_tests);
          few_columns = grind (arith, nat_tests);
          few_lines = grind (arith, nat_tests);
          few = grind (arith, nat_tests);
          count = eqb-true _ _ e;
          held = λ i h. Holds-holds ty (value_at values i) (not_false (holds ty (value_at values i)) (is_nowhere (is_outside ty values) 0 (length values) found i (omega arith) (omega (arith, h))));
        }

pub is_map : (ty : Ty) (nx ny : ℕ) (values : List ℤ) → width_of ty ≤ 16 → map_fault ty nx ny values ≡ None → IsMap ty nx ny values
is_map ty nx ny values narrow h = by_sizes ty nx ny values _ _ _ _ _ narrow refl refl refl refl refl h
