-- The inputs of a routine have one width, at types that it takes, where its types are those of a variant.
use Rattle.std.proofs.Common.{◌≡◌, true}
use Rattle.fx_routines.specs.declared.operation.Types.{Types}
use Rattle.fx_routines.specs.declared.table.Routine.{Routine}
use Rattle.fx_routines.specs.Names.{takes, routine_name}
use Rattle.fx_routines.specs.Rows.{has_variant}
use Rattle.fx_routines.specs.Variants.{HasOneWidth}
use Rattle.fx_routines.proofs.NameLaws.{variant_has_one_width, named_gives, taken_names}

pub one_width : (routine : Routine) (v : Types) → has_variant routine ≡ true → takes routine v ≡ true → HasOneWidth v
one_width routine v variant taken =
    variant_has_one_width routine v (routine_name routine v) (named_gives (routine_name routine v) routine v ((taken_names routine v).0 taken)) variant
