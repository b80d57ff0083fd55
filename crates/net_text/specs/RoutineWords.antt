-- The routines of a network's text.
use Rattle.std.specs.Prelude.{ℕ, List, ok_or, Result, Ok}
use Rattle.text_words.specs.Steps.{◌>>=◌, demand}
use Rattle.fx_routines.specs.declared.operation.Types.{Types}
use Rattle.fx_routines.specs.declared.table.Routine.{Routine}
use Rattle.fx_routines.specs.Reading.{named}
use Rattle.net_model.specs.declared.network.NetKind.{NetKind}
use Rattle.net_model.specs.declared.network.NetKind.TheVariants.{UnknownRoutine, NotBuilt}
use Rattle.net_model.specs.Families.{is_built}

-- the routine of a name, and its types: no routine has the name, or it isn't built
unfoldable pub routine_at : List ℕ → Result (Routine × Types) NetKind
routine_at word = do
  found ← ok_or (named word) UnknownRoutine
  _ ← demand (is_built found.0) NotBuilt
  Ok found
