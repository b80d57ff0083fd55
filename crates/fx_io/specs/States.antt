-- What is seen of the shelves and sinks that this crate makes.
use Rattle.std.specs.Prelude.{ℕ, List}
use Rattle.std.specs.declared.option.Option.{Option}

-- files in memory, by name, and the bytes of the started one that are still to come
pub record StockState : Type 0 where
  pub files : List (List ℕ × List ℕ)
  pub left : List ℕ

-- a shelf in memory that never fails
pub record SteadyState : Type 0 where
  pub files : List (List ℕ × List ℕ)
  pub left : List ℕ
  pub named : List ℕ

-- a shelf in memory that fails at chosen calls, and how many calls it had
pub record MemState : Type 0 where
  pub files : List (List ℕ × List ℕ)
  pub left : List ℕ
  pub faults : ℕ
  pub named : List ℕ
  pub failed : List ℕ
  pub failing : List ℕ
  pub calls : ℕ

-- a shelf of real files: what the started one has still to give, where that is known
pub record FileState : Type 0 where
  pub coming : Option (List ℕ)
  pub faults : ℕ
  pub named : List ℕ
  pub failed : List ℕ

-- the name in use, and the name that failed last
pub record NamesState : Type 0 where
  pub named : List ℕ
  pub failed : List ℕ

-- a sink in memory that fails at chosen writes, and how many writes it had
pub record MemSinkState : Type 0 where
  pub written : List ℕ
  pub faults : ℕ
  pub failing : List ℕ
  pub calls : ℕ

-- a sink over a writer: what the writer holds, where that is known
pub record StdSinkState : Type 0 where
  pub held : Option (List ℕ)
  pub faults : ℕ
