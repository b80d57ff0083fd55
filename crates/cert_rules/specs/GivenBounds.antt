-- The bounds that a rule is given in code; for private functions' clauses alone.
use Rattle.std.specs.Prelude.{◌≡◌, ℕ, ◌<◌, List, length, get_or, map, ◌≤ℤ◌, IsTrue, Option, Some, None}
use Rattle.net_model.specs.declared.wires.Role.{Role}
use Rattle.net_model.specs.declared.wires.Role.TheVariants.{Y, Value}
use Rattle.net_model.specs.declared.wires.Part.{Part}
use Rattle.net_model.specs.Wires.{NetData, no_part}
use Rattle.part_rules.specs.declared.bounds.Bounds.{Bounds}
use Rattle.part_rules.specs.Entries.{IsSmall, if_small}
use Rattle.part_rules.specs.Within.{no_bounds}
use Rattle.part_rules.specs.PartRules.{Reading, bounds_at, read_now}
use Rattle.efx_rules.specs.StateEntries.{IsState, if_state}
use Rattle.cert_rules.specs.declared.lookups.Given.{Given}
use Rattle.cert_rules.specs.Rules.{greatest_of_part, least_of_part, part_on}
use Rattle.cert_rules.specs.Acceptance.{is_allowed_entry}
use Rattle.cert_rules.specs.Certificates.{IsPart, entry_of}

-- the value of a wire, as a part
abbrev pub value_part : ℕ → Part
value_part wire = part_on wire Value

-- the parts that are read
abbrev pub parts_in : List (Reading Part) → List Part
parts_in reads = map (λ reading. reading.part) reads

-- reading number q, from 0
abbrev pub reading_at : List (Reading Part) → ℕ → Reading Part
reading_at reads q = get_or reads q (read_now no_part)

-- each part that is read is one of the network, and its entry is allowed
abbrev pub AreAllowedReads : NetData → List (Reading Part) → List Bounds → Type 0
AreAllowedReads net reads entries =
    (q : ℕ) → q < length reads →
    IsPart net (reading_at reads q).part
    × IsTrue (is_allowed_entry net (reading_at reads q).part (entry_of net entries (reading_at reads q).part))

-- the entry of a part, where there is one
abbrev pub entry_if : NetData → List Bounds → Option Part → Bounds
entry_if net entries None = no_bounds
entry_if net entries (Some part) = entry_of net entries part

-- these are the first three of the bounds that a rule is given; where there are fewer, they are no bounds
pub record AreGiven (given : Given) (known : List Bounds) : Type 0 where
  pub first : given.first ≡ bounds_at known 0
  pub second : given.second ≡ bounds_at known 1
  pub third : given.third ≡ bounds_at known 2

-- bounds of an allowed entry of a part of this role
abbrev pub IsSized : Role → Bounds → Type 0
IsSized Y b = IsState b
IsSized other b = IsSmall b

-- bounds, where they are small enough for a part of this role
abbrev pub if_sized : Role → Bounds → Option Bounds
if_sized Y b = if_state b
if_sized other b = if_small b

-- each of the bounds that a rule is given is one of an allowed entry, and the range of the first lies between the ends of its part
pub record AreSized (net : NetData) (reads : List (Reading Part)) (given : Given) : Type 0 where
  pub first : IsSized (reading_at reads 0).part.role given.first
  pub second : IsSized (reading_at reads 1).part.role given.second
  pub third : IsSized (reading_at reads 2).part.role given.third
  pub low : 0 < length reads → least_of_part net (reading_at reads 0).part ≤ℤ given.first.lo
  pub high : 0 < length reads → given.first.hi ≤ℤ greatest_of_part net (reading_at reads 0).part
