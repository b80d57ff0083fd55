-- Which parts the rule of a part reads.
use Rattle.std.specs.Prelude.{◌≡◌, ℕ, zero, suc, ◌<◌, Bool, false, ◌&&◌, ◌||◌, ◌==◌, List, [], ◌∷◌, length, if◌then◌else◌, IsTrue, Option}
use Rattle.net_model.specs.declared.wires.Part.{Part}
use Rattle.net_model.specs.declared.wires.PartNo.{PartNo}
use Rattle.net_model.specs.Wires.{NetData, is_part, parts_of}
use Rattle.net_model.specs.Validity.{IsValid}
use Rattle.part_rules.specs.declared.bounds.Bounds.{Bounds}
use Rattle.part_rules.specs.PartRules.{Reading}
use Rattle.cert_rules.specs.Rules.{part_rule, rule_of}
use Rattle.cert_rules.specs.Acceptance.{part_at}

-- how many rows ago a reading reads its part
abbrev pub rows_ago : Reading Part → ℕ
rows_ago reading = if reading.before then 1 else 0

-- a reading reads the part
abbrev pub reads_part : Part → Reading Part → Bool
reads_part part reading = is_part part.wire.0 part.role reading.part

-- the part is among those that are read, so many rows ago
abbrev pub is_read : List (Reading Part) → Part → ℕ → Bool
is_read [] part ago = false
is_read (reading ∷ reads) part ago = (reads_part part reading && rows_ago reading == ago) || is_read reads part ago

-- it is among them, whatever the row
abbrev pub is_read_ever : List (Reading Part) → Part → Bool
is_read_ever [] part = false
is_read_ever (reading ∷ reads) part = reads_part part reading || is_read_ever reads part

-- the numbers that pass a test, of n numbers from k on
unfoldable pub passing : (ℕ → Bool) → ℕ → ℕ → List PartNo
passing test k zero = []
passing test k (suc n) = if test k then record { 0 = k } ∷ passing test (suc k) n else passing test (suc k) n

-- what the rule of part number p reads
abbrev pub reads_of : NetData → ℕ → List (Reading Part)
reads_of net p = (part_rule net (part_at net p)).reads

-- whether the rule of part number p reads part number k, so many rows ago
unfoldable pub reads_ago : NetData → ℕ → ℕ → ℕ → Bool
reads_ago net p k ago = is_read (reads_of net p) (part_at net k) ago

-- whether it reads it at any row
unfoldable pub reads_at : NetData → ℕ → ℕ → Bool
reads_at net p k = is_read_ever (reads_of net p) (part_at net k)

-- the numbers of the parts that the rule of part number p reads, in the order of the network
abbrev pub read_by : NetData → ℕ → List PartNo
read_by net p = passing (reads_at net p) 0 (length (parts_of net.wires))

-- two certificates say the same of each part that the rule of part number p reads
abbrev pub AgreeFor : NetData → ℕ → (Part → Bounds) → (Part → Bounds) → Type 0
AgreeFor net p one other =
    (k : ℕ) → k < length (parts_of net.wires) → IsTrue (reads_at net p k) → one (part_at net k) ≡ other (part_at net k)

-- the rule of part number p, from what a certificate says of all parts
abbrev pub rule_by : NetData → ℕ → (Part → Bounds) → Option Bounds
rule_by net p known = rule_of net (part_at net p) known

-- the rule of a part of a valid network depends on what it reads alone
abbrev pub RulesReadTheirArguments : Type 0
RulesReadTheirArguments =
    (net : NetData) → IsValid net → (p : ℕ) → p < length (parts_of net.wires) → (one other : Part → Bounds) →
    AgreeFor net p one other → rule_by net p one ≡ rule_by net p other
