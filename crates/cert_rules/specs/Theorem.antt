-- The promise of a certificate, and that acceptance is what the tests say.
use Rattle.std.specs.Prelude.{◌≡◌, ◌↔◌, List, length, ℤ, None}
use Rattle.net_model.specs.Wires.{NetData, parts_of}
use Rattle.net_model.specs.Validity.{IsValid}
use Rattle.net_model.specs.Smooth.{IsSmooth}
use Rattle.net_meaning.specs.Runs.{AreRuns, Tables}
use Rattle.net_meaning.specs.Promises.{Keeps, Fits}
use Rattle.part_rules.specs.declared.bounds.Bounds.{Bounds}
use Rattle.cert_rules.specs.Certificates.{Within}
use Rattle.cert_rules.specs.Acceptance.{Accepts, first_rejected}

-- over these rows the certificate holds
pub record HoldsOver (net : NetData) (entries : List Bounds) (rows : List (List ℤ)) : Type 0 where
  -- what the network's wires hold, in the machine and in exact fractions
  pub tables : Tables
  -- these are the network's two runs over the rows
  pub are_runs : AreRuns net rows tables
  -- and it has no others
  pub are_only : (others : Tables) → AreRuns net rows others → others ≡ tables
  -- no divisor is 0, and nothing saturates
  pub fits : Fits net rows tables
  -- each part lies in its certified range, and differs from its value in exact fractions by at most its certified error
  pub within : Within net entries rows tables

-- a certificate holds where it does over every recording, of any length, that keeps to the declared ranges
abbrev pub CertificateHolds : NetData → List Bounds → Type 0
CertificateHolds net entries = (rows : List (List ℤ)) → Keeps net rows → HoldsOver net entries rows

-- an accepted certificate of a valid network holds
abbrev pub CertificatesHold : Type 0
CertificatesHold =
    (net : NetData) (entries : List Bounds) → IsValid net → Accepts net entries → CertificateHolds net entries

-- the entries of a smooth network, one for each part, are accepted exactly where no part is rejected
abbrev pub AcceptsExactly : Type 0
AcceptsExactly =
    (net : NetData) (entries : List Bounds) → IsSmooth net.wires → length entries ≡ length (parts_of net.wires) →
    (first_rejected net entries ≡ None ↔ Accepts net entries)

-- every valid network is smooth, since no remainder is built
abbrev pub AllAreSmooth : Type 0
AllAreSmooth = (net : NetData) → IsValid net → IsSmooth net.wires
