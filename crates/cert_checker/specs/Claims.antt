-- What an accepted certificate stands for.
use Rattle.std.specs.Prelude.{List}
use Rattle.net_model.specs.Wires.{NetData}
use Rattle.part_rules.specs.declared.bounds.Bounds.{Bounds}
use Rattle.cert_rules.specs.Acceptance.{Accepts}
use Rattle.cert_rules.specs.Theorem.{CertificateHolds}

-- a network, and what a certificate claims of each of its parts
pub record Claim : Type 0 where
  pub net : NetData
  pub entries : List Bounds

-- a claim is proved: it is accepted, and so it holds
pub record IsProved (claim : Claim) : Type 0 where
  -- each test of the entries is passed
  pub accepted : Accepts claim.net claim.entries
  -- over every recording, of any length, that keeps to the declared ranges: no divisor is 0, nothing saturates, each part
  -- lies in its range and differs from its value in exact fractions by at most its error
  pub holds : CertificateHolds claim.net claim.entries
