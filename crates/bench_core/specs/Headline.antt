-- What an accepted certificate promises, and what a run prints.
use Rattle.std.specs.Prelude.{◌≡◌, ℕ, ℤ, true, List, None, Ok}
use Rattle.net_model.specs.Wires.{NetData}
use Rattle.net_text.specs.Text.{network_of}
use Rattle.net_meaning.specs.Cells.{Cell}
use Rattle.net_meaning.specs.Blocks.{machine}
use Rattle.net_meaning.specs.Runs.{IsRun}
use Rattle.part_rules.specs.declared.bounds.Bounds.{Bounds}
use Rattle.cert_rules.specs.Acceptance.{Accepts}
use Rattle.cert_rules.specs.Theorem.{CertificateHolds}
use Rattle.rec_csv.specs.Recordings.{recording_of}
use Rattle.bench_core.specs.PrintedRuns.{run_text}
use Rattle.cert_checker.specs.CertificateText.{certificate_of}

-- the first text is a network's, the second a certificate's that is accepted for it, and the certificate holds
pub record IsCertified (net cert : List ℕ) : Type 0 where
  pub network : NetData
  pub entries : List Bounds
  -- the first text is this network's
  pub is_network : network_of net ≡ Ok network
  -- the second is a certificate's for it, with these entries
  pub is_certificate : certificate_of network cert ≡ Ok entries
  -- the entries are accepted for the network
  pub accepted : Accepts network entries
  -- over every recording, of any length, that keeps to the declared ranges: no divisor is 0, nothing saturates, each part
  -- lies in its certified range and differs from its value in exact fractions by at most its certified error
  pub holds : CertificateHolds network entries

-- the first text is a network's, the second a recording's that is read out, and this is its printed run: over the one
-- table in which each cell meets the machine's equation
pub record IsRunOf (net rec printed : List ℕ) : Type 0 where
  pub network : NetData
  pub rows : List (List ℤ)
  pub cells : List (List (Cell ℤ))
  -- the first text is this network's
  pub is_network : network_of net ≡ Ok network
  -- the second is a recording's for it, with a header and these rows, and nothing refuses it
  pub is_recording : recording_of network.wires rec ≡ record { is_headed = true; rows = rows; fault = None }
  -- each row has one value for each input, and each cell of this table meets the machine's equation over them
  pub is_run : IsRun machine network rows cells
  -- of no other table is that so
  pub is_only : (others : List (List (Cell ℤ))) → IsRun machine network rows others → others ≡ cells
  -- the outputs' cells are what is printed
  pub prints : printed ≡ run_text network cells
