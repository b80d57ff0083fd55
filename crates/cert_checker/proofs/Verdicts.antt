-- What the first rejected part says of acceptance.
use Rattle.std.proofs.Common.{◌≡◌, ℕ, List, length, Option, Some, None, option_map, sym, ap, ◌∙◌}
use Rattle.net_model.specs.declared.wires.PartNo.{PartNo}
use Rattle.net_model.specs.Wires.{NetData, parts_of}
use Rattle.net_model.specs.Validity.{IsValid}
use Rattle.net_model.specs.Smooth.{IsSmooth}
use Rattle.part_rules.specs.declared.bounds.Bounds.{Bounds}
use Rattle.cert_rules.specs.Acceptance.{Accepts, first_rejected}
use Rattle.cert_rules.proofs.AcceptanceLaws.{accepts_from_none_rejected, none_rejected_from_accepts}
use Rattle.cert_rules.proofs.TheoremProof.{certificates_hold}
use Rattle.cert_checker.specs.Claims.{IsProved}

-- where no part is found the certificate is accepted
pub accepts_unless_found : (net : NetData) (entries : List Bounds) (found : Option PartNo) → IsSmooth net.wires → length entries ≡ length (parts_of net.wires) → option_map (λ p. p.0) found ≡ first_rejected net entries → found ≡ None → Accepts net entries
accepts_unless_found net entries found smooth complete e none =
    let nothing : first_rejected net entries ≡ None = sym e ∙ ap (option_map (λ (p : PartNo). p.0)) none in
    accepts_from_none_rejected net entries smooth complete nothing

-- and so what it claims is proved
pub proved_unless_found : (net : NetData) (entries : List Bounds) (found : Option PartNo) → IsValid net → IsSmooth net.wires → length entries ≡ length (parts_of net.wires) → option_map (λ p. p.0) found ≡ first_rejected net entries → found ≡ None → IsProved (record { net = net; entries = entries })
proved_unless_found net entries found valid smooth complete e none =
    let accepts = accepts_unless_found net entries found smooth complete e none in
    record { accepted = accepts; holds = certificates_hold net entries valid accepts }

-- a part that is found is the first that fails
pub rejected_if_found : (net : NetData) (entries : List Bounds) (found : Option PartNo) (part : PartNo) → option_map (λ p. p.0) found ≡ first_rejected net entries → found ≡ Some part → first_rejected net entries ≡ Some part.0
rejected_if_found net entries found part e is = sym e ∙ ap (option_map (λ (p : PartNo). p.0)) is

none_is_not_some : (k : ℕ) (o : Option ℕ) → o ≡ None → o ≡ Some k → ⊥
none_is_not_some k o p q = cc

-- where a part fails the certificate isn't accepted
pub refused_if_rejected : (net : NetData) (entries : List Bounds) (k : ℕ) → first_rejected net entries ≡ Some k → Accepts net entries → ⊥
refused_if_rejected net entries k h accepts = none_is_not_some k (first_rejected net entries) (none_rejected_from_accepts net entries accepts) h
