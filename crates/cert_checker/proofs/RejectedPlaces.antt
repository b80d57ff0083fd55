-- The part that is rejected is one of the network's.
use Rattle.std.proofs.Common.{◌≡◌, ℕ, zero, suc, ◌+◌, ◌<◌, Bool, true, false, cond, List, length, Option, Some, None, sym, arith}
use Rattle.net_model.specs.Wires.{NetData, parts_of}
use Rattle.part_rules.specs.declared.bounds.Bounds.{Bounds}
use Rattle.cert_rules.specs.Acceptance.{is_allowed_at, is_inductive_at, first_failing, or_later, first_rejected}

some_same : (a b : ℕ) → ◌≡◌ {A = Option ℕ} (Some a) (Some b) → a ≡ b
some_same a b h = cc

chosen_below : (b : Bool) (rest : Option ℕ) (k p end : ℕ) → k < end → (rest ≡ Some p → p < end) → cond b rest (Some k) ≡ Some p → p < end
chosen_below true rest k p end here later h = later h
chosen_below false rest k p end here later h = let e = some_same k p h in omega arith

first_failing_below : (test : ℕ → Bool) (k n p : ℕ) → first_failing test k n ≡ Some p → p < k + n
unfolding first_failing
first_failing_below test k zero p h = cc
first_failing_below test k (suc n) p h =
    chosen_below (test k) (first_failing test (suc k) n) k p (k + suc n) (omega arith) (λ later. omega (arith, first_failing_below test (suc k) n p later)) h

either_below : (first later : Option ℕ) (p end : ℕ) → (first ≡ Some p → p < end) → (later ≡ Some p → p < end) → or_later first later ≡ Some p → p < end
either_below (Some k) later p end one two h = one h
either_below None later p end one two h = two h

-- a rejected part is one of the parts
pub rejected_below : (net : NetData) (entries : List Bounds) (p : ℕ) → Some p ≡ first_rejected net entries → p < length (parts_of net.wires)
unfolding first_rejected
rejected_below net entries p h =
    either_below _ _ p (length (parts_of net.wires)) (λ e. omega (arith, first_failing_below (is_allowed_at net entries) 0 (length (parts_of net.wires)) p e)) (λ e. omega (arith, first_failing_below (is_inductive_at net entries) 0 (length (parts_of net.wires)) p e)) (sym h)
