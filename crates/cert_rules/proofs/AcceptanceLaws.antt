-- A certificate is accepted exactly where no part is rejected.
use Rattle.std.specs.Prelude.{◌≡◌, ℕ, zero, suc, ◌+◌, ◌<◌, ◌≤◌, Bool, true, false, List, length, IsTrue, Option, Some, None}
use Rattle.std.proofs.Common.{refl, ap, ◌∙◌, arith, inl, inr}
use Rattle.std.proofs.lemmas.Bool.{cases_eq, false≢true}
use Rattle.net_model.specs.declared.wires.Item.{Item}
use Rattle.net_model.specs.declared.wires.Item.TheVariants.{Input, Const, Delay, Block as OfBlock}
use Rattle.net_model.specs.Wires.{NetData, wire_at, parts_of}
use Rattle.net_model.specs.Validity.{IsValid}
use Rattle.net_model.specs.Smooth.{is_smooth, IsSmooth}
use Rattle.net_model.proofs.ValidityFacts.{block-valid}
use Rattle.net_model.proofs.FamilyFacts.{smooth_if_built}
use Rattle.part_rules.specs.declared.bounds.Bounds.{Bounds}
use Rattle.cert_rules.specs.Acceptance.{Accepts, is_allowed_at, is_inductive_at, first_failing, or_later, first_rejected}
use Rattle.cert_rules.specs.Theorem.{AcceptsExactly, AllAreSmooth}

some_is_not_none : (k : ℕ) → Some k ≡ None → ⊥
some_is_not_none k h = cc

-- ---- the first number that fails a test

none_fails_step : (test : ℕ → Bool) (k n : ℕ) (t : Bool) → test k ≡ t → IsTrue t → first_failing test (suc k) n ≡ None → first_failing test k (suc n) ≡ None
unfolding first_failing
none_fails_step test k n true e h rest = rw e rest
none_fails_step test k n false e h rest = absurd (false≢true h)

-- where all pass there is none
none_fails : (test : ℕ → Bool) (n k : ℕ) → ((i : ℕ) → k ≤ i → i < k + n → IsTrue (test i)) → first_failing test k n ≡ None
unfolding first_failing
none_fails test zero k h = refl
none_fails test (suc n) k h = none_fails_step test k n (test k) refl (h k (omega arith) (omega arith)) (none_fails test n (suc k) (λ i p q. h i (omega arith) (omega arith)))

-- where there is none the first number passes, and none of the others fails
record PassesFirst (test : ℕ → Bool) (k n : ℕ) : Type 0 where
  first : IsTrue (test k)
  others : first_failing test (suc k) n ≡ None

passes_first : (test : ℕ → Bool) (k n : ℕ) (t : Bool) → test k ≡ t → first_failing test k (suc n) ≡ None → PassesFirst test k n
unfolding first_failing
passes_first test k n true e h = record { first = e; others = rw e at h }
passes_first test k n false e h = absurd (some_is_not_none k (rw e at h))

all_pass : (test : ℕ → Bool) (n k : ℕ) → first_failing test k n ≡ None → (i : ℕ) → k ≤ i → i < k + n → IsTrue (test i)
all_pass test zero k h i p q = absurd (omega arith)
all_pass test (suc n) k h i p q =
    let now = passes_first test k n (test k) refl h in
    elim (cases_eq i k) [
      | inl e ↦ rw e now.first
      | inr ne ↦ all_pass test n (suc k) now.others i (omega arith) (omega arith)
    ]

-- ---- both tests of all parts

neither : (a b : Option ℕ) → or_later a b ≡ None → (a ≡ None) × (b ≡ None)
neither (Some k) b h = (h, absurd (some_is_not_none k h))
neither None b h = (refl, h)

pub accepts_from_none_rejected : (net : NetData) (entries : List Bounds) → IsSmooth net.wires → length entries ≡ length (parts_of net.wires) → first_rejected net entries ≡ None → Accepts net entries
unfolding first_rejected
accepts_from_none_rejected net entries smooth complete h =
    let both = neither (first_failing (is_allowed_at net entries) 0 (length (parts_of net.wires))) (first_failing (is_inductive_at net entries) 0 (length (parts_of net.wires))) h in
    record {
      smooth = smooth;
      complete = complete;
      allowed = λ k l. all_pass (is_allowed_at net entries) (length (parts_of net.wires)) 0 both.0 k (omega arith) (omega arith);
      inductive = λ k l. all_pass (is_inductive_at net entries) (length (parts_of net.wires)) 0 both.1 k (omega arith) (omega arith);
    }

pub none_rejected_from_accepts : (net : NetData) (entries : List Bounds) → Accepts net entries → first_rejected net entries ≡ None
unfolding first_rejected
none_rejected_from_accepts net entries a =
    let allowed = none_fails (is_allowed_at net entries) (length (parts_of net.wires)) 0 (λ i p q. a.allowed i (omega arith)) in
    let inductive = none_fails (is_inductive_at net entries) (length (parts_of net.wires)) 0 (λ i p q. a.inductive i (omega arith)) in
    ap (λ o. or_later o (first_failing (is_inductive_at net entries) 0 (length (parts_of net.wires)))) allowed ∙ inductive

pub accepts_exactly : AcceptsExactly
accepts_exactly net entries smooth complete = (accepts_from_none_rejected net entries smooth complete, none_rejected_from_accepts net entries)

-- ---- smoothness

smooth_item : (net : NetData) (i : ℕ) (item : Item) → IsValid net → i < length net.wires → (wire_at net.wires i).item ≡ item → IsTrue (is_smooth item)
smooth_item net i (Input lo hi) valid h e = refl
smooth_item net i (Const value) valid h e = refl
smooth_item net i (Delay init source) valid h e = refl
smooth_item net i (OfBlock b) valid h e = smooth_if_built b (block-valid net i b valid h e).built

pub all_are_smooth : AllAreSmooth
all_are_smooth net valid i h = smooth_item net i (wire_at net.wires i).item valid h refl
