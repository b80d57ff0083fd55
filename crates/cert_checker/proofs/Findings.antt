-- How the first part that fails a test is found, one part at a time.
use Rattle.std.proofs.Common.{◌≡◌, ℕ, zero, suc, ◌+◌, ◌-◌, ◌<◌, ◌≤◌, Bool, true, false, cond, ◌&&◌, List, length, ℤ, pos, int_le, refl, sym, ap, ◌∙◌, arith, Option, Some, None, option_map, eq-or-lt_of_le, inl, inr, FitsSigned, w64}
use Rattle.std.proofs.lemmas.Int.{to_z-of_z}
use Rattle.net_model.specs.declared.wires.PartNo.{PartNo}
use Rattle.net_model.specs.Wires.{NetData, wire_at, parts_of}
use Rattle.fx_core.proofs.WordSteps.{word_of}
use Rattle.part_rules.specs.declared.bounds.Bounds.{Bounds}
use Rattle.cert_rules.specs.Certificates.{entry_of}
use Rattle.cert_rules.specs.Rules.{is_allowed, rule_of}
use Rattle.cert_rules.specs.Acceptance.{AreAllowed, entry_at, first_failing, first_rejected, is_inductive_at, is_allowed_at, lies_inside, or_later, part_at, start_of, starts_inside}

-- ---- one step of the search

first_failing-step : (test : ℕ → Bool) (k m : ℕ) → first_failing test k (suc m) ≡ cond (test k) (first_failing test (suc k) m) (Some k)
unfolding first_failing
first_failing-step test k m = refl

first_failing-at : (test : ℕ → Bool) (k n : ℕ) → k < n → first_failing test k (n - k) ≡ cond (test k) (first_failing test (k + 1) (n - (k + 1))) (Some k)
first_failing-at test k n h =
    let e : n - k ≡ suc (n - (k + 1)) = omega arith in
    let f : suc k ≡ k + 1 = omega arith in
    ap (first_failing test k) e ∙ first_failing-step test k (n - (k + 1)) ∙ ap (λ j. cond (test k) (first_failing test j (n - (k + 1))) (Some k)) f

-- a part that passes is left behind
pub first_failing-passed : (test : ℕ → Bool) (k n : ℕ) (all : Option ℕ) → k < n → test k ≡ true → all ≡ first_failing test k (n - k) → all ≡ first_failing test (k + 1) (n - (k + 1))
first_failing-passed test k n all h t e =
    e ∙ first_failing-at test k n h ∙ ap (λ b. cond b (first_failing test (k + 1) (n - (k + 1))) (Some k)) t

-- one that fails is the answer
pub first_failing-failed : (test : ℕ → Bool) (k n : ℕ) (all : Option ℕ) → k < n → test k ≡ false → all ≡ first_failing test k (n - k) → Some k ≡ all
first_failing-failed test k n all h t e =
    sym (e ∙ first_failing-at test k n h ∙ ap (λ b. cond b (first_failing test (k + 1) (n - (k + 1))) (Some k)) t)

-- where none is left all pass
pub first_failing-end : (test : ℕ → Bool) (k n : ℕ) (all : Option ℕ) → n ≤ k → all ≡ first_failing test k (n - k) → None ≡ all
unfolding first_failing
first_failing-end test k n all h e =
    let z : n - k ≡ 0 = omega arith in
    sym (e ∙ ap (first_failing test k) z)

-- ---- what it says that there is none

none_case : (test : ℕ → Bool) (k m i : ℕ) (b : Bool) → test k ≡ b → cond b (first_failing test (suc k) m) (Some k) ≡ None → (first_failing test (suc k) m ≡ None → k < i → test i ≡ true) → k ≤ i → test i ≡ true
none_case test k m i true t e later h =
    elim (eq-or-lt_of_le h) [ inl same ↦ ap test (sym same) ∙ t | inr less ↦ later e less ]
none_case test k m i false t e later h = cc

all_pass_from : (test : ℕ → Bool) (k m i : ℕ) → first_failing test k m ≡ None → k ≤ i → i < k + m → test i ≡ true
all_pass_from test k zero i e h l = absurd (omega arith)
all_pass_from test k (suc m) i e h l =
    none_case test k m i (test k) refl (sym (first_failing-step test k m) ∙ e) (λ f g. let up : suc k ≤ i = omega arith in let end : i < suc k + m = omega arith in all_pass_from test (suc k) m i f up end) h

-- where no entry fails the first test each is allowed
pub allowed_from_none : (net : NetData) (entries : List Bounds) (found : Option PartNo) → option_map (λ p. p.0) found ≡ first_failing (is_allowed_at net entries) 0 (length (parts_of net.wires)) → found ≡ None → AreAllowed net entries
allowed_from_none net entries found e none k h =
    let nothing : first_failing (is_allowed_at net entries) 0 (length (parts_of net.wires)) ≡ None = sym e ∙ ap (option_map (λ (p : PartNo). p.0)) none in
    all_pass_from (is_allowed_at net entries) 0 (length (parts_of net.wires)) k nothing (omega arith) (omega arith)

-- ---- the two searches in turn

pub rejected_first : (net : NetData) (entries : List Bounds) (found : Option PartNo) (k : PartNo) → option_map (λ p. p.0) found ≡ first_failing (is_allowed_at net entries) 0 (length (parts_of net.wires)) → found ≡ Some k → Some k.0 ≡ first_rejected net entries
unfolding first_rejected
rejected_first net entries found k e is =
    ap (λ t. or_later t (first_failing (is_inductive_at net entries) 0 (length (parts_of net.wires)))) (sym (ap (option_map (λ (p : PartNo). p.0)) is) ∙ e)

pub rejected_later : (net : NetData) (entries : List Bounds) (found later : Option PartNo) → option_map (λ p. p.0) found ≡ first_failing (is_allowed_at net entries) 0 (length (parts_of net.wires)) → found ≡ None → option_map (λ p. p.0) later ≡ first_failing (is_inductive_at net entries) 0 (length (parts_of net.wires)) → option_map (λ p. p.0) later ≡ first_rejected net entries
unfolding first_rejected
rejected_later net entries found later e is f =
    f ∙ ap (λ t. or_later t (first_failing (is_inductive_at net entries) 0 (length (parts_of net.wires)))) (sym (ap (option_map (λ (p : PartNo). p.0)) is) ∙ e)

-- ---- the two tests of a part

pub allowed_when : (net : NetData) (entries : List Bounds) (k : ℕ) (t p : Bool) → t ≡ is_allowed net (part_at net k) (entry_at entries k) → t ≡ true → p ≡ (int_le (entry_at entries k).lo (entry_at entries k).hi && int_le (pos 0) (entry_at entries k).err) → p ≡ is_allowed_at net entries k
unfolding is_allowed_at
allowed_when net entries k t p e passed f =
    f ∙ ap (λ a. a && int_le (entry_at entries k).lo (entry_at entries k).hi && int_le (pos 0) (entry_at entries k).err) (sym passed ∙ e)

pub allowed_not : (net : NetData) (entries : List Bounds) (k : ℕ) (t : Bool) → t ≡ is_allowed net (part_at net k) (entry_at entries k) → t ≡ false → t ≡ is_allowed_at net entries k
unfolding is_allowed_at
allowed_not net entries k t e failed =
    failed ∙ ap (λ a. a && int_le (entry_at entries k).lo (entry_at entries k).hi && int_le (pos 0) (entry_at entries k).err) (sym failed ∙ e)

-- what a rule gives lies within an entry
pub kept_some : (found given : Option Bounds) (entry b : Bounds) {t : Bool} → found ≡ given → found ≡ Some b → t ≡ (int_le entry.lo b.lo && int_le b.hi entry.hi && int_le b.err entry.err) → t ≡ lies_inside given entry
kept_some found given entry b e is f = f ∙ ap (λ r. lies_inside r entry) (sym is ∙ e)

-- nothing lies within one
pub kept_none : {found given : Option Bounds} (entry : Bounds) → found ≡ given → found ≡ None → false ≡ lies_inside given entry
kept_none entry e is = ap (λ r. lies_inside r entry) (sym is ∙ e)

-- the value from which part number k starts
abbrev start_at : NetData → ℕ → Option ℤ
start_at net k = start_of (wire_at net.wires (part_at net k).wire.0).item (part_at net k).role

-- a part that starts within its entry is inductive where its rule keeps to the entry
pub inductive_when : (net : NetData) (entries : List Bounds) (k : ℕ) (start : Option ℤ) (t r : Bool) → start ≡ start_at net k → t ≡ starts_inside start (entry_at entries k) → t ≡ true → r ≡ lies_inside (rule_of net (part_at net k) (entry_of net entries)) (entry_at entries k) → r ≡ is_inductive_at net entries k
unfolding is_inductive_at
inductive_when net entries k start t r is e passed f =
    f ∙ ap (λ a. a && lies_inside (rule_of net (part_at net k) (entry_of net entries)) (entry_at entries k)) (sym passed ∙ e ∙ ap (λ s. starts_inside s (entry_at entries k)) is)

-- one that doesn't isn't
pub inductive_not : (net : NetData) (entries : List Bounds) (k : ℕ) (start : Option ℤ) (t : Bool) → start ≡ start_at net k → t ≡ starts_inside start (entry_at entries k) → t ≡ false → t ≡ is_inductive_at net entries k
unfolding is_inductive_at
inductive_not net entries k start t is e failed =
    failed ∙ ap (λ a. a && lies_inside (rule_of net (part_at net k) (entry_of net entries)) (entry_at entries k)) (sym failed ∙ e ∙ ap (λ s. starts_inside s (entry_at entries k)) is)

-- ---- comparisons of words

abbrev word : ℤ → ℤ
word z = word_of w64 z

pub all_three : (entry given : Bounds) → FitsSigned w64 entry.lo → FitsSigned w64 given.lo → FitsSigned w64 given.hi → FitsSigned w64 entry.hi → FitsSigned w64 given.err → FitsSigned w64 entry.err → int_le (word entry.lo) (word given.lo) ≡ true → int_le (word given.hi) (word entry.hi) ≡ true → int_le (word given.err) (word entry.err) ≡ (int_le entry.lo given.lo && int_le given.hi entry.hi && int_le given.err entry.err)
all_three entry given f1 f2 f3 f4 f5 f6 p q =
    let p' : int_le entry.lo given.lo ≡ true = rw (to_z-of_z w64 entry.lo f1, to_z-of_z w64 given.lo f2) at p in
    let q' : int_le given.hi entry.hi ≡ true = rw (to_z-of_z w64 given.hi f3, to_z-of_z w64 entry.hi f4) at q in
    rw (to_z-of_z w64 given.err f5, to_z-of_z w64 entry.err f6, p', q') refl

pub not_both : {P : Type 0} → false ≡ true → P
not_both e = cc
