-- How the part of a number among those that a rule reads is found, one part at a time.
use Rattle.std.proofs.Common.{◌≡◌, ℕ, suc, ◌+◌, ◌-◌, ◌<◌, ◌≤◌, Bool, true, false, ◌||◌, cond, List, [], ◌∷◌, length, slice_get, refl, sym, ap, ◌∙◌, subst, arith, Option, Some, None, Fits, w32, Fits-le}
use Rattle.std.specs.List.{list_any}
use Rattle.net_model.specs.declared.wires.PartNo.{PartNo}
use Rattle.net_model.specs.declared.wires.Item.{Item}
use Rattle.net_model.specs.declared.wires.Part.{Part}
use Rattle.net_model.specs.declared.wires.Wire.{Wire}
use Rattle.net_model.specs.Wires.{NetData, wire_at, is_part, parts_of}
use Rattle.net_model.specs.Validity.{IsValid}
use Rattle.part_rules.specs.PartRules.{Reading}
use Rattle.cert_rules.specs.Rules.{item_rule, part_rule}
use Rattle.cert_rules.specs.Acceptance.{part_at}
use Rattle.cert_rules.specs.Arguments.{is_read_ever, passing, reads_at, reads_part}
use Rattle.cert_rules.specs.GivenBounds.{parts_in}
use Rattle.cert_rules.proofs.EntryFacts.{count_fits}

-- ---- one step of the search

passing-step : (test : ℕ → Bool) (k m : ℕ) → passing test k (suc m) ≡ cond (test k) (record { 0 = k } ∷ passing test (suc k) m) (passing test (suc k) m)
unfolding passing
passing-step test k m = refl

passing-at : (test : ℕ → Bool) (k n : ℕ) → k < n → passing test k (n - k) ≡ cond (test k) (record { 0 = k } ∷ passing test (k + 1) (n - (k + 1))) (passing test (k + 1) (n - (k + 1)))
passing-at test k n h =
    let e : n - k ≡ suc (n - (k + 1)) = omega arith in
    let f : suc k ≡ k + 1 = omega arith in
    ap (passing test k) e ∙ passing-step test k (n - (k + 1)) ∙ ap (λ j. cond (test k) (record { 0 = k } ∷ passing test j (n - (k + 1))) (passing test j (n - (k + 1)))) f

passing-true : (test : ℕ → Bool) (k n : ℕ) → k < n → test k ≡ true → passing test k (n - k) ≡ record { 0 = k } ∷ passing test (k + 1) (n - (k + 1))
passing-true test k n h t =
    passing-at test k n h ∙ ap (λ b. cond b (record { 0 = k } ∷ passing test (k + 1) (n - (k + 1))) (passing test (k + 1) (n - (k + 1)))) t

passing-false : (test : ℕ → Bool) (k n : ℕ) → k < n → test k ≡ false → passing test k (n - k) ≡ passing test (k + 1) (n - (k + 1))
passing-false test k n h t =
    passing-at test k n h ∙ ap (λ b. cond b (record { 0 = k } ∷ passing test (k + 1) (n - (k + 1))) (passing test (k + 1) (n - (k + 1)))) t

-- a part that isn't read is left behind
pub search-skipped : (test : ℕ → Bool) (k n left : ℕ) (all : Option PartNo) → k < n → test k ≡ false → all ≡ slice_get (passing test k (n - k)) left → all ≡ slice_get (passing test (k + 1) (n - (k + 1))) left
search-skipped test k n left all h t e = e ∙ ap (λ (l : List PartNo). slice_get l left) (passing-false test k n h t)

-- one that is read is the answer where none is left to pass
pub search-found : (test : ℕ → Bool) (k n left : ℕ) (all : Option PartNo) → k < n → test k ≡ true → left ≡ 0 → all ≡ slice_get (passing test k (n - k)) left → Some (record { 0 = k }) ≡ all
search-found test k n left all h t z e =
    sym (e ∙ ap (λ (l : List PartNo). slice_get l left) (passing-true test k n h t) ∙ ap (slice_get (record { 0 = k } ∷ passing test (k + 1) (n - (k + 1)))) z)

-- else it is counted
pub search-counted : (test : ℕ → Bool) (k n left : ℕ) (all : Option PartNo) → k < n → test k ≡ true → 1 ≤ left → all ≡ slice_get (passing test k (n - k)) left → all ≡ slice_get (passing test (k + 1) (n - (k + 1))) (left - 1)
search-counted test k n left all h t p e =
    let s : left ≡ suc (left - 1) = omega arith in
    e ∙ ap (λ (l : List PartNo). slice_get l left) (passing-true test k n h t) ∙ ap (slice_get (record { 0 = k } ∷ passing test (k + 1) (n - (k + 1)))) s

-- where no part is left there is none
pub search-end : (test : ℕ → Bool) (k n left : ℕ) (all : Option PartNo) → n ≤ k → all ≡ slice_get (passing test k (n - k)) left → None ≡ all
unfolding passing
search-end test k n left all h e =
    let z : n - k ≡ 0 = omega arith in
    sym (e ∙ ap (λ m. slice_get (passing test k m) left) z)

-- ---- the numbers of the parts

pub below_parts : (wires : List Wire) (k : ℕ) (parts : List Part) → parts ≡ parts_of wires → k < length parts → k < length (parts_of wires)
below_parts wires k parts e h = subst (λ (l : List Part). k < length l) e h

pub above_parts : (wires : List Wire) (k : ℕ) (parts : List Part) → parts ≡ parts_of wires → length parts ≤ k → length (parts_of wires) ≤ k
above_parts wires k parts e h = subst (λ (l : List Part). length l ≤ k) e h

pub number_fits : (net : NetData) (k : ℕ) (parts : List Part) → IsValid net → parts ≡ parts_of net.wires → k < length parts → Fits w32 k
number_fits net k parts valid e h =
    let below : k < length (parts_of net.wires) = below_parts net.wires k parts e h in
    Fits-le (omega arith) (count_fits net valid)

-- ---- the test of one part

-- a part is among those that are read
among : (reads : List (Reading Part)) (other : Part) → list_any (is_part other.wire.0 other.role) (parts_in reads) ≡ is_read_ever reads other
among [] other = refl
among (reading ∷ reads) other = ap (λ t. reads_part other reading || t) (among reads other)

pub reads_at-is : (net : NetData) (p k : ℕ) (part other : Part) (item : Item) (reads parts : List Part) (r : Bool) → part ≡ part_at net p → item ≡ (wire_at net.wires part.wire.0).item → other ≡ part_at net k → ((net : NetData) → reads ≡ parts_in (item_rule net part.wire.0 item part.role).reads) → parts ≡ reads → r ≡ list_any (is_part other.wire.0 other.role) parts → r ≡ reads_at net p k
unfolding reads_at
reads_at-is net p k part other item reads parts r e f g is same found =
    found
    ∙ ap (list_any (is_part other.wire.0 other.role)) (same ∙ is net)
    ∙ among (item_rule net part.wire.0 item part.role).reads other
    ∙ ap (λ (t : Item). is_read_ever (item_rule net part.wire.0 t part.role).reads other) f
    ∙ ap (λ (t : Part). is_read_ever (part_rule net t).reads other) e
    ∙ ap (is_read_ever (part_rule net (part_at net p)).reads) g
