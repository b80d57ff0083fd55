-- What the functions of the rules owe: that what is read has entries, that these are small, and that the computed bounds are
-- the definition's.
use Rattle.std.proofs.Common.{◌≡◌, ℕ, zero, suc, ◌<◌, ◌≤◌, Bool, true, false, ◌&&◌, cond, List, [], ◌∷◌, length, ℤ, pos, ◌≤ℤ◌, ◌<ℤ◌, inl, inr, ◌⊎◌, slice_get, int_le, int_lt, refl, sym, ap, ◌∙◌, subst, arith, FitsSigned, to_z, of_z, w64}
use Rattle.std.specs.Prelude.{Option, Some, None, IfSome, IsTrue, option_map}
use Rattle.std.proofs.lemmas.Bool.{and_from}
use Rattle.std.proofs.lemmas.Int.{ints, to_z-of_z}
use Rattle.fx_fraction.proofs.WholeNumbers.{int_le-false, int_lt-false}
use Rattle.net_model.specs.declared.wires.PartNo.{PartNo}
use Rattle.net_model.specs.declared.wires.Block.{Block}
use Rattle.net_model.specs.declared.wires.Item.{Item}
use Rattle.net_model.specs.declared.wires.Item.TheVariants.{Input, Const, Delay, Block as OfBlock}
use Rattle.net_model.specs.declared.wires.Role.{Role}
use Rattle.net_model.specs.declared.wires.Role.TheVariants.{Y, X1, X2, W, Value}
use Rattle.net_model.specs.declared.wires.Part.{Part}
use Rattle.net_model.specs.Wires.{NetData, wire_at, argument_of, block_roles, has_role, no_part, part_number, parts_of, place_in, same_role}
use Rattle.net_model.specs.declared.wires.WireNo.{WireNo}
use Rattle.net_model.specs.Validity.{IsValid}
use Rattle.net_model.proofs.ValidityFacts.{argument_of-valid}
use Rattle.net_model.proofs.PartPlaces.{has_place}
use Rattle.part_rules.specs.declared.bounds.Bounds.{Bounds}
use Rattle.part_rules.specs.Entries.{IsSmall, is_small, if_small}
use Rattle.efx_rules.specs.StateEntries.{IsState, is_state}
use Rattle.part_rules.specs.PartRules.{Reading, IsProper, read_now, bounds_at, bounds_read, given_by}
use Rattle.part_rules.proofs.RuleLaws.{gives_proper}
use Rattle.cert_rules.specs.declared.lookups.Given.{Given}
use Rattle.cert_rules.specs.Rules.{allowed_of, block_rule, cap_of_role, greatest_of_part, is_allowed, item_rule, kept_reading, kept_rule_of, least_of_part, part_rule, rule_of}
use Rattle.cert_rules.specs.Certificates.{IsPart, entry_of}
use Rattle.cert_rules.specs.Acceptance.{entry_at, is_allowed_at, is_allowed_entry, part_at}
use Rattle.cert_rules.specs.Arguments.{is_read_ever, reads_at, reads_of}
use Rattle.cert_rules.specs.Soundness.{AreAllowedFor}
use Rattle.cert_rules.specs.GivenBounds.{AreAllowedReads, AreGiven, AreSized, IsSized, entry_if, if_sized, parts_in, reading_at}
use Rattle.cert_rules.proofs.BlockRules.{FitReads, block_meaning, blocks_keep}
use Rattle.cert_rules.proofs.EntryFacts.{allowed_entry, are_between, sized_entry, small_none}
use Rattle.cert_rules.proofs.Readings.{given_at, given_past, has_number, numbered, read_ever}
use Rattle.cert_rules.proofs.ReadParts.{is_orderly}

-- ---- what a rule reads

-- each part that it reads is one of the network, and where those that it reads are allowed so is its entry
pub allowed_reads : (net : NetData) (entries : List Bounds) (p : ℕ) → IsValid net → p < length (parts_of net.wires) → AreAllowedFor net entries p → AreAllowedReads net (reads_of net p) entries
unfolding reads_at is_allowed_at
allowed_reads net entries p valid h allowed q l =
    let reading = reading_at (reads_of net p) q in
    let there = (is_orderly net (part_at net p) valid (numbered net p h) q l).there in
    let number = has_number net reading.part there in
    let read = subst (λ part. IsTrue (is_read_ever (reads_of net p) part)) (sym number.there) (read_ever (reads_of net p) q l) in
    let here = subst (λ part. IsTrue (is_allowed_entry net part (entry_at entries number.number))) number.there (allowed number.number number.within read) in
    (there, rw (number.entry entries) here)

-- the same of a part that was read by its number
pub part_reads : (net : NetData) (entries : List Bounds) (p : ℕ) (part : Part) → IsValid net → p < length (parts_of net.wires) → AreAllowedFor net entries p → part ≡ part_at net p → AreAllowedReads net (part_rule net part).reads entries
part_reads net entries p part valid h allowed is =
    subst (λ t. AreAllowedReads net (part_rule net t).reads entries) (sym is) (allowed_reads net entries p valid h allowed)

-- a part of the network has an entry
some_number : (a b : PartNo) → ◌≡◌ {A = Option PartNo} (Some a) (Some b) → a ≡ b
some_number a b h = cc

its_number : (net : NetData) (part : Part) → IsPart net part → part_number net.wires part.wire.0 part.role ≡ Some (place_in part.wire.0 part.role (parts_of net.wires))
unfolding part_number
its_number net part is = ap (λ t. cond t (Some (place_in part.wire.0 part.role (parts_of net.wires))) None) is.role

pub number_is : (net : NetData) (part : Part) (found : Option PartNo) (number : PartNo) → IsPart net part → found ≡ option_map (λ n. record { 0 = n }) (part_number net.wires part.wire.0 part.role) → found ≡ Some number → (number.0 ≡ place_in part.wire.0 part.role (parts_of net.wires)) × (number.0 < length (parts_of net.wires))
number_is net part found number h e is =
    let same : number.0 ≡ place_in part.wire.0 part.role (parts_of net.wires) = ap (λ n. n.0) (some_number number _ (sym is ∙ e ∙ ap (option_map (λ (n : ℕ). record { 0 = n })) (its_number net part h))) in
    (same, rw same ((has_place net part.wire.0 part.role h.wire h.role).below))

pub number_there : (net : NetData) (part : Part) (found : Option PartNo) → IsPart net part → found ≡ option_map (λ n. record { 0 = n }) (part_number net.wires part.wire.0 part.role) → found ≡ None → ⊥
number_there net part found h e is = no_number _ (sym is ∙ e ∙ ap (option_map (λ (n : ℕ). record { 0 = n })) (its_number net part h))
  where
    no_number : (n : PartNo) → ◌≡◌ {A = Option PartNo} None (Some n) → ⊥
    no_number n h = cc

pub entry_is : (net : NetData) (entries : List Bounds) (part : Part) (k : ℕ) (b : Bounds) → k ≡ place_in part.wire.0 part.role (parts_of net.wires) → b ≡ entry_at entries k → b ≡ entry_of net entries part
unfolding entry_of
entry_is net entries part k b same e = e ∙ ap (entry_at entries) same

-- ---- the bounds that a rule is given

-- a part of a list by its number, and none behind the last
record IsNumbered (reads : List (Reading Part)) (q : ℕ) (part : Part) : Type 0 where
  within : q < length reads
  is : (reading_at reads q).part ≡ part

numbered_part : (reads : List (Reading Part)) (q : ℕ) (part : Part) → slice_get (parts_in reads) q ≡ Some part → IsNumbered reads q part
numbered_part [] q part h = absurd (cc)
numbered_part (r ∷ reads) zero part h = let same : r.part ≡ part = cc in record { within = omega arith; is = same }
numbered_part (r ∷ reads) (suc q) part h = let later = numbered_part reads q part h in record { within = omega (arith, later.within); is = later.is }

no_part_at : (reads : List (Reading Part)) (q : ℕ) → slice_get (parts_in reads) q ≡ None → length reads ≤ q
no_part_at [] q h = omega arith
no_part_at (r ∷ reads) zero h = absurd (cc)
no_part_at (r ∷ reads) (suc q) h = let later = no_part_at reads q h in omega (arith, later)

past_last : (reads : List (Reading Part)) (q : ℕ) → length reads ≤ q → reading_at reads q ≡ read_now no_part
past_last [] q h = refl
past_last (r ∷ reads) zero h = absurd (omega arith)
past_last (r ∷ reads) (suc q) h = past_last reads q (omega arith)

-- the parts that were read
pub part_from : (net : NetData) (part : Part) (item : Item) (reads parts : List Part) (q : ℕ) (found : Option Part) → item ≡ (wire_at net.wires part.wire.0).item → ((net : NetData) → reads ≡ parts_in (item_rule net part.wire.0 item part.role).reads) → parts ≡ reads → found ≡ slice_get parts q → found ≡ slice_get (parts_in (part_rule net part).reads) q
part_from net part item reads parts q found is e f g =
    g ∙ ap (λ l. slice_get l q) (f ∙ e net) ∙ ap (λ t. slice_get (parts_in (item_rule net part.wire.0 t part.role).reads) q) is

-- a part that a rule reads is one of the network
pub read_there : (net : NetData) (entries : List Bounds) (reads : List (Reading Part)) (q : ℕ) (found : Option Part) → AreAllowedReads net reads entries → found ≡ slice_get (parts_in reads) q → IfSome found (λ p. IsPart net p)
read_there net entries reads q None allowed e = tt
read_there net entries reads q (Some part) allowed e =
    let r = numbered_part reads q part (sym e) in
    subst (IsPart net) r.is (allowed q r.within).0

pub given_is : (net : NetData) (entries : List Bounds) (reads : List (Reading Part)) (q : ℕ) (part : Option Part) (found : Bounds) → part ≡ slice_get (parts_in reads) q → found ≡ entry_if net entries part → found ≡ bounds_at (bounds_read reads (entry_of net entries)) q
given_is net entries reads q None found e f = f ∙ sym (given_past reads (entry_of net entries) q (no_part_at reads q (sym e)))
given_is net entries reads q (Some part) found e f =
    let r = numbered_part reads q part (sym e) in
    f ∙ sym (given_at reads (entry_of net entries) q r.within ∙ ap (entry_of net entries) r.is)

pub given_sized : (net : NetData) (entries : List Bounds) (reads : List (Reading Part)) (q : ℕ) (part : Option Part) (found : Bounds) → IsValid net → AreAllowedReads net reads entries → part ≡ slice_get (parts_in reads) q → found ≡ entry_if net entries part → IsSized (reading_at reads q).part.role found
given_sized net entries reads q None found valid allowed e f = rw (past_last reads q (no_part_at reads q (sym e)), f) small_none
given_sized net entries reads q (Some part) found valid allowed e f =
    let r = numbered_part reads q part (sym e) in
    let a = allowed_entry net (reading_at reads q).part (entry_of net entries (reading_at reads q).part) (allowed q r.within).1 in
    let here : found ≡ entry_of net entries (reading_at reads q).part = f ∙ ap (entry_of net entries) (sym r.is) in
    rw here (sized_entry net (reading_at reads q).part (entry_of net entries (reading_at reads q).part) valid a.between a.proper)

-- the range of what is read first lies between its ends
pub record LiesBetween (net : NetData) (reads : List (Reading Part)) (found : Bounds) : Type 0 where
  pub low : 0 < length reads → least_of_part net (reading_at reads 0).part ≤ℤ found.lo
  pub high : 0 < length reads → found.hi ≤ℤ greatest_of_part net (reading_at reads 0).part

pub given_between : (net : NetData) (entries : List Bounds) (reads : List (Reading Part)) (part : Option Part) (found : Bounds) → AreAllowedReads net reads entries → part ≡ slice_get (parts_in reads) 0 → found ≡ entry_if net entries part → LiesBetween net reads found
given_between net entries reads None found allowed e f =
    let none = no_part_at reads 0 (sym e) in record { low = λ some. absurd (omega (arith, none, some)); high = λ some. absurd (omega (arith, none, some)) }
given_between net entries reads (Some part) found allowed e f =
    let r = numbered_part reads 0 part (sym e) in
    let a = allowed_entry net (reading_at reads 0).part (entry_of net entries (reading_at reads 0).part) (allowed 0 r.within).1 in
    let here : found ≡ entry_of net entries (reading_at reads 0).part = f ∙ ap (entry_of net entries) (sym r.is) in
    rw here (record { low = λ some. a.between.low; high = λ some. a.between.high })

pub argument_there : (net : NetData) (i : ℕ) (b : Block) (q wire : ℕ) → IsValid net → i < length net.wires → (wire_at net.wires i).item ≡ OfBlock b → wire ≡ argument_of b q → wire < length net.wires
argument_there net i b q wire valid h is same = rw same (omega (arith, argument_of-valid net i b valid h is q))

-- ---- what is allowed of what a rule gives

int_le-test : (a b : ℤ) (t : Bool) → int_le a b ≡ t → a ≤ℤ b → int_le a b ≡ true
int_le-test a b true e h = e
int_le-test a b false e h = absurd (omega (arith, ints, h, int_le-false a b e))

int_lt-test : (a b : ℤ) (t : Bool) → int_lt a b ≡ t → a <ℤ b → int_lt a b ≡ true
int_lt-test a b true e h = e
int_lt-test a b false e h = absurd (omega (arith, ints, h, int_lt-false a b e))

-- bounds that are allowed for a part are small enough for its role, where their range isn't empty and their error isn't negative
small_test : (b : Bounds) → IsSmall b → is_small b ≡ true
unfolding is_small
small_test b s =
    and_from _ _ (and_from _ _ (and_from _ _ (and_from _ _ (int_le-test _ _ _ refl s.low) (int_le-test _ _ _ refl s.ordered)) (int_le-test _ _ _ refl s.high)) (int_le-test _ _ _ refl s.positive)) (int_lt-test _ _ _ refl s.near)

state_test : (b : Bounds) → IsState b → is_state b ≡ true
unfolding is_state
state_test b s =
    and_from _ _ (and_from _ _ (and_from _ _ (and_from _ _ (int_le-test _ _ _ refl s.low) (int_le-test _ _ _ refl s.ordered)) (int_le-test _ _ _ refl s.high)) (int_le-test _ _ _ refl s.positive)) (int_lt-test _ _ _ refl s.near)

-- so they aren't left out
pub sized_is : (role : Role) (b : Bounds) → IsSized role b → if_sized role b ≡ Some b
sized_is Y b s = ap (λ t. cond t (Some b) None) (state_test b s)
sized_is Value b s = ap (λ t. cond t (Some b) None) (small_test b s)
sized_is X1 b s = ap (λ t. cond t (Some b) None) (small_test b s)
sized_is X2 b s = ap (λ t. cond t (Some b) None) (small_test b s)
sized_is W b s = ap (λ t. cond t (Some b) None) (small_test b s)

-- what is left out is the same bounds or nothing
small_or_none : (b : Bounds) → (if_small b ≡ Some b) ⊎ (if_small b ≡ None)
small_or_none b = by_test b (is_small b)
  where
    by_test : (b : Bounds) (t : Bool) → (cond t (Some b) None ≡ Some b) ⊎ (cond t (Some b) None ≡ None)
    by_test b true = inl refl
    by_test b false = inr refl

some_or_none : (role : Role) (b : Bounds) → (if_sized role b ≡ Some b) ⊎ (if_sized role b ≡ None)
some_or_none Y b = by_test b (is_state b)
  where
    by_test : (b : Bounds) (t : Bool) → (cond t (Some b) None ≡ Some b) ⊎ (cond t (Some b) None ≡ None)
    by_test b true = inl refl
    by_test b false = inr refl
some_or_none Value b = small_or_none b
some_or_none X1 b = small_or_none b
some_or_none X2 b = small_or_none b
some_or_none W b = small_or_none b

leaves_out : (net : NetData) (part : Part) (b : Bounds) (is : Bool) → IsValid net → is_allowed net part b ≡ is → IsProper b → allowed_of net part (if_sized part.role b) ≡ allowed_of net part (Some b)
leaves_out net part b true valid e proper = ap (allowed_of net part) (sized_is part.role b (sized_entry net part b valid (are_between net part b e) proper))
leaves_out net part b false valid e proper =
    elim (some_or_none part.role b) [
      | inl same ↦ ap (allowed_of net part) same
      | inr none ↦ ap (allowed_of net part) none ∙ sym (ap (λ t. cond t (Some b) None) e)
    ]

if_given : (net : NetData) (part : Part) (fails : Bool) (b : Bounds) → IsValid net → (fails ≡ false → IsProper b) → allowed_of net part (cond fails None (if_sized part.role b)) ≡ allowed_of net part (cond fails None (Some b))
if_given net part true b valid proper = refl
if_given net part false b valid proper = leaves_out net part b (is_allowed net part b) valid refl (proper refl)

-- the same is allowed of what is found of a block's part as of what its rule gives
pub block_found : (net : NetData) (entries : List Bounds) (part : Part) (item : Item) (b : Block) (given : Given) (found : Option Bounds) → IsValid net → part.wire.0 < length net.wires → item ≡ (wire_at net.wires part.wire.0).item → item ≡ OfBlock b → AreAllowedReads net (part_rule net part).reads entries → AreGiven given (bounds_read (part_rule net part).reads (entry_of net entries)) → ((known : List Bounds) → AreGiven given known → found ≡ cond ((block_rule net part.wire.0 b part.role).fails known) None (if_sized part.role ((block_rule net part.wire.0 b part.role).bounds known))) → allowed_of net part found ≡ allowed_of net part (given_by (part_rule net part) (entry_of net entries))
block_found net entries part item b given found valid h is case part_allowed part_given e =
    let i = part.wire.0 in
    let rule = block_rule net i b part.role in
    let known = bounds_read rule.reads (entry_of net entries) in
    let here : (wire_at net.wires i).item ≡ OfBlock b = sym is ∙ case in
    let allowed : AreAllowedReads net rule.reads entries = subst (λ t. AreAllowedReads net (item_rule net i t part.role).reads entries) here part_allowed in
    let g : AreGiven given known = subst (λ t. AreGiven given (bounds_read (item_rule net i t part.role).reads (entry_of net entries))) here part_given in
    let each : (q : ℕ) (l : q < length rule.reads) → is_allowed_entry net (reading_at rule.reads q).part (bounds_at known q) ≡ true = λ q l. rw (given_at rule.reads (entry_of net entries) q l) ((allowed q l).1) in
    let proper : rule.fails known ≡ false → IsProper (rule.bounds known) = λ ruled. gives_proper rule (block_meaning net i b part.role) (FitReads net rule.reads) (blocks_keep net i b part.role valid h here).sound known (λ q l. (allowed_entry net (reading_at rule.reads q).part (bounds_at known q) (each q l)).between.low) ruled (λ q l. (allowed_entry net (reading_at rule.reads q).part (bounds_at known q) (each q l)).proper) in
    ap (allowed_of net part) (e known g)
    ∙ if_given net part (rule.fails known) (rule.bounds known) valid proper
    ∙ ap (λ t. allowed_of net part (given_by (item_rule net i t part.role) (entry_of net entries))) (sym here)

-- what a block keeps is copied
pub kept_returns : (net : NetData) (i : ℕ) (b : Block) (role : Role) (given : Given) (known : List Bounds) (keeps : Bool) (result : Option Bounds) → has_role role (Value ∷ Y ∷ []) ≡ false → AreSized net (kept_rule_of i b role).reads given → AreGiven given known → keeps ≡ has_role role (block_roles b) → result ≡ cond keeps (Some given.first) None → result ≡ cond ((kept_rule_of i b role).fails known) None (if_sized role ((kept_rule_of i b role).bounds known))
kept_returns net i b role given known keeps result none sized g e f = by_case keeps refl
  where
    not_state : (role : Role) (other : Bounds) → has_role role (Value ∷ Y ∷ []) ≡ false → IsSized (kept_reading i b role).part.role other → IsSized role other
    not_state Value other none s = absurd (cc)
    not_state Y other none s = absurd (cc)
    not_state X1 other none s = s
    not_state X2 other none s = s
    not_state W other none s = s

    by_case : (t : Bool) → keeps ≡ t → result ≡ cond ((kept_rule_of i b role).fails known) None (if_sized role ((kept_rule_of i b role).bounds known))
    by_case true is =
        let has : has_role role (block_roles b) ≡ true = sym e ∙ is in
        let there : AreSized net (kept_reading i b role ∷ []) given = rw has at sized in
        f ∙ ap (λ t. cond t (Some given.first) None) is ∙ sym (rw has (ap (if_sized role) (sym g.first) ∙ sized_is role given.first (not_state role given.first none there.first)))
    by_case false is =
        let has : has_role role (block_roles b) ≡ false = sym e ∙ is in
        f ∙ ap (λ t. cond t (Some given.first) None) is ∙ sym (rw has refl)

-- ---- the bounds of what isn't a block

abbrev pub range_read : ℤ → ℤ → Bounds
range_read lo hi = record { lo = to_z w64 (of_z w64 lo); hi = to_z w64 (of_z w64 hi); err = pos 0 }

input_given : (net : NetData) (i : ℕ) (lo hi : ℤ) (role : Role) (known : Part → Bounds) → cond (same_role role Value) (Some (record { lo = lo; hi = hi; err = pos 0 })) None ≡ given_by (item_rule net i (Input lo hi) role) known
input_given net i lo hi Value known = refl
input_given net i lo hi Y known = refl
input_given net i lo hi X1 known = refl
input_given net i lo hi X2 known = refl
input_given net i lo hi W known = refl

const_given : (net : NetData) (i : ℕ) (value : ℤ) (role : Role) (known : Part → Bounds) → cond (same_role role Value) (Some (record { lo = value; hi = value; err = pos 0 })) None ≡ given_by (item_rule net i (Const value) role) known
const_given net i value Value known = refl
const_given net i value Y known = refl
const_given net i value X1 known = refl
const_given net i value X2 known = refl
const_given net i value W known = refl

delay_given : (net : NetData) (i : ℕ) (init : ℤ) (source : WireNo) (role : Role) (known : Part → Bounds) (first : Bounds) → first ≡ bounds_at (bounds_read (item_rule net i (Delay init source) role).reads known) 0 → cond (same_role role Value) (Some first) None ≡ given_by (item_rule net i (Delay init source) role) known
delay_given net i init source Value known first e = ap Some e
delay_given net i init source Y known first e = refl
delay_given net i init source X1 known first e = refl
delay_given net i init source X2 known first e = refl
delay_given net i init source W known first e = refl

pub input_returns : (net : NetData) (part : Part) (read : Item) (known : Part → Bounds) (lo hi : ℤ) (result : Option Bounds) → FitsSigned w64 lo → FitsSigned w64 hi → read ≡ (wire_at net.wires part.wire.0).item → read ≡ Input lo hi → result ≡ cond (same_role part.role Value) (Some (range_read lo hi)) None → allowed_of net part result ≡ allowed_of net part (given_by (part_rule net part) known)
input_returns net part read known lo hi result f g same case e =
    let is : (wire_at net.wires part.wire.0).item ≡ Input lo hi = sym same ∙ case in
    let plain = rw (to_z-of_z w64 lo f, to_z-of_z w64 hi g) at e in
    ap (allowed_of net part) (plain ∙ input_given net part.wire.0 lo hi part.role known ∙ ap (λ t. given_by (item_rule net part.wire.0 t part.role) known) (sym is))

pub constant_returns : (net : NetData) (part : Part) (read : Item) (known : Part → Bounds) (value : ℤ) (result : Option Bounds) → FitsSigned w64 value → read ≡ (wire_at net.wires part.wire.0).item → read ≡ Const value → result ≡ cond (same_role part.role Value) (Some (range_read value value)) None → allowed_of net part result ≡ allowed_of net part (given_by (part_rule net part) known)
constant_returns net part read known value result f same case e =
    let is : (wire_at net.wires part.wire.0).item ≡ Const value = sym same ∙ case in
    let plain = rw (to_z-of_z w64 value f) at e in
    ap (allowed_of net part) (plain ∙ const_given net part.wire.0 value part.role known ∙ ap (λ t. given_by (item_rule net part.wire.0 t part.role) known) (sym is))

pub delay_returns : (net : NetData) (part : Part) (read : Item) (known : Part → Bounds) (init : ℤ) (source : WireNo) (given : Given) (result : Option Bounds) → read ≡ (wire_at net.wires part.wire.0).item → read ≡ Delay init source → AreGiven given (bounds_read (part_rule net part).reads known) → result ≡ cond (same_role part.role Value) (Some given.first) None → allowed_of net part result ≡ allowed_of net part (given_by (part_rule net part) known)
delay_returns net part read known init source given result same case g e =
    let is : (wire_at net.wires part.wire.0).item ≡ Delay init source = sym same ∙ case in
    let first : given.first ≡ bounds_at (bounds_read (item_rule net part.wire.0 (Delay init source) part.role).reads known) 0 = subst (λ t. given.first ≡ bounds_at (bounds_read (item_rule net part.wire.0 t part.role).reads known) 0) is g.first in
    ap (allowed_of net part) (e ∙ delay_given net part.wire.0 init source part.role known given.first first ∙ ap (λ t. given_by (item_rule net part.wire.0 t part.role) known) (sym is))

-- ---- the rule of a part

-- of what was found the same is allowed as of what its rule gives
abbrev IsFound : NetData → List Bounds → Part → Option Bounds → Type 0
IsFound net entries part found = allowed_of net part found ≡ allowed_of net part (given_by (part_rule net part) (entry_of net entries))

rule_of-found : (net : NetData) (entries : List Bounds) (part : Part) (found : Option Bounds) → IsFound net entries part found → allowed_of net part found ≡ rule_of net part (entry_of net entries)
unfolding rule_of
rule_of-found net entries part found e = e

pub rule_allowed : (net : NetData) (entries : List Bounds) (part : Part) (found : Option Bounds) (b : Bounds) (t : Bool) → IsFound net entries part found → found ≡ Some b → t ≡ is_allowed net part b → t ≡ true → Some b ≡ rule_of net part (entry_of net entries)
rule_allowed net entries part found b t e is f passed =
    ap (λ u. cond u (Some b) None) (sym passed ∙ f) ∙ ap (allowed_of net part) (sym is) ∙ rule_of-found net entries part found e

pub rule_none : (net : NetData) (entries : List Bounds) (part : Part) (found : Option Bounds) (b : Bounds) (t : Bool) → IsFound net entries part found → found ≡ Some b → t ≡ is_allowed net part b → t ≡ false → None ≡ rule_of net part (entry_of net entries)
rule_none net entries part found b t e is f failed =
    ap (λ u. cond u (Some b) None) (sym failed ∙ f) ∙ ap (allowed_of net part) (sym is) ∙ rule_of-found net entries part found e

pub rule_lacking : (net : NetData) (entries : List Bounds) (part : Part) (found : Option Bounds) → IsFound net entries part found → found ≡ None → None ≡ rule_of net part (entry_of net entries)
rule_lacking net entries part found e is = ap (allowed_of net part) (sym is) ∙ rule_of-found net entries part found e

-- the tests of bounds
pub allowed_from_tests : (net : NetData) (part : Part) (read : Part) (b : Bounds) (least greatest cap : ℤ) (t : Bool) → FitsSigned w64 least → FitsSigned w64 greatest → FitsSigned w64 cap → read ≡ part → least ≡ least_of_part net read → greatest ≡ greatest_of_part net read → cap ≡ cap_of_role read.role → t ≡ ((int_le (to_z w64 (of_z w64 least)) b.lo && int_le b.lo (to_z w64 (of_z w64 greatest))) && (int_le (to_z w64 (of_z w64 least)) b.hi && int_le b.hi (to_z w64 (of_z w64 greatest))) && int_lt b.err (to_z w64 (of_z w64 cap))) → t ≡ is_allowed net part b
unfolding is_allowed
allowed_from_tests net part read b least greatest cap t f g h same p q r e =
    let plain = rw (to_z-of_z w64 least f, to_z-of_z w64 greatest g, to_z-of_z w64 cap h) at e in
    rw (p, q, r, same) at plain
