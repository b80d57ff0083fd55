-- What the functions of the rules owe, family by family: that the bounds that they are given are small enough, and that the
-- bounds that they compute are the definition's.
use Rattle.std.specs.Prelude.{◌≡◌, ℕ, zero, suc, ◌+◌, ◌<◌, ◌≤◌, Bool, true, false, ◌||◌, List, [], ◌∷◌, ◌++◌, map, length, take, get_or, ℤ, Option, Some, None}
use Rattle.std.specs.List.{list_any}
use Rattle.std.proofs.Common.{refl, ap, sym, ◌∙◌, cond, subst, arith, inl, inr, ◌⊎◌}
use Rattle.fx_core.specs.declared.word_type.Ty.{Ty}
use Rattle.fx_core.specs.Arguments.{three, two}
use Rattle.net_model.specs.declared.wires.WireNo.{WireNo}
use Rattle.net_model.specs.declared.wires.Block.{Block}
use Rattle.net_model.specs.declared.wires.Block.TheVariants.{Gain, Average, Pt1, Dt1}
use Rattle.net_model.specs.declared.wires.Item.{Item}
use Rattle.net_model.specs.declared.wires.Item.TheVariants.{Block as OfBlock}
use Rattle.net_model.specs.declared.wires.Role.{Role}
use Rattle.net_model.specs.declared.wires.Role.TheVariants.{Y, X1, X2, W, Value}
use Rattle.net_model.specs.declared.wires.Part.{Part}
use Rattle.net_model.specs.Wires.{NetData, wire_at, block_roles, has_role, same_role}
use Rattle.net_model.specs.BlockForms.{form_of}
use Rattle.net_model.specs.Validity.{IsValid}
use Rattle.net_model.proofs.ValidityFacts.{argument_of-valid, dt1-valid, pt1-valid}
use Rattle.part_rules.specs.declared.bounds.Bounds.{Bounds}
use Rattle.part_rules.specs.Entries.{IsSmall, if_small}
use Rattle.part_rules.specs.PartRules.{PartRule, Reading, bounds_at, read_now}
use Rattle.efx_rules.specs.FilterRules.{average_bounds, difference_bounds, gain_bounds, lag_bounds, value_bounds}
use Rattle.efx_rules.specs.StateEntries.{IsState, if_state}
use Rattle.efx_rules.proofs.FilterArguments.{average_bounds_of_two, difference_bounds_of_three, gain_bounds_of_one, lag_bounds_of_two, value_bounds_of_one}
use Rattle.cert_rules.specs.declared.lookups.Given.{Given}
use Rattle.cert_rules.specs.Rules.{block_rule, held_wire, holder, kept_rule_of, kept_wire, no_rule, state_rule_of, value_rule_of}
use Rattle.cert_rules.specs.GivenBounds.{AreGiven, AreSized, IsSized, if_sized, reading_at, value_part}
use Rattle.cert_rules.proofs.BlockRules.{is_plain, plain_reads, values_read}
use Rattle.cert_rules.proofs.RuleFacts.{kept_returns}

-- ---- the parts of a block by their roles

-- a role of what a block keeps of earlier rows
abbrev pub IsKeptRole : Role → Type 0
IsKeptRole role = (role ≡ X1) ⊎ ((role ≡ X2) ⊎ (role ≡ W))

pub kept_role : (role : Role) → IsKeptRole role → has_role role (Value ∷ Y ∷ []) ≡ false
kept_role role (inl e) = rw e refl
kept_role role (inr (inl e)) = rw e refl
kept_role role (inr (inr e)) = rw e refl

pub kept_rule_is : (net : NetData) (i : ℕ) (b : Block) (role : Role) → IsKeptRole role → block_rule net i b role ≡ kept_rule_of i b role
unfolding block_rule
kept_rule_is net i b role (inl e) = rw e refl
kept_rule_is net i b role (inr (inl e)) = rw e refl
kept_rule_is net i b role (inr (inr e)) = rw e refl

pub value_rule_is : (net : NetData) (i : ℕ) (b : Block) (role : Role) → role ≡ Value → block_rule net i b role ≡ value_rule_of net i b
unfolding block_rule
value_rule_is net i b role e = rw e refl

pub state_rule_is : (net : NetData) (i : ℕ) (b : Block) (role : Role) → role ≡ Y → block_rule net i b role ≡ state_rule_of i b
unfolding block_rule
state_rule_is net i b role e = rw e refl

pub kept_gives : (net : NetData) (i : ℕ) (b : Block) (role : Role) (given : Given) (known : List Bounds) (keeps : Bool) (result : Option Bounds) → IsKeptRole role → AreSized net (block_rule net i b role).reads given → AreGiven given known → keeps ≡ has_role role (block_roles b) → result ≡ cond keeps (Some given.first) None → result ≡ cond ((block_rule net i b role).fails known) None (if_sized role ((block_rule net i b role).bounds known))
kept_gives net i b role given known keeps result kept sized g e f =
    let same = kept_rule_is net i b role kept in
    subst (λ (r : PartRule Part). result ≡ cond (r.fails known) None (if_sized role (r.bounds known))) (sym same)
    (kept_returns net i b role given known keeps result (kept_role role kept) (subst (λ (r : PartRule Part). AreSized net r.reads given) same sized) g e f)

-- a role is among others
pub any_has : (role : Role) (roles : List Role) → list_any (λ r. same_role r role) roles ≡ has_role role roles
any_has role [] = refl
any_has role (r ∷ roles) = either (same_role r role) _ _ (any_has role roles)
  where
    either : (a b c : Bool) → b ≡ c → (a || b) ≡ cond a true c
    either true b c h = refl
    either false b c h = h

-- the wire whose values a kept part holds
pub kept_holder : (net : NetData) (part : Part) (item : Item) (b : Block) (wire : ℕ) → IsKeptRole part.role → item ≡ (wire_at net.wires part.wire.0).item → item ≡ OfBlock b → wire ≡ kept_wire part.wire.0 b → wire ≡ holder net part
kept_holder net part item b wire kept is case e = e ∙ sym (by_role part.role kept ∙ refl)
  where
    here : (wire_at net.wires part.wire.0).item ≡ OfBlock b
    here = sym is ∙ case

    by_role : (role : Role) → IsKeptRole role → held_wire role part.wire.0 (wire_at net.wires part.wire.0).item ≡ kept_wire part.wire.0 b
    by_role role (inl k) = rw (k, here) refl
    by_role role (inr (inl k)) = rw (k, here) refl
    by_role role (inr (inr k)) = rw (k, here) refl

-- it is one of the network
kept_below : (net : NetData) (i : ℕ) (b : Block) → IsValid net → i < length net.wires → (wire_at net.wires i).item ≡ OfBlock b → kept_wire i b < length net.wires
kept_below net i (Average xty ty x n) valid h is = let below = argument_of-valid net i (Average xty ty x n) valid h is 0 in omega (arith, below)
kept_below net i (Pt1 xty ty x teq k) valid h is = let below = argument_of-valid net i (Pt1 xty ty x teq k) valid h is 0 in omega (arith, below)
kept_below net i (Dt1 second xty ty x teq k) valid h is = let below = argument_of-valid net i (Dt1 second xty ty x teq k) valid h is 0 in omega (arith, below)
kept_below net i other valid h is = h

pub kept_there : (net : NetData) (part : Part) (item : Item) (b : Block) (wire : ℕ) → IsValid net → part.wire.0 < length net.wires → item ≡ (wire_at net.wires part.wire.0).item → item ≡ OfBlock b → wire ≡ kept_wire part.wire.0 b → wire < length net.wires
kept_there net part item b wire valid h is case e = rw e (kept_below net part.wire.0 b valid h (sym is ∙ case))

-- ---- the wires of a block, one by one

pub collected : (wires : List WireNo) (k : ℕ) → k < length wires → map (λ w. value_part w.0) (take k wires) ++ value_part (get_or wires k (record { 0 = 0 })).0 ∷ [] ≡ map (λ w. value_part w.0) (take (k + 1) wires)
collected [] k h = absurd (omega arith)
collected (w ∷ wires) zero h = refl
collected (w ∷ wires) (suc k) h =
    let next : suc k + 1 ≡ suc (k + 1) = omega arith in
    ap (λ t. value_part w.0 ∷ t) (collected wires k (omega arith)) ∙ ap (λ n. map (λ v. value_part v.0) (take n (w ∷ wires))) (sym next)

pub few_collected : (wires : List WireNo) (k : ℕ) → k < length wires → length (map (λ w. value_part w.0) (take k wires)) ≡ k
few_collected [] k h = absurd (omega arith)
few_collected (w ∷ wires) zero h = refl
few_collected (w ∷ wires) (suc k) h = ap suc (few_collected wires k (omega arith))

pub all_collected : (wires : List WireNo) (k : ℕ) → length wires ≤ k → take k wires ≡ wires
all_collected [] k h = take_nil k
  where
    take_nil : (k : ℕ) → take {A = WireNo} k [] ≡ []
    take_nil zero = refl
    take_nil (suc k) = refl
all_collected (w ∷ wires) zero h = absurd (omega arith)
all_collected (w ∷ wires) (suc k) h = ap (λ t. w ∷ t) (all_collected wires k (omega arith))

-- ---- what is given is small enough

value_role : (wires : List WireNo) (q : ℕ) → (reading_at (map (λ w. read_now (value_part w.0)) wires) q).part.role ≡ Value
value_role [] q = refl
value_role (w ∷ wires) zero = refl
value_role (w ∷ wires) (suc q) = value_role wires q

-- the bounds of values are small
pub record AreSmall (given : Given) : Type 0 where
  pub first : IsSmall given.first
  pub second : IsSmall given.second
  pub third : IsSmall given.third

values_small : (net : NetData) (b : Block) (reads : List (Reading Part)) (given : Given) → reads ≡ values_read b → AreSized net reads given → AreSmall given
values_small net b reads given same sized =
    let s : AreSized net (values_read b) given = rw same at sized in
    record {
      first = subst (λ role. IsSized role given.first) (value_role (form_of b).wires 0) s.first;
      second = subst (λ role. IsSized role given.second) (value_role (form_of b).wires 1) s.second;
      third = subst (λ role. IsSized role given.third) (value_role (form_of b).wires 2) s.third;
    }

-- what the value of a block is given
pub value_sized : (net : NetData) (i : ℕ) (b : Block) (given : Given) → AreSized net (block_rule net i b Value).reads given → AreSized net (value_rule_of net i b).reads given
unfolding block_rule
value_sized net i b given s = s

pub plain_small : (net : NetData) (i : ℕ) (b : Block) (given : Given) → AreSized net (block_rule net i b Value).reads given → is_plain b ≡ true → AreSmall given
plain_small net i b given sized plain = values_small net b _ given (plain_reads net i b plain) (value_sized net i b given sized)

pub gain_small : (net : NetData) (i : ℕ) (b : Block) (xty ty : Ty) (x : WireNo) (k : ℤ) (given : Given) → AreSized net (block_rule net i b Value).reads given → b ≡ Gain xty ty x k → IsSmall given.first
gain_small net i b xty ty x k given sized is = (value_sized net i (Gain xty ty x k) given (rw is at sized)).first

pub average_small : (net : NetData) (i : ℕ) (b : Block) (xty ty : Ty) (x : WireNo) (n : ℕ) (given : Given) → AreSized net (block_rule net i b Value).reads given → b ≡ Average xty ty x n → IsSmall given.first × IsSmall given.second
average_small net i b xty ty x n given sized is = let s = value_sized net i (Average xty ty x n) given (rw is at sized) in (s.first, s.second)

pub pt1_state : (net : NetData) (i : ℕ) (b : Block) (xty ty : Ty) (x : WireNo) (teq : ℕ) (k : ℤ) (given : Given) → AreSized net (block_rule net i b Value).reads given → b ≡ Pt1 xty ty x teq k → IsState given.first
pt1_state net i b xty ty x teq k given sized is = (value_sized net i (Pt1 xty ty x teq k) given (rw is at sized)).first

pub dt1_state : (net : NetData) (i : ℕ) (b : Block) (second : Bool) (xty ty : Ty) (x : WireNo) (teq : ℕ) (k : ℤ) (given : Given) → AreSized net (block_rule net i b Value).reads given → b ≡ Dt1 second xty ty x teq k → IsState given.first
dt1_state net i b second xty ty x teq k given sized is = (value_sized net i (Dt1 second xty ty x teq k) given (rw is at sized)).first

-- what its state is given
state_sized : (net : NetData) (i : ℕ) (b : Block) (given : Given) → AreSized net (block_rule net i b Y).reads given → AreSized net (state_rule_of i b).reads given
unfolding block_rule
state_sized net i b given s = s

-- a weight that may be, and bounds of the old state and of the inputs that drive it
pub record IsLagGiven (teq : ℕ) (given : Given) : Type 0 where
  pub weight : teq ≤ 65536
  pub state : IsState given.first
  pub second : IsSmall given.second

pub pt1_given : (net : NetData) (i : ℕ) (b : Block) (xty ty : Ty) (x : WireNo) (teq : ℕ) (k : ℤ) (given : Given) → IsValid net → i < length net.wires → (wire_at net.wires i).item ≡ OfBlock b → AreSized net (block_rule net i b Y).reads given → b ≡ Pt1 xty ty x teq k → IsLagGiven teq given
pt1_given net i b xty ty x teq k given valid h here sized is =
    let s = state_sized net i (Pt1 xty ty x teq k) given (rw is at sized) in
    record { weight = (pt1-valid net i xty ty x teq k valid h (here ∙ ap OfBlock is)).weight; state = s.first; second = s.second }

pub dt1_given : (net : NetData) (i : ℕ) (b : Block) (second : Bool) (xty ty : Ty) (x : WireNo) (teq : ℕ) (k : ℤ) (given : Given) → IsValid net → i < length net.wires → (wire_at net.wires i).item ≡ OfBlock b → AreSized net (block_rule net i b Y).reads given → b ≡ Dt1 second xty ty x teq k → IsLagGiven teq given × IsSmall given.third
dt1_given net i b true xty ty x teq k given valid h here sized is =
    let s = state_sized net i (Dt1 true xty ty x teq k) given (rw is at sized) in
    (record { weight = (dt1-valid net i true xty ty x teq k valid h (here ∙ ap OfBlock is)).weight; state = s.first; second = s.second }, s.third)
dt1_given net i b false xty ty x teq k given valid h here sized is =
    let s = state_sized net i (Dt1 false xty ty x teq k) given (rw is at sized) in
    (record { weight = (dt1-valid net i false xty ty x teq k valid h (here ∙ ap OfBlock is)).weight; state = s.first; second = s.second }, s.third)

-- ---- what is computed is what the rule gives

-- bounds by a value's rule, and by a state's
abbrev pub GivesValue : NetData → ℕ → Block → List Bounds → Option Bounds → Type 0
GivesValue net i b known result =
    let r = block_rule net i b Value in result ≡ cond (r.fails known) None (if_small (r.bounds known))

abbrev pub GivesState : NetData → ℕ → Block → List Bounds → Option Bounds → Type 0
GivesState net i b known result =
    let r = block_rule net i b Y in result ≡ cond (r.fails known) None (if_state (r.bounds known))

pub gain_returns : (net : NetData) (i : ℕ) (b : Block) (xty ty : Ty) (x : WireNo) (k word : ℤ) (given : Given) (known : List Bounds) (result : Option Bounds) → b ≡ Gain xty ty x k → word ≡ k → AreGiven given known → result ≡ if_small (gain_bounds word (λ p. given.first)) → GivesValue net i b known result
unfolding block_rule
gain_returns net i b xty ty x k word given known result is same g e =
    rw is (e ∙ ap (λ t. if_small (gain_bounds t (λ p. given.first))) same ∙ ap if_small (ap (λ t. gain_bounds k (λ p. t)) g.first ∙ gain_bounds_of_one k (bounds_at known)))

pub average_returns : (net : NetData) (i : ℕ) (b : Block) (xty ty : Ty) (x : WireNo) (n : ℕ) (given : Given) (known : List Bounds) (result : Option Bounds) → b ≡ Average xty ty x n → AreGiven given known → result ≡ if_small (average_bounds (two given.first given.second)) → GivesValue net i b known result
unfolding block_rule
average_returns net i b xty ty x n given known result is g e =
    rw is (e ∙ rw (g.first, g.second) (ap if_small (average_bounds_of_two (bounds_at known))))

pub pt1_returns : (net : NetData) (i : ℕ) (b : Block) (xty ty : Ty) (x : WireNo) (teq : ℕ) (k : ℤ) (given : Given) (known : List Bounds) (result : Option Bounds) → b ≡ Pt1 xty ty x teq k → AreGiven given known → result ≡ if_small (value_bounds (λ p. given.first)) → GivesValue net i b known result
unfolding block_rule
pt1_returns net i b xty ty x teq k given known result is g e =
    rw is (e ∙ ap if_small (ap (λ t. value_bounds (λ p. t)) g.first ∙ value_bounds_of_one (bounds_at known)))

pub dt1_returns : (net : NetData) (i : ℕ) (b : Block) (second : Bool) (xty ty : Ty) (x : WireNo) (teq : ℕ) (k : ℤ) (given : Given) (known : List Bounds) (result : Option Bounds) → b ≡ Dt1 second xty ty x teq k → AreGiven given known → result ≡ if_small (value_bounds (λ p. given.first)) → GivesValue net i b known result
unfolding block_rule
dt1_returns net i b second xty ty x teq k given known result is g e =
    rw is (e ∙ ap if_small (ap (λ t. value_bounds (λ p. t)) g.first ∙ value_bounds_of_one (bounds_at known)))

pub pt1_states : (net : NetData) (i : ℕ) (b : Block) (xty ty : Ty) (x : WireNo) (teq : ℕ) (k word : ℤ) (given : Given) (known : List Bounds) (result : Option Bounds) → b ≡ Pt1 xty ty x teq k → word ≡ k → AreGiven given known → result ≡ if_state (lag_bounds teq word (two given.first given.second)) → GivesState net i b known result
unfolding block_rule
pt1_states net i b xty ty x teq k word given known result is same g e =
    rw is (e ∙ ap (λ t. if_state (lag_bounds teq t (two given.first given.second))) same ∙ rw (g.first, g.second) (ap if_state (lag_bounds_of_two teq k (bounds_at known))))

pub dt1_states : (net : NetData) (i : ℕ) (b : Block) (second : Bool) (xty ty : Ty) (x : WireNo) (teq : ℕ) (k word : ℤ) (given : Given) (known : List Bounds) (result : Option Bounds) → b ≡ Dt1 second xty ty x teq k → word ≡ k → AreGiven given known → result ≡ if_state (difference_bounds teq word (three given.first given.second given.third)) → GivesState net i b known result
unfolding block_rule
dt1_states net i b true xty ty x teq k word given known result is same g e =
    rw is (e ∙ ap (λ t. if_state (difference_bounds teq t (three given.first given.second given.third))) same ∙ rw (g.first, g.second, g.third) (ap if_state (difference_bounds_of_three teq k (bounds_at known))))
dt1_states net i b false xty ty x teq k word given known result is same g e =
    rw is (e ∙ ap (λ t. if_state (difference_bounds teq t (three given.first given.second given.third))) same ∙ rw (g.first, g.second, g.third) (ap if_state (difference_bounds_of_three teq k (bounds_at known))))

-- a block without a state gives nothing of one
pub stateless_gives : (net : NetData) (i : ℕ) (b : Block) (known : List Bounds) (result : Option Bounds) → state_rule_of i b ≡ no_rule → result ≡ None → GivesState net i b known result
unfolding block_rule
stateless_gives net i b known result none e = rw none e
