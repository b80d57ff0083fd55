-- What the steps of a command gave where its work was done in the end.
use Rattle.std.proofs.Common.{◌≡◌, ℕ, ◌<◌, Bool, true, false, List, length, Result, Ok, Err, refl, sym, ap, ◌∙◌, subst, arith, if◌then◌else◌}
use Rattle.std.specs.Prelude.{nat_lt}
use Rattle.fx_io.specs.Outside.{bytes_of}
use Rattle.net_model.specs.Wires.{NetData}
use Rattle.net_text.specs.declared.reader.NetFault.{NetFault}
use Rattle.net_text.specs.Text.{network_of}
use Rattle.text_words.specs.Steps.{◌>>=◌}
use Rattle.bench_core.specs.Outcomes.{Outcome, Refusal, reading, unless_refused}
use Rattle.bench_core.specs.RefusalTexts.{too_long}
use Rattle.bench_core.specs.FaultTexts.{bad_network}
use Rattle.bench_core.specs.FilesRead.{if_faultless, file_read, network_in, network_read, over_two_files, text_limit}

-- a step's refusals have other statuses than 0
abbrev pub RefusesAbove : {T : Type 0} → Result T Refusal → Type 0
RefusesAbove {T} step = (r : Refusal) → step ≡ Err r → 0 < r.status

-- the refusal of a step is the one that it is
pub same_error : {T : Type 0} (q r : Refusal) → ◌≡◌ {A = Result T Refusal} (Err q) (Err r) → q ≡ r
same_error q r h = cc

pub above_from : {T : Type 0} (q : Refusal) → 0 < q.status → RefusesAbove {T = T} (Err q)
above_from q p r h = subst (λ (s : Refusal). 0 < s.status) (same_error q r h) p

pub ok_is_not_error : {T : Type 0} (x : T) (r : Refusal) → ◌≡◌ {A = Result T Refusal} (Ok x) (Err r) → ⊥
ok_is_not_error x r h = cc

-- what a step gave where the work was done in the end
pub record Passed {T : Type 0} (step : Result T Refusal) (next : T → Outcome) : Type 0 where
  pub given : T
  pub gives : step ≡ Ok given
  pub done_after : (next given).status ≡ 0
  pub prints : (unless_refused step next).out ≡ (next given).out

pub passed : {T : Type 0} (step : Result T Refusal) (next : T → Outcome) → RefusesAbove step → (unless_refused step next).status ≡ 0 → Passed step next
passed (Ok x) next above h = record { given = x; gives = refl; done_after = h; prints = refl }
passed (Err r) next above h = let p : 0 < r.status = above r refl in absurd (omega arith)

-- ---- the network

pub same_given : {T : Type 0} (y x : T) → ◌≡◌ {A = Result T Refusal} (Ok y) (Ok x) → y ≡ x
same_given y x h = cc

-- a text without fault is what it means
pub given_faultless : {T F : Type 0} (refusal : F → Refusal) (read : Result T F) (x : T) → if_faultless refusal read ≡ Ok x → read ≡ Ok x
given_faultless refusal (Ok y) x h = ap Ok (same_given y x h)
given_faultless refusal (Err f) x h = absurd (ok_is_not_error x (refusal f) (sym h))

pub faultless_above : {T F : Type 0} (refusal : F → Refusal) (read : Result T F) → ((f : F) → 0 < (refusal f).status) → RefusesAbove (if_faultless refusal read)
faultless_above refusal (Ok y) p r h = absurd (ok_is_not_error y r h)
faultless_above refusal (Err f) p r h = above_from (refusal f) (p f) r h

-- two parts of a step
pub chain_above : {A B : Type 0} (step : Result A Refusal) (f : A → Result B Refusal) → RefusesAbove step → ((x : A) → RefusesAbove (f x)) → RefusesAbove (step >>= f)
chain_above (Ok x) f a b = b x
chain_above (Err q) f a b = above_from q (a q refl)

pub record Parts {A B : Type 0} (step : Result A Refusal) (f : A → Result B Refusal) (y : B) : Type 0 where
  pub middle : A
  pub first : step ≡ Ok middle
  pub second : f middle ≡ Ok y

pub chain_given : {A B : Type 0} (step : Result A Refusal) (f : A → Result B Refusal) (y : B) → (step >>= f) ≡ Ok y → Parts step f y
chain_given (Ok x) f y h = record { middle = x; first = refl; second = h }
chain_given (Err q) f y h = absurd (ok_is_not_error y q (sym h))

-- the bytes of a file
pub bytes_above : (b : Bool) (name bytes : List ℕ) → RefusesAbove (if b then Err (too_long name) else Ok bytes)
bytes_above true name bytes r h = above_from (too_long name) (omega arith) r h
bytes_above false name bytes r h = absurd (ok_is_not_error bytes r h)

pub bytes_given : (b : Bool) (name bytes x : List ℕ) → ◌≡◌ {A = Result (List ℕ) Refusal} (if b then Err (too_long name) else Ok bytes) (Ok x) → x ≡ bytes
bytes_given true name bytes x h = absurd (ok_is_not_error x (too_long name) (sym h))
bytes_given false name bytes x h = cc

-- the network of a text
bad_network_above : (name : List ℕ) (fault : NetFault) → 0 < (bad_network name fault).status
unfolding bad_network
bad_network_above name fault = omega arith

pub network_above : (files : List (List ℕ × List ℕ)) (name : List ℕ) → RefusesAbove (network_read files name)
unfolding network_read network_in
network_above files name =
    let bytes = bytes_of files name in
    chain_above (file_read files name text_limit) (network_in name) (bytes_above (nat_lt text_limit (length bytes)) name bytes) (λ x. faultless_above (bad_network name) (network_of x) (bad_network_above name))

pub network_given : (files : List (List ℕ × List ℕ)) (name : List ℕ) (net : NetData) → network_read files name ≡ Ok net → network_of (bytes_of files name) ≡ Ok net
unfolding network_read network_in
network_given files name net h =
    let bytes = bytes_of files name in
    let p = chain_given (file_read files name text_limit) (network_in name) net h in
    let e = bytes_given (nat_lt text_limit (length bytes)) name bytes p.middle p.first in
    subst (λ b. network_of b ≡ Ok net) e (given_faultless (bad_network name) (network_of p.middle) net p.second)

-- ---- a command over two files

-- what both files gave where the work was done in the end
pub record PassedBoth (files : List (List ℕ × List ℕ)) (net other : List ℕ) (work : NetData → List ℕ → Outcome) (o : Outcome) : Type 0 where
  pub network : NetData
  pub is_network : network_of (bytes_of files net) ≡ Ok network
  pub done_after : (work network (bytes_of files other)).status ≡ 0
  pub prints : o.out ≡ (work network (bytes_of files other)).out

pub passed_both : (files : List (List ℕ × List ℕ)) (net other : List ℕ) (limit : ℕ) (work : NetData → List ℕ → Outcome) → (over_two_files files net other limit work).status ≡ 0 → PassedBoth files net other work (over_two_files files net other limit work)
unfolding over_two_files
passed_both files net other limit work h =
    let n = passed (network_read files net) (λ (m : NetData). reading other (file_read files other limit) (work m)) (network_above files net) h in
    let bytes = bytes_of files other in
    let long = nat_lt limit (length bytes) in
    let b = passed (file_read files other limit) (work n.given) (bytes_above long other bytes) n.done_after in
    let given : b.given ≡ bytes = bytes_given long other bytes b.given b.gives in
    record {
      network = n.given;
      is_network = network_given files net n.given n.gives;
      done_after = subst (λ t. (work n.given t).status ≡ 0) given b.done_after;
      prints = n.prints ∙ b.prints ∙ ap (λ t. (work n.given t).out) given;
    }
