-- What steps give, put together from what their parts give.
use Rattle.std.proofs.Common.{◌≡◌, ℕ, List, Result, Ok, Err, sym, ◌∙◌, ap}
use Rattle.bench_core.specs.declared.endings.Ending.{Ending}
use Rattle.bench_core.specs.declared.endings.Ending.TheVariants.{Usage, Refused, CannotRead, CannotWrite, OutOfMemory}
use Rattle.bench_core.specs.Outcomes.{Refusal}
use Rattle.text_words.specs.Steps.{◌>>=◌}
use Rattle.bench_core.specs.HowItEnds.{ReadsAs, Makes, RefusesWith, StopsAt, StopsInside}

-- two refusals of one status and one text are one
abbrev made : ℕ → List ℕ → Refusal
made status text = record { status = status; text = text }

same_refusal : (r : Refusal) (status : ℕ) (text : List ℕ) → status ≡ r.status → text ≡ r.text → r ≡ made status text
same_refusal r status text p q = ap (λ s. made s r.text) (sym p) ∙ ap (made status) (sym q)

-- a step that is refused, refused in the code
pub stops_at_refusal : {A : Type 0} (step : Result A Refusal) (r : Refusal) (e : Ending) → step ≡ Err r → RefusesWith r e → StopsInside step e
stops_at_refusal step r Usage p h = absurd h
stops_at_refusal step r (Refused n) p h = p ∙ ap Err (same_refusal r n.status n.text.items h.0 h.1)
stops_at_refusal step r (CannotRead text) p h = absurd h
stops_at_refusal step r CannotWrite p h = absurd h
stops_at_refusal step r OutOfMemory p h = tt

-- the first part's error ends both parts
pub stops_at_first : {A B : Type 0} (step : Result A Refusal) (f : A → Result B Refusal) (e : Ending) → StopsAt step e → StopsAt (step >>= f) e
stops_at_first step f Usage h = tt
stops_at_first step f (Refused n) h = ap (λ s. s >>= f) h
stops_at_first step f (CannotRead text) h = tt
stops_at_first step f CannotWrite h = tt
stops_at_first step f OutOfMemory h = tt

-- the second part, behind the first, gives what both give
pub gives_from_parts : {T U A B : Type 0} (view : T → A) (view' : U → B) (step : Result A Refusal) (f : A → Result B Refusal) (v : T) (r : Result U Ending) → ReadsAs view step (Ok v) → Makes view' (f (view v)) r → ReadsAs view' (step >>= f) r
gives_from_parts view view' step f v (Ok u) p h = ap (λ s. s >>= f) p ∙ h
gives_from_parts view view' step f v (Err Usage) p h = tt
gives_from_parts view view' step f v (Err (Refused n)) p h = ap (λ s. s >>= f) p ∙ h
gives_from_parts view view' step f v (Err (CannotRead text)) p h = tt
gives_from_parts view view' step f v (Err CannotWrite) p h = tt
gives_from_parts view view' step f v (Err OutOfMemory) p h = tt
