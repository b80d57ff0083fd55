-- The clauses of the call, each from how its work ended and from what was said of it.
use Rattle.std.proofs.Common.{◌≡◌, ℕ, List, length, Option, Some, Result, Ok, Err, refl, sym, ◌∙◌, subst, arith, inl, inr}
use Rattle.std.proofs.Math.Seq.{take-length}
use Rattle.std.proofs.lemmas.Bool.{false≢true}
use Rattle.std.specs.Prelude.{OnOk}
use Rattle.bench_core.specs.declared.endings.Ending.{Ending}
use Rattle.bench_core.specs.declared.endings.Ending.TheVariants.{Usage, Refused, CannotRead, CannotWrite, OutOfMemory}
use Rattle.bench_core.specs.Calls.{SinkCall, ShelfCall, Writes, WritesFront, SaysAll}
use Rattle.bench_core.specs.Outcomes.{Outcome}
use Rattle.bench_core.specs.Requests.{Request, files_of}
use Rattle.bench_core.specs.RefusalTexts.{usage, cannot_read, cannot_write, out_of_memory}
use Rattle.bench_core.specs.Statuses.{IsRefusalStatus}
use Rattle.bench_core.specs.HowItEnds.{Ends, HasAnswerCause, HasEndingCause, WhereUnread, Finishes, Says}
use Rattle.bench_core.specs.Clauses.{HasReadText, HasUsageText, SaysFront}

-- why a command that was asked for ended
pub cause_of_command : {T : Type 0} (request : Request) (shelf : ShelfCall) (out : SinkCall) (r : Result T Ending) → HasEndingCause (files_of request) shelf out r → HasAnswerCause (Some request) shelf out r
cause_of_command request shelf out (Ok v) h = refl
cause_of_command request shelf out (Err Usage) h = absurd h
cause_of_command request shelf out (Err (Refused n)) h = refl
cause_of_command request shelf out (Err (CannotRead text)) h = (refl, h.0, h.1, h.2)
cause_of_command request shelf out (Err CannotWrite) h = (refl, h)
cause_of_command request shelf out (Err OutOfMemory) h = refl

-- all bytes are a front of them
whole_is_front : (out : SinkCall) (bytes : List ℕ) → Writes out bytes → WritesFront out bytes
whole_is_front out bytes h = (length bytes, subst (Writes out) (sym (take-length bytes)) h)

-- what is printed is a front of what is to be printed
pub prints_front : {T : Type 0} (o : Outcome) (failed : List ℕ) (out : SinkCall) (r : Result T Ending) → Ends o failed out r → WritesFront out o.out
prints_front o failed out (Ok v) h = whole_is_front out o.out h.2
prints_front o failed out (Err Usage) h = whole_is_front out o.out h.2
prints_front o failed out (Err (Refused n)) h = whole_is_front out o.out h.2
prints_front o failed out (Err (CannotRead text)) h = h.1
prints_front o failed out (Err CannotWrite) h = h
prints_front o failed out (Err OutOfMemory) h = h

-- what is said where the status is known: the whole text where it is the text's status and not 8
said_whole : (status : ℕ) (text : List ℕ) (err : SinkCall) (answer : ℕ) → Says status text err answer → (answer ≡ 8 → ⊥) → (answer ≡ status) × SaysAll text err
said_whole status text err answer (inl h) n = h
said_whole status text err answer (inr h) n = absurd (n h.0)

-- a front was said in any case
said_front : (status : ℕ) (text : List ℕ) (err : SinkCall) (answer : ℕ) → Says status text err answer → WritesFront err text
said_front status text err answer (inl (whole, inl h)) = whole_is_front err text h
said_front status text err answer (inl (whole, inr h)) = h.1
said_front status text err answer (inr h) = h.1

-- a text of status 8 is answered by 8
said_at_want : (text : List ℕ) (err : SinkCall) (answer : ℕ) → Says 8 text err answer → answer ≡ 8
said_at_want text err answer (inl h) = h.0
said_at_want text err answer (inr h) = h.0

-- the text of a file that failed was said
said_of_file : (failed text : List ℕ) (err : SinkCall) → text ≡ cannot_read failed → SaysAll text err → SaysAll (cannot_read failed) err
said_of_file failed text err e h = subst (λ t. SaysAll t err) e h

-- status 2
pub says_read : {T : Type 0} (request : Option Request) (shelf : ShelfCall) (out : SinkCall) (r : Result T Ending) (err : SinkCall) (answer : ℕ) → HasAnswerCause request shelf out r → Finishes r err answer → answer ≡ 2 → HasReadText request shelf err
says_read request shelf out (Ok v) err answer c h e = absurd (omega arith)
says_read request shelf out (Err Usage) err answer c h e =
    let s = said_whole 1 usage.text err answer h (λ q. omega arith) in absurd (omega (arith, s.0))
says_read request shelf out (Err (Refused a)) err answer c h e =
    let s = said_whole a.status a.text.items err answer h (λ q. omega arith) in
    absurd (false≢true (subst IsRefusalStatus (sym s.0 ∙ e) a.decided))
says_read request shelf out (Err (CannotRead text)) err answer c h e =
    let s = said_whole 2 text.items err answer h (λ q. omega arith) in
    (c.1, c.2, said_of_file shelf.failed text.items err c.3 s.1)
says_read request shelf out (Err CannotWrite) err answer c h e =
    let s = said_whole 7 cannot_write err answer h (λ q. omega arith) in absurd (omega (arith, s.0))
says_read request shelf out (Err OutOfMemory) err answer c h e =
    absurd (omega (arith, said_at_want out_of_memory err answer h))

-- status 2 comes of a file that can't be read
pub says_unread : {T : Type 0} (P : Type 0) (r : Result T Ending) (err : SinkCall) (answer : ℕ) → WhereUnread r P → Finishes r err answer → answer ≡ 2 → P
says_unread P (Ok v) err answer c h e = absurd (omega arith)
says_unread P (Err Usage) err answer c h e =
    let s = said_whole 1 usage.text err answer h (λ q. omega arith) in absurd (omega (arith, s.0))
says_unread P (Err (Refused a)) err answer c h e =
    let s = said_whole a.status a.text.items err answer h (λ q. omega arith) in
    absurd (false≢true (subst IsRefusalStatus (sym s.0 ∙ e) a.decided))
says_unread P (Err (CannotRead text)) err answer c h e = c
says_unread P (Err CannotWrite) err answer c h e =
    let s = said_whole 7 cannot_write err answer h (λ q. omega arith) in absurd (omega (arith, s.0))
says_unread P (Err OutOfMemory) err answer c h e =
    absurd (omega (arith, said_at_want out_of_memory err answer h))

-- status 8
pub says_front : {T : Type 0} (o : Outcome) (request : Option Request) (shelf : ShelfCall) (out : SinkCall) (r : Result T Ending) (err : SinkCall) (answer : ℕ) → Ends o shelf.failed out r → HasAnswerCause request shelf out r → Finishes r err answer → answer ≡ 8 → SaysFront o shelf out err
says_front o request shelf out (Ok v) err answer w c h e = absurd (omega arith)
says_front o request shelf out (Err Usage) err answer w c h e =
    inr (inl (subst (WritesFront err) (sym w.1) (said_front 1 usage.text err answer h)))
says_front o request shelf out (Err (Refused a)) err answer w c h e =
    inr (inl (subst (WritesFront err) (sym w.1) (said_front a.status a.text.items err answer h)))
says_front o request shelf out (Err (CannotRead text)) err answer w c h e =
    inr (inr (inl (c.1, w.0, subst (WritesFront err) c.3 (said_front 2 text.items err answer h))))
says_front o request shelf out (Err CannotWrite) err answer w c h e =
    inr (inr (inr (c.1, said_front 7 cannot_write err answer h)))
says_front o request shelf out (Err OutOfMemory) err answer w c h e =
    inl (said_front 8 out_of_memory err answer h)

-- status 1
pub says_usage : {T : Type 0} (request : Option Request) (shelf : ShelfCall) (out : SinkCall) (r : Result T Ending) (err : SinkCall) (answer : ℕ) → HasAnswerCause request shelf out r → Finishes r err answer → answer ≡ 1 → HasUsageText request out err
says_usage request shelf out (Ok v) err answer c h e = absurd (omega arith)
says_usage request shelf out (Err Usage) err answer c h e =
    let s = said_whole 1 usage.text err answer h (λ q. omega arith) in (c.0, c.1, s.1)
says_usage request shelf out (Err (Refused a)) err answer c h e =
    let s = said_whole a.status a.text.items err answer h (λ q. omega arith) in
    absurd (false≢true (subst IsRefusalStatus (sym s.0 ∙ e) a.decided))
says_usage request shelf out (Err (CannotRead text)) err answer c h e =
    let s = said_whole 2 text.items err answer h (λ q. omega arith) in absurd (omega (arith, s.0))
says_usage request shelf out (Err CannotWrite) err answer c h e =
    let s = said_whole 7 cannot_write err answer h (λ q. omega arith) in absurd (omega (arith, s.0))
says_usage request shelf out (Err OutOfMemory) err answer c h e =
    absurd (omega (arith, said_at_want out_of_memory err answer h))

-- status 0: the work is done
done_at_0 : {T : Type 0} (r : Result T Ending) (err : SinkCall) (answer : ℕ) → Finishes r err answer → answer ≡ 0 → (v : T) × (r ≡ Ok v)
done_at_0 (Ok v) err answer h e = (v, refl)
done_at_0 (Err Usage) err answer h e =
    let s = said_whole 1 usage.text err answer h (λ q. omega arith) in absurd (omega (arith, s.0))
done_at_0 (Err (Refused a)) err answer h e =
    let s = said_whole a.status a.text.items err answer h (λ q. omega arith) in
    absurd (false≢true (subst IsRefusalStatus (sym s.0 ∙ e) a.decided))
done_at_0 (Err (CannotRead text)) err answer h e =
    let s = said_whole 2 text.items err answer h (λ q. omega arith) in absurd (omega (arith, s.0))
done_at_0 (Err CannotWrite) err answer h e =
    let s = said_whole 7 cannot_write err answer h (λ q. omega arith) in absurd (omega (arith, s.0))
done_at_0 (Err OutOfMemory) err answer h e =
    absurd (omega (arith, said_at_want out_of_memory err answer h))

-- then all is printed
pub prints_all : {T : Type 0} (o : Outcome) (failed : List ℕ) (out : SinkCall) (r : Result T Ending) (err : SinkCall) (answer : ℕ) → Ends o failed out r → Finishes r err answer → answer ≡ 0 → (o.status ≡ 0) × Writes out o.out
prints_all o failed out r err answer w h e =
    let d = done_at_0 r err answer h e in
    let all = subst (Ends o failed out) d.1 w in (all.0, all.2)

-- then what holds of work that is done holds
pub holds_done : {T : Type 0} (P : Type 0) (r : Result T Ending) (err : SinkCall) (answer : ℕ) → OnOk r P → Finishes r err answer → answer ≡ 0 → P
holds_done P r err answer w h e =
    subst (λ s. OnOk s P) (done_at_0 r err answer h e).1 w
