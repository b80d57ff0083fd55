-- How a step and a command end, what is then said, and why: for the clauses of private functions alone.
use Rattle.std.specs.Prelude.{◌≡◌, ℕ, ◌≤◌, List, [], ◌⊎◌, ⊤, Contains, IsSome, Option, None, Result, Ok, Err}
use Rattle.fx_io.specs.Causes.{Rose}
use Rattle.bench_core.specs.declared.endings.Ending.{Ending}
use Rattle.bench_core.specs.declared.endings.Ending.TheVariants.{Usage, Refused, CannotRead, CannotWrite, OutOfMemory}
use Rattle.net_model.specs.Wires.{NetData}
use Rattle.bench_core.specs.Calls.{SinkCall, ShelfCall, Writes, WritesFront, SaysAll}
use Rattle.bench_core.specs.Outcomes.{Outcome, Refusal}
use Rattle.bench_core.specs.Requests.{Request, files_asked}
use Rattle.bench_core.specs.RefusalTexts.{usage, cannot_read, cannot_write, out_of_memory}

-- a sink over a call that writes nothing
abbrev pub still : Option (List ℕ) → ℕ → SinkCall
still old count = record { old = old; new = old; before = count; now = count }

-- A step: a part of a command that gives something to go on with, or ends it.

-- the ending is this refusal, or want of memory
abbrev pub RefusesWith : Refusal → Ending → Type 0
RefusesWith r Usage = ⊥
RefusesWith r (Refused n) = (n.status ≡ r.status) × (n.text.items ≡ r.text)
RefusesWith r (CannotRead text) = ⊥
RefusesWith r CannotWrite = ⊥
RefusesWith r OutOfMemory = ⊤

-- the ending says that this file can't be read, or is want of memory
abbrev pub IsUnread : List ℕ → Ending → Type 0
IsUnread file Usage = ⊥
IsUnread file (Refused n) = ⊥
IsUnread file (CannotRead text) = text.items ≡ cannot_read file
IsUnread file CannotWrite = ⊥
IsUnread file OutOfMemory = ⊤

-- a step over a file stopped at its refusal, or because of the outside or for want of memory
abbrev pub StopsAt : {A : Type 0} → Result A Refusal → Ending → Type 0
StopsAt step Usage = ⊤
StopsAt step (Refused n) = step ≡ Err (record { status = n.status; text = n.text.items })
StopsAt step (CannotRead text) = ⊤
StopsAt step CannotWrite = ⊤
StopsAt step OutOfMemory = ⊤

-- a step over a file gave what it is said to give, seen by `view`, or stopped
abbrev pub ReadsAs : {T A : Type 0} → (T → A) → Result A Refusal → Result T Ending → Type 0
ReadsAs view step (Ok v) = step ≡ Ok (view v)
ReadsAs view step (Err e) = StopsAt step e

-- why a step over a file stopped: the count of faults rose and its file failed
abbrev pub HasStopCause : List ℕ → ShelfCall → Ending → Type 0
HasStopCause file shelf Usage = ⊥
HasStopCause file shelf (Refused n) = ⊤
HasStopCause file shelf (CannotRead text) =
    Rose shelf.before shelf.now × (shelf.failed ≡ file) × (text.items ≡ cannot_read file)
HasStopCause file shelf CannotWrite = ⊥
HasStopCause file shelf OutOfMemory = ⊤

-- the same of a step over a file, whether it stopped or not: no count of faults falls
abbrev pub HasStepCause : {T : Type 0} → List ℕ → ShelfCall → Result T Ending → Type 0
HasStepCause file shelf (Ok v) = shelf.before ≤ shelf.now
HasStepCause file shelf (Err e) = HasStopCause file shelf e

-- a step that the outside has no part in stopped at its refusal, or for want of memory
abbrev pub StopsInside : {A : Type 0} → Result A Refusal → Ending → Type 0
StopsInside step Usage = ⊥
StopsInside step (Refused n) = step ≡ Err (record { status = n.status; text = n.text.items })
StopsInside step (CannotRead text) = ⊥
StopsInside step CannotWrite = ⊥
StopsInside step OutOfMemory = ⊤

-- a step that the outside has no part in gave what it is said to give, seen by `view`, or stopped
abbrev pub Makes : {T A : Type 0} → (T → A) → Result A Refusal → Result T Ending → Type 0
Makes view step (Ok v) = step ≡ Ok (view v)
Makes view step (Err e) = StopsInside step e

-- printing stopped behind a front of the bytes, because the sink failed or for want of memory
abbrev pub StopsPrinting : List ℕ → SinkCall → Ending → Type 0
StopsPrinting bytes out Usage = ⊥
StopsPrinting bytes out (Refused n) = ⊥
StopsPrinting bytes out (CannotRead text) = ⊥
StopsPrinting bytes out CannotWrite = Rose out.before out.now × WritesFront out bytes
StopsPrinting bytes out OutOfMemory = WritesFront out bytes

-- printing these bytes: all were written, or it stopped
abbrev pub Prints : {T : Type 0} → List ℕ → SinkCall → Result T Ending → Type 0
Prints bytes out (Ok v) = Writes out bytes
Prints bytes out (Err e) = StopsPrinting bytes out e

-- A command.

-- a command ended early: at its refusal with all printed that comes before it, or because of the outside or for want of
-- memory behind a front of what is to be printed
abbrev pub EndsEarly : Outcome → List ℕ → SinkCall → Ending → Type 0
EndsEarly o failed out Usage = (o.status ≡ 1) × (o.err ≡ usage.text) × Writes out o.out
EndsEarly o failed out (Refused n) = (o.status ≡ n.status) × (o.err ≡ n.text.items) × Writes out o.out
EndsEarly o failed out (CannotRead text) = Contains o.reads failed × WritesFront out o.out
EndsEarly o failed out CannotWrite = WritesFront out o.out
EndsEarly o failed out OutOfMemory = WritesFront out o.out

-- a command ended as the outcome has it, with its work done or early
abbrev pub Ends : {T : Type 0} → Outcome → List ℕ → SinkCall → Result T Ending → Type 0
Ends o failed out (Ok v) = (o.status ≡ 0) × (o.err ≡ []) × Writes out o.out
Ends o failed out (Err e) = EndsEarly o failed out e

-- why a command ended early, whatever is told: which count of faults rose, and which of its files failed
abbrev pub HasEarlyCause : List (List ℕ) → ShelfCall → SinkCall → Ending → Type 0
HasEarlyCause files shelf out Usage = ⊥
HasEarlyCause files shelf out (Refused n) = ⊤
HasEarlyCause files shelf out (CannotRead text) =
    Rose shelf.before shelf.now × Contains files shelf.failed × (text.items ≡ cannot_read shelf.failed)
HasEarlyCause files shelf out CannotWrite = Rose out.before out.now
HasEarlyCause files shelf out OutOfMemory = ⊤

-- the same of a command, whether it ended early or not
abbrev pub HasEndingCause : {T : Type 0} → List (List ℕ) → ShelfCall → SinkCall → Result T Ending → Type 0
HasEndingCause files shelf out (Ok v) = ⊤
HasEndingCause files shelf out (Err e) = HasEarlyCause files shelf out e

-- why the call's work ended so, whatever is told: only where the words are outside the grammar it is the usage, and then
-- nothing is printed
abbrev pub HasAnswerCause : {T : Type 0} → Option Request → ShelfCall → SinkCall → Result T Ending → Type 0
HasAnswerCause request shelf out (Ok v) = IsSome request
HasAnswerCause request shelf out (Err Usage) = (request ≡ None) × Writes out []
HasAnswerCause request shelf out (Err (Refused n)) = IsSome request
HasAnswerCause request shelf out (Err (CannotRead text)) =
    IsSome request × Rose shelf.before shelf.now × Contains (files_asked request) shelf.failed
    × (text.items ≡ cannot_read shelf.failed)
HasAnswerCause request shelf out (Err CannotWrite) = IsSome request × Rose out.before out.now
HasAnswerCause request shelf out (Err OutOfMemory) = IsSome request

-- whatever was to be made of two files, the command ended at one of them, with nothing printed
abbrev pub EndsUnmade : ((NetData → List ℕ → Outcome) → Outcome) → List ℕ → Ending → Type 0
EndsUnmade answer failed e =
    (work : NetData → List ℕ → Outcome) (old : Option (List ℕ)) (count : ℕ) →
    EndsEarly (answer work) failed (still old count) e

-- where a command ended because a file can't be read, this holds
abbrev pub WhereUnread : {T : Type 0} → Result T Ending → Type 0 → Type 0
WhereUnread (Ok v) P = ⊤
WhereUnread (Err Usage) P = ⊤
WhereUnread (Err (Refused n)) P = ⊤
WhereUnread (Err (CannotRead text)) P = P
WhereUnread (Err CannotWrite) P = ⊤
WhereUnread (Err OutOfMemory) P = ⊤

-- What is said at the end.

-- the text was said and its status answered; or memory ran out while it was said, and 8 was answered
abbrev pub Says : ℕ → List ℕ → SinkCall → ℕ → Type 0
Says status text err answer = ((answer ≡ status) × SaysAll text err) ⊎ ((answer ≡ 8) × WritesFront err text)

-- what is said of an ending, and the status that is answered
abbrev pub Finishes : {T : Type 0} → Result T Ending → SinkCall → ℕ → Type 0
Finishes (Ok v) err answer = (answer ≡ 0) × Writes err []
Finishes (Err Usage) err answer = Says 1 usage.text err answer
Finishes (Err (Refused n)) err answer = Says n.status n.text.items err answer
Finishes (Err (CannotRead text)) err answer = Says 2 text.items err answer
Finishes (Err CannotWrite) err answer = Says 7 cannot_write err answer
Finishes (Err OutOfMemory) err answer = Says 8 out_of_memory err answer
