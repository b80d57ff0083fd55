-- How a command ends, put together from how its steps end.
use Rattle.std.proofs.Common.{◌≡◌, ℕ, ◌≤◌, List, [], ◌∷◌, ◌++◌, Option, Result, Ok, Err, refl, sym, subst, append-nil, arith}
use Rattle.std.specs.Prelude.{Contains, OnOk}
use Rattle.std.specs.Result.{IsErrAnd}
use Rattle.std.proofs.KnownBytes.{Appends-nil}
use Rattle.std.proofs.lemmas.List.Elements.{Contains-append_right}
use Rattle.fx_io.specs.Causes.{Rose}
use Rattle.net_model.specs.Wires.{NetData}
use Rattle.bench_core.specs.declared.endings.Ending.{Ending}
use Rattle.bench_core.specs.declared.endings.Ending.TheVariants.{Usage, Refused, CannotRead, CannotWrite, OutOfMemory}
use Rattle.bench_core.specs.Calls.{SinkCall, ShelfCall, WritesFront}
use Rattle.bench_core.specs.Outcomes.{Outcome, Refusal, reading, reaching, unless_refused, printed, done}
use Rattle.bench_core.specs.HowItEnds.{Ends, EndsEarly, EndsUnmade, ReadsAs, Prints, StopsAt, StopsInside, HasStopCause, HasEarlyCause, HasEndingCause, still}
use Rattle.bench_core.specs.FilesRead.{file_read, network_read, over_two_files}

-- a sink over a call, and a shelf
abbrev pub sink_over : Option (List ℕ) → Option (List ℕ) → ℕ → ℕ → SinkCall
sink_over old new before now = record { old = old; new = new; before = before; now = now }

abbrev pub shelf_over : ℕ → ℕ → List ℕ → ShelfCall
shelf_over before now failed = record { before = before; now = now; failed = failed }

-- nothing is a front of any bytes
front_of_none : (old : Option (List ℕ)) (count : ℕ) (bytes : List ℕ) → WritesFront (still old count) bytes
front_of_none old count bytes = (0, Appends-nil old)

-- a front of bytes to which nothing more is put
front_and_none : (out : SinkCall) (bytes : List ℕ) → WritesFront out bytes → WritesFront out (bytes ++ [])
front_and_none out bytes h = rw append-nil h

-- the first name is among the names
named_first : (file failed : List ℕ) (files : List (List ℕ)) → failed ≡ file → Contains (file ∷ files) failed
named_first file failed files e = (0, omega arith, sym e)

-- a name among some is among more
named_later : (file failed : List ℕ) (files : List (List ℕ)) → Contains files failed → Contains (file ∷ files) failed
named_later file failed files h = Contains-append_right (file ∷ []) files failed h

-- a step over a file ended the command
pub stops : {A : Type 0} (file : List ℕ) (step : Result A Refusal) (next : A → Outcome) (shelf : ShelfCall) (old : Option (List ℕ)) (count : ℕ) (e : Ending) → StopsAt step e → HasStopCause file shelf e → EndsEarly (reading file step next) shelf.failed (still old count) e
stops file step next shelf old count Usage h c = absurd c
stops file step next shelf old count (Refused n) h c = rw h (refl, refl, Appends-nil old)
stops file step next shelf old count (CannotRead text) h c = (named_first file shelf.failed _ c.1, front_of_none old count _)
stops file step next shelf old count CannotWrite h c = front_of_none old count _
stops file step next shelf old count OutOfMemory h c = front_of_none old count _

-- a file is reached before the others
reached_first : {T : Type 0} (file : List ℕ) (o : Outcome) (failed : List ℕ) (out : SinkCall) (r : Result T Ending) → Ends o failed out r → Ends (reaching file o) failed out r
reached_first file o failed out (Ok u) e = e
reached_first file o failed out (Err Usage) e = e
reached_first file o failed out (Err (Refused n)) e = e
reached_first file o failed out (Err (CannotRead text)) e = (named_later file failed _ e.0, e.1)
reached_first file o failed out (Err CannotWrite) e = e
reached_first file o failed out (Err OutOfMemory) e = e

-- a step without a file gave something, and the command went on with it
pub goes_inside : {T U A : Type 0} (view : T → A) (step : Result A Refusal) (next : A → Outcome) (failed : List ℕ) (out : SinkCall) (v : T) (r : Result U Ending) → step ≡ Ok (view v) → Ends (next (view v)) failed out r → Ends (unless_refused step next) failed out r
goes_inside view step next failed out v r h e = subst (λ s. Ends (unless_refused s next) failed out r) (sym h) e

-- a step over a file gave something, and the command went on with it
pub goes : {T U A : Type 0} (view : T → A) (file : List ℕ) (step : Result A Refusal) (next : A → Outcome) (failed : List ℕ) (out : SinkCall) (v : T) (r : Result U Ending) → ReadsAs view step (Ok v) → Ends (next (view v)) failed out r → Ends (reading file step next) failed out r
goes view file step next failed out v r h e = reached_first file (unless_refused step next) failed out r (goes_inside view step next failed out v r h e)

-- a step without a file ended the command
pub stops_inside : {A : Type 0} (step : Result A Refusal) (next : A → Outcome) (failed : List ℕ) (old : Option (List ℕ)) (count : ℕ) (e : Ending) → StopsInside step e → EndsEarly (unless_refused step next) failed (still old count) e
stops_inside step next failed old count Usage h = absurd h
stops_inside step next failed old count (Refused n) h = rw h (refl, refl, Appends-nil old)
stops_inside step next failed old count (CannotRead text) h = absurd h
stops_inside step next failed old count CannotWrite h = absurd h
stops_inside step next failed old count OutOfMemory h = front_of_none old count _

-- the command printed its last bytes
pub ends_printed : {T : Type 0} (bytes : List ℕ) (failed : List ℕ) (out : SinkCall) (r : Result T Ending) → Prints bytes out r → Ends (printed bytes done) failed out r
ends_printed bytes failed out (Ok v) h = (refl, refl, rw append-nil h)
ends_printed bytes failed out (Err Usage) h = absurd h
ends_printed bytes failed out (Err (Refused n)) h = absurd h
ends_printed bytes failed out (Err (CannotRead text)) h = absurd h
ends_printed bytes failed out (Err CannotWrite) h = front_and_none out bytes h.1
ends_printed bytes failed out (Err OutOfMemory) h = front_and_none out bytes h

-- a count that rose later in a call rose in it
rose_earlier : (a b c : ℕ) → a ≤ b → Rose b c → Rose a c
rose_earlier a b c h r = omega arith

-- why a step ended is why its command ended
pub cause_of_step : (files : List (List ℕ)) (file : List ℕ) (first before now : ℕ) (failed : List ℕ) (out : SinkCall) (e : Ending) → Contains files file → first ≤ before → HasStopCause file (shelf_over before now failed) e → HasEarlyCause files (shelf_over first now failed) out e
cause_of_step files file first before now failed out Usage m l h = absurd h
cause_of_step files file first before now failed out (Refused n) m l h = tt
cause_of_step files file first before now failed out (CannotRead text) m l h = rw h.1 (rose_earlier first before now l h.0, m, h.2)
cause_of_step files file first before now failed out CannotWrite m l h = absurd h
cause_of_step files file first before now failed out OutOfMemory m l h = tt

-- what comes behind all files ended as it did because of no file
pub cause_behind_files : {T : Type 0} (files : List (List ℕ)) (shelf : ShelfCall) (out : SinkCall) (r : Result T Ending) → HasEndingCause [] shelf out r → HasEndingCause files shelf out r
cause_behind_files files shelf out (Ok v) h = tt
cause_behind_files files shelf out (Err Usage) h = absurd h
cause_behind_files files shelf out (Err (Refused n)) h = tt
cause_behind_files files shelf out (Err (CannotRead text)) h = let below = h.1.1 in absurd (omega (arith, below))
cause_behind_files files shelf out (Err CannotWrite) h = h
cause_behind_files files shelf out (Err OutOfMemory) h = tt

-- a step without a file ended the command, and the outside had no part in it
pub cause_inside : {A : Type 0} (step : Result A Refusal) (files : List (List ℕ)) (shelf : ShelfCall) (out : SinkCall) (e : Ending) → StopsInside step e → HasEarlyCause files shelf out e
cause_inside step files shelf out Usage h = absurd h
cause_inside step files shelf out (Refused n) h = tt
cause_inside step files shelf out (CannotRead text) h = absurd h
cause_inside step files shelf out CannotWrite h = absurd h
cause_inside step files shelf out OutOfMemory h = tt

-- the last bytes weren't printed
pub cause_of_printing : {T : Type 0} (bytes : List ℕ) (out : SinkCall) (files : List (List ℕ)) (shelf : ShelfCall) (r : Result T Ending) → Prints bytes out r → HasEndingCause files shelf out r
cause_of_printing bytes out files shelf (Ok v) h = tt
cause_of_printing bytes out files shelf (Err Usage) h = absurd h
cause_of_printing bytes out files shelf (Err (Refused n)) h = absurd h
cause_of_printing bytes out files shelf (Err (CannotRead text)) h = absurd h
cause_of_printing bytes out files shelf (Err CannotWrite) h = h.0
cause_of_printing bytes out files shelf (Err OutOfMemory) h = tt

-- why what comes behind some printing ended is why the command ended
pub cause_behind_printing : {T : Type 0} (files : List (List ℕ)) (shelf : ShelfCall) (old mid new : Option (List ℕ)) (first before now : ℕ) (r : Result T Ending) → first ≤ before → HasEndingCause files shelf (sink_over mid new before now) r → HasEndingCause files shelf (sink_over old new first now) r
cause_behind_printing files shelf old mid new a b c (Ok v) l h = tt
cause_behind_printing files shelf old mid new a b c (Err Usage) l h = absurd h
cause_behind_printing files shelf old mid new a b c (Err (Refused n)) l h = tt
cause_behind_printing files shelf old mid new a b c (Err (CannotRead text)) l h = h
cause_behind_printing files shelf old mid new a b c (Err CannotWrite) l h = rose_earlier a b c l h
cause_behind_printing files shelf old mid new a b c (Err OutOfMemory) l h = tt

-- a step over the first of a command's files ended the command: why
pub stop_causes : (file : List ℕ) (files : List (List ℕ)) (before now : ℕ) (failed : List ℕ) (out : SinkCall) (e : Ending) → HasStopCause file (shelf_over before now failed) e → HasEarlyCause (file ∷ files) (shelf_over before now failed) out e
stop_causes file files before now failed out e h =
    cause_of_step (file ∷ files) file before before now failed out e (named_first file file files refl) (omega arith) h

-- a step over the second of a command's files ended the command: why
pub second_causes : (net other : List ℕ) (first before now : ℕ) (failed : List ℕ) (out : SinkCall) (e : Ending) → first ≤ before → HasStopCause other (shelf_over before now failed) e → HasEarlyCause (net ∷ other ∷ []) (shelf_over first now failed) out e
second_causes net other first before now failed out e l h =
    cause_of_step (net ∷ other ∷ []) other first before now failed out e (named_later net other (other ∷ []) (named_first other other [] refl)) l h

-- an ending is handed on
pub handed_on : {T : Type 0} (o : Outcome) (failed : List ℕ) (out : SinkCall) (e : Ending) (r : Result T Ending) → EndsEarly o failed out e → IsErrAnd r (λ x. x ≡ e) → Ends o failed out r
handed_on o failed out e (Ok v) h is = absurd is
handed_on o failed out e (Err x) h is = subst (EndsEarly o failed out) (sym is) h

-- printing stopped behind some other printing, and its ending is handed on: why
pub printing_causes : {T : Type 0} (bytes : List ℕ) (old mid new : Option (List ℕ)) (first before now : ℕ) (files : List (List ℕ)) (shelf : ShelfCall) (e : Ending) (r : Result T Ending) → first ≤ before → Prints {T = T} bytes (sink_over mid new before now) (Err e) → IsErrAnd r (λ x. x ≡ e) → HasEndingCause files shelf (sink_over old new first now) r
printing_causes bytes old mid new a b n files shelf e (Ok v) l h is = absurd is
printing_causes {T} bytes old mid new a b n files shelf e (Err x) l h is =
    subst (λ y. HasEndingCause {T = T} files shelf (sink_over old new a n) (Err y)) (sym is) (cause_behind_printing {T = T} files shelf old mid new a b n (Err e) l (cause_of_printing {T = T} bytes (sink_over mid new b n) files shelf (Err e) h))

-- what holds in any case holds where the work is done
pub if_done : {T : Type 0} (P : Type 0) (r : Result T Ending) → P → OnOk r P
if_done P (Ok v) h = h
if_done P (Err e) h = tt

-- ---- commands over two files

-- both were read, and the command went on with them
pub goes_over_two : {T : Type 0} (files : List (List ℕ × List ℕ)) (net other : List ℕ) (limit : ℕ) (work : NetData → List ℕ → Outcome) (network : NetData) (bytes : List ℕ) (failed : List ℕ) (out : SinkCall) (r : Result T Ending) → network_read files net ≡ Ok network → file_read files other limit ≡ Ok bytes → Ends (work network bytes) failed out r → Ends (over_two_files files net other limit work) failed out r
unfolding over_two_files
goes_over_two files net other limit work network bytes failed out r n b e =
    goes (λ (m : NetData). m) net (network_read files net) (λ (m : NetData). reading other (file_read files other limit) (work m)) failed out network r n (goes (λ (t : List ℕ). t) other (file_read files other limit) (work network) failed out bytes r b e)

-- the network wasn't read
pub stops_at_network : (files : List (List ℕ × List ℕ)) (net other : List ℕ) (limit : ℕ) (shelf : ShelfCall) (e : Ending) → StopsAt (network_read files net) e → HasStopCause net shelf e → EndsUnmade (over_two_files files net other limit) shelf.failed e
unfolding over_two_files
stops_at_network files net other limit shelf e h c work old count =
    stops net (network_read files net) (λ (m : NetData). reading other (file_read files other limit) (work m)) shelf old count e h c

-- the network was, and the second file wasn't
pub stops_at_other : (files : List (List ℕ × List ℕ)) (net other : List ℕ) (limit : ℕ) (network : NetData) (shelf : ShelfCall) (e : Ending) → network_read files net ≡ Ok network → StopsAt (file_read files other limit) e → HasStopCause other shelf e → EndsUnmade (over_two_files files net other limit) shelf.failed e
unfolding over_two_files
stops_at_other files net other limit network shelf e n h c work old count =
    goes {U = NetData} (λ (m : NetData). m) net (network_read files net) (λ (m : NetData). reading other (file_read files other limit) (work m)) shelf.failed (still old count) network (Err e) n (stops other (file_read files other limit) (work network) shelf old count e h c)
