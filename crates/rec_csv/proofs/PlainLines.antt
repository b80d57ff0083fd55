-- A plain line reads as its pieces between commas.
use Rattle.std.proofs.Common.{◌≡◌, ℕ, suc, ◌+◌, ◌≤◌, Bool, true, false, not, ◌||◌, ◌==◌, cond, List, [], ◌∷◌, ◌++◌, length, take, drop, get_or, ◌-◌, ◌<◌, arith, nat_le, refl, sym, subst, ap, ◌∙◌, append_assoc, append-nil, inl, inr, Option, Some}
use Rattle.std.specs.List.{list_all, onto_first, prefix_len}
use Rattle.std.proofs.lemmas.Bool.{and_parts, eqb-true, not-true}
use Rattle.std.proofs.lemmas.Bool.Decides.{eqb_tells}
use Rattle.std.proofs.lemmas.List.{take_rest}
use Rattle.csv.specs.Machine.{Read, next_record, step, ends_at_end}
use Rattle.csv.specs.Reading.{default_config, strip_bom}
use Rattle.csv.specs.declared.parser.State.{State}
use Rattle.csv.specs.declared.parser.State.TheVariants as st
use Rattle.csv.specs.declared.parser.Action.{Action}
use Rattle.csv.specs.declared.parser.Action.TheVariants as act
use Rattle.text_words.specs.Lines.{pieces}
use Rattle.text_words.proofs.Cuts.{front_of_pieces}
use Rattle.rec_csv.specs.Fields.{begins_plain, fields_of_line, goes_on, is_comma, is_plain, is_plain_byte, only_record}

-- a byte that is none of three
none_of_three : (a b c : Bool) → not (a || b || c) ≡ true → (a ≡ false) × (b ≡ false) × (c ≡ false)
none_of_three true b c is = cc
none_of_three false true c is = cc
none_of_three false false true is = cc
none_of_three false false false is = (refl, refl, refl)

-- what the machine does at a plain byte
abbrev at_plain : ℕ → State × Action
at_plain byte = cond (is_comma byte) (st.StartField, act.EndField) (st.InField, act.Copy)

-- it does so at the start of a record
step_record : (byte : ℕ) → is_plain_byte byte ≡ true → step default_config st.StartRecord byte ≡ at_plain byte
step_record byte plain =
    let p = none_of_three (byte == 34) (byte == 13) (byte == 10) plain in rw (p.1, p.2, p.0) refl

-- a state inside a record in which it does so
record Inside (state : State) : Type 0 where
  ends : ends_at_end state ≡ true
  steps : (byte : ℕ) → is_plain_byte byte ≡ true → step default_config state byte ≡ at_plain byte

-- at the start of a field
at_start : Inside st.StartField
at_start = record {
  ends = refl;
  steps = λ byte plain. (let p = none_of_three (byte == 34) (byte == 13) (byte == 10) plain in rw (p.1, p.2, p.0) refl);
}

-- in a field
in_field : Inside st.InField
in_field = record {
  ends = refl;
  steps = λ byte plain. (let p = none_of_three (byte == 34) (byte == 13) (byte == 10) plain in rw (p.1, p.2) refl);
}

-- pieces, the first of which goes on from bytes that were read
abbrev joined : List ℕ → List (List ℕ) → List (List ℕ)
joined field [] = field ∷ []
joined field (piece ∷ more) = (field ++ piece) ∷ more

-- one more byte
joined_more : (field : List ℕ) (byte : ℕ) (all : List (List ℕ)) → joined (field ++ byte ∷ []) all ≡ joined field (onto_first byte all)
joined_more field byte [] = refl
joined_more field byte (piece ∷ more) = ap (λ l. l ∷ more) (append_assoc field (byte ∷ []) piece)

-- where none were read, they are the pieces
joined_first : (byte : ℕ) (all : List (List ℕ)) → joined [] (onto_first byte all) ≡ onto_first byte all
joined_first byte [] = refl
joined_first byte (piece ∷ more) = refl

joined_none : (bytes : List ℕ) → joined [] (pieces is_comma bytes) ≡ pieces is_comma bytes
joined_none [] = refl
joined_none (byte ∷ bytes) =
    elim (is_comma byte) as (λ b. joined [] (cond b ([] ∷ pieces is_comma bytes) (onto_first byte (pieces is_comma bytes))) ≡ cond b ([] ∷ pieces is_comma bytes) (onto_first byte (pieces is_comma bytes))) [
      | true ↦ refl
      | false ↦ joined_first byte (pieces is_comma bytes)
    ]

-- what is read of plain bytes that end a record
abbrev whole : List (List ℕ) → List ℕ → List (List ℕ) → Option Read
whole fields field all = Some (fields ++ joined field all, st.StartRecord, [])

-- behind a comma
behind_comma : (fields : List (List ℕ)) (field bytes : List ℕ) → whole (fields ++ field ∷ []) [] (pieces is_comma bytes) ≡ whole fields field ([] ∷ pieces is_comma bytes)
behind_comma fields field bytes =
    ap (λ l. Some (l, st.StartRecord, [])) (ap (λ l. (fields ++ field ∷ []) ++ l) (joined_none bytes) ∙ append_assoc fields (field ∷ []) (pieces is_comma bytes) ∙ ap (λ l. fields ++ (l ∷ pieces is_comma bytes)) (sym (append-nil field)))

-- one step at a plain byte
reads_byte : (state : State) (fields : List (List ℕ)) (field : List ℕ) (byte : ℕ) (bytes : List ℕ) (comma : Bool) → is_comma byte ≡ comma → step default_config state byte ≡ at_plain byte
    → next_record default_config st.StartField (fields ++ field ∷ []) [] bytes ≡ whole (fields ++ field ∷ []) [] (pieces is_comma bytes)
    → next_record default_config st.InField fields (field ++ byte ∷ []) bytes ≡ whole fields (field ++ byte ∷ []) (pieces is_comma bytes)
    → next_record default_config state fields field (byte ∷ bytes) ≡ whole fields field (pieces is_comma (byte ∷ bytes))
unfolding next_record
reads_byte state fields field byte bytes true comma steps ended copied =
    rw (steps, comma) (ended ∙ behind_comma fields field bytes)
reads_byte state fields field byte bytes false comma steps ended copied =
    rw (steps, comma) (copied ∙ ap (λ l. Some (fields ++ l, st.StartRecord, [])) (joined_more field byte (pieces is_comma bytes)))

-- plain bytes to the end of a record
reads_plain : (state : State) (fields : List (List ℕ)) (field bytes : List ℕ) → Inside state → list_all is_plain_byte bytes ≡ true → next_record default_config state fields field bytes ≡ whole fields field (pieces is_comma bytes)
unfolding next_record
reads_plain state fields field [] inside plain = rw (inside.ends, append-nil field) refl
reads_plain state fields field (byte ∷ bytes) inside plain =
    let p = and_parts (is_plain_byte byte) (list_all is_plain_byte bytes) plain in
    reads_byte state fields field byte bytes (is_comma byte) refl (inside.steps byte p.0) (reads_plain st.StartField (fields ++ field ∷ []) [] bytes at_start p.1) (reads_plain st.InField fields (field ++ byte ∷ []) bytes in_field p.1)

-- a text that doesn't begin as a byte-order mark does has none
no_mark : (byte : ℕ) (bytes : List ℕ) → (byte == 239) ≡ false → strip_bom (byte ∷ bytes) ≡ byte ∷ bytes
unfolding strip_bom
no_mark byte [] is = refl
no_mark byte (second ∷ []) is = refl
no_mark byte (second ∷ third ∷ bytes) is = rw is refl

-- the same of a whole record
reads_record : (byte : ℕ) (bytes : List ℕ) → list_all is_plain_byte (byte ∷ bytes) ≡ true → next_record default_config st.StartRecord [] [] (byte ∷ bytes) ≡ Some (pieces is_comma (byte ∷ bytes), st.StartRecord, [])
reads_record byte bytes plain =
    let p = and_parts (is_plain_byte byte) (list_all is_plain_byte bytes) plain in
    reads_byte st.StartRecord [] [] byte bytes (is_comma byte) refl (step_record byte p.0) (reads_plain st.StartField ([] ∷ []) [] bytes at_start p.1) (reads_plain st.InField [] (byte ∷ []) bytes in_field p.1)
    ∙ ap (λ l. Some (l, st.StartRecord, [])) (joined_none (byte ∷ bytes))

-- no record comes behind it
no_more : (fields : List (List ℕ)) → only_record (Some (fields, st.StartRecord, [])) ≡ Some fields
unfolding next_record
no_more fields = refl

-- a plain line has the pieces between its commas for fields
pub fields_of_plain : (line : List ℕ) → is_plain line ≡ true → fields_of_line line ≡ Some (pieces is_comma line)
unfolding begins_plain fields_of_line
fields_of_plain [] plain = cc
fields_of_plain (byte ∷ bytes) plain =
    let p = and_parts (begins_plain (byte ∷ bytes)) (list_all is_plain_byte (byte ∷ bytes)) plain in
    let q = and_parts (not (byte == 239)) (nat_le (length (byte ∷ bytes)) 65536) p.0 in
    rw (q.1, no_mark byte bytes (not-true _ q.0), reads_record byte bytes p.1) (no_more (pieces is_comma (byte ∷ bytes)))

-- ---- the first field

-- what follows an empty first piece
others_none : (rest : List ℕ) (others : List (List ℕ)) → length rest ≡ 0 → pieces is_comma rest ≡ [] ∷ others → others ≡ []
others_none [] others none is = cc
others_none (byte ∷ bytes) others none is = absurd (omega (arith, none))

others_by : (byte : ℕ) (here : Bool) (all others : List (List ℕ)) → cond here ([] ∷ all) (onto_first byte all) ≡ [] ∷ others → others ≡ all
others_by byte true all others is = cc
others_by byte false [] others is = cc
others_by byte false (piece ∷ more) others is = cc

others_more : (rest : List ℕ) (others : List (List ℕ)) → 0 < length rest → pieces is_comma rest ≡ [] ∷ others → others ≡ pieces is_comma (drop 1 rest)
others_more [] others some is = absurd (omega (arith, some))
others_more (byte ∷ bytes) others some is = others_by byte (is_comma byte) (pieces is_comma bytes) others is

-- the only field
cut_last : (bytes : List ℕ) (n : ℕ) → n ≡ prefix_len (λ byte. not (is_comma byte)) bytes → length (drop n bytes) ≡ 0 → pieces is_comma bytes ≡ take n bytes ∷ []
cut_last bytes n is none =
    let front = front_of_pieces is_comma bytes in
    let rest : pieces is_comma (drop n bytes) ≡ [] ∷ front.0 = rw is front.2 in
    rw is (front.1 ∙ ap (λ l. take (prefix_len (λ byte. not (is_comma byte)) bytes) bytes ∷ l) (others_none (drop n bytes) front.0 none rest))

-- a field and a comma
cut_more : (bytes : List ℕ) (n : ℕ) → n ≡ prefix_len (λ byte. not (is_comma byte)) bytes → 1 ≤ length (drop n bytes) → pieces is_comma bytes ≡ take n bytes ∷ pieces is_comma (drop 1 (drop n bytes))
cut_more bytes n is some =
    let front = front_of_pieces is_comma bytes in
    let rest : pieces is_comma (drop n bytes) ≡ [] ∷ front.0 = rw is front.2 in
    let same = others_more (drop n bytes) front.0 (omega (arith, some)) rest in
    front.1 ∙ ap (λ k. take k bytes ∷ front.0) (sym is) ∙ ap (λ l. take n bytes ∷ l) same

-- ---- where a walk stops

-- what stands where the bytes that go on end: nothing, a comma, or a byte that isn't plain
abbrev AtStop : List ℕ → List ℕ → Type 0
AtStop bytes [] = (prefix_len (λ byte. not (is_comma byte)) bytes ≡ prefix_len goes_on bytes) × (list_all is_plain_byte bytes ≡ true)
AtStop bytes (byte ∷ behind) =
    (is_comma byte ≡ true → (prefix_len (λ byte. not (is_comma byte)) bytes ≡ prefix_len goes_on bytes) × (list_all is_plain_byte bytes ≡ list_all is_plain_byte behind))
    × (is_comma byte ≡ false → list_all is_plain_byte bytes ≡ false)

-- one byte more in front
stops_later : (byte : ℕ) (bytes rest : List ℕ) → is_comma byte ≡ false → is_plain_byte byte ≡ true → AtStop bytes rest → AtStop (byte ∷ bytes) rest
stops_later byte bytes [] comma plain stop = (rw (comma, plain) (ap (λ n. 1 + n) stop.0), rw plain stop.1)
stops_later byte bytes (next ∷ behind) comma plain stop = (
  (λ is. (rw (comma, plain) (ap (λ n. 1 + n) (stop.0 is).0), rw plain (stop.0 is).1)),
  (λ no. rw plain (stop.1 no)),
)

plain_comma : (byte : ℕ) → is_comma byte ≡ true → is_plain_byte byte ≡ true
plain_comma byte is = rw (eqb-true byte 44 is) refl

stops_by : (byte : ℕ) (bytes : List ℕ) (comma plain : Bool) → is_comma byte ≡ comma → is_plain_byte byte ≡ plain → AtStop bytes (drop (prefix_len goes_on bytes) bytes) → AtStop (byte ∷ bytes) (drop (prefix_len goes_on (byte ∷ bytes)) (byte ∷ bytes))
stops_by byte bytes true plain is p stop =
    rw is ((λ c. (rw is refl, rw (plain_comma byte is) refl)), (λ no. cc))
stops_by byte bytes false true is p stop =
    let next : 1 + prefix_len goes_on bytes ≡ suc (prefix_len goes_on bytes) = omega arith in
    rw (is, p, next) (stops_later byte bytes (drop (prefix_len goes_on bytes) bytes) is p stop)
stops_by byte bytes false false is p stop =
    rw (is, p) ((λ c. cc), (λ no. rw p refl))

stops : (bytes : List ℕ) → AtStop bytes (drop (prefix_len goes_on bytes) bytes)
stops [] = (refl, refl)
stops (byte ∷ bytes) = stops_by byte bytes (is_comma byte) (is_plain_byte byte) refl refl (stops bytes)

-- what a walk finds there
stop_at : (bytes rest : List ℕ) (n : ℕ) → n ≡ prefix_len goes_on bytes → rest ≡ drop n bytes → AtStop bytes rest
stop_at bytes rest n is behind = subst (AtStop bytes) (sym (behind ∙ ap (λ k. drop k bytes) is)) (stops bytes)

-- ---- one field of a walk

no_bytes : (bytes : List ℕ) → length bytes ≡ 0 → [] ≡ bytes
no_bytes [] none = refl
no_bytes (byte ∷ bytes) none = absurd (omega (arith, none))

no_comma : (byte : ℕ) → (byte ≡ 44 → ⊥) → is_comma byte ≡ false
no_comma byte other = elim (eqb_tells byte 44) [ inl same ↦ absurd (other same.1) | inr apart ↦ apart.0 ]

-- nothing is behind it
pub field_last : (bytes : List ℕ) (n : ℕ) → n ≡ prefix_len goes_on bytes → length (drop n bytes) ≡ 0 → (pieces is_comma bytes ≡ take n bytes ∷ []) × (list_all is_plain_byte bytes ≡ true)
field_last bytes n is none =
    let stop = stop_at bytes [] n is (no_bytes (drop n bytes) none) in
    (cut_last bytes n (is ∙ sym stop.0) none, stop.1)

-- a comma is
pub comma_behind : (bytes front rest : List ℕ) (n : ℕ) → n ≡ prefix_len goes_on bytes → front ≡ take n bytes → rest ≡ drop n bytes → 1 ≤ length rest → get_or rest 0 0 ≡ 44
    → (pieces is_comma bytes ≡ front ∷ pieces is_comma (take (length rest - 1) (drop 1 rest))) × (list_all is_plain_byte bytes ≡ list_all is_plain_byte (take (length rest - 1) (drop 1 rest)))
comma_behind bytes front [] n is before behind some first = absurd (omega (arith, some))
comma_behind bytes front (byte ∷ rest) n is before behind some first =
    let found = (stop_at bytes (byte ∷ rest) n is behind).0 (rw first refl) in
    let cut = cut_more bytes n (is ∙ sym found.0) (rw (sym behind) some) in
    rw (take_rest (byte ∷ rest) 1, before) (rw (sym behind) at cut, found.1)

-- or a byte that isn't plain
pub other_behind : (bytes rest : List ℕ) (n : ℕ) → n ≡ prefix_len goes_on bytes → rest ≡ drop n bytes → 1 ≤ length rest → (get_or rest 0 0 ≡ 44 → ⊥) → list_all is_plain_byte bytes ≡ false
other_behind bytes [] n is behind some other = absurd (omega (arith, some))
other_behind bytes (byte ∷ rest) n is behind some other =
    (stop_at bytes (byte ∷ rest) n is behind).1 (no_comma byte other)
