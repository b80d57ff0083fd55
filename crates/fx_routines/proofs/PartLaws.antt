-- What is written part by part is read again, and what is read is what is written.
use Rattle.std.proofs.Common.{◌≡◌, ◌==◌, ℕ, inl, inr, Bool, true, false, not, ◌&&◌, List, [], ◌∷◌, ◌++◌, length, take, drop, codes, bytes_eq, Option, Some, None, refl, sym, ap, ap₂, ◌∙◌, subst, option_and_then}
use Rattle.std.specs.List.{list_all, list_any}
use Rattle.std.proofs.Math.Seq.{take-append_seam, drop-append_seam}
use Rattle.std.proofs.lemmas.List.{take-append-drop}
use Rattle.std.proofs.lemmas.Slice.Eq.{bytes_eq-Decides}
use Rattle.std.proofs.lemmas.Bool.{and_from, and_parts, cases_Bool, not-true}
use Rattle.std.proofs.lemmas.Bool.Decides.{Decides-eqb}
use Rattle.std.proofs.lemmas.Option.{cond_some, option_and_then_some, some_pair_parts, same_Some}
use denote.Enum.Bare.{same_true, true_same}
use Rattle.fx_core.specs.Types.{width_of}
use Rattle.fx_core.specs.contracts.word_type.Ty.{the_type}
use Rattle.fx_core.specs.declared.word_type.Ty.{Ty}
use Rattle.fx_core.specs.declared.word_type.Ty.TheVariants.{U8, S8, U16, S16, U32, S32}
use Rattle.fx_routines.specs.declared.operation.Types.{Types}
use Rattle.fx_routines.specs.declared.shape.Class.{Class}
use Rattle.fx_routines.specs.declared.shape.Class.TheVariants.{Any, Narrow, Unsigned, Signed, SameWidth}
use Rattle.fx_routines.specs.declared.shape.Part.{Part}
use Rattle.fx_routines.specs.declared.shape.Part.TheVariants as part
use Rattle.fx_routines.specs.Variants.{HasOneWidth, types, belongs}
use Rattle.fx_routines.specs.Names.{type_word, words, has_class, is_first, is_second, is_output, repeats, fits}
use Rattle.fx_routines.specs.Reading.{after, with_type, first_type, if_of_class, read_first, read_second, read_output, read_word, read_part, if_at_end, read_parts, no_choice}

-- ---- starts and types

pub after-append : (start rest : List ℕ) → after start (start ++ rest) ≡ Some rest
unfolding after
after-append start rest = rw (take-append_seam start rest, drop-append_seam start rest, (bytes_eq-Decides start start).1 refl) refl

pub after_gives : (start text rest : List ℕ) → after start text ≡ Some rest → text ≡ start ++ rest
unfolding after
after_gives start text rest h =
    let e = cond_some (bytes_eq (take (length start) text) start) (drop (length start) text) rest h in
    sym (take-append-drop (length start) text) ∙ ap₂ (λ a b. a ++ b) ((bytes_eq-Decides (take (length start) text) start).0 e.0) e.1

first_type-append : (t : Ty) (rest : List ℕ) → first_type (type_word t ++ rest) ≡ Some (t, rest)
unfolding first_type after
first_type-append U8 rest = refl
first_type-append S8 rest = refl
first_type-append U16 rest = refl
first_type-append S16 rest = refl
first_type-append U32 rest = refl
first_type-append S32 rest = refl

with_type_gives : (u t : Ty) (text rest : List ℕ) (o : Option (List ℕ)) (other : Option (Ty × List ℕ))
    → ((r : List ℕ) → o ≡ Some r → text ≡ type_word u ++ r) → (other ≡ Some (t, rest) → text ≡ type_word t ++ rest)
    → with_type u o other ≡ Some (t, rest) → text ≡ type_word t ++ rest
with_type_gives u t text rest None other here there h = there h
with_type_gives u t text rest (Some r) other here there h =
    let e = some_pair_parts u t r rest h in here r refl ∙ ap₂ (λ a b. type_word a ++ b) e.0 e.1

first_type_gives : (text : List ℕ) (t : Ty) (rest : List ℕ) → first_type text ≡ Some (t, rest) → text ≡ type_word t ++ rest
unfolding first_type
first_type_gives text t rest =
    with_type_gives U8 t text rest _ _ (after_gives (type_word U8) text)
    (with_type_gives S8 t text rest _ _ (after_gives (type_word S8) text)
    (with_type_gives U16 t text rest _ _ (after_gives (type_word U16) text)
    (with_type_gives S16 t text rest _ _ (after_gives (type_word S16) text)
    (with_type_gives U32 t text rest _ _ (after_gives (type_word U32) text)
    (with_type_gives S32 t text rest _ _ (after_gives (type_word S32) text) (λ h. absurd (cc)))))))

-- ---- tests

repeats_gives : (chosen : Bool) (t other : Ty) → repeats chosen t other ≡ true → chosen ≡ false → t ≡ other
repeats_gives true t other h n = absurd (cc)
repeats_gives false t other h n = same_true the_type tt t other h

repeats_holds : (chosen : Bool) (t other : Ty) → (chosen ≡ false → t ≡ other) → repeats chosen t other ≡ true
repeats_holds true t other h = refl
repeats_holds false t other h = true_same the_type t other (h refl)

-- ---- which parts can be read from the left

-- no later part changes what stands at this one, and only the very first may choose the first type
abbrev is_free : Part → List Part → Bool
is_free (part.First class) parts = false
is_free (part.Second class) parts = not (list_any is_second parts)
is_free part.SecondAgain parts = not (list_any is_second parts)
is_free (part.Output class) parts = not (list_any is_output parts)
is_free other parts = true

abbrev are_free : List Part → Bool
are_free [] = true
are_free (p ∷ parts) = is_free p parts && are_free parts

abbrev begins_well : Part → List Part → Bool
begins_well (part.First class) parts = are_free parts
begins_well other parts = are_free (other ∷ parts)

abbrev pub are_readable : List Part → Bool
are_readable [] = true
are_readable (p ∷ parts) = begins_well p parts

no_first : (parts : List Part) → are_free parts ≡ true → list_any is_first parts ≡ false
no_first [] h = refl
no_first (part.First class ∷ parts) h = absurd (cc)
no_first (part.Second class ∷ parts) h = no_first parts (and_parts _ (are_free parts) h).1
no_first (part.Output class ∷ parts) h = no_first parts (and_parts _ (are_free parts) h).1
no_first (part.FirstAgain ∷ parts) h = no_first parts h
no_first (part.SecondAgain ∷ parts) h = no_first parts (and_parts _ (are_free parts) h).1
no_first (part.U8 ∷ parts) h = no_first parts h
no_first (part.S8 ∷ parts) h = no_first parts h
no_first (part.Bool ∷ parts) h = no_first parts h
no_first (part.Underscore ∷ parts) h = no_first parts h

-- what is chosen so far is of v, but for what these parts still choose
abbrev Agrees : List Part → Types → Types → Type 0
Agrees parts s v = (s.x ≡ v.x) × (list_any is_second parts ≡ false → s.y ≡ v.y) × (list_any is_output parts ≡ false → s.o ≡ v.o)

same_types : (s v : Types) → s.x ≡ v.x → s.y ≡ v.y → s.o ≡ v.o → s ≡ v
same_types s v a b c = ap (λ x. types x s.y s.o) a ∙ ap (λ y. types v.x y s.o) b ∙ ap (λ o. types v.x v.y o) c

-- ---- what is written is read

reads_chosen : (class : Class) (make : Ty → Types) (t : Ty) (rest : List ℕ) → belongs class (make t).x t ≡ true
    → option_and_then (λ f. if_of_class class f.0 (make f.0) f.1) (first_type (type_word t ++ rest)) ≡ Some (make t, rest)
reads_chosen class make t rest h = rw (first_type-append t rest, h) refl

reads_word : (word written : List ℕ) (v : Types) (rest : List ℕ) → written ≡ word → read_word word v (written ++ rest) ≡ Some (v, rest)
unfolding read_word
reads_word word written v rest h = rw (h, after-append word rest) refl

goes : (p : Part) (parts : List Part) (s next v : Types) (text rest : List ℕ) → read_part p s text ≡ Some (next, rest) → read_parts parts next rest ≡ Some v → read_parts (p ∷ parts) s text ≡ Some v
unfolding read_parts
goes p parts s next v text rest h k = rw h k

reads_rest : (parts : List Part) (s v : Types) → are_free parts ≡ true → list_all (has_class v) parts ≡ true → Agrees parts s v → read_parts parts s (words parts v) ≡ Some v
unfolding read_parts read_part read_first read_second read_output
reads_rest [] s v free of a = ap (λ w. Some w) (same_types s v a.0 (a.1 refl) (a.2 refl))
reads_rest (part.First class ∷ parts) s v free of a = absurd (cc)
reads_rest (part.Second class ∷ parts) s v free of a =
    let c = and_parts (belongs class v.x v.y) (list_all (has_class v) parts) of in
    goes (part.Second class) parts s (types s.x v.y s.o) v _ (words parts v)
    (reads_chosen class (λ t. types s.x t s.o) v.y (words parts v) (subst (λ x. belongs class x v.y ≡ true) (sym a.0) c.0))
    (reads_rest parts (types s.x v.y s.o) v (and_parts _ (are_free parts) free).1 c.1 (a.0, (λ n. refl), a.2))
reads_rest (part.Output class ∷ parts) s v free of a =
    let c = and_parts (belongs class v.x v.o) (list_all (has_class v) parts) of in
    goes (part.Output class) parts s (types s.x s.y v.o) v _ (words parts v)
    (reads_chosen class (λ t. types s.x s.y t) v.o (words parts v) (subst (λ x. belongs class x v.o ≡ true) (sym a.0) c.0))
    (reads_rest parts (types s.x s.y v.o) v (and_parts _ (are_free parts) free).1 c.1 (a.0, a.1, (λ n. refl)))
reads_rest (part.FirstAgain ∷ parts) s v free of a =
    goes part.FirstAgain parts s s v _ (words parts v) (reads_word (type_word s.x) (type_word v.x) s (words parts v) (ap type_word (sym a.0)))
    (reads_rest parts s v free of a)
reads_rest (part.SecondAgain ∷ parts) s v free of a =
    let f = and_parts _ (are_free parts) free in
    goes part.SecondAgain parts s s v _ (words parts v) (reads_word (type_word s.y) (type_word v.y) s (words parts v) (ap type_word (sym (a.1 (not-true _ f.0)))))
    (reads_rest parts s v f.1 of a)
reads_rest (part.U8 ∷ parts) s v free of a = goes part.U8 parts s s v _ (words parts v) (reads_word (codes "u8") (codes "u8") s (words parts v) refl) (reads_rest parts s v free of a)
reads_rest (part.S8 ∷ parts) s v free of a = goes part.S8 parts s s v _ (words parts v) (reads_word (codes "s8") (codes "s8") s (words parts v) refl) (reads_rest parts s v free of a)
reads_rest (part.Bool ∷ parts) s v free of a = goes part.Bool parts s s v _ (words parts v) (reads_word (codes "bool") (codes "bool") s (words parts v) refl) (reads_rest parts s v free of a)
reads_rest (part.Underscore ∷ parts) s v free of a = goes part.Underscore parts s s v _ (words parts v) (reads_word (codes "_") (codes "_") s (words parts v) refl) (reads_rest parts s v free of a)

-- ---- what is read is written

chosen_gives : (class : Class) (make : Ty → Types) (text : List ℕ) (next : Types × List ℕ)
    → option_and_then (λ f. if_of_class class f.0 (make f.0) f.1) (first_type text) ≡ Some next
    → (t : Ty) × (text ≡ type_word t ++ next.1) × (make t ≡ next.0) × (belongs class (make t).x t ≡ true)
chosen_gives class make text next h =
    option_and_then_some (λ f. if_of_class class f.0 (make f.0) f.1) (first_type text) next h
    (λ f e g. let k = cond_some (belongs class (make f.0).x f.0) (make f.0, f.1) next g in
    (f.0, first_type_gives text f.0 f.1 e ∙ ap (λ n. type_word f.0 ++ n.1) k.1, ap (λ n. n.0) k.1, k.0))

word_gives : (word text : List ℕ) (s : Types) (next : Types × List ℕ) → read_word word s text ≡ Some next → (text ≡ word ++ next.1) × (s ≡ next.0)
unfolding read_word
word_gives word text s next h =
    option_and_then_some (λ rest. Some (s, rest)) (after word text) next h
    (λ rest e g. let k = same_Some (s, rest) next g in (after_gives word text rest e ∙ ap (λ n. word ++ n.1) k, ap (λ n. n.0) k))

abbrev Gives : List Part → Types → Types → List ℕ → Type 0
Gives parts s v text = Agrees parts s v × (text ≡ words parts v) × (list_all (has_class v) parts ≡ true)

end_gives : (text : List ℕ) (s v : Types) → if_at_end s text ≡ Some v → Gives [] s v text
end_gives [] s v h = let e = same_Some s v h in ((ap (λ w. w.x) e, (λ n. ap (λ w. w.y) e), (λ n. ap (λ w. w.o) e)), refl, refl)
end_gives (byte ∷ bytes) s v h = absurd (cc)

parted : {P : Type 0} (p : Part) (parts : List Part) (s v : Types) (text : List ℕ) → read_parts (p ∷ parts) s text ≡ Some v
    → ((next : Types × List ℕ) → read_part p s text ≡ Some next → read_parts parts next.0 next.1 ≡ Some v → P) → P
unfolding read_parts
parted p parts s v text h then = option_and_then_some (λ next. read_parts parts next.0 next.1) (read_part p s text) v h then

word_read : (word : List ℕ) (parts : List Part) (s v : Types) (text : List ℕ) (next : Types × List ℕ)
    → read_word word s text ≡ Some next → Gives parts next.0 v next.1 → Agrees parts s v × (text ≡ word ++ words parts v) × (list_all (has_class v) parts ≡ true)
word_read word parts s v text next e r =
    let k = word_gives word text s next e in
    (subst (λ w. Agrees parts w v) (sym k.1) r.0, k.0 ∙ ap (λ t. word ++ t) r.1, r.2)

rest_gives : (parts : List Part) (s v : Types) (text : List ℕ) → are_free parts ≡ true → read_parts parts s text ≡ Some v → Gives parts s v text
unfolding read_parts read_part read_first read_second read_output
rest_gives [] s v text free h = end_gives text s v h
rest_gives (part.First class ∷ parts) s v text free h = absurd (cc)
rest_gives (part.Second class ∷ parts) s v text free h =
    let f = and_parts (not (list_any is_second parts)) (are_free parts) free in
    parted (part.Second class) parts s v text h (λ next e k.
    let r = rest_gives parts next.0 v next.1 f.1 k in
    let g = chosen_gives class (λ t. types s.x t s.o) text next e in
    let t = ap (λ w. w.y) g.2 ∙ r.0.1 (not-true _ f.0) in
    let x = ap (λ w. w.x) g.2 ∙ r.0.0 in (
      (x, (λ n. absurd (cc)), (λ n. ap (λ w. w.o) g.2 ∙ r.0.2 n)),
      g.1 ∙ ap₂ (λ a b. type_word a ++ b) t r.1,
      and_from _ _ (sym (ap₂ (λ a b. belongs class a b) x t) ∙ g.3) r.2,
    ))
rest_gives (part.Output class ∷ parts) s v text free h =
    let f = and_parts (not (list_any is_output parts)) (are_free parts) free in
    parted (part.Output class) parts s v text h (λ next e k.
    let r = rest_gives parts next.0 v next.1 f.1 k in
    let g = chosen_gives class (λ t. types s.x s.y t) text next e in
    let t = ap (λ w. w.o) g.2 ∙ r.0.2 (not-true _ f.0) in
    let x = ap (λ w. w.x) g.2 ∙ r.0.0 in (
      (x, (λ n. ap (λ w. w.y) g.2 ∙ r.0.1 n), (λ n. absurd (cc))),
      g.1 ∙ ap₂ (λ a b. type_word a ++ b) t r.1,
      and_from _ _ (sym (ap₂ (λ a b. belongs class a b) x t) ∙ g.3) r.2,
    ))
rest_gives (part.FirstAgain ∷ parts) s v text free h =
    parted part.FirstAgain parts s v text h (λ next e k.
    let r = word_read (type_word s.x) parts s v text next e (rest_gives parts next.0 v next.1 free k) in
    (r.0, r.1 ∙ ap (λ t. type_word t ++ words parts v) r.0.0, r.2))
rest_gives (part.SecondAgain ∷ parts) s v text free h =
    let f = and_parts (not (list_any is_second parts)) (are_free parts) free in
    parted part.SecondAgain parts s v text h (λ next e k.
    let r = word_read (type_word s.y) parts s v text next e (rest_gives parts next.0 v next.1 f.1 k) in
    (r.0, r.1 ∙ ap (λ t. type_word t ++ words parts v) (r.0.1 (not-true _ f.0)), r.2))
rest_gives (part.U8 ∷ parts) s v text free h =
    parted part.U8 parts s v text h (λ next e k. word_read (codes "u8") parts s v text next e (rest_gives parts next.0 v next.1 free k))
rest_gives (part.S8 ∷ parts) s v text free h =
    parted part.S8 parts s v text h (λ next e k. word_read (codes "s8") parts s v text next e (rest_gives parts next.0 v next.1 free k))
rest_gives (part.Bool ∷ parts) s v text free h =
    parted part.Bool parts s v text h (λ next e k. word_read (codes "bool") parts s v text next e (rest_gives parts next.0 v next.1 free k))
rest_gives (part.Underscore ∷ parts) s v text free h =
    parted part.Underscore parts s v text h (λ next e k. word_read (codes "_") parts s v text next e (rest_gives parts next.0 v next.1 free k))

-- ---- all parts

-- what fits a list of parts, taken apart
fits_parts : (parts : List Part) (v : Types) → fits parts v ≡ true
    → (list_all (has_class v) parts ≡ true) × (list_any is_first parts ≡ false → v.x ≡ U8) × (list_any is_second parts ≡ false → v.y ≡ v.x) × (list_any is_output parts ≡ false → v.o ≡ v.x)
fits_parts parts v h =
    let a = and_parts _ (repeats (list_any is_output parts) v.o v.x) h in
    let b = and_parts _ (repeats (list_any is_second parts) v.y v.x) a.0 in
    let c = and_parts (list_all (has_class v) parts) (repeats (list_any is_first parts) v.x U8) b.0 in
    (c.0, repeats_gives _ v.x U8 c.1, repeats_gives _ v.y v.x b.1, repeats_gives _ v.o v.x a.1)

fits_from : (parts : List Part) (v : Types) → list_all (has_class v) parts ≡ true → (list_any is_first parts ≡ false → v.x ≡ U8)
    → (list_any is_second parts ≡ false → v.y ≡ v.x) → (list_any is_output parts ≡ false → v.o ≡ v.x) → fits parts v ≡ true
fits_from parts v a b c d = and_from _ _ (and_from _ _ (and_from _ _ a (repeats_holds _ v.x U8 b)) (repeats_holds _ v.y v.x c)) (repeats_holds _ v.o v.x d)

-- ---- inputs of one width

-- a second type that the part chooses has the first one's width
abbrev keeps_width : Part → Bool
keeps_width (part.Second SameWidth) = true
keeps_width (part.Second class) = false
keeps_width other = true

abbrev pub keep_width : List Part → Bool
keep_width = list_all keeps_width

second_width : (parts : List Part) (v : Types) → keep_width parts ≡ true → list_all (has_class v) parts ≡ true → list_any is_second parts ≡ true → (width_of v.y == width_of v.x) ≡ true
second_width [] v keeps of some = absurd (cc)
second_width (part.Second SameWidth ∷ parts) v keeps of some = (and_parts (width_of v.y == width_of v.x) (list_all (has_class v) parts) of).0
second_width (part.Second Any ∷ parts) v keeps of some = absurd (cc)
second_width (part.Second Narrow ∷ parts) v keeps of some = absurd (cc)
second_width (part.Second Unsigned ∷ parts) v keeps of some = absurd (cc)
second_width (part.Second Signed ∷ parts) v keeps of some = absurd (cc)
second_width (part.First class ∷ parts) v keeps of some = second_width parts v keeps (and_parts (belongs class v.x v.x) (list_all (has_class v) parts) of).1 some
second_width (part.Output class ∷ parts) v keeps of some = second_width parts v keeps (and_parts (belongs class v.x v.o) (list_all (has_class v) parts) of).1 some
second_width (part.FirstAgain ∷ parts) v keeps of some = second_width parts v keeps of some
second_width (part.SecondAgain ∷ parts) v keeps of some = second_width parts v keeps of some
second_width (part.U8 ∷ parts) v keeps of some = second_width parts v keeps of some
second_width (part.S8 ∷ parts) v keeps of some = second_width parts v keeps of some
second_width (part.Bool ∷ parts) v keeps of some = second_width parts v keeps of some
second_width (part.Underscore ∷ parts) v keeps of some = second_width parts v keeps of some

-- types that fit such parts
pub one_width : (parts : List Part) (v : Types) → keep_width parts ≡ true → fits parts v ≡ true → HasOneWidth v
one_width parts v keeps h =
    let f = fits_parts parts v h in
    elim (cases_Bool (list_any is_second parts)) [
      | inl some ↦ sym ((Decides-eqb (width_of v.y) (width_of v.x)).0 (second_width parts v keeps f.0 some))
      | inr none ↦ ap width_of (sym (f.2 none))
    ]

-- ---- what is read and what is written

-- the same where no part chooses the first type
reads_plain : (parts : List Part) (v : Types) → are_free parts ≡ true → fits parts v ≡ true → read_parts parts no_choice (words parts v) ≡ Some v
reads_plain parts v free h =
    let f = fits_parts parts v h in
    let x = sym (f.1 (no_first parts free)) in
    reads_rest parts no_choice v free f.0 (x, (λ n. x ∙ sym (f.2 n)), (λ n. x ∙ sym (f.3 n)))

gives_plain : (parts : List Part) (text : List ℕ) (v : Types) → are_free parts ≡ true → read_parts parts no_choice text ≡ Some v → (text ≡ words parts v) × (fits parts v ≡ true)
gives_plain parts text v free h =
    let r = rest_gives parts no_choice v text free h in
    (r.1, fits_from parts v r.2 (λ n. sym r.0.0) (λ n. sym (r.0.1 n) ∙ r.0.0) (λ n. sym (r.0.2 n) ∙ r.0.0))

reads_from_first : (class : Class) (parts : List Part) (v : Types) → are_free parts ≡ true → fits (part.First class ∷ parts) v ≡ true
    → read_parts (part.First class ∷ parts) no_choice (words (part.First class ∷ parts) v) ≡ Some v
unfolding read_part read_first
reads_from_first class parts v free h =
    let f = fits_parts (part.First class ∷ parts) v h in
    let c = and_parts (belongs class v.x v.x) (list_all (has_class v) parts) f.0 in
    goes (part.First class) parts no_choice (types v.x v.x v.x) v _ (words parts v) (reads_chosen class (λ t. types t t t) v.x (words parts v) c.0)
    (reads_rest parts (types v.x v.x v.x) v free c.1 (refl, (λ n. sym (f.2 n)), (λ n. sym (f.3 n))))

gives_from_first : (class : Class) (parts : List Part) (text : List ℕ) (v : Types) → are_free parts ≡ true → read_parts (part.First class ∷ parts) no_choice text ≡ Some v
    → (text ≡ words (part.First class ∷ parts) v) × (fits (part.First class ∷ parts) v ≡ true)
unfolding read_part read_first
gives_from_first class parts text v free h =
    parted (part.First class) parts no_choice v text h (λ next e k.
    let r = rest_gives parts next.0 v next.1 free k in
    let g = chosen_gives class (λ t. types t t t) text next e in
    let x = ap (λ w. w.x) g.2 ∙ r.0.0 in (
      g.1 ∙ ap₂ (λ a b. type_word a ++ b) x r.1,
      fits_from (part.First class ∷ parts) v (and_from _ _ (sym (ap (λ a. belongs class a a) x) ∙ g.3) r.2)
          (λ n. absurd (cc))
          (λ n. sym (ap (λ w. w.y) g.2 ∙ r.0.1 n) ∙ x)
          (λ n. sym (ap (λ w. w.o) g.2 ∙ r.0.2 n) ∙ x),
    ))

-- what is written for types that fit is read as these
pub reads_words : (parts : List Part) (v : Types) → are_readable parts ≡ true → fits parts v ≡ true → read_parts parts no_choice (words parts v) ≡ Some v
reads_words [] v free h = reads_plain [] v refl h
reads_words (part.First class ∷ parts) v free h = reads_from_first class parts v free h
reads_words (part.Second class ∷ parts) v free h = reads_plain (part.Second class ∷ parts) v free h
reads_words (part.Output class ∷ parts) v free h = reads_plain (part.Output class ∷ parts) v free h
reads_words (part.FirstAgain ∷ parts) v free h = reads_plain (part.FirstAgain ∷ parts) v free h
reads_words (part.SecondAgain ∷ parts) v free h = reads_plain (part.SecondAgain ∷ parts) v free h
reads_words (part.U8 ∷ parts) v free h = reads_plain (part.U8 ∷ parts) v free h
reads_words (part.S8 ∷ parts) v free h = reads_plain (part.S8 ∷ parts) v free h
reads_words (part.Bool ∷ parts) v free h = reads_plain (part.Bool ∷ parts) v free h
reads_words (part.Underscore ∷ parts) v free h = reads_plain (part.Underscore ∷ parts) v free h

-- what is read was written so, and the types fit
pub parts_give : (parts : List Part) (text : List ℕ) (v : Types) → are_readable parts ≡ true → read_parts parts no_choice text ≡ Some v → (text ≡ words parts v) × (fits parts v ≡ true)
parts_give [] text v free h = gives_plain [] text v refl h
parts_give (part.First class ∷ parts) text v free h = gives_from_first class parts text v free h
parts_give (part.Second class ∷ parts) text v free h = gives_plain (part.Second class ∷ parts) text v free h
parts_give (part.Output class ∷ parts) text v free h = gives_plain (part.Output class ∷ parts) text v free h
parts_give (part.FirstAgain ∷ parts) text v free h = gives_plain (part.FirstAgain ∷ parts) text v free h
parts_give (part.SecondAgain ∷ parts) text v free h = gives_plain (part.SecondAgain ∷ parts) text v free h
parts_give (part.U8 ∷ parts) text v free h = gives_plain (part.U8 ∷ parts) text v free h
parts_give (part.S8 ∷ parts) text v free h = gives_plain (part.S8 ∷ parts) text v free h
parts_give (part.Bool ∷ parts) text v free h = gives_plain (part.Bool ∷ parts) text v free h
parts_give (part.Underscore ∷ parts) text v free h = gives_plain (part.Underscore ∷ parts) text v free h
