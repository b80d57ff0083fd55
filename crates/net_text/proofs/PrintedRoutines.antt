-- The name of a routine is a word, and is read as the routine.
use Rattle.std.proofs.Common.{◌≡◌, ℕ, zero, suc, ◌<◌, Bool, true, List, [], ◌∷◌, length, slice_index_or, Some, Ok, refl, ap, subst, ◌∙◌, arith}
use Rattle.std.specs.List.{list_all}
use Rattle.std.proofs.lemmas.Bool.{and_parts}
use Rattle.text_words.proofs.PrintedWords.{is_printed, is_word, printed-append, printed-word, is_word-append}
use Rattle.fx_core.specs.declared.word_type.Ty.{Ty}
use Rattle.fx_routines.specs.declared.operation.Types.{Types}
use Rattle.fx_routines.specs.declared.shape.Part.{Part}
use Rattle.fx_routines.specs.declared.shape.Part.TheVariants as part
use Rattle.fx_routines.specs.declared.table.Routine.{Routine}
use Rattle.fx_routines.specs.Rows.{Row, rows, front_of, parts_of}
use Rattle.fx_routines.specs.Names.{type_word, part_word, words, takes, routine_name, IsNameOf}
use Rattle.fx_routines.specs.Reading.{named}
use Rattle.fx_routines.proofs.NameLaws.{named_gives, taken_names}
use Rattle.net_model.specs.Families.{is_built}
use Rattle.net_text.specs.RoutineWords.{routine_at}
use Rattle.net_text.proofs.PrintedKinds.{is_word-type_word}

-- ---- names are words

printed-type : (ty : Ty) → list_all is_printed (type_word ty) ≡ true
printed-type ty = printed-word (type_word ty) (is_word-type_word ty)

printed-part : (p : Part) (v : Types) → list_all is_printed (part_word p v) ≡ true
printed-part (part.First class) v = printed-type v.x
printed-part (part.Second class) v = printed-type v.y
printed-part (part.Output class) v = printed-type v.o
printed-part part.FirstAgain v = printed-type v.x
printed-part part.SecondAgain v = printed-type v.y
printed-part part.U8 v = refl
printed-part part.S8 v = refl
printed-part part.Bool v = refl
printed-part part.Underscore v = refl

printed-words : (parts : List Part) (v : Types) → list_all is_printed (words parts v) ≡ true
printed-words [] v = refl
printed-words (p ∷ parts) v = printed-append (part_word p v) (words parts v) (printed-part p v) (printed-words parts v)

fronts_are_words : list_all (λ row. is_word (front_of row)) rows ≡ true
unfolding rows
fronts_are_words = refl

holds_at : (p : Row → Bool) (xs : List Row) → list_all p xs ≡ true → (k : ℕ) (d : Row) → k < length xs → p (slice_index_or xs k d) ≡ true
holds_at p [] h k d lt = absurd (omega arith)
holds_at p (x ∷ xs) h zero d lt = (and_parts (p x) (list_all p xs) h).0
holds_at p (x ∷ xs) h (suc k) d lt = holds_at p xs (and_parts (p x) (list_all p xs) h).1 k d (omega arith)

-- a name of a row is a word
is_word-name_of : (routine : Routine) (v : Types) (word : List ℕ) → IsNameOf routine v word → is_word word ≡ true
is_word-name_of routine v word n =
    let row = n.1 in
    let front : is_word (front_of row) ≡ true = subst (λ r. is_word (front_of r) ≡ true) n.3 (holds_at (λ r. is_word (front_of r)) rows fronts_are_words n.0 row n.2) in
    ap is_word n.4.2 ∙ is_word-append (front_of row) (words (parts_of row) v) front (printed-words (parts_of row) v)

-- ---- names are read again

-- a routine's name is read as the routine, at types that it takes
named-routine_name : (routine : Routine) (v : Types) → takes routine v ≡ true → named (routine_name routine v) ≡ Some (routine, v)
named-routine_name routine v take = (taken_names routine v).0 take

-- the name is a word
pub is_word-routine_name : (routine : Routine) (v : Types) → takes routine v ≡ true → is_word (routine_name routine v) ≡ true
is_word-routine_name routine v take = is_word-name_of routine v (routine_name routine v) (named_gives (routine_name routine v) routine v (named-routine_name routine v take))

-- and is read as the routine, where that is built
pub routine_at-routine_name : (routine : Routine) (v : Types) → is_built routine ≡ true → takes routine v ≡ true → routine_at (routine_name routine v) ≡ Ok (routine, v)
unfolding routine_at
routine_at-routine_name routine v built take = rw (named-routine_name routine v take, built) refl
