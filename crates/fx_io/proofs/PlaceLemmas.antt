-- The first file of a name, by its index and by its bytes.
use Rattle.std.proofs.Common.{◌≡◌, ℕ, ◌+◌, ◌≤◌, Bool, true, false, cond, not, ◌||◌, nat_lt, List, [], ◌∷◌, length, sym, refl, ◌∙◌, ap, arith, one-add, ltb-false}
use Rattle.std.specs.Prelude.{Some, None, is_some}
use Rattle.std.specs.List.{position, position_or_len}
use Rattle.std.specs.Str.{bytes_eq}
use Rattle.std.proofs.lemmas.Bool.Decides.{nat_tests}
use Rattle.std.proofs.lemmas.List.{get_or_past}
use Rattle.fx_io.specs.Outside.{bytes_of, has_file}
use Rattle.fx_io.specs.Places.{bytes_at}

-- a file has this name
abbrev pub has_name : List ℕ → List ℕ × List ℕ → Bool
has_name name file = bytes_eq file.0 name

-- past the last file there are no bytes, and none are named
pub bytes_at-position_or_len : (files : List (List ℕ × List ℕ)) (name : List ℕ) → bytes_at files (position_or_len (has_name name) files) ≡ bytes_of files name
bytes_at-position_or_len [] name = refl
bytes_at-position_or_len (file ∷ files) name =
    elim (bytes_eq file.0 name) as (λ b. bytes_at (file ∷ files) (cond (not b) (1 + position_or_len (has_name name) files) 0) ≡ cond b file.1 (bytes_of files name))
    [ true ↦ refl | false ↦ rw one-add (bytes_at-position_or_len files name) ]

-- the index that was found has the named bytes
pub bytes_at-found : (files : List (List ℕ × List ℕ)) (name : List ℕ) (k : ℕ) → position (has_name name) files ≡ Some k → bytes_at files k ≡ bytes_of files name
bytes_at-found files name k found =
    let at_test : (b : Bool) (i : ℕ) → cond b (Some i) None ≡ Some k → i ≡ k = elim [ true ↦ λ i e. (cc) | false ↦ λ i e. (cc) ] in
    rw (← at_test _ _ found) (bytes_at-position_or_len files name)

-- where none was found, no bytes are named
pub bytes_of-missing : (files : List (List ℕ × List ℕ)) (name : List ℕ) → position (has_name name) files ≡ None → [] ≡ bytes_of files name
bytes_of-missing files name missing =
    let at_test : (b : Bool) (i : ℕ) → cond b (Some i) None ≡ None → b ≡ false = elim [ true ↦ λ i e. (cc) | false ↦ λ i e. refl ] in
    let past : length files ≤ position_or_len (has_name name) files = omega (arith, ltb-false _ _ (at_test _ _ missing)) in
    ap (λ f. f.1) (sym (get_or_past files _ ([], []) past)) ∙ bytes_at-position_or_len files name

-- an index is found where a file has the name
pub is_some-position : (files : List (List ℕ × List ℕ)) (name : List ℕ) → is_some (position (has_name name) files) ≡ has_file files name
is_some-position files name =
    let at_test : (b : Bool) (i : ℕ) → is_some (cond b (Some i) None) ≡ b = elim [ true ↦ λ i. refl | false ↦ λ i. refl ] in
    at_test _ _ ∙ within files
  where
    within : (files : List (List ℕ × List ℕ)) → nat_lt (position_or_len (has_name name) files) (length files) ≡ has_file files name
    within [] = refl
    within (file ∷ files) =
        elim (bytes_eq file.0 name) as (λ b. nat_lt (cond (not b) (1 + position_or_len (has_name name) files) 0) (length (file ∷ files)) ≡ (b || has_file files name))
        [ true ↦ grind (arith, nat_tests) | false ↦ let rest = within files in grind (arith, nat_tests) ]
