-- How a shelf stands while a file is read.
use Rattle.std.proofs.Common.{◌≡◌, ℕ, ◌≤◌, List, ◌++◌, Ok, sym, ap, ◌∙◌, append_assoc, arith}
use Rattle.std.specs.Prelude.{Some, None, ⊤}
use Rattle.std.specs.declared.option.Option.{Option}
use Rattle.std.specs.Io.KnownBytes.{Consumes, IsAtEnd}
use Rattle.fx_io.specs.Causes.{HasCause}
use Rattle.fx_io.specs.Outside.{bytes_of}
use Rattle.fx_io.specs.Whole.{IsReadOut}

-- the named file is these bytes and then what is left, where the files are told
abbrev pub IsRead : Option (List (List ℕ × List ℕ)) → List ℕ → List ℕ → Option (List ℕ) → Type 0
IsRead None name bytes left = ⊤
IsRead (Some files) name bytes left = Consumes (Some (bytes_of files name)) left bytes

-- no fault was answered yet, on the file of this name
pub record IsUnfailed (faults faults' : ℕ) (failed failed' named name : List ℕ) : Type 0 where
  pub counted : faults ≤ faults'
  pub kept : failed' ≡ failed
  pub started : named ≡ name

-- one read more
pub read_more : (files : Option (List (List ℕ × List ℕ))) (name xs ys piece : List ℕ) (left left' : Option (List ℕ)) → IsRead files name xs left → ys ≡ xs ++ piece → Consumes left left' piece → IsRead files name ys left'
read_more None name xs ys piece left left' h e c = tt
read_more (Some files) name xs ys piece None left' h e c = absurd h
read_more (Some files) name xs ys piece (Some l) None h e c = absurd c
read_more (Some files) name xs ys piece (Some l) (Some l') h e c = h ∙ ap (λ t. xs ++ t) c ∙ sym (append_assoc xs piece l') ∙ ap (λ t. t ++ l') (sym e)

-- one read more, at the end of the file
pub read_to_end : (files : Option (List (List ℕ × List ℕ))) (name xs piece : List ℕ) (left left' : Option (List ℕ)) → IsRead files name xs left → Consumes left left' piece → IsAtEnd left' → IsReadOut files left'
read_to_end None name xs piece left left' h c e = tt
read_to_end (Some files) name xs piece None left' h c e = absurd h
read_to_end (Some files) name xs piece (Some l) None h c e = absurd c
read_to_end (Some files) name xs piece (Some l) (Some l') h c e = ap Some e

pub unfailed_more : (a b d : ℕ) (failed failed' failed'' named named' name : List ℕ) (n : ℕ) → IsUnfailed a b failed failed' named name → HasCause b d named' failed' failed'' (Ok n) → named' ≡ named → IsUnfailed a d failed failed'' named' name
unfailed_more a b d failed failed' failed'' named named' name n h c e =
    let counted = h.counted in
    let more = c.0 in
    record { counted = omega (arith, counted, more); kept = c.1 ∙ h.kept; started = e ∙ h.started }
