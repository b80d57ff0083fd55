-- A certificate's text that is printed piece by piece is the text that is printed at once.
use Rattle.std.proofs.Common.{◌≡◌, ℕ, List, [], ◌∷◌, ◌++◌, append_assoc, append-nil, ap, ◌∙◌}
use Rattle.std.specs.Prelude.{codes}
use Rattle.std.specs.Fmt.{signed_decimal}
use Rattle.text_words.specs.Printed.{spaced, word_lines}
use Rattle.net_model.specs.Wires.{NetData}
use Rattle.part_rules.specs.declared.bounds.Bounds.{Bounds}
use Rattle.cert_checker.specs.PartNames.{part_name}
use Rattle.cert_checker.specs.CertificatePrinting.{entry_words, entry_lines, certificate_text}

-- pieces behind one another, in one line
pieces_joined : (old word space name lo hi err end : List ℕ) → (((((old ++ (word ++ space)) ++ name) ++ lo) ++ hi) ++ err) ++ end ≡ old ++ ((word ++ ((space ++ name) ++ (lo ++ (hi ++ (err ++ []))))) ++ end)
pieces_joined old word space name lo hi err end = simp (append_assoc, append-nil)

-- the line of a part, from its six pieces
pub entry_joined : (net : NetData) (k : ℕ) (b : Bounds) (old first named lo hi err new : List ℕ) → first ≡ old ++ codes "part " → named ≡ first ++ part_name net k → lo ≡ named ++ 32 ∷ signed_decimal b.lo → hi ≡ lo ++ 32 ∷ signed_decimal b.hi → err ≡ hi ++ 32 ∷ signed_decimal b.err → new ≡ err ++ 10 ∷ []
    → new ≡ old ++ (spaced (entry_words net k b) ++ 10 ∷ [])
entry_joined net k b old first named lo hi err new f n l h e last =
    last ∙ ap (λ t. t ++ 10 ∷ []) (e ∙ ap (λ t. t ++ 32 ∷ signed_decimal b.err) (h ∙ ap (λ t. t ++ 32 ∷ signed_decimal b.hi) (l ∙ ap (λ t. t ++ 32 ∷ signed_decimal b.lo) (n ∙ ap (λ t. t ++ part_name net k) f))))
    ∙ pieces_joined old (codes "part") (32 ∷ []) (part_name net k) (32 ∷ signed_decimal b.lo) (32 ∷ signed_decimal b.hi) (32 ∷ signed_decimal b.err) (10 ∷ [])

-- the text of a certificate, from its head and its lines
pub text_joined : (net : NetData) (entries : List Bounds) (head text : List ℕ) → head ≡ codes "cert 1" ++ 10 ∷ [] → text ≡ head ++ word_lines (entry_lines net 0 entries) → text ≡ certificate_text net entries
unfolding certificate_text
text_joined net entries head text e h = h ∙ ap (λ t. t ++ word_lines (entry_lines net 0 entries)) e
