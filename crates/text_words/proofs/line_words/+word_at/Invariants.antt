use Rattle.text_words.proofs.line_words.+word_at.Given as goal

abbrev pub decreases-word_at : goal.decreases-word_at
decreases-word_at l = l.k
