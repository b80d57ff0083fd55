use Rattle.std.proofs.Common.{◌≡◌, ◌++◌, length, map}
use Rattle.text_words.specs.Lines.{words_of}
use Rattle.text_words.specs.Numbers.{held}
use Rattle.net_text.specs.Forms.{numbers_written}
use Rattle.net_text.proofs.list_forms.numbers_written.Given as goal

-- the numbers of what is left follow
abbrev pub invariant-loop-word : goal.invariant-loop-word
invariant-loop-word l = l.numbers.items ++ map held (numbers_written (words_of l.left)) ≡ map held (numbers_written (words_of l.words))

abbrev pub decreases-loop-word : goal.decreases-loop-word
decreases-loop-word l = length l.left
