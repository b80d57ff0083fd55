use Rattle.std.proofs.Common.{◌≡◌, length}
use Rattle.std.specs.Prelude.{is_some}
use Rattle.std.specs.List.{list_all}
use Rattle.text_words.specs.Lines.{words_of}
use Rattle.text_words.specs.Numbers.{number_of}
use Rattle.net_text.proofs.list_forms.are_all_numbers.Given as goal

-- what is left decides
abbrev pub invariant-loop-word : goal.invariant-loop-word
invariant-loop-word l =
    list_all (λ word. is_some (number_of word)) (words_of l.left) ≡ list_all (λ word. is_some (number_of word)) (words_of l.words)

abbrev pub decreases-loop-word : goal.decreases-loop-word
decreases-loop-word l = length l.left
