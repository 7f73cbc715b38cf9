-- The definitions on small lists, computed.
use Rattle.std.specs.Prelude.{◌≡◌, refl, false, [], ◌∷◌}
use Rattle.words.specs.Runs.{run, splice}
use Rattle.words.specs.Words.{number, bytes_of, word, set_word}
use Rattle.words.specs.Equality.{equalb}
use Rattle.words.specs.Order.{order}
use Rattle.std.specs.declared.cmp.Ordering.TheVariants.{Less, Greater}

part_of_list : run (1 ∷ 2 ∷ 3 ∷ 4 ∷ []) 1 2 ≡ 2 ∷ 3 ∷ []
unfolding run
part_of_list = refl

written_over : splice (1 ∷ 2 ∷ 3 ∷ 4 ∷ []) 1 (8 ∷ 9 ∷ []) ≡ 1 ∷ 8 ∷ 9 ∷ 4 ∷ []
unfolding splice
written_over = refl

written_past_the_end : splice (1 ∷ 2 ∷ []) 1 (8 ∷ 9 ∷ []) ≡ 1 ∷ 8 ∷ []
unfolding splice
written_past_the_end = refl

little_end_first : word (7 ∷ 4 ∷ 3 ∷ 2 ∷ 1 ∷ []) 1 ≡ 16909060
unfolding word run number
little_end_first = refl

word_written : set_word (7 ∷ 7 ∷ 7 ∷ 7 ∷ 7 ∷ 7 ∷ []) 1 16909060 ≡ 7 ∷ 4 ∷ 3 ∷ 2 ∷ 1 ∷ 7 ∷ []
unfolding set_word splice bytes_of
word_written = refl

longer_differs : equalb (97 ∷ 98 ∷ []) (97 ∷ []) ≡ false
unfolding equalb
longer_differs = refl

prefix_first : order (97 ∷ []) (97 ∷ 98 ∷ []) ≡ Less
unfolding order
prefix_first = refl

byte_before_length : order (98 ∷ []) (97 ∷ 98 ∷ []) ≡ Greater
unfolding order
byte_before_length = refl
