-- Spending of the change room. Assumes nothing.
use mathlib.Core.Path.{◌≡◌, refl}
use mathlib.Core.List.{List, [], ◌∷◌}
use Prim.Native.Nat.{ℕ, ◌+◌, ◌<◌, ◌^◌}
use native.Mathlib.Omega.{arith}
use Rattle.words.specs.Words.{word, set_word}
use Rattle.words.proofs.WordLaws.{length_set_word, word_set_word_same, word_set_word_other}
use Rattle.layout.specs.Layout.{spent_place, Long}
use Rattle.layout.specs.Changes.{Outside, Wrote, Still}
use Rattle.layout.specs.Keeps.{kept_in}
use Rattle.kept.specs.TextChanges.{Spent}
use Rattle.layout.proofs.WriteLaws.{still_set_word}
use Rattle.kept.proofs.KeepFrames.{module_kept, scopes_kept, answers_kept, references_kept}

pub spent_is : (s : List ℕ) (n : ℕ) → n ≡ word s spent_place → n ≡ (kept_in s).spent
unfolding kept_in
spent_is s n e = e

pub spent_now : (s t : List ℕ) (n : ℕ) → Long s → n < 2 ^ 32 → t ≡ set_word s spent_place n → Spent n s t
unfolding kept_in Outside
spent_now s t n l hn et =
    let w : Wrote ((spent_place, spent_place + 4) ∷ []) s t = record { size = rw et (length_set_word s spent_place n); other = λ j o. rw et (word_set_word_other s spent_place n j o.0) } in
    let still : Still s t = rw et (still_set_word s spent_place n (omega arith) (λ z. omega arith)) in
    let here : word t spent_place ≡ n = rw et (word_set_word_same s spent_place n (omega arith) hn) in
    record { wrote = w; still = still; does = rw (module_kept w still refl refl, scopes_kept w refl refl refl, answers_kept w refl refl refl refl, references_kept w refl refl, here) }
