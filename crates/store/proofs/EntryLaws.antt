-- The entry is written. Assumes nothing.
use mathlib.Core.Path.{◌≡◌, refl}
use mathlib.Core.List.{List, [], ◌∷◌}
use Prim.Native.Nat.{ℕ, ◌+◌, ◌<◌, ◌^◌}
use native.Mathlib.Omega.{arith}
use Rattle.words.specs.Words.{word, set_word}
use Rattle.words.proofs.WordLaws.{length_set_word, word_set_word_same, word_set_word_other}
use Rattle.layout.specs.Layout.{entry_place, Long}
use Rattle.layout.specs.Changes.{Outside, Wrote, Still}
use Rattle.layout.specs.States.{state_of, module_in}
use Rattle.layout.proofs.Frames.{exprs_kept, names_kept, diagnostics_kept, lost_kept, sets_kept, entries_kept}
use Rattle.layout.proofs.WriteLaws.{still_set_word}
use Rattle.store.specs.Work.{SetEntry}

pub entry_set : (s : List ℕ) (e : ℕ) → Long s → e < 2 ^ 32 → SetEntry e s (set_word s entry_place e)
unfolding Outside module_in state_of
entry_set s e long h =
    let t : List ℕ = set_word s entry_place e in
    let wrote : Wrote ((entry_place, entry_place + 4) ∷ []) s t = record { size = length_set_word s entry_place e; other = λ j o. word_set_word_other s entry_place e j o.0 } in
    let still : Still s t = still_set_word s entry_place e (omega arith) (λ z. omega arith) in
    let w : word t entry_place ≡ e = word_set_word_same s entry_place e (omega arith) h in
    record {
      wrote = wrote;
      still = still;
      entry = rw (w, exprs_kept wrote still refl refl, names_kept wrote still refl refl, diagnostics_kept wrote still refl refl, lost_kept wrote refl refl, sets_kept wrote refl refl, entries_kept wrote still refl refl);
    }
