-- What writing words and runs of bytes does to the words of a store. Assumes nothing.
use mathlib.Core.Path.{◌≡◌, refl, ap, ◌∙◌}
use mathlib.Core.Logic.{◌⊎◌, inl, inr}
use mathlib.Core.Bool.{Bool, true, false}
use mathlib.Core.List.{List, [], ◌∷◌}
use Prim.Native.Nat.{ℕ, zero, suc, ◌+◌, ◌*◌, ◌≤◌, ◌<◌, ◌^◌}
use native.Mathlib.Omega.{arith}
use lib.ListN.{length, get_or, drop, set, drop_of_length-le}
use lib.Seq.{sets, drop-set-lt}
use Rattle.std.proofs.lemmas.List.{drop_more}
use lib.Dec.{ltb}
use borrow.Author.Tests.{ltb-true, ltb-false}
use Rattle.words.specs.Runs.{splice}
use Rattle.words.specs.Words.{word, set_word, bytes_of}
use Rattle.words.proofs.WordLaws.{length_bytes_of, length_set_word, word_set_word_same, word_set_word_other, word_splice_other}
use Rattle.layout.specs.Rows.{set_all}
use Rattle.layout.specs.Layout.{texts_place, sheet_at}
use Rattle.layout.specs.Changes.{Still}

-- ---- bytes past a write
drop_sets : (xs s : List ℕ) (k at : ℕ) → at + length xs ≤ k → drop k (sets s at xs) ≡ drop k s
drop_sets [] s k at h = refl
drop_sets (x ∷ xs) s k at h = drop_sets xs (set s at x) k (suc at) (omega arith) ∙ drop-set-lt k s at x (omega arith)

pub drop_splice : (s : List ℕ) (at : ℕ) (xs : List ℕ) (k : ℕ) → at + length xs ≤ k → drop k (splice s at xs) ≡ drop k s
unfolding splice
drop_splice s at xs k h = drop_sets xs s k at h

pub drop_set_word : (s : List ℕ) (at v k : ℕ) → at + 4 ≤ k → drop k (set_word s at v) ≡ drop k s
unfolding set_word
drop_set_word s at v k h = drop_splice s at (bytes_of 4 v) k (rw (length_bytes_of 4 v) h)

-- n bytes from a place on are none of the four that say how many bytes of texts are in use
abbrev pub Spares : ℕ → ℕ → Type 0
Spares at n = texts_place < at + n → texts_place + 4 ≤ at

spared : (at n : ℕ) → Spares at n → (texts_place + 4 ≤ at) ⊎ (at + n ≤ texts_place)
spared at n h = by (ltb texts_place (at + n)) refl
  where
    by : (b : Bool) → ltb texts_place (at + n) ≡ b → (texts_place + 4 ≤ at) ⊎ (at + n ≤ texts_place)
    by true e = inl (h (ltb-true texts_place (at + n) e))
    by false e = inr (ltb-false texts_place (at + n) e)

pub still_splice : (s : List ℕ) (at : ℕ) (xs : List ℕ) → at + length xs ≤ sheet_at → Spares at (length xs) → Still s (splice s at xs)
still_splice s at xs h apart = record { same = drop_splice s at xs sheet_at h; used = word_splice_other s at xs texts_place (spared at (length xs) apart) }

pub still_set_word : (s : List ℕ) (at v : ℕ) → at + 4 ≤ sheet_at → Spares at 4 → Still s (set_word s at v)
unfolding set_word
still_set_word s at v h apart = still_splice s at (bytes_of 4 v) (rw (length_bytes_of 4 v) h) (rw (length_bytes_of 4 v) apart)

pub still_none : (s : List ℕ) → Still s s
still_none s = record { same = refl; used = refl }

pub still_then : {s u t : List ℕ} → Still s u → Still u t → Still s t
still_then x y = record { same = y.same ∙ x.same; used = y.used ∙ x.used }

-- ---- words one after the other
abbrev pub Small : List ℕ → Type 0
Small [] = Unit {0}
Small (w ∷ ws) = (w < 2 ^ 32) × Small ws

pub length_all : (s : List ℕ) (at : ℕ) (ws : List ℕ) → length (set_all s at ws) ≡ length s
unfolding set_all
length_all s at [] = refl
length_all s at (w ∷ ws) = length_all (set_word s at w) (at + 4) ws ∙ length_set_word s at w

pub drop_all : (s : List ℕ) (at : ℕ) (ws : List ℕ) (k : ℕ) → at + 4 * length ws ≤ k → drop k (set_all s at ws) ≡ drop k s
unfolding set_all
drop_all s at [] k h = refl
drop_all s at (w ∷ ws) k h = drop_all (set_word s at w) (at + 4) ws k (omega arith) ∙ drop_set_word s at w k (omega arith)

pub still_all : (s : List ℕ) (at : ℕ) (ws : List ℕ) → at + 4 * length ws ≤ sheet_at → Spares at (4 * length ws) → Still s (set_all s at ws)
unfolding set_all
still_all s at [] h apart = still_none s
still_all s at (w ∷ ws) h apart =
    still_then (still_set_word s at w (omega arith) (λ z. apart (omega arith))) (still_all (set_word s at w) (at + 4) ws (omega arith) (λ z. let o = apart (omega arith) in omega arith))

pub all_other : (s : List ℕ) (at : ℕ) (ws : List ℕ) (j : ℕ) → (j + 4 ≤ at) ⊎ (at + 4 * length ws ≤ j) → word (set_all s at ws) j ≡ word s j
unfolding set_all
all_other s at [] j o = refl
all_other s at (w ∷ ws) j (inl o) = all_other (set_word s at w) (at + 4) ws j (inl (omega arith)) ∙ word_set_word_other s at w j (inl o)
all_other s at (w ∷ ws) j (inr o) = all_other (set_word s at w) (at + 4) ws j (inr (omega arith)) ∙ word_set_word_other s at w j (inr (omega arith))

pub all_is : (s : List ℕ) (at : ℕ) (ws : List ℕ) → Small ws → at + 4 * length ws ≤ length s → (i : ℕ) → i < length ws → word (set_all s at ws) (at + 4 * i) ≡ get_or ws i 0
unfolding set_all
all_is s at [] b l i h = absurd (omega arith)
all_is s at (w ∷ ws) b l zero h =
    let e : at + 4 * 0 ≡ at = omega arith in
    rw e (all_other (set_word s at w) (at + 4) ws at (inl (omega arith)) ∙ word_set_word_same s at w (omega arith) b.0)
all_is s at (w ∷ ws) b l (suc i) h =
    let e : at + 4 * suc i ≡ at + 4 + 4 * i = omega arith in
    rw e (all_is (set_word s at w) (at + 4) ws b.1 (omega (arith, length_set_word s at w)) i (omega arith))

-- the same, the word at any of its places
pub all_at : (s : List ℕ) (at : ℕ) (ws : List ℕ) → Small ws → at + 4 * length ws ≤ length s → (i j : ℕ) → i < length ws → j ≡ at + 4 * i → word (set_all s at ws) j ≡ get_or ws i 0
all_at s at ws b l i j h e = rw e (all_is s at ws b l i h)

-- ---- a list of words written one by one: what is left to be written after the word i
pub words_more : (s t : List ℕ) (at i : ℕ) (ws : List ℕ) → i < length ws → t ≡ set_word s (at + 4 * i) (get_or ws i 0) → set_all s (at + 4 * i) (drop i ws) ≡ set_all t (at + 4 * (i + 1)) (drop (i + 1) ws)
unfolding set_all
words_more s t at i ws l e =
    let next : at + 4 * i + 4 ≡ at + 4 * (i + 1) = omega arith in
    let one : set_all s (at + 4 * i) (get_or ws i 0 ∷ drop (i + 1) ws) ≡ set_all (set_word s (at + 4 * i) (get_or ws i 0)) (at + 4 * i + 4) (drop (i + 1) ws) = refl in
    ap (set_all s (at + 4 * i)) (drop_more ws i 0 l) ∙ one ∙ rw (next, e) refl

pub words_end : (s : List ℕ) (at i : ℕ) (ws : List ℕ) → length ws ≤ i → set_all s at (drop i ws) ≡ s
unfolding set_all
words_end s at i ws l = ap (set_all s at) (drop_of_length-le ws l)
