-- Laws of numbers in bytes. What a word is after a write elsewhere follows from what its run is. Assumes nothing.
use mathlib.Core.Path.{◌≡◌, refl, ap, ◌∙◌}
use mathlib.Core.Logic.{◌⊎◌}
use mathlib.Core.List.{List, [], ◌∷◌}
use Prim.Native.Nat.{ℕ, zero, suc, ◌+◌, ◌*◌, ◌/◌, ◌%◌, ◌≤◌, ◌<◌, ◌^◌}
use native.Mathlib.Omega.{arith}
use native.Mathlib.Nat.{pow-succ'}
use lib.ListN.{length, get_or, length-take}
use Rattle.std.proofs.Common.{w32}
use Rattle.std.specs.Int.{to_le_bytes}
use Rattle.words.specs.Runs.{run, splice}
use Rattle.words.specs.Words.{number, bytes_of, word, set_word}
use Rattle.words.proofs.RunLaws.{run_cons, run_run, length_splice, run_splice_other, run_splice_within, run_splice_same}

-- ---- a number and its bytes
pub number_lt : (xs : List ℕ) (k : ℕ) → length xs ≤ k → number xs < 256 ^ k
unfolding number
number_lt [] zero h = omega arith
number_lt [] (suc k) h = rw (pow-succ' 256 k) (omega (arith, number_lt [] k (omega arith)))
number_lt (x ∷ xs) zero h = absurd (omega arith)
number_lt (x ∷ xs) (suc k) h = rw (pow-succ' 256 k) (omega (arith, number_lt xs k (omega arith)))

pub length_bytes_of : (k v : ℕ) → length (bytes_of k v) ≡ k
unfolding bytes_of
length_bytes_of zero v = refl
length_bytes_of (suc k) v = ap suc (length_bytes_of k (v / 256))

-- the four bytes that the library writes
pub bytes_of_four : (v : ℕ) → to_le_bytes w32 v ≡ bytes_of 4 v
unfolding bytes_of
bytes_of_four v =
    let two : v / 65536 ≡ v / 256 / 256 = omega arith in
    let three : v / 16777216 ≡ v / 256 / 256 / 256 = omega arith in
    rw (two, three)

-- k bytes spell every number below 256 ^ k
pub number_bytes_of : (k v : ℕ) → v < 256 ^ k → number (bytes_of k v) ≡ v
unfolding number bytes_of
number_bytes_of zero v h = omega arith
number_bytes_of (suc k) v h =
    let l : v / 256 < 256 ^ k = omega (arith, pow-succ' 256 k) in
    rw (number_bytes_of k (v / 256) l) (omega arith)

-- ---- a word
pub word_lt : (s : List ℕ) (at : ℕ) → word s at < 2 ^ 32
unfolding word run
word_lt s at = number_lt (run s at 4) 4 (simp length-take (omega arith))

run_four : (s : List ℕ) (at : ℕ) → at + 4 ≤ length s → run s at 4 ≡ get_or s at 0 ∷ get_or s (at + 1) 0 ∷ get_or s (at + 2) 0 ∷ get_or s (at + 3) 0 ∷ []
unfolding run
run_four s at h =
    let two : at + 1 + 1 ≡ at + 2 = omega arith in
    let three : at + 2 + 1 ≡ at + 3 = omega arith in
    run_cons s at 3 (omega arith)
    ∙ rw (run_cons s (at + 1) 2 (omega arith), two, run_cons s (at + 2) 1 (omega arith), three, run_cons s (at + 3) 0 (omega arith))

-- by its four bytes
pub word_bytes : (s : List ℕ) (at : ℕ) → at + 4 ≤ length s
    → word s at ≡ get_or s at 0 % 256 + 256 * (get_or s (at + 1) 0 % 256) + 65536 * (get_or s (at + 2) 0 % 256) + 16777216 * (get_or s (at + 3) 0 % 256)
unfolding word number
word_bytes s at h = rw (run_four s at h) (omega arith)

-- a word of a run
pub word_run : (s : List ℕ) (at n i : ℕ) → at + n ≤ length s → i + 4 ≤ n → word (run s at n) i ≡ word s (at + i)
unfolding word
word_run s at n i h k = ap number (run_run s at n i 4 h k)

-- ---- a list with a part written over
-- a word apart from what was written is as it was
pub word_splice_other : (s : List ℕ) (at : ℕ) (xs : List ℕ) (j : ℕ) → (j + 4 ≤ at) ⊎ (at + length xs ≤ j) → word (splice s at xs) j ≡ word s j
unfolding word
word_splice_other s at xs j h = ap number (run_splice_other s at xs j 4 h)

-- a word within what was written is a word of that
pub word_splice_within : (s : List ℕ) (at : ℕ) (xs : List ℕ) (i : ℕ) → at + length xs ≤ length s → i + 4 ≤ length xs → word (splice s at xs) (at + i) ≡ word xs i
unfolding word
word_splice_within s at xs i h k = ap number (run_splice_within s at xs i 4 h k)

-- ---- a list with a word written over
pub length_set_word : (s : List ℕ) (at v : ℕ) → length (set_word s at v) ≡ length s
unfolding set_word
length_set_word s at v = length_splice s at (bytes_of 4 v)

pub word_set_word_same : (s : List ℕ) (at v : ℕ) → at + 4 ≤ length s → v < 2 ^ 32 → word (set_word s at v) at ≡ v
unfolding word set_word
word_set_word_same s at v h b =
    ap number (rw (length_bytes_of 4 v) at (run_splice_same s at (bytes_of 4 v) (rw (length_bytes_of 4 v) h))) ∙ number_bytes_of 4 v b

pub run_set_word_other : (s : List ℕ) (at v j n : ℕ) → (j + n ≤ at) ⊎ (at + 4 ≤ j) → run (set_word s at v) j n ≡ run s j n
unfolding set_word
run_set_word_other s at v j n h = run_splice_other s at (bytes_of 4 v) j n (rw (length_bytes_of 4 v) h)

pub word_set_word_other : (s : List ℕ) (at v j : ℕ) → (j + 4 ≤ at) ⊎ (at + 4 ≤ j) → word (set_word s at v) j ≡ word s j
unfolding set_word
word_set_word_other s at v j h = word_splice_other s at (bytes_of 4 v) j (rw (length_bytes_of 4 v) h)
