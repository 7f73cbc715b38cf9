-- The loop that copies byte by byte. Assumes nothing.
use mathlib.Core.Path.{◌≡◌, refl, ap, ◌∙◌}
use mathlib.Core.List.{List}
use Prim.Native.Nat.{ℕ, ◌+◌, ◌<◌}
use native.Mathlib.Omega.{arith}
use lib.ListN.{length, get_or, set, length-set}
use Rattle.words.specs.Runs.{run, splice}
use Rattle.words.proofs.RunLaws.{length_run, run_snoc, run_whole, splice_after}

-- the first i bytes of t have been written over s₀ from `at` on
pub record Begun (s₀ : List ℕ) (at : ℕ) (t : List ℕ) (s : List ℕ) (i : ℕ) : Type 0 where
  pub long : length s ≡ length s₀
  pub same : s ≡ splice s₀ at (run t 0 i)

pub begun_none : (s : List ℕ) (at : ℕ) (t : List ℕ) → Begun s at t s 0
unfolding run splice
begun_none s at t = record { long = refl; same = refl }

pub begun_more : (s₀ : List ℕ) (at : ℕ) (t : List ℕ) (s : List ℕ) (i : ℕ) → Begun s₀ at t s i → i < length t
    → Begun s₀ at t (set s (at + i) (get_or t i 0)) (i + 1)
begun_more s₀ at t s i g k =
    let l = length_run t 0 i (omega arith) in
    let z : 0 + i ≡ i = omega arith in
    record {
      long = length-set s (at + i) (get_or t i 0) ∙ g.long;
      same = rw (g.same, run_snoc t 0 i (omega arith), z) (rw l at (splice_after s₀ at (run t 0 i) (get_or t i 0)));
    }

pub begun_done : (s₀ : List ℕ) (at : ℕ) (t : List ℕ) (s : List ℕ) (i : ℕ) → Begun s₀ at t s i → i ≡ length t → s ≡ splice s₀ at t
begun_done s₀ at t s i g e = g.same ∙ ap (λ n. splice s₀ at (run t 0 n)) e ∙ ap (splice s₀ at) (run_whole t)
