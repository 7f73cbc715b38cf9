-- Writing the kept references of a name into a buffer. Assumes nothing.
use mathlib.Core.Path.{◌≡◌, sym, ap, ◌∙◌}
use mathlib.Core.List.{List, [], ◌∷◌}
use mathlib.Core.Option.{none, some}
use Prim.Native.Nat.{ℕ, zero, suc, ◌+◌, ◌*◌, ◌≤◌, ◌<◌}
use native.Mathlib.Omega.{arith}
use lib.ListN.{length, drop, get_elem?, drop_of_length-le}
use Rattle.words.specs.Words.{set_word}
use Rattle.words.proofs.WordLaws.{length_set_word}
use Rattle.module.specs.Ids.{expr_of}
use Rattle.layout.specs.Rows.{set_all}
use Rattle.module.specs.declared.ids.ExprId as rust_expr_id
use Rattle.std.specs.Prelude as rust

-- ---- a list from a place on
not_there : (es : List ℕ) (i : ℕ) → i < length es → get_elem? es i ≡ none → ⊥
not_there [] i l h = omega arith
not_there (e ∷ es) zero l h = let z : ◌≡◌ {A = ℕ} 0 1 = cc in omega arith
not_there (e ∷ es) (suc i) l h = not_there es i (omega arith) h

from_there : (es : List ℕ) (i e : ℕ) → get_elem? es i ≡ some e → drop i es ≡ e ∷ drop (suc i) es
from_there [] i e h = let z : ◌≡◌ {A = ℕ} 0 1 = cc in absurd (omega arith)
from_there (x ∷ es) zero e h = let q : x ≡ e = cc in rw q
from_there (x ∷ es) (suc i) e h = from_there es i e h

-- what is left to be written from here is what there was to write
pub record Copying (es b₀ : List ℕ) (i : ℕ) (b : List ℕ) : Type 0 where
  pub rest : set_all b₀ 0 es ≡ set_all b (4 * i) (drop i es)
  pub size : length b ≡ length b₀

module _ (es b₀ : List ℕ) (i : ℕ) (b : List ℕ) (d : Copying es b₀ i b) (r : rust.Option rust_expr_id.ExprId) (told : expr_of r ≡ get_elem? es i) where
  pub copying_more : (e : ℕ) (c : List ℕ) → r ≡ rust.Some (record { 0 = e }) → c ≡ set_word b (4 * i) e → Copying es b₀ (i + 1) c
  unfolding set_all expr_of
  copying_more e c q w =
      let there : get_elem? es i ≡ some e = sym told ∙ ap expr_of q in
      let n : suc i ≡ i + 1 = omega arith in
      let at : 4 * i + 4 ≡ 4 * (i + 1) = omega arith in
      record { rest = d.rest ∙ rw (from_there es i e there, n, ← at, w); size = rw w (length_set_word b (4 * i) e) ∙ d.size }

  pub copying_lost : i < length es → r ≡ rust.None → b ≡ set_all b₀ 0 es
  unfolding expr_of
  copying_lost l q = absurd (not_there es i l (sym told ∙ ap expr_of q))

pub copying_done : (es b₀ : List ℕ) (i : ℕ) (b : List ℕ) → Copying es b₀ i b → length es ≤ i → b ≡ set_all b₀ 0 es
unfolding set_all
copying_done es b₀ i b d l = sym (d.rest ∙ rw (drop_of_length-le es l))
