-- What fits goes on to fit when a text is added and when an answer is kept. Assumes nothing.
use mathlib.Core.Path.{◌≡◌, refl}
use mathlib.Core.Logic.{◌⊎◌, inl, inr, ⊎_elim}
use mathlib.Core.Bool.{Bool, true, false}
use mathlib.Core.List.{List, [], ◌∷◌}
use Prim.Native.Nat.{ℕ, ◌+◌, ◌*◌, ◌≤◌, ◌<◌}
use native.Mathlib.Omega.{arith}
use lib.Dec.{leb, ltb}
use borrow.Author.Tests.{leb-true, leb-false, ltb-true, ltb-false}
use Rattle.words.specs.Words.{word}
use Rattle.spec.specs.Basics.{Text, ExprId}
use Rattle.layout.specs.Layout.{expr_limit, use_row, expr_count, exprs_at, uses_at, scopes_at}
use Rattle.layout.specs.Rows.{cap}
use Rattle.layout.specs.Changes.{Range, Outside, Wrote}
use Rattle.layout.proofs.RowLaws.{cap_lim}
use Rattle.layout.proofs.Frames.{same_on, wrote_none}
use Rattle.texts.specs.Adds.{texting, Texted}
use Rattle.soundness.specs.Coded.{ModuleFits}
use Rattle.soundness.proofs.FrameLaws.{module_on, onward_same}
use Rattle.answer.specs.declared.answer.Answer.{Answer}
use Rattle.kept.specs.Answers.{Answered}

-- in use, or past what is in use
pub by_use : {A : Type 0} (i n limit : ℕ) → (i < cap n limit → A) → (cap n limit ≤ i → A) → A
by_use {A} i n limit f g = go (ltb i (cap n limit)) refl
  where
    go : (b : Bool) → ltb i (cap n limit) ≡ b → A
    go true e = f (ltb-true i (cap n limit) e)
    go false e = g (ltb-false i (cap n limit) e)

-- a write of a word is a write of the table that the word lies in
pub within : {s t : List ℕ} (at end lo hi : ℕ) → lo ≤ at → end ≤ hi → Wrote ((at, end) ∷ []) s t → Wrote ((lo, hi) ∷ []) s t
unfolding Outside
within at end lo hi a b w = record { size = w.size; other = λ j o. w.other j (⊎_elim (λ z. inl (omega arith)) (λ z. inr (omega arith)) o.0, tt) }

pub same_wrote : (rs : List Range) (s t : List ℕ) → t ≡ s → Wrote rs s t
same_wrote rs s t e = rw e (wrote_none rs s)

-- a word that another one leaves as it was
pub beside : {s t : List ℕ} {at end : ℕ} → Wrote ((at, end) ∷ []) s t → (j : ℕ) → (j + 4 ≤ at) ⊎ (end ≤ j) → word t j ≡ word s j
unfolding Outside
beside w j o = w.other j (o, tt)

-- ---- an answer
pub answered_wrote : (e : ExprId) (a : Answer) (s t : List ℕ) → Answered e a s t → Wrote ((uses_at, scopes_at) ∷ []) s t
answered_wrote e a s t d =
    by_use e (word s expr_count) expr_limit
    (λ l. let lim = cap_lim (word s expr_count) expr_limit in within (uses_at + use_row * e + 4) (uses_at + use_row * e + 8) uses_at scopes_at (omega arith) (omega arith) d.wrote)
    (λ l. same_wrote _ s t (d.past l))

-- the scope of no expression is another
pub answered_placed : (e : ExprId) (a : Answer) (s t : List ℕ) → Answered e a s t → (i : ExprId) → word t (uses_at + use_row * i) ≡ word s (uses_at + use_row * i)
answered_placed e a s t d i = go (leb i e) refl
  where
    go : (b : Bool) → leb i e ≡ b → word t (uses_at + use_row * i) ≡ word s (uses_at + use_row * i)
    go true h = let l = leb-true i e h in beside d.wrote (uses_at + use_row * i) (inl (omega arith))
    go false h = let l = leb-false i e h in beside d.wrote (uses_at + use_row * i) (inr (omega arith))

-- nor the answer of another one
pub answered_other : (e : ExprId) (a : Answer) (s t : List ℕ) → Answered e a s t → (i : ExprId) → (i ≡ e → ⊥) → word t (uses_at + use_row * i + 4) ≡ word s (uses_at + use_row * i + 4)
answered_other e a s t d i ne = go (ltb i e) refl
  where
    go : (b : Bool) → ltb i e ≡ b → word t (uses_at + use_row * i + 4) ≡ word s (uses_at + use_row * i + 4)
    go true h = let l = ltb-true i e h in beside d.wrote (uses_at + use_row * i + 4) (inl (omega arith))
    go false h = let l = ltb-false i e h in beside d.wrote (uses_at + use_row * i + 4) (inr (omega (arith, ne)))

-- ---- a text that is added
pub texted_module : (bytes : Text) (s : List ℕ) (k : ℕ) (t : List ℕ) → Texted bytes s k t → ModuleFits s → ModuleFits t
unfolding texting
texted_module bytes s k t d m =
    module_on s t (onward_same s t m (same_on 0 20 d.wrote refl) (same_on exprs_at uses_at d.wrote refl) (λ j h. (d.others j h).1)) m
