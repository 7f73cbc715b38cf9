-- Answers held against each other. Assumes nothing.
use Rattle.std.specs.Prelude.{if◌then◌else◌}
use mathlib.Core.Path.{◌≡◌, refl, sym, ap, ◌∙◌}
use mathlib.Core.Bool.{Bool, and-true}
use mathlib.Core.List.{List}
use mathlib.Core.Option.{none, some}
use Prim.Native.Nat.{ℕ}
use lib.Dec.{eqb}
use Rattle.words.specs.Equality.{equalb}
use Rattle.words.proofs.EqualityLaws.{equalb_refl}
use Rattle.spec.specs.Basics.{ExprId}
use Rattle.spec.specs.Answer as spec
use Rattle.spec.specs.Moved.{numbers_of, same_answer}
use Rattle.spec.specs.Kept.{kept_answer}
use Rattle.layout.specs.Keeps.{scopes_in, kept_in}
use Rattle.answer.specs.declared.answer.Answer.{Answer}
use Rattle.answer.specs.declared.answer.Answer.TheVariants.{Unresolved, Definition, Builtin, Withs}
use Rattle.answer.specs.contracts.answer.AnswerPartialEq.TheImpl.{ghosts}
use Rattle.answer.specs.Answers.{answer_with, maybe_with}
use Rattle.kept.specs.Answers.{withs_at}
use Rattle.moving.specs.Moving.{SameHere, OtherThan}
use Rattle.std.specs.Prelude as rust

-- answers at one place are the same where they are equal: their Withs are those of the place
pub same_here : (a b : Answer) → SameHere a b (ghosts.eq a b)
unfolding same_answer numbers_of equalb answer_with
same_here a b = record { says = go a b }
  where
    go : (a b : Answer) (es : List ExprId) → ghosts.eq a b ≡ same_answer (some (answer_with a es)) (some (answer_with b es))
    go Unresolved Unresolved es = refl
    go Unresolved (Definition y) es = refl
    go Unresolved (Builtin j) es = refl
    go Unresolved Withs es = refl
    go (Definition x) Unresolved es = refl
    go (Definition x) (Definition y) es = sym (and-true (eqb x.0 y.0))
    go (Definition x) (Builtin j) es = refl
    go (Definition x) Withs es = refl
    go (Builtin i) Unresolved es = refl
    go (Builtin i) (Definition y) es = refl
    go (Builtin i) (Builtin j) es = sym (and-true (eqb i j))
    go (Builtin i) Withs es = refl
    go Withs Unresolved es = refl
    go Withs (Definition y) es = refl
    go Withs (Builtin j) es = refl
    go Withs Withs es = sym (equalb_refl es)

-- ---- where one is kept
module _ (s : List ℕ) (e : ℕ) (a : Answer) (k : rust.Option Answer) (kept : maybe_with k (withs_at (scopes_in s) e) ≡ kept_answer (kept_in s) e) (was : Answer) (there : k ≡ rust.Some was) where
  pub kept_one : (b : Bool) → b ≡ ghosts.eq was a → OtherThan e a s (if b then rust.None else rust.Some a)
  unfolding maybe_with
  kept_one b same = record { is = rw (sym kept ∙ ap (λ (o : rust.Option Answer). maybe_with o (withs_at (scopes_in s) e)) there, ← (same_here was a).says (withs_at (scopes_in s) e), ← same) refl }

-- ---- where none is kept
pub kept_none : (s : List ℕ) (e : ℕ) (a : Answer) (k : rust.Option Answer) → maybe_with k (withs_at (scopes_in s) e) ≡ kept_answer (kept_in s) e → k ≡ rust.None → OtherThan e a s (rust.Some a)
unfolding maybe_with same_answer numbers_of equalb
kept_none s e a k kept there = record { is = rw (sym kept ∙ ap (λ (o : rust.Option Answer). maybe_with o (withs_at (scopes_in s) e)) there) (go (answer_with a (withs_at (scopes_in s) e))) }
  where
    go : (b : spec.Answer) → rust.Some a ≡ (if same_answer none (some b) then rust.None else rust.Some a)
    go spec.unresolved = refl
    go (spec.definition x) = refl
    go (spec.builtin i) = refl
    go (spec.withs es) = refl
