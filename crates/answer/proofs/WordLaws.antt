-- The words that stand for answers in a store, where the answers are those that there can be. Assumes nothing.
use mathlib.Core.Path.{◌≡◌}
use mathlib.Core.List.{List}
use Prim.Native.Nat.{ℕ, ◌+◌, ◌≤◌, ◌<◌}
use native.Mathlib.Omega.{arith}
use lib.Dec.{ltb}
use borrow.Author.Tests.{lt-ltb}
use Rattle.words.specs.Order.{pick}
use Rattle.spec.specs.Basics.{ExprId}
use Rattle.spec.proofs.sound.Sound.{AnswerIn}
use Rattle.layout.specs.Layout.{absent, expr_limit, name_limit}
use Rattle.answer.specs.declared.answer.Answer.{Answer}
use Rattle.answer.specs.declared.answer.Answer.TheVariants.{Unresolved, Definition, Builtin, Withs}
use Rattle.answer.specs.Answers.{answer_with}
use Rattle.answer.specs.Words.{answer_word}

-- ---- an answer that there can be
-- it has a word
pub has_word : (a : Answer) (es : List ExprId) → AnswerIn name_limit expr_limit (answer_with a es) → answer_word a ≡ absent → ⊥
unfolding answer_with answer_word
has_word Unresolved es n e = omega arith
has_word Withs es n e = omega arith
has_word (Builtin i) es n e = let q : pick (ltb i 22) (2 + i) absent ≡ absent = e in omega (arith, rw (lt-ltb i 22 n) at q)
has_word (Definition x) es n e = let q : pick (ltb x.0 name_limit) (24 + x.0) absent ≡ absent = e in omega (arith, rw (lt-ltb x.0 name_limit n) at q)

-- where there are x names the word of an answer is below those that no answer has
pub word_in : (a : Answer) (es : List ExprId) (x e : ℕ) → x ≤ name_limit → AnswerIn x e (answer_with a es) → answer_word a < 24 + x
unfolding answer_with answer_word
word_in Unresolved es x e l n = omega arith
word_in Withs es x e l n = omega arith
word_in (Builtin i) es x e l n = rw (lt-ltb i 22 n) (omega arith)
word_in (Definition y) es x e l n = rw (lt-ltb y.0 name_limit (omega arith)) (omega arith)
