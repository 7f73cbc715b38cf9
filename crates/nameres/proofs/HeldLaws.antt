-- Every answer that is worked out has a word that a row can hold, where all that the scopes hold has one. Assumes
-- nothing.
use mathlib.Core.Path.{◌≡◌}
use mathlib.Core.List.{List}
use mathlib.Core.Option.{Option}
use Prim.Native.Nat.{ℕ, ◌+◌, ◌<◌}
use Rattle.words.specs.Words.{word}
use Rattle.spec.specs.Basics.{Text, ExprId, NameId, ScopeId}
use Rattle.spec.specs.Scopes.{Scopes}
use Rattle.spec.specs.Answer.{answer_at}
use Rattle.spec.proofs.sound.Sound.{answer_at_in}
use Rattle.layout.specs.Layout.{absent, expr_count, name_count, expr_limit, name_limit}
use Rattle.layout.specs.Keeps.{scopes_in}
use Rattle.answer.specs.declared.answer.Answer.{Answer}
use Rattle.answer.specs.Answers.{answer_with}
use Rattle.answer.specs.Words.{answer_word}
use Rattle.answer.proofs.WordLaws.{has_word, word_in}
use Rattle.nameres.specs.Resolution.{Nameable, Scoped}
use Rattle.nameres.proofs.SoundNames.{kind_at}

pub answer_held : (text_of : NameId → Text) (w : Scopes) (t : Text) (o : Option ScopeId) (a : Answer) (es : List ExprId) → Nameable w
    → answer_with a es ≡ answer_at text_of w.scopes t o → answer_word a ≡ absent → ⊥
answer_held text_of w t o a es h e = has_word a es (rw e (answer_at_in name_limit expr_limit w h.kinds text_of t o))

pub word_fits : (text_of : NameId → Text) (s : List ℕ) (t : Text) (o : Option ScopeId) (a : Answer) (es : List ExprId) → Scoped s
    → answer_with a es ≡ answer_at text_of (scopes_in s).scopes t o → answer_word a < 24 + word s name_count
word_fits text_of s t o a es h e =
    word_in a es (word s name_count) (word s expr_count) h.few_names (rw e (answer_at_in (word s name_count) (word s expr_count) (scopes_in s) (kind_at s h) text_of t o))
