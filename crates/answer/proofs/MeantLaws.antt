-- The name that an answer of the definitions means, by the code's answer. Assumes nothing.
use mathlib.Core.Path.{◌≡◌, refl}
use mathlib.Core.List.{List}
use mathlib.Core.Option.{none}
use Prim.Native.Nat.{ℕ}
use Rattle.answer.specs.declared.answer.Answer.{Answer}
use Rattle.answer.specs.declared.answer.Answer.TheVariants.{Unresolved, Definition, Builtin, Withs}
use Rattle.answer.specs.Answers.{answer_with, maybe_with, meant_by, meant}
use Rattle.std.specs.Prelude as rust

pub meant_some : (a : Answer) (es : List ℕ) → meant (maybe_with (rust.Some a) es) ≡ meant_by a
unfolding maybe_with meant meant_by answer_with
meant_some Unresolved es = refl
meant_some (Definition x) es = refl
meant_some (Builtin i) es = refl
meant_some Withs es = refl

pub meant_none : (es : List ℕ) → meant (maybe_with rust.None es) ≡ none
unfolding maybe_with meant
meant_none es = refl
