-- An answer of the code is that of the definitions. Assumes nothing.
use Rattle.std.specs.Prelude.{Some, None}
use mathlib.Core.Path.{◌≡◌, refl, sym, ap, ◌∙◌}
use mathlib.Core.Bool.{Bool, true, false}
use mathlib.Core.List.{List, [], ◌∷◌}
use mathlib.Core.Option.{none, some}
use Prim.Native.Nat.{ℕ}
use Rattle.spec.specs.Basics.{Text}
use Rattle.spec.specs.Scopes.{Scope, Scopes}
use Rattle.spec.specs.Answer as spec
use Rattle.spec.specs.Answer.{chain, withs_of, some_withs, after_builtins, after_definitions, answer_in, answer_at, innermost, scope_of_expr, builtins, index_from}
use Rattle.module.specs.declared.ids.NameId.{NameId}
use Rattle.module.specs.declared.ids.ScopeId.{ScopeId}
use Rattle.answer.specs.declared.answer.Answer.{Answer}
use Rattle.answer.specs.declared.answer.Answer.TheVariants.{Unresolved, Definition, Builtin, Withs}
use Rattle.answer.specs.Answers.{answer_with}
use Rattle.kept.specs.Answers.{withs_in, withs_at}
use Rattle.builtins.specs.Lookup.{builtin_of, Looked}
use Rattle.resolve.specs.Search.{found_of}
use Rattle.resolve.specs.Withs.{some_of}
use Rattle.std.specs.Prelude as rust

-- ---- what no definition answers
module _ {r : rust.Option ℕ} (es : List ℕ) {t : Text} where
  pub builtin_there : {i : ℕ} → r ≡ Some i → Looked r t → answer_with (Builtin i) es ≡ after_builtins es (index_from 0 t builtins)
  unfolding answer_with after_builtins builtin_of
  builtin_there e l = sym (ap (after_builtins es) (sym l.is) ∙ ap (λ (q : rust.Option ℕ). after_builtins es (builtin_of q)) e)

  no_builtin : r ≡ None → Looked r t → after_builtins es (index_from 0 t builtins) ≡ some_withs es
  unfolding after_builtins builtin_of
  no_builtin e l = ap (after_builtins es) (sym l.is) ∙ ap (λ (q : rust.Option ℕ). after_builtins es (builtin_of q)) e

  pub withs_there : {b : Bool} → r ≡ None → Looked r t → b ≡ some_of es → b ≡ true → answer_with Withs es ≡ after_builtins es (index_from 0 t builtins)
  unfolding answer_with some_of some_withs
  withs_there e l h q = listed es (sym h ∙ q) ∙ sym (no_builtin e l)
    where
      listed : (ds : List ℕ) → some_of ds ≡ true → spec.withs ds ≡ some_withs ds
      listed [] z = cc
      listed (d ∷ ds) z = refl

  pub withs_lacking : {b : Bool} → r ≡ None → Looked r t → b ≡ some_of es → b ≡ false → answer_with Unresolved es ≡ after_builtins es (index_from 0 t builtins)
  unfolding answer_with some_of some_withs
  withs_lacking e l h q = empty es (sym h ∙ q) ∙ sym (no_builtin e l)
    where
      empty : (ds : List ℕ) → some_of ds ≡ false → spec.unresolved ≡ some_withs ds
      empty [] z = refl
      empty (d ∷ ds) z = cc

-- ---- after the definition that was found
module _ (text_of : ℕ → Text) (scopes : List Scope) (t : Text) (ss : List ℕ) (f : rust.Option (ScopeId × NameId)) (found : found_of f ≡ innermost text_of scopes t ss) where
  asked : {g : rust.Option (ScopeId × NameId)} → f ≡ g → answer_in text_of scopes t ss ≡ after_definitions scopes t ss (found_of g)
  unfolding answer_in
  asked e = ap (after_definitions scopes t ss) (sym found) ∙ ap (λ (g : rust.Option (ScopeId × NameId)). after_definitions scopes t ss (found_of g)) e

  pub defined_is : {s : ScopeId} {x : NameId} → f ≡ rust.Some (s, x) → answer_with (Definition x) (withs_of scopes ss) ≡ answer_in text_of scopes t ss
  unfolding answer_with found_of after_definitions
  defined_is e = sym (asked e)

  pub undefined_is : (b : Answer) → f ≡ rust.None → answer_with b (withs_of scopes ss) ≡ after_builtins (withs_of scopes ss) (index_from 0 t builtins) → answer_with b (withs_of scopes ss) ≡ answer_in text_of scopes t ss
  unfolding found_of after_definitions
  undefined_is b e h = h ∙ sym (asked e)

-- ---- by the scope of an expression
module _ (text_of : ℕ → Text) (w : Scopes) (t : Text) (e : ℕ) where
  pub in_scope : {i : ℕ} (b : Answer) → some i ≡ scope_of_expr w e → answer_with b (withs_of w.scopes (chain w.scopes i)) ≡ answer_in text_of w.scopes t (chain w.scopes i) → answer_with b (withs_at w e) ≡ answer_at text_of w.scopes t (scope_of_expr w e)
  unfolding withs_at withs_in answer_at
  in_scope b h q = rw (← h) q

  pub in_none : none ≡ scope_of_expr w e → answer_with Unresolved (withs_at w e) ≡ answer_at text_of w.scopes t (scope_of_expr w e)
  unfolding answer_with answer_at
  in_none h = rw (← h)
