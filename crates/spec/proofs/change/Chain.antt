-- What a text means in a scope depends only on the texts of the names that the scope and those around it hold. Assumes
-- nothing.
use Rattle.std.specs.Prelude.{if◌then◌else◌}
use mathlib.Core.Path.{◌≡◌, refl, ap}
use mathlib.Core.Bool.{true}
use mathlib.Core.List.{List, [], ◌∷◌}
use mathlib.Core.Option.{Option, none, some}
use Rattle.words.specs.Equality.{equalb}
use Rattle.spec.specs.Basics.{Text, NameId, ScopeId}
use Rattle.spec.specs.Scopes.{ScopeKind, definitions, with_expr, Scope, is_in, holds}
use Rattle.spec.specs.Answer.{scope_at, chain, last_with, defined_in, innermost, after_definitions, answer_in, answer_at}
use Rattle.spec.proofs.general.ListLaws.{is_in_first, is_in_rest}

-- a name that a scope of the list holds
abbrev pub HeldIn : List Scope → List ScopeId → NameId → Type 0
HeldIn scopes ss x = (s : ScopeId) × (is_in s ss ≡ true) × (holds x (scope_at scopes s).kind ≡ true)

-- a name in reach of a scope: the scope itself or one around it holds it; where there is no scope, none is
abbrev pub InReach : List Scope → Option ScopeId → NameId → Type 0
InReach scopes none x = ⊥
InReach scopes (some s) x = HeldIn scopes (chain scopes s) x

-- Two texts of names that, of the names in question, give the text t to the same ones.
module _ (f g : NameId → Text) (t : Text) where
  last_with_same : (found : Option NameId) (xs : List NameId) → ((x : NameId) → is_in x xs ≡ true → equalb (f x) t ≡ equalb (g x) t)
      → last_with f t found xs ≡ last_with g t found xs
  unfolding last_with
  last_with_same found [] h = refl
  last_with_same found (x ∷ xs) h = rw (h x (is_in_first x xs)) (last_with_same (if equalb (g x) t then some x else found) xs (λ y p. h y (is_in_rest y x xs p)))

  defined_in_same : (k : ScopeKind) → ((x : NameId) → holds x k ≡ true → equalb (f x) t ≡ equalb (g x) t) → defined_in f t k ≡ defined_in g t k
  unfolding defined_in holds
  defined_in_same (definitions xs) h = last_with_same none xs h
  defined_in_same (with_expr e) h = refl

  module _ (scopes : List Scope) where
    -- they are searched to the same end
    pub innermost_same : (ss : List ScopeId) → ((x : NameId) → HeldIn scopes ss x → equalb (f x) t ≡ equalb (g x) t)
        → innermost f scopes t ss ≡ innermost g scopes t ss
    unfolding innermost
    innermost_same [] h = refl
    innermost_same (s ∷ ss) h =
        rw (
          defined_in_same (scope_at scopes s).kind (λ x p. h x (s, is_in_first s ss, p)),
          innermost_same ss (λ x p. h x (p.0, is_in_rest p.0 s ss p.1, p.2)),
        )

    pub answer_at_same : (s : Option ScopeId) → ((x : NameId) → InReach scopes s x → equalb (f x) t ≡ equalb (g x) t)
        → answer_at f scopes t s ≡ answer_at g scopes t s
    unfolding answer_at answer_in
    answer_at_same none h = refl
    answer_at_same (some s) h = ap (after_definitions scopes t (chain scopes s)) (innermost_same (chain scopes s) h)

-- THEOREM. If two ways of naming agree on every name that a scope of the list holds, then the search of the list comes
-- to the same scope and name, or to nothing in both.
pub innermost_agree : (f g : NameId → Text) (scopes : List Scope) (t : Text) (ss : List ScopeId) → ((x : NameId) → HeldIn scopes ss x → f x ≡ g x)
    → innermost f scopes t ss ≡ innermost g scopes t ss
innermost_agree f g scopes t ss h = innermost_same f g t scopes ss (λ x p. rw (h x p))

-- THEOREM. So what a text means in a scope depends on that text and on the texts of the names in reach alone.
pub answer_at_agree : (f g : NameId → Text) (scopes : List Scope) (t : Text) (s : Option ScopeId) → ((x : NameId) → InReach scopes s x → f x ≡ g x)
    → answer_at f scopes t s ≡ answer_at g scopes t s
answer_at_agree f g scopes t s h = answer_at_same f g t scopes s (λ x p. rw (h x p))
