-- The Withs of a chain, one scope after the other. Assumes nothing.
use mathlib.Core.Path.{◌≡◌, refl, sym, ap, ◌∙◌}
use mathlib.Core.Bool.{Bool, true, false, cond, ◌||◌}
use mathlib.Core.List.{List, [], ◌∷◌, ◌++◌}
use mathlib.Core.Option.{none, some}
use Prim.Native.Nat.{ℕ, suc, ◌≤◌}
use native.Mathlib.Omega.{arith}
use lib.Dec.{ltb}
use borrow.Author.Tests.{ltb-true, ltb-false}
use lib.ListN.{length, length-append, get_or-eq_default}
use Rattle.words.specs.Words.{word}
use Rattle.spec.specs.Scopes.{ScopeKind, definitions, with_expr, Scope}
use Rattle.spec.specs.Answer.{scope_at, chain_to, chain, if_with, withs_of}
use Rattle.module.specs.declared.ids.ExprId.{ExprId}
use Rattle.module.specs.Ids.{expr_of}
use Rattle.layout.specs.Layout.{scope_limit, scope_count}
use Rattle.layout.specs.Keeps.{scopes_in}
use Rattle.layout.proofs.RowLaws.{cap_lim}
use Rattle.kept.specs.Walks.{with_of, root}
use Rattle.kept.proofs.ScopeReads.{length_scopes}
use Rattle.resolve.specs.Withs.{some_of}
use Rattle.resolve.proofs.ChainLaws.{not_some, chain_none, chain_low}
use Rattle.std.specs.List.{list_any, filter}
use Rattle.std.specs.Option.{is_some}
use Rattle.std.specs.Prelude as rust

-- ---- one scope
pub with_is : (k : ScopeKind) {e : ℕ} → some e ≡ with_of k → if_with k ≡ e ∷ []
unfolding with_of if_with
with_is (definitions xs) h = absurd (not_some (sym h))
with_is (with_expr f) h = cc

pub with_none : (k : ScopeKind) → none ≡ with_of k → if_with k ≡ []
unfolding with_of if_with
with_none (definitions xs) h = refl
with_none (with_expr f) h = absurd (not_some h)

pub own_with : (k : ScopeKind) (r : rust.Option ExprId) → expr_of r ≡ with_of k → is_some r ≡ some_of (if_with k)
unfolding expr_of with_of some_of if_with
own_with (definitions xs) rust.None h = refl
own_with (definitions xs) (rust.Some x) h = absurd (not_some (sym h))
own_with (with_expr e) rust.None h = absurd (not_some h)
own_with (with_expr e) (rust.Some x) h = refl

own_low : (k : ScopeKind) → length (if_with k) ≤ 1
unfolding if_with
own_low (definitions xs) = omega arith
own_low (with_expr e) = omega arith

either : (k : ScopeKind) (es : List ℕ) → (some_of (if_with k) || some_of es) ≡ some_of (if_with k ++ es)
unfolding some_of if_with
either (definitions xs) es = refl
either (with_expr e) es = refl

counted : (k : ScopeKind) (s : ℕ) (ss es : List ℕ) → length ss ≡ length es → length (cond (some_of (if_with k)) (s ∷ ss) ss) ≡ length (if_with k ++ es)
unfolding some_of if_with
counted (definitions xs) s ss es h = h
counted (with_expr e) s ss es h = ap suc h

-- ---- all of a chain
module _ (scopes : List Scope) where
  abbrev pub with_at : ℕ → Bool
  with_at i = some_of (if_with (scope_at scopes i).kind)

  pub any_with : (ss : List ℕ) → list_any with_at ss ≡ some_of (withs_of scopes ss)
  unfolding withs_of some_of
  any_with [] = refl
  any_with (s ∷ ss) = ap (λ (b : Bool). with_at s || b) (any_with ss) ∙ either (scope_at scopes s).kind (withs_of scopes ss)

  pub count_with : (ss : List ℕ) → length (filter with_at ss) ≡ length (withs_of scopes ss)
  unfolding withs_of
  count_with [] = refl
  count_with (s ∷ ss) = counted (scope_at scopes s).kind s _ _ (count_with ss)

  withs_low : (ss : List ℕ) → length (withs_of scopes ss) ≤ length ss
  unfolding withs_of
  withs_low [] = omega arith
  withs_low (s ∷ ss) = omega (arith, withs_low ss, own_low (scope_at scopes s).kind, length-append (if_with (scope_at scopes s).kind) (withs_of scopes ss))

  -- a number that is no scope's
  past_root : (a : ℕ) → length scopes ≤ a → scope_at scopes a ≡ root
  unfolding scope_at
  past_root a h = get_or-eq_default scopes root {n = a} h

  none_past : (a : ℕ) → length scopes ≤ a → length (withs_of scopes (chain scopes a)) ≡ 0
  unfolding withs_of if_with chain chain_to
  none_past a h = rw (past_root a h, chain_none scopes a) refl

pub few_withs : (s : List ℕ) (a : ℕ) → length (withs_of (scopes_in s).scopes (chain (scopes_in s).scopes a)) ≤ scope_limit
few_withs s a = go (ltb a (length (scopes_in s).scopes)) refl
  where
    go : (b : Bool) → ltb a (length (scopes_in s).scopes) ≡ b → length (withs_of (scopes_in s).scopes (chain (scopes_in s).scopes a)) ≤ scope_limit
    go true h =
        omega (arith, ltb-true a (length (scopes_in s).scopes) h, length_scopes s, cap_lim (word s scope_count) scope_limit, withs_low (scopes_in s).scopes (chain (scopes_in s).scopes a), chain_low (scopes_in s).scopes a)
    go false h = omega (arith, none_past (scopes_in s).scopes a (ltb-false a (length (scopes_in s).scopes) h))
