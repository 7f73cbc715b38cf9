-- What the bytes of a store say of scopes, kept answers and kept references.
use Rattle.std.specs.Prelude.{List, [], ℕ, ◌+◌, ◌-◌, ◌*◌, eqb, ltb, if◌then◌else◌}
use Rattle.std.proofs.Math.Option.{Option, none, some}
use Rattle.words.specs.Words.{word}
use Rattle.spec.specs.Basics.{ExprId, NameId, ScopeId}
use Rattle.spec.specs.Scopes.{ScopeKind, definitions, with_expr, Scope, Scopes}
use Rattle.spec.specs.Answer.{Answer, unresolved, definition, builtin, withs, chain, withs_of}
use Rattle.spec.specs.Kept.{Kept}
use Rattle.layout.specs.Layout.{expr_limit, name_limit, scope_limit, reference_limit, use_row, scope_row, expr_count, name_count, scope_count, spent_place, uses_at, scopes_at, entered_at, firsts_at, references_at}
use Rattle.layout.specs.Rows.{cap, rows_to, rows_from, raised}
use Rattle.layout.specs.Exprs.{sort_of}
use Rattle.layout.specs.States.{module_in}

-- ---- scopes
unfoldable pub first_entered : List ℕ → ScopeId → ℕ
first_entered s i = word s (scopes_at + scope_row * i)

unfoldable pub entered_of : List ℕ → ScopeId → List NameId
entered_of s i = rows_from (λ j. word s (entered_at + 4 * j)) (cap (first_entered s i) name_limit) (cap (first_entered s (i + 1)) name_limit)

unfoldable pub kind_of_scope : Option ExprId → List NameId → ScopeKind
kind_of_scope none xs = definitions xs
kind_of_scope (some e) xs = with_expr e

unfoldable pub scope_in : List ℕ → ScopeId → Scope
scope_in s i =
    record {
      parent = raised (word s (scopes_at + scope_row * i + 4));
      kind = kind_of_scope (raised (word s (scopes_at + scope_row * i + 8))) (entered_of s i);
    }

unfoldable pub scope_of : List ℕ → ExprId → Option ScopeId
scope_of s e = raised (word s (uses_at + use_row * e))

unfoldable pub scopes_in : List ℕ → Scopes
scopes_in s =
    record {
      scopes = rows_to (scope_in s) (cap (word s scope_count) scope_limit);
      of_expr = rows_to (scope_of s) (cap (word s expr_count) expr_limit);
    }

-- ---- answers: 0 none, 1 the Withs around it, 2 to 23 a built-in name, from 24 on a name
unfoldable pub withs_around : Scopes → Option ScopeId → Answer
withs_around w none = withs []
withs_around w (some i) = withs (withs_of w.scopes (chain w.scopes i))

unfoldable pub answer_of : Scopes → Option ScopeId → ℕ → Answer
answer_of w scope n =
    if eqb n 0 then unresolved
    else if eqb n 1 then withs_around w scope
    else if ltb n 24 then builtin (n - 2)
    else definition (n - 24)

-- of a Reference alone
unfoldable pub answer_in : List ℕ → ExprId → Option Answer
answer_in s e = if eqb (sort_of s e) 21 then some (answer_of (scopes_in s) (scope_of s e) (word s (uses_at + use_row * e + 4))) else none

-- ---- kept references
unfoldable pub first_reference : List ℕ → NameId → ℕ
first_reference s x = word s (firsts_at + 4 * x)

unfoldable pub references_of : List ℕ → NameId → List ExprId
references_of s x =
    rows_from (λ j. word s (references_at + 4 * j)) (cap (first_reference s x) reference_limit) (cap (first_reference s (x + 1)) reference_limit)

unfoldable pub kept_in : List ℕ → Kept
kept_in s =
    record {
      lowered = module_in s;
      scopes = scopes_in s;
      answers = rows_to (answer_in s) (cap (word s expr_count) expr_limit);
      references = rows_to (references_of s) (cap (word s name_count) name_limit);
      spent = word s spent_place;
    }
