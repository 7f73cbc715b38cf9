-- Walking in a store: what is read of a scope, the steps that open scopes and place expressions, and what each did to
-- the bytes.
use Rattle.std.specs.Prelude.{◌≡◌, Bool, ◌&&◌, List, [], ◌∷◌, ◌++◌, ℕ, ◌+◌, ◌*◌, ◌≤◌, ◌<◌, length, replicate, ltb, leb, if◌then◌else◌}
use Rattle.std.proofs.Math.Option.{Option, none, some}
use Rattle.words.specs.Words.{word}
use Rattle.spec.specs.Basics.{ExprId, NameId, ScopeId}
use Rattle.spec.specs.Scopes.{ScopeKind, definitions, with_expr, Scope, Walk, place_expr, open_scope}
use Rattle.layout.specs.Layout.{expr_limit, name_limit, scope_limit, scope_row, scope_count, uses_at, scopes_at, entered_at, firsts_at}
use Rattle.layout.specs.Rows.{cap, rows_to}
use Rattle.layout.specs.Changes.{Range, Wrote, Still}
use Rattle.layout.specs.States.{exprs_of}
use Rattle.layout.specs.Keeps.{first_entered, scope_in, scopes_in}

-- ---- reading
-- the names that are entered in a scope, and its With
unfoldable pub names_entered : ScopeKind → List NameId
names_entered (definitions xs) = xs
names_entered (with_expr e) = []

unfoldable pub with_of : ScopeKind → Option ExprId
with_of (definitions xs) = none
with_of (with_expr e) = some e

-- the word k of a scope's row, and 0 where there is no such scope
unfoldable pub scope_word : List ℕ → ScopeId → ℕ → ℕ
scope_word s i k = if ltb i (cap (word s scope_count) scope_limit) then word s (scopes_at + scope_row * i + k) else 0

-- ---- steps: one that finds no room, or is given a number that no row can have, leaves everything as it was
unfoldable pub entered_by : List Scope → ℕ
entered_by [] = 0
entered_by (s ∷ ss) = length (names_entered s.kind) + entered_by ss

unfoldable pub kind_fits : List Scope → ScopeKind → Bool
kind_fits ss (definitions xs) = leb (entered_by ss + length xs) name_limit
kind_fits ss (with_expr e) = ltb e expr_limit

unfoldable pub try_open : ScopeKind → ScopeId → Walk ScopeId
try_open k parent w =
    if ltb (length w.scopes) scope_limit && (ltb parent scope_limit && kind_fits w.scopes k) then open_scope k parent w
    else (scope_limit, w)

unfoldable pub try_place : ExprId → ScopeId → Walk (Unit {0})
try_place e s w = if ltb s scope_limit then place_expr e s w else (tt, w)

-- the scope around everything
abbrev pub root : Scope
root = record { parent = none; kind = definitions [] }

unfoldable pub try_root : Walk (Unit {0})
try_root w =
    if ltb (length w.scopes) scope_limit then (tt, record { scopes = w.scopes ++ (root ∷ []); of_expr = w.of_expr })
    else (tt, w)

-- ---- what a step did
-- the number of scopes; the scope of each expression (and its answer), the scopes, the names entered
unfoldable pub walking : List Range
walking = (scope_count, scope_count + 4) ∷ (uses_at, firsts_at) ∷ []

-- how many names are entered in all: where those of the next scope will begin
unfoldable pub used_names : List ℕ → ℕ
used_names s = first_entered s (cap (word s scope_count) scope_limit)

-- the first n of the names that wait for the next scope
unfoldable pub waiting_names : List ℕ → ℕ → List NameId
waiting_names s n = rows_to (λ k. word s (entered_at + 4 * (used_names s + k))) n

-- The scopes are what decoding takes them for. Their names lie one after the other from 0 on, each scope's right after
-- those of the scope ahead of it, and all that are entered fit; a scope for a With has none.
pub record Neat (s : List ℕ) : Type 0 where
  pub counted : word s scope_count ≤ scope_limit
  pub begins : first_entered s 0 ≡ 0
  pub follows : (i : ScopeId) → i < word s scope_count → first_entered s (i + 1) ≡ first_entered s i + length (names_entered (scope_in s i).kind)
  pub few : used_names s ≤ name_limit

-- From the store s the step gave r and left the store t; the module, the kept references, the nodes and the texts are
-- as they were.
pub record Walked {A : Type 0} (p : Walk A) (s : List ℕ) (r : A) (t : List ℕ) : Type 0 where
  pub wrote : Wrote walking s t
  pub still : Still s t
  pub does : Neat s → ((r, scopes_in t) ≡ p (scopes_in s)) × Neat t

-- There is no scope, and no expression is in one.
pub record Emptied (s t : List ℕ) : Type 0 where
  pub wrote : Wrote walking s t
  pub still : Still s t
  pub is : scopes_in t ≡ record { scopes = []; of_expr = replicate (length (exprs_of s)) none }
  pub neat : Neat t

-- The name x waits after the first i; no scope is another.
pub record Waits (i : ℕ) (x : NameId) (s t : List ℕ) : Type 0 where
  pub wrote : Wrote walking s t
  pub still : Still s t
  pub same : Neat s → (scopes_in t ≡ scopes_in s) × Neat t
  pub used : used_names t ≡ used_names s
  pub waits : used_names s + i < name_limit → waiting_names t (i + 1) ≡ waiting_names s i ++ (x ∷ [])
