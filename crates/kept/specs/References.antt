-- Kept references in a store: the lists of all names are written anew, name by name.
use Rattle.std.specs.Prelude.{◌≡◌, List, [], ◌∷◌, ◌++◌, ℕ, ◌+◌, ◌*◌, ◌≤◌, ◌<◌, length}
use Rattle.words.specs.Words.{word}
use Rattle.spec.specs.Basics.{ExprId, NameId}
use Rattle.spec.specs.Kept.{Kept}
use Rattle.layout.specs.Layout.{name_limit, reference_limit, firsts_at, references_at, waiting_at}
use Rattle.layout.specs.Rows.{rows_to}
use Rattle.layout.specs.Changes.{Range, Wrote, Still}
use Rattle.layout.specs.Keeps.{first_reference, references_of, kept_in}

-- where references begin, and references
unfoldable pub listing : List Range
listing = (firsts_at, waiting_at) ∷ []

unfoldable pub listed_by : List (List ExprId) → ℕ
listed_by [] = 0
listed_by (es ∷ ess) = length es + listed_by ess

-- the lists of the names before x
unfoldable pub lists_to : List ℕ → NameId → List (List ExprId)
lists_to s x = rows_to (references_of s) x

-- the first n of the references that wait for the name x
unfoldable pub waiting_for : List ℕ → NameId → ℕ → List ExprId
waiting_for s x n = rows_to (λ k. word s (references_at + 4 * (first_reference s x + k))) n

-- The lists of the names before x lie one after the other from the first reference on, they end where those of x begin,
-- and they fit.
pub record Listed (x : NameId) (s : List ℕ) : Type 0 where
  pub begins : first_reference s 0 ≡ 0
  pub rises : (y : NameId) → y < x → first_reference s y ≤ first_reference s (y + 1)
  pub few : first_reference s x ≤ reference_limit
  pub below : (y : NameId) → y < x → first_reference s y ≤ first_reference s x
  pub all : first_reference s x ≡ listed_by (lists_to s x)

unfoldable pub with_references : List (List ExprId) → Kept → Kept
with_references ess k = record { lowered = k.lowered; scopes = k.scopes; answers = k.answers; references = ess; spent = k.spent }

-- Nothing but kept references is another.
pub record Relisted (s t : List ℕ) : Type 0 where
  pub wrote : Wrote listing s t
  pub still : Still s t
  pub rest : kept_in t ≡ with_references (kept_in t).references (kept_in s)

-- The list of no name is written yet.
pub record Unlisted (s t : List ℕ) : Type 0 where
  pub relisted : Relisted s t
  pub listed : Listed 0 t

-- The reference e waits after the first i of the name x; the lists of the names before x are as they were.
pub record Refers (x : NameId) (i : ℕ) (e : ExprId) (s t : List ℕ) : Type 0 where
  pub relisted : Relisted s t
  pub same : Listed x s → (lists_to t x ≡ lists_to s x) × Listed x t
  pub waits : x < name_limit → first_reference s x + i < reference_limit → waiting_for t x (i + 1) ≡ waiting_for s x i ++ (e ∷ [])

-- The list of the name x is that of the first n that wait, if all fit.
pub record Ended (x : NameId) (n : ℕ) (s t : List ℕ) : Type 0 where
  pub relisted : Relisted s t
  pub does : Listed x s → x < name_limit → listed_by (lists_to s x) + n ≤ reference_limit → (lists_to t (x + 1) ≡ lists_to s x ++ (waiting_for s x n ∷ [])) × Listed (x + 1) t
