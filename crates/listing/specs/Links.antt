-- References linked in the work room: of every name where its list begins, of every expression which comes after it,
-- each one too high with 0 for the end.
use Rattle.std.specs.Prelude.{◌≡◌, List, [], ◌∷◌, ℕ, ◌+◌, ◌*◌, ◌<◌, drop}
use Rattle.words.specs.Words.{word}
use Rattle.spec.specs.Basics.{ExprId, NameId}
use Rattle.spec.specs.Kept.{answered_with}
use Rattle.layout.specs.Layout.{name_limit, name_count, nexts_at, heads_at, sets_at}
use Rattle.layout.specs.Rows.{cap}
use Rattle.layout.specs.Changes.{Range, Wrote, Still}
use Rattle.layout.specs.Keeps.{kept_in}

-- ---- the room of the items that wait: a word for every expression, and after these a word for every name
unfoldable pub linking : List Range
linking = (nexts_at, sets_at) ∷ []

unfoldable pub next_of : List ℕ → ExprId → ℕ
next_of s e = word s (nexts_at + 4 * e)

unfoldable pub head_of : List ℕ → NameId → ℕ
head_of s x = word s (heads_at + 4 * x)

-- from a number that stands one too high the links lead through these expressions, and no further
unfoldable pub Chained : List ℕ → ℕ → List ExprId → Type 0
Chained s at [] = at ≡ 0
Chained s at (e ∷ es) = (at ≡ e + 1) × Chained s (next_of s e) es

-- the expressions from e on that are answered with the name x
unfoldable pub answered_from : List ℕ → ExprId → NameId → List ExprId
answered_from s e x = answered_with x e (drop e (kept_in s).answers)

-- Of each of the first n names the references from the expression e on are linked.
pub record Linked (n : ℕ) (e : ExprId) (s : List ℕ) : Type 0 where
  pub chain : (x : NameId) → x < n → Chained s (head_of s x) (answered_from s e x)

-- ---- what each step did
-- The expression e is linked before those after it.
pub record LinksOne (n : ℕ) (e : ExprId) (s t : List ℕ) : Type 0 where
  pub wrote : Wrote linking s t
  pub still : Still s t
  pub links : Linked n (e + 1) s → Linked n e t

-- All expressions are linked, where none was.
pub record LinksAll (n : ℕ) (s t : List ℕ) : Type 0 where
  pub wrote : Wrote linking s t
  pub still : Still s t
  pub links : ((x : NameId) → x < n → head_of s x ≡ 0) → Linked n 0 t

-- The references of every name are linked.
pub record Links (s t : List ℕ) : Type 0 where
  pub wrote : Wrote linking s t
  pub still : Still s t
  pub linked : Linked (cap (word s name_count) name_limit) 0 t
