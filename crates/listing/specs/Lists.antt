-- Kept references in a store, listed anew from the kept answers.
use Rattle.std.specs.Prelude.{◌≡◌, List, [], ◌∷◌, ◌++◌, ℕ, ◌+◌, ◌*◌, ◌≤◌, ◌<◌, length}
use Rattle.words.specs.Words.{word}
use Rattle.spec.specs.Basics.{NameId}
use Rattle.spec.specs.Kept.{tabulate, answered_with}
use Rattle.layout.specs.Layout.{expr_limit, name_limit, reference_limit, expr_count, name_count, firsts_at, references_at, waiting_at, nexts_at, sets_at}
use Rattle.layout.specs.Rows.{cap, rows_to}
use Rattle.layout.specs.Changes.{Range, Wrote, Still}
use Rattle.layout.specs.Keeps.{first_reference, kept_in}
use Rattle.kept.specs.References.{listed_by, lists_to, Listed, with_references, Relisted}
use Rattle.listing.specs.Links.{head_of, Chained, answered_from}

-- where references begin, and references; the room of the items that wait
unfoldable pub relisting : List Range
relisting = (firsts_at, waiting_at) ∷ (nexts_at, sets_at) ∷ []

-- The kept references are those that the kept answers say, and nothing else that is kept is another. Their lists lie
-- one after the other, and what they list are expressions in use.
pub record Lists (s t : List ℕ) : Type 0 where
  pub wrote : Wrote relisting s t
  pub still : Still s t
  pub listed : Listed (cap (word s name_count) name_limit) t
  pub exprs : (j : ℕ) → j < first_reference t (cap (word s name_count) name_limit) → word t (references_at + 4 * j) < cap (word s expr_count) expr_limit
  pub does : kept_in t ≡ with_references (tabulate (λ x. answered_with x 0 (kept_in s).answers) 0 (kept_in s).lowered.names) (kept_in s)

-- ---- the way there
-- The references of the name x are linked, the names before it have their lists, and there is room.
pub record Listable (x : NameId) (s : List ℕ) : Type 0 where
  pub name : x < name_limit
  pub chain : Chained s (head_of s x) (answered_from s 0 x)
  pub listed : Listed x s
  pub room : listed_by (lists_to s x) + length (answered_from s 0 x) ≤ reference_limit

-- The list of the name x comes after those of the names before it.
pub record ListsOne (x : NameId) (s t : List ℕ) : Type 0 where
  pub relisted : Relisted s t
  pub listed : Listed (x + 1) t
  pub lists : lists_to t (x + 1) ≡ lists_to s x ++ (answered_from s 0 x ∷ [])

-- The first n names have their lists.
pub record ListsAll (n : ℕ) (s t : List ℕ) : Type 0 where
  pub relisted : Relisted s t
  pub listed : Listed n t
  pub lists : lists_to t n ≡ rows_to (answered_from s 0) n
