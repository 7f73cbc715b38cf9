-- A text that a name or a Reference gets: what it makes of the module, and which word is written.
use Rattle.std.specs.Prelude.{◌≡◌, List, [], ◌∷◌, ℕ, ◌+◌, ◌*◌, ◌≤◌, ◌<◌}
use Rattle.std.proofs.Math.Option.{Option, none, some}
use Rattle.words.specs.Words.{word}
use Rattle.spec.specs.Basics.{Text, ExprId, NameId}
use Rattle.spec.specs.Module.{Module}
use Rattle.spec.specs.Scopes.{expr_at}
use Rattle.spec.specs.Answer.{reference_text}
use Rattle.spec.specs.Calls.{set_name, set_reference}
use Rattle.layout.specs.Layout.{expr_limit, name_limit, expr_row, name_row, expr_count, name_count, exprs_at, names_at}
use Rattle.layout.specs.Rows.{cap}
use Rattle.layout.specs.Changes.{Wrote, Still}
use Rattle.layout.specs.Texts.{text_in}
use Rattle.layout.specs.Exprs.{sort_of}
use Rattle.layout.specs.States.{module_in}

-- The name x has the text with the number k, and nothing else is another.
pub record Renamed (x : NameId) (k : ℕ) (s t : List ℕ) : Type 0 where
  pub wrote : Wrote ((names_at + name_row * x, names_at + name_row * x + 4) ∷ []) s t
  pub still : Still s t
  pub does : module_in t ≡ set_name x (text_in s k) (module_in s)
  pub row : x < cap (word s name_count) name_limit → word t (names_at + name_row * x) ≡ k
  pub past : cap (word s name_count) name_limit ≤ x → t ≡ s

-- one of two modules, by whether there is a text
unfoldable pub where_text : Option Text → Module → Module → Module
where_text none a b = b
where_text (some t) a b = a

-- of a Reference alone
unfoldable pub set_if_reference : ExprId → Text → Module → Module
set_if_reference e t m = where_text (reference_text (expr_at m e)) (set_reference e t m) m

-- The Reference e has the text with the number k, and nothing else is another.
pub record Reworded (e : ExprId) (k : ℕ) (s t : List ℕ) : Type 0 where
  pub wrote : Wrote ((exprs_at + expr_row * e + 8, exprs_at + expr_row * e + 12) ∷ []) s t
  pub still : Still s t
  pub does : module_in t ≡ set_if_reference e (text_in s k) (module_in s)
  pub row : e < cap (word s expr_count) expr_limit → sort_of s e ≡ 21 → word t (exprs_at + expr_row * e + 8) ≡ k
  pub past : cap (word s expr_count) expr_limit ≤ e → t ≡ s
  pub other : (sort_of s e ≡ 21 → ⊥) → t ≡ s
