-- The counts as the check has read them, and what it knows of them once they fit.
use Rattle.std.specs.Prelude.{◌≡◌, List, ℕ, ◌≤◌}
use Rattle.words.specs.Words.{word}
use Rattle.layout.specs.Layout.{Long, expr_count, name_count, diagnostic_count, scope_count, texts_place, expr_limit, name_limit, diagnostic_limit, scope_limit, text_limit}
use Rattle.soundness.specs.declared.counts.Counts.{Counts}

pub record Taken (s : List ℕ) (c : Counts) : Type 0 where
  pub exprs : c.exprs ≡ word s expr_count
  pub names : c.names ≡ word s name_count
  pub diagnostics : c.diagnostics ≡ word s diagnostic_count
  pub scopes : c.scopes ≡ word s scope_count
  pub texts : c.texts ≡ word s texts_place

-- within their limits, so that every row that they count lies in the store
pub record Counted (s : List ℕ) (c : Counts) : Type 0 where
  pub long : Long s
  pub taken : Taken s c
  pub few_exprs : c.exprs ≤ expr_limit
  pub few_names : c.names ≤ name_limit
  pub few_diagnostics : c.diagnostics ≤ diagnostic_limit
  pub few_scopes : c.scopes ≤ scope_limit
  pub short_texts : c.texts ≤ text_limit
