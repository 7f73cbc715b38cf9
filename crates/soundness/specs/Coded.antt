-- What the bytes of a module have to be beside what they say. Decoding forgets it: a count above its limit, a sort
-- above 28, a tag that does not belong to its sort, a kind above 4, a text past the bytes in use.
use Rattle.std.specs.Prelude.{◌≡◌, Bool, true, ◌&&◌, ◌||◌, not, List, ℕ, ◌+◌, ◌*◌, ◌≤◌, ◌<◌, eqb, leb, if◌then◌else◌}
use Rattle.words.specs.Words.{word}
use Rattle.spec.specs.Basics.{ExprId, NameId}
use Rattle.layout.specs.Layout.{expr_limit, item_limit, name_limit, diagnostic_limit, scope_limit, expr_row, item_row, diagnostic_row, use_row, expr_count, name_count, diagnostic_count, lost_count, scope_count, exprs_at, items_at, diagnostics_at, uses_at}
use Rattle.layout.specs.Exprs.{wide, first_item, sort_of}
use Rattle.texts.specs.Fits.{text_fits}
use Rattle.soundness.specs.Sound.{tag_fits, entry_fits, exprs_fit, name_row_fits, names_fit, diagnostics_fit, scopes_fit}

-- ---- rows
-- a text in use; a float and an integer in their ranges; a sort that there is
unfoldable pub fields_coded : List ℕ → ℕ → ℕ → ℕ → Bool
fields_coded s sort a b =
    if eqb sort 6 || (eqb sort 7 || eqb sort 21) then text_fits s a
    else if eqb sort 4 then leb (wide a b) 9218868437227405312
    else if eqb sort 5 then leb (wide a b) 9223372036854775807
    else leb sort 28

unfoldable pub row_coded : List ℕ → ExprId → Bool
row_coded s e = fields_coded s (sort_of s e) (word s (exprs_at + expr_row * e + 8)) (word s (exprs_at + expr_row * e + 12))

-- a literal part has a text in use
unfoldable pub part_coded : List ℕ → ℕ → ℕ → Bool
part_coded s tag a = not (eqb tag 1) || text_fits s a

-- a tag that belongs to the sort
unfoldable pub item_coded : List ℕ → ℕ → ℕ → Bool
item_coded s sort j = tag_fits sort (word s (items_at + item_row * j)) && part_coded s (word s (items_at + item_row * j)) (word s (items_at + item_row * j + 4))

-- ---- a module
-- its counts and its rows are what decoding takes them for
pub record Coded (s : List ℕ) : Type 0 where
  pub few_exprs : word s expr_count ≤ expr_limit
  pub few_names : word s name_count ≤ name_limit
  pub few_diagnostics : word s diagnostic_count ≤ diagnostic_limit
  pub few_lost : word s lost_count ≤ diagnostic_limit
  -- the items of the first expression begin at 0, and none before those of the expression ahead of it
  pub begins : first_item s 0 ≡ 0
  pub rises : (e : ExprId) → e < word s expr_count → first_item s e ≤ first_item s (e + 1)
  pub few_items : first_item s (word s expr_count) ≤ item_limit
  pub rows : (e : ExprId) → e < word s expr_count → row_coded s e ≡ true
  pub items : (e : ExprId) (j : ℕ) → e < word s expr_count → first_item s e ≤ j → j < first_item s (e + 1) → item_coded s (sort_of s e) j ≡ true
  pub names : (x : NameId) → x < word s name_count → name_row_fits s x ≡ true
  pub diagnostics : (i : ℕ) → i < word s diagnostic_count → text_fits s (word s (diagnostics_at + diagnostic_row * i)) ≡ true

-- the module's part of a sound store
pub record ModuleFits (s : List ℕ) : Type 0 where
  pub few_exprs : word s expr_count ≤ expr_limit
  pub few_names : word s name_count ≤ name_limit
  pub few_diagnostics : word s diagnostic_count ≤ diagnostic_limit
  pub few_lost : word s lost_count ≤ diagnostic_limit
  pub entry : entry_fits s ≡ true
  pub exprs : exprs_fit s ≡ true
  pub names : names_fit s ≡ true
  pub diagnostics : diagnostics_fit s ≡ true

-- the scopes' part: scopes and names entered, and the scope of every expression
pub record ScopesFit (s : List ℕ) : Type 0 where
  pub few : word s scope_count ≤ scope_limit
  pub scopes : scopes_fit s ≡ true
  pub placed : (e : ExprId) → e < word s expr_count → word s (uses_at + use_row * e) ≤ word s scope_count
