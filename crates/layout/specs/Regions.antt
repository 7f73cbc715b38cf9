-- Which bytes of a store the steps above this layer may write. The ranges are named here, so that no contract above
-- mentions an offset.
use Rattle.std.specs.Prelude.{◌+◌, List, [], ◌∷◌}
use Rattle.layout.specs.Layout.{expr_count, scope_count, spent_place, texts_place, waiting_count, entry_count, exprs_at, expr_pointers_at, names_at, name_pointers_at, uses_at, scopes_at, firsts_at, waiting_at, sets_at, sheet_at, texts_at, store_bytes}
use Rattle.layout.specs.Changes.{Range}

-- lowering a module: the counts and the entry, the counts of the work, the module, the work room
unfoldable pub writing : List Range
writing = (expr_count, scope_count) ∷ (waiting_count, entry_count + 8) ∷ (exprs_at, uses_at) ∷ (waiting_at, sheet_at) ∷ []

-- bringing a sheet in: the bytes of texts in use; the nodes, their kids and the texts
unfoldable pub bringing : List Range
bringing = (texts_place, texts_place + 4) ∷ (sheet_at, store_bytes) ∷ []

-- kept answers, beside the scope of each expression
abbrev pub answering : List Range
answering = (uses_at, scopes_at) ∷ []

-- these, kept references and the room where they are listed
abbrev pub resolving : List Range
resolving = (uses_at, scopes_at) ∷ (firsts_at, sets_at) ∷ []

-- the change room that is spent
abbrev pub spending : List Range
spending = (spent_place, spent_place + 4) ∷ []

-- a change of a text: the room spent and the bytes of texts in use; expressions; texts of names; answers; kept
-- references and the room where they are listed; texts
unfoldable pub changing : List Range
changing = (spent_place, texts_place + 4) ∷ (exprs_at, expr_pointers_at) ∷ (names_at, name_pointers_at) ∷ (uses_at, scopes_at) ∷ (firsts_at, sets_at) ∷ (texts_at, store_bytes) ∷ []

-- all that is kept of a module: the count of scopes and the room spent; scopes, names entered, answers, kept references
-- and the room where they are listed
unfoldable pub keeping : List Range
keeping = (scope_count, texts_place) ∷ (uses_at, sets_at) ∷ []
