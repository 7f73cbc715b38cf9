-- docs/RULES.md, "The condition of a store": "22 store unsound: a count over its limit, a number outside the list that
-- docs/STORE.md gives for it, a parent scope not numbered below its child, or a child expression not numbered below its
-- parent." Of any bytes, by the words of the rows in use.
use Rattle.std.specs.Prelude.{Bool, true, false, ◌&&◌, ◌||◌, not, List, ℕ, zero, suc, ◌+◌, ◌*◌, length, eqb, leb, ltb, if◌then◌else◌}
use Rattle.words.specs.Words.{word}
use Rattle.spec.specs.Basics.{ExprId, NameId, ScopeId}
use Rattle.spec.specs.Calls.{Condition}
use Rattle.layout.specs.Layout.{expr_limit, item_limit, name_limit, diagnostic_limit, scope_limit, reference_limit, room_limit, loaded_text_limit, expr_row, item_row, name_row, diagnostic_row, use_row, scope_row, expr_count, name_count, diagnostic_count, lost_count, entry_place, scope_count, spent_place, texts_place, exprs_at, items_at, names_at, diagnostics_at, uses_at, scopes_at, entered_at, references_at, store_bytes}
use Rattle.layout.specs.Exprs.{wide, first_item, sort_of}
use Rattle.layout.specs.Keeps.{first_entered, first_reference}
use Rattle.texts.specs.Fits.{text_fits}

-- whether all of 0, 1, .., n - 1 pass
unfoldable pub all_to : (ℕ → Bool) → ℕ → Bool
all_to f zero = true
all_to f (suc n) = all_to f n && f n

-- the same from i on, before j
unfoldable pub all_from : (ℕ → Bool) → ℕ → ℕ → Bool
all_from f i j = all_to (λ k. ltb k i || f k) j

-- rows that say where their lists begin: the first begins at 0, none before the one ahead of it, and the last ends
-- within the limit
unfoldable pub ascends : (ℕ → ℕ) → ℕ → ℕ → Bool
ascends first n limit = eqb (first 0) 0 && (all_to (λ i. leb (first i) (first (i + 1))) n && leb (first n) limit)

-- ---- numbers
-- a text: the mark, or one within the bytes in use (`text_fits`)
unfoldable pub expr_fits : List ℕ → ℕ → Bool
expr_fits s e = ltb e (word s expr_count)

unfoldable pub name_fits : List ℕ → ℕ → Bool
name_fits s x = ltb x (word s name_count)

-- the change room, and the texts: always enough for what the room may still bring
unfoldable pub counts_fit : List ℕ → Bool
counts_fit s =
    leb (word s expr_count) expr_limit && (leb (word s name_count) name_limit && (leb (word s diagnostic_count) diagnostic_limit && (leb (word s lost_count) diagnostic_limit
    && (leb (word s scope_count) scope_limit && (leb (word s spent_place) room_limit && leb (word s texts_place) (loaded_text_limit + 5 * word s spent_place))))))

unfoldable pub entry_fits : List ℕ → Bool
entry_fits s = eqb (word s expr_count) 0 || expr_fits s (word s entry_place)

-- ---- expressions: a child is numbered below its parent e
unfoldable pub fields_fit : List ℕ → ExprId → ℕ → ℕ → ℕ → ℕ → Bool
fields_fit s e sort a b c =
    if leb sort 1 then true
    else if eqb sort 2 then ltb a e && ltb b e
    else if eqb sort 3 then ltb a e && (ltb b e && ltb c e)
    else if eqb sort 4 then leb (wide a b) 9218868437227405312
    else if eqb sort 5 then leb (wide a b) 9223372036854775807
    else if leb sort 7 then text_fits s a
    else if eqb sort 8 then true
    else if eqb sort 9 then ltb a e
    else if eqb sort 10 then ltb a e && name_fits s b
    else if eqb sort 11 then ltb a e
    else if eqb sort 12 then ltb a e && name_fits s b
    else if eqb sort 13 then ltb a e
    else if eqb sort 14 then ltb a e && name_fits s b
    else if eqb sort 15 then ltb a e
    else if eqb sort 16 then true
    else if eqb sort 17 then ltb a e && (ltb b e && (leb 1 c && leb c 15))
    else if leb sort 19 then true
    else if eqb sort 20 then leb 1 a && (leb a 2 && ltb b e)
    else if eqb sort 21 then text_fits s a
    else if eqb sort 22 then ltb a e
    else if eqb sort 23 then ltb a e && ltb b e
    else if eqb sort 24 then ltb a e
    else if leb sort 26 then ltb a e && ltb b e
    else leb sort 28

-- which items the lists of a sort have
unfoldable pub tag_fits : ℕ → ℕ → Bool
tag_fits sort tag =
    if leb sort 10 then false
    else if leb sort 14 then leb 2 tag && leb tag 5
    else if eqb sort 15 then eqb tag 0 || (leb 6 tag && leb tag 9)
    else if eqb sort 16 then eqb tag 0
    else if eqb sort 17 then false
    else if leb sort 19 then eqb tag 0 || (leb 6 tag && leb tag 9)
    else if leb sort 21 then false
    else if leb sort 24 then eqb tag 0
    else if leb sort 26 then false
    else leb tag 1

unfoldable pub numbers_fit : List ℕ → ExprId → ℕ → ℕ → ℕ → Bool
numbers_fit s e tag a b =
    if eqb tag 0 then ltb a e
    else if eqb tag 1 then text_fits s a
    else if eqb tag 2 then true
    else if eqb tag 3 then name_fits s a
    else if eqb tag 4 then ltb b e
    else if leb tag 8 then name_fits s a && ltb b e
    else ltb a e && ltb b e

unfoldable pub item_fits : List ℕ → ExprId → ℕ → ℕ → Bool
item_fits s e sort j =
    let at = items_at + item_row * j in
    tag_fits sort (word s at) && numbers_fit s e (word s at) (word s (at + 4)) (word s (at + 8))

unfoldable pub row_fits : List ℕ → ExprId → Bool
row_fits s e =
    fields_fit s e (sort_of s e) (word s (exprs_at + expr_row * e + 8)) (word s (exprs_at + expr_row * e + 12)) (word s (exprs_at + expr_row * e + 16))
    && all_from (item_fits s e (sort_of s e)) (first_item s e) (first_item s (e + 1))

unfoldable pub exprs_fit : List ℕ → Bool
exprs_fit s = ascends (first_item s) (word s expr_count) item_limit && all_to (row_fits s) (word s expr_count)

-- ---- names and diagnostics
unfoldable pub name_row_fits : List ℕ → NameId → Bool
name_row_fits s x = text_fits s (word s (names_at + name_row * x)) && leb (word s (names_at + name_row * x + 4)) 4

unfoldable pub names_fit : List ℕ → Bool
names_fit s = all_to (name_row_fits s) (word s name_count)

unfoldable pub diagnostics_fit : List ℕ → Bool
diagnostics_fit s = all_to (λ i. text_fits s (word s (diagnostics_at + diagnostic_row * i))) (word s diagnostic_count)

-- ---- scopes: 0 is no parent, and otherwise the parent is the number less one; a With alike
unfoldable pub scope_fits : List ℕ → ScopeId → Bool
scope_fits s i = leb (word s (scopes_at + scope_row * i + 4)) i && leb (word s (scopes_at + scope_row * i + 8)) (word s expr_count)

unfoldable pub scopes_fit : List ℕ → Bool
scopes_fit s =
    ascends (first_entered s) (word s scope_count) name_limit
    && (all_to (scope_fits s) (word s scope_count) && all_to (λ j. name_fits s (word s (entered_at + 4 * j))) (first_entered s (word s scope_count)))

-- ---- the scope of each expression, kept answers, kept references
unfoldable pub use_fits : List ℕ → ExprId → Bool
use_fits s e = leb (word s (uses_at + use_row * e)) (word s scope_count) && ltb (word s (uses_at + use_row * e + 4)) (24 + word s name_count)

unfoldable pub kept_fits : List ℕ → Bool
kept_fits s =
    all_to (use_fits s) (word s expr_count)
    && (ascends (first_reference s) (word s name_count) reference_limit
    && all_to (λ j. expr_fits s (word s (references_at + 4 * j))) (first_reference s (word s name_count)))

-- ---- all of it
unfoldable pub sound : List ℕ → Bool
sound s = counts_fit s && (entry_fits s && (exprs_fit s && (names_fit s && (diagnostics_fit s && (scopes_fit s && kept_fits s)))))

-- how a call finds the store: 21, 22, 23
unfoldable pub condition_of : List ℕ → Condition
condition_of s = record { short = ltb (length s) store_bytes; unsound = not (sound s); unloaded = eqb (word s expr_count) 0 }
