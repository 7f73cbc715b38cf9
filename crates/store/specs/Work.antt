-- The work of lowering in a store, and its steps. A step that finds no room leaves everything as it was.
use Rattle.std.specs.Prelude.{◌≡◌, Bool, true, ◌&&◌, List, [], ◌∷◌, ◌++◌, ℕ, ◌+◌, ◌*◌, ◌≤◌, ◌<◌, length, take, drop, ltb, leb, if◌then◌else◌}
use Rattle.words.specs.Words.{word}
use Rattle.spec.specs.Basics.{Text, ExprId, NameId}
use Rattle.spec.specs.Module.{Pointer, Made, NameKind, Name}
use Rattle.spec.specs.Steps.{Step}
use Rattle.spec.specs.State.{State, state, empty, new_made, add_duplicate}
use Rattle.spec.specs.Lower.{module_of}
use Rattle.rows.specs.declared.row.Row.{Row}
use Rattle.layout.specs.Layout.{expr_limit, item_limit, name_limit, diagnostic_limit, waiting_limit, expr_row, pointer_row, item_row, diagnostic_row, expr_count, name_count, diagnostic_count, lost_count, entry_place, scope_count, spent_place, texts_place, waiting_count, set_count, entry_count, exprs_at, expr_pointers_at, items_at, diagnostics_at, lost_at, uses_at, scopes_at, firsts_at, waiting_at, sheet_at}
use Rattle.layout.specs.Rows.{cap}
use Rattle.layout.specs.Changes.{Range, Wrote, Still}
use Rattle.layout.specs.Exprs.{Item, child, text, field, static, dynamic, item_at, item_in, first_item, sort_of, pointer_at}
use Rattle.layout.specs.States.{state_of, module_in, waiting_of, used_of, order_of}
use Rattle.soundness.specs.Sound.{tag_fits}
use Rattle.soundness.specs.Coded.{part_coded, Coded}

-- the module so far and the open sets; the items that wait for their expression; how many items are in use; the run:
-- the numbers of the open sets' entries, in the order of sets and keys
pub record Work : Type 0 where
  pub lowered : State
  pub waiting : List Item
  pub used : ℕ
  pub order : List ℕ

unfoldable pub work_of : List ℕ → Work
work_of s = record { lowered = state_of s; waiting = waiting_of s; used = used_of s; order = order_of s }

abbrev pub Working : Type 0 → Type 0
Working A = Step Work A

-- ---- steps
unfoldable pub with_state : Work → State → Work
with_state w st = record { lowered = st; waiting = w.waiting; used = w.used; order = w.order }

-- An expression whose items are those that wait from `base` on.
unfoldable pub take_row : (List Item → Made) → ℕ → Working ExprId
take_row make base w =
    let is = drop base w.waiting in
    if ltb (length w.lowered.exprs) expr_limit && leb (w.used + length is) item_limit then
    (length w.lowered.exprs, record { lowered = (new_made (make is) w.lowered).1; waiting = take base w.waiting; used = w.used + length is; order = w.order })
    else (expr_limit, w)

-- an expression without items, which leaves those that wait
unfoldable pub take_lone : (List Item → Made) → Working ExprId
take_lone make w = take_row make (length w.waiting) w

unfoldable pub push_item : Item → Working (Unit {0})
push_item i w =
    if ltb (length w.waiting) waiting_limit then (tt, record { lowered = w.lowered; waiting = w.waiting ++ (i ∷ []); used = w.used; order = w.order })
    else (tt, w)

unfoldable pub name_with : Text → NameKind → Pointer → Name
name_with t k p = record { text = t; kind = k; pointer = p }

unfoldable pub put_name : Name → Working NameId
put_name n w =
    let st = w.lowered in
    if ltb (length st.names) name_limit then
    (length st.names, with_state w (state st.exprs (st.names ++ (n ∷ [])) st.diagnostics st.lost st.sets st.entries))
    else (name_limit, w)

unfoldable pub put_duplicate : Text → Pointer → Pointer → Working (Unit {0})
put_duplicate key first second w =
    let st = w.lowered in
    if ltb (length st.diagnostics) diagnostic_limit && ltb (length st.lost) diagnostic_limit then
    (tt, with_state w (add_duplicate key first second st).1)
    else (tt, w)

-- ---- what a step did
-- the counts, the module and the work
unfoldable pub lowering : List Range
lowering = (expr_count, entry_place) ∷ (waiting_count, entry_count + 8) ∷ (exprs_at, uses_at) ∷ (waiting_at, sheet_at) ∷ []

-- ---- which items an expression may have
-- a tag of the item's class
unfoldable pub tag_for : Item → ℕ
tag_for (child e) = 0
tag_for (text t) = 1
tag_for (field x d) = 2
tag_for (static x v) = 6
tag_for (dynamic k v) = 9

unfoldable pub suits : ℕ → List Item → Bool
suits sort [] = true
suits sort (i ∷ is) = tag_fits sort (tag_for i) && suits sort is

-- an item that waits: a tag that there is, and of a literal part a text in use
unfoldable pub wait_coded : List ℕ → ℕ → Bool
wait_coded s i = leb (word s (waiting_at + item_row * i)) 9 && part_coded s (word s (waiting_at + item_row * i)) (word s (waiting_at + item_row * i + 4))

-- The rows of the module and the items that wait are what decoding takes them for.
pub record Fine (s : List ℕ) : Type 0 where
  pub coded : Coded s
  pub waits : (i : ℕ) → i < cap (word s waiting_count) waiting_limit → wait_coded s i ≡ true

-- From the store s the step gave r and left the store t; the nodes, the texts and all that does not belong to lowering
-- are as they were.
pub record Did {A : Type 0} (p : Working A) (s : List ℕ) (r : A) (t : List ℕ) : Type 0 where
  pub wrote : Wrote lowering s t
  pub still : Still s t
  pub does : Fine s → ((r, work_of t) ≡ p (work_of s)) × Fine t

-- The same of a step that wants something of its arguments.
pub record DidWhere {A : Type 0} (wanted : Type 0) (p : Working A) (s : List ℕ) (r : A) (t : List ℕ) : Type 0 where
  pub wrote : Wrote lowering s t
  pub still : Still s t
  pub does : Fine s → wanted → ((r, work_of t) ≡ p (work_of s)) × Fine t

-- an expression of a sort takes the items that wait from `base` on, if they are such as it may have
abbrev pub Takes : ℕ → (List Item → Made) → ℕ → List ℕ → ExprId → List ℕ → Type 0
Takes sort make base s r t = DidWhere (suits sort (drop base (waiting_of s)) ≡ true) (take_row make base) s r t

-- ---- the parts of an append
-- `count` items that waited from `base` on lie in the table from `first` on, and wait no longer
pub record Took (base count first : ℕ) (s t : List ℕ) : Type 0 where
  pub wrote : Wrote ((waiting_count, waiting_count + 4) ∷ (items_at + item_row * first, items_at + item_row * (first + count)) ∷ []) s t
  pub still : Still s t
  pub items : (j : ℕ) → j < count → item_in t (first + j) ≡ item_at s (waiting_at + item_row * (base + j))
  pub moved : (i : ℕ) → i + 4 ≤ 12 * count → word t (items_at + item_row * first + i) ≡ word s (waiting_at + item_row * base + i)
  pub waiting : waiting_of t ≡ take base (waiting_of s)

-- the row n, its pointer and where the next one's items begin
pub record PutRow (n end : ℕ) (r : Row) (p : Pointer) (s t : List ℕ) : Type 0 where
  pub wrote : Wrote ((expr_count, expr_count + 4) ∷ (exprs_at + expr_row * n + 4, exprs_at + expr_row * n + 24) ∷ (expr_pointers_at + pointer_row * n, expr_pointers_at + pointer_row * n + 12) ∷ []) s t
  pub still : Still s t
  pub count : word t expr_count ≡ n + 1
  pub next : first_item t (n + 1) ≡ end
  pub sort : sort_of t n ≡ r.sort
  pub a : word t (exprs_at + expr_row * n + 8) ≡ r.a
  pub b : word t (exprs_at + expr_row * n + 12) ≡ r.b
  pub c : word t (exprs_at + expr_row * n + 16) ≡ r.c
  pub pointer : pointer_at t (expr_pointers_at + pointer_row * n) ≡ p

-- the row n of the diagnostics
pub record PutDiagnostic (n key : ℕ) (first second : Pointer) (s t : List ℕ) : Type 0 where
  pub wrote : Wrote ((diagnostic_count, diagnostic_count + 4) ∷ (diagnostics_at + diagnostic_row * n, diagnostics_at + diagnostic_row * n + 28) ∷ []) s t
  pub still : Still s t
  pub count : word t diagnostic_count ≡ n + 1
  pub key_is : word t (diagnostics_at + diagnostic_row * n) ≡ key
  pub first_is : pointer_at t (diagnostics_at + diagnostic_row * n + 4) ≡ first
  pub second_is : pointer_at t (diagnostics_at + diagnostic_row * n + 16) ≡ second

-- the row n of the lost list
pub record PutLost (n : ℕ) (p : Pointer) (s t : List ℕ) : Type 0 where
  pub wrote : Wrote ((lost_count, lost_count + 4) ∷ (lost_at + pointer_row * n, lost_at + pointer_row * n + 12) ∷ []) s t
  pub still : Still s t
  pub count : word t lost_count ≡ n + 1
  pub is : pointer_at t (lost_at + pointer_row * n) ≡ p

-- ---- the entry
-- the entry is e, and all else is as it was
pub record SetEntry (e : ExprId) (s t : List ℕ) : Type 0 where
  pub wrote : Wrote ((entry_place, entry_place + 4) ∷ []) s t
  pub still : Still s t
  pub entry : module_in t ≡ module_of e (state_of s)

-- ---- a store with nothing in it
unfoldable pub no_work : Work
no_work = record { lowered = empty; waiting = []; used = 0; order = [] }

-- what emptying a store writes: the header, and where the lists of the first rows begin
unfoldable pub clearing : List Range
clearing = (expr_count, entry_count + 4) ∷ (exprs_at, exprs_at + 4) ∷ (scopes_at, scopes_at + 4) ∷ (firsts_at, firsts_at + 4) ∷ []

-- no row of lowering is in use: the counts are 0, and the list of the first expression begins at 0
pub record NoRows (t : List ℕ) : Type 0 where
  pub exprs : word t expr_count ≡ 0
  pub names : word t name_count ≡ 0
  pub diagnostics : word t diagnostic_count ≡ 0
  pub lost : word t lost_count ≡ 0
  pub waiting : word t waiting_count ≡ 0
  pub sets : word t set_count ≡ 0
  pub entries : word t entry_count ≡ 0
  pub first_item_lem : word t exprs_at ≡ 0

pub record Cleared (s t : List ℕ) : Type 0 where
  pub wrote : Wrote clearing s t
  pub same : drop sheet_at t ≡ drop sheet_at s
  pub rows : NoRows t
  pub work : work_of t ≡ no_work
  pub fine : Fine t
  pub entry : word t entry_place ≡ 0
  pub scopes : word t scope_count ≡ 0
  pub spent : word t spent_place ≡ 0
  pub texts : word t texts_place ≡ 0
  pub first_entered_lem : word t scopes_at ≡ 0
  pub first_reference_lem : word t firsts_at ≡ 0
