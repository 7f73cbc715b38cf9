-- What a write leaves as it was: a part of the decoding, if the write lies outside the ranges that the part is read
-- from. Assumes nothing.
use mathlib.Core.Path.{◌≡◌, refl, ap, ◌∙◌}
use mathlib.Core.Logic.{◌⊎◌, inl, inr, ⊎_elim}
use mathlib.Core.Bool.{Bool, true, false, ◌&&◌, ◌||◌, and-eq-true_iff}
use mathlib.Core.List.{List, [], ◌∷◌}
use Prim.Native.Nat.{ℕ, ◌+◌, ◌-◌, ◌*◌, ◌≤◌}
use native.Mathlib.Omega.{arith}
use lib.Seq.{drop-drop}
use lib.Dec.{leb}
use borrow.Author.Tests.{leb-true, lt-leb}
use Rattle.words.specs.Runs.{run}
use Rattle.words.specs.Words.{number, word}
use Rattle.module.specs.Ids.{pointer_of}
use Rattle.module.specs.declared.pointer.Pointer as code_pointer
use Rattle.layout.specs.Layout.{absent, expr_limit, item_limit, name_limit, diagnostic_limit, waiting_limit, set_limit, entry_limit, text_limit, expr_row, pointer_row, item_row, name_row, diagnostic_row, set_row, entry_row, expr_count, name_count, diagnostic_count, lost_count, texts_place, waiting_count, set_count, entry_count, exprs_at, expr_pointers_at, items_at, names_at, name_pointers_at, diagnostics_at, lost_at, uses_at, waiting_at, sets_at, entries_at, run_at, sheet_at, texts_at}
use Rattle.layout.specs.Rows.{cap, rows_from}
use Rattle.layout.specs.Changes.{Range, Outside, Wrote, Still}
use Rattle.layout.specs.Texts.{texts_used, text_of, text_in}
use Rattle.layout.specs.Exprs.{item_of, item_at, item_in, expr_of, pointer_at, first_item, items_of, sort_of, made_in}
use Rattle.layout.specs.States.{name_in, diagnostic_in, set_in, entry_of, entry_in, exprs_of, names_of, diagnostics_of, lost_of, sets_of, entries_of, waiting_of, order_of}
use Rattle.layout.proofs.RowLaws.{rows_same, between_same, cap_lim}

-- ---- ranges
-- whether a range meets none of some others
abbrev pub apart : Range → List Range → Bool
apart r [] = true
apart r (w ∷ ws) = (leb r.1 w.0 || leb w.1 r.0) && apart r ws

-- the words from lo to hi are as they were
abbrev pub Same : List ℕ → List ℕ → ℕ → ℕ → Type 0
Same s t lo hi = (j : ℕ) → lo ≤ j → j + 4 ≤ hi → word t j ≡ word s j

-- what lies outside a range lies outside what is written in it
pub clear_of : (at m lo hi j : ℕ) → lo ≤ at → at + m ≤ hi → (j + 4 ≤ lo) ⊎ (hi ≤ j) → (j + 4 ≤ at) ⊎ (at + m ≤ j)
clear_of at m lo hi j a b o = ⊎_elim (λ z. inl (omega arith)) (λ z. inr (omega arith)) o

-- ---- from a write to a range
outside : (ws : List Range) (lo hi : ℕ) → apart (lo, hi) ws ≡ true → (j : ℕ) → lo ≤ j → j + 4 ≤ hi → Outside j ws
unfolding Outside
outside [] lo hi e j a b = tt
outside (w ∷ ws) lo hi e j a b =
    let z = (and-eq-true_iff (leb hi w.0 || leb w.1 lo) (apart (lo, hi) ws)).0 e in
    (side (leb hi w.0) refl z.0, outside ws lo hi z.1 j a b)
  where
    side : (x : Bool) → leb hi w.0 ≡ x → (x || leb w.1 lo) ≡ true → (j + 4 ≤ w.0) ⊎ (w.1 ≤ j)
    side true p q = inl (omega (arith, leb-true hi w.0 p))
    side false p q = inr (omega (arith, leb-true w.1 lo q))

pub same_on : {s t : List ℕ} {rs : List Range} (lo hi : ℕ) → Wrote rs s t → apart (lo, hi) rs ≡ true → Same s t lo hi
same_on {rs = rs} lo hi w e j a b = w.other j (outside rs lo hi e j a b)

-- one write and then another
pub wrote_none : (rs : List Range) (s : List ℕ) → Wrote rs s s
wrote_none rs s = record { size = refl; other = λ j o. refl }

pub wrote_then : {rs : List Range} {s u t : List ℕ} → Wrote rs s u → Wrote rs u t → Wrote rs s t
wrote_then x y = record { size = y.size ∙ x.size; other = λ j o. y.other j o ∙ x.other j o }

-- ---- texts
pub run_still : (s t : List ℕ) (at n : ℕ) → Still s t → sheet_at ≤ at → run t at n ≡ run s at n
unfolding run
run_still s t at n e h =
    let q : at ≡ sheet_at + (at - sheet_at) = omega arith in
    rw (q, ← drop-drop (at - sheet_at) sheet_at t, ← drop-drop (at - sheet_at) sheet_at s, e.same)

pub word_still : (s t : List ℕ) (at : ℕ) → Still s t → sheet_at ≤ at → word t at ≡ word s at
unfolding word
word_still s t at e h = ap number (run_still s t at 4 e h)

pub text_still : (s t : List ℕ) (k : ℕ) → Still s t → text_in t k ≡ text_in s k
unfolding text_in text_of texts_used
text_still s t k e = rw (word_still s t (texts_at + k) e (omega arith), run_still s t (texts_at + k + 4) (word s (texts_at + k)) e (omega arith), e.used)

-- the mark is the empty text, whatever the bytes
pub text_absent : (s : List ℕ) → text_in s absent ≡ []
unfolding text_in text_of texts_used
text_absent s = rw (lt-leb (absent + 4 + word s (texts_at + absent)) (cap (word s texts_place) text_limit) (omega (arith, cap_lim (word s texts_place) text_limit)))

-- ---- rows
pub pointer_same : (s t : List ℕ) (at : ℕ) → Same s t at (at + 12) → pointer_at t at ≡ pointer_at s at
unfolding pointer_at
pointer_same s t at w = rw (w at (omega arith) (omega arith), w (at + 4) (omega arith) (omega arith), w (at + 8) (omega arith) (omega arith))

-- a pointer that was read
pub pointer_got : (s : List ℕ) (at : ℕ) (p : code_pointer.Pointer) → p.kind ≡ word s at → p.from ≡ word s (at + 4) → p.to ≡ word s (at + 8) → pointer_of p ≡ pointer_at s at
unfolding pointer_of pointer_at
pointer_got s at p a b c = rw (a, b, c)

pub item_same : (s t : List ℕ) (at : ℕ) → Still s t → Same s t at (at + 12) → item_at t at ≡ item_at s at
unfolding item_at item_of
item_same s t at e w =
    rw (w at (omega arith) (omega arith), w (at + 4) (omega arith) (omega arith), w (at + 8) (omega arith) (omega arith), text_still s t (word s (at + 4)) e)

-- the items from i on, before j, where these lie below the limit
pub items_same : (s t : List ℕ) (i j : ℕ) → Still s t → Same s t (items_at + item_row * i) (items_at + item_row * j) → rows_from (item_in t) i j ≡ rows_from (item_in s) i j
unfolding item_in
items_same s t i j e w = between_same (λ k. item_at t (items_at + item_row * k)) (λ k. item_at s (items_at + item_row * k)) i j (λ k a b. item_same s t (items_at + item_row * k) e (λ m p q. w m (omega arith) (omega arith)))

-- an expression: its row, where the next one's items begin, its pointer, its items
pub made_same : (s t : List ℕ) (e : ℕ) → Still s t → Same s t (exprs_at + expr_row * e) (exprs_at + expr_row * e + 24) → Same s t (expr_pointers_at + pointer_row * e) (expr_pointers_at + pointer_row * e + 12) → items_of t e ≡ items_of s e → made_in t e ≡ made_in s e
unfolding made_in expr_of sort_of
made_same s t e still w p i =
    rw (
      w (exprs_at + expr_row * e + 4) (omega arith) (omega arith),
      w (exprs_at + expr_row * e + 8) (omega arith) (omega arith),
      w (exprs_at + expr_row * e + 12) (omega arith) (omega arith),
      w (exprs_at + expr_row * e + 16) (omega arith) (omega arith),
      pointer_same s t (expr_pointers_at + pointer_row * e) p,
      i,
      text_still s t (word s (exprs_at + expr_row * e + 8)) still,
    )

first_same : (s t : List ℕ) (e : ℕ) → Same s t (exprs_at + expr_row * e) (exprs_at + expr_row * e + 4) → first_item t e ≡ first_item s e
unfolding first_item
first_same s t e w = w (exprs_at + expr_row * e) (omega arith) (omega arith)

-- the items of an expression, whatever its row holds: they are taken from the table alone
pub own_items_same : (s t : List ℕ) (e : ℕ) → Still s t → Same s t (exprs_at + expr_row * e) (exprs_at + expr_row * e + 24) → Same s t items_at names_at → items_of t e ≡ items_of s e
unfolding items_of
own_items_same s t e still w v =
    let a = first_same s t e (λ j p q. w j (omega arith) (omega arith)) in
    let b = first_same s t (e + 1) (λ j p q. w j (omega arith) (omega arith)) in
    let l = cap_lim (first_item s (e + 1)) item_limit in
    rw (a, b, items_same s t (cap (first_item s e) item_limit) (cap (first_item s (e + 1)) item_limit) still (λ j p q. v j (omega arith) (omega arith)))

pub name_same : (s t : List ℕ) (x : ℕ) → Still s t → Same s t (names_at + name_row * x) (names_at + name_row * x + 8) → Same s t (name_pointers_at + pointer_row * x) (name_pointers_at + pointer_row * x + 12) → name_in t x ≡ name_in s x
unfolding name_in
name_same s t x e w p =
    rw (
      w (names_at + name_row * x) (omega arith) (omega arith),
      w (names_at + name_row * x + 4) (omega arith) (omega arith),
      pointer_same s t (name_pointers_at + pointer_row * x) p,
      text_still s t (word s (names_at + name_row * x)) e,
    )

pub diagnostic_same : (s t : List ℕ) (i : ℕ) → Still s t → Same s t (diagnostics_at + diagnostic_row * i) (diagnostics_at + diagnostic_row * i + 28) → diagnostic_in t i ≡ diagnostic_in s i
unfolding diagnostic_in
diagnostic_same s t i e w =
    rw (
      w (diagnostics_at + diagnostic_row * i) (omega arith) (omega arith),
      pointer_same s t (diagnostics_at + diagnostic_row * i + 4) (λ j p q. w j (omega arith) (omega arith)),
      pointer_same s t (diagnostics_at + diagnostic_row * i + 16) (λ j p q. w j (omega arith) (omega arith)),
      text_still s t (word s (diagnostics_at + diagnostic_row * i)) e,
    )

pub set_same : (s t : List ℕ) (i : ℕ) → Same s t (sets_at + set_row * i) (sets_at + set_row * i + 16) → set_in t i ≡ set_in s i
unfolding set_in
set_same s t i w = rw (w (sets_at + set_row * i + 12) (omega arith) (omega arith), pointer_same s t (sets_at + set_row * i) (λ j p q. w j (omega arith) (omega arith)))

pub entry_same : (s t : List ℕ) (i : ℕ) → Still s t → Same s t (entries_at + entry_row * i) (entries_at + entry_row * i + 32) → entry_in t i ≡ entry_in s i
unfolding entry_in entry_of
entry_same s t i e w =
    let at = entries_at + entry_row * i in
    rw (
      w at (omega arith) (omega arith),
      w (at + 4) (omega arith) (omega arith),
      w (at + 8) (omega arith) (omega arith),
      w (at + 12) (omega arith) (omega arith),
      w (at + 16) (omega arith) (omega arith),
      w (at + 20) (omega arith) (omega arith),
      w (at + 24) (omega arith) (omega arith),
      text_still s t (word s (at + 8)) e,
    )

-- ---- The parts. Each is read from its count and from its tables.
module _ {rs : List Range} {s t : List ℕ} (w : Wrote rs s t) where
  -- a number in the header
  pub number_kept : (c : ℕ) → apart (c, c + 4) rs ≡ true → word t c ≡ word s c
  number_kept c e = same_on c (c + 4) w e c (omega arith) (omega arith)

  pub exprs_kept : Still s t → apart (0, 4) rs ≡ true → apart (exprs_at, names_at) rs ≡ true → exprs_of t ≡ exprs_of s
  unfolding exprs_of
  exprs_kept still c e =
      let v = same_on exprs_at names_at w e in
      let l = cap_lim (word s expr_count) expr_limit in
      rw (number_kept expr_count c) (rows_same (made_in t) (made_in s) (cap (word s expr_count) expr_limit) (λ i h.
      let row : Same s t (exprs_at + expr_row * i) (exprs_at + expr_row * i + 24) = λ j p q. v j (omega arith) (omega arith) in
      made_same s t i still row (λ j p q. v j (omega arith) (omega arith)) (own_items_same s t i still row (λ j p q. v j (omega arith) (omega arith)))))

  pub names_kept : Still s t → apart (4, 8) rs ≡ true → apart (names_at, diagnostics_at) rs ≡ true → names_of t ≡ names_of s
  unfolding names_of
  names_kept still c e =
      let v = same_on names_at diagnostics_at w e in
      let l = cap_lim (word s name_count) name_limit in
      rw (number_kept name_count c) (rows_same (name_in t) (name_in s) (cap (word s name_count) name_limit) (λ i h. name_same s t i still (λ j p q. v j (omega arith) (omega arith)) (λ j p q. v j (omega arith) (omega arith))))

  pub diagnostics_kept : Still s t → apart (8, 12) rs ≡ true → apart (diagnostics_at, lost_at) rs ≡ true → diagnostics_of t ≡ diagnostics_of s
  unfolding diagnostics_of
  diagnostics_kept still c e =
      let v = same_on diagnostics_at lost_at w e in
      let l = cap_lim (word s diagnostic_count) diagnostic_limit in
      rw (number_kept diagnostic_count c) (rows_same (diagnostic_in t) (diagnostic_in s) (cap (word s diagnostic_count) diagnostic_limit) (λ i h. diagnostic_same s t i still (λ j p q. v j (omega arith) (omega arith))))

  pub lost_kept : apart (12, 16) rs ≡ true → apart (lost_at, uses_at) rs ≡ true → lost_of t ≡ lost_of s
  unfolding lost_of
  lost_kept c e =
      let v = same_on lost_at uses_at w e in
      let l = cap_lim (word s lost_count) diagnostic_limit in
      rw (number_kept lost_count c) (rows_same (λ i. pointer_at t (lost_at + pointer_row * i)) (λ i. pointer_at s (lost_at + pointer_row * i)) (cap (word s lost_count) diagnostic_limit) (λ i h. pointer_same s t (lost_at + pointer_row * i) (λ j p q. v j (omega arith) (omega arith))))

  pub sets_kept : apart (36, 40) rs ≡ true → apart (sets_at, entries_at) rs ≡ true → sets_of t ≡ sets_of s
  unfolding sets_of
  sets_kept c e =
      let v = same_on sets_at entries_at w e in
      let l = cap_lim (word s set_count) set_limit in
      rw (number_kept set_count c) (rows_same (set_in t) (set_in s) (cap (word s set_count) set_limit) (λ i h. set_same s t i (λ j p q. v j (omega arith) (omega arith))))

  pub entries_kept : Still s t → apart (40, 44) rs ≡ true → apart (entries_at, run_at) rs ≡ true → entries_of t ≡ entries_of s
  unfolding entries_of
  entries_kept still c e =
      let v = same_on entries_at run_at w e in
      let l = cap_lim (word s entry_count) entry_limit in
      rw (number_kept entry_count c) (rows_same (entry_in t) (entry_in s) (cap (word s entry_count) entry_limit) (λ i h. entry_same s t i still (λ j p q. v j (omega arith) (omega arith))))

  pub waiting_kept : Still s t → apart (32, 36) rs ≡ true → apart (waiting_at, sets_at) rs ≡ true → waiting_of t ≡ waiting_of s
  unfolding waiting_of
  waiting_kept still c e =
      let v = same_on waiting_at sets_at w e in
      let l = cap_lim (word s waiting_count) waiting_limit in
      rw (number_kept waiting_count c) (rows_same (λ i. item_at t (waiting_at + item_row * i)) (λ i. item_at s (waiting_at + item_row * i)) (cap (word s waiting_count) waiting_limit) (λ i h. item_same s t (waiting_at + item_row * i) still (λ j p q. v j (omega arith) (omega arith))))

  pub order_kept : apart (40, 44) rs ≡ true → apart (run_at, sheet_at) rs ≡ true → order_of t ≡ order_of s
  unfolding order_of
  order_kept c e =
      let v = same_on run_at sheet_at w e in
      let l = cap_lim (word s entry_count) entry_limit in
      rw (number_kept entry_count c) (rows_same (λ i. word t (run_at + 4 * i)) (λ i. word s (run_at + 4 * i)) (cap (word s entry_count) entry_limit) (λ i h. v (run_at + 4 * i) (omega arith) (omega arith)))
