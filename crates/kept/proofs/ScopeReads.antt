-- What is read of the scopes. Assumes nothing.
use mathlib.Core.Path.{◌≡◌, refl, sym, ap, ◌∙◌}
use mathlib.Core.Bool.{Bool, true, false}
use mathlib.Core.List.{List, [], ◌∷◌}
use mathlib.Core.Option.{Option, none, some}
use Prim.Native.Nat.{ℕ, zero, suc, ◌+◌, ◌-◌, ◌*◌, ◌≤◌, ◌<◌}
use native.Mathlib.Omega.{arith}
use lib.ListN.{length, get_or, get_elem?}
use lib.Dec.{ltb}
use borrow.Author.Tests.{lt-ltb, le-ltb, ltb-true, ltb-false}
use Rattle.words.specs.Words.{word}
use Rattle.spec.specs.Answer.{scope_at, scope_of_expr}
use Rattle.layout.specs.Layout.{expr_limit, name_limit, scope_limit, use_row, scope_row, expr_count, scope_count, uses_at, scopes_at, entered_at}
use Rattle.layout.specs.Rows.{cap, rows_to, rows_from, raised}
use Rattle.layout.specs.Keeps.{first_entered, entered_of, kind_of_scope, scope_in, scope_of, scopes_in}
use Rattle.kept.specs.Walks.{names_entered, with_of, scope_word, root}
use Rattle.layout.proofs.RowLaws.{length_rows, get_d_rows, get_d_past, cap_lim}

pub below_cap : (i n c : ℕ) → n ≡ c → i < n → i < c
below_cap i n c e h = rw (← e) h

pub above_cap : (i n c : ℕ) → n ≡ c → n ≤ i → c ≤ i
above_cap i n c e h = rw (← e) h

pub raised_none : (n : ℕ) → n ≡ 0 → raised n ≡ none
unfolding raised
raised_none n e = rw e

pub raised_some : (n : ℕ) → (n ≡ 0 → ⊥) → raised n ≡ some (n - 1)
unfolding raised
raised_some zero h = absurd (h refl)
raised_some (suc n) h = let e : suc n - 1 ≡ n = omega arith in rw e

-- ---- a scope
pub scope_in_lem : (s : List ℕ) (i : ℕ) → i < cap (word s scope_count) scope_limit → scope_at (scopes_in s).scopes i ≡ scope_in s i
unfolding scope_at scopes_in
scope_in_lem s i h = get_d_rows (scope_in s) (cap (word s scope_count) scope_limit) i root h

pub scope_out : (s : List ℕ) (i : ℕ) → cap (word s scope_count) scope_limit ≤ i → scope_at (scopes_in s).scopes i ≡ root
unfolding scope_at scopes_in
scope_out s i h = get_d_past (scope_in s) (cap (word s scope_count) scope_limit) i root h

pub length_scopes : (s : List ℕ) → length (scopes_in s).scopes ≡ cap (word s scope_count) scope_limit
unfolding scopes_in
length_scopes s = length_rows (scope_in s) (cap (word s scope_count) scope_limit)

-- a word of its row
pub word_in : (s : List ℕ) (i k : ℕ) → i < cap (word s scope_count) scope_limit → scope_word s i k ≡ word s (scopes_at + scope_row * i + k)
unfolding scope_word
word_in s i k h = rw (lt-ltb i (cap (word s scope_count) scope_limit) h)

pub word_out : (s : List ℕ) (i k : ℕ) → cap (word s scope_count) scope_limit ≤ i → scope_word s i k ≡ 0
unfolding scope_word
word_out s i k h = rw (le-ltb i (cap (word s scope_count) scope_limit) h)

-- ---- its parent, its With
with_kind : (o : Option ℕ) (xs : List ℕ) → with_of (kind_of_scope o xs) ≡ o
unfolding with_of kind_of_scope
with_kind none xs = refl
with_kind (some e) xs = refl

pub parent_is : (s : List ℕ) (i : ℕ) → (scope_at (scopes_in s).scopes i).parent ≡ raised (scope_word s i 4)
unfolding raised scope_in
parent_is s i = go (ltb i (cap (word s scope_count) scope_limit)) refl
  where
    go : (b : Bool) → ltb i (cap (word s scope_count) scope_limit) ≡ b → (scope_at (scopes_in s).scopes i).parent ≡ raised (scope_word s i 4)
    go true e = let h = ltb-true i (cap (word s scope_count) scope_limit) e in rw (scope_in_lem s i h, word_in s i 4 h)
    go false e = let h = ltb-false i (cap (word s scope_count) scope_limit) e in rw (scope_out s i h, word_out s i 4 h)

pub with_is : (s : List ℕ) (i : ℕ) → with_of (scope_at (scopes_in s).scopes i).kind ≡ raised (scope_word s i 8)
unfolding raised scope_in with_of
with_is s i = go (ltb i (cap (word s scope_count) scope_limit)) refl
  where
    go : (b : Bool) → ltb i (cap (word s scope_count) scope_limit) ≡ b → with_of (scope_at (scopes_in s).scopes i).kind ≡ raised (scope_word s i 8)
    go true e =
        let h = ltb-true i (cap (word s scope_count) scope_limit) e in
        rw (scope_in_lem s i h, word_in s i 8 h) (with_kind (raised (word s (scopes_at + scope_row * i + 8))) (entered_of s i))
    go false e = let h = ltb-false i (cap (word s scope_count) scope_limit) e in rw (scope_out s i h, word_out s i 8 h)

-- ---- its names
abbrev pub NamesAt : List ℕ → ℕ → List ℕ
NamesAt s i = names_entered (scope_at (scopes_in s).scopes i).kind

pub no_names : (s : List ℕ) (i : ℕ) → cap (word s scope_count) scope_limit ≤ i → NamesAt s i ≡ []
unfolding names_entered
no_names s i h = rw (scope_out s i h)

pub with_names : (s : List ℕ) (i : ℕ) → i < cap (word s scope_count) scope_limit → (word s (scopes_at + scope_row * i + 8) ≡ 0 → ⊥) → NamesAt s i ≡ []
unfolding names_entered scope_in kind_of_scope
with_names s i h k = rw (scope_in_lem s i h, raised_some (word s (scopes_at + scope_row * i + 8)) k)

pub own_names : (s : List ℕ) (i : ℕ) → i < cap (word s scope_count) scope_limit → word s (scopes_at + scope_row * i + 8) ≡ 0 → NamesAt s i ≡ entered_of s i
unfolding names_entered scope_in kind_of_scope
own_names s i h k = rw (scope_in_lem s i h, raised_none (word s (scopes_at + scope_row * i + 8)) k)

pub length_entered : (s : List ℕ) (i : ℕ) → length (entered_of s i) ≡ cap (word s (scopes_at + scope_row * i + 12)) name_limit - cap (word s (scopes_at + scope_row * i)) name_limit
unfolding entered_of rows_from first_entered
length_entered s i =
    let e : scopes_at + scope_row * (i + 1) ≡ scopes_at + scope_row * i + 12 = omega arith in
    rw e (length_rows (λ k. word s (entered_at + 4 * (cap (word s (scopes_at + scope_row * i)) name_limit + k))) (cap (word s (scopes_at + scope_row * i + 12)) name_limit - cap (word s (scopes_at + scope_row * i)) name_limit))

pub count_none : (s : List ℕ) (i : ℕ) → NamesAt s i ≡ [] → 0 ≡ length (NamesAt s i)
count_none s i e = rw e

pub count_own : (s : List ℕ) (i r : ℕ) → i < cap (word s scope_count) scope_limit → word s (scopes_at + scope_row * i + 8) ≡ 0 → r ≡ cap (word s (scopes_at + scope_row * i + scope_row)) name_limit - cap (word s (scopes_at + scope_row * i)) name_limit → r ≡ length (NamesAt s i)
count_own s i r h k e = rw (own_names s i h k) (e ∙ sym (length_entered s i))

-- where there is a name, it stands in the table
pub record Named (s : List ℕ) (i k : ℕ) : Type 0 where
  pub low : i < scope_limit
  pub from : cap (word s (scopes_at + scope_row * i)) name_limit + k < name_limit
  pub is : get_elem? (NamesAt s i) k ≡ some (word s (entered_at + 4 * (cap (word s (scopes_at + scope_row * i)) name_limit + k)))

pub rows_at : {A : Type 0} (f : ℕ → A) (n k : ℕ) → k < n → get_elem? (rows_to f n) k ≡ some (f k)
rows_at f n k h = at_get_d (rows_to f n) k (f k) (rw (length_rows f n) h) ∙ ap some (get_d_rows f n k (f k) h)
  where
    at_get_d : {B : Type 0} (xs : List B) (j : ℕ) (d : B) → j < length xs → get_elem? xs j ≡ some (get_or xs j d)
    at_get_d [] j d l = absurd (omega arith)
    at_get_d (x ∷ xs) zero d l = refl
    at_get_d (x ∷ xs) (suc j) d l = at_get_d xs j d (omega arith)

pub at_past : {A : Type 0} (xs : List A) (k : ℕ) → length xs ≤ k → get_elem? xs k ≡ none
at_past [] k h = refl
at_past (x ∷ xs) zero h = absurd (omega arith)
at_past (x ∷ xs) (suc k) h = at_past xs k (omega arith)

pub past_names : (s : List ℕ) (i k n : ℕ) → n ≡ length (NamesAt s i) → n ≤ k → get_elem? (NamesAt s i) k ≡ none
past_names s i k n e h = at_past (NamesAt s i) k (rw (← e) h)

pub named : (s : List ℕ) (i k : ℕ) → k < length (NamesAt s i) → Named s i k
unfolding entered_of rows_from first_entered
named s i k h = go (ltb i (cap (word s scope_count) scope_limit)) refl
  where
    own : i < cap (word s scope_count) scope_limit → word s (scopes_at + scope_row * i + 8) ≡ 0 → Named s i k
    own l z =
        let c = cap_lim (word s scope_count) scope_limit in
        let m = cap_lim (word s (scopes_at + scope_row * i + 12)) name_limit in
        let e : scopes_at + scope_row * (i + 1) ≡ scopes_at + scope_row * i + 12 = omega arith in
        let n : k < cap (word s (scopes_at + scope_row * i + 12)) name_limit - cap (word s (scopes_at + scope_row * i)) name_limit = rw (own_names s i l z, length_entered s i) at h in
        record {
          low = omega arith;
          from = omega arith;
          is = rw (own_names s i l z, e) (rows_at (λ j. word s (entered_at + 4 * (cap (word s (scopes_at + scope_row * i)) name_limit + j))) (cap (word s (scopes_at + scope_row * i + 12)) name_limit - cap (word s (scopes_at + scope_row * i)) name_limit) k n);
        }

    kinds : i < cap (word s scope_count) scope_limit → (w : ℕ) → word s (scopes_at + scope_row * i + 8) ≡ w → Named s i k
    kinds l zero z = own l z
    kinds l (suc w) z = let n : k < 0 = rw (with_names s i l (λ y. omega arith)) at h in absurd (omega arith)

    go : (b : Bool) → ltb i (cap (word s scope_count) scope_limit) ≡ b → Named s i k
    go true e = kinds (ltb-true i (cap (word s scope_count) scope_limit) e) (word s (scopes_at + scope_row * i + 8)) refl
    go false e = let n : k < 0 = rw (no_names s i (ltb-false i (cap (word s scope_count) scope_limit) e)) at h in absurd (omega arith)

-- ---- the scope of an expression
pub of_expr_in : (s : List ℕ) (e : ℕ) → e < cap (word s expr_count) expr_limit → scope_of_expr (scopes_in s) e ≡ raised (word s (uses_at + use_row * e))
unfolding scope_of_expr scopes_in scope_of
of_expr_in s e h = get_d_rows (λ i. raised (word s (uses_at + use_row * i))) (cap (word s expr_count) expr_limit) e none h

pub of_expr_out : (s : List ℕ) (e : ℕ) → cap (word s expr_count) expr_limit ≤ e → scope_of_expr (scopes_in s) e ≡ none
unfolding scope_of_expr scopes_in scope_of
of_expr_out s e h = get_d_past (λ i. raised (word s (uses_at + use_row * i))) (cap (word s expr_count) expr_limit) e none h
