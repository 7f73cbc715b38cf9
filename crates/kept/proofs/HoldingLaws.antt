-- The first scope that a name is entered in. Assumes nothing.
use Rattle.std.specs.Prelude as rust
use Rattle.std.specs.Prelude.{if◌then◌else◌}
use Rattle.std.specs.List.{list_any, find, range_with_len}
use Rattle.std.specs.Option.{option_map}
use mathlib.Core.Path.{◌≡◌, refl, sym, ap, ◌∙◌}
use mathlib.Core.Bool.{Bool, true, false, cond, ◌||◌}
use mathlib.Core.List.{List, [], ◌∷◌}
use mathlib.Core.Option.{Option, none, some}
use Prim.Native.Nat.{ℕ, zero, suc, ◌+◌, ◌-◌, ◌*◌, ◌≤◌, ◌<◌}
use native.Mathlib.Omega.{arith}
use lib.ListN.{length}
use lib.Dec.{eqb, ltb}
use borrow.Author.Tests.{ltb-true, ltb-false}
use Rattle.words.specs.Words.{word}
use Rattle.spec.specs.Scopes.{ScopeKind, definitions, with_expr, is_in, holds, holder_from, holder}
use Rattle.spec.specs.Answer.{scope_at}
use Rattle.layout.specs.Layout.{name_limit, scope_limit, scope_row, scope_count, scopes_at, entered_at}
use Rattle.layout.specs.Rows.{cap, rows_to, rows_from}
use Rattle.layout.specs.Keeps.{first_entered, entered_of, scope_in, scopes_in}
use Rattle.kept.specs.Walks.{names_entered}
use Rattle.layout.proofs.RowLaws.{rows_same, rows_join, rows_none, between_none}
use Rattle.kept.proofs.ScopeReads.{NamesAt, scope_in_lem, named, no_names, with_names, own_names, length_entered}

-- ---- rows from i on
rows_first : {A : Type 0} (f : ℕ → A) (n : ℕ) → rows_to f (1 + n) ≡ f 0 ∷ rows_to (λ k. f (1 + k)) n
unfolding rows_to
rows_first f n = rows_join f 1 n

between_first : {A : Type 0} (f : ℕ → A) (i j : ℕ) → i < j → rows_from f i j ≡ f i ∷ rows_from f (i + 1) j
unfolding rows_from
between_first f i j h =
    let e : j - i ≡ 1 + (j - (i + 1)) = omega arith in
    let z : f (i + 0) ≡ f i = ap f (omega arith) in
    let q : rows_to (λ k. f (i + (1 + k))) (j - (i + 1)) ≡ rows_to (λ k. f (i + 1 + k)) (j - (i + 1)) = rows_same (λ k. f (i + (1 + k))) (λ k. f (i + 1 + k)) (j - (i + 1)) (λ k l. ap f (omega arith)) in
    ap (rows_to (λ k. f (i + k))) e ∙ rows_first (λ k. f (i + k)) (j - (i + 1)) ∙ rw (z, q)

between_all : {A : Type 0} (f : ℕ → A) (n : ℕ) → rows_to f n ≡ rows_from f 0 n
unfolding rows_from
between_all f n = let e : n ≡ n - 0 = omega arith in rows_same f (λ k. f (0 + k)) n (λ k l. ap f (omega arith)) ∙ ap (rows_to (λ k. f (0 + k))) e

-- ---- the names of a scope: the rows from its first one on
unfoldable pub entered_from : List ℕ → ℕ → ℕ → ℕ
entered_from s from k = word s (entered_at + 4 * (from + k))

holds_names : (x : ℕ) (k : ScopeKind) → holds x k ≡ is_in x (names_entered k)
unfolding holds is_in names_entered
holds_names x (definitions xs) = refl
holds_names x (with_expr e) = refl

names_are : (s : List ℕ) (i : ℕ) → NamesAt s i ≡ rows_to (entered_from s (cap (word s (scopes_at + scope_row * i)) name_limit)) (length (NamesAt s i))
unfolding entered_from entered_of rows_from first_entered
names_are s i = go (ltb i (cap (word s scope_count) scope_limit)) refl
  where
    f : ℕ → ℕ
    f = λ k. word s (entered_at + 4 * (cap (word s (scopes_at + scope_row * i)) name_limit + k))

    empty : NamesAt s i ≡ [] → NamesAt s i ≡ rows_to f (length (NamesAt s i))
    empty e = rw e (sym (rows_none f))

    kinds : i < cap (word s scope_count) scope_limit → (w : ℕ) → word s (scopes_at + scope_row * i + 8) ≡ w → NamesAt s i ≡ rows_to f (length (NamesAt s i))
    kinds l zero z =
        let e : scopes_at + scope_row * (i + 1) ≡ scopes_at + scope_row * i + 12 = omega arith in
        rw (own_names s i l z, length_entered s i, e)
    kinds l (suc w) z = empty (with_names s i l (λ y. omega arith))

    go : (b : Bool) → ltb i (cap (word s scope_count) scope_limit) ≡ b → NamesAt s i ≡ rows_to f (length (NamesAt s i))
    go true e = kinds (ltb-true i (cap (word s scope_count) scope_limit) e) (word s (scopes_at + scope_row * i + 8)) refl
    go false e = empty (no_names s i (ltb-false i (cap (word s scope_count) scope_limit) e))

-- whether a scope holds x is whether x is among its names from the i-th on
names_begun : (s : List ℕ) (x k n from : ℕ) → n ≡ length (NamesAt s k) → from ≡ cap (word s (scopes_at + scope_row * k)) name_limit → holds x (scope_at (scopes_in s).scopes k).kind ≡ is_in x (rows_from (entered_from s from) 0 n)
names_begun s x k n from e q =
    let a : NamesAt s k ≡ rows_to (entered_from s from) n = rw (e, q) (names_are s k) in
    holds_names x (scope_at (scopes_in s).scopes k).kind ∙ ap (is_in x) (a ∙ between_all (entered_from s from) n)

any_row : (x : ℕ) (f : ℕ → ℕ) (n i : ℕ) → list_any (λ k. eqb x (f k)) (range_with_len i n) ≡ is_in x (rows_from f i (i + n))
unfolding is_in
any_row x f zero i = sym (ap (is_in x) (between_none f i (i + 0) (omega arith)))
any_row x f (suc n) i =
    let e : i + 1 + n ≡ i + suc n = omega arith in
    let more : list_any (λ k. eqb x (f k)) (range_with_len (i + 1) n) ≡ is_in x (rows_from f (i + 1) (i + suc n)) = any_row x f n (i + 1) ∙ ap (λ j. is_in x (rows_from f (i + 1) j)) e in
    ap (λ (b : Bool). eqb x (f i) || b) more ∙ sym (ap (is_in x) (between_first f i (i + suc n) (omega arith)))

pub any_held : (s : List ℕ) (x k n from : ℕ) → n ≡ length (NamesAt s k) → from ≡ cap (word s (scopes_at + scope_row * k)) name_limit → list_any (λ i. eqb x (entered_from s from i)) (range_with_len 0 n) ≡ holds x (scope_at (scopes_in s).scopes k).kind
any_held s x k n from e q =
    let z : 0 + n ≡ n = omega arith in
    any_row x (entered_from s from) n 0 ∙ ap (λ j. is_in x (rows_from (entered_from s from) 0 j)) z ∙ sym (names_begun s x k n from e q)

pub names_within : (s : List ℕ) (k n from : ℕ) → n ≡ length (NamesAt s k) → from ≡ cap (word s (scopes_at + scope_row * k)) name_limit → from ≤ name_limit → from + n ≤ name_limit
names_within s k zero from e q l = omega (arith, l)
names_within s k (suc n) from e q l =
    let h : n < length (NamesAt s k) = omega (arith, e) in
    let m = named s k n h in
    omega (arith, q, m)

-- ---- the scopes
scopes_begun : (s : List ℕ) (x n : ℕ) → n ≡ cap (word s scope_count) scope_limit → holder (scopes_in s) x ≡ holder_from x 0 (rows_from (scope_in s) 0 n)
unfolding holder scopes_in
scopes_begun s x n e = rw e (ap (holder_from x 0) (between_all (scope_in s) (cap (word s scope_count) scope_limit)))

-- the number that a search found
unfoldable pub as_found : rust.Option ℕ → Option ℕ
as_found rust.None = none
as_found (rust.Some x) = some x

itself : (r : rust.Option ℕ) → as_found r ≡ as_found (option_map (λ x. x) r)
unfolding as_found
itself rust.None = refl
itself (rust.Some x) = refl

one_more : (b : Bool) (i : ℕ) (r : rust.Option ℕ) (a : Option ℕ) → as_found r ≡ a → as_found (cond b (rust.Some i) r) ≡ (if b then some i else a)
unfolding as_found
one_more true i r a h = refl
one_more false i r a h = h

module _ (s : List ℕ) (x n : ℕ) (count : n ≡ cap (word s scope_count) scope_limit) where
  unfoldable pub held_at : ℕ → Bool
  held_at i = holds x (scope_at (scopes_in s).scopes i).kind

  holder_here : (i : ℕ) → i < n → holder_from x i (rows_from (scope_in s) i n) ≡ (if held_at i then some i else holder_from x (i + 1) (rows_from (scope_in s) (i + 1) n))
  unfolding holder_from held_at
  holder_here i h =
      let l : i < cap (word s scope_count) scope_limit = rw (← count) h in
      let e : suc i ≡ i + 1 = omega arith in
      let w : holder_from x i (rows_from (scope_in s) i n) ≡ (if holds x (scope_in s i).kind then some i else holder_from x (suc i) (rows_from (scope_in s) (i + 1) n)) = ap (holder_from x i) (between_first (scope_in s) i n h) in
      rw (scope_in_lem s i l) (rw e at w)

  first_held : (k i : ℕ) → i + k ≡ n → as_found (find held_at (range_with_len i k)) ≡ holder_from x i (rows_from (scope_in s) i n)
  unfolding holder_from as_found
  first_held zero i e = sym (ap (holder_from x i) (between_none (scope_in s) i n (omega arith)))
  first_held (suc k) i e = one_more (held_at i) i _ _ (first_held k (i + 1) (omega arith)) ∙ sym (holder_here i (omega arith))

  pub found_held : (r : rust.Option ℕ) → option_map (λ y. y) r ≡ find held_at (range_with_len 0 n) → as_found r ≡ holder (scopes_in s) x
  found_held r h = itself r ∙ ap as_found h ∙ first_held n 0 (omega arith) ∙ sym (scopes_begun s x n count)
