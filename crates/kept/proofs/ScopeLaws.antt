-- What the writers of scopes do to them. Assumes nothing.
use mathlib.Core.Path.{◌≡◌, refl, sym, ap, ◌∙◌}
use mathlib.Core.Logic.{◌⊎◌, inl, inr}
use mathlib.Core.Bool.{Bool, true, false}
use mathlib.Core.List.{List, [], ◌∷◌, ◌++◌}
use mathlib.Core.Option.{Option, none, some}
use Prim.Native.Nat.{ℕ, zero, suc, ◌+◌, ◌-◌, ◌*◌, ◌≤◌, ◌<◌, ◌^◌}
use native.Mathlib.Omega.{arith}
use lib.ListN.{length, get_or, set, replicate, replicate-append-replicate}
use lib.Seq.{set_out}
use lib.Dec.{ltb}
use borrow.Author.Tests.{lt-ltb, le-ltb, le-leb, lt-leb, ltb-true, ltb-false}
use Rattle.words.specs.Words.{word, set_word}
use Rattle.words.proofs.WordLaws.{word_lt, length_set_word, word_set_word_same, word_set_word_other}
use Rattle.spec.specs.Scopes.{ScopeKind, definitions, with_expr, Scope, Scopes, place_expr, open_scope}
use Rattle.spec.specs.Answer.{scope_at}
use Rattle.layout.specs.Layout.{expr_limit, name_limit, scope_limit, use_row, scope_row, expr_count, scope_count, uses_at, scopes_at, entered_at, firsts_at, Long}
use Rattle.layout.specs.Rows.{cap, rows_to, rows_from, raised, set_all}
use Rattle.layout.specs.Changes.{Outside, Wrote, Still}
use Rattle.layout.specs.States.{exprs_of}
use Rattle.layout.specs.Exprs.{made_in}
use Rattle.layout.specs.Keeps.{first_entered, entered_of, kind_of_scope, scope_in, scope_of, scopes_in}
use Rattle.kept.specs.Walks.{names_entered, entered_by, kind_fits, try_open, try_place, try_root, root, walking, used_names, waiting_names, Neat, Walked, Emptied, Waits}
use Rattle.layout.proofs.RowLaws.{rows_same, length_rows, rows_put, between_same, cap_le, cap_over, cap_lim, cap_less}
use Rattle.kept.specs.Zeroes.{Zeroed}
use Rattle.layout.proofs.Frames.{Same, clear_of, wrote_none}
use Rattle.layout.proofs.WriteLaws.{length_all, still_set_word, still_all, still_then, all_other, all_at}
use Rattle.kept.proofs.ScopeReads.{scope_in_lem, length_scopes}
use Rattle.kept.proofs.NeatLaws.{neat_count, neat_below, neat_all}

-- ---- one write
-- a counter that has room is the count of rows; where one has none, all rows are in use
pub room_count : (r : Bool) (i n l : ℕ) → i ≡ n → r ≡ ltb i l → r ≡ true → i ≡ cap n l
room_count r i n l e h q = let k = ltb-true i l (sym h ∙ q) in e ∙ sym (cap_le n l (omega arith))

pub full_count : (r : Bool) (i n l : ℕ) → i ≡ n → r ≡ ltb i l → r ≡ false → l ≤ cap n l
full_count r i n l e h q = let k = ltb-false i l (sym h ∙ q) in omega (arith, cap_over n l (omega arith))

-- ---- the rows of scopes
-- a scope is told by its row, by where the next one's names begin, and by its names
pub scope_same : (s t : List ℕ) (i m : ℕ) → Same s t (scopes_at + scope_row * i) (scopes_at + scope_row * i + 16) → Same s t entered_at (entered_at + 4 * m) → cap (first_entered s (i + 1)) name_limit ≤ m → scope_in t i ≡ scope_in s i
unfolding scope_in entered_of first_entered
scope_same s t i m w v h =
    let a = w (scopes_at + scope_row * i) (omega arith) (omega arith) in
    let b = w (scopes_at + scope_row * (i + 1)) (omega arith) (omega arith) in
    let c = w (scopes_at + scope_row * i + 4) (omega arith) (omega arith) in
    let d = w (scopes_at + scope_row * i + 8) (omega arith) (omega arith) in
    let lo = cap (word s (scopes_at + scope_row * i)) name_limit in
    let hi = cap (word s (scopes_at + scope_row * (i + 1))) name_limit in
    let x : rows_from (λ j. word t (entered_at + 4 * j)) lo hi ≡ rows_from (λ j. word s (entered_at + 4 * j)) lo hi = between_same (λ j. word t (entered_at + 4 * j)) (λ j. word s (entered_at + 4 * j)) lo hi (λ k p q. v (entered_at + 4 * k) (omega arith) (omega arith)) in
    rw (a, b, c, d, x)

-- the scope of each expression
pub placed_by : (s t : List ℕ) → word t expr_count ≡ word s expr_count → ((i : ℕ) → i < expr_limit → word t (uses_at + use_row * i) ≡ word s (uses_at + use_row * i)) → (scopes_in t).of_expr ≡ (scopes_in s).of_expr
unfolding scopes_in scope_of
placed_by s t e w =
    let l = cap_lim (word s expr_count) expr_limit in
    rw e (rows_same (λ i. raised (word t (uses_at + use_row * i))) (λ i. raised (word s (uses_at + use_row * i))) (cap (word s expr_count) expr_limit) (λ i h. ap raised (w i (omega arith))))

pub placed_same : (s t : List ℕ) → word t expr_count ≡ word s expr_count → Same s t uses_at (uses_at + use_row * expr_limit) → (scopes_in t).of_expr ≡ (scopes_in s).of_expr
placed_same s t e w = placed_by s t e (λ i h. w (uses_at + use_row * i) (omega arith) (omega arith))

-- ---- one scope more
pub record Scoped (i p w e : ℕ) (s t : List ℕ) : Type 0 where
  pub wrote : Wrote walking s t
  pub still : Still s t
  pub count : word t scope_count ≡ i + 1
  pub parent : word t (scopes_at + scope_row * i + 4) ≡ p
  pub source : word t (scopes_at + scope_row * i + 8) ≡ w
  pub end : word t (scopes_at + scope_row * (i + 1)) ≡ e
  pub rows : Same s t scopes_at (scopes_at + scope_row * i + 4)
  pub names : Same s t entered_at firsts_at
  pub uses : Same s t uses_at scopes_at
  pub exprs : word t expr_count ≡ word s expr_count

pub scoped : (s t : List ℕ) (i p w e : ℕ) → Long s → i < scope_limit → p < 2 ^ 32 → w < 2 ^ 32 → e < 2 ^ 32 → t ≡ set_word (set_all s (scopes_at + 4 + scope_row * i) (p ∷ w ∷ e ∷ [])) scope_count (i + 1) → Scoped i p w e s t
unfolding walking Outside
scoped s t i p w e l hi hp hw he et =
    let at = scopes_at + 4 + scope_row * i in
    let ws = p ∷ w ∷ e ∷ [] in
    let u = set_all s at ws in
    let lu = length_all s at ws in
    let other : (j : ℕ) → (j + 4 ≤ at) ⊎ (at + 12 ≤ j) → (j + 4 ≤ scope_count) ⊎ (scope_count + 4 ≤ j) → word t j ≡ word s j = λ j a b. rw et (word_set_word_other u scope_count (i + 1) j b ∙ all_other s at ws j a) in
    let row : (k j : ℕ) → k < 3 → j ≡ at + 4 * k → word t j ≡ get_or ws k 0 = λ k j h q. rw et (word_set_word_other u scope_count (i + 1) j (inr (omega arith)) ∙ all_at s at ws (hp, (hw, (he, tt))) (omega arith) k j h q) in
    record {
      wrote =
          record {
            size = rw et (length_set_word u scope_count (i + 1) ∙ lu);
            other = λ j o. other j (clear_of at 12 uses_at firsts_at j (omega arith) (omega arith) o.1.0) o.0;
          };
      still = rw et (still_then (still_all s at ws (omega arith) (λ z. omega arith)) (still_set_word u scope_count (i + 1) (omega arith) (λ z. omega arith)));
      count = rw et (word_set_word_same u scope_count (i + 1) (omega arith) (omega arith));
      parent = row 0 (scopes_at + scope_row * i + 4) (omega arith) (omega arith);
      source = row 1 (scopes_at + scope_row * i + 8) (omega arith) (omega arith);
      end = row 2 (scopes_at + scope_row * (i + 1)) (omega arith) (omega arith);
      rows = λ j a b. other j (inl (omega arith)) (inr (omega arith));
      names = λ j a b. other j (inr (omega arith)) (inr (omega arith));
      uses = λ j a b. other j (inl (omega arith)) (inr (omega arith));
      exprs = other expr_count (inl (omega arith)) (inl (omega arith));
    }

-- the scope in a row of the words p and w whose names are those from u on, before e
unfoldable pub scope_of_row : List ℕ → ℕ → ℕ → ℕ → ℕ → Scope
scope_of_row s p w u e = record { parent = raised p; kind = kind_of_scope (raised w) (rows_from (λ j. word s (entered_at + 4 * j)) u e) }

pub record More (x : Scope) (s t : List ℕ) : Type 0 where
  pub is : scopes_in t ≡ record { scopes = (scopes_in s).scopes ++ (x ∷ []); of_expr = (scopes_in s).of_expr }
  pub neat : Neat t

new_row : (s t : List ℕ) (i p w u e : ℕ) → word s (scopes_at + scope_row * i) ≡ u → u ≤ name_limit → e ≤ name_limit → Scoped i p w e s t → scope_in t i ≡ scope_of_row s p w u e
unfolding scope_in entered_of first_entered scope_of_row
new_row s t i p w u e eu hu he r =
    let a : word t (scopes_at + scope_row * i) ≡ u = r.rows (scopes_at + scope_row * i) (omega arith) (omega arith) ∙ eu in
    let x : rows_from (λ j. word t (entered_at + 4 * j)) u e ≡ rows_from (λ j. word s (entered_at + 4 * j)) u e = between_same (λ j. word t (entered_at + 4 * j)) (λ j. word s (entered_at + 4 * j)) u e (λ k b c. r.names (entered_at + 4 * k) (omega arith) (omega arith)) in
    rw (r.parent, r.source, r.end, a, cap_le u name_limit hu, cap_le e name_limit he, x)

module _ (s t : List ℕ) (i p w e : ℕ) (ei : i ≡ cap (word s scope_count) scope_limit) (hi : i < scope_limit) (r : Scoped i p w e s t) where
  count_more : cap (word t scope_count) scope_limit ≡ i + 1
  count_more = rw r.count (cap_le (i + 1) scope_limit (omega arith))

  used_after : used_names t ≡ e
  unfolding used_names first_entered
  used_after = rw count_more r.end

  used_before : used_names s ≡ word s (scopes_at + scope_row * i)
  unfolding used_names first_entered
  used_before = rw (← ei)

  first_is : first_entered s i ≡ used_names s
  unfolding first_entered
  first_is = sym used_before

  end_is : first_entered t (i + 1) ≡ e
  unfolding first_entered
  end_is = r.end

  old_row : (k : ℕ) → k < i → scope_in t k ≡ scope_in s k
  old_row k h = scope_same s t k name_limit (λ j a b. r.rows j (omega arith) (omega arith)) r.names (cap_lim (first_entered s (k + 1)) name_limit)

  rows_after : used_names s ≤ name_limit → e ≤ name_limit → (scopes_in t).scopes ≡ (scopes_in s).scopes ++ (scope_of_row s p w (used_names s) e ∷ [])
  unfolding scopes_in rows_to
  rows_after few he =
      let z : i + 1 ≡ suc i = omega arith in
      rw (count_more, z, ← ei, rows_same (scope_in t) (scope_in s) i old_row, new_row s t i p w (used_names s) e (sym used_before) few he r)

  first_before : (k : ℕ) → k < i + 1 → first_entered t k ≡ first_entered s k
  unfolding first_entered
  first_before k h = r.rows (scopes_at + scope_row * k) (omega arith) (omega arith)

  follows_after : Neat s → e ≤ name_limit → e ≡ used_names s + length (names_entered (scope_of_row s p w (used_names s) e).kind) → (k : ℕ) → k < i + 1 → first_entered t (k + 1) ≡ first_entered t k + length (names_entered (scope_in t k).kind)
  follows_after neat he all k h = go (ltb k i) refl
    where
      go : (b : Bool) → ltb k i ≡ b → first_entered t (k + 1) ≡ first_entered t k + length (names_entered (scope_in t k).kind)
      go true q =
          let l = ltb-true k i q in
          let m : k < word s scope_count = rw (← neat_count s neat, ← ei) l in
          rw (old_row k l, first_before k h, first_before (k + 1) (omega arith)) (neat.follows k m)
      go false q =
          let z : k ≡ i = omega (arith, ltb-false k i q) in
          let row = new_row s t i p w (used_names s) e (sym used_before) neat.few he r in
          let here : first_entered t i ≡ used_names s = first_before i (omega arith) ∙ first_is in
          rw (z, row, here, end_is) all

  pub scope_more : Neat s → e ≤ name_limit → e ≡ used_names s + length (names_entered (scope_of_row s p w (used_names s) e).kind) → More (scope_of_row s p w (used_names s) e) s t
  scope_more neat he all =
      let x = scope_of_row s p w (used_names s) e in
      let rows = rows_after neat.few he in
      record {
        is = ap (λ (xs : List Scope). record { scopes = xs; of_expr = (scopes_in t).of_expr }) rows ∙ ap (λ (os : List (Option ℕ)). record { scopes = (scopes_in s).scopes ++ (x ∷ []); of_expr = os }) (placed_same s t r.exprs r.uses);
        neat =
            record {
              counted = rw r.count (omega arith);
              begins = first_before 0 (omega arith) ∙ neat.begins;
              follows = λ k h. follows_after neat he all k (rw r.count at h);
              few = rw used_after he;
            };
      }

-- ---- scopes that are as they were
pub scopes_same : (s t : List ℕ) (m : ℕ) → word t scope_count ≡ word s scope_count → Same s t scopes_at entered_at → Same s t entered_at (entered_at + 4 * m) → ((i : ℕ) → i < cap (word s scope_count) scope_limit → cap (first_entered s (i + 1)) name_limit ≤ m) → (scopes_in t).scopes ≡ (scopes_in s).scopes
unfolding scopes_in
scopes_same s t m c w v h =
    let l = cap_lim (word s scope_count) scope_limit in
    rw c (rows_same (scope_in t) (scope_in s) (cap (word s scope_count) scope_limit) (λ i k. scope_same s t i m (λ j a b. w j (omega arith) (omega arith)) v (h i k)))

used_same : (s t : List ℕ) → word t scope_count ≡ word s scope_count → Same s t scopes_at entered_at → used_names t ≡ used_names s
unfolding used_names first_entered
used_same s t c w =
    let l = cap_lim (word s scope_count) scope_limit in
    rw c (w (scopes_at + scope_row * cap (word s scope_count) scope_limit) (omega arith) (omega arith))

first_same : (s t : List ℕ) (i : ℕ) → Same s t scopes_at entered_at → i ≤ scope_limit → first_entered t i ≡ first_entered s i
unfolding first_entered
first_same s t i w l = w (scopes_at + scope_row * i) (omega arith) (omega arith)

neat_same : (s t : List ℕ) → word t scope_count ≡ word s scope_count → Same s t scopes_at entered_at → (scopes_in t).scopes ≡ (scopes_in s).scopes → Neat s → Neat t
neat_same s t c w e neat =
    record {
      counted = rw c neat.counted;
      begins = first_same s t 0 w (omega arith) ∙ neat.begins;
      follows = λ i h.
          let k : i < word s scope_count = rw c at h in
          rw (first_same s t i w (omega (arith, neat.counted)), first_same s t (i + 1) w (omega (arith, neat.counted)), row_same i k) (neat.follows i k);
      few = rw (used_same s t c w) neat.few;
    }
  where
    row_same : (i : ℕ) → i < word s scope_count → scope_in t i ≡ scope_in s i
    row_same i l =
        let m : i < cap (word s scope_count) scope_limit = rw (neat_count s neat) l in
        sym (scope_in_lem t i (rw c m)) ∙ ap (λ (ss : List Scope). scope_at ss i) e ∙ scope_in_lem s i m

pub scopes_are : (v w : Scopes) → v.scopes ≡ w.scopes → v.of_expr ≡ w.of_expr → v ≡ w
scopes_are v w a b = ap (λ (xs : List Scope). record { scopes = xs; of_expr = v.of_expr }) a ∙ ap (λ (os : List (Option ℕ)). record { scopes = w.scopes; of_expr = os }) b

-- ---- a step that finds no room
pub walked_none : {A : Type 0} (p : Scopes → A × Scopes) (s : List ℕ) (r : A) → (Neat s → p (scopes_in s) ≡ (r, scopes_in s)) → Walked p s r s
walked_none p s r h = record { wrote = wrote_none walking s; still = record { same = refl; used = refl }; does = λ neat. (sym (h neat), neat) }

-- ---- opening
-- the scope x in the next row, whose names are those from `first` on, before e
opened : {A : Type 0} (q : Scopes → A × Scopes) (a : A) (x : Scope) (s t : List ℕ) (i p w first e : ℕ) → Long s → i ≡ cap (word s scope_count) scope_limit → i < scope_limit → p < 2 ^ 32 → w < 2 ^ 32 → e < 2 ^ 32
    → first ≡ word s (scopes_at + scope_row * i) → t ≡ set_word (set_all s (scopes_at + 4 + scope_row * i) (p ∷ w ∷ e ∷ [])) scope_count (i + 1) → scope_of_row s p w first e ≡ x → (first ≤ name_limit → e ≤ name_limit) → e ≡ first + length (names_entered x.kind)
    → (Neat s → q (scopes_in s) ≡ (a, record { scopes = (scopes_in s).scopes ++ (x ∷ []); of_expr = (scopes_in s).of_expr })) → Walked q s a t
opened q a x s t i p w first e l ei hi hp hw he ef et ex low len step =
    let r = scoped s t i p w e l hi hp hw he et in
    let u : used_names s ≡ first = used_before s t i p w e ei hi r ∙ sym ef in
    let row : scope_of_row s p w (used_names s) e ≡ x = rw u ex in
    record {
      wrote = r.wrote;
      still = r.still;
      does = λ neat.
          let few : first ≤ name_limit = rw (← u) neat.few in
          let m : More (scope_of_row s p w (used_names s) e) s t = scope_more s t i p w e ei hi r neat (low few) (rw (row, u) len) in
          (ap (λ (v : Scopes). (a, v)) (rw row at m.is) ∙ sym (step neat), m.neat);
    }

raised_next : (n : ℕ) → raised (n + 1) ≡ some n
unfolding raised
raised_next n = let e : n + 1 ≡ suc n = omega arith in rw e

no_names_row : (s : List ℕ) (u : ℕ) → rows_from (λ j. word s (entered_at + 4 * j)) u u ≡ []
unfolding rows_from rows_to
no_names_row s u = let e : u - u ≡ 0 = omega arith in rw e

pub root_more : (s t : List ℕ) (i first : ℕ) → Long s → i ≡ cap (word s scope_count) scope_limit → i < scope_limit → first ≡ word s (scopes_at + scope_row * i) → t ≡ set_word (set_all s (scopes_at + 4 + scope_row * i) (0 ∷ 0 ∷ first ∷ [])) scope_count (i + 1) → Walked try_root s tt t
unfolding try_root scope_of_row raised kind_of_scope names_entered
root_more s t i first l ei hi ef et =
    let h : first < 2 ^ 32 = rw ef (word_lt s (scopes_at + scope_row * i)) in
    opened try_root tt root s t i 0 0 first first l ei hi (omega arith) (omega arith) h ef et (rw (no_names_row s first)) (λ z. z) (omega arith) (λ neat. rw (length_scopes s, ← ei, lt-ltb i scope_limit hi))

pub root_full : (s : List ℕ) → scope_limit ≤ cap (word s scope_count) scope_limit → Walked try_root s tt s
unfolding try_root
root_full s hi = walked_none try_root s tt (λ neat. rw (length_scopes s, le-ltb (cap (word s scope_count) scope_limit) scope_limit hi))

-- whether a scope is opened
open_fits : (k : ScopeKind) (outer : ℕ) (w : Scopes) → length w.scopes < scope_limit → outer < scope_limit → kind_fits w.scopes k ≡ true → try_open k outer w ≡ open_scope k outer w
unfolding try_open
open_fits k outer w a b c = rw (lt-ltb (length w.scopes) scope_limit a, lt-ltb outer scope_limit b, c)

open_many : (k : ScopeKind) (outer : ℕ) (w : Scopes) → scope_limit ≤ length w.scopes → try_open k outer w ≡ (scope_limit, w)
unfolding try_open
open_many k outer w a = rw (le-ltb (length w.scopes) scope_limit a)

open_outer : (k : ScopeKind) (outer : ℕ) (w : Scopes) → length w.scopes < scope_limit → scope_limit ≤ outer → try_open k outer w ≡ (scope_limit, w)
unfolding try_open
open_outer k outer w a b = rw (lt-ltb (length w.scopes) scope_limit a, le-ltb outer scope_limit b)

open_unfit : (k : ScopeKind) (outer : ℕ) (w : Scopes) → length w.scopes < scope_limit → outer < scope_limit → kind_fits w.scopes k ≡ false → try_open k outer w ≡ (scope_limit, w)
unfolding try_open
open_unfit k outer w a b c = rw (lt-ltb (length w.scopes) scope_limit a, lt-ltb outer scope_limit b, c)

module _ (s : List ℕ) (i : ℕ) (ei : i ≡ cap (word s scope_count) scope_limit) where
  many : length (scopes_in s).scopes ≡ i
  many = length_scopes s ∙ sym ei

  pub scopes_full : (k : ScopeKind) (outer : ℕ) → scope_limit ≤ i → Walked (try_open k outer) s scope_limit s
  scopes_full k outer h = walked_none (try_open k outer) s scope_limit (λ neat. open_many k outer (scopes_in s) (rw many h))

  pub outer_unfit : (k : ScopeKind) (outer : ℕ) → i < scope_limit → scope_limit ≤ outer → Walked (try_open k outer) s scope_limit s
  outer_unfit k outer h b = walked_none (try_open k outer) s scope_limit (λ neat. open_outer k outer (scopes_in s) (rw many h) b)

  pub with_unfit : (e outer : ℕ) → i < scope_limit → outer < scope_limit → expr_limit ≤ e → Walked (try_open (with_expr e) outer) s scope_limit s
  unfolding kind_fits
  with_unfit e outer a b h = walked_none (try_open (with_expr e) outer) s scope_limit (λ neat. open_unfit (with_expr e) outer (scopes_in s) (rw many a) b (le-ltb e expr_limit h))

  module _ (first : ℕ) (ef : first ≡ word s (scopes_at + scope_row * i)) where
    first_used : used_names s ≡ first
    unfolding used_names first_entered
    first_used = rw (← ei) (sym ef)

    all_entered : Neat s → entered_by (scopes_in s).scopes ≡ first
    all_entered neat = sym (neat_all s neat) ∙ first_used

    -- definitions
    waiting_many : (n : ℕ) → length (waiting_names s n) ≡ n
    unfolding waiting_names
    waiting_many n = length_rows (λ k. word s (entered_at + 4 * (used_names s + k))) n

    waiting_row : (n : ℕ) → rows_from (λ j. word s (entered_at + 4 * j)) first (first + n) ≡ waiting_names s n
    unfolding rows_from waiting_names
    waiting_row n = let e : first + n - first ≡ n = omega arith in rw (e, first_used)

    names_fit_lem : Neat s → (n : ℕ) → first + n ≤ name_limit → kind_fits (scopes_in s).scopes (definitions (waiting_names s n)) ≡ true
    unfolding kind_fits
    names_fit_lem neat n h = rw (all_entered neat, waiting_many n) (le-leb (first + n) name_limit h)

    names_unfit : Neat s → (n : ℕ) → name_limit < first + n → kind_fits (scopes_in s).scopes (definitions (waiting_names s n)) ≡ false
    unfolding kind_fits
    names_unfit neat n h = rw (all_entered neat, waiting_many n) (lt-leb (first + n) name_limit h)

    pub names_full : (n outer : ℕ) → i < scope_limit → outer < scope_limit → name_limit < first + n → Walked (try_open (definitions (waiting_names s n)) outer) s scope_limit s
    names_full n outer a b h = walked_none (try_open (definitions (waiting_names s n)) outer) s scope_limit (λ neat. open_unfit (definitions (waiting_names s n)) outer (scopes_in s) (rw many a) b (names_unfit neat n h))

    pub names_more : (t : List ℕ) (n outer : ℕ) → Long s → i < scope_limit → outer < scope_limit → first + n ≤ name_limit → t ≡ set_word (set_all s (scopes_at + 4 + scope_row * i) ((outer + 1) ∷ 0 ∷ (first + n) ∷ [])) scope_count (i + 1) → Walked (try_open (definitions (waiting_names s n)) outer) s i t
    unfolding scope_of_row raised kind_of_scope names_entered open_scope
    names_more t n outer l a b h et =
        let k = definitions (waiting_names s n) in
        opened (try_open k outer) i (record { parent = some outer; kind = k }) s t i (outer + 1) 0 first (first + n) l ei a (omega arith) (omega arith) (omega arith) ef et (rw (raised_next outer, waiting_row n)) (λ z. h) (rw (waiting_many n))
        (λ neat. open_fits k outer (scopes_in s) (rw many a) b (names_fit_lem neat n h) ∙ rw many)

    -- a With
    pub with_more : (t : List ℕ) (e outer : ℕ) → Long s → i < scope_limit → outer < scope_limit → e < expr_limit → t ≡ set_word (set_all s (scopes_at + 4 + scope_row * i) ((outer + 1) ∷ (e + 1) ∷ first ∷ [])) scope_count (i + 1) → Walked (try_open (with_expr e) outer) s i t
    unfolding scope_of_row raised kind_of_scope names_entered open_scope kind_fits
    with_more t e outer l a b h et =
        let hf : first < 2 ^ 32 = rw ef (word_lt s (scopes_at + scope_row * i)) in
        opened (try_open (with_expr e) outer) i (record { parent = some outer; kind = with_expr e }) s t i (outer + 1) (e + 1) first first l ei a (omega arith) (omega arith) hf ef et (rw (raised_next outer, raised_next e)) (λ z. z) (omega arith)
        (λ neat. open_fits (with_expr e) outer (scopes_in s) (rw many a) b (lt-ltb e expr_limit h) ∙ rw many)

-- ---- placing
pub unplaced : (s : List ℕ) (e scope : ℕ) → scope_limit ≤ scope → Walked (try_place e scope) s tt s
unfolding try_place
unplaced s e scope h = walked_none (try_place e scope) s tt (λ neat. rw (le-ltb scope scope_limit h))

length_placed : (s : List ℕ) → length (scopes_in s).of_expr ≡ cap (word s expr_count) expr_limit
unfolding scopes_in
length_placed s = length_rows (scope_of s) (cap (word s expr_count) expr_limit)

pub nothing_placed : (s : List ℕ) (e scope n : ℕ) → scope < scope_limit → n ≡ cap (word s expr_count) expr_limit → n ≤ e → Walked (try_place e scope) s tt s
unfolding try_place place_expr
nothing_placed s e scope n h en k =
    let z : length (scopes_in s).of_expr ≤ e = rw (length_placed s, ← en) k in
    walked_none (try_place e scope) s tt (λ neat. rw (lt-ltb scope scope_limit h, set_out (scopes_in s).of_expr e (some scope) z))

module _ (s t : List ℕ) (e scope n : ℕ) (l : Long s) (h : scope < scope_limit) (en : n ≡ cap (word s expr_count) expr_limit) (k : e < n) (et : t ≡ set_word s (uses_at + use_row * e) (scope + 1)) where
  few_placed : e < expr_limit
  few_placed = omega (arith, cap_lim (word s expr_count) expr_limit)

  placed_other : (j : ℕ) → (j + 4 ≤ uses_at + use_row * e) ⊎ (uses_at + use_row * e + 4 ≤ j) → word t j ≡ word s j
  placed_other j o = rw et (word_set_word_other s (uses_at + use_row * e) (scope + 1) j o)

  placed_scopes : (scopes_in t).scopes ≡ (scopes_in s).scopes
  placed_scopes =
      let f = few_placed in
      scopes_same s t name_limit (placed_other scope_count (inl (omega arith))) (λ j a b. placed_other j (inr (omega arith))) (λ j a b. placed_other j (inr (omega arith))) (λ i q. cap_lim (first_entered s (i + 1)) name_limit)

  placed_one : (scopes_in t).of_expr ≡ set (scopes_in s).of_expr e (some scope)
  unfolding scopes_in scope_of
  placed_one =
      let f = few_placed in
      let m : e < cap (word s expr_count) expr_limit = rw (← en) k in
      let here : word t (uses_at + use_row * e) ≡ scope + 1 = rw et (word_set_word_same s (uses_at + use_row * e) (scope + 1) (omega arith) (omega arith)) in
      let c : word t expr_count ≡ word s expr_count = placed_other expr_count (inl (omega arith)) in
      let one = rows_put (λ i. raised (word s (uses_at + use_row * i))) (λ i. raised (word t (uses_at + use_row * i))) (cap (word s expr_count) expr_limit) e m (λ i q. ap raised (placed_other (uses_at + use_row * i) (inl (omega arith)))) (λ i q q2. ap raised (placed_other (uses_at + use_row * i) (inr (omega arith)))) in
      rw c (one ∙ rw (here, raised_next scope))

  pub placed : Walked (try_place e scope) s tt t
  unfolding try_place place_expr walking Outside
  placed =
      let f = few_placed in
      record {
        wrote =
            record {
              size = rw et (length_set_word s (uses_at + use_row * e) (scope + 1));
              other = λ j o. placed_other j (clear_of (uses_at + use_row * e) 4 uses_at firsts_at j (omega arith) (omega arith) o.1.0);
            };
        still = rw et (still_set_word s (uses_at + use_row * e) (scope + 1) (omega arith) (λ z. omega arith));
        does = λ neat. (rw (lt-ltb scope scope_limit h, ← placed_scopes, ← placed_one), neat_same s t (placed_other scope_count (inl (omega arith))) (λ j a b. placed_other j (inr (omega arith))) placed_scopes neat);
      }

-- ---- names that wait
module _ (s : List ℕ) (n first i x : ℕ) (l : Long s) (en : n ≡ cap (word s scope_count) scope_limit) (ef : first ≡ word s (scopes_at + scope_row * n)) where
  used_first : used_names s ≡ first
  unfolding used_names first_entered
  used_first = rw (← en) (sym ef)

  pub not_waiting : name_limit ≤ first + i → Waits i x s s
  not_waiting h =
      record {
        wrote = wrote_none walking s;
        still = record { same = refl; used = refl };
        same = λ neat. (refl, neat);
        used = refl;
        waits = λ z. absurd (omega (arith, used_first));
      }

  module _ (t : List ℕ) (h : first + i < name_limit) (hx : x < 2 ^ 32) (et : t ≡ set_word s (entered_at + 4 * (first + i)) x) where
    put_other : (j : ℕ) → (j + 4 ≤ entered_at + 4 * (first + i)) ⊎ (entered_at + 4 * (first + i) + 4 ≤ j) → word t j ≡ word s j
    put_other j o = rw et (word_set_word_other s (entered_at + 4 * (first + i)) x j o)

    put_used : used_names t ≡ used_names s
    put_used = used_same s t (put_other scope_count (inl (omega arith))) (λ j a b. put_other j (inl (omega arith)))

    put_waits : waiting_names t (i + 1) ≡ waiting_names s i ++ (x ∷ [])
    unfolding waiting_names rows_to
    put_waits =
        let z : i + 1 ≡ suc i = omega arith in
        let one : word t (entered_at + 4 * (first + i)) ≡ x = rw et (word_set_word_same s (entered_at + 4 * (first + i)) x (omega arith) hx) in
        rw (z, put_used, used_first, one) (ap (λ (ys : List ℕ). ys ++ (x ∷ [])) (rows_same (λ k. word t (entered_at + 4 * (used_names t + k))) (λ k. word s (entered_at + 4 * (first + k))) i (λ k q. rw (put_used, used_first) (put_other (entered_at + 4 * (first + k)) (inl (omega arith))))))

    ends : Neat s → (k : ℕ) → k < cap (word s scope_count) scope_limit → cap (first_entered s (k + 1)) name_limit ≤ first
    ends neat k q =
        let c : k < word s scope_count = rw (neat_count s neat) at q in
        let a = neat_below s neat (k + 1) (omega arith) in
        let b = cap_less (first_entered s (k + 1)) name_limit (first_entered s (k + 1)) (inr (omega arith)) in
        omega (arith, used_first)

    put_scopes : Neat s → (scopes_in t).scopes ≡ (scopes_in s).scopes
    put_scopes neat = scopes_same s t first (put_other scope_count (inl (omega arith))) (λ j a b. put_other j (inl (omega arith))) (λ j a b. put_other j (inl (omega arith))) (ends neat)

    put_placed : (scopes_in t).of_expr ≡ (scopes_in s).of_expr
    put_placed = placed_same s t (put_other expr_count (inl (omega arith))) (λ j a b. put_other j (inl (omega arith)))

    pub waiting : Waits i x s t
    unfolding walking Outside
    waiting =
        record {
          wrote =
              record {
                size = rw et (length_set_word s (entered_at + 4 * (first + i)) x);
                other = λ j o. put_other j (clear_of (entered_at + 4 * (first + i)) 4 uses_at firsts_at j (omega arith) (omega arith) o.1.0);
              };
          still = rw et (still_set_word s (entered_at + 4 * (first + i)) x (omega arith) (λ z. omega arith));
          same = λ neat. (scopes_are (scopes_in t) (scopes_in s) (put_scopes neat) put_placed, neat_same s t (put_other scope_count (inl (omega arith))) (λ j a b. put_other j (inl (omega arith))) (put_scopes neat) neat);
          used = put_used;
          waits = λ z. put_waits;
        }

-- ---- clearing
rows_all : {A : Type 0} (x : A) (n : ℕ) → rows_to (λ i. x) n ≡ replicate n x
unfolding rows_to
rows_all x zero = refl
rows_all x (suc n) = let e : n + 1 ≡ suc n = omega arith in rw (rows_all x n) (replicate-append-replicate n 1 x ∙ rw e)

module _ (s u v t : List ℕ) (n : ℕ) (l : Long s) (en : n ≡ cap (word s expr_count) expr_limit) (d : Zeroed uses_at use_row n s u) (ev : v ≡ set_word u scopes_at 0) (et : t ≡ set_word v scope_count 0) where
  size_u : length u ≡ length s
  size_u = d.wrote.size

  size_v : length v ≡ length s
  size_v = rw ev (length_set_word u scopes_at 0 ∙ size_u)

  cleared_other : (j : ℕ) → (j + 4 ≤ scope_count) ⊎ (scope_count + 4 ≤ j) → (j + 4 ≤ scopes_at) ⊎ (scopes_at + 4 ≤ j) → word t j ≡ word u j
  cleared_other j a b = let x : word v j ≡ word u j = rw ev (word_set_word_other u scopes_at 0 j b) in rw et (word_set_word_other v scope_count 0 j a ∙ x)

  cleared_exprs : word t expr_count ≡ word s expr_count
  unfolding Outside
  cleared_exprs = cleared_other expr_count (inl (omega arith)) (inl (omega arith)) ∙ d.wrote.other expr_count (inl (omega arith), tt)

  cleared_count : word t scope_count ≡ 0
  cleared_count = rw et (word_set_word_same v scope_count 0 (omega (arith, size_v)) (omega arith))

  cleared_first : word t scopes_at ≡ 0
  cleared_first =
      let x : word v scopes_at ≡ 0 = rw ev (word_set_word_same u scopes_at 0 (omega (arith, size_u)) (omega arith)) in
      rw et (word_set_word_other v scope_count 0 scopes_at (inr (omega arith)) ∙ x)

  no_scopes : cap (word t scope_count) scope_limit ≡ 0
  no_scopes = rw cleared_count (cap_le 0 scope_limit (omega arith))

  cleared_scopes : (scopes_in t).scopes ≡ []
  unfolding scopes_in rows_to
  cleared_scopes = rw no_scopes

  cleared_placed : (scopes_in t).of_expr ≡ replicate (length (exprs_of s)) none
  unfolding scopes_in scope_of exprs_of raised
  cleared_placed =
      let lim = cap_lim (word s expr_count) expr_limit in
      let gone : (e : ℕ) → e < cap (word s expr_count) expr_limit → raised (word t (uses_at + use_row * e)) ≡ none = λ e h. ap raised (cleared_other (uses_at + use_row * e) (inr (omega arith)) (inl (omega arith)) ∙ d.gone e (rw en h)) in
      rw (cleared_exprs, length_rows (made_in s) (cap (word s expr_count) expr_limit)) (rows_same (λ e. raised (word t (uses_at + use_row * e))) (λ e. none) (cap (word s expr_count) expr_limit) gone ∙ rows_all none (cap (word s expr_count) expr_limit))

  cleared_used : used_names t ≡ 0
  unfolding used_names first_entered
  cleared_used = rw no_scopes cleared_first

  cleared_begins : first_entered t 0 ≡ 0
  unfolding first_entered
  cleared_begins = cleared_first

  pub emptied : Emptied s t
  unfolding walking Outside
  emptied =
      record {
        wrote =
            record {
              size = rw et (length_set_word v scope_count 0 ∙ size_v);
              other = λ j o. cleared_other j o.0 (clear_of scopes_at 4 uses_at firsts_at j (omega arith) (omega arith) o.1.0) ∙ d.wrote.other j (clear_of uses_at (use_row * n) uses_at firsts_at j (omega arith) (omega (arith, en, cap_lim (word s expr_count) expr_limit)) o.1.0, tt);
            };
        still = still_then d.still (still_then {u = v} (rw ev (still_set_word u scopes_at 0 (omega arith) (λ z. omega arith))) (rw et (still_set_word v scope_count 0 (omega arith) (λ z. omega arith))));
        is = scopes_are (scopes_in t) (record { scopes = []; of_expr = replicate (length (exprs_of s)) none }) cleared_scopes cleared_placed;
        neat =
            record {
              counted = rw cleared_count (omega arith);
              begins = cleared_begins;
              follows = λ i h. let z : i < 0 = rw cleared_count at h in absurd (omega arith);
              few = rw cleared_used (omega arith);
            };
      }
