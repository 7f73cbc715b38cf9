-- Where scopes fit every entered name and every With is one that there is, so that a row can hold its number. Assumes
-- nothing.
use mathlib.Core.Path.{◌≡◌, refl}
use mathlib.Core.Logic.{inr}
use mathlib.Core.Bool.{Bool, true, false, ◌&&◌, and-eq-true_iff}
use mathlib.Core.List.{List, [], ◌∷◌}
use Prim.Native.Nat.{ℕ, zero, suc, ◌+◌, ◌-◌, ◌*◌, ◌≤◌, ◌<◌}
use native.Mathlib.Numerals.{add-one}
use native.Mathlib.Omega.{arith}
use lib.Dec.{eqb, leb, ltb}
use borrow.Author.Tests.{leb-true, ltb-true, ltb-false}
use Rattle.words.specs.Words.{word}
use Rattle.spec.specs.Scopes.{ScopeKind, definitions, with_expr}
use Rattle.spec.proofs.general.Sums.{All, all_append, all_map, compared}
use Rattle.spec.specs.Answer.{scope_at}
use Rattle.spec.proofs.sound.ScopeRange.{KindIn}
use Rattle.layout.specs.Layout.{name_limit, scope_limit, scope_row, expr_count, name_count, scope_count, scopes_at, entered_at}
use Rattle.layout.specs.Rows.{cap, rows_to, rows_from, raised}
use Rattle.layout.specs.Keeps.{first_entered, entered_of, kind_of_scope, scope_in, scopes_in}
use Rattle.layout.proofs.RowLaws.{cap_less}
use Rattle.soundness.specs.Sound.{all_to, ascends, name_fits, scope_fits, scopes_fit}
use Rattle.kept.proofs.ScopeReads.{scope_in_lem, scope_out}
use Rattle.soundness.proofs.SoundLaws.{all_each}
use Rattle.nameres.specs.Resolution.{Scoped}

-- rows that say where their lists begin
rises : (first : ℕ → ℕ) (n i : ℕ) → all_to (λ k. leb (first k) (first (k + 1))) n ≡ true → i ≤ n → first i ≤ first n
unfolding all_to
rises first zero i h l = let z : i ≡ 0 = omega arith in rw z (omega arith)
rises first (suc n) i h l =
    let both = (and-eq-true_iff (all_to (λ k. leb (first k) (first (k + 1))) n) (leb (first n) (first (n + 1)))).0 h in
    let last : first n ≤ first (suc n) = rw add-one at (leb-true (first n) (first (n + 1)) both.1) in
    compared i (suc n) (λ e. rw e (omega arith)) (λ e. let z = rises first n i both.0 (omega arith) in omega arith)

all_rows : {A : Type 0} (P : A → Type 0) (f : ℕ → A) (n : ℕ) → ((k : ℕ) → k < n → P (f k)) → All P (rows_to f n)
unfolding rows_to
all_rows P f zero h = tt
all_rows P f (suc n) h = all_append P (rows_to f n) (f n ∷ []) (all_rows P f n (λ k l. h k (omega arith))) (h n (omega arith), tt)

pub kind_wider : (n m e d : ℕ) (k : ScopeKind) → n ≤ m → e ≤ d → KindIn n e k → KindIn m d k
kind_wider n m e d (definitions xs) l h a = all_map _ _ (λ x q. omega arith) xs a
kind_wider n m e d (with_expr c) l h a = omega arith

module _ (s : List ℕ) (h : Scoped s) where
  all_named : (j : ℕ) → j < first_entered s (word s scope_count) → word s (entered_at + 4 * j) < word s name_count
  unfolding scopes_fit name_fits
  all_named j l =
      let a = ((and-eq-true_iff (ascends (first_entered s) (word s scope_count) name_limit) (all_to (scope_fits s) (word s scope_count) && all_to (λ k. name_fits s (word s (entered_at + 4 * k))) (first_entered s (word s scope_count)))).0 h.fits.scopes).1 in
      let b = ((and-eq-true_iff (all_to (scope_fits s) (word s scope_count)) (all_to (λ k. name_fits s (word s (entered_at + 4 * k))) (first_entered s (word s scope_count)))).0 a).1 in
      ltb-true (word s (entered_at + 4 * j)) (word s name_count) (all_each (λ k. name_fits s (word s (entered_at + 4 * k))) (first_entered s (word s scope_count)) j b l)

  firsts_rise : (i : ℕ) → i ≤ word s scope_count → first_entered s i ≤ first_entered s (word s scope_count)
  unfolding scopes_fit ascends
  firsts_rise i l =
      let a = ((and-eq-true_iff (ascends (first_entered s) (word s scope_count) name_limit) (all_to (scope_fits s) (word s scope_count) && all_to (λ k. name_fits s (word s (entered_at + 4 * k))) (first_entered s (word s scope_count)))).0 h.fits.scopes).0 in
      let b = ((and-eq-true_iff (eqb (first_entered s 0) 0) (all_to (λ k. leb (first_entered s k) (first_entered s (k + 1))) (word s scope_count) && leb (first_entered s (word s scope_count)) name_limit)).0 a).1 in
      let c = ((and-eq-true_iff (all_to (λ k. leb (first_entered s k) (first_entered s (k + 1))) (word s scope_count)) (leb (first_entered s (word s scope_count)) name_limit)).0 b).0 in
      rises (first_entered s) (word s scope_count) i c l

  own_below : (i : ℕ) → i < cap (word s scope_count) scope_limit → All (λ x. x < word s name_count) (entered_of s i)
  unfolding entered_of rows_from
  own_below i l =
      let lo = cap (first_entered s i) name_limit in
      let hi = cap (first_entered s (i + 1)) name_limit in
      let m = cap_less (word s scope_count) scope_limit (word s scope_count) (inr (omega arith)) in
      let r = firsts_rise (i + 1) (omega arith) in
      let u = cap_less (first_entered s (i + 1)) name_limit (first_entered s (i + 1)) (inr (omega arith)) in
      all_rows (λ x. x < word s name_count) (λ k. word s (entered_at + 4 * (lo + k))) (hi - lo) (λ k q. omega (arith, all_named (lo + k) (omega arith)))

  -- a With is one of the expressions
  with_fits : (i : ℕ) → i < word s scope_count → word s (scopes_at + scope_row * i + 8) ≤ word s expr_count
  unfolding scopes_fit scope_fits
  with_fits i l =
      let a = ((and-eq-true_iff (ascends (first_entered s) (word s scope_count) name_limit) (all_to (scope_fits s) (word s scope_count) && all_to (λ k. name_fits s (word s (entered_at + 4 * k))) (first_entered s (word s scope_count)))).0 h.fits.scopes).1 in
      let b = ((and-eq-true_iff (all_to (scope_fits s) (word s scope_count)) (all_to (λ k. name_fits s (word s (entered_at + 4 * k))) (first_entered s (word s scope_count)))).0 a).0 in
      let c = ((and-eq-true_iff (leb (word s (scopes_at + scope_row * i + 4)) i) (leb (word s (scopes_at + scope_row * i + 8)) (word s expr_count))).0 (all_each (scope_fits s) (word s scope_count) i b l)).1 in
      leb-true (word s (scopes_at + scope_row * i + 8)) (word s expr_count) c

  kind_of_lem : (w : ℕ) (xs : List ℕ) → w ≤ word s expr_count → All (λ x. x < word s name_count) xs → KindIn (word s name_count) (word s expr_count) (kind_of_scope (raised w) xs)
  unfolding kind_of_scope raised
  kind_of_lem zero xs l a = a
  kind_of_lem (suc w) xs l a = omega arith

  pub kind_at : (i : ℕ) → KindIn (word s name_count) (word s expr_count) (scope_at (scopes_in s).scopes i).kind
  unfolding scope_in
  kind_at i = go (ltb i (cap (word s scope_count) scope_limit)) refl
    where
      go : (b : Bool) → ltb i (cap (word s scope_count) scope_limit) ≡ b → KindIn (word s name_count) (word s expr_count) (scope_at (scopes_in s).scopes i).kind
      go true q =
          let l = ltb-true i (cap (word s scope_count) scope_limit) q in
          let m = cap_less (word s scope_count) scope_limit (word s scope_count) (inr (omega arith)) in
          let fits = with_fits i (omega arith) in
          rw (scope_in_lem s i l) (kind_of_lem (word s (scopes_at + scope_row * i + 8)) (entered_of s i) (omega arith) (own_below i l))
      go false q = rw (scope_out s i (ltb-false i (cap (word s scope_count) scope_limit) q)) tt
