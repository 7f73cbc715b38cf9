-- The bytes of scopes that are neat and in range are sound. Assumes nothing.
use mathlib.Core.Path.{◌≡◌, refl, sym, ap, ◌∙◌}
use mathlib.Core.Bool.{Bool, true, false}
use mathlib.Core.List.{List, [], ◌∷◌}
use mathlib.Core.Option.{Option, none, some}
use mathlib.Mathlib.Data.Bool.Basic.{and_intro}
use Prim.Native.Nat.{ℕ, zero, suc, ◌+◌, ◌-◌, ◌*◌, ◌≤◌, ◌<◌}
use native.Mathlib.Omega.{arith}
use lib.ListN.{length, get_or}
use lib.Dec.{ltb}
use borrow.Author.Tests.{lt-ltb, le-leb, ltb-true, ltb-false}
use Rattle.words.specs.Words.{word}
use Rattle.spec.specs.Basics.{ExprId, ScopeId}
use Rattle.spec.specs.Scopes.{one_or_none}
use Rattle.spec.specs.Answer.{scope_at}
use Rattle.spec.proofs.general.Sums.{all_get_d}
use Rattle.spec.proofs.sound.Ordered.{AllBelow}
use Rattle.spec.proofs.sound.ScopeRange.{KindIn, InRange}
use Rattle.spec.proofs.sound.Sound.{kinds_in}
use Rattle.layout.specs.Layout.{expr_limit, name_limit, use_row, scope_row, expr_count, name_count, scope_count, uses_at, scopes_at, entered_at}
use Rattle.layout.specs.Rows.{cap, rows_from, raised}
use Rattle.layout.specs.Keeps.{first_entered, entered_of, kind_of_scope, scope_in, scope_of, scopes_in}
use Rattle.layout.proofs.RowLaws.{get_d_rows, length_rows, get_d_between, cap_le}
use Rattle.soundness.specs.Sound.{name_fits, scope_fits, scopes_fit}
use Rattle.soundness.specs.Coded.{ScopesFit}
use Rattle.soundness.proofs.SoundLaws.{all_from_each, ascends_from}
use Rattle.kept.specs.Walks.{names_entered, Neat}
use Rattle.kept.proofs.ScopeReads.{scope_in_lem, length_scopes}
use Rattle.kept.proofs.NeatLaws.{neat_count, neat_rises, neat_below}

-- ---- one number
-- a number that is raised tells what it was
raised_within : (w n : ℕ) → AllBelow n (one_or_none (raised w)) → w ≤ n
unfolding raised one_or_none
raised_within zero n a = omega arith
raised_within (suc w) n a = a.0

with_within : (w x e : ℕ) (ys : List ℕ) → KindIn x e (kind_of_scope (raised w) ys) → w ≤ e
unfolding raised kind_of_scope
with_within zero x e ys h = omega arith
with_within (suc w) x e ys h = h

listed_below : (xs : List ℕ) (k x : ℕ) → AllBelow x xs → k < length xs → get_or xs k 0 < x
listed_below [] k x a l = absurd (omega arith)
listed_below (y ∷ ys) zero x a l = a.0
listed_below (y ∷ ys) (suc k) x a l = listed_below ys k x a.1 (omega arith)

-- a name of a list, where a With has none
entered_below : (o : Option ℕ) (xs : List ℕ) (k x e : ℕ) → KindIn x e (kind_of_scope o xs) → k < length (names_entered (kind_of_scope o xs)) → get_or xs k 0 < x
unfolding kind_of_scope names_entered
entered_below none xs k x e h l = listed_below xs k x h l
entered_below (some d) xs k x e h l = absurd (omega arith)

-- ---- all of them
module _ (s : List ℕ) (neat : Neat s) (range : InRange (word s name_count) (word s expr_count) (scopes_in s)) where
  here : (i : ScopeId) → i < word s scope_count → scope_at (scopes_in s).scopes i ≡ scope_in s i
  here i l = scope_in_lem s i (rw (neat_count s neat) l)

  many : length (scopes_in s).scopes ≡ word s scope_count
  many = length_scopes s ∙ neat_count s neat

  kind_within : (i : ScopeId) → i < word s scope_count → KindIn (word s name_count) (word s expr_count) (scope_in s i).kind
  kind_within i l = rw (here i l) at (kinds_in _ _ (scopes_in s) range i)

  row_fits_lem : (i : ScopeId) → i < word s scope_count → scope_fits s i ≡ true
  unfolding scope_fits scope_in
  row_fits_lem i l =
      let above : AllBelow i (one_or_none (scope_in s i).parent) = rw (here i l) at (range.parents i (rw many l)) in
      let parent = raised_within (word s (scopes_at + scope_row * i + 4)) i above in
      let source = with_within (word s (scopes_at + scope_row * i + 8)) _ (word s expr_count) _ (kind_within i l) in
      and_intro (le-leb _ i parent) (le-leb _ (word s expr_count) source)

  first_within : (i : ScopeId) → i ≤ word s scope_count → first_entered s i ≤ name_limit
  first_within i l = omega (arith, neat_below s neat i l, neat.few)

  own_within : (i j : ℕ) → i < word s scope_count → first_entered s i ≤ j → j < first_entered s (i + 1) → word s (entered_at + 4 * j) < word s name_count
  unfolding scope_in entered_of
  own_within i j l a b =
      let f : ℕ → ℕ = λ k. word s (entered_at + 4 * k) in
      let lo = first_entered s i in
      let hi = first_entered s (i + 1) in
      let is_lo : cap lo name_limit ≡ lo = cap_le lo name_limit (first_within i (omega arith)) in
      let is_hi : cap hi name_limit ≡ hi = cap_le hi name_limit (first_within (i + 1) (omega arith)) in
      let k = j - lo in
      let z : lo + k ≡ j = omega arith in
      let own : k < length (names_entered (scope_in s i).kind) = omega (arith, neat.follows i l) in
      let one = entered_below (raised (word s (scopes_at + scope_row * i + 8))) (entered_of s i) k (word s name_count) (word s expr_count) (kind_within i l) own in
      let got : get_or (rows_from f (cap lo name_limit) (cap hi name_limit)) k 0 ≡ f j = rw (is_lo, is_hi) (get_d_between f lo hi k 0 (omega arith) ∙ ap f z) in
      rw got at one

  names_within : (n : ℕ) → n ≤ word s scope_count → (j : ℕ) → j < first_entered s n → word s (entered_at + 4 * j) < word s name_count
  names_within zero l j h = absurd (omega (arith, neat.begins))
  names_within (suc n) l j h = go (λ m. names_within n (omega arith) j m) (ltb j (first_entered s n)) refl
    where
      z : first_entered s (suc n) ≡ first_entered s (n + 1)
      z = let q : suc n ≡ n + 1 = omega arith in ap (first_entered s) q

      go : (j < first_entered s n → word s (entered_at + 4 * j) < word s name_count) → (b : Bool) → ltb j (first_entered s n) ≡ b → word s (entered_at + 4 * j) < word s name_count
      go ahead true q = ahead (ltb-true j (first_entered s n) q)
      go ahead false q = own_within n j (omega arith) (ltb-false j (first_entered s n) q) (omega (arith, z))

  all_scopes : scopes_fit s ≡ true
  unfolding scopes_fit name_fits
  all_scopes =
      let n = word s scope_count in
      let top : first_entered s n ≤ name_limit = first_within n (omega arith) in
      let rows = all_from_each (scope_fits s) n row_fits_lem in
      let names = all_from_each (λ j. name_fits s (word s (entered_at + 4 * j))) (first_entered s n) (λ j l. lt-ltb _ (word s name_count) (names_within n (omega arith) j l)) in
      and_intro (ascends_from (first_entered s) n name_limit neat.begins (neat_rises s neat) top) (and_intro rows names)

  placed_within : (e : ExprId) → e < word s expr_count → word s (uses_at + use_row * e) ≤ word s scope_count
  unfolding scopes_in scope_of one_or_none
  placed_within e l =
      let c : cap (word s expr_count) expr_limit ≡ word s expr_count = sym (length_rows (scope_of s) (cap (word s expr_count) expr_limit)) ∙ range.placed in
      let o = all_get_d (λ (o : Option ScopeId). AllBelow (length (scopes_in s).scopes) (one_or_none o)) (scopes_in s).of_expr e none tt range.places in
      let is : get_or (scopes_in s).of_expr e none ≡ scope_of s e = get_d_rows (scope_of s) (cap (word s expr_count) expr_limit) e none (rw c l) in
      let own : AllBelow (word s scope_count) (one_or_none (raised (word s (uses_at + use_row * e)))) = rw (is, many) at o in
      raised_within (word s (uses_at + use_row * e)) (word s scope_count) own

  -- THEOREM. Scopes that are neat and in range pass the check of a store.
  pub neat_fits : ScopesFit s
  neat_fits = record { few = neat.counted; scopes = all_scopes; placed = placed_within }
