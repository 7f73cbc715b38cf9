-- The number that `find` gives is in the place of the run where the entries begin that are not before the key. Assumes
-- nothing.
use mathlib.Core.Path.{◌≡◌, refl, sym, ap, ◌∙◌}
use mathlib.Core.Bool.{Bool, true, false, not}
use mathlib.Core.List.{List, [], ◌∷◌}
use mathlib.Core.Option.{Option, none, some}
use Prim.Native.Nat.{ℕ, zero, suc, ◌<◌, ◌≤◌}
use native.Mathlib.Omega.{arith}
use lib.Dec.{eqb, ltb}
use lib.ListN.{length, get_or}
use borrow.Author.Tests.{eqb-true, eq-eqb, ltb-true, ltb-false, not-true, not-false}
use Rattle.words.specs.Order.{pick}
use Rattle.words.specs.Equality.{equalb}
use Rattle.words.proofs.EqualityLaws.{equalb_true, equalb_refl}
use Rattle.spec.specs.Basics.{Text}
use Rattle.spec.specs.State.{SetId, MergingEntry, static, source, dynamic, State}
use Rattle.spec.specs.Merge.{is_at, find_from, find}
use Rattle.spec.proofs.general.BoolLaws.{differ}
use Rattle.open_sets.specs.Ranks.{class_of, key_of, standing, before, insert_by, Numbered, standing_of, ranked_from, InOrder, placed}
use Rattle.open_sets.proofs.RankOrder.{Le, Gt, either, not_both, le_refl, le_both, before_is, after_le, after_gt}
use Rattle.open_sets.proofs.Inserting.{here, later}
use Rattle.open_sets.proofs.Halving.{Begins}
use Rattle.open_sets.proofs.RankLaws.{nobody, number_at, placed_ranked, length_ranked, run_le}

module _ (s : SetId) (key : Text) where
  -- the entry that is looked for
  abbrev pub probe : MergingEntry
  probe = static s key 0 none none

  -- ---- the key's entries stand where the probe does
  pub is_at_standing : (e : MergingEntry) → is_at s key e ≡ true → standing e ≡ standing probe
  unfolding is_at standing class_of key_of
  is_at_standing (static t k x nested value) h = go (eqb t s) (equalb k key) refl refl
    where
      go : (a b : Bool) → eqb t s ≡ a → equalb k key ≡ b → t ∷ 0 ∷ k ≡ s ∷ 0 ∷ key
      go true true p q = let e = eqb-true t s p in let f = equalb_true k key q in cc
      go true false p q = differ (sym (rw (p, q) at h))
      go false b p q = differ (sym (rw p at h))
  is_at_standing (source t e) h = differ (sym h)
  is_at_standing (dynamic t k v) h = differ (sym h)

  pub standing_is_at : (e : MergingEntry) → standing e ≡ standing probe → is_at s key e ≡ true
  unfolding is_at standing class_of key_of
  standing_is_at (static t k x nested value) h =
      let p : t ≡ s = cc in
      let q : k ≡ key = cc in
      rw (eq-eqb t s p, q, equalb_refl key)
  standing_is_at (source t e) h = let z : ◌≡◌ {A = ℕ} 0 1 = cc in absurd (omega arith)
  standing_is_at (dynamic t k v) h = let z : ◌≡◌ {A = ℕ} 0 2 = cc in absurd (omega arith)

  -- ---- the first of a list that has the key
  unfoldable first_at : List Numbered → Option ℕ
  first_at [] = none
  first_at (p ∷ ps) = pick (is_at s key p.0) (some p.1) (first_at ps)

  -- two that have it are equal, so that none is later than the other
  one_later : (p q : Numbered) (a b : Bool) → is_at s key p.0 ≡ a → is_at s key q.0 ≡ b → Gt (standing_of p) (standing_of q) → (r : Option ℕ)
      → pick b (some q.1) (pick a (some p.1) r) ≡ pick a (some p.1) (pick b (some q.1) r)
  unfolding standing_of
  one_later p q true true h k g r =
      let e : standing p.0 ≡ standing q.0 = is_at_standing p.0 h ∙ sym (is_at_standing q.0 k) in
      not_both (standing p.0) (standing q.0) (rw e (le_refl (standing q.0))) g
  one_later p q true false h k g r = refl
  one_later p q false true h k g r = refl
  one_later p q false false h k g r = refl

  first_insert : (p : Numbered) (ps : List Numbered) → first_at (insert_by standing_of p ps) ≡ pick (is_at s key p.0) (some p.1) (first_at ps)
  unfolding first_at insert_by
  first_insert p [] = refl
  first_insert p (q ∷ qs) = go (first_insert p qs)
    where
      go : first_at (insert_by standing_of p qs) ≡ pick (is_at s key p.0) (some p.1) (first_at qs)
          → first_at (insert_by standing_of p (q ∷ qs)) ≡ pick (is_at s key p.0) (some p.1) (first_at (q ∷ qs))
      go rest =
          either (standing_of p) (standing_of q)
          (λ h. ap first_at (here standing_of p q qs h))
          (λ h. ap first_at (later standing_of p q qs h) ∙ ap (pick (is_at s key q.0) (some q.1)) rest ∙ one_later p q (is_at s key p.0) (is_at s key q.0) refl refl h (first_at qs))

  find_first : (i : ℕ) (es : List MergingEntry) → find_from s key i es ≡ first_at (ranked_from i es)
  unfolding find_from ranked_from first_at
  find_first i [] = refl
  find_first i (e ∷ es) = ap (pick (is_at s key e) (some i)) (find_first (suc i) es) ∙ sym (first_insert (e, i) (ranked_from (suc i) es))

  first_at_lem : (ps : List Numbered) (q : ℕ) → q < length ps → ((j : ℕ) → j < q → is_at s key (get_or ps j nobody).0 ≡ false) → is_at s key (get_or ps q nobody).0 ≡ true
      → first_at ps ≡ some (get_or ps q nobody).1
  unfolding first_at
  first_at_lem [] q h f t = absurd (omega arith)
  first_at_lem (p ∷ ps) zero h f t = rw t
  first_at_lem (p ∷ ps) (suc q) h f t = rw (f 0 (omega arith)) (first_at_lem ps q (omega arith) (λ j l. f (suc j) (omega arith)) t)

  first_none : (ps : List Numbered) → ((j : ℕ) → j < length ps → is_at s key (get_or ps j nobody).0 ≡ false) → first_at ps ≡ none
  unfolding first_at
  first_none [] f = refl
  first_none (p ∷ ps) f = rw (f 0 (omega arith)) (first_none ps (λ j l. f (suc j) (omega arith)))

  -- ---- by the place where those begin that are not before the probe
  module _ {es : List MergingEntry} {run : List ℕ} (o : InOrder es run) where
    placed_at : (j : ℕ) → j < length es → placed es run j ≡ (get_or (ranked_from 0 es) j nobody).0
    placed_at j h = rw o.same (placed_ranked es j h)

    none_of : ((j : ℕ) → j < length es → is_at s key (placed es run j) ≡ false) → find_from s key 0 es ≡ none
    none_of f =
        find_first 0 es
        ∙ first_none (ranked_from 0 es) (λ j h. let l : j < length es = omega (arith, length_ranked 0 es) in rw (placed_at j l) at (f j l))

    -- what stands elsewhere does not have the key
    other : (e : MergingEntry) → ¬ (standing e ≡ standing probe) → is_at s key e ≡ false
    other e h = go (is_at s key e) refl
      where
        go : (t : Bool) → is_at s key e ≡ t → t ≡ false
        go true p = absurd (h (is_at_standing e p))
        go false p = refl

    module _ (q : ℕ) (b : Begins (λ j. not (before (placed es run j) probe)) (length es) q) where
      earlier : (j : ℕ) → j < q → is_at s key (placed es run j) ≡ false
      earlier j h =
          let x = placed es run j in
          let g : Gt (standing probe) (standing x) = after_gt probe x (sym (before_is x probe) ∙ not-false _ (b.fails j h)) in
          other x (λ e. not_both (standing probe) (standing x) (rw e (le_refl (standing probe))) g)

      probe_le : q < length es → Le (standing probe) (standing (placed es run q))
      probe_le h = let x = placed es run q in after_le probe x (sym (before_is x probe) ∙ not-true _ (b.passes q (omega arith) h))

      past : length es ≤ q → find_from s key 0 es ≡ none
      past h = none_of (λ j l. earlier j (omega arith))

      elsewhere : q < length es → is_at s key (placed es run q) ≡ false → find_from s key 0 es ≡ none
      elsewhere h t = none_of (λ j l. go j l (ltb j q) refl)
        where
          same : (j : ℕ) → q ≤ j → j < length es → standing (placed es run j) ≡ standing probe → standing (placed es run q) ≡ standing probe
          same j k l e = sym (le_both (standing probe) (standing (placed es run q)) (probe_le h) (rw e at (run_le o q j k l)))

          go : (j : ℕ) → j < length es → (u : Bool) → ltb j q ≡ u → is_at s key (placed es run j) ≡ false
          go j l true p = earlier j (ltb-true j q p)
          go j l false p = other (placed es run j) (λ e. differ (sym (standing_is_at (placed es run q) (same j (ltb-false j q p) l e)) ∙ t))

      there : q < length es → is_at s key (placed es run q) ≡ true → find_from s key 0 es ≡ some (get_or run q 0)
      there h t =
          find_first 0 es
          ∙ first_at_lem (ranked_from 0 es) q (rw (length_ranked 0 es) h) (λ j l. rw (placed_at j (omega arith)) at (earlier j l)) (rw (placed_at q h) at t)
          ∙ rw o.same (ap some (sym (number_at es q)))

module _ (s : SetId) (key : Text) (st : State) {run : List ℕ} (q : ℕ) (o : InOrder st.entries run)
    (b : Begins (λ j. not (before (placed st.entries run j) (probe s key))) (length st.entries) q) where
  -- all are before it
  pub find_past : length st.entries ≤ q → find s key st ≡ none
  unfolding find
  find_past = past s key o q b

  -- the first that is not before it has another key
  pub find_other : q < length st.entries → is_at s key (placed st.entries run q) ≡ false → find s key st ≡ none
  unfolding find
  find_other = elsewhere s key o q b

  -- or has the key
  pub find_there : q < length st.entries → is_at s key (placed st.entries run q) ≡ true → find s key st ≡ some (get_or run q 0)
  unfolding find
  find_there = there s key o q b
