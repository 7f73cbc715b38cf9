-- The part of the run that a set has: its statics in the order of keys, its sources and its dynamics. Assumes nothing.
use mathlib.Core.Path.{◌≡◌, refl, sym, ap, ◌∙◌}
use mathlib.Core.Bool.{Bool, true, false}
use mathlib.Core.List.{List, [], ◌∷◌, ◌++◌, map}
use Prim.Native.Nat.{ℕ, zero, suc, ◌-◌, ◌<◌, ◌≤◌}
use native.Mathlib.Omega.{arith}
use lib.Dec.{eqb, leb, ltb}
use lib.ListN.{length, get_or, take, drop}
use lib.Seq.{take-nil}
use borrow.Author.Tests.{eqb-true, eq-eqb, ne_eqb, leb-true, leb-false, ltb-true, ltb-false}
use Rattle.words.specs.Order.{pick, order}
use Rattle.std.specs.declared.cmp.Ordering.{Ordering}
use Rattle.std.specs.declared.cmp.Ordering.TheVariants.{Less, Equal, Greater}
use Rattle.words.proofs.OrderLaws.{order_same}
use Rattle.spec.specs.Basics.{ExprId}
use Rattle.spec.specs.State.{SetId, MergingEntry, static, source, dynamic}
use Rattle.spec.specs.Merge.{set_of, Static, here_or_later, insert_static, statics_of, sources_of, dynamics_of}
use Rattle.spec.proofs.general.Sums.{All, all_append}
use Rattle.open_sets.specs.Ranks.{class_of, key_of, standing, rank, insert_by, Numbered, standing_of, ranked_from, sorted, InOrder, placed, static_entry, dynamic_entry, in_classes, segment}
use Rattle.open_sets.proofs.RankOrder.{Le, le_refl, class_below, less_le, less_gt}
use Rattle.open_sets.proofs.Inserting.{Ascending, insert_first, insert_append, insert_past, insert_map}
use Rattle.open_sets.proofs.Halving.{Begins}
use Rattle.open_sets.proofs.Passing.{keep, tested, keep_part, insert_out, insert_in}
use Rattle.open_sets.proofs.RankLaws.{nobody, Numbers, ranked_numbers, length_ranked, ranked_ascending, placed_ranked}
use Rattle.std.specs.Ordering.{is_gt}

-- ---- a set's entries as they stand
all_of_map : {A B : Type 0} (P : B → Type 0) (f : A → B) → ((x : A) → P (f x)) → (xs : List A) → All P (map f xs)
all_of_map P f h [] = tt
all_of_map P f h (x ∷ xs) = (h x, all_of_map P f h xs)

module _ (s : SetId) where
  -- ---- classes
  static_source : (x : Static) (e : ExprId) → rank (static_entry s x) (source s e) ≡ Less
  unfolding class_of
  static_source x e = class_below (static_entry s x) (source s e) refl (omega arith)

  static_dynamic : (x : Static) (p : ExprId × ExprId) → rank (static_entry s x) (dynamic_entry s p) ≡ Less
  unfolding class_of
  static_dynamic x p = class_below (static_entry s x) (dynamic_entry s p) refl (omega arith)

  source_dynamic : (e : ExprId) (p : ExprId × ExprId) → rank (source s e) (dynamic_entry s p) ≡ Less
  unfolding class_of
  source_dynamic e p = class_below (source s e) (dynamic_entry s p) refl (omega arith)

  -- ---- insertion of each class
  by_key : (x y : Static) → order (standing (static_entry s x)) (standing (static_entry s y)) ≡ order x.key y.key
  unfolding standing class_of key_of
  by_key x y = order_same s s (0 ∷ x.key) (0 ∷ y.key) refl ∙ order_same 0 0 x.key y.key refl

  static_insert : (x : Static) (ys : List Static) → insert_static x ys ≡ insert_by (λ y. standing (static_entry s y)) x ys
  unfolding insert_static insert_by here_or_later
  static_insert x [] = refl
  static_insert x (y ∷ ys) = go (static_insert x ys)
    where
      chosen : (o : Ordering) (a b : List Static) → here_or_later o a b ≡ pick (is_gt o) b a
      chosen Less a b = refl
      chosen Equal a b = refl
      chosen Greater a b = refl

      go : insert_static x ys ≡ insert_by (λ z. standing (static_entry s z)) x ys
          → here_or_later (order x.key y.key) (x ∷ y ∷ ys) (y ∷ insert_static x ys)
          ≡ pick (is_gt (order (standing (static_entry s x)) (standing (static_entry s y)))) (y ∷ insert_by (λ z. standing (static_entry s z)) x ys) (x ∷ y ∷ ys)
      go rest = rw (rest, by_key x y) (chosen (order x.key y.key) (x ∷ y ∷ ys) (y ∷ insert_by (λ z. standing (static_entry s z)) x ys))

  module _ (statics : List Static) (sources : List ExprId) (dynamics : List (ExprId × ExprId)) where
    add_static : (x : Static) → insert_by standing (static_entry s x) (in_classes s statics sources dynamics) ≡ in_classes s (insert_static x statics) sources dynamics
    unfolding in_classes
    add_static x =
        insert_append standing (static_entry s x) (map (static_entry s) statics) (map (source s) sources ++ map (dynamic_entry s) dynamics)
        (all_append (λ y. Le (standing (static_entry s x)) (standing y)) (map (source s) sources) (map (dynamic_entry s) dynamics)
        (all_of_map _ (source s) (λ e. less_le (static_entry s x) (source s e) (static_source x e)) sources)
        (all_of_map _ (dynamic_entry s) (λ p. less_le (static_entry s x) (dynamic_entry s p) (static_dynamic x p)) dynamics))
        ∙ ap (λ l. l ++ (map (source s) sources ++ map (dynamic_entry s) dynamics))
        (sym (insert_map (λ y. standing (static_entry s y)) (static_entry s) standing (λ y. refl) x statics) ∙ ap (map (static_entry s)) (sym (static_insert x statics)))

    add_source : (e : ExprId) → insert_by standing (source s e) (in_classes s statics sources dynamics) ≡ in_classes s statics (e ∷ sources) dynamics
    unfolding in_classes standing class_of key_of
    add_source e =
        insert_past standing (source s e) (map (static_entry s) statics) (map (source s) sources ++ map (dynamic_entry s) dynamics)
        (all_of_map _ (static_entry s) (λ x. less_gt (static_entry s x) (source s e) (static_source x e)) statics)
        ∙ ap (λ l. map (static_entry s) statics ++ l)
        (insert_first standing (source s e) (map (source s) sources ++ map (dynamic_entry s) dynamics)
        (all_append (λ y. Le (standing (source s e)) (standing y)) (map (source s) sources) (map (dynamic_entry s) dynamics)
        (all_of_map _ (source s) (λ y. le_refl (standing (source s e))) sources)
        (all_of_map _ (dynamic_entry s) (λ p. less_le (source s e) (dynamic_entry s p) (source_dynamic e p)) dynamics)))

    add_dynamic : (p : ExprId × ExprId) → insert_by standing (dynamic_entry s p) (in_classes s statics sources dynamics) ≡ in_classes s statics sources (p ∷ dynamics)
    unfolding in_classes standing class_of key_of
    add_dynamic p =
        insert_past standing (dynamic_entry s p) (map (static_entry s) statics) (map (source s) sources ++ map (dynamic_entry s) dynamics)
        (all_of_map _ (static_entry s) (λ x. less_gt (static_entry s x) (dynamic_entry s p) (static_dynamic x p)) statics)
        ∙ ap (λ l. map (static_entry s) statics ++ l)
        (insert_past standing (dynamic_entry s p) (map (source s) sources) (map (dynamic_entry s) dynamics)
        (all_of_map _ (source s) (λ e. less_gt (source s e) (dynamic_entry s p) (source_dynamic e p)) sources)
        ∙ ap (λ l. map (source s) sources ++ l)
        (insert_first standing (dynamic_entry s p) (map (dynamic_entry s) dynamics) (all_of_map _ (dynamic_entry s) (λ y. le_refl (standing (dynamic_entry s p))) dynamics)))

  segment_in : (e : MergingEntry) (es : List MergingEntry) → eqb (set_of e) s ≡ true → insert_by standing e (segment s es) ≡ segment s (e ∷ es)
  unfolding statics_of sources_of dynamics_of
  segment_in (static t k x nested value) es h =
      rw (h, eqb-true t s h) (add_static (statics_of s es) (sources_of s es) (dynamics_of s es) (record { key = k; name = x; nested = nested; value = value }))
  segment_in (source t e) es h = rw (h, eqb-true t s h) (add_source (statics_of s es) (sources_of s es) (dynamics_of s es) e)
  segment_in (dynamic t k v) es h = rw (h, eqb-true t s h) (add_dynamic (statics_of s es) (sources_of s es) (dynamics_of s es) (k, v))

  segment_out : (e : MergingEntry) (es : List MergingEntry) → eqb (set_of e) s ≡ false → segment s es ≡ segment s (e ∷ es)
  unfolding statics_of sources_of dynamics_of
  segment_out (static t k x nested value) es h = rw h
  segment_out (source t e) es h = rw h
  segment_out (dynamic t k v) es h = rw h

  -- ---- of all entries those of the set
  abbrev of_set : Numbered → Bool
  of_set p = eqb (set_of p.0) s

  segment_step : (i : ℕ) (e : MergingEntry) (es : List MergingEntry) (ps : List Numbered) → Ascending standing_of ps → map (λ p. p.0) (keep of_set ps) ≡ segment s es
      → map (λ p. p.0) (keep of_set (insert_by standing_of (e, i) ps)) ≡ segment s (e ∷ es)
  unfolding standing_of
  segment_step i e es ps a rest =
      tested of_set (e, i)
      (λ h. ap (map (λ p. p.0)) (insert_in of_set standing_of (e, i) ps h a)
      ∙ insert_map standing_of (λ p. p.0) standing (λ p. refl) (e, i) (keep of_set ps)
      ∙ ap (insert_by standing e) rest
      ∙ segment_in e es h)
      (λ h. ap (map (λ p. p.0)) (insert_out of_set standing_of (e, i) ps h) ∙ rest ∙ segment_out e es h)

  ranked_segment : (i : ℕ) (es : List MergingEntry) → map (λ p. p.0) (keep of_set (ranked_from i es)) ≡ segment s es
  unfolding ranked_from keep statics_of sources_of dynamics_of in_classes
  ranked_segment i [] = refl
  ranked_segment i (e ∷ es) = segment_step i e es (ranked_from (suc i) es) (ranked_ascending (suc i) es) (ranked_segment (suc i) es)

-- ---- a part of the run
map_part : {A B : Type 0} (f : A → B) (n q : ℕ) (xs : List A) → map f (take n (drop q xs)) ≡ take n (drop q (map f xs))
map_part f zero zero xs = refl
map_part f (suc n) zero [] = refl
map_part f (suc n) zero (x ∷ xs) = ap (λ l. f x ∷ l) (map_part f n 0 xs)
map_part {A} f n (suc q) [] = rw (take-nil {A = A} n) (sym (take-nil n))
map_part f n (suc q) (x ∷ xs) = map_part f n q xs

numbered_entries : (es : List MergingEntry) (ps : List Numbered) → All (Numbers es) ps → map (λ k. get_or es k (source 0 0)) (map (λ p. p.1) ps) ≡ map (λ p. p.0) ps
numbered_entries es [] a = refl
numbered_entries es (p ∷ ps) a = let h = a.0.entry in let t = numbered_entries es ps a.1 in cc

module _ {es : List MergingEntry} {run : List ℕ} (o : InOrder es run) (s : SetId) (q r : ℕ)
    (first : Begins (λ j. leb s (set_of (placed es run j))) (length es) q) (last : Begins (λ j. ltb s (set_of (placed es run j))) (length es) r) where
  -- the set of what is in a place
  abbrev set_in : ℕ → SetId
  set_in j = set_of (placed es run j)

  in_set : (t : Bool) (j : ℕ) → j < length es → eqb (set_in j) s ≡ t → of_set s (get_or (ranked_from 0 es) j nobody) ≡ t
  in_set t j h e = sym (rw o.same (ap (λ x. eqb (set_of x) s) (placed_ranked es j h))) ∙ e

  below : (j : ℕ) → j < q → set_in j < s
  below j h = leb-false s (set_in j) (first.fails j h)

  within : (j : ℕ) → q ≤ j → j < r → set_in j ≡ s
  within j h l = omega (arith, leb-true s (set_in j) (first.passes j h (omega (arith, last.within))), ltb-false s (set_in j) (last.fails j l))

  above : (j : ℕ) → r ≤ j → j < length es → s < set_in j
  above j h l = ltb-true s (set_in j) (last.passes j h l)

  forwards : q ≤ r
  forwards = go (ltb r q) refl
    where
      go : (t : Bool) → ltb r q ≡ t → q ≤ r
      go true p =
          let h = ltb-true r q p in
          absurd (omega (arith, below r h, above r (omega arith) (omega (arith, first.within))))
      go false p = ltb-false r q p

  kept : keep (of_set s) (ranked_from 0 es) ≡ take (r - q) (drop q (ranked_from 0 es))
  kept =
      let n = length_ranked 0 es in
      keep_part (of_set s) (ranked_from 0 es) nobody q r forwards (omega (arith, last.within))
      (λ j h. in_set false j (omega (arith, first.within)) (ne_eqb (set_in j) s (λ e. omega (arith, below j h))))
      (λ j h l. in_set true j (omega (arith, last.within)) (eq-eqb (set_in j) s (within j h l)))
      (λ j h l. let k : j < length es = omega arith in in_set false j k (ne_eqb (set_in j) s (λ e. omega (arith, above j h k))))

  -- the entries in the places from q to r are those of the set
  pub run_segment : map (λ k. get_or es k (source 0 0)) (take (r - q) (drop q run)) ≡ segment s es
  unfolding sorted
  run_segment =
      map_part (λ k. get_or es k (source 0 0)) (r - q) q run
      ∙ ap (λ l. take (r - q) (drop q (map (λ k. get_or es k (source 0 0)) l))) o.same
      ∙ ap (λ l. take (r - q) (drop q l)) (numbered_entries es (ranked_from 0 es) (ranked_numbers es))
      ∙ sym (map_part (λ p. p.0) (r - q) q (ranked_from 0 es))
      ∙ sym (ap (map (λ p. p.0)) kept)
      ∙ ranked_segment s 0 es
