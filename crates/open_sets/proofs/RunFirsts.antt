-- Where the entries of a set begin in the run, and that they are all the set has. Assumes nothing.
use mathlib.Core.Path.{◌≡◌, refl, sym, ap, ◌∙◌}
use mathlib.Core.Bool.{Bool, true, false, not}
use mathlib.Core.List.{List, [], ◌∷◌, map}
use Prim.Native.Nat.{ℕ, zero, suc, ◌+◌, ◌-◌, ◌≤◌, ◌<◌}
use native.Mathlib.Omega.{arith}
use lib.ListN.{length, get_or, take, drop, length-drop}
use lib.Seq.{get_or-drop}
use lib.Dec.{eqb, ltb, leb}
use borrow.Author.Tests.{eqb-true, eqb-false, lt-ltb, le-ltb, le-leb, lt-leb, ltb-true, ltb-false, not-true, not-false}
use Rattle.words.specs.Order.{order}
use Rattle.words.proofs.OrderLaws.{order_lt, order_gt, order_same}
use Rattle.spec.specs.State.{MergingEntry, source}
use Rattle.spec.specs.Merge.{set_of}
use Rattle.spec.proofs.general.BoolLaws.{differ}
use Rattle.layout.specs.Texts.{text_in}
use Rattle.layout.specs.States.{entries_of, order_of}
use Rattle.open_sets.specs.declared.standing.Standing.{Standing}
use Rattle.open_sets.specs.Ranks.{class_of, key_of, standing, InOrder, placed, segment}
use Rattle.open_sets.specs.Run.{class_number, standing_with, stops_at, Place, while_of, run_from}
use Rattle.open_sets.proofs.RankOrder.{Le, not_both, less_is_greater, set_le}
use Rattle.open_sets.proofs.RankLaws.{run_le}
use Rattle.open_sets.proofs.Halving.{Begins}
use Rattle.open_sets.proofs.RankSegment.{run_segment}
use Rattle.open_sets.proofs.RunReads.{length_order, stops_at_lem}
use Rattle.std.specs.Ordering.{is_gt}

-- ---- those of a set that stand together
abbrev at : List MergingEntry → ℕ → MergingEntry
at es i = get_or es i (source 0 0)

-- the first k numbers are of entries of the set, and the one after them is not
record Together (set : ℕ) (es : List MergingEntry) (is : List ℕ) : Type 0 where
  k : ℕ
  few : k ≤ length is
  taken : while_of set es is ≡ map (at es) (take k is)
  inside : (j : ℕ) → j < k → set_of (at es (get_or is j 0)) ≡ set
  after : k < length is → set_of (at es (get_or is k 0)) ≡ set → ⊥

together : (set : ℕ) (es : List MergingEntry) (is : List ℕ) → Together set es is
unfolding while_of
together set es [] = record { k = 0; few = omega arith; taken = refl; inside = λ j h. absurd (omega arith); after = λ h. absurd (omega arith) }
together set es (i ∷ is) = go (together set es is) (eqb (set_of (at es i)) set) refl
  where
    go : Together set es is → (b : Bool) → eqb (set_of (at es i)) set ≡ b → Together set es (i ∷ is)
    go t true e = record { k = suc t.k; few = omega (arith, t.few); taken = rw e (ap (λ l. at es i ∷ l) t.taken); inside = inside; after = λ h. t.after (omega arith) }
      where
        inside : (j : ℕ) → j < suc t.k → set_of (at es (get_or (i ∷ is) j 0)) ≡ set
        inside zero h = eqb-true (set_of (at es i)) set e
        inside (suc j) h = t.inside j (omega arith)
    go t false e = record { k = 0; few = omega arith; taken = rw e; inside = λ j h. absurd (omega arith); after = λ h. eqb-false (set_of (at es i)) set e }

-- ---- nothing of a set stands before its static with the empty key
first_key : (key : List ℕ) → is_gt (order [] key) ≡ false
unfolding order
first_key [] = refl
first_key (x ∷ key) = refl

least : (set : ℕ) (x : MergingEntry) → set ≤ set_of x → Le (set ∷ 0 ∷ []) (standing x)
unfolding standing
least set x h = go (ltb set (set_of x)) (ltb 0 (class_of x)) refl refl
  where
    go : (a b : Bool) → ltb set (set_of x) ≡ a → ltb 0 (class_of x) ≡ b → is_gt (order (set ∷ 0 ∷ []) (set_of x ∷ class_of x ∷ key_of x)) ≡ false
    go true b p q = rw (order_lt set (set_of x) (0 ∷ []) (class_of x ∷ key_of x) (ltb-true set (set_of x) p))
    go false true p q =
        let e : set ≡ set_of x = omega (arith, ltb-false set (set_of x) p) in
        rw (order_same set (set_of x) (0 ∷ []) (class_of x ∷ key_of x) e, order_lt 0 (class_of x) [] (key_of x) (ltb-true 0 (class_of x) q))
    go false false p q =
        let e : set ≡ set_of x = omega (arith, ltb-false set (set_of x) p) in
        let f : 0 ≡ class_of x = omega (arith, ltb-false 0 (class_of x) q) in
        rw (order_same set (set_of x) (0 ∷ []) (class_of x ∷ key_of x) e, order_same 0 (class_of x) [] (key_of x) f) (first_key (key_of x))

at_least : (set : ℕ) (x : MergingEntry) → Le (set ∷ 0 ∷ []) (standing x) → set ≤ set_of x
unfolding standing
at_least set x h = go (ltb (set_of x) set) refl
  where
    go : (a : Bool) → ltb (set_of x) set ≡ a → set ≤ set_of x
    go true p = differ (rw (order_gt set (set_of x) (0 ∷ []) (class_of x ∷ key_of x) (ltb-true (set_of x) set p)) at h)
    go false p = ltb-false (set_of x) set p

module _ (s : List ℕ) (set : ℕ) (p : Standing) (q : ℕ) (whose : p.set.0 ≡ set) (class : class_number p.class ≡ 0) (empty : text_in s p.key.0 ≡ []) (place : Place false p s q)
    (o : InOrder (entries_of s) (order_of s)) where
  abbrev there : ℕ → MergingEntry
  there j = placed (entries_of s) (order_of s) j

  test : (j : ℕ) → stops_at false p s j ≡ not (is_gt (order (set ∷ 0 ∷ []) (standing (there j))))
  unfolding stops_at standing_with
  test j = rw (whose, class, empty) (stops_at_lem (order (standing (there j)) (set ∷ 0 ∷ [])) ∙ ap not (less_is_greater (standing (there j)) (set ∷ 0 ∷ [])))

  lower : (j : ℕ) → j < q → set_of (there j) < set
  lower j h = go (ltb (set_of (there j)) set) refl
    where
      go : (b : Bool) → ltb (set_of (there j)) set ≡ b → set_of (there j) < set
      go true e = ltb-true (set_of (there j)) set e
      go false e = not_both (set ∷ 0 ∷ []) (standing (there j)) (least set (there j) (ltb-false (set_of (there j)) set e)) (not-false _ (sym (test j) ∙ place.fails o j h))

  not_lower : (j : ℕ) → q ≤ j → j < length (entries_of s) → set ≤ set_of (there j)
  not_lower j h l = at_least set (there j) (not-true _ (sym (test j) ∙ place.passes o j h l))

  -- so many are of the set
  part : Together set (entries_of s) (drop q (order_of s))
  part = together set (entries_of s) (drop q (order_of s))

  size : length (drop q (order_of s)) ≡ length (entries_of s) - q
  size = rw (length-drop q (order_of s), length_order s)

  nth : (j : ℕ) → q ≤ j → at (entries_of s) (get_or (drop q (order_of s)) (j - q) 0) ≡ there j
  nth j h = let e : q + (j - q) ≡ j = omega arith in rw (get_or-drop q (order_of s) (j - q) 0, e)

  end_within : q + part.k ≤ length (entries_of s)
  end_within = omega (arith, part.few, size, place.within)

  of_set_lem : (j : ℕ) → q ≤ j → j < q + part.k → set_of (there j) ≡ set
  of_set_lem j h l = rw (← (nth j h)) (part.inside (j - q) (omega arith))

  beyond : (j : ℕ) → q + part.k ≤ j → j < length (entries_of s) → set < set_of (there j)
  beyond j h l =
      let r = q + part.k in
      let next : set_of (there r) ≡ set → ⊥ = λ e. part.after (omega (arith, size)) (last e) in
      let least_next = not_lower r (omega arith) (omega arith) in
      let below = set_le (there r) (there j) (run_le o r j h l) in
      go (ltb set (set_of (there j))) refl next least_next below
    where
      back : q + part.k - q ≡ part.k
      back = omega arith

      last : set_of (there (q + part.k)) ≡ set → set_of (at (entries_of s) (get_or (drop q (order_of s)) part.k 0)) ≡ set
      last e = rw back at (rw (← (nth (q + part.k) (omega arith))) at e)

      go : (b : Bool) → ltb set (set_of (there j)) ≡ b → (set_of (there (q + part.k)) ≡ set → ⊥) → set ≤ set_of (there (q + part.k)) → set_of (there (q + part.k)) ≤ set_of (there j) → set < set_of (there j)
      go true e f a b = ltb-true set (set_of (there j)) e
      go false e f a b = absurd (f (omega (arith, ltb-false set (set_of (there j)) e)))

  first : Begins (λ j. leb set (set_of (there j))) (length (entries_of s)) q
  first = record { within = place.within; fails = λ j h. lt-leb set (set_of (there j)) (lower j h); passes = λ j h l. le-leb set (set_of (there j)) (not_lower j h l) }

  last : Begins (λ j. ltb set (set_of (there j))) (length (entries_of s)) (q + part.k)
  last = record { within = end_within; fails = λ j h. le-ltb set (set_of (there j)) (at_most j h (ltb j q) refl); passes = λ j h l. lt-ltb set (set_of (there j)) (beyond j h l) }
    where
      at_most : (j : ℕ) → j < q + part.k → (b : Bool) → ltb j q ≡ b → set_of (there j) ≤ set
      at_most j h true e = omega (arith, lower j (ltb-true j q e))
      at_most j h false e = omega (arith, of_set_lem j (ltb-false j q e) h)

  pub first_runs : run_from set (entries_of s) (order_of s) q ≡ segment set (entries_of s)
  unfolding run_from
  first_runs =
      let e : q + part.k - q ≡ part.k = omega arith in
      part.taken ∙ rw e at (run_segment o set q (q + part.k) first last)
