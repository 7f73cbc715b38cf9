-- The run of the entries: its length and its numbers, its order, and what it is after another entry. Assumes nothing.
use mathlib.Core.Path.{◌≡◌, refl, sym, ap, ◌∙◌}
use mathlib.Core.List.{List, [], ◌∷◌, ◌++◌, map}
use Prim.Native.Nat.{ℕ, zero, suc, ◌+◌, ◌<◌, ◌≤◌}
use native.Mathlib.Omega.{arith}
use native.Mathlib.Nat.{add-zero, zero-add, add-suc, suc-add}
use lib.ListN.{length, get_or, take, drop, length-map, get_or-map}
use Rattle.spec.specs.State.{MergingEntry, source}
use Rattle.spec.proofs.general.Sums.{All, all_at}
use Rattle.open_sets.specs.Ranks.{standing, after, insert_by, Numbered, standing_of, ranked_from, sorted, InOrder, placed}
use Rattle.open_sets.proofs.RankOrder.{Le, after_le, after_gt}
use Rattle.open_sets.proofs.Inserting.{Ascending, insert_last, length_insert, all_insert, ascending_insert, ascending_at, insert_swap, insert_last_at}
use Rattle.open_sets.proofs.Halving.{Begins}

-- ---- the entries with their numbers
abbrev pub nobody : Numbered
nobody = (source 0 0, 0)

pub ranked_all : (P : Numbered → Type 0) (i : ℕ) (es : List MergingEntry) → ((j : ℕ) → j < length es → P (get_or es j (source 0 0), i + j)) → All P (ranked_from i es)
unfolding ranked_from
ranked_all P i [] f = tt
ranked_all P i (e ∷ es) f =
    all_insert standing_of P (e, i) (ranked_from (suc i) es)
    (rw add-zero at (f 0 (omega arith)))
    (ranked_all P (suc i) es (λ j h. rw (add-suc, ← suc-add) at (f (suc j) (omega arith))))

-- each number is that of the entry beside it
pub record Numbers (es : List MergingEntry) (p : Numbered) : Type 0 where
  pub entry : get_or es p.1 (source 0 0) ≡ p.0
  pub within : p.1 < length es

pub ranked_numbers : (es : List MergingEntry) → All (Numbers es) (ranked_from 0 es)
ranked_numbers es = ranked_all (Numbers es) 0 es (λ j h. rw zero-add (record { entry = refl; within = h }))

pub length_ranked : (i : ℕ) (es : List MergingEntry) → length (ranked_from i es) ≡ length es
unfolding ranked_from
length_ranked i [] = refl
length_ranked i (e ∷ es) = length_insert standing_of (e, i) (ranked_from (suc i) es) ∙ ap suc (length_ranked (suc i) es)

pub ranked_ascending : (i : ℕ) (es : List MergingEntry) → Ascending standing_of (ranked_from i es)
unfolding ranked_from
ranked_ascending i [] = tt
ranked_ascending i (e ∷ es) = ascending_insert standing_of (e, i) (ranked_from (suc i) es) (ranked_ascending (suc i) es)

-- ---- the run
pub length_sorted : (es : List MergingEntry) → length (sorted es) ≡ length es
unfolding sorted
length_sorted es = length-map (ranked_from 0 es) (λ p. p.1) ∙ length_ranked 0 es

pub number_at : (es : List MergingEntry) (j : ℕ) → get_or (sorted es) j 0 ≡ (get_or (ranked_from 0 es) j nobody).1
unfolding sorted
number_at es j = get_or-map (λ p. p.1) (ranked_from 0 es) j nobody

numbers_at : (es : List MergingEntry) (j : ℕ) → j < length es → Numbers es (get_or (ranked_from 0 es) j nobody)
numbers_at es j h = all_at (Numbers es) (ranked_from 0 es) j nobody (rw (length_ranked 0 es) h) (ranked_numbers es)

-- the entry in a place of the run
pub placed_ranked : (es : List MergingEntry) (j : ℕ) → j < length es → placed es (sorted es) j ≡ (get_or (ranked_from 0 es) j nobody).0
placed_ranked es j h = rw (number_at es j) (numbers_at es j h).entry

-- ---- ascending
sorted_le : (es : List MergingEntry) (i j : ℕ) → i ≤ j → j < length es → Le (standing (placed es (sorted es) i)) (standing (placed es (sorted es) j))
unfolding standing_of
sorted_le es i j h l =
    let k : i < length es = omega arith in
    rw (placed_ranked es i k, placed_ranked es j l) (ascending_at standing_of (ranked_from 0 es) (ranked_ascending 0 es) nobody i j h (rw (length_ranked 0 es) l))

pub in_order_none : InOrder [] []
unfolding sorted ranked_from
in_order_none = record { same = refl }

module _ {es : List MergingEntry} {run : List ℕ} (o : InOrder es run) where
  pub run_le : (i j : ℕ) → i ≤ j → j < length es → Le (standing (placed es run i)) (standing (placed es run j))
  run_le i j h l = rw o.same (sorted_le es i j h l)

-- ---- one entry more
pub ranked_append : (i : ℕ) (es : List MergingEntry) (e : MergingEntry)
    → ranked_from i (es ++ (e ∷ [])) ≡ insert_last standing_of (e, i + length es) (ranked_from i es)
unfolding ranked_from insert_by insert_last
ranked_append i [] e = rw add-zero
ranked_append i (x ∷ es) e = go (ranked_append (suc i) es e)
  where
    go : ranked_from (suc i) (es ++ (e ∷ [])) ≡ insert_last standing_of (e, suc i + length es) (ranked_from (suc i) es)
        → insert_by standing_of (x, i) (ranked_from (suc i) (es ++ (e ∷ []))) ≡ insert_last standing_of (e, i + suc (length es)) (insert_by standing_of (x, i) (ranked_from (suc i) es))
    go rest = rw (rest, add-suc, ← suc-add) (insert_swap standing_of (x, i) (e, suc i + length es) (ranked_from (suc i) es))

pub map_split : {A B : Type 0} (f : A → B) (q : ℕ) (xs : List A) (x : A) → map f (take q xs ++ (x ∷ drop q xs)) ≡ take q (map f xs) ++ (f x ∷ drop q (map f xs))
map_split f zero xs x = refl
map_split f (suc q) [] x = refl
map_split f (suc q) (y ∷ xs) x = ap (λ l. f y ∷ l) (map_split f q xs x)

last_at_lem : (es : List MergingEntry) (e : MergingEntry) (q : ℕ) → Begins (λ j. after (placed es (sorted es) j) e) (length es) q
    → insert_last standing_of (e, length es) (ranked_from 0 es) ≡ take q (ranked_from 0 es) ++ ((e, length es) ∷ drop q (ranked_from 0 es))
unfolding standing_of
last_at_lem es e q b =
    let n = length_ranked 0 es in
    insert_last_at standing_of (e, length es) (ranked_from 0 es) nobody q (omega (arith, b.within))
    (λ j h. rw (placed_ranked es j (omega (arith, b.within))) at (after_le (placed es (sorted es) j) e (b.fails j h)))
    (λ j h l.
    let k : j < length es = omega arith in
    rw (placed_ranked es j k) at (after_gt (placed es (sorted es) j) e (b.passes j h k)))

pub sorted_append : (es : List MergingEntry) (e : MergingEntry) (q : ℕ) → Begins (λ j. after (placed es (sorted es) j) e) (length es) q
    → sorted (es ++ (e ∷ [])) ≡ take q (sorted es) ++ (length es ∷ drop q (sorted es))
unfolding sorted
sorted_append es e q b =
    rw (ranked_append 0 es e, zero-add, last_at_lem es e q b) (map_split (λ p. p.1) q (ranked_from 0 es) (e, length es))

-- the run with the new number where those begin that are after it
pub in_order_append : {es : List MergingEntry} {run : List ℕ} (e : MergingEntry) (q : ℕ) → InOrder es run → Begins (λ j. after (placed es run j) e) (length es) q
    → InOrder (es ++ (e ∷ [])) (take q run ++ (length es ∷ drop q run))
in_order_append {es} {run} e q o b = record { same = rw o.same (sym (sorted_append es e q (rw o.same at b))) }
