-- The run as it is read from a store, and the search for a place in it. Assumes nothing.
use mathlib.Core.Path.{◌≡◌, refl, sym, ap, ◌∙◌}
use mathlib.Core.Bool.{Bool, true, false, not}
use mathlib.Core.List.{List, [], ◌∷◌}
use Prim.Native.Nat.{ℕ, zero, suc, ◌+◌, ◌-◌, ◌*◌, ◌/◌, ◌≤◌, ◌<◌}
use native.Mathlib.Omega.{arith}
use lib.ListN.{length, get_or, take, drop}
use borrow.Author.Tests.{not-true, not-false}
use Rattle.std.proofs.Common.{Fits, w8, w32}
use Rattle.std.specs.Int.{from_le_bytes}
use Rattle.std.specs.List.{slice_range}
use Rattle.std.specs.List.Sorted.{IsPartitionPoint, IsPartitionedBy}
use Rattle.std.specs.Simd.{first_chunks}
use Rattle.words.specs.Runs.{run}
use Rattle.words.specs.Words.{word}
use Rattle.words.proofs.RunLaws.{length_run, run_cons, run_run}
use Rattle.words.proofs.WordLaws.{word_bytes}
use Rattle.words.specs.Order.{order}
use Rattle.std.specs.declared.cmp.Ordering.{Ordering}
use Rattle.std.specs.declared.cmp.Ordering.TheVariants.{Less, Equal, Greater}
use Rattle.std.specs.Ordering.{is_lt, is_gt, nat_cmp, ordering_then, MatchOrdering}
use Rattle.spec.specs.State.{source}
use Rattle.spec.specs.Merge.{entry_at}
use Rattle.layout.specs.Layout.{entry_limit, entry_count, run_at, Long}
use Rattle.layout.specs.Rows.{cap}
use Rattle.layout.specs.Texts.{text_in}
use Rattle.layout.specs.States.{entries_of, state_of, order_of}
use Rattle.layout.proofs.RowLaws.{length_rows, get_d_rows}
use Rattle.open_sets.specs.declared.entry.Entry.{Entry}
use Rattle.open_sets.specs.declared.standing.Standing.{Standing}
use Rattle.open_sets.specs.declared.standing.Class.{Class}
use Rattle.open_sets.specs.declared.standing.Class.TheVariants.{Static, Source, Dynamic}
use Rattle.open_sets.specs.declared.entry.SetId.{SetId}
use Rattle.open_sets.specs.contracts.entry.SetIdOrd.TheImpl as set_ord
use Rattle.open_sets.specs.contracts.standing.ClassOrd.TheImpl as class_ord
use Rattle.open_sets.specs.Ranks.{standing, InOrder, placed}
use Rattle.open_sets.specs.Entries.{entry_with}
use Rattle.open_sets.specs.Run.{class_number, standing_with, Stands, stops, stops_at, Place}
use Rattle.open_sets.proofs.RankOrder.{Le, less_is_greater, le_trans, le_gt}
use Rattle.open_sets.proofs.RankLaws.{run_le}
use Rattle.open_sets.proofs.EntryLaws.{length_entries}
use Rattle.open_sets.proofs.Halving.{Rising, falls}

-- ---- the numbers
pub length_order : (s : List ℕ) → length (order_of s) ≡ length (entries_of s)
unfolding order_of
length_order s = length_rows (λ i. word s (run_at + 4 * i)) (cap (word s entry_count) entry_limit) ∙ sym (length_entries s)

pub number_here : (s : List ℕ) (j n v : ℕ) → n ≡ length (entries_of s) → j < n → v ≡ word s (run_at + 4 * j) → v ≡ get_or (order_of s) j 0
unfolding order_of
number_here s j n v e h q = q ∙ sym (get_d_rows (λ i. word s (run_at + 4 * i)) (cap (word s entry_count) entry_limit) j 0 (omega (arith, length_entries s)))

-- the entry with the number that stands there
pub placed_is : (s : List ℕ) (j i : ℕ) (e : Entry) → i ≡ get_or (order_of s) j 0 → entry_with s e ≡ entry_at i (state_of s) → placed (entries_of s) (order_of s) j ≡ entry_with s e
unfolding entry_at state_of
placed_is s j i e p q = sym (rw p at q)

-- ---- two that stand somewhere
class_compared : (a b : Class) → class_ord.ghosts.cmp a b ≡ nat_cmp (class_number a) (class_number b)
class_compared Static Static = refl
class_compared Static Source = refl
class_compared Static Dynamic = refl
class_compared Source Static = refl
class_compared Source Source = refl
class_compared Source Dynamic = refl
class_compared Dynamic Static = refl
class_compared Dynamic Source = refl
class_compared Dynamic Dynamic = refl

set_compared : (a b : SetId) → set_ord.ghosts.cmp a b ≡ nat_cmp a.0 b.0
set_compared a b = refl

-- the set decides, or the class, or what is asked only then: the keys
decided : {P : Type 0} (a b o r : Ordering) → MatchOrdering (ordering_then a b) (r ≡ Less) P (r ≡ Greater) → (P → r ≡ o) → r ≡ ordering_then a (ordering_then b o)
decided Less b o r h f = h
decided Equal Less o r h f = h
decided Equal Equal o r h f = f h
decided Equal Greater o r h f = h
decided Greater b o r h f = h

pub standings_compared : {P : Type 0} (s : List ℕ) (x y : Standing) (a b c r : Ordering) → a ≡ set_ord.ghosts.cmp x.set y.set → b ≡ class_ord.ghosts.cmp x.class y.class → c ≡ ordering_then a b
    → MatchOrdering c (r ≡ Less) P (r ≡ Greater) → (P → r ≡ order (text_in s x.key.0) (text_in s y.key.0)) → r ≡ order (standing_with s x) (standing_with s y)
unfolding standing_with order
standings_compared s x y a b c r ea eb ec h f = decided (nat_cmp x.set.0 y.set.0) (nat_cmp (class_number x.class) (class_number y.class)) (order (text_in s x.key.0) (text_in s y.key.0)) r (rw (ec, ea, eb, set_compared x.set y.set, class_compared x.class y.class) at h) f

-- what the comparison with an entry said
pub compared : (s : List ℕ) (i : ℕ) (e : Entry) (q p : Standing) (r : Ordering) → entry_with s e ≡ entry_at i (state_of s) → Stands q e → r ≡ order (standing_with s q) (standing_with s p) → r ≡ order (standing (get_or (entries_of s) i (source 0 0))) (standing_with s p)
unfolding entry_at state_of
compared s i e q p r b c d = rw (← b, ← c.same s) d

-- ---- the search
-- the test by the order's own
pub stops_past : (o : Ordering) → stops true o ≡ is_gt o
unfolding stops
stops_past Less = refl
stops_past Equal = refl
stops_past Greater = refl

pub stops_at_lem : (o : Ordering) → stops false o ≡ not (is_lt o)
unfolding stops
stops_at_lem Less = refl
stops_at_lem Equal = refl
stops_at_lem Greater = refl

-- where it stops, it would stop further on
stops_rises : (past : Bool) (a b d : List ℕ) → Le a b → stops past (order a d) ≡ true → stops past (order b d) ≡ true
stops_rises true a b d l h = stops_past (order b d) ∙ le_gt a b d l (sym (stops_past (order a d)) ∙ h)
stops_rises false a b d l h =
    let x : Le d a = sym (less_is_greater a d) ∙ not-true (is_lt (order a d)) (sym (stops_at_lem (order a d)) ∙ h) in
    stops_at_lem (order b d) ∙ ap not (less_is_greater b d ∙ le_trans d a b x l)

search_rises : (past : Bool) (p : Standing) (s : List ℕ) → InOrder (entries_of s) (order_of s) → Rising (stops_at past p s) (length (entries_of s))
unfolding stops_at
search_rises past p s o =
    record { rises = λ i j h l q. stops_rises past (standing (placed (entries_of s) (order_of s) i)) (standing (placed (entries_of s) (order_of s) j)) (standing_with s p) (run_le o i j h l) q }

-- whether it goes on past the entry whose number is written so
abbrev pub goes_on : Bool → Standing → List ℕ → List ℕ → Bool
goes_on past p s w = not (stops past (order (standing (get_or (entries_of s) (from_le_bytes w32 w) (source 0 0))) (standing_with s p)))

-- ---- the numbers as they lie in the bytes
drop_none : (m : ℕ) → drop {A = ℕ} m [] ≡ []
drop_none zero = refl
drop_none (suc m) = refl

drop_four : (m : ℕ) (xs : List ℕ) → drop m (drop 4 xs) ≡ drop (suc (suc (suc (suc m)))) xs
drop_four m [] = drop_none m
drop_four m (a ∷ []) = drop_none m
drop_four m (a ∷ b ∷ []) = drop_none m
drop_four m (a ∷ b ∷ c ∷ []) = drop_none m
drop_four m (a ∷ b ∷ c ∷ d ∷ xs) = refl

chunk_is : (k j : ℕ) (xs d : List ℕ) → j < k → get_or (first_chunks 4 k xs) j d ≡ run xs (4 * j) 4
unfolding run
chunk_is zero j xs d h = absurd (omega arith)
chunk_is (suc k) zero xs d h = refl
chunk_is (suc k) (suc j) xs d h =
    let e : 4 * suc j ≡ suc (suc (suc (suc (4 * j)))) = omega arith in
    chunk_is k j (drop 4 xs) d (omega arith) ∙ rw e (ap (take 4) (drop_four (4 * j) xs))

four_bytes : (s : List ℕ) (at : ℕ) → at + 4 ≤ length s → run s at 4 ≡ get_or s at 0 ∷ get_or s (at + 1) 0 ∷ get_or s (at + 2) 0 ∷ get_or s (at + 3) 0 ∷ []
unfolding run
four_bytes s at h =
    let two : at + 1 + 1 ≡ at + 2 = omega arith in
    let three : at + 2 + 1 ≡ at + 3 = omega arith in
    run_cons s at 3 (omega arith)
    ∙ rw (run_cons s (at + 1) 2 (omega arith), two, run_cons s (at + 2) 1 (omega arith), three, run_cons s (at + 3) 0 (omega arith))

module _ (s : List ℕ) (byte : (i : ℕ) → Fits w8 (get_or s i 0)) where
  word_read : (at : ℕ) → at + 4 ≤ length s → from_le_bytes w32 (run s at 4) ≡ word s at
  word_read at h = rw (four_bytes s at h) (omega (arith, word_bytes s at h, byte at, byte (at + 1), byte (at + 2), byte (at + 3)))

  module _ (past : Bool) (p : Standing) (long : Long s) (n : ℕ) (e : n ≡ length (entries_of s)) (few : n ≤ entry_limit) (numbers : List (List ℕ)) (all : numbers ≡ first_chunks 4 (length (slice_range s run_at (run_at + 4 * n)) / 4) (slice_range s run_at (run_at + 4 * n))) (many : length numbers ≡ n) where
    number_at : (j : ℕ) (d : List ℕ) → j < n → from_le_bytes w32 (get_or numbers j d) ≡ get_or (order_of s) j 0
    unfolding run
    number_at j d h =
        let span : run_at + 4 * n - run_at ≡ 4 * n = omega arith in
        let whole = length_run s run_at (4 * n) (omega (arith, long, few)) in
        let count : 4 * n / 4 ≡ n = omega arith in
        let inside = run_run s run_at (4 * n) (4 * j) 4 (omega (arith, long, few)) (omega arith) in
        let as_run : numbers ≡ first_chunks 4 n (run s run_at (4 * n)) = all ∙ rw (span, whole, count) refl in
        number_here s j n _ e h (rw (as_run, chunk_is n j (run s run_at (4 * n)) d h, inside) (word_read (run_at + 4 * j) (omega (arith, long, few))))

    goes_on_at : (j : ℕ) (d : List ℕ) → j < n → goes_on past p s (get_or numbers j d) ≡ not (stops_at past p s j)
    unfolding stops_at
    goes_on_at j d h = rw (number_at j d h) refl

    pub parted : InOrder (entries_of s) (order_of s) → IsPartitionedBy (goes_on past p s) numbers
    parted o i j d h l q =
        let inside : j < n = omega (arith, many) in
        let stops_not = not-true (stops_at past p s j) (sym (goes_on_at j d inside) ∙ q) in
        goes_on_at i d (omega arith) ∙ ap not (falls (search_rises past p s o) i j h (omega (arith, e)) stops_not)

    pub first_place : (q : ℕ) → q ≤ length numbers → (InOrder (entries_of s) (order_of s) → IsPartitionPoint (λ w. goes_on past p s w ≡ true) (λ w. goes_on past p s w ≡ false) numbers q) → Place past p s q
    first_place q bound point = record {
      within = omega (arith, many, e);
      few = omega (arith, many);
      fails = λ o j h. not-true (stops_at past p s j) (sym (goes_on_at j [] (omega (arith, many))) ∙ (point o).0 j [] (omega arith) h);
      passes = λ o j h l. not-false (stops_at past p s j) (sym (goes_on_at j [] (omega (arith, e))) ∙ (point o).1 j [] h (omega (arith, many, e)));
    }
