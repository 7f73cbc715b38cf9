-- The sets that are being merged are a forest, so to finish a set takes at most one expression for each set with a
-- higher number. Assumes nothing.
use mathlib.Core.Path.{◌≡◌, refl}
use mathlib.Core.Bool.{Bool, true, false}
use mathlib.Core.List.{List, [], ◌∷◌}
use mathlib.Core.Option.{none, some}
use Prim.Native.Nat.{ℕ, zero, suc, ◌+◌, ◌*◌, ◌-◌, ◌≤◌, ◌<◌}
use native.Mathlib.Omega.{arith}
use lib.Dec.{eqb, ltb, leb}
use borrow.Author.Tests.{eqb-true, eqb-false, ltb-true, ltb-false, leb-true, lt-ltb, le-ltb, le-leb, lt-leb, ne_eqb}
use Rattle.words.specs.Order.{pick}
use Rattle.spec.specs.State.{MergingEntry, static, source, dynamic}
use Rattle.spec.proofs.general.Sums.{sum_by, All, all_map}

-- ---- entries where there are c sets
-- a static entry is of one of the sets; it has a nested set, with a higher number, or a value
abbrev pub EntryFine : ℕ → MergingEntry → Type 0
EntryFine c (static s key x (some t) v) = (s < t) × (t < c)
EntryFine c (static s key x none (some v)) = s < c
EntryFine c (static s key x none none) = ⊥
EntryFine c (source s e) = Unit {0}
EntryFine c (dynamic s k v) = Unit {0}

abbrev pub AllFine : ℕ → List MergingEntry → Type 0
AllFine c = All (EntryFine c)

-- how often the set k is nested in an entry, n being counted for each
abbrev pub nests : ℕ → ℕ → MergingEntry → ℕ
nests n k (static s key x (some t) v) = pick (eqb t k) n 0
nests n k (static s key x none v) = 0
nests n k (source s e) = 0
nests n k (dynamic s a v) = 0

-- each set is nested at most once
pub record NestedOnce (c : ℕ) (es : List MergingEntry) : Type 0 where
  pub all : AllFine c es
  pub once : (k : ℕ) → sum_by (nests 1 k) es ≤ 1

-- ---- what stays fine
pub entry_more : (c d : ℕ) → c ≤ d → (e : MergingEntry) → EntryFine c e → EntryFine d e
entry_more c d h (static s key x (some t) v) f = (f.0, omega (arith, f.1))
entry_more c d h (static s key x none (some v)) f = omega arith
entry_more c d h (static s key x none none) f = absurd f
entry_more c d h (source s e) f = tt
entry_more c d h (dynamic s k v) f = tt

pub all_more : (c d : ℕ) → c ≤ d → (es : List MergingEntry) → AllFine c es → AllFine d es
all_more c d h es f = all_map _ _ (entry_more c d h) es f

-- a set that is not there is nested nowhere
pub unused : (c k : ℕ) → c ≤ k → (es : List MergingEntry) → AllFine c es → sum_by (nests 1 k) es ≤ 0
unused c k h [] f = omega arith
unused c k h (static s key x (some t) v ∷ es) f = rw (ne_eqb t k (omega arith)) (omega (arith, unused c k h es f.1))
unused c k h (static s key x none v ∷ es) f = omega (arith, unused c k h es f.1)
unused c k h (source s e ∷ es) f = omega (arith, unused c k h es f.1)
unused c k h (dynamic s a v ∷ es) f = omega (arith, unused c k h es f.1)

-- ---- what it takes to finish a set
-- what an entry of the set s takes, w being what each nested set takes
abbrev pub takes_in : ℕ → (ℕ → ℕ) → MergingEntry → ℕ
takes_in s w (static t key x (some u) v) = pick (eqb t s) (w u) 0
takes_in s w (static t key x none (some v)) = 0
takes_in s w (static t key x none none) = pick (eqb t s) 1 0
takes_in s w (source t e) = 0
takes_in s w (dynamic t k v) = 0

-- what a set takes, nested sets being followed so far
unfoldable pub weigh : List MergingEntry → ℕ → ℕ → ℕ
weigh es zero s = 1
weigh es (suc b) s = suc (sum_by (takes_in s (weigh es b)) es)

-- of an entry of a set below k, what a nested set from k on takes
abbrev pub across : ℕ → (ℕ → ℕ) → MergingEntry → ℕ
across k w (static t key x (some u) v) = pick (ltb t k) (pick (leb k u) (w u) 0) 0
across k w (static t key x none v) = 0
across k w (source t e) = 0
across k w (dynamic t a v) = 0

takes_less : (s : ℕ) (w v : ℕ → ℕ) → ((u : ℕ) → w u ≤ v u) → (es : List MergingEntry) → sum_by (takes_in s w) es ≤ sum_by (takes_in s v) es
takes_less s w v h [] = omega arith
takes_less s w v h (static t key x (some u) a ∷ es) = go (eqb t s) (takes_less s w v h es)
  where
    go : (b : Bool) → sum_by (takes_in s w) es ≤ sum_by (takes_in s v) es → pick b (w u) 0 + sum_by (takes_in s w) es ≤ pick b (v u) 0 + sum_by (takes_in s v) es
    go true r = omega (arith, h u)
    go false r = omega arith
takes_less s w v h (static t key x none (some a) ∷ es) = omega (arith, takes_less s w v h es)
takes_less s w v h (static t key x none none ∷ es) = omega (arith, takes_less s w v h es)
takes_less s w v h (source t e ∷ es) = omega (arith, takes_less s w v h es)
takes_less s w v h (dynamic t k a ∷ es) = omega (arith, takes_less s w v h es)

weigh_more : (es : List MergingEntry) (b s : ℕ) → weigh es b s ≤ weigh es (suc b) s
unfolding weigh
weigh_more es zero s = omega arith
weigh_more es (suc b) s = omega (arith, takes_less s (weigh es b) (weigh es (suc b)) (weigh_more es b) es)

-- a set takes one for itself and what its entries take
pub weigh_own : (es : List MergingEntry) (b s : ℕ) → weigh es b s ≤ suc (sum_by (takes_in s (weigh es b)) es)
weigh_own es b s = unfold weigh in weigh_more es b s

-- from k to the next number: k itself is crossed no more, and what is nested in it is
step_at : (c k : ℕ) (w : ℕ → ℕ) (e : MergingEntry) → EntryFine c e → across k w e + takes_in k w e ≤ nests (w k) k e + across (suc k) w e
step_at c k w (static t key x (some u) v) f = go (eqb t k) (ltb t k) (eqb u k) (leb k u) refl refl refl refl
  where
    go : (p q r m : Bool) → eqb t k ≡ p → ltb t k ≡ q → eqb u k ≡ r → leb k u ≡ m → pick (ltb t k) (pick (leb k u) (w u) 0) 0 + pick (eqb t k) (w u) 0 ≤ pick (eqb u k) (w k) 0 + pick (ltb t (suc k)) (pick (leb (suc k) u) (w u) 0) 0
    go true q r m hp hq hr hm =
        let e = eqb-true t k hp in
        rw (hp, le-ltb t k (omega arith), lt-ltb t (suc k) (omega arith), le-leb (suc k) u (omega (arith, f.0))) (omega arith)
    go false false r m hp hq hr hm =
        let e = ltb-false t k hq in
        let n : t ≡ k → ⊥ = eqb-false t k hp in
        rw (hp, hq, le-ltb t (suc k) (omega arith)) (omega arith)
    go false true true m hp hq hr hm =
        let a = ltb-true t k hq in
        let e = eqb-true u k hr in
        rw (hp, hq, hr, le-leb k u (omega arith), lt-ltb t (suc k) (omega arith), lt-leb (suc k) u (omega arith), e) (omega arith)
    go false true false true hp hq hr hm =
        let a = ltb-true t k hq in
        let n : u ≡ k → ⊥ = eqb-false u k hr in
        let e = leb-true k u hm in
        rw (hp, hq, hr, hm, lt-ltb t (suc k) (omega arith), le-leb (suc k) u (omega arith)) (omega arith)
    go false true false false hp hq hr hm = rw (hp, hq, hr, hm) (omega arith)
step_at c k w (static t key x none (some v)) f = omega arith
step_at c k w (static t key x none none) f = absurd f
step_at c k w (source t e) f = omega arith
step_at c k w (dynamic t a v) f = omega arith

pub step_all : (c k : ℕ) (w : ℕ → ℕ) (es : List MergingEntry) → AllFine c es → sum_by (across k w) es + sum_by (takes_in k w) es ≤ sum_by (nests (w k) k) es + sum_by (across (suc k) w) es
step_all c k w [] f = omega arith
step_all c k w (e ∷ es) f = omega (arith, step_at c k w e f.0, step_all c k w es f.1)

-- n counted for each, or 1 for each and n times
nests_times : (n k : ℕ) (es : List MergingEntry) → sum_by (nests n k) es ≡ sum_by (nests 1 k) es * n
nests_times n k [] = omega arith
nests_times n k (static s key x (some t) v ∷ es) = go (eqb t k) (nests_times n k es)
  where
    go : (b : Bool) → sum_by (nests n k) es ≡ sum_by (nests 1 k) es * n → pick b n 0 + sum_by (nests n k) es ≡ (pick b 1 0 + sum_by (nests 1 k) es) * n
    go true r = omega arith
    go false r = omega arith
nests_times n k (static s key x none v ∷ es) = omega (arith, nests_times n k es)
nests_times n k (source s e ∷ es) = omega (arith, nests_times n k es)
nests_times n k (dynamic s a v ∷ es) = omega (arith, nests_times n k es)

module _ (c : ℕ) (es : List MergingEntry) (fine : NestedOnce c es) where
  -- a set is nested in one entry at most
  pub nested_once : (n k : ℕ) → sum_by (nests n k) es ≤ n
  nested_once n k = go (sum_by (nests 1 k) es) (fine.once k) (nests_times n k es)
    where
      go : (m : ℕ) → m ≤ 1 → sum_by (nests n k) es ≡ m * n → sum_by (nests n k) es ≤ n
      go zero h e = omega arith
      go (suc zero) h e = omega arith
      go (suc (suc m)) h e = absurd (omega arith)

  -- no set is nested from c on
  pub none_across : (w : ℕ → ℕ) (es' : List MergingEntry) → AllFine c es' → sum_by (across c w) es' ≤ 0
  none_across w [] f = omega arith
  none_across w (static t key x (some u) v ∷ es') f = rw (lt-leb c u f.0.1) (go (ltb t c) (none_across w es' f.1))
    where
      go : (b : Bool) → sum_by (across c w) es' ≤ 0 → pick b 0 0 + sum_by (across c w) es' ≤ 0
      go true r = omega arith
      go false r = omega arith
  none_across w (static t key x none v ∷ es') f = omega (arith, none_across w es' f.1)
  none_across w (source t e ∷ es') f = omega (arith, none_across w es' f.1)
  none_across w (dynamic t a v ∷ es') f = omega (arith, none_across w es' f.1)

  -- what is crossed at k takes no more than there are sets from k on
  crossed : (b n k : ℕ) → k + n ≡ c → sum_by (across k (weigh es b)) es ≤ n
  crossed b zero k e = let z : c ≡ k = omega arith in rw z at (none_across (weigh es b) es fine.all)
  crossed b (suc n) k e = omega (arith, crossed b n (suc k) (omega arith), step_all c k (weigh es b) es fine.all, nested_once (weigh es b k) k, weigh_own es b k)

  -- what is nested in s is crossed at the next number
  pub takes_across : (s : ℕ) (w : ℕ → ℕ) (es' : List MergingEntry) → AllFine c es' → sum_by (takes_in s w) es' ≤ sum_by (across (suc s) w) es'
  takes_across s w [] f = omega arith
  takes_across s w (static t key x (some u) v ∷ es') f = go (eqb t s) refl (takes_across s w es' f.1)
    where
      go : (b : Bool) → eqb t s ≡ b → sum_by (takes_in s w) es' ≤ sum_by (across (suc s) w) es' → pick (eqb t s) (w u) 0 + sum_by (takes_in s w) es' ≤ pick (ltb t (suc s)) (pick (leb (suc s) u) (w u) 0) 0 + sum_by (across (suc s) w) es'
      go true h r =
          let e = eqb-true t s h in
          rw (h, lt-ltb t (suc s) (omega arith), le-leb (suc s) u (omega (arith, f.0.0))) (omega arith)
      go false h r = rw h (omega arith)
  takes_across s w (static t key x none (some v) ∷ es') f = omega (arith, takes_across s w es' f.1)
  takes_across s w (static t key x none none ∷ es') f = absurd f.0
  takes_across s w (source t e ∷ es') f = omega (arith, takes_across s w es' f.1)
  takes_across s w (dynamic t a v ∷ es') f = omega (arith, takes_across s w es' f.1)

  -- The entries of a set take no more than there are sets after it.
  pub forest : (b s : ℕ) → s < c → sum_by (takes_in s (weigh es b)) es + suc s ≤ c
  forest b s h =
      let n : (n : ℕ) × (suc s + n ≡ c) = (c - suc s, omega arith) in
      omega (arith, takes_across s (weigh es b) es fine.all, crossed b n.0 (suc s) n.1, n.1)
