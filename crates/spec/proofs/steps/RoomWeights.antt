-- A finished set weighs what its entries and those of the sets nested in it weigh, and one for each of those sets.
-- Assumes nothing.
use mathlib.Core.Path.{◌≡◌, refl}
use mathlib.Core.Bool.{Bool, true, false}
use mathlib.Core.List.{List, [], ◌∷◌}
use mathlib.Core.Option.{Option, none, some}
use Prim.Native.Nat.{ℕ, zero, suc, ◌+◌, ◌-◌, ◌≤◌, ◌<◌}
use native.Mathlib.Omega.{arith}
use lib.Dec.{eqb, leb}
use borrow.Author.Tests.{eqb-true, leb-true, le-leb, lt-leb}
use Rattle.words.specs.Order.{pick}
use Rattle.spec.specs.Basics.{ExprId}
use Rattle.spec.specs.Module.{BindingValue, expr, inherit, inherit_from}
use Rattle.spec.specs.State.{MergingEntry, static, source, dynamic}
use Rattle.spec.proofs.steps.Forest.{NestedOnce, takes_in, across, step_all, nested_once, none_across, takes_across}
use Rattle.spec.proofs.general.Sums.{sum_by}

-- what is counted or not is at most what it is
pub from_picked : (b : Bool) (n : ℕ) → pick b n 0 ≤ n
from_picked true n = omega arith
from_picked false n = omega arith

-- a set that is there is not among those from c on
pub from_late : (s c n : ℕ) → s < c → pick (leb c s) n 0 ≤ 0
from_late s c n h = rw (lt-leb c s h) (omega arith)

-- from k on: those of k itself, and from the next on
pub next_at : (k s n : ℕ) → pick (eqb s k) n 0 + pick (leb (suc k) s) n 0 ≤ pick (leb k s) n 0
next_at k s n = go (eqb s k) (leb (suc k) s) refl refl
  where
    go : (p q : Bool) → eqb s k ≡ p → leb (suc k) s ≡ q → pick p n 0 + pick q n 0 ≤ pick (leb k s) n 0
    go true true e f = absurd (omega (arith, eqb-true s k e, leb-true (suc k) s f))
    go true false e f = rw (le-leb k s (omega (arith, eqb-true s k e))) (omega arith)
    go false true e f = rw (le-leb k s (omega (arith, leb-true (suc k) s f))) (omega arith)
    go false false e f = omega arith

module _ (ω : ExprId → ℕ) where
  -- a value; the selection of an inherited one is not walked
  abbrev pub value_weighs : BindingValue → ℕ
  value_weighs (expr e) = ω e
  value_weighs (inherit e) = ω e
  value_weighs (inherit_from e) = 0

  abbrev pub opt_weighs : Option BindingValue → ℕ
  opt_weighs none = 0
  opt_weighs (some v) = value_weighs v

  -- an entry of one of the sets from k on
  abbrev pub weighs_from : ℕ → MergingEntry → ℕ
  weighs_from k (static s key x nested v) = pick (leb k s) (opt_weighs v) 0
  weighs_from k (source s e) = pick (leb k s) (ω e) 0
  weighs_from k (dynamic s a v) = pick (leb k s) (ω a + ω v) 0

  -- an entry of the set k
  abbrev weighs_own : ℕ → MergingEntry → ℕ
  weighs_own k (static s key x nested v) = pick (eqb s k) (opt_weighs v) 0
  weighs_own k (source s e) = pick (eqb s k) (ω e) 0
  weighs_own k (dynamic s a v) = pick (eqb s k) (ω a + ω v) 0

  -- what an entry gives to the set s, w being what each nested set weighs
  abbrev pub gives : ℕ → (ℕ → ℕ) → MergingEntry → ℕ
  gives s w (static t key x (some u) v) = pick (eqb t s) (w u) 0
  gives s w (static t key x none v) = pick (eqb t s) (opt_weighs v) 0
  gives s w (source t e) = pick (eqb t s) (ω e) 0
  gives s w (dynamic t a v) = pick (eqb t s) (ω a + ω v) 0

  -- what a set weighs, nested sets being followed so far
  unfoldable pub set_weighs : List MergingEntry → ℕ → ℕ → ℕ
  set_weighs es zero s = 0
  set_weighs es (suc b) s = suc (sum_by (gives s (set_weighs es b)) es)

  pick_less : (b : Bool) (m n : ℕ) → m ≤ n → pick b m 0 ≤ pick b n 0
  pick_less true m n h = h
  pick_less false m n h = omega arith

  gives_less : (s : ℕ) (w v : ℕ → ℕ) → ((u : ℕ) → w u ≤ v u) → (es : List MergingEntry) → sum_by (gives s w) es ≤ sum_by (gives s v) es
  gives_less s w v h [] = omega arith
  gives_less s w v h (static t key x (some u) a ∷ es) = omega (arith, pick_less (eqb t s) (w u) (v u) (h u), gives_less s w v h es)
  gives_less s w v h (static t key x none a ∷ es) = omega (arith, gives_less s w v h es)
  gives_less s w v h (source t e ∷ es) = omega (arith, gives_less s w v h es)
  gives_less s w v h (dynamic t k a ∷ es) = omega (arith, gives_less s w v h es)

  set_more : (es : List MergingEntry) (b s : ℕ) → set_weighs es b s ≤ set_weighs es (suc b) s
  unfolding set_weighs
  set_more es zero s = omega arith
  set_more es (suc b) s = omega (arith, gives_less s (set_weighs es b) (set_weighs es (suc b)) (set_more es b) es)

  -- a set weighs one for itself and what its entries give
  pub set_own : (es : List MergingEntry) (b s : ℕ) → set_weighs es b s ≤ suc (sum_by (gives s (set_weighs es b)) es)
  set_own es b s = unfold set_weighs in set_more es b s

  gives_parts : (s : ℕ) (w : ℕ → ℕ) (es : List MergingEntry) → sum_by (gives s w) es ≤ sum_by (takes_in s w) es + sum_by (weighs_own s) es
  gives_parts s w [] = omega arith
  gives_parts s w (static t key x (some u) v ∷ es) = omega (arith, gives_parts s w es)
  gives_parts s w (static t key x none none ∷ es) = omega (arith, gives_parts s w es)
  gives_parts s w (static t key x none (some v) ∷ es) = omega (arith, gives_parts s w es)
  gives_parts s w (source t e ∷ es) = omega (arith, gives_parts s w es)
  gives_parts s w (dynamic t k a ∷ es) = omega (arith, gives_parts s w es)

  next_all : (k : ℕ) (es : List MergingEntry) → sum_by (weighs_own k) es + sum_by (weighs_from (suc k)) es ≤ sum_by (weighs_from k) es
  next_all k [] = omega arith
  next_all k (static s key x nested v ∷ es) = omega (arith, next_at k s (opt_weighs v), next_all k es)
  next_all k (source s e ∷ es) = omega (arith, next_at k s (ω e), next_all k es)
  next_all k (dynamic s a v ∷ es) = omega (arith, next_at k s (ω a + ω v), next_all k es)

  from_at : (c d s n : ℕ) → c ≤ d → pick (leb d s) n 0 ≤ pick (leb c s) n 0
  from_at c d s n h = go (leb d s) refl
    where
      go : (b : Bool) → leb d s ≡ b → pick b n 0 ≤ pick (leb c s) n 0
      go true e = rw (le-leb c s (omega (arith, leb-true d s e))) (omega arith)
      go false e = omega arith

  -- the later the first set that is counted, the less
  pub from_up : (c d : ℕ) → c ≤ d → (es : List MergingEntry) → sum_by (weighs_from d) es ≤ sum_by (weighs_from c) es
  from_up c d h [] = omega arith
  from_up c d h (static s key x nested v ∷ es) = omega (arith, from_at c d s (opt_weighs v) h, from_up c d h es)
  from_up c d h (source s e ∷ es) = omega (arith, from_at c d s (ω e) h, from_up c d h es)
  from_up c d h (dynamic s a v ∷ es) = omega (arith, from_at c d s (ω a + ω v) h, from_up c d h es)

  pub from_next : (k : ℕ) (es : List MergingEntry) → sum_by (weighs_from (suc k)) es ≤ sum_by (weighs_from k) es
  from_next k es = omega (arith, next_all k es)

  module _ (c : ℕ) (es : List MergingEntry) (fine : NestedOnce c es) where
    crossing : (b n k : ℕ) → k + n ≡ c → sum_by (across k (set_weighs es b)) es ≤ n + sum_by (weighs_from k) es
    crossing b zero k e = let z : c ≡ k = omega arith in omega (arith, rw z at (none_across c es fine (set_weighs es b) es fine.all))
    crossing b (suc n) k e =
        let w = set_weighs es b in
        omega (arith, crossing b n (suc k) (omega arith), step_all c k w es fine.all, nested_once c es fine (w k) k, set_own es b k, gives_parts k w es, next_all k es)

    -- The entries of a set weigh no more than those of the sets from it on, and one for each set after it.
    pub weight_forest : (b s : ℕ) → s < c → sum_by (gives s (set_weighs es b)) es + suc s ≤ sum_by (weighs_from s) es + c
    weight_forest b s h =
        let w = set_weighs es b in
        let n : (n : ℕ) × (suc s + n ≡ c) = (c - suc s, omega arith) in
        omega (arith, gives_parts s w es, takes_across c es fine s w es fine.all, crossing b n.0 (suc s) n.1, n.1, next_all s es)
