-- To finish a set takes at most one turn for each entry of the sets from it on, and one for each of those sets. Assumes
-- nothing.
use mathlib.Core.Path.{◌≡◌, refl, ap, ◌∙◌}
use mathlib.Core.Bool.{Bool, true, false}
use mathlib.Core.List.{List, [], ◌∷◌}
use mathlib.Core.Option.{Option, none, some}
use Prim.Native.Nat.{ℕ, zero, suc, ◌+◌, ◌-◌, ◌≤◌, ◌<◌}
use native.Mathlib.Omega.{arith}
use lib.ListN.{length, length-append}
use lib.Dec.{eqb, leb}
use borrow.Author.Tests.{lt-leb}
use Rattle.words.specs.Order.{pick}
use Rattle.spec.specs.Module.{BindingValue}
use Rattle.spec.specs.State.{SetId, MergingEntry, static, source, dynamic, State}
use Rattle.spec.specs.Merge.{Static, insert_static, statics_of, sources_of, dynamics_of, set_of}
use Rattle.spec.proofs.general.Sums.{All, sum_by, sum_append}
use Rattle.spec.proofs.once.Weights.{NamesSets, Known}
use Rattle.spec.proofs.steps.Forest.{NestedOnce, takes_in, across, step_all, nested_once, none_across, takes_across}
use Rattle.spec.proofs.steps.RoomWeights.{from_picked, next_at}
use Rattle.spec.proofs.sets.Above.{Above}
use Rattle.spec.proofs.once.Nesting.{sum_insert}

-- what a static takes, w being what each nested set takes
abbrev pub static_load : (SetId → ℕ) → Option SetId → Option BindingValue → ℕ
static_load w (some u) v = 1 + w u
static_load w none (some v) = 1
static_load w none none = 2

-- what an entry takes of the set s
abbrev pub load_in : SetId → (SetId → ℕ) → MergingEntry → ℕ
load_in s w (static t key x nested v) = pick (eqb t s) (static_load w nested v) 0
load_in s w (source t e) = pick (eqb t s) 1 0
load_in s w (dynamic t k v) = pick (eqb t s) 1 0

-- what a set takes, nested sets being followed so far
unfoldable pub load : List MergingEntry → ℕ → SetId → ℕ
load es zero s = 1
load es (suc b) s = suc (sum_by (load_in s (load es b)) es)

-- what its entries take
abbrev pub loads : List MergingEntry → ℕ → SetId → ℕ
loads es b s = sum_by (load_in s (load es b)) es

pub load_step : (es : List MergingEntry) (b : ℕ) (s : SetId) → load es (suc b) s ≡ suc (loads es b s)
unfolding load
load_step es b s = refl

-- ---- entries by their sets
-- 1 for an entry of one of the sets from k on
abbrev pub is_from : SetId → MergingEntry → ℕ
is_from k e = pick (leb k (set_of e)) 1 0

-- how many entries are of the sets from k on
abbrev pub entries_from : SetId → List MergingEntry → ℕ
entries_from k es = sum_by (is_from k) es

-- 1 for an entry of the set k
abbrev is_of : SetId → MergingEntry → ℕ
is_of k e = pick (eqb (set_of e) k) 1 0

-- from k on: those of k itself, and from the next on
next_all : (k : ℕ) (es : List MergingEntry) → sum_by (is_of k) es + entries_from (suc k) es ≤ entries_from k es
next_all k [] = omega arith
next_all k (e ∷ es) = omega (arith, next_at k (set_of e) 1, next_all k es)

pub from_few : (k : SetId) (es : List MergingEntry) → entries_from k es ≤ length es
from_few k [] = omega arith
from_few k (e ∷ es) = omega (arith, from_picked (leb k (set_of e)) 1, from_few k es)

-- ---- the forest
module _ (s : SetId) (w : SetId → ℕ) where
  -- what a nested set takes or a missing value, and one for the entry
  parts_at : (e : MergingEntry) → load_in s w e ≤ takes_in s w e + is_of s e
  parts_at (static t key x (some u) v) = go (eqb t s)
    where
      go : (b : Bool) → pick b (1 + w u) 0 ≤ pick b (w u) 0 + pick b 1 0
      go true = omega arith
      go false = omega arith
  parts_at (static t key x none (some v)) = omega arith
  parts_at (static t key x none none) = go (eqb t s)
    where
      go : (b : Bool) → pick b 2 0 ≤ pick b 1 0 + pick b 1 0
      go true = omega arith
      go false = omega arith
  parts_at (source t e) = omega arith
  parts_at (dynamic t k v) = omega arith

  parts : (es : List MergingEntry) → sum_by (load_in s w) es ≤ sum_by (takes_in s w) es + sum_by (is_of s) es
  parts [] = omega arith
  parts (e ∷ es) = omega (arith, parts_at e, parts es)

-- more where nested sets take more
module _ (s : SetId) (w v : SetId → ℕ) (h : (u : SetId) → w u ≤ v u) where
  static_less : (nested : Option SetId) (value : Option BindingValue) → static_load w nested value ≤ static_load v nested value
  static_less (some u) value = omega (arith, h u)
  static_less none (some a) = omega arith
  static_less none none = omega arith

  in_less : (e : MergingEntry) → load_in s w e ≤ load_in s v e
  in_less (static t key x nested value) = go (eqb t s)
    where
      go : (b : Bool) → pick b (static_load w nested value) 0 ≤ pick b (static_load v nested value) 0
      go true = static_less nested value
      go false = omega arith
  in_less (source t e) = omega arith
  in_less (dynamic t k a) = omega arith

  all_less : (es : List MergingEntry) → sum_by (load_in s w) es ≤ sum_by (load_in s v) es
  all_less [] = omega arith
  all_less (e ∷ es) = omega (arith, in_less e, all_less es)

-- one level more is no less
pub load_more : (es : List MergingEntry) (b : ℕ) (s : SetId) → load es b s ≤ load es (suc b) s
unfolding load
load_more es zero s = omega arith
load_more es (suc b) s = omega (arith, all_less s (load es b) (load es (suc b)) (load_more es b) es)

load_own : (es : List MergingEntry) (b : ℕ) (s : SetId) → load es b s ≤ suc (loads es b s)
load_own es b s = omega (arith, load_more es b s, load_step es b s)

module _ (c : ℕ) (es : List MergingEntry) (fine : NestedOnce c es) where
  crossing : (b n k : ℕ) → k + n ≡ c → sum_by (across k (load es b)) es ≤ n + entries_from k es
  crossing b zero k e = let z : c ≡ k = omega arith in omega (arith, rw z at (none_across c es fine (load es b) es fine.all))
  crossing b (suc n) k e =
      let w = load es b in
      omega (arith, crossing b n (suc k) (omega arith), step_all c k w es fine.all, nested_once c es fine (w k) k, load_own es b k, parts k w es, next_all k es)

  -- THEOREM. The entries of a set take no more than there are entries of the sets from it on, and one for each set
  -- after it.
  pub loads_forest : (b : ℕ) (s : SetId) → s < c → loads es b s ≤ entries_from s es + (c - suc s)
  loads_forest b s h =
      let w = load es b in
      let n : (n : ℕ) × (suc s + n ≡ c) = (c - suc s, omega arith) in
      omega (arith, parts s w es, takes_across c es fine s w es fine.all, crossing b n.0 (suc s) n.1, n.1, next_all s es)

  -- THEOREM. And the set itself takes one more.
  pub load_forest : (b : ℕ) (s : SetId) → s < c → load es b s ≤ entries_from s es + (c - s)
  load_forest b s h = omega (arith, load_own es b s, loads_forest b s h)

-- ---- what stands on top
none_from : (k : SetId) (es : List MergingEntry) → All (NamesSets 0 k) es → entries_from k es ≡ 0
none_from k [] a = refl
none_from k (e ∷ es) a = rw (lt-leb k (set_of e) a.0.0.1) (omega (arith, none_from k es a.1))

-- of the sets on top there are no more entries than stand on top
pub above_few : (st u : State) → Known st → Above st u → entries_from (length st.sets) u.entries + length st.entries ≤ length u.entries
above_few st u known a =
    let k = length st.sets in
    let i : entries_from k u.entries ≡ entries_from k st.entries + entries_from k a.more = ap (entries_from k) a.entries ∙ sum_append (is_from k) st.entries a.more in
    let j : length u.entries ≡ length st.entries + length a.more = ap length a.entries ∙ length-append st.entries a.more in
    omega (arith, i, j, none_from k st.entries known, from_few k a.more)

-- ---- by the parts of a set
-- What the entries of a set take: its statics in whatever order, and one for each source and each dynamic.
pub loads_parts : (w : SetId → ℕ) (s : SetId) (es : List MergingEntry)
    → sum_by (load_in s w) es ≡ sum_by (λ (x : Static). static_load w x.nested x.value) (statics_of s es) + (length (sources_of s es) + length (dynamics_of s es))
unfolding statics_of sources_of dynamics_of
loads_parts w s [] = refl
loads_parts w s (static t k x nested v ∷ es) = go (eqb t s) (loads_parts w s es)
  where
    takes : Static → ℕ
    takes y = static_load w y.nested y.value

    others : ℕ
    others = length (sources_of s es) + length (dynamics_of s es)

    go : (b : Bool) → sum_by (load_in s w) es ≡ sum_by takes (statics_of s es) + others
        → pick b (static_load w nested v) 0 + sum_by (load_in s w) es
        ≡ sum_by takes (pick b (insert_static (record { key = k; name = x; nested = nested; value = v }) (statics_of s es)) (statics_of s es)) + others
    go true r = omega (arith, r, sum_insert takes (record { key = k; name = x; nested = nested; value = v }) (statics_of s es))
    go false r = omega arith
loads_parts w s (source t e ∷ es) = go (eqb t s) (loads_parts w s es)
  where
    statics : ℕ
    statics = sum_by (λ (x : Static). static_load w x.nested x.value) (statics_of s es)

    go : (b : Bool) → sum_by (load_in s w) es ≡ statics + (length (sources_of s es) + length (dynamics_of s es))
        → pick b 1 0 + sum_by (load_in s w) es ≡ statics + (length (pick b (e ∷ sources_of s es) (sources_of s es)) + length (dynamics_of s es))
    go true r = omega arith
    go false r = omega arith
loads_parts w s (dynamic t k v ∷ es) = go (eqb t s) (loads_parts w s es)
  where
    statics : ℕ
    statics = sum_by (λ (x : Static). static_load w x.nested x.value) (statics_of s es)

    go : (b : Bool) → sum_by (load_in s w) es ≡ statics + (length (sources_of s es) + length (dynamics_of s es))
        → pick b 1 0 + sum_by (load_in s w) es ≡ statics + (length (sources_of s es) + length (pick b ((k, v) ∷ dynamics_of s es) (dynamics_of s es)))
    go true r = omega arith
    go false r = omega arith
