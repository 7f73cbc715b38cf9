-- Each set nested in others is met at most once from any of them, and so weighs no more than its entries do. Assumes
-- nothing.
use mathlib.Core.Path.{◌≡◌, refl, sym, ap, ◌∙◌}
use mathlib.Core.Bool.{Bool, true, false, ◌&&◌}
use mathlib.Core.List.{List, [], ◌∷◌, ◌++◌}
use mathlib.Core.Option.{some}
use Prim.Native.Nat.{ℕ, zero, suc, ◌+◌, ◌*◌, ◌<◌, ◌≤◌}
use native.Mathlib.Omega.{arith}
use lib.Dec.{eqb}
use lib.ListN.{length, get_or, set}
use borrow.Author.Tests.{eqb-true, ne_eqb}
use Rattle.words.specs.Order.{pick, order}
use Rattle.std.specs.declared.cmp.Ordering.{Ordering}
use Rattle.std.specs.declared.cmp.Ordering.TheVariants.{Less, Equal, Greater}
use Rattle.words.specs.Equality.{equalb}
use Rattle.spec.specs.Basics.{Text}
use Rattle.spec.specs.State.{SetId, MergingEntry, static, source, dynamic}
use Rattle.spec.specs.Merge.{set_of, is_at, find_from, nested_in, Static, here_or_later, insert_static}
use Rattle.spec.specs.Scopes.{one_or_none}
use Rattle.spec.proofs.general.BoolLaws.{differ}
use Rattle.spec.proofs.general.Sums.{sum_by, All, same, same_le, same_is, same_not, compared, sum_append, sum_le, sum_add, sum_zero, sum_le_all, all_append, total, total_add, total_times, total_zero}

-- ---- what is met once
pub record MetOnce (below : ℕ → List ℕ) : Type 0 where
  pub met : (b s v : ℕ) → total below (same v) b s ≤ 1

-- where the lists hold the same, if in another order
pub once_same : (below below' : ℕ → List ℕ) → ((g : ℕ → ℕ) (r : ℕ) → sum_by g (below' r) ≡ sum_by g (below r)) → MetOnce below → MetOnce below'
once_same below below' h once = record { met = λ b s v. let i = less v b s in let j = once.met b s v in omega arith }
  where
    less : (v b s : ℕ) → total below' (same v) b s ≤ total below (same v) b s
    less v zero s = omega arith
    less v (suc b) s =
        let i = h (total below' (same v) b) s in
        let j = sum_le (total below' (same v) b) (total below (same v) b) (less v b) (below s) in
        omega arith

-- where nothing is below anything
pub once_none : (below : ℕ → List ℕ) → ((r : ℕ) → below r ≡ []) → MetOnce below
once_none below h = record { met = λ b s v. go b s v }
  where
    go : (b s v : ℕ) → total below (same v) b s ≤ 1
    go zero s v = omega arith
    go (suc b) s v = let i = same_le v s in rw (h s) (omega arith)

-- where one that was met from nowhere, and from which nothing is met, is put below u
module _ (below below' : ℕ → List ℕ) (u t : ℕ) (once : MetOnce below)
    (adds : (g : ℕ → ℕ) (r : ℕ) → sum_by g (below' r) ≡ sum_by g (below r) + sum_by g (pick (eqb u r) (t ∷ []) []))
    (ends : below t ≡ []) (apart : ¬ (u ≡ t)) (unmet : (r : ℕ) → All (λ y. ¬ (y ≡ t)) (below r)) where
  still_ends : (g : ℕ → ℕ) → sum_by g (below' t) ≡ 0
  still_ends g = let h = adds g t in let i : sum_by g (pick (eqb u t) (t ∷ []) []) ≡ 0 = rw (ne_eqb u t apart) in let j : sum_by g (below t) ≡ 0 = rw ends in omega arith

  at_end : (f : ℕ → ℕ) (b : ℕ) → total below' f b t ≤ f t
  at_end f zero = omega arith
  at_end f (suc b) = let h = still_ends (total below' f b) in omega arith

  others_stay : (v : ℕ) → ¬ (v ≡ t) → (b s : ℕ) → total below' (same v) b s ≤ total below (same v) b s
  others_stay v n zero s = omega arith
  others_stay v n (suc b) s =
      let h = adds (total below' (same v) b) s in
      let i = sum_le (total below' (same v) b) (total below (same v) b) (others_stay v n b) (below s) in
      let j = extra (eqb u s) b in
      omega arith
    where
      extra : (c : Bool) (b : ℕ) → sum_by (total below' (same v) b) (pick c (t ∷ []) []) ≤ 0
      extra true b = let k = at_end (same v) b in let l = same_not v t n in omega arith
      extra false b = omega arith

  as_often_as_u : (b s : ℕ) → total below' (same t) b s ≤ total below (same u) b s + total below (same t) b s
  as_often_as_u zero s = omega arith
  as_often_as_u (suc b) s =
      let h = adds (total below' (same t) b) s in
      let i = sum_le (total below' (same t) b) (λ r. total below (same u) b r + total below (same t) b r) (as_often_as_u b) (below s) in
      let j = sum_add (total below (same u) b) (total below (same t) b) (below s) in
      let k = extra (eqb u s) b in
      omega arith
    where
      extra : (c : Bool) (b : ℕ) → sum_by (total below' (same t) b) (pick c (t ∷ []) []) ≤ pick c 1 0
      extra true b = let k = at_end (same t) b in let l = same_is t in omega arith
      extra false b = omega arith

  was_unmet : (b s : ℕ) → ¬ (s ≡ t) → total below (same t) b s ≤ 0
  was_unmet zero s n = omega arith
  was_unmet (suc b) s n =
      let h = sum_le_all (λ y. ¬ (y ≡ t)) (total below (same t) b) (λ _. 0) (was_unmet b) (below s) (unmet s) in
      let i = sum_zero (below s) in
      let j = same_not t s (λ p. n (sym p)) in
      omega arith

  pub once_more : MetOnce below'
  once_more = record { met = λ b s v. compared v t (λ p. rw p (new b s)) (λ n. let h = others_stay v n b s in let i = once.met b s v in omega arith) }
    where
      new : (b s : ℕ) → total below' (same t) b s ≤ 1
      new b s =
          compared s t (λ p. rw p (let h = at_end (same t) b in let i = same_le t t in omega arith))
          (λ n. let h = as_often_as_u b s in let i = was_unmet b s n in let j = once.met b s u in omega arith)

-- ---- the sets nested in a set, as its entries have them
abbrev pub nests : MergingEntry → SetId → List SetId
nests e s = pick (eqb (set_of e) s) (one_or_none (nested_in e)) []

abbrev pub nested_of : List MergingEntry → SetId → List SetId
nested_of [] s = []
nested_of (e ∷ es) s = nests e s ++ nested_of es s

pub nested_set : (g : SetId → ℕ) (r : SetId) (es : List MergingEntry) (k : ℕ) (y d : MergingEntry) → k < length es
    → sum_by g (nested_of (set es k y) r) + sum_by g (nests (get_or es k d) r) ≡ sum_by g (nested_of es r) + sum_by g (nests y r)
nested_set g r [] k y d h = absurd (omega arith)
nested_set g r (e ∷ es) zero y d h = let i = sum_append g (nests y r) (nested_of es r) in let j = sum_append g (nests e r) (nested_of es r) in omega arith
nested_set g r (e ∷ es) (suc k) y d h =
    let i = sum_append g (nests e r) (nested_of (set es k y) r) in
    let j = sum_append g (nests e r) (nested_of es r) in
    let l = nested_set g r es k y d (omega arith) in
    omega arith

pub nested_append : (g : SetId → ℕ) (r : SetId) (es fs : List MergingEntry) → sum_by g (nested_of (es ++ fs) r) ≡ sum_by g (nested_of es r) + sum_by g (nested_of fs r)
nested_append g r [] fs = omega arith
nested_append g r (e ∷ es) fs =
    let i = sum_append g (nests e r) (nested_of (es ++ fs) r) in
    let j = sum_append g (nests e r) (nested_of es r) in
    let l = nested_append g r es fs in
    omega arith

-- a set that no entry is of has none
pub nested_none : (es : List MergingEntry) (r : SetId) → All (λ e. ¬ (set_of e ≡ r)) es → nested_of es r ≡ []
nested_none [] r a = refl
nested_none (e ∷ es) r a = let h = nested_none es r a.1 in rw (ne_eqb (set_of e) r a.0, h)

-- entries of other sets are passed over
pub nested_skips : (es fs : List MergingEntry) (r : SetId) → All (λ e. ¬ (set_of e ≡ r)) es → nested_of (es ++ fs) r ≡ nested_of fs r
nested_skips [] fs r a = refl
nested_skips (e ∷ es) fs r a = let h = nested_skips es fs r a.1 in rw (ne_eqb (set_of e) r a.0, h)

-- what holds of every nested set
pub nested_all : (P : SetId → Type 0) (es : List MergingEntry) (r : SetId) → All (λ e. All P (one_or_none (nested_in e))) es → All P (nested_of es r)
nested_all P [] r a = tt
nested_all P (e ∷ es) r a = all_append P (nests e r) (nested_of es r) (go (eqb (set_of e) r)) (nested_all P es r a.1)
  where
    go : (b : Bool) → All P (pick b (one_or_none (nested_in e)) [])
    go true = a.0
    go false = tt

-- ---- the weight of what is nested
module _ (own : MergingEntry → ℕ) where
  -- the entries of a set
  abbrev pub own_of : List MergingEntry → SetId → ℕ
  own_of [] s = 0
  own_of (e ∷ es) s = own e * same (set_of e) s + own_of es s

  times_le : (w k : ℕ) → k ≤ 1 → w * k ≤ w
  times_le w zero h = omega arith
  times_le w (suc zero) h = omega arith
  times_le w (suc (suc k)) h = absurd (omega arith)

  -- THEOREM. Where each set is met at most once, all that is met from a set weighs no more than the entries do.
  pub met_weighs : (below : SetId → List SetId) → MetOnce below → (es : List MergingEntry) (b s : ℕ) → total below (own_of es) b s ≤ sum_by own es
  met_weighs below once [] b s = total_zero below b s
  met_weighs below once (e ∷ es) b s =
      let h = total_add below (λ r. own e * same (set_of e) r) (own_of es) b s in
      let i = total_times below (own e) (same (set_of e)) b s in
      let j = times_le (own e) (total below (same (set_of e)) b s) (once.met b s (set_of e)) in
      let k = met_weighs below once es b s in
      omega arith

  pub own_none : (es fs : List MergingEntry) (r : SetId) → All (λ e. ¬ (set_of e ≡ r)) es → own_of (es ++ fs) r ≡ own_of fs r
  own_none [] fs r a = refl
  own_none (e ∷ es) fs r a = let h = own_none es fs r a.1 in let i = same_not (set_of e) r a.0 in rw i (omega arith)

-- ---- finding an entry
pub is_at_set : (s : SetId) (key : Text) (e : MergingEntry) → is_at s key e ≡ true → set_of e ≡ s
unfolding is_at
is_at_set s key (static t k x nested value) h = go (eqb t s) refl h
  where
    go : (b : Bool) → eqb t s ≡ b → b && equalb k key ≡ true → t ≡ s
    go true p q = eqb-true t s p
    go false p q = differ (sym q)
is_at_set s key (source t e) h = differ (sym h)
is_at_set s key (dynamic t k v) h = differ (sym h)

pub is_at_other : (s : SetId) (key : Text) (e : MergingEntry) → ¬ (set_of e ≡ s) → is_at s key e ≡ false
is_at_other s key e n = go (is_at s key e) refl
  where
    go : (b : Bool) → is_at s key e ≡ b → b ≡ false
    go true p = absurd (n (is_at_set s key e p))
    go false p = refl

-- the entry that has the key, in the list
pub find_from_at : (s : SetId) (key : Text) (d : MergingEntry) (i : ℕ) (es : List MergingEntry) (j : ℕ) → find_from s key i es ≡ some j
    → (k : ℕ) × (j ≡ i + k) × (k < length es) × (is_at s key (get_or es k d) ≡ true)
unfolding find_from
find_from_at s key d i [] j h = absurd (let z : ◌≡◌ {A = ℕ} 0 1 = cc in omega arith)
find_from_at s key d i (e ∷ es) j h = go (is_at s key e) refl h (find_from_at s key d (suc i) es j)
  where
    go : (b : Bool) → is_at s key e ≡ b → pick b (some i) (find_from s key (suc i) es) ≡ some j
        → (find_from s key (suc i) es ≡ some j → (k : ℕ) × (j ≡ suc i + k) × (k < length es) × (is_at s key (get_or es k d) ≡ true))
        → (k : ℕ) × (j ≡ i + k) × (k < suc (length es)) × (is_at s key (get_or (e ∷ es) k d) ≡ true)
    go true p q f = (0, (let r : i ≡ j = cc in omega arith), omega arith, p)
    go false p q f = let r = f q in (suc r.0, (let z = r.1 in omega arith), (let z = r.2 in omega arith), r.3)

-- entries of other sets are passed over
pub find_from_skips : (s : SetId) (key : Text) (i : ℕ) (es fs : List MergingEntry) → All (λ e. ¬ (set_of e ≡ s)) es
    → find_from s key i (es ++ fs) ≡ find_from s key (i + length es) fs
unfolding find_from
find_from_skips s key i [] fs a = let p : i ≡ i + 0 = omega arith in ap (λ (n : ℕ). find_from s key n fs) p
find_from_skips s key i (e ∷ es) fs a =
    let p : suc i + length es ≡ i + suc (length es) = omega arith in
    let h = find_from_skips s key (suc i) es fs a.1 in
    rw (is_at_other s key e a.0) (h ∙ ap (λ (n : ℕ). find_from s key n fs) p)

-- ---- the static entries of a set, in the order of their keys: where one is put does not matter
pub sum_insert : (g : Static → ℕ) (x : Static) (ys : List Static) → sum_by g (insert_static x ys) ≡ g x + sum_by g ys
unfolding insert_static here_or_later
sum_insert g x [] = refl
sum_insert g x (y ∷ ys) = go (order x.key y.key) (sum_insert g x ys)
  where
    go : (o : Ordering) → sum_by g (insert_static x ys) ≡ g x + sum_by g ys → sum_by g (here_or_later o (x ∷ y ∷ ys) (y ∷ insert_static x ys)) ≡ g x + (g y + sum_by g ys)
    go Less h = omega arith
    go Equal h = omega arith
    go Greater h = omega arith
