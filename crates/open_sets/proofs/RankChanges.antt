-- The run where an entry is put in the place of another that stands as it does, and where the sets on top are cut off.
-- Assumes nothing.
use mathlib.Core.Path.{◌≡◌, refl, sym, ap, ◌∙◌}
use mathlib.Core.List.{List, [], ◌∷◌, ◌++◌, map, map-map, map-append}
use Prim.Native.Nat.{ℕ, suc, ◌+◌, ◌<◌, ◌≤◌}
use native.Mathlib.Omega.{arith}
use native.Mathlib.Nat.{add-zero, add-suc, suc-add}
use lib.ListN.{length, get_or, take, set}
use lib.Seq.{map-set_same, take_at}
use Rattle.spec.specs.Module.{BindingValue}
use Rattle.spec.specs.State.{SetId, MergingEntry, static, source, dynamic}
use Rattle.spec.specs.Merge.{set_of, with_value, with_nested}
use Rattle.spec.proofs.general.Sums.{All, all_map}
use Rattle.open_sets.specs.Ranks.{class_of, key_of, standing, insert_by, Numbered, standing_of, ranked_from, sorted, InOrder}
use Rattle.open_sets.proofs.RankOrder.{Le, set_below, after_le, after_less}
use Rattle.open_sets.proofs.Inserting.{all_insert, insert_append, insert_map}
use Rattle.open_sets.proofs.RankLaws.{length_sorted}

-- ---- by how the entries stand, and nothing else
abbrev Keyed : Type 0
Keyed = List ℕ × ℕ

abbrev key_in : Keyed → List ℕ
key_in p = p.0

abbrev keyed : Numbered → Keyed
keyed p = (standing p.0, p.1)

unfoldable keyed_from : ℕ → List (List ℕ) → List Keyed
keyed_from i [] = []
keyed_from i (k ∷ ks) = insert_by key_in (k, i) (keyed_from (suc i) ks)

standing_keyed : (p : Numbered) → key_in (keyed p) ≡ standing_of p
unfolding standing_of
standing_keyed p = refl

ranked_keyed : (i : ℕ) (es : List MergingEntry) → map keyed (ranked_from i es) ≡ keyed_from i (map standing es)
unfolding ranked_from keyed_from
ranked_keyed i [] = refl
ranked_keyed i (e ∷ es) = insert_map standing_of keyed key_in standing_keyed (e, i) (ranked_from (suc i) es) ∙ ap (insert_by key_in (standing e, i)) (ranked_keyed (suc i) es)

sorted_keyed : (es : List MergingEntry) → sorted es ≡ map (λ p. p.1) (keyed_from 0 (map standing es))
unfolding sorted
sorted_keyed es = sym (map-map (λ p. p.1) keyed (ranked_from 0 es)) ∙ ap (map (λ p. p.1)) (ranked_keyed 0 es)

pub sorted_alike : (es fs : List MergingEntry) → map standing es ≡ map standing fs → sorted es ≡ sorted fs
sorted_alike es fs h = sorted_keyed es ∙ rw h (sym (sorted_keyed fs))

-- ---- another in its place
pub sorted_set : (es : List MergingEntry) (i : ℕ) (e : MergingEntry) → standing e ≡ standing (get_or es i (source 0 0)) → sorted (set es i e) ≡ sorted es
sorted_set es i e h = sorted_alike (set es i e) es (map-set_same standing es i e (source 0 0) h)

with_value_standing : (v : BindingValue) (e : MergingEntry) → standing (with_value v e) ≡ standing e
unfolding standing with_value class_of key_of
with_value_standing v (static s k x nested value) = refl
with_value_standing v (source s e) = refl
with_value_standing v (dynamic s k w) = refl

with_nested_standing : (t : SetId) (e : MergingEntry) → standing (with_nested t e) ≡ standing e
unfolding standing with_nested class_of key_of
with_nested_standing t (static s k x nested value) = refl
with_nested_standing t (source s e) = refl
with_nested_standing t (dynamic s k w) = refl

pub sorted_with_value : (es : List MergingEntry) (i : ℕ) (v : BindingValue) → sorted (set es i (with_value v (get_or es i (source 0 0)))) ≡ sorted es
sorted_with_value es i v = sorted_set es i (with_value v (get_or es i (source 0 0))) (with_value_standing v (get_or es i (source 0 0)))

pub sorted_with_nested : (es : List MergingEntry) (i : ℕ) (t : SetId) → sorted (set es i (with_nested t (get_or es i (source 0 0)))) ≡ sorted es
sorted_with_nested es i t = sorted_set es i (with_nested t (get_or es i (source 0 0))) (with_nested_standing t (get_or es i (source 0 0)))

pub in_order_with_value : {es : List MergingEntry} {run : List ℕ} (i : ℕ) (v : BindingValue) → InOrder es run → InOrder (set es i (with_value v (get_or es i (source 0 0)))) run
in_order_with_value {es} i v o = record { same = o.same ∙ sym (sorted_with_value es i v) }

pub in_order_with_nested : {es : List MergingEntry} {run : List ℕ} (i : ℕ) (t : SetId) → InOrder es run → InOrder (set es i (with_nested t (get_or es i (source 0 0)))) run
in_order_with_nested {es} i t o = record { same = o.same ∙ sym (sorted_with_nested es i t) }

-- ---- the sets from z on cut off
ranked_of : (P : MergingEntry → Type 0) (i : ℕ) (es : List MergingEntry) → All P es → All (λ p. P p.0) (ranked_from i es)
unfolding ranked_from
ranked_of P i [] a = tt
ranked_of P i (e ∷ es) a = all_insert standing_of (λ p. P p.0) (e, i) (ranked_from (suc i) es) a.0 (ranked_of P (suc i) es a.1)

set_before : (z : SetId) (x y : MergingEntry) → set_of x < z → z ≤ set_of y → Le (standing x) (standing y)
set_before z x y h l = after_le x y (after_less x y (set_below x y (omega arith)))

-- an entry of a set below z stands before all the others
before_all : (z i : ℕ) (e : MergingEntry) (j : ℕ) (more : List MergingEntry) → set_of e < z → All (λ x. z ≤ set_of x) more
    → All (λ p. Le (standing_of (e, i)) (standing_of p)) (ranked_from j more)
unfolding standing_of
before_all z i e j more h b = all_map _ _ (λ p l. set_before z e p.0 h l) (ranked_from j more) (ranked_of (λ x. z ≤ set_of x) j more b)

ranked_apart : (z i : ℕ) (es more : List MergingEntry) → All (λ e. set_of e < z) es → All (λ e. z ≤ set_of e) more
    → ranked_from i (es ++ more) ≡ ranked_from i es ++ ranked_from (i + length es) more
unfolding ranked_from
ranked_apart z i [] more a b = rw add-zero
ranked_apart z i (e ∷ es) more a b = go (ranked_apart z (suc i) es more a.1 b)
  where
    go : ranked_from (suc i) (es ++ more) ≡ ranked_from (suc i) es ++ ranked_from (suc i + length es) more
        → insert_by standing_of (e, i) (ranked_from (suc i) (es ++ more)) ≡ insert_by standing_of (e, i) (ranked_from (suc i) es) ++ ranked_from (i + suc (length es)) more
    go rest = rw (rest, add-suc, ← suc-add) (insert_append standing_of (e, i) (ranked_from (suc i) es) (ranked_from (suc i + length es) more) (before_all z i e (suc i + length es) more a.0 b))

sorted_apart : (z : SetId) (es more : List MergingEntry) → All (λ e. set_of e < z) es → All (λ e. z ≤ set_of e) more
    → sorted (es ++ more) ≡ sorted es ++ map (λ p. p.1) (ranked_from (0 + length es) more)
unfolding sorted
sorted_apart z es more a b = rw (ranked_apart z 0 es more a b) (map-append (λ p. p.1) (ranked_from 0 es) (ranked_from (0 + length es) more))

pub sorted_cut : (z : SetId) (es more : List MergingEntry) → All (λ e. set_of e < z) es → All (λ e. z ≤ set_of e) more → take (length es) (sorted (es ++ more)) ≡ sorted es
sorted_cut z es more a b = rw (sorted_apart z es more a b) (take_at (sorted es) (map (λ p. p.1) (ranked_from (0 + length es) more)) (length es) (length_sorted es))

pub in_order_cut : (z : SetId) (es more : List MergingEntry) {run : List ℕ} → InOrder (es ++ more) run → All (λ e. set_of e < z) es → All (λ e. z ≤ set_of e) more
    → InOrder es (take (length es) run)
in_order_cut z es more o a b = record { same = rw o.same (sorted_cut z es more a b) }
