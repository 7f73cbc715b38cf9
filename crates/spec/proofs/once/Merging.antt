-- A step of merging leaves the sets below alone, adds entries that weigh no more than is owed and paid, and nests each
-- new set in one place. Assumes nothing.
use mathlib.Core.Path.{◌≡◌, refl, sym, ap, ◌∙◌}
use mathlib.Core.Bool.{Bool, true, false}
use mathlib.Core.List.{List, [], ◌∷◌, ◌++◌, append_assoc}
use mathlib.Core.Option.{Option, none, some}
use Prim.Native.Nat.{ℕ, suc, ◌+◌, ◌<◌, ◌≤◌}
use native.Mathlib.Omega.{arith}
use lib.Dec.{eqb}
use lib.ListN.{length, get_or, set, length-append}
use Rattle.words.specs.Order.{pick}
use Rattle.spec.specs.Basics.{Text, NameId}
use Rattle.spec.specs.Steps.{◌>>=◌, asks}
use Rattle.spec.specs.Module.{Pointer, BindingValue}
use Rattle.spec.specs.State.{SetId, MergingSet, MergingEntry, static, source, dynamic, State, Low, add_duplicate, set_entries, add_entry, set_entry}
use Rattle.spec.specs.Scopes.{one_or_none}
use Rattle.spec.specs.Merge.{set_of, is_at, find_from, find, entry_at, nested_in, with_value, with_nested, nested_at, merge_value_at}
use Rattle.spec.proofs.general.BoolLaws.{differ}
use Rattle.spec.proofs.general.Sums.{sum_by, All, sum_append, all_append, all_map, all_set, all_at, sum_set}
use Rattle.spec.proofs.once.Weights.{Between, NamesSets, Known, Scale, paid, Fits, Makes}
use Rattle.spec.proofs.once.Lowering.{value_weight}
use Rattle.spec.proofs.once.Nesting.{MetOnce, once_same, once_more, nests, nested_of, nested_set, nested_append, nested_none, nested_all, is_at_set, find_from_at, find_from_skips}
use Rattle.spec.proofs.once.Finishing.{own}
use Rattle.spec.proofs.general.ListLaws.{set_behind, get_d_behind}

-- ---- entries and the sets that they name
pub names_more : {low high low' high' : ℕ} → low' ≤ low → high ≤ high' → (e : MergingEntry) → NamesSets low high e → NamesSets low' high' e
names_more l h e n = (
  (let a = n.0.0 in omega arith, let a = n.0.1 in omega arith),
  all_map _ _ (λ t b. (let a = b.0 in omega arith, let a = b.1 in omega arith)) (one_or_none (nested_in e)) n.1,
)

-- What stands on top of the entries E and the sets Z: entries of later sets, each of which is nested in one place.
pub record Inside (E : List MergingEntry) (Z : List MergingSet) (st : State) : Type 0 where
  pub more : List MergingEntry
  pub entries : st.entries ≡ E ++ more
  pub names : All (NamesSets (length Z) (length st.sets)) more
  pub once : MetOnce (nested_of more)
  pub more_sets : List MergingSet
  pub sets : st.sets ≡ Z ++ more_sets

abbrev pub Base : List MergingEntry → List MergingSet → Type 0
Base E Z = All (NamesSets 0 (length Z)) E

pub known_inside : {E : List MergingEntry} {Z : List MergingSet} {st : State} → Base E Z → Inside E Z st → Known st
known_inside {E} {Z} {st} base I =
    let l : length Z ≤ length st.sets = let p = ap (λ (zs : List MergingSet). length zs) I.sets in let q = length-append Z I.more_sets in omega arith in
    rw I.entries
    (all_append _ E I.more (all_map _ _ (names_more (omega arith) l) E base) (all_map _ _ (names_more (omega arith) (omega arith)) I.more I.names))

module _ (σ : Scale) where
  -- what the entries weigh
  abbrev pub pot : State → ℕ
  pot st = sum_by (own σ) st.entries

  -- from one state to another on top of E and Z, with something in hand in the end
  pub record Merged (E : List MergingEntry) (Z : List MergingSet) (gained owed : ℕ) (st st' : State) : Type 0 where
    pub inside : Inside E Z st'
    pub grows : length st.sets ≤ length st'.sets
    pub fits : Fits σ st' → Fits σ st
    pub weighs : Fits σ st' → gained + (pot st' + paid σ st) ≤ owed + (pot st + paid σ st')

  -- a step that merges into the set s, whatever stands below
  pub record Merges (owed : ℕ) (s : SetId) (p : Low (Unit {0})) : Type 0 where
    pub merges : (E : List MergingEntry) (Z : List MergingSet) (st : State) → Base E Z → Inside E Z st → Between (length Z) (length st.sets) s
        → Merged E Z 0 owed st (p st).1

module _ {σ : Scale} {E : List MergingEntry} {Z : List MergingSet} where
  pub merged_then : {g g' owed : ℕ} {st st' st'' : State} (o o' : ℕ) → o + o' ≤ owed + g
      → Merged σ E Z g o st st' → Merged σ E Z g' o' st' st'' → Merged σ E Z g' owed st st''
  merged_then o o' le a b =
      record {
        inside = b.inside;
        grows = let i = a.grows in let j = b.grows in omega arith;
        fits = λ z. a.fits (b.fits z);
        weighs = λ z. let i = a.weighs (b.fits z) in let j = b.weighs z in omega arith;
      }

  -- a step that only makes something
  pub makes_merged : {A : Type 0} {o : ℕ} {w : A → ℕ} {st : State} {r : A × State} → Inside E Z st → Makes σ o w st r → Merged σ E Z (w r.0) o st r.1
  makes_merged I h =
      record {
        inside = record {
          more = I.more;
          entries = h.entries ∙ I.entries;
          names = rw h.sets I.names;
          once = I.once;
          more_sets = I.more_sets;
          sets = h.sets ∙ I.sets;
        };
        grows = rw h.sets (omega arith);
        fits = h.fits;
        weighs = λ z. let i = h.weighs z in rw h.entries (omega arith);
      }

  -- other entries on top, and perhaps more sets
  pub merged_with : {owed : ℕ} (st st' : State) (I : Inside E Z st) (more : List MergingEntry) (sets : List MergingSet)
      → st'.exprs ≡ st.exprs → st'.names ≡ st.names → st'.entries ≡ E ++ more → st'.sets ≡ Z ++ sets → length st.sets ≤ length st'.sets
      → All (NamesSets (length Z) (length st'.sets)) more → MetOnce (nested_of more) → sum_by (own σ) more ≤ owed + sum_by (own σ) I.more
      → Merged σ E Z 0 owed st st'
  merged_with st st' I more sets exprs_same names_same entries_are sets_are grow named once le =
      record {
        inside = record { more = more; entries = entries_are; names = named; once = once; more_sets = sets; sets = sets_are };
        grows = grow;
        fits = λ z. record { more = z.more; goes_on = ap (λ (es : List _). es ++ z.more) (sym exprs_same) ∙ z.goes_on };
        weighs = λ z.
            let i = sum_append (own σ) E more in
            let j = sum_append (own σ) E I.more in
            rw (entries_are, I.entries, exprs_same, names_same) (omega arith);
      }

  -- ---- entries
  -- one more entry, which nests nothing
  pub merged_add : (st : State) (I : Inside E Z st) (e : MergingEntry) → Between (length Z) (length st.sets) (set_of e) → nested_in e ≡ none
      → Merged σ E Z 0 (own σ e) st (add_entry e st).1
  unfolding add_entry set_entries ◌>>=◌ asks one_or_none
  merged_add st I e b p =
      merged_with st _ I (I.more ++ (e ∷ [])) I.more_sets refl refl
      (ap (λ (es : List MergingEntry). es ++ (e ∷ [])) I.entries ∙ append_assoc E I.more (e ∷ [])) I.sets (omega arith)
      (all_append _ I.more (e ∷ []) I.names ((b, rw p tt), tt))
      (once_same (nested_of I.more) (nested_of (I.more ++ (e ∷ []))) same I.once)
      (let h = sum_append (own σ) I.more (e ∷ []) in omega arith)
    where
      none_nested : (c : Bool) (g : SetId → ℕ) → sum_by g (pick c (one_or_none (nested_in e)) [] ++ []) ≡ 0
      none_nested true g = rw p
      none_nested false g = refl

      same : (g : SetId → ℕ) (r : SetId) → sum_by g (nested_of (I.more ++ (e ∷ [])) r) ≡ sum_by g (nested_of I.more r)
      same g r = let h = nested_append g r I.more (e ∷ []) in let i = none_nested (eqb (set_of e) r) g in omega arith

-- ---- an entry in its place
pub with_value_set : (v : BindingValue) (e : MergingEntry) → set_of (with_value v e) ≡ set_of e
unfolding with_value
with_value_set v (static s k x nested value) = refl
with_value_set v (source s e) = refl
with_value_set v (dynamic s k w) = refl

pub with_value_nested : (v : BindingValue) (e : MergingEntry) → nested_in (with_value v e) ≡ nested_in e
unfolding with_value nested_in
with_value_nested v (static s k x nested value) = refl
with_value_nested v (source s e) = refl
with_value_nested v (dynamic s k w) = refl

with_value_own : (σ : Scale) (v : BindingValue) (e : MergingEntry) → own σ (with_value v e) ≤ value_weight σ v + own σ e
unfolding with_value one_or_none
with_value_own σ v (static s k x nested value) = omega arith
with_value_own σ v (source s e) = omega arith
with_value_own σ v (dynamic s k w) = omega arith

pub with_nested_set : (t : SetId) (e : MergingEntry) → set_of (with_nested t e) ≡ set_of e
unfolding with_nested
with_nested_set t (static s k x nested value) = refl
with_nested_set t (source s e) = refl
with_nested_set t (dynamic s k w) = refl

with_nested_own : (σ : Scale) (t : SetId) (e : MergingEntry) → own σ (with_nested t e) ≡ own σ e
unfolding with_nested
with_nested_own σ t (static s k x nested value) = refl
with_nested_own σ t (source s e) = refl
with_nested_own σ t (dynamic s k w) = refl

pub with_nested_nested : (s : SetId) (key : Text) (t : SetId) (e : MergingEntry) → is_at s key e ≡ true → nested_in (with_nested t e) ≡ some t
unfolding with_nested nested_in is_at
with_nested_nested s key t (static u k x nested value) h = refl
with_nested_nested s key t (source u e) h = differ (sym h)
with_nested_nested s key t (dynamic u k w) h = differ (sym h)

-- what is put into the place of an entry on top
changed : (f : MergingEntry → MergingEntry) (es E more : List MergingEntry) (i k : ℕ) (d : MergingEntry) → es ≡ E ++ more → i ≡ length E + k
    → set es i (f (get_or es i d)) ≡ E ++ set more k (f (get_or more k d))
changed f es E more i k d p q = rw (p, get_d_behind E more k i d q) (set_behind E more k i _ q)

module _ {E : List MergingEntry} {Z : List MergingSet} (st : State) (base : Base E Z) (I : Inside E Z st) (s : SetId) (b : Between (length Z) (length st.sets) s) where
  -- an entry that is found stands on top
  pub found : (key : Text) (i : ℕ) → find s key st ≡ some i
      → (k : ℕ) × (i ≡ length E + k) × (k < length I.more) × (is_at s key (get_or I.more k (source 0 0)) ≡ true)
  unfolding find
  found key i h =
      let others : All (λ e. ¬ (set_of e ≡ s)) E = all_map _ _ (λ e n p. let x = n.0.1 in let y = b.0 in omega arith) E base in
      let r = find_from_at s key (source 0 0) (0 + length E) I.more i
      (sym (ap (λ (es : List MergingEntry). find_from s key 0 es) I.entries ∙ find_from_skips s key 0 E I.more others) ∙ h) in
      (r.0, (let x = r.1 in omega arith), r.2, r.3)

  -- and so does the set that is nested there
  pub nested_between : (key : Text) (t : SetId) → nested_at (find s key st) st ≡ some t → Between (length Z) (length st.sets) t
  unfolding nested_at entry_at one_or_none
  nested_between key t h = go (find s key st) refl h
    where
      at_entry : (o : Option SetId) → o ≡ some t → All (Between (length Z) (length st.sets)) (one_or_none o) → Between (length Z) (length st.sets) t
      at_entry o p a = let a' : All (Between (length Z) (length st.sets)) (t ∷ []) = rw p at a in a'.0

      go : (o : Option ℕ) → find s key st ≡ o → nested_at o st ≡ some t → Between (length Z) (length st.sets) t
      go none p q = absurd (let z : ◌≡◌ {A = ℕ} 0 1 = cc in omega arith)
      go (some i) p q =
          let f = found key i p in
          let e = ap nested_in (ap (λ (es : List MergingEntry). get_or es i (source 0 0)) I.entries ∙ get_d_behind E I.more f.0 i (source 0 0) f.1) in
          at_entry _ (sym e ∙ q) (all_at _ I.more f.0 (source 0 0) f.2 I.names).1

  -- merge_static_value at a key that is there
  pub merged_value : (σ : Scale) (key : Text) (p : Pointer) (v : BindingValue) (i : ℕ) → find s key st ≡ some i
      → Merged σ E Z 0 (value_weight σ v) st (merge_value_at s key p v (some i) st).1
  unfolding merge_value_at entry_at add_duplicate set_entry set_entries ◌>>=◌ asks
  merged_value σ key p v i h =
      let f = found key i h in
      let d : MergingEntry = source 0 0 in
      let e = get_or I.more f.0 d in
      let n = all_at _ I.more f.0 d f.2 I.names in
      merged_with st _ I (set I.more f.0 (with_value v e)) I.more_sets refl refl
      (changed (with_value v) st.entries E I.more i f.0 d I.entries f.1) I.sets (omega arith)
      (all_set _ I.more f.0 (with_value v e) I.names (rw (with_value_set v e, with_value_nested v e) n))
      (once_same (nested_of I.more) (nested_of (set I.more f.0 (with_value v e)))
      (λ g r. let x = nested_set g r I.more f.0 (with_value v e) d f.2 in
      let y : sum_by g (nests (with_value v e) r) ≡ sum_by g (nests e r) = rw (with_value_set v e, with_value_nested v e) in omega arith) I.once)
      (let x = sum_set (own σ) I.more f.0 (with_value v e) d f.2 in let y = with_value_own σ v e in omega arith)

-- ---- a new set, nested in an entry
-- what stood on top knows nothing of it
module _ (low n : ℕ) (more : List MergingEntry) (named : All (NamesSets low n) more) where
  new_ends : nested_of more n ≡ []
  new_ends = nested_none more n (all_map _ _ (λ e x p. let a = x.0.1 in omega arith) more named)

  new_unmet : (r : SetId) → All (λ y. ¬ (y ≡ n)) (nested_of more r)
  new_unmet r = nested_all _ more r (all_map _ _ (λ e x. all_map _ _ (λ t y p. let a = y.1 in omega arith) (one_or_none (nested_in e)) x.1) more named)

module _ {E : List MergingEntry} {Z : List MergingSet} (st : State) (I : Inside E Z st) (s : SetId) (b : Between (length Z) (length st.sets) s) (z : MergingSet) where
  one_longer : length (st.sets ++ (z ∷ [])) ≡ suc (length st.sets)
  one_longer = let h = length-append st.sets (z ∷ []) in omega arith

  still_named : All (NamesSets (length Z) (length (st.sets ++ (z ∷ [])))) I.more
  still_named = let h = one_longer in all_map _ _ (names_more (omega arith) (omega arith)) I.more I.names

  new_named : (e : MergingEntry) → set_of e ≡ s → nested_in e ≡ some (length st.sets) → NamesSets (length Z) (length (st.sets ++ (z ∷ []))) e
  unfolding one_or_none
  new_named e p q =
      let h = one_longer in
      let x = b.0 in
      let y = b.1 in
      rw (p, q) ((omega arith, omega arith), ((omega arith, omega arith), tt))

  more_sets_lem : st.sets ++ (z ∷ []) ≡ Z ++ (I.more_sets ++ (z ∷ []))
  more_sets_lem = ap (λ (zs : List MergingSet). zs ++ (z ∷ [])) I.sets ∙ append_assoc Z I.more_sets (z ∷ [])

  apart : ¬ (s ≡ length st.sets)
  apart p = let y = b.1 in omega arith

  -- in an entry of its own
  pub merged_nested : (σ : Scale) (key : Text) (x : NameId) (st' : State) → st'.exprs ≡ st.exprs → st'.names ≡ st.names
      → st'.sets ≡ st.sets ++ (z ∷ []) → st'.entries ≡ st.entries ++ (static s key x (some (length st.sets)) none ∷ [])
      → Merged σ E Z 0 (σ.of_name x) st st'
  unfolding nested_in one_or_none
  merged_nested σ key x st' exprs_same names_same sets_are entries_are =
      let e : MergingEntry = static s key x (some (length st.sets)) none in
      let h = one_longer in
      merged_with st st' I (I.more ++ (e ∷ [])) (I.more_sets ++ (z ∷ [])) exprs_same names_same
      (entries_are ∙ ap (λ (es : List MergingEntry). es ++ (e ∷ [])) I.entries ∙ append_assoc E I.more (e ∷ []))
      (sets_are ∙ more_sets_lem) (rw sets_are (omega arith))
      (rw sets_are (all_append _ I.more (e ∷ []) still_named (new_named e refl refl, tt)))
      (once_more (nested_of I.more) (nested_of (I.more ++ (e ∷ []))) s (length st.sets) I.once
      (λ g r. let y = nested_append g r I.more (e ∷ []) in let w = sum_append g (nests e r) [] in omega arith)
      (new_ends (length Z) (length st.sets) I.more I.names) apart (new_unmet (length Z) (length st.sets) I.more I.names))
      (let y = sum_append (own σ) I.more (e ∷ []) in omega arith)

  -- in an entry that is there
  pub merged_renested : (σ : Scale) (key : Text) (k i : ℕ) → i ≡ length E + k → k < length I.more → is_at s key (get_or I.more k (source 0 0)) ≡ true
      → nested_in (get_or I.more k (source 0 0)) ≡ none → (st' : State) → st'.exprs ≡ st.exprs → st'.names ≡ st.names
      → st'.sets ≡ st.sets ++ (z ∷ []) → st'.entries ≡ set st.entries i (with_nested (length st.sets) (get_or st.entries i (source 0 0)))
      → Merged σ E Z 0 0 st st'
  unfolding one_or_none
  merged_renested σ key k i at k_in is_at_lem was st' exprs_same names_same sets_are entries_are =
      let d : MergingEntry = source 0 0 in
      let e = get_or I.more k d in
      let n = with_nested (length st.sets) e in
      let in_s = is_at_set s key e is_at_lem in
      let h = one_longer in
      merged_with st st' I (set I.more k n) (I.more_sets ++ (z ∷ [])) exprs_same names_same
      (entries_are ∙ changed (with_nested (length st.sets)) st.entries E I.more i k d I.entries at)
      (sets_are ∙ more_sets_lem) (rw sets_are (omega arith))
      (rw sets_are (all_set _ I.more k n still_named (new_named n (with_nested_set (length st.sets) e ∙ in_s) (with_nested_nested s key (length st.sets) e is_at_lem))))
      (once_more (nested_of I.more) (nested_of (set I.more k n)) s (length st.sets) I.once
      (λ g r. let y = nested_set g r I.more k n d k_in in
      let v : sum_by g (nests e r) ≡ 0 = rw was (nothing (eqb (set_of e) r) g) in
      let w : sum_by g (nests n r) ≡ sum_by g (pick (eqb s r) (length st.sets ∷ []) []) =
      rw (with_nested_set (length st.sets) e, in_s, with_nested_nested s key (length st.sets) e is_at_lem) in
      omega arith)
      (new_ends (length Z) (length st.sets) I.more I.names) apart (new_unmet (length Z) (length st.sets) I.more I.names))
      (let y = sum_set (own σ) I.more k n d k_in in let w = with_nested_own σ (length st.sets) e in omega arith)
    where
      nothing : (c : Bool) (g : SetId → ℕ) → sum_by g (pick c [] []) ≡ 0
      nothing true g = refl
      nothing false g = refl
