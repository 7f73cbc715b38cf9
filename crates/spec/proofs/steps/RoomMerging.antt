-- What it adds to merge a static value into a set, and to make a nested set. Assumes nothing.
use mathlib.Core.Path.{◌≡◌, refl, sym, ap, ◌∙◌}
use mathlib.Core.Bool.{Bool, true, false, and-eq-true_iff}
use mathlib.Core.List.{List, [], ◌∷◌}
use mathlib.Core.Option.{Option, none, some}
use Prim.Native.Nat.{ℕ, suc, ◌+◌, ◌≤◌, ◌<◌}
use native.Mathlib.Omega.{arith}
use lib.ListN.{length, get_or, set, length-append}
use lib.Seq.{get_or-take}
use lib.Dec.{eqb, leb}
use borrow.Author.Tests.{eqb-true, leb-true, leb-false}
use Rattle.words.specs.Order.{pick}
use Rattle.spec.specs.Basics.{Text, NameId}
use Rattle.spec.specs.Module.{Pointer, BindingValue, PlainAttrset}
use Rattle.spec.specs.Steps.{◌>>=◌, give, asks}
use Rattle.spec.specs.State.{SetId, MergingSet, MergingEntry, static, source, dynamic, State, Low, alloc_name, add_duplicate, new_set, set_entries, add_entry, set_entry}
use Rattle.spec.specs.Merge.{is_at, find_from, find, entry_at, set_at, name_in, nested_in, with_value, with_nested, nested_at, name_pointer, name_key, merge_value_at, merge_static_value, new_nested, nested_or, nested_static_at, get_or_create_nested_static}
use Rattle.spec.proofs.steps.Forest.{EntryFine, AllFine, nests, NestedOnce, unused}
use Rattle.spec.proofs.steps.Through.{StacksWithin, Through, follow, through_end, through_give, through_asks, through_name, through_duplicate, through_set, through_entry, through_set_entry}
use Rattle.spec.proofs.steps.Adds.{Over, Merged, Merges, merged_then, merges_asks, over_set, merged_entry, merged_set_entry}
use Rattle.spec.proofs.general.Sums.{sum_by, sum_set_le, all_get_d}

-- ---- an entry that was found
found_from : (s : SetId) (key : Text) (j i : ℕ) (es : List MergingEntry) → find_from s key j es ≡ some i → (m : ℕ) × (i ≡ j + m) × (is_at s key (get_or es m (source 0 0)) ≡ true)
unfolding find_from
found_from s key j i [] e = let z : ◌≡◌ {A = ℕ} 0 1 = cc in absurd (omega arith)
found_from s key j i (a ∷ es) e = go (is_at s key a) refl e (found_from s key (suc j) i es)
  where
    go : (t : Bool) → is_at s key a ≡ t → pick t (some j) (find_from s key (suc j) es) ≡ some i → (find_from s key (suc j) es ≡ some i → (m : ℕ) × (i ≡ suc j + m) × (is_at s key (get_or es m (source 0 0)) ≡ true)) → (m : ℕ) × (i ≡ j + m) × (is_at s key (get_or (a ∷ es) m (source 0 0)) ≡ true)
    go true p q r = let z : j ≡ i = cc in (0, omega arith, p)
    go false p q r = let z = r q in (suc z.0, omega (arith, z.1), z.2)

-- the entry that was found has the key in the set
pub found_at_lem : (s : SetId) (key : Text) (st : State) (i : ℕ) → find s key st ≡ some i → is_at s key (entry_at i st) ≡ true
unfolding find entry_at
found_at_lem s key st i e =
    let z = found_from s key 0 i st.entries e in
    let h : i ≡ z.0 = omega (arith, z.1) in
    rw h z.2

at_below : (c s : ℕ) (key : Text) (e : MergingEntry) → is_at s key e ≡ true → EntryFine c e → s < c
unfolding is_at
at_below c s key (static t k x (some u) v) h f = omega (arith, eqb-true t s ((and-eq-true_iff (eqb t s) _).0 h).0)
at_below c s key (static t k x none (some v)) h f = omega (arith, eqb-true t s ((and-eq-true_iff (eqb t s) _).0 h).0)
at_below c s key (static t k x none none) h f = absurd f
at_below c s key (source t e) h f = let z : ◌≡◌ {A = ℕ} 0 1 = cc in absurd (omega arith)
at_below c s key (dynamic t k v) h f = let z : ◌≡◌ {A = ℕ} 0 1 = cc in absurd (omega arith)

at_nested : (c s u : ℕ) (key : Text) (e : MergingEntry) → is_at s key e ≡ true → EntryFine c e → nested_in e ≡ some u → (s < u) × (u < c)
unfolding is_at nested_in
at_nested c s u key (static t k x (some w) v) h f n =
    let z : w ≡ u = cc in
    let y = eqb-true t s ((and-eq-true_iff (eqb t s) _).0 h).0 in
    (omega (arith, f.0), omega (arith, f.1))
at_nested c s u key (static t k x none v) h f n = let z : ◌≡◌ {A = ℕ} 0 1 = cc in absurd (omega arith)
at_nested c s u key (source t e) h f n = let z : ◌≡◌ {A = ℕ} 0 1 = cc in absurd (omega arith)
at_nested c s u key (dynamic t k v) h f n = let z : ◌≡◌ {A = ℕ} 0 1 = cc in absurd (omega arith)

-- ---- an entry that is changed
value_fine : (c : ℕ) (v : BindingValue) (e : MergingEntry) → EntryFine c e → EntryFine c (with_value v e)
unfolding with_value
value_fine c v (static t k x (some u) w) f = f
value_fine c v (static t k x none (some w)) f = f
value_fine c v (static t k x none none) f = absurd f
value_fine c v (source t e) f = f
value_fine c v (dynamic t k w) f = f

value_nests : (k : ℕ) (v : BindingValue) (e : MergingEntry) → nests 1 k (with_value v e) ≤ nests 1 k e + 0
unfolding with_value
value_nests k v (static t key x (some u) w) = omega arith
value_nests k v (static t key x none w) = omega arith
value_nests k v (source t e) = omega arith
value_nests k v (dynamic t a w) = omega arith

nested_fine : (c : ℕ) (e : MergingEntry) → EntryFine c e → nested_in e ≡ none → EntryFine (suc c) (with_nested c e)
unfolding with_nested nested_in
nested_fine c (static t k x (some u) w) f n = let z : ◌≡◌ {A = ℕ} 0 1 = cc in absurd (omega arith)
nested_fine c (static t k x none (some w)) f n = (f, omega arith)
nested_fine c (static t k x none none) f n = absurd f
nested_fine c (source t e) f n = f
nested_fine c (dynamic t k w) f n = f

nested_nests : (c k : ℕ) (e : MergingEntry) → nests 1 k (with_nested c e) ≤ nests 1 k e + pick (eqb c k) 1 0
unfolding with_nested
nested_nests c k (static t key x (some u) w) = omega arith
nested_nests c k (static t key x none w) = omega arith
nested_nests c k (source t e) = omega arith
nested_nests c k (dynamic t a w) = omega arith

-- a set that is not yet there is nested once more
once_more : (c k : ℕ) (es : List MergingEntry) → NestedOnce c es → sum_by (nests 1 k) es + pick (eqb c k) 1 0 ≤ 1
once_more c k es f = go (eqb c k) refl
  where
    go : (b : Bool) → eqb c k ≡ b → sum_by (nests 1 k) es + pick b 1 0 ≤ 1
    go true e = omega (arith, unused c k (omega (arith, eqb-true c k e)) es f.all)
    go false e = omega (arith, f.once k)

entry_fine : (c : ℕ) (st : State) (j : ℕ) → AllFine c st.entries → EntryFine c (entry_at j st)
unfolding entry_at
entry_fine c st j f = all_get_d (EntryFine c) st.entries j (source 0 0) tt f

entry_total : (k n : ℕ) (st : State) (j : ℕ) (e : MergingEntry) → nests 1 k e ≤ nests 1 k (entry_at j st) + n → sum_by (nests 1 k) (set st.entries j e) ≤ sum_by (nests 1 k) st.entries + n
unfolding entry_at
entry_total k n st j e h = sum_set_le (nests 1 k) (source 0 0) n st.entries j e h

-- ---- what the stacks hold on the way
key_through : {l : ℕ} {st : State} (s : SetId) (key : Text) (p : Pointer) → StacksWithin l st → Through l NameId (name_key s key p) st
unfolding name_key
key_through s key p h = through_asks _ _ h (through_name key _ p h)

key_sets : (s : SetId) (key : Text) (p : Pointer) (st : State) → (name_key s key p st).1.sets ≡ st.sets
unfolding name_key ◌>>=◌ asks alloc_name
key_sets s key p st = refl

key_entries : (s : SetId) (key : Text) (p : Pointer) (st : State) → (name_key s key p st).1.entries ≡ st.entries
unfolding name_key ◌>>=◌ asks alloc_name
key_entries s key p st = refl

value_through : (s : SetId) (key : Text) (p : Pointer) (v : BindingValue) (r : Option ℕ) (l : ℕ) (st : State) → length st.sets + 1 ≤ l → length st.entries + 1 ≤ l → Through l (Unit {0}) (merge_value_at s key p v r) st
unfolding merge_value_at
value_through s key p v none l st i j =
    let w = key_through {l = l} {st = st} s key p (record { sets_held = omega arith; entries_held = omega arith }) in
    follow _ w (through_entry _ (through_end w) (rw (key_entries s key p st) j))
value_through s key p v (some n) l st i j =
    let h : StacksWithin l st = record { sets_held = omega arith; entries_held = omega arith } in
    let w = through_duplicate key (name_pointer (name_in (entry_at n st)) st) p h in
    through_asks _ _ h (through_asks _ _ h (follow _ w (through_set_entry n _ (through_end w))))

or_through : (m : ℕ) (p : Pointer) (r : Option SetId) (l : ℕ) (st : State) → length st.sets + 1 ≤ l → length st.entries + 1 ≤ l → Through l SetId (nested_or m p r) st
unfolding nested_or new_nested
or_through m p none l st i j =
    let w = through_set {st = st} PlainAttrset p (record { sets_held = omega arith; entries_held = omega arith }) i in
    let e = with_nested (new_set PlainAttrset p st).0 (entry_at m (new_set PlainAttrset p st).1) in
    let v = through_set_entry m e (through_end w) in
    follow _ w (through_asks _ _ (through_end w) (follow _ v (through_give _ (through_end v))))
or_through m p (some t) l st i j = through_give t (record { sets_held = omega arith; entries_held = omega arith })

nested_through : (s : SetId) (key : Text) (p : Pointer) (r : Option ℕ) (l : ℕ) (st : State) → length st.sets + 1 ≤ l → length st.entries + 1 ≤ l → Through l SetId (nested_static_at s key p r) st
unfolding nested_static_at new_nested new_set
nested_through s key p none l st i j =
    let w = key_through {l = l} {st = st} s key p (record { sets_held = omega arith; entries_held = omega arith }) in
    let a = name_key s key p st in
    let v = through_set {st = a.1} PlainAttrset p (through_end w) (rw (key_sets s key p st) i) in
    let b = new_set PlainAttrset p a.1 in
    let u = through_entry {st = b.1} (static s key a.0 (some b.0) none) (through_end v) (rw (key_entries s key p st) j) in
    follow _ w (follow _ v (follow _ u (through_give _ (through_end u))))
nested_through s key p (some m) l st i j = through_asks _ _ (record { sets_held = omega arith; entries_held = omega arith }) (or_through m p (nested_at (some m) st) l st i j)

module _ {first : List MergingSet} {old : List MergingEntry} where
  -- what is found for a set above the first ones is not among the old entries
  found_late : (s : SetId) (key : Text) (st : State) (i : ℕ) → Over first old st → length first ≤ s → is_at s key (entry_at i st) ≡ true → length old ≤ i
  unfolding entry_at
  found_late s key st i o h a = go (leb (length old) i) refl
    where
      go : (b : Bool) → leb (length old) i ≡ b → length old ≤ i
      go true e = leb-true (length old) i e
      go false e =
          let l = leb-false (length old) i e in
          let z : get_or st.entries i (source 0 0) ≡ get_or old i (source 0 0) = sym (get_or-take (length old) st.entries i (source 0 0) l) ∙ ap (λ (es : List MergingEntry). get_or es i (source 0 0)) o.entries_kept in
          absurd (omega (arith, at_below (length first) s key (get_or old i (source 0 0)) (rw z at a) (all_get_d (EntryFine (length first)) old i (source 0 0) tt o.under)))

  over_same : (st after : State) → after.sets ≡ st.sets → after.entries ≡ st.entries → Over first old st → Over first old after
  over_same st after e f o = record { fine = rw (e, f) o.fine; under = o.under; above = rw e o.above; sets_kept = rw e o.sets_kept; entries_kept = rw f o.entries_kept }

  value_merged : (s : SetId) (key : Text) (p : Pointer) (v : BindingValue) → length first ≤ s → (st : State) → Over first old st → s < length st.sets → (r : Option ℕ) → find s key st ≡ r → Merged first old 0 1 st (merge_value_at s key p v r st).1
  unfolding merge_value_at name_key ◌>>=◌ asks alloc_name add_duplicate add_entry set_entries
  value_merged s key p v h st o i none e =
      let x = alloc_name key (set_at s st).name_kind p st in
      let z = merged_entry (static s key x.0 none (some v)) x.1 (over_same st x.1 refl refl o) i (λ k. omega (arith, o.fine.once k)) in
      record {
        over = z.over;
        exprs_few = z.exprs_few;
        names_few = omega (arith, length-append st.names (record { text = key; kind = (set_at s st).name_kind; pointer = p } ∷ []));
        diagnostics_few = omega (arith, z.diagnostics_few);
        lost_few = omega (arith, z.lost_few);
        sets_few = omega (arith, z.sets_few);
        sets_more = z.sets_more;
        entries_few = z.entries_few;
      }
  value_merged s key p v h st o i (some j) e =
      let a = found_at_lem s key st j e in
      let x = add_duplicate key (name_pointer (name_in (entry_at j st)) st) p st in
      let z = merged_set_entry j (with_value v (entry_at j st)) x.1 (over_same st x.1 refl refl o) (found_late s key st j o h a) (value_fine _ v (entry_at j st) (entry_fine _ st j o.fine.all)) (λ k. omega (arith, o.fine.once k, entry_total k 0 st j (with_value v (entry_at j st)) (value_nests k v (entry_at j st)))) in
      record {
        over = z.over;
        exprs_few = z.exprs_few;
        names_few = omega (arith, z.names_few);
        diagnostics_few = omega (arith, z.diagnostics_few, length-append st.diagnostics (record { key = key; first = name_pointer (name_in (entry_at j st)) st; second = p } ∷ []));
        lost_few = omega (arith, z.lost_few, length-append st.lost (name_pointer (name_in (entry_at j st)) st ∷ []));
        sets_few = omega (arith, z.sets_few);
        sets_more = z.sets_more;
        entries_few = omega (arith, z.entries_few);
      }

  -- A name or a diagnostic, and at most one entry.
  pub value_merges : (s : SetId) (key : Text) (p : Pointer) (v : BindingValue) → length first ≤ s → Merges first old s 0 1 (merge_static_value s key p v)
  unfolding merge_static_value
  value_merges s key p v h = merges_asks (find s key) (merge_value_at s key p v) (λ st o i. value_merged s key p v h st o i (find s key st) refl) (λ l st o i u w. value_through s key p v (find s key st) l st u w)

-- ---- nested sets
-- a step that gives a set above the first ones
pub record Finds (first : List MergingSet) (old : List MergingEntry) (n e x : ℕ) (p : Low SetId) : Type 1 where
  pub from : (st : State) → Over first old st → n < length st.sets → Merged first old e x st (p st).1
  pub above : (st : State) → Over first old st → n < length st.sets → length first ≤ (p st).0
  pub below : (st : State) → Over first old st → n < length st.sets → (p st).0 < length (p st).1.sets
  pub through : (l : ℕ) (st : State) → Over first old st → n < length st.sets → length st.sets + x ≤ l → length st.entries + x ≤ l → Through l SetId p st

-- what such a step gives from one state
record Nested (first : List MergingSet) (old : List MergingEntry) (st : State) (r : SetId × State) : Type 0 where
  merged : Merged first old 1 1 st r.1
  above : length first ≤ r.0
  below : r.0 < length r.1.sets

module _ {first : List MergingSet} {old : List MergingEntry} where
  -- and then a step into that set
  pub finds_then : {A : Type 0} {n e x e' x' : ℕ} {p : Low SetId} {f : SetId → Low A} → Finds first old n e x p → ((t : SetId) → length first ≤ t → Merges first old t e' x' (f t)) → Merges first old n (e + e') (x + x') (p >>= f)
  unfolding ◌>>=◌
  finds_then {p = p} {f = f} w k = record {
    from = λ st o i.
        let y = w.from st o i in
        merged_then y ((k (p st).0 (w.above st o i)).from (p st).1 y.over (w.below st o i));
    through = λ l st o i u v.
        let y = w.from st o i in
        follow f (w.through l st o i (omega arith) (omega arith)) ((k (p st).0 (w.above st o i)).through l (p st).1 y.over (w.below st o i) (omega (arith, y.sets_few)) (omega (arith, y.entries_few)));
  }

  nested_or_lem : (s : SetId) (key : Text) (p : Pointer) → length first ≤ s → (st : State) → Over first old st → (j : ℕ) → is_at s key (entry_at j st) ≡ true → (r : Option SetId) → nested_in (entry_at j st) ≡ r → Nested first old st (nested_or j p r st)
  unfolding nested_or new_nested new_set ◌>>=◌ asks give set_entry set_entries entry_at
  nested_or_lem s key p h st o j a none n =
      let c = length st.sets in
      let l : length (new_set PlainAttrset p st).1.sets ≡ suc c = omega (arith, length-append st.sets (record { pointer = p; name_kind = PlainAttrset } ∷ [])) in
      let f : EntryFine c (entry_at j st) = entry_fine c st j o.fine.all in
      let g : EntryFine (length (new_set PlainAttrset p st).1.sets) (with_nested c (entry_at j st)) = rw l (nested_fine c (entry_at j st) f n) in
      let z = merged_set_entry j (with_nested c (entry_at j st)) (new_set PlainAttrset p st).1 (over_set PlainAttrset p st o) (found_late s key st j o h a) g
      (λ k. omega (arith, once_more c k st.entries o.fine, entry_total k (pick (eqb c k) 1 0) st j (with_nested c (entry_at j st)) (nested_nests c k (entry_at j st)))) in
      record {
        merged = record {
          over = z.over;
          exprs_few = omega (arith, z.exprs_few);
          names_few = omega arith;
          diagnostics_few = omega arith;
          lost_few = omega arith;
          sets_few = omega arith;
          sets_more = omega arith;
          entries_few = omega (arith, z.entries_few);
        };
        above = o.above;
        below = omega arith;
      }
  nested_or_lem s key p h st o j a (some t) n =
      let z = at_nested (length st.sets) s t key (entry_at j st) a (entry_fine (length st.sets) st j o.fine.all) n in
      record {
        merged = record {
          over = o;
          exprs_few = omega arith;
          names_few = omega arith;
          diagnostics_few = omega arith;
          lost_few = omega arith;
          sets_few = omega arith;
          sets_more = omega arith;
          entries_few = omega arith;
        };
        above = omega (arith, z.0);
        below = z.1;
      }

  nested_at_lem : (s : SetId) (key : Text) (p : Pointer) → length first ≤ s → (st : State) → Over first old st → s < length st.sets → (r : Option ℕ) → find s key st ≡ r → Nested first old st (nested_static_at s key p r st)
  unfolding nested_static_at name_key new_nested new_set ◌>>=◌ asks give alloc_name add_entry set_entries nested_at
  nested_at_lem s key p h st o i none e =
      let c = length st.sets in
      let l : length (new_set PlainAttrset p st).1.sets ≡ suc c = omega (arith, length-append st.sets (record { pointer = p; name_kind = PlainAttrset } ∷ [])) in
      let x = alloc_name key (set_at s st).name_kind p st in
      let y = (new_set PlainAttrset p x.1).1 in
      let z = merged_entry (static s key x.0 (some c) none) y (over_set PlainAttrset p x.1 (over_same st x.1 refl refl o)) (i, omega arith) (λ k. once_more c k st.entries o.fine) in
      record {
        merged = record {
          over = z.over;
          exprs_few = omega (arith, z.exprs_few);
          names_few = omega (arith, length-append st.names (record { text = key; kind = (set_at s st).name_kind; pointer = p } ∷ []));
          diagnostics_few = omega arith;
          lost_few = omega arith;
          sets_few = omega arith;
          sets_more = omega arith;
          entries_few = z.entries_few;
        };
        above = o.above;
        below = omega arith;
      }
  nested_at_lem s key p h st o i (some j) e = nested_or_lem s key p h st o j (found_at_lem s key st j e) (nested_in (entry_at j st)) refl

  -- A set, which counts as an expression, at most one name and at most one entry.
  pub nested_finds : (s : SetId) (key : Text) (p : Pointer) → length first ≤ s → Finds first old s 1 1 (get_or_create_nested_static s key p)
  unfolding get_or_create_nested_static ◌>>=◌ asks
  nested_finds s key p h = record {
    from = λ st o i. (nested_at_lem s key p h st o i (find s key st) refl).merged;
    above = λ st o i. (nested_at_lem s key p h st o i (find s key st) refl).above;
    below = λ st o i. (nested_at_lem s key p h st o i (find s key st) refl).below;
    through = λ l st o i u v. through_asks (find s key) (nested_static_at s key p) (record { sets_held = omega arith; entries_held = omega arith }) (nested_through s key p (find s key st) l st u v);
  }

  -- the nested set that is there for a key is above the first ones, and one of the sets
  pub nested_there : (s : SetId) (key : Text) (st : State) (t : SetId) → Over first old st → length first ≤ s → nested_at (find s key st) st ≡ some t → (length first ≤ t) × (t < length st.sets)
  unfolding nested_at
  nested_there s key st t o h e = go (find s key st) refl e
    where
      go : (r : Option ℕ) → find s key st ≡ r → nested_at r st ≡ some t → (length first ≤ t) × (t < length st.sets)
      go none f e = let z : ◌≡◌ {A = ℕ} 0 1 = cc in absurd (omega arith)
      go (some j) f e =
          let z = at_nested (length st.sets) s t key (entry_at j st) (found_at_lem s key st j f) (entry_fine (length st.sets) st j o.fine.all) e in
          (omega (arith, z.0), z.1)

-- ---- neither adds an expression
pub value_exprs : (s : SetId) (key : Text) (p : Pointer) (v : BindingValue) (st : State) (r : Option ℕ) → (merge_value_at s key p v r st).1.exprs ≡ st.exprs
unfolding merge_value_at name_key ◌>>=◌ asks alloc_name add_duplicate add_entry set_entry set_entries
value_exprs s key p v st none = refl
value_exprs s key p v st (some j) = refl

or_exprs : (m : ℕ) (p : Pointer) (st : State) (r : Option SetId) → (nested_or m p r st).1.exprs ≡ st.exprs
unfolding nested_or new_nested new_set ◌>>=◌ asks give set_entry set_entries
or_exprs m p st none = refl
or_exprs m p st (some t) = refl

pub nested_exprs : (s : SetId) (key : Text) (p : Pointer) (st : State) (r : Option ℕ) → (nested_static_at s key p r st).1.exprs ≡ st.exprs
unfolding nested_static_at name_key new_nested new_set ◌>>=◌ asks give alloc_name add_entry set_entries
nested_exprs s key p st none = refl
nested_exprs s key p st (some j) = or_exprs j p st (nested_at (some j) st)
