-- How many list items, References and entries steps of merging make, from a set's first entry to its bindings. Assumes
-- nothing.
use mathlib.Core.Path.{◌≡◌, refl, ap, ◌∙◌}
use mathlib.Core.Bool.{Bool, true, false}
use mathlib.Core.List.{List}
use mathlib.Core.Option.{Option, none, some}
use Prim.Native.Nat.{ℕ, ◌+◌, ◌≤◌}
use native.Mathlib.Omega.{arith}
use lib.ListN.{length, get_or, take, length-append, length-set}
use lib.Seq.{take-append_seam}
use Rattle.spec.specs.Basics.{Text}
use Rattle.spec.specs.Steps.{◌>>=◌, give, asks, when}
use Rattle.spec.specs.Module.{Pointer, BindingValue, NameKind, PlainAttrset}
use Rattle.spec.specs.State.{SetId, MergingSet, MergingEntry, static, source, State, Low, alloc_name, add_duplicate, new_set, set_entries, add_entry, set_entry, cut, inner}
use Rattle.spec.specs.Merge.{set_of, find, entry_at, nested_in, with_value, with_nested, nested_at, name_key, merge_value_at, merge_static_value, new_nested, nested_or, nested_static_at, get_or_create_nested_static}
use Rattle.spec.proofs.general.ListLaws.{length_snoc}
use Rattle.spec.proofs.general.Sums.{sum_by}
use Rattle.spec.proofs.once.Weights.{Between, Known}
use Rattle.spec.proofs.once.Merging.{Inside, Base, known_inside, nested_between, merged_add}
use Rattle.spec.proofs.once.Linear.{merges_give, merges_value, merges_nested, top_weighs, on_top, begins_empty}
use Rattle.spec.proofs.once.Leaves.{weightless}
use Rattle.spec.proofs.steps.Filling.{list_items, references_in, Filled, Fills, each_one, sum_ones, set_items}
use Rattle.spec.proofs.steps.RoomMerging.{value_exprs, nested_exprs}

-- On top of the entries E and the sets Z: items and entries together at most u more, References v.
pub record Gathered (E : List MergingEntry) (Z : List MergingSet) (u v : ℕ) (st after : State) : Type 0 where
  pub inside : Inside E Z after
  pub grows : length st.sets ≤ length after.sets
  pub items_few : list_items after.exprs + length after.entries ≤ u + (list_items st.exprs + length st.entries)
  pub refs_few : references_in after.exprs ≤ v + references_in st.exprs

-- a step that merges into the set s, whatever stands below
pub record Gathers {A : Type 0} (u v : ℕ) (s : SetId) (p : Low A) : Type 0 where
  pub gathers : (E : List MergingEntry) (Z : List MergingSet) (st : State) → Base E Z → Inside E Z st → Between (length Z) (length st.sets) s
      → Gathered E Z u v st (p st).1

still : {E : List MergingEntry} {Z : List MergingSet} {u v s : ℕ} {st after : State} → Gathered E Z u v st after → Between (length Z) (length st.sets) s
    → Between (length Z) (length after.sets) s
still a b = (b.0, omega (arith, a.grows, b.1))

gathered_then : {E : List MergingEntry} {Z : List MergingSet} {u v u' v' : ℕ} {st mid after : State} → Gathered E Z u v st mid → Gathered E Z u' v' mid after
    → Gathered E Z (u + u') (v + v') st after
gathered_then a b =
    record {
      inside = b.inside;
      grows = omega (arith, a.grows, b.grows);
      items_few = omega (arith, a.items_few, b.items_few);
      refs_few = omega (arith, a.refs_few, b.refs_few);
    }

module _ {s : SetId} where
  pub gathers_then : {A B : Type 0} {u v u' v' : ℕ} {p : Low A} {f : A → Low B} → Gathers u v s p → ((a : A) → Gathers u' v' s (f a))
      → Gathers (u + u') (v + v') s (p >>= f)
  unfolding ◌>>=◌
  gathers_then {p = p} h k =
      record {
        gathers = λ E Z st base I b.
            let a = h.gathers E Z st base I b in
            gathered_then a ((k (p st).0).gathers E Z (p st).1 base a.inside (still a b));
      }

  -- a step that leaves the stacks, and then one that may use what is in hand
  pub gathers_next : {A B : Type 0} {w : A → ℕ} {u v : ℕ} (u' v' : ℕ) {p : Low A} {f : A → Low B} → ((E : List MergingEntry) → Fills E 0 w u v p)
      → ((a : A) → Gathers (w a + u') v' s (f a)) → Gathers (u + u') (v + v') s (p >>= f)
  unfolding ◌>>=◌
  gathers_next {w = w} {u} {v} u' v' {p} {f} h k = record { gathers = λ E Z st base I b. go E Z st base I b ((h st.entries).fills st refl (known_inside base I)) }
    where
      go : (E : List MergingEntry) (Z : List MergingSet) (st : State) → Base E Z → Inside E Z st → Between (length Z) (length st.sets) s
          → Filled 0 w u v st (p st)
          → Gathered E Z (u + u') (v + v') st (f (p st).0 (p st).1).1
      go E Z st base I b a =
          let J : Inside E Z (p st).1 = record {
            more = I.more;
            entries = a.entries ∙ I.entries;
            names = rw a.sets I.names;
            once = I.once;
            more_sets = I.more_sets;
            sets = a.sets ∙ I.sets;
          } in
          let c = (k (p st).0).gathers E Z (p st).1 base J (rw a.sets b) in
          let l : length (p st).1.entries ≡ length st.entries = ap length a.entries in
          record {
            inside = c.inside;
            grows = omega (arith, c.grows, ap length a.sets);
            items_few = omega (arith, a.items_few, c.items_few);
            refs_few = omega (arith, a.refs_few, c.refs_few);
          }

  pub gathers_more : {A : Type 0} {u v : ℕ} {p : Low A} (u' v' : ℕ) → u ≤ u' → v ≤ v' → Gathers u v s p → Gathers u' v' s p
  gathers_more u' v' l k h =
      record {
        gathers = λ E Z st base I b.
            let a = h.gathers E Z st base I b in
            record { inside = a.inside; grows = a.grows; items_few = omega (arith, a.items_few); refs_few = omega (arith, a.refs_few) };
      }

  pub gathers_give : {A : Type 0} (a : A) → Gathers 0 0 s (give a)
  unfolding give
  gathers_give a = record { gathers = λ E Z st base I b. record { inside = I; grows = omega arith; items_few = omega arith; refs_few = omega arith } }

  pub gathers_when : {A : Type 0} {u v : ℕ} {c : Bool} {p q : Low A} → (c ≡ true → Gathers u v s p) → (c ≡ false → Gathers u v s q) → Gathers u v s (when c p q)
  unfolding when
  gathers_when {c = true} f g = f refl
  gathers_when {c = false} f g = g refl

  -- one entry more
  pub gathers_add : (e : MergingEntry) → set_of e ≡ s → nested_in e ≡ none → Gathers 1 0 s (add_entry e)
  unfolding add_entry set_entries ◌>>=◌ asks
  gathers_add e p q =
      record {
        gathers = λ E Z st base I b.
            let m = merged_add {σ = weightless} st I e (rw p b) q in
            record { inside = m.inside; grows = m.grows; items_few = omega (arith, length_snoc st.entries e); refs_few = omega arith };
      }

-- ---- the statics of a set
module _ (s : SetId) (key : Text) (p : Pointer) where
  value_entries : (v : BindingValue) (st : State) (o : Option ℕ) → length (merge_value_at s key p v o st).1.entries ≤ length st.entries + 1
  unfolding merge_value_at name_key alloc_name add_duplicate add_entry set_entry set_entries ◌>>=◌ asks
  value_entries v st none = omega (arith, length_snoc st.entries (static s key (length st.names) none (some v)))
  value_entries v st (some i) = omega (arith, length-set st.entries i (with_value v (entry_at i st)))

  pub gathers_value : (v : BindingValue) → Gathers 1 0 s (merge_static_value s key p v)
  unfolding merge_static_value ◌>>=◌ asks
  gathers_value v =
      record {
        gathers = λ E Z st base I b.
            let m = (merges_value {σ = weightless} key p v).merges E Z st base I b in
            let o = find s key st in
            record {
              inside = m.inside;
              grows = m.grows;
              items_few = rw (value_exprs s key p v st o) (omega (arith, value_entries v st o));
              refs_few = rw (value_exprs s key p v st o) (omega arith);
            };
      }

  or_entries : (st : State) (i : ℕ) (o : Option SetId) → length (nested_or i p o st).1.entries ≤ length st.entries + 1
  unfolding nested_or new_nested new_set set_entry set_entries entry_at give ◌>>=◌ asks
  or_entries st i none = omega (arith, length-set st.entries i (with_nested (length st.sets) (get_or st.entries i (source 0 0))))
  or_entries st i (some t) = omega arith

  nested_entries : (st : State) (o : Option ℕ) → length (nested_static_at s key p o st).1.entries ≤ length st.entries + 1
  unfolding nested_static_at name_key alloc_name new_nested new_set add_entry set_entries give ◌>>=◌ asks
  nested_entries st none = omega (arith, length_snoc st.entries (static s key (length st.names) (some (length st.sets)) none))
  nested_entries st (some i) = or_entries st i (nested_at (some i) st)

  -- the set that is given is one of those on top
  nested_there : (E : List MergingEntry) (Z : List MergingSet) (st : State) → Base E Z → Inside E Z st → Between (length Z) (length st.sets) s
      → (o : Option ℕ) → find s key st ≡ o → Between (length Z) (length (nested_static_at s key p o st).1.sets) (nested_static_at s key p o st).0
  unfolding nested_static_at nested_or name_key alloc_name new_nested new_set add_entry set_entry set_entries nested_at give ◌>>=◌ asks
  nested_there E Z st base I b none h =
      (omega (arith, b.0, b.1), omega (arith, length_snoc st.sets (record { pointer = p; name_kind = PlainAttrset })))
  nested_there E Z st base I b (some i) h = go (nested_at (some i) st) refl
    where
      go : (o : Option SetId) → nested_at (some i) st ≡ o → Between (length Z) (length (nested_or i p o st).1.sets) (nested_or i p o st).0
      go none q = (omega (arith, b.0, b.1), omega (arith, length_snoc st.sets (record { pointer = p; name_kind = PlainAttrset })))
      go (some t) q = nested_between st base I s b key t (ap (λ (o : Option ℕ). nested_at o st) h ∙ q)

  -- get_or_create_nested_static
  made_inside : (E : List MergingEntry) (Z : List MergingSet) (st : State) → Base E Z → Inside E Z st → Between (length Z) (length st.sets) s
      → Inside E Z (get_or_create_nested_static s key p st).1 × (length st.sets ≤ length (get_or_create_nested_static s key p st).1.sets)
  unfolding give ◌>>=◌
  made_inside E Z st base I b =
      let m = (merges_nested {σ = weightless} key p (λ _. give tt) (λ t. merges_give)).merges E Z st base I b in
      (m.inside, m.grows)

  made : (E : List MergingEntry) (Z : List MergingSet) (st : State) → Base E Z → Inside E Z st → Between (length Z) (length st.sets) s
      → Gathered E Z 1 0 st (get_or_create_nested_static s key p st).1
  unfolding get_or_create_nested_static ◌>>=◌ asks
  made E Z st base I b =
      let m = made_inside E Z st base I b in
      let o = find s key st in
      record {
        inside = m.0;
        grows = m.1;
        items_few = rw (nested_exprs s key p st o) (omega (arith, nested_entries st o));
        refs_few = rw (nested_exprs s key p st o) (omega arith);
      }

  made_there : (E : List MergingEntry) (Z : List MergingSet) (st : State) → Base E Z → Inside E Z st → Between (length Z) (length st.sets) s
      → Between (length Z) (length (get_or_create_nested_static s key p st).1.sets) (get_or_create_nested_static s key p st).0
  unfolding get_or_create_nested_static ◌>>=◌ asks
  made_there E Z st base I b = nested_there E Z st base I b (find s key st) refl

  -- and what is merged into the nested set
  pub gathers_nested : {u v : ℕ} (rest : SetId → Low (Unit {0})) → ((t : SetId) → Gathers u v t (rest t))
      → Gathers (1 + u) v s (get_or_create_nested_static s key p >>= rest)
  unfolding ◌>>=◌
  gathers_nested rest g =
      record {
        gathers = λ E Z st base I b.
            let a = made E Z st base I b in
            let r = get_or_create_nested_static s key p st in
            let d = gathered_then a ((g r.0).gathers E Z r.1 base a.inside (made_there E Z st base I b)) in
            record { inside = d.inside; grows = d.grows; items_few = d.items_few; refs_few = omega (arith, d.refs_few) };
      }

-- ---- a set of its own, on top of those that are being merged
-- THEOREM. What is merged into it and finished makes as many items as were gathered, entries and all, and leaves the
-- sets around it as they were.
pub fills_own_set : {A : Type 0} {w : A → ℕ} {u v : ℕ} (k : NameKind) (q : Pointer) (body : SetId → Low (Unit {0})) (fin : SetId → Low A)
    → ((t : SetId) → Gathers u v t (body t))
    → ((E : List MergingEntry) (t : SetId) (st : State) → st.entries ≡ E → Known st → (b : ℕ) × Filled 0 w (set_items E b t) 0 st (fin t st))
    → (E : List MergingEntry) → Fills E 0 w u v (inner (new_set k q >>= λ t. body t >>= λ _. fin t))
unfolding inner new_set cut give ◌>>=◌ asks
fills_own_set {A} {w} {u} {v} k q body fin gather finished E =
    record {
      fills = λ st same known.
          go st known ((gather (length st.sets)).gathers st.entries st.sets (new_set k q st).1 known (begins_empty k q st) (on_top k q st));
    }
  where
    ended : (st st2 : State) (a : A) (st3 : State) (b : ℕ) → Known st → Gathered st.entries st.sets u v (new_set k q st).1 st2
        → Filled 0 w (set_items st2.entries b (length st.sets)) 0 st2 (a, st3) → Filled 0 w u v st (a, (cut (length st.sets) (length st.entries) st3).1)
    ended st st2 a st3 b known m f =
        let I = m.inside in
        let top : set_items st2.entries b (length st.sets) ≤ sum_by each_one I.more =
        rw I.entries (top_weighs each_one st.entries I.more (length st.sets) (length st2.sets) known I.names I.once b (length st.sets) (omega arith)) in
        let l : length st2.entries ≡ length st.entries + length I.more = rw I.entries (length-append st.entries I.more) in
        record {
          entries = ap (λ (es : List MergingEntry). take (length st.entries) es) (f.entries ∙ I.entries) ∙ take-append_seam st.entries I.more;
          sets = ap (λ (zs : List MergingSet). take (length st.sets) zs) (f.sets ∙ I.sets) ∙ take-append_seam st.sets I.more_sets;
          items_few = omega (arith, f.items_few, m.items_few, sum_ones I.more);
          refs_few = omega (arith, f.refs_few, m.refs_few);
        }

    go : (st : State) → Known st → Gathered st.entries st.sets u v (new_set k q st).1 (body (length st.sets) (new_set k q st).1).1
        → Filled 0 w u v st (inner (new_set k q >>= λ t. body t >>= λ _. fin t) st)
    go st known m =
        let st2 : State = (body (length st.sets) (new_set k q st).1).1 in
        let f = finished st2.entries (length st.sets) st2 refl (known_inside known m.inside) in
        ended st st2 (fin (length st.sets) st2).0 (fin (length st.sets) st2).1 f.0 known m f.1
