-- What steps of lowering add: expressions, names, diagnostics with their lost entries, and sets and entries that are
-- being merged. Assumes nothing.
use mathlib.Core.Path.{◌≡◌, refl, ap, ◌∙◌}
use mathlib.Core.Bool.{Bool, true, false}
use mathlib.Core.List.{List, [], ◌∷◌}
use Prim.Native.Nat.{ℕ, suc, ◌+◌, ◌-◌, ◌≤◌, ◌<◌}
use native.Mathlib.Omega.{arith}
use lib.ListN.{length, take, set, length-append, length-take, length-set}
use lib.Seq.{take-append-le, take-length, take-set-le}
use Rattle.spec.specs.Basics.{Text}
use Rattle.spec.specs.Module.{Pointer, Expr, Made, NameKind}
use Rattle.spec.specs.Steps.{◌>>=◌, give, asks, when, each}
use Rattle.spec.specs.State.{SetId, MergingSet, MergingEntry, State, Low, new_made, alloc_expr, alloc_missing, alloc_name, new_set, set_entries, add_entry, set_entry, cut, inner}
use Rattle.spec.proofs.steps.Through.{StacksWithin, Through, follow, through_give, through_asks, through_made, through_name, through_set, through_inner}
use Rattle.spec.proofs.steps.Forest.{EntryFine, AllFine, nests, NestedOnce, all_more}
use Rattle.spec.proofs.general.Sums.{sum_by, sum_append, all_append, all_set}

-- ---- Steps that leave both stacks as they were
-- at most e expressions more, and x of each of the others
pub record Added (e x : ℕ) (st after : State) : Type 0 where
  pub exprs_few : length after.exprs ≤ length st.exprs + e
  pub names_few : length after.names ≤ length st.names + x
  pub diagnostics_few : length after.diagnostics ≤ length st.diagnostics + x
  pub lost_few : length after.lost ≤ length st.lost + x
  pub sets_same : after.sets ≡ st.sets
  pub entries_same : after.entries ≡ st.entries

-- Wherever the stacks are ss and es, the step adds at most so much and leaves them; on the way it puts at most x + y
-- more on each.
pub record Adds {A : Type 0} (ss : List MergingSet) (es : List MergingEntry) (y e x : ℕ) (p : Low A) : Type 1 where
  pub from : (st : State) → st.sets ≡ ss → st.entries ≡ es → Added e x st (p st).1
  pub through : (l : ℕ) → length ss + (x + y) ≤ l → length es + (x + y) ≤ l → (st : State) → st.sets ≡ ss → st.entries ≡ es → Through l A p st

held : {ss : List MergingSet} {es : List MergingEntry} (x l : ℕ) → length ss + x ≤ l → length es + x ≤ l → (st : State) → st.sets ≡ ss → st.entries ≡ es → StacksWithin l st
held x l u v st i j = record { sets_held = rw i (omega arith); entries_held = rw j (omega arith) }

module _ {ss : List MergingSet} {es : List MergingEntry} {y : ℕ} where
  pub adds_give : {A : Type 0} (a : A) → Adds ss es y 0 0 (give a)
  unfolding give
  adds_give a = record {
    from = λ st p q. record { exprs_few = omega arith; names_few = omega arith; diagnostics_few = omega arith; lost_few = omega arith; sets_same = refl; entries_same = refl };
    through = λ l u v st i j. through_give a (held (0 + y) l u v st i j);
  }

  -- allowed more
  pub adds_more : {A : Type 0} {e x : ℕ} {p : Low A} (e' x' : ℕ) → e ≤ e' → x ≤ x' → Adds ss es y e x p → Adds ss es y e' x' p
  adds_more e' x' h k w = record {
    from = λ st p q.
        let z = w.from st p q in
        record { exprs_few = omega (arith, z.exprs_few); names_few = omega (arith, z.names_few); diagnostics_few = omega (arith, z.diagnostics_few); lost_few = omega (arith, z.lost_few); sets_same = z.sets_same; entries_same = z.entries_same };
    through = λ l u v st i j. w.through l (omega arith) (omega arith) st i j;
  }

  -- one step and then another
  pub adds_then : {A B : Type 0} {e x e' x' : ℕ} {p : Low A} {f : A → Low B} → Adds ss es y e x p → ((a : A) → Adds ss es y e' x' (f a)) → Adds ss es y (e + e') (x + x') (p >>= f)
  unfolding ◌>>=◌
  adds_then {p = p} {f = f} w k = record {
    from = λ st i j.
        let y = w.from st i j in
        let z = (k (p st).0).from (p st).1 (y.sets_same ∙ i) (y.entries_same ∙ j) in
        record {
          exprs_few = omega (arith, y.exprs_few, z.exprs_few);
          names_few = omega (arith, y.names_few, z.names_few);
          diagnostics_few = omega (arith, y.diagnostics_few, z.diagnostics_few);
          lost_few = omega (arith, y.lost_few, z.lost_few);
          sets_same = z.sets_same ∙ y.sets_same;
          entries_same = z.entries_same ∙ y.entries_same;
        };
    through = λ l u v st i j.
        let y = w.from st i j in
        follow f (w.through l (omega arith) (omega arith) st i j) ((k (p st).0).through l (omega arith) (omega arith) (p st).1 (y.sets_same ∙ i) (y.entries_same ∙ j));
  }

  pub adds_when : {A : Type 0} {c : Bool} {e x : ℕ} {p q : Low A} → (c ≡ true → Adds ss es y e x p) → (c ≡ false → Adds ss es y e x q) → Adds ss es y e x (when c p q)
  unfolding when
  adds_when {c = true} f g = f refl
  adds_when {c = false} f g = g refl

  -- what is asked and then done with it
  pub adds_asks : {A B : Type 0} {e x : ℕ} (g : State → A) (f : A → Low B) → ((st : State) → st.sets ≡ ss → st.entries ≡ es → Adds ss es y e x (f (g st))) → Adds ss es y e x (asks g >>= f)
  unfolding ◌>>=◌ asks
  adds_asks {x = x} g f k = record {
    from = λ st i j. (k st i j).from st i j;
    through = λ l u v st i j. through_asks g f (held (x + y) l u v st i j) ((k st i j).through l u v st i j);
  }

  -- a step for each item, w and v being what the item may add
  pub adds_each : {A B : Type 0} (w v : A → ℕ) {f : A → Low B} → ((a : A) → Adds ss es y (w a) (v a) (f a)) → (l : List A) → Adds ss es y (sum_by w l) (sum_by v l) (each f l)
  unfolding each
  adds_each w v h [] = adds_give []
  adds_each w v h (a ∷ l) = adds_more _ _ (omega arith) (omega arith) (adds_then (h a) λ b. adds_then (adds_each w v h l) λ bs. adds_give (b ∷ bs))

  adds_made : (m : Made) → Adds ss es y 1 0 (new_made m)
  unfolding new_made
  adds_made m = record {
    from = λ st i j. record { exprs_few = simp length-append (omega arith); names_few = omega arith; diagnostics_few = omega arith; lost_few = omega arith; sets_same = refl; entries_same = refl };
    through = λ l u v st i j. through_made m (held (0 + y) l u v st i j);
  }

  pub adds_expr : (e : Expr) (p : Pointer) → Adds ss es y 1 0 (alloc_expr e p)
  unfolding alloc_expr
  adds_expr e p = adds_made _

  pub adds_missing : Adds ss es y 1 0 alloc_missing
  unfolding alloc_missing
  adds_missing = adds_made _

  pub adds_name : (t : Text) (k : NameKind) (p : Pointer) → Adds ss es y 0 1 (alloc_name t k p)
  unfolding alloc_name
  adds_name t k p = record {
    from = λ st i j. record { exprs_few = omega arith; names_few = simp length-append (omega arith); diagnostics_few = omega arith; lost_few = omega arith; sets_same = refl; entries_same = refl };
    through = λ l u v st i j. through_name t k p (held (1 + y) l u v st i j);
  }

-- ---- Steps that merge into sets above those that were there: on top of `first` and `old`
pub record Over (first : List MergingSet) (old : List MergingEntry) (st : State) : Type 0 where
  pub fine : NestedOnce (length st.sets) st.entries
  pub under : AllFine (length first) old
  pub above : length first ≤ length st.sets
  pub sets_kept : take (length first) st.sets ≡ first
  pub entries_kept : take (length old) st.entries ≡ old

-- A set that is made counts as an expression, since to finish it takes one: at most e of both more, and x of each of
-- the others.
pub record Merged (first : List MergingSet) (old : List MergingEntry) (e x : ℕ) (st after : State) : Type 0 where
  pub over : Over first old after
  pub exprs_few : length after.exprs + length after.sets ≤ length st.exprs + length st.sets + e
  pub names_few : length after.names ≤ length st.names + x
  pub diagnostics_few : length after.diagnostics ≤ length st.diagnostics + x
  pub lost_few : length after.lost ≤ length st.lost + x
  pub sets_few : length after.sets ≤ length st.sets + x
  pub sets_more : length st.sets ≤ length after.sets
  pub entries_few : length after.entries ≤ length st.entries + x

-- Wherever there is a set numbered n, the step adds at most so much, on the way too.
pub record Merges {A : Type 0} (first : List MergingSet) (old : List MergingEntry) (n e x : ℕ) (p : Low A) : Type 1 where
  pub from : (st : State) → Over first old st → n < length st.sets → Merged first old e x st (p st).1
  pub through : (l : ℕ) (st : State) → Over first old st → n < length st.sets → length st.sets + x ≤ l → length st.entries + x ≤ l → Through l A p st

-- one change and then another
pub merged_then : {first : List MergingSet} {old : List MergingEntry} {e x e' x' : ℕ} {st mid after : State} → Merged first old e x st mid → Merged first old e' x' mid after → Merged first old (e + e') (x + x') st after
merged_then y z = record {
  over = z.over;
  exprs_few = omega (arith, y.exprs_few, z.exprs_few);
  names_few = omega (arith, y.names_few, z.names_few);
  diagnostics_few = omega (arith, y.diagnostics_few, z.diagnostics_few);
  lost_few = omega (arith, y.lost_few, z.lost_few);
  sets_few = omega (arith, y.sets_few, z.sets_few);
  sets_more = omega (arith, y.sets_more, z.sets_more);
  entries_few = omega (arith, y.entries_few, z.entries_few);
}

pub merged_more : {first : List MergingSet} {old : List MergingEntry} {e x : ℕ} {st after : State} (e' x' : ℕ) → e ≤ e' → x ≤ x' → Merged first old e x st after → Merged first old e' x' st after
merged_more e' x' h k z = record {
  over = z.over;
  exprs_few = omega (arith, z.exprs_few);
  names_few = omega (arith, z.names_few);
  diagnostics_few = omega (arith, z.diagnostics_few);
  lost_few = omega (arith, z.lost_few);
  sets_few = omega (arith, z.sets_few);
  sets_more = z.sets_more;
  entries_few = omega (arith, z.entries_few);
}

module _ {first : List MergingSet} {old : List MergingEntry} where
  pub merges_more : {A : Type 0} {n e x : ℕ} {p : Low A} (e' x' : ℕ) → e ≤ e' → x ≤ x' → Merges first old n e x p → Merges first old n e' x' p
  merges_more e' x' h k w = record {
    from = λ st o i. merged_more e' x' h k (w.from st o i);
    through = λ l st o i u v. w.through l st o i (omega arith) (omega arith);
  }

  pub merges_then : {A B : Type 0} {n e x e' x' : ℕ} {p : Low A} {f : A → Low B} → Merges first old n e x p → ((a : A) → Merges first old n e' x' (f a)) → Merges first old n (e + e') (x + x') (p >>= f)
  unfolding ◌>>=◌
  merges_then {p = p} {f = f} w k = record {
    from = λ st o i.
        let y = w.from st o i in
        merged_then y ((k (p st).0).from (p st).1 y.over (omega (arith, y.sets_more)));
    through = λ l st o i u v.
        let y = w.from st o i in
        follow f (w.through l st o i (omega arith) (omega arith)) ((k (p st).0).through l (p st).1 y.over (omega (arith, y.sets_more)) (omega (arith, y.sets_few)) (omega (arith, y.entries_few)));
  }

  pub merges_when : {A : Type 0} {c : Bool} {n e x : ℕ} {p q : Low A} → (c ≡ true → Merges first old n e x p) → (c ≡ false → Merges first old n e x q) → Merges first old n e x (when c p q)
  unfolding when
  merges_when {c = true} f g = f refl
  merges_when {c = false} f g = g refl

  pub merges_asks : {A B : Type 0} {n e x : ℕ} (g : State → A) (f : A → Low B) → ((st : State) → Over first old st → n < length st.sets → Merged first old e x st (f (g st) st).1) → ((l : ℕ) (st : State) → Over first old st → n < length st.sets → length st.sets + x ≤ l → length st.entries + x ≤ l → Through l B (f (g st)) st) → Merges first old n e x (asks g >>= f)
  unfolding ◌>>=◌ asks
  merges_asks g f k t = record {
    from = λ st o i. k st o i;
    through = λ l st o i u v. through_asks g f (record { sets_held = omega arith; entries_held = omega arith }) (t l st o i u v);
  }

  pub merges_give : {A : Type 0} {n : ℕ} (a : A) → Merges first old n 0 0 (give a)
  unfolding give
  merges_give a = record {
    from = λ st o i. record { over = o; exprs_few = omega arith; names_few = omega arith; diagnostics_few = omega arith; lost_few = omega arith; sets_few = omega arith; sets_more = omega arith; entries_few = omega arith };
    through = λ l st o i u v. through_give a (record { sets_held = omega arith; entries_held = omega arith });
  }

  -- a step that leaves the stacks, and then one for which there is a place more
  pub merges_after : {A B : Type 0} {n e x e' x' : ℕ} {p : Low A} {f : A → Low B} → 1 ≤ x' → ((ss : List MergingSet) (es : List MergingEntry) → NestedOnce (length ss) es → Adds ss es 1 e x p) → ((a : A) → Merges first old n e' x' (f a)) → Merges first old n (e + e') (x + x') (p >>= f)
  unfolding ◌>>=◌
  merges_after {n = n} {e = e} {x = x} {p = p} {f = f} h k m = record {
    from = λ st o i. let y = added st o in merged_then y ((m (p st).0).from (p st).1 y.over (omega (arith, y.sets_more)));
    through = λ l st o i u v.
        let y = added st o in
        let z = (k st.sets st.entries o.fine).from st refl refl in
        follow f ((k st.sets st.entries o.fine).through l (omega arith) (omega arith) st refl refl)
        ((m (p st).0).through l (p st).1 y.over (omega (arith, y.sets_more)) (rw z.sets_same (omega arith)) (rw z.entries_same (omega arith)));
  }
    where
      added : (st : State) → Over first old st → Merged first old e x st (p st).1
      added st o =
          let z = (k st.sets st.entries o.fine).from st refl refl in
          record {
            over = record { fine = rw (z.sets_same, z.entries_same) o.fine; under = o.under; above = rw z.sets_same o.above; sets_kept = rw z.sets_same o.sets_kept; entries_kept = rw z.entries_same o.entries_kept };
            exprs_few = rw z.sets_same (omega (arith, z.exprs_few));
            names_few = z.names_few;
            diagnostics_few = z.diagnostics_few;
            lost_few = z.lost_few;
            sets_few = rw z.sets_same (omega arith);
            sets_more = rw z.sets_same (omega arith);
            entries_few = rw z.entries_same (omega arith);
          }

  -- ---- the stacks themselves
  old_fits : (st : State) → Over first old st → length old ≤ length st.entries
  old_fits st o = omega (arith, length-take (length old) st.entries, ap length o.entries_kept)

  -- a set more leaves all below as it was
  pub over_set : (k : NameKind) (p : Pointer) (st : State) → Over first old st → Over first old (new_set k p st).1
  unfolding new_set
  over_set k p st o = record {
    fine = record { all = all_more _ _ (simp length-append (omega arith)) st.entries o.fine.all; once = o.fine.once };
    under = o.under;
    above = simp length-append (omega (arith, o.above));
    sets_kept = take-append-le (length first) st.sets _ o.above ∙ o.sets_kept;
    entries_kept = o.entries_kept;
  }

  pub merged_set : (k : NameKind) (p : Pointer) (st : State) → Over first old st → Merged first old 1 1 st (new_set k p st).1
  merged_set k p st o = record {
    over = over_set k p st o;
    exprs_few = unfold new_set in simp length-append (omega arith);
    names_few = unfold new_set in omega arith;
    diagnostics_few = unfold new_set in omega arith;
    lost_few = unfold new_set in omega arith;
    sets_few = unfold new_set in simp length-append (omega arith);
    sets_more = unfold new_set in simp length-append (omega arith);
    entries_few = unfold new_set in omega arith;
  }

  -- one entry more, whose nested set is nested nowhere else
  pub merged_entry : (e : MergingEntry) (st : State) → Over first old st → EntryFine (length st.sets) e → ((k : ℕ) → sum_by (nests 1 k) st.entries + nests 1 k e ≤ 1) → Merged first old 0 1 st (add_entry e st).1
  unfolding add_entry set_entries ◌>>=◌ asks
  merged_entry e st o f g = record {
    over = record {
      fine = record { all = all_append _ st.entries (e ∷ []) o.fine.all (f, tt); once = λ k. rw (sum_append (nests 1 k) st.entries (e ∷ [])) (omega (arith, g k)) };
      under = o.under;
      above = o.above;
      sets_kept = o.sets_kept;
      entries_kept = take-append-le (length old) st.entries _ (old_fits st o) ∙ o.entries_kept;
    };
    exprs_few = omega arith;
    names_few = omega arith;
    diagnostics_few = omega arith;
    lost_few = omega arith;
    sets_few = omega arith;
    sets_more = omega arith;
    entries_few = simp length-append (omega arith);
  }

  -- another entry in the place of one that is not among the old ones
  pub merged_set_entry : (i : ℕ) (e : MergingEntry) (st : State) → Over first old st → length old ≤ i → EntryFine (length st.sets) e → ((k : ℕ) → sum_by (nests 1 k) (set st.entries i e) ≤ 1) → Merged first old 0 0 st (set_entry i e st).1
  unfolding set_entry set_entries ◌>>=◌ asks
  merged_set_entry i e st o h f g = record {
    over = record {
      fine = record { all = all_set _ st.entries i e o.fine.all f; once = g };
      under = o.under;
      above = o.above;
      sets_kept = o.sets_kept;
      entries_kept = take-set-le (length old) st.entries i e h ∙ o.entries_kept;
    };
    exprs_few = omega arith;
    names_few = omega arith;
    diagnostics_few = omega arith;
    lost_few = omega arith;
    sets_few = omega arith;
    sets_more = omega arith;
    entries_few = rw (length-set st.entries i e) (omega arith);
  }

started : {ss : List MergingSet} {es : List MergingEntry} → NestedOnce (length ss) es → (st : State) → st.sets ≡ ss → st.entries ≡ es → Over st.sets st.entries st
started fine st i j = record { fine = rw (i, j) fine; under = rw (i, j) fine.all; above = omega arith; sets_kept = take-length st.sets; entries_kept = take-length st.entries }

own_set_through : {A : Type 0} {ss : List MergingSet} {es : List MergingEntry} (e x c : ℕ) (k : NameKind) (p : Pointer) (q : SetId → Low (Unit {0})) (end : SetId → Low A)
    → NestedOnce (length ss) es
    → ((first : List MergingSet) (old : List MergingEntry) (s : SetId) → length first ≤ s → Merges first old s e x (q s))
    → ((first : List MergingSet) (old : List MergingEntry) (s : SetId) → NestedOnce (length first) old → s < length first → Adds first old 0 (length first - suc s + c) 0 (end s))
    → (l : ℕ) → length ss + (x + 1) ≤ l → length es + (x + 1) ≤ l → (st : State) → st.sets ≡ ss → st.entries ≡ es → Through l A (inner (new_set k p >>= λ s. q s >>= λ _. end s)) st
unfolding new_set
own_set_through {ss = ss} {es = es} e x c k p q end fine into ends l u v st i j =
    let o = merged_set k p st (started fine st i j) in
    let a = (new_set k p st).1 in
    let n : length a.sets ≡ length st.sets + 1 = length-append st.sets _ in
    let ls : length st.sets ≡ length ss = ap length i in
    let le : length st.entries ≡ length es = ap length j in
    let s = (new_set k p st).0 in
    let w = into st.sets st.entries s (omega arith) in
    let y = w.from a o.over (omega arith) in
    let b = (q s a).1 in
    let f = ends b.sets b.entries s y.over.fine (omega (arith, y.sets_more)) in
    let h = held (x + 1) l u v st i j in
    through_inner h (follow _ (through_set k p h (omega arith)) (follow _ (w.through l a o.over (omega arith) (omega arith) (omega arith)) (f.through l (omega (arith, y.sets_few)) (omega (arith, y.entries_few)) b refl refl)))

-- A set of its own: it is merged into, and then finished with an expression at most for each set after it, and c
-- besides; the stacks are cut back.
pub adds_own_set : {A : Type 0} {ss : List MergingSet} {es : List MergingEntry} (e x c : ℕ) (k : NameKind) (p : Pointer) (q : SetId → Low (Unit {0})) (end : SetId → Low A)
    → NestedOnce (length ss) es
    → ((first : List MergingSet) (old : List MergingEntry) (s : SetId) → length first ≤ s → Merges first old s e x (q s))
    → ((first : List MergingSet) (old : List MergingEntry) (s : SetId) → NestedOnce (length first) old → s < length first → Adds first old 0 (length first - suc s + c) 0 (end s))
    → Adds ss es 1 (e + c) x (inner (new_set k p >>= λ s. q s >>= λ _. end s))
unfolding inner ◌>>=◌ asks cut give new_set
adds_own_set {ss = ss} {es = es} e x c k p q end fine into ends = record {
  from = λ st i j.
      let u = merged_set k p st (started fine st i j) in
      let a = (new_set k p st).1 in
      let l : length a.sets ≡ length st.sets + 1 = length-append st.sets _ in
      let s = (new_set k p st).0 in
      let y = (into st.sets st.entries s (omega arith)).from a u.over (omega arith) in
      let b = (q s a).1 in
      let z = (ends b.sets b.entries s y.over.fine (omega (arith, y.sets_more))).from b refl refl in
      record {
        exprs_few = omega (arith, y.exprs_few, z.exprs_few, u.exprs_few, y.sets_more);
        names_few = omega (arith, y.names_few, z.names_few);
        diagnostics_few = omega (arith, y.diagnostics_few, z.diagnostics_few);
        lost_few = omega (arith, y.lost_few, z.lost_few);
        sets_same = rw z.sets_same y.over.sets_kept;
        entries_same = rw z.entries_same y.over.entries_kept;
      };
  through = λ l u v st i j. own_set_through e x c k p q end fine into ends l u v st i j;
}
