-- How much the stacks hold in each of the states that a step of lowering goes through. Assumes nothing.
use mathlib.Core.List.{List, [], ◌∷◌, ◌++◌}
use Prim.Native.Nat.{ℕ, ◌+◌, ◌≤◌}
use native.Mathlib.Omega.{arith}
use lib.ListN.{length, set, length-append, length-take, length-set}
use Rattle.spec.specs.Basics.{Text, ExprId, NameId}
use Rattle.spec.specs.Module.{Pointer, Made, NameKind}
use Rattle.spec.specs.Steps.{◌>>=◌, give, asks}
use Rattle.spec.specs.State.{SetId, MergingEntry, State, Low, new_made, alloc_name, add_duplicate, new_set, set_entries, add_entry, set_entry, cut, inner}

-- neither stack holds more than l
pub record StacksWithin (l : ℕ) (st : State) : Type 0 where
  pub sets_held : length st.sets ≤ l
  pub entries_held : length st.entries ≤ l

-- the steps that the others are made of
pub data Primitive : (A : Type 0) → Low A → Type 1 where
  giving : {A : Type 0} (a : A) → Primitive A (give a)
  asking : {A : Type 0} (f : State → A) → Primitive A (asks f)
  making : (m : Made) → Primitive ExprId (new_made m)
  naming : (t : Text) (k : NameKind) (p : Pointer) → Primitive NameId (alloc_name t k p)
  telling : (t : Text) (p q : Pointer) → Primitive (Unit {0}) (add_duplicate t p q)
  opening : (k : NameKind) (p : Pointer) → Primitive SetId (new_set k p)
  writing : (es : List MergingEntry) → Primitive (Unit {0}) (set_entries es)
  cutting : (s e : ℕ) → Primitive (Unit {0}) (cut s e)

-- From st, the step goes from primitive step to primitive step, and neither stack ever holds more than l.
pub data Through (l : ℕ) : (A : Type 0) → Low A → State → Type 1 where
  step : {A : Type 0} {p : Low A} {st : State} → Primitive A p → StacksWithin l st → StacksWithin l (p st).1 → Through l A p st
  follow : {A B : Type 0} {p : Low A} {st : State} (f : A → Low B) → Through l A p st → Through l B (f (p st).0) (p st).1 → Through l B (p >>= f) st

-- the last of them
pub through_end : {l : ℕ} {A : Type 0} {p : Low A} {st : State} → Through l A p st → StacksWithin l (p st).1
unfolding ◌>>=◌
through_end (step s h k) = k
through_end (follow f w v) = through_end v

-- ---- the primitive steps, and those on entries
pub through_give : {l : ℕ} {A : Type 0} {st : State} (a : A) → StacksWithin l st → Through l A (give a) st
unfolding give
through_give a h = step (giving a) h h

-- a question, and then a step with its answer
pub through_asks : {l : ℕ} {A B : Type 0} {st : State} (g : State → A) (f : A → Low B) → StacksWithin l st → Through l B (f (g st)) st → Through l B (asks g >>= f) st
unfolding asks
through_asks g f h w = follow f (step (asking g) h h) w

pub through_made : {l : ℕ} {st : State} (m : Made) → StacksWithin l st → Through l ExprId (new_made m) st
unfolding new_made
through_made m h = step (making m) h (record { sets_held = h.sets_held; entries_held = h.entries_held })

pub through_name : {l : ℕ} {st : State} (t : Text) (k : NameKind) (p : Pointer) → StacksWithin l st → Through l NameId (alloc_name t k p) st
unfolding alloc_name
through_name t k p h = step (naming t k p) h (record { sets_held = h.sets_held; entries_held = h.entries_held })

pub through_duplicate : {l : ℕ} {st : State} (t : Text) (p q : Pointer) → StacksWithin l st → Through l (Unit {0}) (add_duplicate t p q) st
unfolding add_duplicate
through_duplicate t p q h = step (telling t p q) h (record { sets_held = h.sets_held; entries_held = h.entries_held })

pub through_set : {l : ℕ} {st : State} (k : NameKind) (p : Pointer) → StacksWithin l st → length st.sets + 1 ≤ l → Through l SetId (new_set k p) st
unfolding new_set
through_set k p h i = step (opening k p) h (record { sets_held = simp length-append (omega arith); entries_held = h.entries_held })

pub through_entry : {l : ℕ} {st : State} (e : MergingEntry) → StacksWithin l st → length st.entries + 1 ≤ l → Through l (Unit {0}) (add_entry e) st
unfolding add_entry set_entries
through_entry {st = st} e h i = through_asks (λ st. st.entries) _ h (step (writing (st.entries ++ (e ∷ []))) h (record { sets_held = h.sets_held; entries_held = simp length-append (omega arith) }))

pub through_set_entry : {l : ℕ} {st : State} (i : ℕ) (e : MergingEntry) → StacksWithin l st → Through l (Unit {0}) (set_entry i e) st
unfolding set_entry set_entries
through_set_entry {st = st} i e h = through_asks (λ st. st.entries) _ h (step (writing (set st.entries i e)) h (record { sets_held = h.sets_held; entries_held = simp length-set h.entries_held }))

-- ---- a step with stacks of its own
through_cut : {l : ℕ} {st : State} (s e : ℕ) → s ≤ l → e ≤ l → StacksWithin l st → Through l (Unit {0}) (cut s e) st
unfolding cut
through_cut {st = st} s e i j h = step (cutting s e) h (record { sets_held = omega (arith, length-take s st.sets); entries_held = omega (arith, length-take e st.entries) })

pub through_inner : {l : ℕ} {A : Type 0} {p : Low A} {st : State} → StacksWithin l st → Through l A p st → Through l A (inner p) st
unfolding inner
through_inner {st = st} h w =
    let c = through_cut (length st.sets) (length st.entries) h.sets_held h.entries_held (through_end w) in
    through_asks _ _ h (through_asks _ _ h (follow _ w (follow _ c (through_give _ (through_end c)))))
