-- How the steps inside the merging of one key follow one another, and how the whole is a step of lowering. Assumes
-- nothing.
use mathlib.Core.Path.{◌≡◌, refl, ap, ◌∙◌}
use mathlib.Core.Bool.{true}
use mathlib.Core.List.{List}
use Prim.Native.Nat.{ℕ, ◌+◌, ◌*◌, ◌≤◌}
use native.Mathlib.Omega.{arith}
use lib.ListN.{length}
use Rattle.spec.specs.Sheet.{Node}
use Rattle.spec.specs.Steps.{◌>>=◌, give, asks}
use Rattle.spec.specs.State.{State, Low}
use Rattle.spec.proofs.sets.Standing.{Standing}
use Rattle.layout.specs.Exprs.{Item}
use Rattle.layout.specs.States.{sets_of, entries_of, order_of, state_of}
use Rattle.layout.proofs.Frames.{wrote_none, wrote_then}
use Rattle.layout.proofs.WriteLaws.{still_then}
use Rattle.store.specs.Work.{lowering}
use Rattle.open_sets.specs.Ranks.{InOrder}
use Rattle.merge.specs.Room.{Resource, per_node, Price, nothing, price, ◌⊕◌, covers}
use Rattle.merge.specs.Lowers.{Lowers}
use Rattle.merge.specs.Merges.{Merges}
use Rattle.merge.proofs.Steps.{covered}

-- ---- one step and then another
pub follow : {A B : Type 0} {own own' : Price} {p : Low A} (f : A → Low B) {s u t : List ℕ} {a : A} {r : B} → Merges own p s a u → Merges own' (f a) u r t → Merges (own ⊕ own') (p >>= f) s r t
unfolding ◌>>=◌ ◌⊕◌
follow {p = p} f {s = s} x y = record {
  wrote = wrote_then x.wrote y.wrote;
  still = still_then x.still y.still;
  does = λ fine order room.
      let l = x.does fine order (λ k. omega (arith, room k)) in
      let m = y.does l.fine l.order (λ k. omega (arith, room k, l.spent k)) in
      record {
        same = ◌∙◌ {c = f (p (state_of s)).0 (p (state_of s)).1} m.same (ap (λ z. f z.0 z.1) l.same);
        waits = m.waits ∙ l.waits;
        fine = m.fine;
        order = m.order;
        spent = λ k. omega (arith, l.spent k, m.spent k);
      };
}

-- ---- nothing but a result
pub given : {A : Type 0} {s : List ℕ} (a : A) → Merges nothing (give a) s a s
unfolding give nothing price
given {s = s} a = record {
  wrote = wrote_none lowering s;
  still = record { same = refl; used = refl };
  does = λ fine order room. record { same = refl; waits = refl; fine = fine; order = order; spent = λ k. omega arith };
}

-- ---- a question, and then a step with its answer
pub questioned : {A B : Type 0} {own : Price} (g : State → A) (f : A → Low B) {s t : List ℕ} {a : A} {r : B} → (InOrder (entries_of s) (order_of s) → a ≡ g (state_of s)) → Merges own (f a) s r t → Merges own (asks g >>= f) s r t
unfolding ◌>>=◌ asks
questioned g f {s = s} e x = record {
  wrote = x.wrote;
  still = x.still;
  does = λ fine order room.
      let l = x.does fine order room in
      record { same = l.same ∙ ap (λ z. f z (state_of s)) (e order); waits = l.waits; fine = l.fine; order = l.order; spent = l.spent };
}

-- another text of the same step
pub in_other_words : {A : Type 0} {own : Price} {p q : Low A} {s t : List ℕ} {r : A} → p (state_of s) ≡ q (state_of s) → Merges own p s r t → Merges own q s r t
in_other_words e x = record {
  wrote = x.wrote;
  still = x.still;
  does = λ fine order room.
      let l = x.does fine order room in
      record { same = l.same ∙ e; waits = l.waits; fine = l.fine; order = l.order; spent = l.spent };
}

-- ---- allowed more
pub allowed : {A : Type 0} {own : Price} {p : Low A} {s t : List ℕ} {r : A} {other : Price} → covers 0 own other ≡ true → Merges own p s r t → Merges other p s r t
allowed {own = own} {other = other} e x =
    let small : (k : Resource) → own k ≤ per_node k * 0 + other k = λ k. covered k 0 own other e in
    record {
      wrote = x.wrote;
      still = x.still;
      does = λ fine order room.
          let l = x.does fine order (λ k. omega (arith, room k, small k)) in
          record { same = l.same; waits = l.waits; fine = l.fine; order = l.order; spent = λ k. omega (arith, l.spent k, small k) };
    }

-- ---- the whole
-- The sets are a forest after it, and no set is gone.
pub merged_whole : {A : Type 0} {nodes : List Node} {w : List Item} {top : ℕ} {own : Price} {p : Low A} {s t : List ℕ} {r : A}
    → (top ≤ length (state_of s).sets → Standing (state_of s) → Standing (p (state_of s)).1) → length (state_of s).sets ≤ length (p (state_of s)).1.sets → Merges own p s r t → Lowers nodes w w top 0 own p s r t
unfolding state_of
merged_whole {p = p} {s = s} {t = t} stands more x = record {
  wrote = x.wrote;
  still = x.still;
  does = λ c.
      let l = x.does c.ready.fine c.ready.order (λ k. omega (arith, c.room k)) in
      let state_is : state_of t ≡ (p (state_of s)).1 = ap (λ z. z.1) l.same in
      let sets_are : sets_of t ≡ (p (state_of s)).1.sets = ap (λ (x : State). x.sets) state_is in
      record {
        same = l.same;
        waits = l.waits ∙ c.waiting_are;
        ready = record { fine = l.fine; order = l.order; standing = rw state_is (stands c.opened c.ready.standing) };
        spent = λ k. omega (arith, l.spent k);
        grows = rw sets_are more;
      };
}
