-- What is found at the place of a key is what the definition finds. Assumes nothing.
use mathlib.Core.Path.{◌≡◌, refl, sym, ◌∙◌}
use mathlib.Core.Bool.{Bool, true, false, not}
use mathlib.Core.List.{List}
use Prim.Native.Nat.{ℕ, ◌≤◌, ◌<◌}
use lib.ListN.{length}
use lib.Dec.{ltb}
use borrow.Author.Tests.{lt-ltb, le-ltb, ltb-true, ltb-false}
use Rattle.words.specs.Order.{order}
use Rattle.words.proofs.OrderLaws.{order_refl, order_equal}
use Rattle.spec.specs.Basics.{Text}
use Rattle.spec.specs.State.{MergingEntry}
use Rattle.spec.specs.Merge.{is_at, find}
use Rattle.layout.specs.Texts.{text_in}
use Rattle.layout.specs.States.{entries_of, state_of, order_of}
use Rattle.open_sets.specs.declared.standing.Standing.{Standing}
use Rattle.open_sets.specs.Ranks.{class_of, key_of, standing, rank, before, InOrder, placed}
use Rattle.open_sets.specs.Run.{class_number, standing_with, stops_at, Place, found_at}
use Rattle.open_sets.proofs.Halving.{Begins}
use Rattle.open_sets.proofs.RankFind.{probe, is_at_standing, standing_is_at, find_past, find_other, find_there}
use Rattle.open_sets.proofs.RunReads.{stops_at_lem}
use Rattle.std.specs.Ordering.{is_eq}
use Rattle.std.specs.Cmp.{Equal-is}

-- ---- at the first place that does not stand before the key
module _ (s : List ℕ) (set : ℕ) (p : Standing) (q : ℕ) (whose : p.set.0 ≡ set) (class : class_number p.class ≡ 0) (place : Place false p s q) (o : InOrder (entries_of s) (order_of s)) where
  abbrev key : Text
  key = text_in s p.key.0

  looked_for : standing_with s p ≡ standing (probe set key)
  unfolding standing_with standing class_of key_of
  looked_for = rw (whose, class)

  test : (j : ℕ) → stops_at false p s j ≡ not (before (placed (entries_of s) (order_of s) j) (probe set key))
  unfolding stops_at before rank
  test j = rw looked_for (stops_at_lem (order (standing (placed (entries_of s) (order_of s) j)) (standing (probe set key))))

  begins : Begins (λ j. not (before (placed (entries_of s) (order_of s) j) (probe set key))) (length (entries_of s)) q
  begins = record { within = place.within; fails = λ j h. sym (test j) ∙ place.fails o j h; passes = λ j h l. sym (test j) ∙ place.passes o j h l }

  abbrev here : MergingEntry
  here = placed (entries_of s) (order_of s) q

  finds_at : (b : Bool) → q < length (entries_of s) → is_eq (order (standing here) (standing (probe set key))) ≡ b → found_at s q p ≡ find set key (state_of s)
  unfolding found_at state_of
  finds_at true h e =
      let same = order_equal (standing here) (standing (probe set key)) ((Equal-is _).0 e) in
      rw (lt-ltb q (length (entries_of s)) h, looked_for, e) (sym (find_there set key (state_of s) q o begins h (standing_is_at set key here same)))
  finds_at false h e = rw (lt-ltb q (length (entries_of s)) h, looked_for, e) (sym (find_other set key (state_of s) q o begins h (other (is_at set key here) refl)))
    where
      other : (b : Bool) → is_at set key here ≡ b → b ≡ false
      other true t = rw (is_at_standing set key here t, order_refl (standing (probe set key))) at e
      other false t = refl

  finds_none : length (entries_of s) ≤ q → found_at s q p ≡ find set key (state_of s)
  unfolding found_at state_of
  finds_none h = rw (le-ltb q (length (entries_of s)) h) (sym (find_past set key (state_of s) q o begins h))

  pub finds : found_at s q p ≡ find set key (state_of s)
  finds = go (ltb q (length (entries_of s))) refl
    where
      go : (b : Bool) → ltb q (length (entries_of s)) ≡ b → found_at s q p ≡ find set key (state_of s)
      go true h = finds_at _ (ltb-true q (length (entries_of s)) h) refl
      go false h = finds_none (ltb-false q (length (entries_of s)) h)
