-- `tree::places::places_of` meets its contract.
use mathlib.Core.Path.{ap, ◌∙◌, refl}
use Rattle.sheet.proofs.KindLaws.{kind_told, no_kind}
use Rattle.tree.proofs.places.places_of.Goals as goal

pub returns-in-Some : goal.returns-in-Some
returns-in-Some c =
    let same = kind_told _ _ c.of.ensures _ c.in-Some.is in
    record {
      counted = c.of-in-Some.ensures.counted ∙ ap (λ k. k.counted) same;
      listed = c.of-in-Some.ensures.listed ∙ ap (λ k. k.listed) same;
    }

pub returns-in-None : goal.returns-in-None
returns-in-None c =
    let none_there = no_kind _ _ c.of.ensures c.in-None.is in
    record { counted = rw (none_there, c.only.ensures.0) refl; listed = rw (none_there, c.only.ensures.1) refl }
