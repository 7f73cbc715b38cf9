-- The run of a few entries, computed.
use Rattle.std.specs.Prelude.{◌≡◌, refl, [], ◌∷◌}
use Rattle.std.proofs.Math.Option.{none}
use Rattle.words.specs.Order.{order}
use Rattle.spec.specs.State.{static, source, dynamic}
use Rattle.open_sets.specs.Ranks.{class_of, key_of, standing, insert_by, standing_of, ranked_from, sorted}

-- a set's statics by their keys, its sources, its dynamics, each as they came; then the next set
in_the_order_of_sets : sorted (dynamic 0 1 2 ∷ static 1 (97 ∷ []) 0 none none ∷ static 0 (98 ∷ []) 1 none none ∷ source 0 5 ∷ static 0 (97 ∷ []) 2 none none ∷ source 0 4 ∷ [])
    ≡ 4 ∷ 2 ∷ 3 ∷ 5 ∷ 0 ∷ 1 ∷ []
unfolding sorted ranked_from insert_by standing_of standing class_of key_of order
in_the_order_of_sets = refl
