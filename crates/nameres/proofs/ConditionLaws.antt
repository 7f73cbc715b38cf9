-- docs/RULES.md, "The condition of a store": "A store as a load .. left it is never 22 or 23." Of the bytes. Assumes
-- nothing.
use mathlib.Core.Path.{◌≡◌, refl, sym, ap, ◌∙◌}
use mathlib.Core.List.{List}
use Prim.Native.Nat.{ℕ, ◌≤◌, ◌<◌}
use native.Mathlib.Omega.{arith}
use lib.ListN.{length}
use Rattle.words.specs.Words.{word}
use Rattle.spec.specs.Sheet.{Node, accepted}
use Rattle.spec.specs.Tree.{judge}
use Rattle.spec.specs.Lower.{lower_module, module_of}
use Rattle.spec.specs.Calls.{fit}
use Rattle.spec.specs.Kept.{kept_of, loaded}
use Rattle.spec.proofs.sound.Sound.{lowered_sound}
use Rattle.layout.specs.Layout.{loaded_text_limit, expr_count, texts_place, Long}
use Rattle.layout.specs.Rows.{cap, rows_to}
use Rattle.layout.specs.Regions.{keeping}
use Rattle.layout.specs.Nodes.{nodes_of}
use Rattle.layout.specs.States.{exprs_of, state_of, module_in}
use Rattle.layout.specs.Keeps.{kept_in}
use Rattle.layout.proofs.Frames.{number_kept}
use Rattle.soundness.specs.Sound.{condition_of}
use Rattle.soundness.specs.Coded.{ModuleFits}
use Rattle.soundness.proofs.ConditionLaws.{fit_of}
use Rattle.scopes.proofs.WholeLaws.{accepted_walkable}
use Rattle.nameres.specs.Loaded.{Keepable, KeepsAll}

-- ---- a load
pub accepted_keepable : (sheet : List ℕ) (nodes : List Node) → judge sheet ≡ accepted nodes → Keepable (lower_module nodes)
unfolding loaded kept_of
accepted_keepable sheet nodes h = record { walkable = accepted_walkable sheet nodes h; ranged = (lowered_sound nodes).scopes }

-- a module with an entry has expressions
not_empty : (s : List ℕ) → (module_in s).entry < length (module_in s).exprs → word s expr_count ≡ 0 → ⊥
unfolding module_in module_of state_of exprs_of cap rows_to
not_empty s h e = none_below (rw e at h)
  where
    none_below : {a : ℕ} → a < 0 → ⊥
    none_below l = omega arith

module _ {s t : List ℕ} (keeps : KeepsAll s t) (sheet : List ℕ) (accepts : judge sheet ≡ accepted (nodes_of s)) (lowered : module_in s ≡ lower_module (nodes_of s)) where
  keepable : Keepable (module_in s)
  keepable = rw lowered (accepted_keepable sheet (nodes_of s) accepts)

  -- THEOREM. The module of an accepted sheet is kept as the definition of a load says.
  pub loaded_kept : kept_in t ≡ loaded (nodes_of s)
  unfolding loaded
  loaded_kept = keeps.does keepable ∙ ap kept_of lowered

  entry_in_lem : (module_in s).entry < length (module_in s).exprs
  unfolding loaded kept_of
  entry_in_lem = rw lowered (lowered_sound (nodes_of s)).entry

  -- THEOREM. And the bytes are those of a fit store.
  pub loaded_sound : Long s → ModuleFits s → word s texts_place ≤ loaded_text_limit → condition_of t ≡ fit
  unfolding keeping
  loaded_sound long fits texts =
      fit_of t (omega (arith, long, keeps.wrote.size)) (keeps.leaves keepable fits texts)
      (λ e. not_empty s entry_in_lem (sym (number_kept keeps.wrote expr_count refl) ∙ e))
