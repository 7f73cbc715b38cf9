-- A lowered module: its scopes, answers and references together are what a load leaves. Assumes nothing.
use mathlib.Core.Path.{◌≡◌, refl, ap, ◌∙◌}
use mathlib.Core.Logic.{inl, inr, ⊎_elim}
use mathlib.Core.Bool.{true}
use mathlib.Core.List.{List}
use Prim.Native.Nat.{ℕ, ◌≤◌}
use native.Mathlib.Omega.{arith}
use lib.ListN.{length}
use Rattle.words.specs.Words.{word}
use Rattle.spec.specs.Lower.{module_of}
use Rattle.spec.specs.Scopes.{scopes_of}
use Rattle.spec.specs.Answer.{scope_at}
use Rattle.spec.specs.Kept.{Kept, kept_of}
use Rattle.spec.proofs.sound.Sound.{kinds_in}
use Rattle.layout.specs.Layout.{expr_limit, name_limit, loaded_text_limit, expr_count, name_count, spent_place, texts_place}
use Rattle.layout.specs.Rows.{cap}
use Rattle.layout.specs.Changes.{Outside, Wrote, Still}
use Rattle.layout.specs.Regions.{keeping}
use Rattle.layout.specs.Exprs.{made_in}
use Rattle.layout.specs.States.{name_in, exprs_of, names_of, state_of, module_in}
use Rattle.layout.specs.Keeps.{scopes_in, kept_in}
use Rattle.layout.proofs.RowLaws.{length_rows, cap_lim}
use Rattle.layout.proofs.Frames.{number_kept}
use Rattle.layout.proofs.WriteLaws.{still_then}
use Rattle.soundness.specs.Sound.{sound}
use Rattle.soundness.specs.Coded.{ModuleFits, ScopesFit}
use Rattle.soundness.proofs.CodedLaws.{sound_parts}
use Rattle.soundness.proofs.FrameLaws.{module_fits_kept, scopes_fit_apart, kept_fits_kept}
use Rattle.kept.specs.Walks.{walking}
use Rattle.kept.specs.TextChanges.{Spent}
use Rattle.nameres.specs.Resolution.{Nameable, Scoped, Resolved}
use Rattle.scopes.specs.Whole.{ScopesAll}
use Rattle.nameres.specs.Loaded.{Keepable, KeepsAll}
use Rattle.nameres.proofs.SoundNames.{kind_wider}
use Rattle.nameres.proofs.ResolveLaws.{resolving_scopes}

-- ---- the names of a lowered module's scopes are its own
few_names_lem : (s : List ℕ) → length (module_in s).names ≤ name_limit
unfolding module_in module_of state_of names_of
few_names_lem s = omega (arith, length_rows (name_in s) (cap (word s name_count) name_limit), cap_lim (word s name_count) name_limit)

few_exprs_lem : (s : List ℕ) → length (module_in s).exprs ≤ expr_limit
unfolding module_in module_of state_of exprs_of
few_exprs_lem s = omega (arith, length_rows (made_in s) (cap (word s expr_count) expr_limit), cap_lim (word s expr_count) expr_limit)

scopes_named : (s : List ℕ) → Keepable (module_in s) → Nameable (scopes_of (module_in s))
scopes_named s k =
    record { kinds = λ i. kind_wider _ name_limit _ expr_limit (scope_at (scopes_of (module_in s)).scopes i).kind (few_names_lem s) (few_exprs_lem s) (kinds_in _ _ (scopes_of (module_in s)) k.ranged i) }

-- ---- the three steps
module _ (s u v t : List ℕ) (scoped : ScopesAll s u) (answered : Resolved u v) (unspent : Spent 0 v t) where
  module _ (k : Keepable (module_in s)) where
    scopes_are : scopes_in u ≡ scopes_of (module_in s)
    scopes_are = (scoped.does k.walkable).0

    named : Nameable (scopes_in u)
    named = rw scopes_are (scopes_named s k)

    lowered_then : (kept_in u).lowered ≡ module_in s
    unfolding kept_in
    lowered_then = scoped.module_same

    scopes_then : (kept_in u).scopes ≡ scopes_of (module_in s)
    unfolding kept_in
    scopes_then = scopes_are

    keeps : kept_in t ≡ kept_of (module_in s)
    unfolding kept_of
    keeps = unspent.does ∙ rw (answered.does named, lowered_then, scopes_then)

  all_wrote : Wrote keeping s t
  unfolding walking keeping Outside
  all_wrote = record {
    size = unspent.wrote.size ∙ answered.wrote.size ∙ scoped.wrote.size;
    other = λ j o.
        unspent.wrote.other j (⊎_elim (λ z. inl (omega arith)) (λ z. inr z) o.0, tt)
        ∙ answered.wrote.other j (⊎_elim (λ z. inl z) (λ z. inr (omega arith)) o.1.0, (⊎_elim (λ z. inl (omega arith)) (λ z. inr z) o.1.0, tt))
        ∙ scoped.wrote.other j (⊎_elim (λ z. inl z) (λ z. inr (omega arith)) o.0, (⊎_elim (λ z. inl z) (λ z. inr (omega arith)) o.1.0, tt));
  }

-- ---- the bytes
module _ (s u v t : List ℕ) (walked : Wrote walking s u) (still : Still s u) (answered : Resolved u v) (unspent : Spent 0 v t) (fits : ModuleFits s) (scopes : ScopesFit u) where
  module_then : ModuleFits u
  unfolding walking
  module_then = module_fits_kept walked still refl refl refl fits

  scoped_then : Scoped u
  scoped_then = record { fits = scopes; few_exprs = module_then.few_exprs; few_names = module_then.few_names }

  module_after : ModuleFits v
  module_after = module_fits_kept answered.wrote answered.still refl refl refl module_then

  scopes_after : ScopesFit v
  scopes_after = resolving_scopes u v answered.wrote answered.placed scoped_then

  nothing_spent : word t spent_place ≡ 0
  unfolding kept_in
  nothing_spent = ap (λ (k : Kept). k.spent) unspent.does

  same_texts : word t texts_place ≡ word s texts_place
  unfolding walking
  same_texts = number_kept unspent.wrote 28 refl ∙ number_kept answered.wrote 28 refl ∙ number_kept walked 28 refl

  -- THEOREM. A module that fits, kept with scopes that fit, makes a sound store.
  keeps_sound : word s texts_place ≤ loaded_text_limit → sound t ≡ true
  keeps_sound texts =
      sound_parts t (module_fits_kept unspent.wrote unspent.still refl refl refl module_after)
      (scopes_fit_apart unspent.wrote refl refl refl module_after.few_exprs scopes_after)
      (rw nothing_spent (omega arith))
      (rw (same_texts, nothing_spent) (omega arith))
      (kept_fits_kept unspent.wrote refl refl refl refl module_after.few_exprs module_after.few_names (answered.fits scoped_then))

-- THEOREM. A module is kept as it is worked out afresh, and its store is sound.
pub keeps_all : (s u v t : List ℕ) → ScopesAll s u → Resolved u v → Spent 0 v t → KeepsAll s t
keeps_all s u v t scoped answered unspent =
    record {
      wrote = all_wrote s u v t scoped answered unspent;
      still = still_then scoped.still (still_then answered.still unspent.still);
      does = keeps s u v t scoped answered unspent;
      leaves = λ k fits texts. keeps_sound s u v t scoped.wrote scoped.still answered unspent fits (scoped.fits k.walkable k.ranged fits.few_exprs fits.few_names) texts;
    }
