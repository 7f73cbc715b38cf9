-- A sound store and its parts: the module, the scopes, the room, the texts, what is kept. Assumes nothing.
use mathlib.Core.Path.{◌≡◌}
use mathlib.Core.Bool.{true}
use mathlib.Core.List.{List}
use mathlib.Mathlib.Data.Bool.Basic.{and_elim_left, and_elim_right}
use Prim.Native.Nat.{ℕ, ◌+◌, ◌*◌, ◌≤◌, ◌<◌}
use lib.Dec.{leb}
use borrow.Author.Tests.{leb-true, le-leb}
use Rattle.words.specs.Words.{word}
use Rattle.spec.specs.Basics.{ExprId}
use Rattle.layout.specs.Layout.{expr_limit, name_limit, diagnostic_limit, scope_limit, room_limit, loaded_text_limit, use_row, expr_count, name_count, diagnostic_count, lost_count, scope_count, spent_place, texts_place, uses_at}
use Rattle.soundness.specs.Sound.{all_to, counts_fit, entry_fits, exprs_fit, names_fit, diagnostics_fit, scopes_fit, use_fits, kept_fits, sound}
use Rattle.soundness.specs.Coded.{ModuleFits, ScopesFit}
use Rattle.soundness.proofs.SoundLaws.{all_each}

-- ---- the counts
record Counts (s : List ℕ) : Type 0 where
  exprs : leb (word s expr_count) expr_limit ≡ true
  names : leb (word s name_count) name_limit ≡ true
  diagnostics : leb (word s diagnostic_count) diagnostic_limit ≡ true
  lost : leb (word s lost_count) diagnostic_limit ≡ true
  scopes : leb (word s scope_count) scope_limit ≡ true
  room : leb (word s spent_place) room_limit ≡ true
  texts : leb (word s texts_place) (loaded_text_limit + 5 * word s spent_place) ≡ true

counts_each : (s : List ℕ) → counts_fit s ≡ true → Counts s
unfolding counts_fit
counts_each s h =
    let h₁ = and_elim_right (leb (word s expr_count) expr_limit) _ h in
    let h₂ = and_elim_right (leb (word s name_count) name_limit) _ h₁ in
    let h₃ = and_elim_right (leb (word s diagnostic_count) diagnostic_limit) _ h₂ in
    let h₄ = and_elim_right (leb (word s lost_count) diagnostic_limit) _ h₃ in
    let h₅ = and_elim_right (leb (word s scope_count) scope_limit) _ h₄ in
    record {
      exprs = and_elim_left (leb (word s expr_count) expr_limit) _ h;
      names = and_elim_left (leb (word s name_count) name_limit) _ h₁;
      diagnostics = and_elim_left (leb (word s diagnostic_count) diagnostic_limit) _ h₂;
      lost = and_elim_left (leb (word s lost_count) diagnostic_limit) _ h₃;
      scopes = and_elim_left (leb (word s scope_count) scope_limit) _ h₄;
      room = and_elim_left (leb (word s spent_place) room_limit) _ h₅;
      texts = and_elim_right (leb (word s spent_place) room_limit) _ h₅;
    }

-- ---- all that is tested
record Parts (s : List ℕ) : Type 0 where
  counts : Counts s
  entry : entry_fits s ≡ true
  exprs : exprs_fit s ≡ true
  names : names_fit s ≡ true
  diagnostics : diagnostics_fit s ≡ true
  scopes : scopes_fit s ≡ true
  kept : kept_fits s ≡ true

parts_of : (s : List ℕ) → sound s ≡ true → Parts s
unfolding sound
parts_of s h =
    let h₁ = and_elim_right (counts_fit s) _ h in
    let h₂ = and_elim_right (entry_fits s) _ h₁ in
    let h₃ = and_elim_right (exprs_fit s) _ h₂ in
    let h₄ = and_elim_right (names_fit s) _ h₃ in
    let h₅ = and_elim_right (diagnostics_fit s) _ h₄ in
    record {
      counts = counts_each s (and_elim_left (counts_fit s) _ h);
      entry = and_elim_left (entry_fits s) _ h₁;
      exprs = and_elim_left (exprs_fit s) _ h₂;
      names = and_elim_left (names_fit s) _ h₃;
      diagnostics = and_elim_left (diagnostics_fit s) _ h₄;
      scopes = and_elim_left (scopes_fit s) _ h₅;
      kept = and_elim_right (scopes_fit s) _ h₅;
    }

-- ---- from the parts
pub sound_parts : (s : List ℕ) → ModuleFits s → ScopesFit s → word s spent_place ≤ room_limit → word s texts_place ≤ loaded_text_limit + 5 * word s spent_place → kept_fits s ≡ true → sound s ≡ true
unfolding sound counts_fit
sound_parts s m c room texts kept =
    rw (
      le-leb (word s expr_count) expr_limit m.few_exprs,
      le-leb (word s name_count) name_limit m.few_names,
      le-leb (word s diagnostic_count) diagnostic_limit m.few_diagnostics,
      le-leb (word s lost_count) diagnostic_limit m.few_lost,
      le-leb (word s scope_count) scope_limit c.few,
      le-leb (word s spent_place) room_limit room,
      le-leb (word s texts_place) (loaded_text_limit + 5 * word s spent_place) texts,
      m.entry,
      m.exprs,
      m.names,
      m.diagnostics,
      c.scopes,
      kept,
    )

-- ---- to the parts
pub sound_module : (s : List ℕ) → sound s ≡ true → ModuleFits s
sound_module s h =
    let p = parts_of s h in
    record {
      few_exprs = leb-true (word s expr_count) expr_limit p.counts.exprs;
      few_names = leb-true (word s name_count) name_limit p.counts.names;
      few_diagnostics = leb-true (word s diagnostic_count) diagnostic_limit p.counts.diagnostics;
      few_lost = leb-true (word s lost_count) diagnostic_limit p.counts.lost;
      entry = p.entry;
      exprs = p.exprs;
      names = p.names;
      diagnostics = p.diagnostics;
    }

pub sound_kept : (s : List ℕ) → sound s ≡ true → kept_fits s ≡ true
sound_kept s h = (parts_of s h).kept

-- the scope of an expression is tested with what is kept
placed_kept : (s : List ℕ) → kept_fits s ≡ true → (e : ExprId) → e < word s expr_count → word s (uses_at + use_row * e) ≤ word s scope_count
unfolding kept_fits use_fits
placed_kept s h e l =
    leb-true (word s (uses_at + use_row * e)) (word s scope_count) (and_elim_left _ _ (all_each (use_fits s) (word s expr_count) e (and_elim_left (all_to (use_fits s) (word s expr_count)) _ h) l))

pub sound_scopes : (s : List ℕ) → sound s ≡ true → ScopesFit s
sound_scopes s h =
    let p = parts_of s h in
    record {
      few = leb-true (word s scope_count) scope_limit p.counts.scopes;
      scopes = p.scopes;
      placed = placed_kept s p.kept;
    }

pub sound_room : (s : List ℕ) → sound s ≡ true → word s spent_place ≤ room_limit
sound_room s h = leb-true (word s spent_place) room_limit (parts_of s h).counts.room

pub sound_texts : (s : List ℕ) → sound s ≡ true → word s texts_place ≤ loaded_text_limit + 5 * word s spent_place
sound_texts s h = leb-true (word s texts_place) (loaded_text_limit + 5 * word s spent_place) (parts_of s h).counts.texts
