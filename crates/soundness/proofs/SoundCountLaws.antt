-- Counts that fit are within their limits. Assumes nothing.
use mathlib.Core.Path.{◌≡◌}
use mathlib.Core.Bool.{true}
use mathlib.Core.List.{List}
use mathlib.Mathlib.Data.Bool.Basic.{and_elim_left, and_elim_right}
use Prim.Native.Nat.{ℕ, ◌+◌, ◌*◌, ◌≤◌}
use native.Mathlib.Omega.{arith}
use lib.Dec.{leb}
use borrow.Author.Tests.{leb-true}
use Rattle.words.specs.Words.{word}
use Rattle.layout.specs.Layout.{expr_limit, name_limit, diagnostic_limit, scope_limit, room_limit, loaded_text_limit, expr_count, name_count, diagnostic_count, lost_count, scope_count, spent_place, texts_place, Long}
use Rattle.soundness.specs.Sound.{counts_fit}
use Rattle.soundness.specs.SoundCounts.{Taken, Counted}
use Rattle.soundness.specs.declared.counts.Counts.{Counts}

module _ (s : List ℕ) (c : Counts) (h : Taken s c) where
  pub counted : Long s → counts_fit s ≡ true → Counted s c
  unfolding counts_fit
  counted l f =
      let f1 = and_elim_right (leb (word s expr_count) expr_limit) _ f in
      let f2 = and_elim_right (leb (word s name_count) name_limit) _ f1 in
      let f3 = and_elim_right (leb (word s diagnostic_count) diagnostic_limit) _ f2 in
      let f4 = and_elim_right (leb (word s lost_count) diagnostic_limit) _ f3 in
      let f5 = and_elim_right (leb (word s scope_count) scope_limit) _ f4 in
      let e : word s expr_count ≤ expr_limit = leb-true (word s expr_count) expr_limit (and_elim_left (leb (word s expr_count) expr_limit) _ f) in
      let n : word s name_count ≤ name_limit = leb-true (word s name_count) name_limit (and_elim_left (leb (word s name_count) name_limit) _ f1) in
      let d : word s diagnostic_count ≤ diagnostic_limit = leb-true (word s diagnostic_count) diagnostic_limit (and_elim_left (leb (word s diagnostic_count) diagnostic_limit) _ f2) in
      let i : word s scope_count ≤ scope_limit = leb-true (word s scope_count) scope_limit (and_elim_left (leb (word s scope_count) scope_limit) _ f4) in
      let p : word s spent_place ≤ room_limit = leb-true (word s spent_place) room_limit (and_elim_left (leb (word s spent_place) room_limit) _ f5) in
      let t : word s texts_place ≤ loaded_text_limit + 5 * word s spent_place = leb-true (word s texts_place) (loaded_text_limit + 5 * word s spent_place) (and_elim_right (leb (word s spent_place) room_limit) _ f5) in
      record {
        long = l;
        taken = h;
        few_exprs = rw h.exprs e;
        few_names = rw h.names n;
        few_diagnostics = rw h.diagnostics d;
        few_scopes = rw h.scopes i;
        short_texts = rw h.texts (omega arith);
      }
