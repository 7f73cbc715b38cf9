-- A whole module: an accepted sheet has room for all scopes and all names that are entered. Assumes nothing.
use mathlib.Core.Path.{◌≡◌, refl, sym, ap, subst, ◌∙◌}
use mathlib.Core.List.{List, [], ◌∷◌}
use mathlib.Core.Option.{none}
use Prim.Native.Nat.{ℕ, ◌≤◌}
use native.Mathlib.Omega.{arith}
use lib.ListN.{length, replicate}
use Rattle.words.specs.Words.{word}
use Rattle.spec.specs.Basics.{ExprId}
use Rattle.spec.specs.Sheet.{Node, accepted}
use Rattle.spec.specs.Tree.{judge}
use Rattle.spec.specs.Module.{Module}
use Rattle.spec.specs.Lower.{lower_module, module_of}
use Rattle.spec.specs.Kept.{kept_of, loaded}
use Rattle.spec.specs.Scopes.{ScopeKind, definitions, with_expr, Scope, Scopes, traverse_expr, scopes_of}
use Rattle.spec.proofs.sound.Ordered.{Ordered, lowered_ordered}
use Rattle.spec.proofs.sound.ScopeRange.{InRange}
use Rattle.spec.proofs.sound.Sound.{lowered_sound}
use Rattle.spec.proofs.room.SheetRoom.{sheet_room}
use Rattle.spec.proofs.room.NameRoom.{entered_in, names_entered, entered_room}
use Rattle.layout.specs.Layout.{expr_count, name_count, spent_place, expr_limit, name_limit}
use Rattle.layout.specs.Rows.{cap}
use Rattle.layout.specs.Nodes.{nodes_of}
use Rattle.layout.specs.Changes.{Wrote}
use Rattle.layout.specs.Exprs.{made_in}
use Rattle.layout.specs.States.{exprs_of, name_in, names_of, state_of, module_in}
use Rattle.layout.specs.Keeps.{scopes_in, kept_in}
use Rattle.layout.proofs.RowLaws.{length_rows, cap_le}
use Rattle.layout.proofs.Frames.{wrote_then, number_kept}
use Rattle.layout.proofs.WriteLaws.{still_then}
use Rattle.soundness.specs.Coded.{ScopesFit}
use Rattle.kept.specs.Walks as kept
use Rattle.kept.specs.Walks.{entered_by, walking, root, try_root, Neat, Walked, Emptied}
use Rattle.kept.proofs.KeepFrames.{references_kept}
use Rattle.kept.proofs.ScopesFitLaws.{neat_fits}
use Rattle.scopes.specs.Walking.{Fits, WalkStart, Walks}
use Rattle.scopes.specs.Whole.{Walkable, ScopesAll}
use Rattle.scopes.proofs.Steps.{module_walked}

-- ---- room
names_counted : (ss : List Scope) → entered_by ss ≡ names_entered ss
unfolding entered_by kept.names_entered
names_counted [] = refl
names_counted (s ∷ ss) = omega (arith, one s.kind, names_counted ss)
  where
    one : (k : ScopeKind) → length (kept.names_entered k) ≡ entered_in k
    one (definitions xs) = refl
    one (with_expr e) = refl

-- THEOREM. The module of an accepted sheet can be walked.
pub accepted_walkable : (sheet : List ℕ) (nodes : List Node) → judge sheet ≡ accepted nodes → Walkable (lower_module nodes)
accepted_walkable sheet nodes judged =
    let room = sheet_room sheet nodes judged in
    record {
      ordered = (lowered_ordered nodes).0;
      room =
          record {
            few_scopes_lem = omega (arith, room.scopes_few, room.few);
            few_names_lem = omega (arith, names_counted (scopes_of (lower_module nodes)).scopes, entered_room nodes, room.fits.names_few, room.few);
          };
    }

-- ---- a module whose counts are within their limits
names_in : (s : List ℕ) → word s name_count ≤ name_limit → length (module_in s).names ≡ word s name_count
unfolding module_in module_of state_of names_of
names_in s few = length_rows (name_in s) (cap (word s name_count) name_limit) ∙ cap_le (word s name_count) name_limit few

exprs_in : (s : List ℕ) → word s expr_count ≤ expr_limit → length (module_in s).exprs ≡ word s expr_count
unfolding module_in module_of state_of exprs_of
exprs_in s few = length_rows (made_in s) (cap (word s expr_count) expr_limit) ∙ cap_le (word s expr_count) expr_limit few

-- ---- from an empty table of scopes
-- what a walk of the module begins with
at_first : Module → Scopes
at_first m = record { scopes = root ∷ []; of_expr = replicate (length m.exprs) none }

root_opened : {s a b : List ℕ} → Emptied s a → Walked try_root a tt b → (scopes_in b ≡ at_first (module_in s)) × Neat b
unfolding try_root at_first module_in module_of state_of
root_opened {s} {a} {b} x y =
    let f = y.does x.neat in
    (ap (λ (z : Unit {0} × Scopes). z.1) (f.0 ∙ ap try_root x.is), f.1)

module _ {s a b t : List ℕ} {e : ExprId} (x : Emptied s a) (y : Walked try_root a tt b) (q : e ≡ (module_in b).entry) (z : Walks 0 (λ m. traverse_expr m 0 e) b tt t) where
  before : module_in b ≡ module_in s
  before = module_walked (wrote_then x.wrote y.wrote) (still_then x.still y.still)

  -- the walk that was made is that of the definitions
  walk_is : traverse_expr (module_in b) 0 e (scopes_in b) ≡ traverse_expr (module_in s) 0 (module_in s).entry (at_first (module_in s))
  walk_is = rw (q, before, (root_opened x y).0)

  whole_does : Walkable (module_in s) → (scopes_in t ≡ scopes_of (module_in s)) × Neat t
  unfolding scopes_of at_first
  whole_does can =
      let ready : WalkStart 0 b = record {
        known = omega arith;
        ordered = subst (λ (m : Module). Ordered m.exprs) (sym before) can.ordered;
        neat = (root_opened x y).1;
      } in
      let fits = subst (λ (v : Unit {0} × Scopes). Fits v.1) (sym walk_is) can.room in
      let f = z.does ready fits in
      (ap (λ (v : Unit {0} × Scopes). v.1) (f.0 ∙ walk_is), f.1)

  all_wrote : Wrote walking s t
  all_wrote = wrote_then (wrote_then x.wrote y.wrote) z.wrote

  whole_fits : Walkable (module_in s) → InRange (length (module_in s).names) (length (module_in s).exprs) (scopes_of (module_in s))
      → word s expr_count ≤ expr_limit → word s name_count ≤ name_limit → ScopesFit t
  unfolding walking
  whole_fits can range few_exprs_lem few_names_lem =
      let f = whole_does can in
      let names : length (module_in s).names ≡ word t name_count = names_in s few_names_lem ∙ sym (number_kept all_wrote name_count refl) in
      let exprs : length (module_in s).exprs ≡ word t expr_count = exprs_in s few_exprs_lem ∙ sym (number_kept all_wrote expr_count refl) in
      neat_fits t f.1 (rw (f.0, ← names, ← exprs) range)

  pub scopes_computed : ScopesAll s t
  unfolding walking kept_in
  scopes_computed =
      let still = still_then (still_then x.still y.still) z.still in
      record {
        wrote = all_wrote;
        still = still;
        module_same = module_walked all_wrote still;
        references_same = references_kept all_wrote refl refl;
        spent_same = number_kept all_wrote spent_place refl;
        does = whole_does;
        fits = whole_fits;
      }

-- ---- an accepted sheet
module _ {s t : List ℕ} (computed : ScopesAll s t) (sheet : List ℕ) (judged : judge sheet ≡ accepted (nodes_of s)) (lowered : module_in s ≡ lower_module (nodes_of s)) where
  module_walkable : Walkable (module_in s)
  module_walkable = rw lowered (accepted_walkable sheet (nodes_of s) judged)

  -- THEOREM. Its scopes are those of the definitions.
  pub accepted_scopes : (scopes_in t ≡ scopes_of (module_in s)) × Neat t
  accepted_scopes = computed.does module_walkable

  -- THEOREM. Their bytes pass the check of a store.
  pub accepted_fits : word s expr_count ≤ expr_limit → word s name_count ≤ name_limit → ScopesFit t
  unfolding loaded kept_of
  accepted_fits few_exprs_lem few_names_lem = computed.fits module_walkable (rw lowered (lowered_sound (nodes_of s)).scopes) few_exprs_lem few_names_lem
