-- Placing and opening test their limits; where there is room they do what the definitions say. Assumes nothing.
use mathlib.Core.Path.{◌≡◌, refl, sym, ap, subst, ◌∙◌}
use mathlib.Core.Bool.{true}
use mathlib.Core.List.{List, [], ◌∷◌, ◌++◌}
use mathlib.Core.Option.{some}
use Prim.Native.Nat.{ℕ, zero, suc, ◌+◌, ◌*◌, ◌≤◌, ◌<◌}
use native.Mathlib.Omega.{arith}
use lib.ListN.{length, length-append}
use borrow.Author.Tests.{lt-ltb, le-leb}
use Rattle.words.specs.Words.{word}
use Rattle.spec.specs.Basics.{ExprId, NameId, ScopeId}
use Rattle.spec.specs.Steps.{give}
use Rattle.spec.specs.Module.{Module}
use Rattle.spec.specs.Scopes.{ScopeKind, definitions, with_expr, Scopes, Walk, place_expr, open_scope, open_for}
use Rattle.layout.specs.Layout.{entered_at, expr_limit, name_limit, scope_limit}
use Rattle.layout.specs.Rows.{rows_to}
use Rattle.layout.specs.States.{module_in}
use Rattle.layout.specs.Keeps.{scopes_in}
use Rattle.layout.proofs.RowLaws.{length_rows}
use Rattle.layout.proofs.Frames.{wrote_none, wrote_then}
use Rattle.layout.proofs.WriteLaws.{still_then}
use Rattle.kept.specs.Walks.{names_entered, entered_by, kind_fits, try_open, try_place, walking, used_names, waiting_names, Walked}
use Rattle.kept.proofs.NeatLaws.{neat_all}
use Rattle.scopes.specs.Walking.{Fits, Walks}
use Rattle.scopes.specs.Entering.{Enters, try_for}
use Rattle.scopes.proofs.Growth.{entered_append}

-- a step that tests is the step of the definitions
tested : {A : Type 0} {scope : ScopeId} {p q : Walk A} {s t : List ℕ} {r : A} → ((w : Scopes) → scope < scope_limit → Fits (q w).1 → p w ≡ q w) → Walked p s r t → Walks scope (λ m. q) s r t
tested {s = s} h x = record {
  wrote = x.wrote;
  still = x.still;
  does = λ ready fits. let f = x.does ready.neat in (f.0 ∙ h (scopes_in s) ready.known fits, f.1);
}

-- ---- placing
pub placed : (e : ExprId) {scope : ScopeId} {s t : List ℕ} → Walked (try_place e scope) s tt t → Walks scope (λ m. place_expr e scope) s tt t
unfolding try_place
placed e {scope} x = tested (λ w h fits. rw (lt-ltb scope scope_limit h)) x

-- ---- opening
-- the names of all scopes when one is opened
opened_names : (k : ScopeKind) (scope : ScopeId) (w : Scopes) → entered_by (open_scope k scope w).1.scopes ≡ entered_by w.scopes + length (names_entered k)
unfolding open_scope entered_by
opened_names k scope w = omega (arith, entered_append w.scopes (record { parent = some scope; kind = k } ∷ []))

open_fits : (k : ScopeKind) (scope : ScopeId) (w : Scopes) → scope < scope_limit → Fits (open_scope k scope w).1 → kind_fits w.scopes k ≡ true → try_open k scope w ≡ open_scope k scope w
unfolding try_open open_scope
open_fits k scope w h fits e =
    let l : length w.scopes < scope_limit = omega (arith, fits.few_scopes_lem, length-append w.scopes (record { parent = some scope; kind = k } ∷ [])) in
    rw (lt-ltb (length w.scopes) scope_limit l, lt-ltb scope scope_limit h, e)

with_fits : (e scope : ℕ) (w : Scopes) → e < expr_limit → scope < scope_limit → Fits (open_scope (with_expr e) scope w).1 → try_open (with_expr e) scope w ≡ open_scope (with_expr e) scope w
unfolding kind_fits
with_fits e scope w l h fits = open_fits (with_expr e) scope w h fits (lt-ltb e expr_limit l)

names_fit_lem : (xs : List NameId) (scope : ScopeId) (w : Scopes) → scope < scope_limit → Fits (open_scope (definitions xs) scope w).1 → try_open (definitions xs) scope w ≡ open_scope (definitions xs) scope w
unfolding kind_fits names_entered
names_fit_lem xs scope w h fits = open_fits (definitions xs) scope w h fits (le-leb (entered_by w.scopes + length xs) name_limit (omega (arith, fits.few_names_lem, opened_names (definitions xs) scope w)))

pub with_opened : (e : ExprId) {scope : ScopeId} {s t : List ℕ} {r : ScopeId} → e < expr_limit → Walked (try_open (with_expr e) scope) s r t → Walks scope (λ m. open_scope (with_expr e) scope) s r t
with_opened e {scope} l x = tested (λ w h fits. with_fits e scope w l h fits) x

-- ---- a scope for names, if there is one
for_fits : (xs : List NameId) (scope : ScopeId) (w : Scopes) → scope < scope_limit → Fits (open_for xs scope w).1 → try_for xs scope w ≡ open_for xs scope w
unfolding try_for open_for
for_fits [] scope w h fits = refl
for_fits (x ∷ xs) scope w h fits = names_fit_lem (x ∷ xs) scope w h fits

for_room : (xs : List NameId) (scope : ScopeId) (w : Scopes) → Fits (open_for xs scope w).1 → entered_by w.scopes + length xs ≤ name_limit
unfolding open_for give names_entered
for_room [] scope w fits = omega (arith, fits.few_names_lem)
for_room (x ∷ xs) scope w fits = omega (arith, fits.few_names_lem, opened_names (definitions (x ∷ xs)) scope w)

for_some : (xs : List NameId) (scope : ScopeId) → 0 < length xs → try_for xs scope ≡ try_open (definitions xs) scope
unfolding try_for
for_some [] scope h = absurd (omega arith)
for_some (x ∷ xs) scope h = refl

none_waiting : (s : List ℕ) → waiting_names s 0 ≡ []
unfolding waiting_names rows_to
none_waiting s = refl

length_waiting : (s : List ℕ) (n : ℕ) → length (waiting_names s n) ≡ n
unfolding waiting_names
length_waiting s n = length_rows (λ k. word s (entered_at + 4 * (used_names s + k))) n

pub for_none : (n : ℕ) (scope : ScopeId) (s : List ℕ) → n ≡ 0 → Walked (try_for (waiting_names s n) scope) s scope s
unfolding try_for give
for_none n scope s e = rw (e, none_waiting s) (record { wrote = wrote_none walking s; still = record { same = refl; used = refl }; does = λ neat. (refl, neat) })

pub for_opened : (n : ℕ) (scope : ScopeId) {s t : List ℕ} {r : ScopeId} → (n ≡ 0 → ⊥) → Walked (try_open (definitions (waiting_names s n)) scope) s r t → Walked (try_for (waiting_names s n) scope) s r t
for_opened n scope {s} {t} {r} h x =
    let l : 0 < length (waiting_names s n) = rw (length_waiting s n) (positive n h) in
    subst (λ (p : Walk ScopeId). Walked p s r t) (sym (for_some (waiting_names s n) scope l)) x
  where
    positive : (n : ℕ) → (n ≡ 0 → ⊥) → 0 < n
    positive zero h = absurd (h refl)
    positive (suc n) h = omega arith

-- the names wait, and a scope is opened for them
pub opened_for : (xs : List NameId) (p : Module → Walk ScopeId) {scope : ScopeId} {s u t : List ℕ} {n : ℕ} {r : ScopeId} → p (module_in s) ≡ open_for xs scope
    → Enters 0 xs s n u → Walked (try_for (waiting_names u n) scope) u r t → Walks scope p s r t
opened_for xs p {scope} {s} {u} {t} {n} {r} e x y = record {
  wrote = wrote_then x.wrote y.wrote;
  still = still_then x.still y.still;
  does = λ ready fits.
      let w = scopes_in s in
      let fits' : Fits (open_for xs scope w).1 = subst (λ (q : Walk ScopeId). Fits (q w).1) e fits in
      let same = x.same ready.neat in
      let f = y.does same.1 in
      let waits : waiting_names u n ≡ xs = x.waits (omega (arith, x.counted, neat_all s ready.neat, for_room xs scope w fits')) ∙ ap (λ (zs : List NameId). zs ++ xs) (none_waiting s) in
      let is : try_for (waiting_names u n) scope (scopes_in u) ≡ try_for xs scope w = rw (waits, same.0) in
      (f.0 ∙ (is ∙ (for_fits xs scope w ready.known fits' ∙ ap (λ (q : Walk ScopeId). q w) (sym e))), f.1);
}
