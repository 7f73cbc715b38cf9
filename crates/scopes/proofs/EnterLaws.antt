-- Names enter, one after the other. Assumes nothing.
use mathlib.Core.Path.{◌≡◌, refl, sym, ap, subst, ◌∙◌}
use mathlib.Core.List.{List, [], ◌∷◌, ◌++◌, append_assoc, append-nil}
use mathlib.Core.Option.{Option, none, some}
use Prim.Native.Nat.{ℕ, ◌+◌, ◌≤◌, ◌<◌}
use native.Mathlib.Omega.{arith}
use lib.ListN.{length, take, get_or, length-append}
use lib.Seq.{length-take-le}
use Rattle.spec.specs.Basics.{ExprId, NameId}
use Rattle.spec.specs.Module.{Module}
use Rattle.spec.specs.Scopes.{one_or_none, field_names, pat_fields}
use Rattle.module.specs.declared.expr.Pattern.{Pattern}
use Rattle.layout.specs.Exprs.{Item, child}
use Rattle.layout.specs.States.{module_in}
use Rattle.layout.proofs.Frames.{wrote_none, wrote_then}
use Rattle.layout.proofs.WriteLaws.{still_then}
use Rattle.rows.specs.Decoded.{pattern_with}
use Rattle.rows.specs.Readers.{items_at_expr, item_at_expr}
use Rattle.kept.specs.Walks.{walking, waiting_names, Waits}
use Rattle.scopes.specs.declared.enters.Names.{Names}
use Rattle.scopes.specs.Entering.{entered, Enters}
use Rattle.scopes.proofs.Steps.{module_walked}
use Rattle.scopes.proofs.ItemLaws.{items_walked, entered_more, entered_none, entered_few}

pub enters_none : (n : ℕ) (s : List ℕ) → Enters n [] s n s
enters_none n s = record {
  wrote = wrote_none walking s;
  still = record { same = refl; used = refl };
  same = λ neat. (refl, neat);
  used = refl;
  counted = omega arith;
  waits = λ h. sym (append-nil (waiting_names s n));
}

pub enters_one : {n x : ℕ} {s t : List ℕ} → Waits n x s t → Enters n (x ∷ []) s (n + 1) t
enters_one w = record {
  wrote = w.wrote;
  still = w.still;
  same = w.same;
  used = w.used;
  counted = omega arith;
  waits = λ h. w.waits (omega arith);
}

pub enters_then : {n k r : ℕ} {xs ys : List NameId} {s u t : List ℕ} → Enters n xs s k u → Enters k ys u r t → Enters n (xs ++ ys) s r t
enters_then {n} {k} {r} {xs} {ys} {s} {u} {t} x y = record {
  wrote = wrote_then x.wrote y.wrote;
  still = still_then x.still y.still;
  same = λ neat. let a = x.same neat in let b = y.same a.1 in (b.0 ∙ a.0, b.1);
  used = y.used ∙ x.used;
  counted = omega (arith, x.counted, y.counted, length-append xs ys);
  waits = λ h.
      y.waits (rw x.used h)
      ∙ (ap (λ (zs : List NameId). zs ++ ys) (x.waits (omega (arith, h, y.counted))) ∙ append_assoc (waiting_names s n) xs ys);
}

-- ---- a parameter and then the fields
pub few_params : (x : Option NameId) {s t : List ℕ} {r : ℕ} → Enters 0 (one_or_none x) s r t → r ≤ 1
unfolding one_or_none
few_params none w = omega (arith, w.counted)
few_params (some x) w = omega (arith, w.counted)

pub enters_lambda : (e : ExprId) (p : Pattern) {xs : List NameId} {s u t : List ℕ} {k r : ℕ} → Enters 0 xs s k u → Enters k (field_names (pat_fields (pattern_with p (items_at_expr u e)))) u r t
    → Enters 0 (xs ++ field_names (pat_fields (pattern_with p (items_at_expr s e)))) s r t
enters_lambda e p {s = s} {u} {t} {k} {r} x y =
    enters_then x (subst (λ (is : List Item). Enters k (field_names (pat_fields (pattern_with p is))) u r t) (items_walked x.wrote x.still e) y)

-- ---- the loop over the items
pub enters_start : (names : Names) (m : Module) (n : ℕ) (e : ExprId) (s : List ℕ) → Enters n (entered names m (take 0 (items_at_expr s e))) s n s
enters_start names m n e s = rw (entered_none names m) (enters_none n s)

module _ (names : Names) (e : ExprId) {s u : List ℕ} {n k i c : ℕ} (counted : c ≡ length (items_at_expr s e)) (x : Enters n (entered names (module_in s) (take i (items_at_expr s e))) s k u) where
  pub enters_bound : i < c → k ≤ n + i
  enters_bound h =
      omega (arith, x.counted, entered_few names (module_in s) (take i (items_at_expr s e)), length-take-le i (items_at_expr s e) (omega (arith, h, counted)))

  pub enters_turn : {t : List ℕ} {r : ℕ} (xs : List NameId) → i < c → xs ≡ entered names (module_in u) (item_at_expr u e i ∷ []) → Enters k xs u r t → Enters n (entered names (module_in s) (take (i + 1) (items_at_expr s e))) s r t
  unfolding item_at_expr
  enters_turn {t} {r} xs h q y =
      let same : item_at_expr u e i ≡ item_at_expr s e i = ap (λ (is : List Item). get_or is i (child 0)) (items_walked x.wrote x.still e) in
      let q' : xs ≡ entered names (module_in s) (item_at_expr s e i ∷ []) = q ∙ (ap (λ (j : Item). entered names (module_in u) (j ∷ [])) same ∙ ap (λ (m : Module). entered names m (item_at_expr s e i ∷ [])) (module_walked x.wrote x.still)) in
      subst (λ (ys : List NameId). Enters n ys s r t) (sym (entered_more names (module_in s) s e i (omega (arith, h, counted)))) (enters_then x (subst (λ (ys : List NameId). Enters k ys u r t) q' y))
