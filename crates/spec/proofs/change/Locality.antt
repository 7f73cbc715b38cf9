-- A changed text of a Reference moves its own answer only, that of a name only answers of References that bear the old
-- or new text and reach it. Assumes nothing.
use mathlib.Core.Path.{◌≡◌, refl, ap}
use mathlib.Core.Logic.{◌≢◌}
use mathlib.Core.Bool.{Bool, true, false, ◌||◌, ◌&&◌}
use mathlib.Core.List.{List, [], ◌∷◌}
use mathlib.Core.Option.{Option, none, some}
use Prim.Native.Nat.{ℕ, zero, suc, ◌+◌, ◌<◌, ◌≤◌}
use native.Mathlib.Nat.{zero-add, add-zero, add-suc, suc-add}
use native.Mathlib.Omega.{arith}
use lib.Dec.{eqb, ltb}
use lib.ListN.{length}
use lib.Seq.{set_out, set-get_or, get_or-set_same, get_or-set_other}
use borrow.Author.Tests.{eqb-true, eqb-false, ltb-true, ltb-false}
use Rattle.words.specs.Equality.{equalb}
use Rattle.spec.specs.Basics.{Text, ExprId, NameId, ScopeId}
use Rattle.spec.specs.Module.{Expr, missing, apply, if_then_else, literal, lambda, let_in, list, bin_op, attr_set, unary_op, reference, select, has_attr, with_in, assert_in, string_interpolation, path_interpolation, Made, Name, Module}
use Rattle.spec.specs.Scopes.{Scope, Scopes, made_at, expr_at, name_at, is_in, holds, holder, holder_from}
use Rattle.spec.specs.Answer.{scope_at, text_of_name, reference_text, scope_of_expr, answer_of, answer}
use Rattle.spec.specs.Calls.{Place, at_name, at_reference, set_name, set_reference, set_place}
use Rattle.spec.specs.Moved.{bears, within, may_move}
use Rattle.spec.specs.Demand.{HeldOnce}
use Rattle.spec.proofs.general.BoolLaws.{differ, neither}
use Rattle.spec.proofs.change.Chain.{InReach, answer_at_same}

-- what has a Reference's text is that Reference
pub is_reference : (d : Expr) (t : Text) → reference_text d ≡ some t → d ≡ reference t
unfolding reference_text
is_reference missing t h = cc
is_reference (apply f a) t h = cc
is_reference (if_then_else c a b) t h = cc
is_reference (literal l) t h = cc
is_reference (lambda x p b) t h = cc
is_reference (let_in bs b) t h = cc
is_reference (list es) t h = cc
is_reference (bin_op l r op) t h = cc
is_reference (attr_set r bs) t h = cc
is_reference (unary_op op e) t h = cc
is_reference (reference u) t h = cc
is_reference (select s p d) t h = cc
is_reference (has_attr s p) t h = cc
is_reference (with_in e b) t h = cc
is_reference (assert_in c b) t h = cc
is_reference (string_interpolation ps) t h = cc
is_reference (path_interpolation ps) t h = cc

-- ---- a Reference's text
module _ (m : Module) (n : ExprId) (t : Text) where
  -- the expression of another number is as it was
  expr_at_other : (e : ExprId) → e ≢ n → expr_at (set_reference n t m) e ≡ expr_at m e
  unfolding expr_at made_at set_reference
  expr_at_other e h = ap (λ (d : Made). d.expr) (get_or-set_other m.exprs n e _ _ h)

  -- the one of this number has the text
  pub reference_set : n < length m.exprs → reference_text (expr_at (set_reference n t m) n) ≡ some t
  unfolding expr_at made_at set_reference reference_text
  reference_set h = ap (λ (d : Made). reference_text d.expr) (get_or-set_same m.exprs n _ _ h)

  -- THEOREM. A changed Reference moves no answer but its own.
  pub reference_moves_itself : (w : Scopes) (e : ExprId) → e ≢ n → answer (set_reference n t m) w e ≡ answer m w e
  unfolding answer answer_of text_of_name name_at set_reference
  reference_moves_itself w e h = rw (expr_at_other e h)

  -- THEOREM. To set the text that a Reference bears leaves the module as it is.
  pub reference_equal : reference_text (expr_at m n) ≡ some t → set_reference n t m ≡ m
  unfolding expr_at set_reference made_at
  reference_equal h =
      let with : List Made → Module =
      λ ds. record { entry = m.entry; exprs = ds; names = m.names; diagnostics = m.diagnostics; lost = m.lost } in
      rw (← is_reference (expr_at m n) t h) (ap with (set-get_or m.exprs n _))

-- ---- a name's text
-- THEOREM. To set the text that a name has leaves the module as it is.
pub name_equal : (m : Module) (x : NameId) → set_name x (name_at m x).text m ≡ m
unfolding set_name name_at
name_equal m x =
    let with : List Name → Module =
    λ ns. record { entry = m.entry; exprs = m.exprs; names = ns; diagnostics = m.diagnostics; lost = m.lost } in
    ap with (set-get_or m.names x _)

module _ (m : Module) (x : NameId) (t : Text) where
  -- past the names there is nothing to set
  pub set_name_past : length m.names ≤ x → set_name x t m ≡ m
  unfolding set_name
  set_name_past h = rw (set_out m.names x)

  -- another name reads as it did
  pub text_other : (y : NameId) → y ≢ x → text_of_name (set_name x t m) y ≡ text_of_name m y
  unfolding text_of_name name_at set_name
  text_other y h = ap (λ (d : Name). d.text) (get_or-set_other m.names x y _ _ h)

  -- the name reads as it was set
  pub text_set : x < length m.names → text_of_name (set_name x t m) x ≡ t
  unfolding text_of_name name_at set_name
  text_set h = ap (λ (d : Name). d.text) (get_or-set_same m.names x _ _ h)

  -- a text that is neither the old one nor the new is borne by the same names as before
  unborne : (u : Text) → equalb (name_at m x).text u ≡ false → equalb t u ≡ false → (y : NameId)
      → equalb (text_of_name (set_name x t m) y) u ≡ equalb (text_of_name m y) u
  unfolding text_of_name
  unborne u old new y = go (eqb y x) refl
    where
      there : (b : Bool) → ltb x (length m.names) ≡ b → equalb (text_of_name (set_name x t m) x) u ≡ equalb (text_of_name m x) u
      there true p = rw (text_set (ltb-true x (length m.names) p), new, old)
      there false p = rw (set_name_past (ltb-false x (length m.names) p))

      go : (b : Bool) → eqb y x ≡ b → equalb (text_of_name (set_name x t m) y) u ≡ equalb (text_of_name m y) u
      go true p = rw (eqb-true y x p) (there (ltb x (length m.names)) refl)
      go false p = rw (text_other y (eqb-false y x p))

  module _ (w : Scopes) (e : ExprId) where
    -- an answer stays if the names in reach that bear its text do
    answer_stays : ((u : Text) → reference_text (expr_at m e) ≡ some u → (y : NameId) → InReach w.scopes (scope_of_expr w e) y
        → equalb (text_of_name (set_name x t m) y) u ≡ equalb (text_of_name m y) u)
        → answer (set_name x t m) w e ≡ answer m w e
    unfolding answer answer_of expr_at made_at set_name
    answer_stays h = go (reference_text (expr_at m e)) h
      where
        go : (o : Option Text)
            → ((u : Text) → o ≡ some u → (y : NameId) → InReach w.scopes (scope_of_expr w e) y
            → equalb (text_of_name (set_name x t m) y) u ≡ equalb (text_of_name m y) u)
            → answer_of (set_name x t m) w e o ≡ answer_of m w e o
        go none k = refl
        go (some u) k = rw (answer_at_same (text_of_name (set_name x t m)) (text_of_name m) u w.scopes (scope_of_expr w e) (k u refl))

    -- THEOREM. The answer of a Reference that bears neither the old nor the new text stays; so does that of what is no
    -- Reference.
    pub unborne_stays : bears (name_at m x).text (reference_text (expr_at m e)) || bears t (reference_text (expr_at m e)) ≡ false
        → answer (set_name x t m) w e ≡ answer m w e
    unfolding bears
    unborne_stays h = answer_stays λ u p y held. go u (rw p at h) y
      where
        go : (u : Text) → bears (name_at m x).text (some u) || bears t (some u) ≡ false → (y : NameId)
            → equalb (text_of_name (set_name x t m) y) u ≡ equalb (text_of_name m y) u
        go u q = let n = neither (equalb (name_at m x).text u) (equalb t u) q in unborne u n.0 n.1

    -- THEOREM. The answer of a Reference that does not have the name in reach stays.
    pub unreached_stays : ¬ InReach w.scopes (scope_of_expr w e) x → answer (set_name x t m) w e ≡ answer m w e
    unreached_stays h = answer_stays λ u p y held. rw (text_other y λ q. h (rw q at held))

-- ---- the scope that holds a name
-- there is a scope of every number that holds something
holds_within : (x : NameId) (ss : List Scope) (s : ScopeId) → holds x (scope_at ss s).kind ≡ true → s < length ss
unfolding scope_at holds is_in
holds_within x [] s h = differ (cc)
holds_within x (k ∷ ks) zero h = omega arith
holds_within x (k ∷ ks) (suc s) h = let i = holds_within x ks s h in omega arith

-- if a scope holds the name, a scope that holds it is found
finds_holder : (x : NameId) (i : ℕ) (ss : List Scope) (s : ScopeId) → holds x (scope_at ss s).kind ≡ true
    → (h : ℕ) × (holds x (scope_at ss h).kind ≡ true) × (holder_from x i ss ≡ some (i + h))
unfolding scope_at holds is_in holder_from
finds_holder x i [] s p = differ (cc)
finds_holder x i (k ∷ ks) zero p = (0, p, rw (p, add-zero))
finds_holder x i (k ∷ ks) (suc s) p = go (finds_holder x (suc i) ks s p) (holds x k.kind) refl
  where
    go : (h : ℕ) × (holds x (scope_at ks h).kind ≡ true) × (holder_from x (suc i) ks ≡ some (suc i + h)) → (b : Bool) → holds x k.kind ≡ b
        → (h : ℕ) × (holds x (scope_at (k ∷ ks) h).kind ≡ true) × (holder_from x i (k ∷ ks) ≡ some (i + h))
    go r true q = (0, q, rw (q, add-zero))
    go r false q = (suc r.0, r.1, rw (q, add-suc, ← suc-add) r.2)

module _ (w : Scopes) (once : HeldOnce w) where
  -- where a name is in reach, the scope that holds it is the scope in question or one around it
  reached_within : (x : NameId) (s : Option ScopeId) → InReach w.scopes s x → within w (holder w x) s ≡ true
  unfolding holder within
  reached_within x none r = absurd r
  reached_within x (some s) r = go (finds_holder x 0 w.scopes r.0 r.2)
    where
      go : (h : ℕ) × (holds x (scope_at w.scopes h).kind ≡ true) × (holder_from x 0 w.scopes ≡ some (0 + h)) → within w (holder w x) (some s) ≡ true
      go h =
          let same = once x h.0 r.0 (holds_within x w.scopes h.0 h.1) (holds_within x w.scopes r.0 r.2) h.1 r.2 in
          rw (h.2, zero-add, same) r.1

  -- THEOREM. A changed text moves only what it may: that of a Reference its own answer, that of a name answers of
  -- References that bear its old or new text and whose scope is the name's scope or inside it.
  pub place_stays : (m : Module) (p : Place) (t : Text) (e : ExprId) → may_move m w p t e ≡ false → answer (set_place t p m) w e ≡ answer m w e
  unfolding may_move
  place_stays m (at_reference n) t e h = reference_moves_itself m n t w e (eqb-false e n h)
  place_stays m (at_name x) t e h = go (bears (name_at m x).text u || bears t u) (within w (holder w x) (scope_of_expr w e)) refl refl h
    where
      u : Option Text
      u = reference_text (expr_at m e)

      go : (a b : Bool) → bears (name_at m x).text u || bears t u ≡ a → within w (holder w x) (scope_of_expr w e) ≡ b → a && b ≡ false
          → answer (set_name x t m) w e ≡ answer m w e
      go true true p q r = differ r
      go true false p q r = unreached_stays m x t w e (λ i. differ (cc (reached_within x (scope_of_expr w e) i)))
      go false b p q r = unborne_stays m x t w e p
