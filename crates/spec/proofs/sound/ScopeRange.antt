-- Every parent scope is numbered below its child, and every name, With and scope that is kept is one that there is.
-- Assumes nothing.
use mathlib.Core.Path.{◌≡◌, sym, ap, subst, ◌∙◌}
use mathlib.Core.Bool.{Bool, true, false}
use mathlib.Core.List.{List, [], ◌∷◌, ◌++◌}
use mathlib.Core.Option.{Option, none, some}
use Prim.Native.Nat.{ℕ, zero, suc, ◌<◌, ◌≤◌}
use native.Mathlib.Omega.{arith}
use lib.ListN.{length, get_or, replicate, length-set, length-replicate, get_or-append}
use lib.Seq.{get_or-append_seam}
use Rattle.words.specs.Order.{pick}
use Rattle.spec.specs.Basics.{ExprId, NameId, ScopeId}
use Rattle.spec.specs.Steps.{◌>>=◌, give, each_of}
use Rattle.spec.specs.Module.{BindingValue, Bindings, Module}
use Rattle.spec.specs.Scopes.{ScopeKind, definitions, with_expr, Scope, Scopes, Walk, place_expr, open_scope, open_for, one_or_none, field_names, field_defaults, pat_fields, is_definition, inherited, plain_values, keys_and_values, Form, function, with_body, bound, through, form, name_at, expr_at, defined, traverse_bindings, traverse_lambda, traverse_with, traverse_as, traverse_to, traverse_expr, scopes_of}
use Rattle.spec.specs.Answer.{scope_at}
use Rattle.spec.proofs.general.ListLaws.{length_snoc}
use Rattle.spec.proofs.general.Sums.{All, all_append, all_left, all_right, all_map, compared, all_set}
use Rattle.spec.proofs.once.Once.{walked_by}
use Rattle.spec.proofs.sound.Ordered.{AllBelow, Ordered}
use Rattle.spec.proofs.sound.Walk.{walked_below}
use Rattle.spec.proofs.sound.Numbers.{static_names, name_numbers}

-- ---- scopes where there are x names and e expressions
-- the names entered, or the With expression
abbrev pub KindIn : ℕ → ℕ → ScopeKind → Type 0
KindIn x e (definitions ys) = AllBelow x ys
KindIn x e (with_expr d) = d < e

pub record InRange (x e : ℕ) (w : Scopes) : Type 0 where
  -- a parent scope is numbered below its child
  pub parents : (s : ScopeId) → s < length w.scopes → AllBelow s (one_or_none (scope_at w.scopes s).parent)
  pub kinds : All (λ d. KindIn x e d.kind) w.scopes
  -- every expression has a place for its scope, which is one of the scopes
  pub placed : length w.of_expr ≡ e
  pub places : All (λ o. AllBelow (length w.scopes) (one_or_none o)) w.of_expr

-- ---- steps of walking
module _ (x e : ℕ) where
  record Ranged {A : Type 0} (ids : A → List ScopeId) (w : Scopes) (r : A × Scopes) : Type 0 where
    inside : InRange x e r.1
    longer : length w.scopes ≤ length r.1.scopes
    known : AllBelow (length r.1.scopes) (ids r.0)

  -- a step that stays in range wherever there are n scopes or more, and gives scopes that there are
  record Ranges {A : Type 0} (ids : A → List ScopeId) (n : ℕ) (p : Walk A) : Type 0 where
    ranges : (w : Scopes) → InRange x e w → n ≤ length w.scopes → Ranged ids w (p w)

  abbrev no_scope : {A : Type 0} → A → List ScopeId
  no_scope a = []

  abbrev itself : ScopeId → List ScopeId
  itself s = s ∷ []

  ranges_next : {n : ℕ} {A B : Type 0} {ids : A → List ScopeId} {ids' : B → List ScopeId} {p : Walk A} {f : A → Walk B}
      → Ranges ids n p → ((a : A) (k : ℕ) → n ≤ k → AllBelow k (ids a) → Ranges ids' k (f a)) → Ranges ids' n (p >>= f)
  unfolding ◌>>=◌
  ranges_next {p = p} h g =
      record {
        ranges = λ w r le.
            let a = h.ranges w r le in
            let b = (g (p w).0 (length (p w).1.scopes) (omega (arith, a.longer)) a.known).ranges (p w).1 a.inside (omega arith) in
            record { inside = b.inside; longer = omega (arith, a.longer, b.longer); known = b.known };
      }

  ranges_give : {n : ℕ} {A : Type 0} {ids : A → List ScopeId} (a : A) → AllBelow n (ids a) → Ranges ids n (give a)
  unfolding give
  ranges_give {ids = ids} a b =
      record { ranges = λ w r le. record { inside = r; longer = omega arith; known = all_map _ _ (λ s h. omega arith) (ids a) b } }

  ranges_each : {A : Type 0} (P : A → Type 0) (f : A → Walk (Unit {0})) (n : ℕ) → ((a : A) (k : ℕ) → n ≤ k → P a → Ranges no_scope k (f a))
      → (k : ℕ) → n ≤ k → (as' : List A) → All P as' → Ranges no_scope k (each_of f as')
  unfolding each_of
  ranges_each P f n h k l [] a = ranges_give tt tt
  ranges_each P f n h k l (b ∷ bs) a = ranges_next (h b k l a.0) λ _ j i _. ranges_each P f n h j (omega arith) bs a.1

  place_ranges : (d : ExprId) (s n : ℕ) → s < n → Ranges no_scope n (place_expr d s)
  unfolding place_expr one_or_none
  place_ranges d s n l =
      record {
        ranges = λ w r le.
            record {
              inside = record {
                parents = r.parents;
                kinds = r.kinds;
                placed = length-set w.of_expr d (some s) ∙ r.placed;
                places = all_set _ w.of_expr d (some s) r.places (omega arith, tt);
              };
              longer = omega arith;
              known = tt;
            };
      }

  opened_parents : (ss : List Scope) (k : ScopeKind) (s : ScopeId) → s < length ss → ((t : ScopeId) → t < length ss → AllBelow t (one_or_none (scope_at ss t).parent))
      → (t : ScopeId) → t < length (ss ++ (record { parent = some s; kind = k } ∷ []))
      → AllBelow t (one_or_none (scope_at (ss ++ (record { parent = some s; kind = k } ∷ [])) t).parent)
  unfolding scope_at one_or_none
  opened_parents ss k s l h t i = compared t (length ss) (λ p. last p) (λ n. earlier (let z = length_snoc ss new in omega arith))
    where
      new : Scope
      new = record { parent = some s; kind = k }

      none_there : Scope
      none_there = record { parent = none; kind = definitions [] }

      last : t ≡ length ss → AllBelow t (one_or_none (get_or (ss ++ (new ∷ [])) t none_there).parent)
      last p =
          let q : (get_or (ss ++ (new ∷ [])) (length ss) none_there).parent ≡ some s = ap (λ (d : Scope). d.parent) (get_or-append_seam ss new [] none_there) in
          rw p (subst (λ (o : Option ScopeId). AllBelow (length ss) (one_or_none o)) (sym q) (l, tt))

      earlier : t < length ss → AllBelow t (one_or_none (get_or (ss ++ (new ∷ [])) t none_there).parent)
      earlier j =
          let q : (get_or (ss ++ (new ∷ [])) t none_there).parent ≡ (get_or ss t none_there).parent = ap (λ (d : Scope). d.parent) (get_or-append ss (new ∷ []) none_there t j) in
          subst (λ (o : Option ScopeId). AllBelow t (one_or_none o)) (sym q) (h t j)

  open_ranges : (k : ScopeKind) (s n : ℕ) → s < n → KindIn x e k → Ranges itself n (open_scope k s)
  unfolding open_scope
  open_ranges k s n l h =
      record {
        ranges = λ w r le.
            let new : Scope = record { parent = some s; kind = k } in
            let z = length_snoc w.scopes new in
            record {
              inside = record {
                parents = opened_parents w.scopes k s (omega arith) r.parents;
                kinds = all_append _ w.scopes (new ∷ []) r.kinds (h, tt);
                placed = r.placed;
                places = all_map _ _ (λ o a. all_map _ _ (λ t i. omega arith) (one_or_none o) a) w.of_expr r.places;
              };
              longer = omega arith;
              known = (omega arith, tt);
            };
      }

  for_ranges : (ys : List NameId) (s n : ℕ) → s < n → AllBelow x ys → Ranges itself n (open_for ys s)
  unfolding open_for
  for_ranges [] s n l h = ranges_give s (l, tt)
  for_ranges (y ∷ ys) s n l h = open_ranges (definitions (y ∷ ys)) s n l h

  -- ---- the walkers, over children of which P holds
  defined_below : (m : Module) (bs : List (NameId × BindingValue)) → AllBelow x (static_names bs) → AllBelow x (defined m bs)
  unfolding defined
  defined_below m [] a = tt
  defined_below m (b ∷ bs) a = go (is_definition (name_at m b.0).kind) (defined_below m bs a.1)
    where
      go : (t : Bool) → AllBelow x (defined m bs) → AllBelow x (pick t (b.0 ∷ defined m bs) (defined m bs))
      go true h = (a.0, h)
      go false h = h

  module _ (m : Module) (traverse : ScopeId → ExprId → Walk (Unit {0})) (P : ExprId → Type 0) (step : (s d k : ℕ) → s < k → P d → Ranges no_scope k (traverse s d)) where
    all_ranges : (s : ScopeId) (ds : List ExprId) (n : ℕ) → s < n → All P ds → Ranges no_scope n (each_of (traverse s) ds)
    all_ranges s ds n l a = ranges_each P (traverse s) n (λ d k i p. step s d k (omega arith) p) n (omega arith) ds a

    bindings_ranges : (bs : Bindings) (s n : ℕ) → s < n → All P (inherited bs.statics) → All P (plain_values bs.statics) → All P bs.inherit_froms
        → All P (keys_and_values bs.dynamics) → AllBelow x (static_names bs.statics) → Ranges itself n (traverse_bindings m traverse bs s)
    unfolding traverse_bindings
    bindings_ranges bs s n l i p f d names =
        ranges_next (all_ranges s _ n l i) λ _ k₁ l₁ _.
        ranges_next (for_ranges _ s k₁ (omega arith) (defined_below m bs.statics names)) λ t k₂ l₂ a.
        ranges_next (all_ranges t _ k₂ a.0 p) λ _ k₃ l₃ _.
        ranges_next (all_ranges t _ k₃ (omega (arith, a.0)) f) λ _ k₄ l₄ _.
        ranges_next (all_ranges t _ k₄ (omega (arith, a.0)) d) λ _ k₅ l₅ _. ranges_give t (omega (arith, a.0), tt)

    as_ranges : (own : ExprId) (f : Form) (s n : ℕ) → own < e → s < n → All P (walked_by f) → AllBelow x (name_numbers f)
        → Ranges no_scope n (traverse_as m traverse own f s)
    unfolding traverse_as traverse_lambda traverse_with
    as_ranges own (function y p b) s n o l a names =
        ranges_next (for_ranges (one_or_none y ++ field_names (pat_fields p)) s n l names) λ t k₁ _ i.
        ranges_next (all_ranges t (field_defaults (pat_fields p)) k₁ i.0 (all_left _ (field_defaults (pat_fields p)) (b ∷ []) a)) λ _ k₂ l₂ _.
        step t b k₂ (omega (arith, i.0)) (all_right _ (field_defaults (pat_fields p)) (b ∷ []) a).0
    as_ranges own (with_body d b) s n o l a names =
        ranges_next (step s d n l a.0) λ _ k₁ l₁ _. ranges_next (open_ranges (with_expr own) s k₁ (omega arith) o) λ t k₂ _ i. step t b k₂ i.0 a.1.0
    as_ranges own (bound bs body) s n o l a names =
        let i = inherited bs.statics in
        let p = plain_values bs.statics in
        let f = bs.inherit_froms in
        let d = keys_and_values bs.dynamics in
        let a₁ = all_right P i (p ++ (f ++ (d ++ one_or_none body))) a in
        let a₂ = all_right P p (f ++ (d ++ one_or_none body)) a₁ in
        let a₃ = all_right P f (d ++ one_or_none body) a₂ in
        ranges_next
        (bindings_ranges bs s n l (all_left P i (p ++ (f ++ (d ++ one_or_none body))) a) (all_left P p (f ++ (d ++ one_or_none body)) a₁)
        (all_left P f (d ++ one_or_none body) a₂) (all_left P d (one_or_none body) a₃) names)
        λ t k _ j. all_ranges t (one_or_none body) k j.0 (all_right P d (one_or_none body) a₃)
    as_ranges own (through ds) s n o l a names = all_ranges s ds n l a

-- ---- a module in order, whose rows name its names
module _ (m : Module) (order : Ordered m.exprs) (names : (d : ExprId) → AllBelow (length m.names) (name_numbers (form (expr_at m d)))) where
  to_ranges : (b s d n : ℕ) → d < length m.exprs → s < n
      → Ranges (length m.names) (length m.exprs) (no_scope (length m.names) (length m.exprs)) n (traverse_to m b s d)
  unfolding traverse_to
  to_ranges zero s d n i l = ranges_give _ _ tt tt
  to_ranges (suc b) s d n i l =
      ranges_next _ _ (place_ranges _ _ d s n l) λ _ k l' _.
      as_ranges _ _ m (traverse_to m b) (λ c. c < d) (λ t c j h p. to_ranges b t c j (omega arith) h) d (form (expr_at m d)) s k i (omega arith) (walked_below m order d) (names d)

  all_none : (n k : ℕ) → All (λ o. AllBelow n (one_or_none o)) (replicate k none)
  unfolding one_or_none
  all_none n zero = tt
  all_none n (suc k) = (tt, all_none n k)

  -- THEOREM. The scopes of such a module are in range.
  pub scopes_in_range : m.entry < length m.exprs → InRange (length m.names) (length m.exprs) (scopes_of m)
  unfolding scopes_of traverse_expr scope_at one_or_none
  scopes_in_range i =
      let root : Scope = record { parent = none; kind = definitions [] } in
      let start : Scopes = record { scopes = root ∷ []; of_expr = replicate (length m.exprs) none } in
      ((to_ranges (suc m.entry) 0 m.entry 1 i (omega arith)).ranges start
      (record { parents = first; kinds = (tt, tt); placed = length-replicate (length m.exprs) none; places = all_none 1 (length m.exprs) })
      (omega arith)).inside
    where
      first : (s : ScopeId) → s < 1 → AllBelow s (one_or_none (scope_at (record { parent = none; kind = definitions [] } ∷ []) s).parent)
      first zero l = tt
      first (suc s) l = absurd (omega arith)
