-- What a store keeps is sound (docs/RULES.md, "The condition of a store"), after a load and after every call: no number
-- outside its list, child expressions below their parents, parent scopes below their children. Assumes nothing.
use mathlib.Core.Path.{◌≡◌, refl, sym, ap, subst, ◌∙◌}
use mathlib.Core.Bool.{Bool, true, false}
use mathlib.Core.List.{List, [], ◌∷◌, ◌++◌}
use mathlib.Core.Option.{Option, none, some}
use Prim.Native.Nat.{ℕ, suc, ◌+◌, ◌<◌}
use native.Mathlib.Omega.{arith}
use lib.Dec.{ltb}
use lib.ListN.{length, get_or, set, length-set, get_or-eq_default}
use lib.Seq.{get_or-set_same, get_or-set_other}
use borrow.Author.Tests.{ltb-true, ltb-false}
use Rattle.words.specs.Order.{pick}
use Rattle.words.specs.Equality.{equalb}
use Rattle.spec.specs.Basics.{Text, ExprId, NameId, ScopeId, maybe}
use Rattle.spec.specs.Sheet.{Node, accepted}
use Rattle.spec.specs.Tree.{judge}
use Rattle.spec.specs.Module.{BindingValue, expr, inherit, inherit_from, Expr, missing, reference, Made, Module}
use Rattle.spec.specs.Lower.{lower_module}
use Rattle.spec.specs.Scopes.{ScopeKind, definitions, with_expr, Scope, Scopes, one_or_none, if_inherited, inherited, if_plain, plain_values, keys_and_values, Form, function, with_body, bound, through, form, expr_at, made_at, scopes_of}
use Rattle.spec.specs.Answer.{Answer, unresolved, definition, builtin, withs, builtins, index_from, scope_at, chain, last_with, defined_in, innermost, if_with, withs_of, some_withs, after_builtins, after_definitions, answer_in, answer_at, answer_of, answer, means, reference_text, references_from, references}
use Rattle.spec.specs.Calls.{Condition, Call, ask_reference, ask_name, change_reference, change_name, is_accepted, Place, at_name, at_reference, old_text, new_text, set_reference, set_name, set_place}
use Rattle.spec.specs.Moved.{may_move}
use Rattle.spec.specs.Kept.{Kept, tabulate, answers_afresh, references_afresh, kept_of, loaded, kept_answer, kept_references, resolved_again, moved_by, answered_with, listed_again, changed_to, kept_with, changed, kept_moved, kept_outcome, kept_after}
use Rattle.spec.proofs.general.ListLaws.{length_tabulate}
use Rattle.spec.proofs.general.Sums.{All, all_append, all_left, all_right, all_map, compared, all_get_d}
use Rattle.spec.proofs.once.Once.{walked_by}
use Rattle.spec.proofs.sound.Ordered.{AllBelow, Ordered, lowered_ordered, at}
use Rattle.spec.proofs.sound.Walk.{walked_below}
use Rattle.spec.proofs.change.Locality.{is_reference}
use Rattle.spec.proofs.change.Incremental.{reference_there, reference_known}
use Rattle.spec.proofs.sound.Numbers.{value_number, static_values, expr_numbers, bindings_of, Referring, Right, StaticRight, Row}
use Rattle.spec.proofs.sound.Ranged.{lowered_rows}
use Rattle.spec.proofs.sound.ScopeRange.{KindIn, InRange, scopes_in_range}

-- an answer where there are x names and e expressions
abbrev pub AnswerIn : ℕ → ℕ → Answer → Type 0
AnswerIn x e unresolved = Unit {0}
AnswerIn x e (definition y) = y < x
AnswerIn x e (builtin i) = i < 22
AnswerIn x e (withs es) = AllBelow e es

pub record Sound (k : Kept) : Type 0 where
  pub entry : k.lowered.entry < length k.lowered.exprs
  -- every expression that an expression names is numbered below it
  pub children : (e : ExprId) → AllBelow e (expr_numbers (form (expr_at k.lowered e)))
  -- every name that it names is one of the names, and every value that it inherits is a Reference or such a Select
  pub rows : (e : ExprId) → Row (length k.lowered.names) e k.lowered.exprs (form (expr_at k.lowered e))
  -- parents below their children; names entered, Withs and the scopes of expressions in their lists; a place for every
  -- expression
  pub scopes : InRange (length k.lowered.names) (length k.lowered.exprs) k.scopes
  -- a place for the answer of every expression; definitions, built-in names and Withs in their lists
  pub answered : length k.answers ≡ length k.lowered.exprs
  pub answers : All (λ a. All (AnswerIn (length k.lowered.names) (length k.lowered.exprs)) (one_or_none a)) k.answers
  -- a place for the references of every name, each of them an expression
  pub referred : length k.references ≡ length k.lowered.names
  pub references : All (AllBelow (length k.lowered.exprs)) k.references

-- ---- rows
-- what is not walked is inherited
values_below : (n : ℕ) (x : ℕ) (es : List Made) (froms : List ExprId) (bs : List (NameId × BindingValue)) → AllBelow n (inherited bs) → AllBelow n (plain_values bs)
    → All (StaticRight x n es froms) bs → AllBelow n (static_values bs)
unfolding inherited plain_values if_inherited if_plain
values_below n x es froms [] i p r = tt
values_below n x es froms (b ∷ bs) i p r =
    let i' = all_right (λ c. c < n) (if_inherited b.1) (inherited bs) i in
    let p' = all_right (λ c. c < n) (if_plain b.1) (plain_values bs) p in
    (one b.1 p r.0.1, values_below n x es froms bs i' p' r.1)
  where
    one : (v : BindingValue) → AllBelow n (if_plain v ++ plain_values bs) → Right n es froms v → value_number v < n
    one (expr e) q h = q.0
    one (inherit e) q h = h.0
    one (inherit_from e) q h = h.0

numbers_below : (n x : ℕ) (es : List Made) (f : Form) → AllBelow n (walked_by f) → Row x n es f → AllBelow n (expr_numbers f)
numbers_below n x es (function y p b) a r = a
numbers_below n x es (with_body e b) a r = a
numbers_below n x es (bound bs body) a r =
    let rest = bs.inherit_froms ++ (keys_and_values bs.dynamics ++ one_or_none body) in
    let a₁ = all_right (λ c. c < n) (inherited bs.statics) (plain_values bs.statics ++ rest) a in
    all_append _ (static_values bs.statics) rest
    (values_below n x es bs.inherit_froms bs.statics (all_left _ (inherited bs.statics) (plain_values bs.statics ++ rest) a) (all_left _ (plain_values bs.statics) rest a₁) r.bindings.0)
    (all_right (λ c. c < n) (plain_values bs.statics) rest a₁)
numbers_below n x es (through ds) a r = a

-- past the expressions there is nothing in a row
every_row : (x : ℕ) (es : List Made) → ((i : ℕ) → i < length es → Row x i es (form (at es i))) → (i : ℕ) → Row x i es (form (at es i))
unfolding form
every_row x es h i = go (ltb i (length es)) refl
  where
    go : (b : Bool) → ltb i (length es) ≡ b → Row x i es (form (at es i))
    go true p = h i (ltb-true i (length es) p)
    go false p =
        let d : Made = record { expr = missing; pointer = none } in
        let q : at es i ≡ missing = ap (λ (m : Made). m.expr) (get_or-eq_default es d {n = i} (ltb-false i (length es) p)) in
        subst (λ (y : Expr). Row x i es (form y)) (sym q) (record { names = tt; bindings = tt })

-- ---- answers
-- what each scope holds, one out of range too
pub kinds_in : (x e : ℕ) (w : Scopes) → InRange x e w → (s : ScopeId) → KindIn x e (scope_at w.scopes s).kind
unfolding scope_at
kinds_in x e w range s = all_get_d (λ (d : Scope). KindIn x e d.kind) w.scopes s _ tt range.kinds

module _ (x e : ℕ) (w : Scopes) (kind_in : (s : ScopeId) → KindIn x e (scope_at w.scopes s).kind) where
  last_in : (f : NameId → Text) (t : Text) (found : Option NameId) (ys : List NameId) → AllBelow x (one_or_none found) → AllBelow x ys
      → AllBelow x (one_or_none (last_with f t found ys))
  unfolding last_with one_or_none
  last_in f t found [] a b = a
  last_in f t found (y ∷ ys) a b = last_in f t (pick (equalb (f y) t) (some y) found) ys (go (equalb (f y) t)) b.1
    where
      go : (c : Bool) → AllBelow x (one_or_none (pick c (some y) found))
      go true = (b.0, tt)
      go false = a

  defined_in_lem : (f : NameId → Text) (t : Text) (k : ScopeKind) → KindIn x e k → AllBelow x (one_or_none (defined_in f t k))
  unfolding defined_in one_or_none
  defined_in_lem f t (definitions ys) h = last_in f t none ys tt h
  defined_in_lem f t (with_expr d) h = tt

  innermost_in : (f : NameId → Text) (t : Text) (ss : List ScopeId) → All (λ r. r.1 < x) (one_or_none (innermost f w.scopes t ss))
  unfolding innermost one_or_none
  innermost_in f t [] = tt
  innermost_in f t (s ∷ ss) = go (defined_in f t (scope_at w.scopes s).kind) (defined_in_lem f t (scope_at w.scopes s).kind (kind_in s)) (innermost_in f t ss)
    where
      go : (o : Option NameId) → AllBelow x (one_or_none o) → All (λ r. r.1 < x) (one_or_none (innermost f w.scopes t ss))
          → All (λ r. r.1 < x) (one_or_none (maybe o (innermost f w.scopes t ss) (λ y. some (s, y))))
      go none a b = b
      go (some y) a b = (a.0, tt)

  withs_in_lem : (ss : List ScopeId) → AllBelow e (withs_of w.scopes ss)
  unfolding withs_of if_with
  withs_in_lem [] = tt
  withs_in_lem (s ∷ ss) = all_append _ (if_with (scope_at w.scopes s).kind) _ (go (scope_at w.scopes s).kind (kind_in s)) (withs_in_lem ss)
    where
      go : (k : ScopeKind) → KindIn x e k → AllBelow e (if_with k)
      go (definitions ys) h = tt
      go (with_expr d) h = (h, tt)

  index_in : (i : ℕ) (t : Text) (ts : List Text) → All (λ j. j < i + length ts) (one_or_none (index_from i t ts))
  unfolding index_from one_or_none
  index_in i t [] = tt
  index_in i t (u ∷ ts) = go (equalb u t) (all_map _ _ (λ j h. omega arith) (one_or_none (index_from (suc i) t ts)) (index_in (suc i) t ts))
    where
      go : (b : Bool) → All (λ j. j < i + length (u ∷ ts)) (one_or_none (index_from (suc i) t ts))
          → All (λ j. j < i + length (u ∷ ts)) (one_or_none (pick b (some i) (index_from (suc i) t ts)))
      go true h = (omega arith, tt)
      go false h = h

  pub answer_at_in : (f : NameId → Text) (t : Text) (s : Option ScopeId) → AnswerIn x e (answer_at f w.scopes t s)
  unfolding answer_at answer_in after_definitions after_builtins some_withs builtins one_or_none
  answer_at_in f t none = tt
  answer_at_in f t (some s) = go (innermost f w.scopes t (chain w.scopes s)) (innermost_in f t (chain w.scopes s))
    where
      some_withs_lem : (es : List ExprId) → AllBelow e es → AnswerIn x e (some_withs es)
      some_withs_lem [] a = tt
      some_withs_lem (d ∷ ds) a = a

      then_builtins : (o : Option ℕ) → All (λ j. j < 22) (one_or_none o) → AnswerIn x e (after_builtins (withs_of w.scopes (chain w.scopes s)) o)
      then_builtins none a = some_withs_lem (withs_of w.scopes (chain w.scopes s)) (withs_in_lem (chain w.scopes s))
      then_builtins (some i) a = a.0

      go : (o : Option (ScopeId × NameId)) → All (λ r. r.1 < x) (one_or_none o) → AnswerIn x e (after_definitions w.scopes t (chain w.scopes s) o)
      go none a = then_builtins (index_from 0 t builtins) (index_in 0 t builtins)
      go (some r) a = a.0

  -- THEOREM. What is worked out afresh over such scopes is in range, whatever the texts.
  pub answer_in_lem : (m : Module) (d : ExprId) → All (AnswerIn x e) (one_or_none (answer m w d))
  unfolding answer answer_of one_or_none
  answer_in_lem m d = go (reference_text (expr_at m d))
    where
      go : (o : Option Text) → All (AnswerIn x e) (one_or_none (answer_of m w d o))
      go none = tt
      go (some t) = (answer_at_in _ t _, tt)

-- ---- lists of a function's values
all_tabulate : {A B : Type 0} (P : B → Type 0) (f : ℕ → B) → ((i : ℕ) → P (f i)) → (i : ℕ) (xs : List A) → All P (tabulate f i xs)
unfolding tabulate
all_tabulate P f h i [] = tt
all_tabulate P f h i (x ∷ xs) = (h i, all_tabulate P f h (suc i) xs)

answered_below : (x : NameId) (i : ℕ) (as' : List (Option Answer)) → AllBelow (i + length as') (answered_with x i as')
unfolding answered_with
answered_below x i [] = tt
answered_below x i (a ∷ as') = go (means x a) (all_map _ _ (λ c h. omega arith) (answered_with x (suc i) as') (answered_below x (suc i) as'))
  where
    go : (b : Bool) → AllBelow (i + length (a ∷ as')) (answered_with x (suc i) as')
        → AllBelow (i + length (a ∷ as')) (pick b (i ∷ answered_with x (suc i) as') (answered_with x (suc i) as'))
    go true h = (omega arith, h)
    go false h = h

references_below : (m : Module) (w : Scopes) (x : NameId) (i : ℕ) (ds : List Made) → AllBelow (i + length ds) (references_from m w x i ds)
unfolding references_from
references_below m w x i [] = tt
references_below m w x i (d ∷ ds) =
    go (means x (answer_of m w i (reference_text d.expr))) (all_map _ _ (λ c h. omega arith) (references_from m w x (suc i) ds) (references_below m w x (suc i) ds))
  where
    go : (b : Bool) → AllBelow (i + length (d ∷ ds)) (references_from m w x (suc i) ds)
        → AllBelow (i + length (d ∷ ds)) (pick b (i ∷ references_from m w x (suc i) ds) (references_from m w x (suc i) ds))
    go true h = (omega arith, h)
    go false h = h

-- ---- a module in order
-- THEOREM. What is kept of a module is sound, if children lie below their parents and every row says what it may.
pub kept_sound : (m : Module) → Ordered m.exprs → m.entry < length m.exprs
    → ((e : ExprId) → e < length m.exprs → Row (length m.names) e m.exprs (form (at m.exprs e))) → Sound (kept_of m)
unfolding kept_of answers_afresh references_afresh references expr_at made_at
kept_sound m order entered said =
    let rows = every_row (length m.names) m.exprs said in
    let range = scopes_in_range m order (λ d. (rows d).names) entered in
    record {
      entry = entered;
      children = λ e. numbers_below e (length m.names) m.exprs (form (at m.exprs e)) (walked_below m order e) (rows e);
      rows = rows;
      scopes = range;
      answered = length_tabulate _ 0 m.exprs;
      answers = all_tabulate _ (answer m (scopes_of m)) (answer_in_lem _ _ (scopes_of m) (kinds_in _ _ (scopes_of m) range) m) 0 m.exprs;
      referred = length_tabulate _ 0 m.names;
      references = all_tabulate _ _ (λ x. all_map _ _ (λ c h. omega arith) (references_from m (scopes_of m) x 0 m.exprs) (references_below m (scopes_of m) x 0 m.exprs)) 0 m.names;
    }

-- ---- a load
-- THEOREM. What lowering any nodes leaves is sound.
pub lowered_sound : (nodes : List Node) → Sound (loaded nodes)
unfolding loaded
lowered_sound nodes = let order = lowered_ordered nodes in kept_sound (lower_module nodes) order.0 order.1 (lowered_rows nodes)

-- THEOREM. So it is after an accepted load.
pub loaded_sound : (s : List ℕ) (nodes : List Node) → judge s ≡ accepted nodes → Sound (loaded nodes)
loaded_sound s nodes h = lowered_sound nodes

-- ---- a changed text
-- a Reference in the place of a Reference
module _ (es : List Made) (n : ExprId) (d : Made) (t u : Text) (there : n < length es) (was : at es n ≡ reference u) (now : d.expr ≡ reference t) where
  at_set : at (set es n d) n ≡ reference t
  at_set = ap (λ (m : Made). m.expr) (get_or-set_same es n d _ there) ∙ now

  at_other : (e : ExprId) → ¬ (e ≡ n) → at (set es n d) e ≡ at es e
  at_other e h = ap (λ (m : Made). m.expr) (get_or-set_other es n e d _ h)

  -- what is no Reference stays
  stays : (e : ExprId) (y : Expr) → ¬ (reference u ≡ y) → at es e ≡ y → at (set es n d) e ≡ y
  stays e y h p = compared e n (λ q. absurd (h (sym was ∙ sym (ap (at es) q) ∙ p))) (λ q. at_other e q ∙ p)

  refers_set : (e : ExprId) → Referring es e → Referring (set es n d) e
  refers_set e r =
      compared e n (λ q. record { text = t; is = ap (at (set es n d)) q ∙ at_set }) (λ q. record { text = r.text; is = at_other e q ∙ r.is })

  right_set : (i : ℕ) (froms : List ExprId) (v : BindingValue) → Right i es froms v → Right i (set es n d) froms v
  right_set i froms (expr e) r = tt
  right_set i froms (inherit e) r = (r.0, refers_set e r.1)
  right_set i froms (inherit_from e) r =
      let s = r.1 in (
        r.0,
        record {
          source = s.source;
          label = s.label;
          key = s.key;
          is = stays e _ (λ p. let z : ◌≡◌ {A = ℕ} 0 1 = cc in omega arith) s.is;
          labelled = stays s.label _ (λ p. let z : ◌≡◌ {A = ℕ} 0 1 = cc in omega arith) s.labelled;
          beside = s.beside;
        },
      )

  row_set : (x i : ℕ) (f : Form) → Row x i es f → Row x i (set es n d) f
  row_set x i f r =
      record {
        names = r.names;
        bindings = all_map _ _ (λ bs b. all_map _ _ (λ s h. (h.0, right_set i bs.inherit_froms s.1 h.1)) bs.statics b) (bindings_of f) r.bindings;
      }

  -- all rows, and all children
  rows_set : (x : ℕ) → ((i : ℕ) → Row x i es (form (at es i))) → (i : ℕ) → Row x i (set es n d) (form (at (set es n d) i))
  unfolding form
  rows_set x h i =
      compared i n
      (λ q. rw q (subst (λ (y : Expr). Row x n (set es n d) (form y)) (sym at_set) (record { names = tt; bindings = tt })))
      (λ q. subst (λ (y : Expr). Row x i (set es n d) (form y)) (sym (at_other i q)) (row_set x i (form (at es i)) (h i)))

  children_set : ((i : ℕ) → AllBelow i (expr_numbers (form (at es i)))) → (i : ℕ) → AllBelow i (expr_numbers (form (at (set es n d) i)))
  unfolding form
  children_set h i =
      compared i n
      (λ q. rw q (subst (λ (y : Expr). AllBelow n (expr_numbers (form y))) (sym at_set) tt))
      (λ q. subst (λ (y : Expr). AllBelow i (expr_numbers (form y))) (sym (at_other i q)) (h i))

-- A module with the same lists but for texts.
record SameLists (k : Kept) (m : Module) : Type 0 where
  exprs : length m.exprs ≡ length k.lowered.exprs
  names : length m.names ≡ length k.lowered.names
  entry : m.entry ≡ k.lowered.entry
  children : (e : ExprId) → AllBelow e (expr_numbers (form (expr_at m e)))
  rows : (e : ExprId) → Row (length k.lowered.names) e m.exprs (form (expr_at m e))

-- what is resolved again is in range, and so is what was kept
resolved_in : (k : Kept) → Sound k → (p : Place) (t : Text) (e : ExprId)
    → All (AnswerIn (length k.lowered.names) (length k.lowered.exprs)) (one_or_none (resolved_again k p t e))
unfolding resolved_again kept_answer one_or_none
resolved_in k sound p t e = go (may_move k.lowered k.scopes p t e)
  where
    go : (b : Bool) → All (AnswerIn (length k.lowered.names) (length k.lowered.exprs)) (one_or_none (pick b (answer (set_place t p k.lowered) k.scopes e) (get_or k.answers e none)))
    go true = answer_in_lem _ _ k.scopes (kinds_in _ _ k.scopes sound.scopes) (set_place t p k.lowered) e
    go false = all_get_d _ k.answers e none tt sound.answers

-- the references, listed anew or not
listed_many : (k : Kept) → Sound k → (again : List (Option Answer)) (es : List ExprId) → length (listed_again k again es) ≡ length k.lowered.names
unfolding listed_again
listed_many k sound again [] = sound.referred
listed_many k sound again (e ∷ es) = length_tabulate _ 0 k.lowered.names

listed_in : (k : Kept) → Sound k → (again : List (Option Answer)) → length again ≡ length k.lowered.exprs → (es : List ExprId)
    → All (AllBelow (length k.lowered.exprs)) (listed_again k again es)
unfolding listed_again
listed_in k sound again l [] = sound.references
listed_in k sound again l (e ∷ es) =
    all_tabulate _ _ (λ x. all_map _ _ (λ c h. omega arith) (answered_with x 0 again) (answered_below x 0 again)) 0 k.lowered.names

changed_sound : (k : Kept) → Sound k → (p : Place) (t : Text) → SameLists k (set_place t p k.lowered) → Sound (changed_to k p t)
unfolding changed_to
changed_sound k sound p t same =
    let again = tabulate (resolved_again k p t) 0 k.lowered.exprs in
    let l = length_tabulate (resolved_again k p t) 0 k.lowered.exprs in
    record {
      entry = rw (same.entry, same.exprs) sound.entry;
      children = same.children;
      rows = rw same.names same.rows;
      scopes = rw (same.names, same.exprs) sound.scopes;
      answered = l ∙ sym same.exprs;
      answers = rw (same.names, same.exprs) (all_tabulate _ _ (resolved_in k sound p t) 0 k.lowered.exprs);
      referred = listed_many k sound again (moved_by k p t) ∙ sym same.names;
      references = rw same.exprs (listed_in k sound again l (moved_by k p t));
    }

-- the text that an accepted call sets
reference_same : (k : Kept) → Sound k → (n : ExprId) (t u : Text) → n < length k.lowered.exprs → reference_text (expr_at k.lowered n) ≡ some u
    → SameLists k (set_reference n t k.lowered)
unfolding set_reference expr_at made_at
reference_same k sound n t u there known =
    let m = k.lowered in
    let was : at m.exprs n ≡ reference u = is_reference (at m.exprs n) u known in
    let d : Made = record { expr = reference t; pointer = (made_at m n).pointer } in
    record {
      exprs = length-set m.exprs n _;
      names = refl;
      entry = refl;
      children = children_set m.exprs n d t u there was refl sound.children;
      rows = rows_set m.exprs n d t u there was refl (length m.names) sound.rows;
    }

name_same : (k : Kept) → Sound k → (x : NameId) (t : Text) → SameLists k (set_name x t k.lowered)
unfolding set_name expr_at made_at
name_same k sound x t = record { exprs = refl; names = length-set k.lowered.names x _; entry = refl; children = sound.children; rows = sound.rows }

with_sound : (c : Condition) (k : Kept) → Sound k → (call : Call) → is_accepted (kept_outcome c k call) ≡ true → Sound (kept_with k call)
unfolding kept_with kept_outcome
with_sound c k sound (ask_reference n buffer reply) h = sound
with_sound c k sound (ask_name n buffer reply) h = sound
with_sound c k sound (change_reference n t buffer reply) h =
    let there = reference_there k.lowered (kept_answer k) (kept_references k) k.spent (kept_moved k) c n t buffer reply h in
    let known = reference_known k.lowered (kept_answer k) (kept_references k) k.spent (kept_moved k) c n t buffer reply h in
    changed_sound k sound (at_reference n) t (reference_same k sound n t known.0 there known.1)
with_sound c k sound (change_name x t buffer reply) h = changed_sound k sound (at_name x) t (name_same k sound x t)

-- THEOREM. Every call leaves what is sound sound, however it finds the store.
pub after_sound : (c : Condition) (k : Kept) (call : Call) → Sound k → Sound (kept_after c k call)
unfolding kept_after changed
after_sound c k call sound = go (is_accepted (kept_outcome c k call)) (equalb (old_text k.lowered call) (new_text call)) refl refl
  where
    go : (a b : Bool) → is_accepted (kept_outcome c k call) ≡ a → equalb (old_text k.lowered call) (new_text call) ≡ b → Sound (kept_after c k call)
    go true true p q = rw (p, q) sound
    go true false p q = rw (p, q) (with_sound c k sound call p)
    go false b p q = rw p sound
