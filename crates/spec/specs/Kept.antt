-- docs/RULES.md, "Kept answers and references": what a store keeps, the module and its scopes, and beside them every
-- Reference's answer and every name's references, so that asking need not search. What a load leaves, and what a call
-- makes of a store, whoever made it.
use Rattle.std.specs.Prelude.{List, [], ◌∷◌, ℕ, suc, get_or, if◌then◌else◌}
use Rattle.std.proofs.Math.Option.{Option, none}
use Rattle.words.specs.Equality.{equalb}
use Rattle.spec.specs.Basics.{Text, ExprId, NameId}
use Rattle.spec.specs.Module.{Module}
use Rattle.spec.specs.Sheet.{Node}
use Rattle.spec.specs.Lower.{lower_module}
use Rattle.spec.specs.Scopes.{Scopes, scopes_of}
use Rattle.spec.specs.Answer.{Answer, answer, means, references}
use Rattle.spec.specs.Calls.{Condition, Call, ask_reference, ask_name, change_reference, change_name, Outcome, is_accepted, old_text, new_text, Place, at_name, at_reference, set_place, spent_at, outcome}
use Rattle.spec.specs.Moved.{differing, may_move}

pub record Kept : Type 0 where
  pub lowered : Module
  pub scopes : Scopes
  -- by the expression's number: none where it is no Reference
  pub answers : List (Option Answer)
  -- by the name's number
  pub references : List (List ExprId)
  pub spent : ℕ

-- the values of a function at i, i + 1, .., as many as there are items in a list
unfoldable pub tabulate : {A B : Type 0} → (ℕ → B) → ℕ → List A → List B
tabulate f i [] = []
tabulate f i (x ∷ xs) = f i ∷ tabulate f (suc i) xs

unfoldable pub answers_afresh : Module → Scopes → List (Option Answer)
answers_afresh m w = tabulate (answer m w) 0 m.exprs

unfoldable pub references_afresh : Module → Scopes → List (List ExprId)
references_afresh m w = tabulate (references m w) 0 m.names

-- what is kept of a module before the first call: everything is worked out afresh, no room is spent
unfoldable pub kept_of : Module → Kept
kept_of m =
    let w = scopes_of m in
    record { lowered = m; scopes = w; answers = answers_afresh m w; references = references_afresh m w; spent = 0 }

-- what an accepted load leaves
unfoldable pub loaded : List Node → Kept
loaded nodes = kept_of (lower_module nodes)

-- ---- asking: what is kept
unfoldable pub kept_answer : Kept → ExprId → Option Answer
kept_answer k e = get_or k.answers e none

unfoldable pub kept_references : Kept → NameId → List ExprId
kept_references k x = get_or k.references x []

-- ---- changing: the text is set; References whose answer it may move are resolved again, the others keep theirs
unfoldable pub resolved_again : Kept → Place → Text → ExprId → Option Answer
resolved_again k p t e =
    if may_move k.lowered k.scopes p t e then answer (set_place t p k.lowered) k.scopes e else kept_answer k e

-- the References that the text moves
unfoldable pub moved_by : Kept → Place → Text → List ExprId
moved_by k p t = differing k.lowered (kept_answer k) (resolved_again k p t)

-- the expressions among those from e on that are answered with the name
unfoldable pub answered_with : NameId → ExprId → List (Option Answer) → List ExprId
answered_with x e [] = []
answered_with x e (a ∷ as') = if means x a then e ∷ answered_with x (suc e) as' else answered_with x (suc e) as'

-- the references of every name, listed anew from the answers where something moved
unfoldable pub listed_again : Kept → List (Option Answer) → List ExprId → List (List ExprId)
listed_again k as' [] = k.references
listed_again k as' (e ∷ es) = tabulate (λ x. answered_with x 0 as') 0 k.lowered.names

unfoldable pub changed_to : Kept → Place → Text → Kept
changed_to k p t =
    let as' = tabulate (resolved_again k p t) 0 k.lowered.exprs in
    record {
      lowered = set_place t p k.lowered;
      scopes = k.scopes;
      answers = as';
      references = listed_again k as' (moved_by k p t);
      spent = spent_at k.lowered t k.spent (p ∷ []);
    }

unfoldable pub kept_with : Kept → Call → Kept
kept_with k (ask_reference n buffer reply) = k
kept_with k (ask_name n buffer reply) = k
kept_with k (change_reference n t buffer reply) = changed_to k (at_reference n) t
kept_with k (change_name n t buffer reply) = changed_to k (at_name n) t

-- what an accepted call leaves: an equal text, and an asking, leave everything as it is
unfoldable pub changed : Kept → Call → Kept
changed k c = if equalb (old_text k.lowered c) (new_text c) then k else kept_with k c

-- ---- a call
-- the References whose kept answer is another then
unfoldable pub kept_moved : Kept → Call → List ExprId
kept_moved k c = differing k.lowered (kept_answer k) (kept_answer (changed k c))

unfoldable pub kept_outcome : Condition → Kept → Call → Outcome
kept_outcome store k c = outcome k.lowered (kept_answer k) (kept_references k) k.spent (kept_moved k) store c

unfoldable pub kept_after : Condition → Kept → Call → Kept
kept_after store k c = if is_accepted (kept_outcome store k c) then changed k c else k
