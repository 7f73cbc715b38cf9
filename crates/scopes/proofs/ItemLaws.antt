-- The items of an expression, one by one: a walk leaves them as they were, and what they hand on and enter is put
-- together from what each of them does. Assumes nothing.
use Rattle.std.specs.Prelude.{if◌then◌else◌}
use mathlib.Core.Path.{◌≡◌, refl, sym, ap, ◌∙◌}
use mathlib.Core.Bool.{Bool, true, false}
use mathlib.Core.List.{List, [], ◌∷◌, ◌++◌, append_assoc}
use mathlib.Core.Option.{none, some}
use Prim.Native.Nat.{ℕ, suc, ◌+◌, ◌≤◌, ◌<◌}
use native.Mathlib.Omega.{arith}
use lib.ListN.{length, take, get_or, length-append}
use lib.Seq.{take-suc}
use lib.Dec.{ltb}
use borrow.Author.Tests.{ltb-true}
use Rattle.words.specs.Words.{word}
use Rattle.spec.specs.Basics.{ExprId, NameId}
use Rattle.spec.specs.Module.{Module}
use Rattle.spec.specs.Scopes.{one_or_none, field_names, field_defaults, if_inherited, inherited, if_plain, plain_values, keys_and_values, interpolated, is_definition, name_at, defined}
use Rattle.layout.specs.Layout.{expr_limit, expr_count, exprs_at, expr_pointers_at, items_at, names_at}
use Rattle.layout.specs.Changes.{Wrote, Still}
use Rattle.layout.specs.Exprs.{Item, child, text, field, static, dynamic, children, parts, fields, statics, dynamics, items_of}
use Rattle.layout.specs.States.{exprs_of}
use Rattle.layout.proofs.RowLaws.{cap_lim}
use Rattle.layout.proofs.Frames.{same_on, exprs_kept, own_items_same}
use Rattle.rows.specs.Readers.{items_at_expr, item_at_expr}
use Rattle.rows.proofs.ReferenceLaws.{length_exprs}
use Rattle.kept.specs.Walks.{walking}
use Rattle.scopes.specs.declared.picks.Pass.{Pass}
use Rattle.scopes.specs.declared.picks.Pass.TheVariants.{Children, Defaults, Inherited, Values, Dynamics}
use Rattle.scopes.specs.declared.enters.Names.{Names}
use Rattle.scopes.specs.declared.enters.Names.TheVariants.{Fields, Definitions}
use Rattle.scopes.specs.Picking.{picked}
use Rattle.scopes.specs.Entering.{entered}

-- ---- a walk leaves the items
pub items_walked : {s t : List ℕ} → Wrote walking s t → Still s t → (e : ExprId) → items_at_expr t e ≡ items_at_expr s e
unfolding items_at_expr walking
items_walked {s} {t} w still e = rw (exprs_kept w still refl refl) (go (ltb e (length (exprs_of s))) refl)
  where
    go : (b : Bool) → ltb e (length (exprs_of s)) ≡ b → (if b then items_of t e else []) ≡ (if b then items_of s e else [])
    go true p =
        let h : e < expr_limit = omega (arith, ltb-true e (length (exprs_of s)) p, length_exprs s, cap_lim (word s expr_count) expr_limit) in
        let v = same_on exprs_at expr_pointers_at w refl in
        own_items_same s t e still (λ j a b. v j (omega arith) (omega arith)) (same_on items_at names_at w refl)
    go false p = refl

-- ---- lists that are put together from what each item has
record Spreads {A : Type 0} (f : List Item → List A) : Type 0 where
  none_of : f [] ≡ []
  first_of : (i : Item) (is : List Item) → f (i ∷ is) ≡ f (i ∷ []) ++ f is

spreads_append : {A : Type 0} {f : List Item → List A} → Spreads f → (is js : List Item) → f (is ++ js) ≡ f is ++ f js
spreads_append {f = f} h [] js = rw h.none_of
spreads_append {A} {f} h (i ∷ is) js =
    h.first_of i (is ++ js)
    ∙ (ap (λ (xs : List A). f (i ∷ []) ++ xs) (spreads_append h is js)
    ∙ (sym (append_assoc (f (i ∷ [])) (f is) (f js)) ∙ ap (λ (xs : List A). xs ++ f js) (sym (h.first_of i is))))

-- one item more is done
more_is : {A : Type 0} {f : List Item → List A} → Spreads f → (is : List Item) (i : ℕ) (d : Item) → i < length is → f (take (i + 1) is) ≡ f (take i is) ++ f (get_or is i d ∷ [])
more_is {f = f} h is i d l =
    let q : i + 1 ≡ suc i = omega arith in
    rw q (ap f (take-suc is i d l) ∙ spreads_append h (take i is) (get_or is i d ∷ []))

-- a list with nothing in between
between_none : {A : Type 0} (xs ys : List A) → xs ++ ys ≡ (xs ++ []) ++ ys
between_none xs ys = sym (append_assoc xs [] ys)

children_spread : Spreads children
unfolding children
children_spread = record { none_of = refl; first_of = go }
  where
    go : (i : Item) (is : List Item) → children (i ∷ is) ≡ children (i ∷ []) ++ children is
    go (child e) is = refl
    go (text t) is = refl
    go (field x d) is = refl
    go (static x v) is = refl
    go (dynamic k v) is = refl

defaults_spread : Spreads (λ is. field_defaults (fields is))
unfolding field_defaults fields
defaults_spread = record { none_of = refl; first_of = go }
  where
    go : (i : Item) (is : List Item) → field_defaults (fields (i ∷ is)) ≡ field_defaults (fields (i ∷ [])) ++ field_defaults (fields is)
    go (child e) is = refl
    go (text t) is = refl
    go (field x d) is = between_none (one_or_none d) (field_defaults (fields is))
    go (static x v) is = refl
    go (dynamic k v) is = refl

names_spread : Spreads (λ is. field_names (fields is))
unfolding field_names fields
names_spread = record { none_of = refl; first_of = go }
  where
    go : (i : Item) (is : List Item) → field_names (fields (i ∷ is)) ≡ field_names (fields (i ∷ [])) ++ field_names (fields is)
    go (child e) is = refl
    go (text t) is = refl
    go (field x d) is = between_none (one_or_none x) (field_names (fields is))
    go (static x v) is = refl
    go (dynamic k v) is = refl

inherited_spread : Spreads (λ is. inherited (statics is))
unfolding inherited statics
inherited_spread = record { none_of = refl; first_of = go }
  where
    go : (i : Item) (is : List Item) → inherited (statics (i ∷ is)) ≡ inherited (statics (i ∷ [])) ++ inherited (statics is)
    go (child e) is = refl
    go (text t) is = refl
    go (field x d) is = refl
    go (static x v) is = between_none (if_inherited v) (inherited (statics is))
    go (dynamic k v) is = refl

values_spread : Spreads (λ is. plain_values (statics is))
unfolding plain_values statics
values_spread = record { none_of = refl; first_of = go }
  where
    go : (i : Item) (is : List Item) → plain_values (statics (i ∷ is)) ≡ plain_values (statics (i ∷ [])) ++ plain_values (statics is)
    go (child e) is = refl
    go (text t) is = refl
    go (field x d) is = refl
    go (static x v) is = between_none (if_plain v) (plain_values (statics is))
    go (dynamic k v) is = refl

dynamics_spread : Spreads (λ is. keys_and_values (dynamics is))
unfolding keys_and_values dynamics
dynamics_spread = record { none_of = refl; first_of = go }
  where
    go : (i : Item) (is : List Item) → keys_and_values (dynamics (i ∷ is)) ≡ keys_and_values (dynamics (i ∷ [])) ++ keys_and_values (dynamics is)
    go (child e) is = refl
    go (text t) is = refl
    go (field x d) is = refl
    go (static x v) is = refl
    go (dynamic k v) is = refl

defined_spread : (m : Module) → Spreads (λ is. defined m (statics is))
unfolding defined statics
defined_spread m = record { none_of = refl; first_of = go }
  where
    either : (b : Bool) (x : NameId) (xs : List NameId) → (if b then x ∷ xs else xs) ≡ (if b then x ∷ [] else []) ++ xs
    either true x xs = refl
    either false x xs = refl

    go : (i : Item) (is : List Item) → defined m (statics (i ∷ is)) ≡ defined m (statics (i ∷ [])) ++ defined m (statics is)
    go (child e) is = refl
    go (text t) is = refl
    go (field x d) is = refl
    go (static x v) is = either (is_definition (name_at m x).kind) x (defined m (statics is))
    go (dynamic k v) is = refl

picked_spread : (pass : Pass) → Spreads (picked pass)
unfolding picked
picked_spread Children = children_spread
picked_spread Defaults = defaults_spread
picked_spread Inherited = inherited_spread
picked_spread Values = values_spread
picked_spread Dynamics = dynamics_spread

entered_spread : (names : Names) (m : Module) → Spreads (entered names m)
unfolding entered
entered_spread Fields m = names_spread
entered_spread Definitions m = defined_spread m

-- interpolated parts are children
pub interpolated_children : (is : List Item) → interpolated (parts is) ≡ children is
unfolding interpolated parts children
interpolated_children [] = refl
interpolated_children (child e ∷ is) = ap (λ (xs : List ExprId). e ∷ xs) (interpolated_children is)
interpolated_children (text t ∷ is) = interpolated_children is
interpolated_children (field x d ∷ is) = interpolated_children is
interpolated_children (static x v ∷ is) = interpolated_children is
interpolated_children (dynamic k v ∷ is) = interpolated_children is

-- an item enters one name at most
one_entered : (m : Module) (names : Names) (i : Item) → length (entered names m (i ∷ [])) ≤ 1
unfolding entered fields statics field_names defined one_or_none
one_entered m Fields (child e) = omega arith
one_entered m Fields (text t) = omega arith
one_entered m Fields (field none d) = omega arith
one_entered m Fields (field (some x) d) = omega arith
one_entered m Fields (static x v) = omega arith
one_entered m Fields (dynamic k v) = omega arith
one_entered m Definitions (child e) = omega arith
one_entered m Definitions (text t) = omega arith
one_entered m Definitions (field x d) = omega arith
one_entered m Definitions (static x v) = either (is_definition (name_at m x).kind)
  where
    either : (b : Bool) → length (if b then x ∷ [] else []) ≤ 1
    either true = omega arith
    either false = omega arith
one_entered m Definitions (dynamic k v) = omega arith

pub entered_few : (names : Names) (m : Module) (is : List Item) → length (entered names m is) ≤ length is
entered_few names m [] = rw (entered_spread names m).none_of (omega arith)
entered_few names m (i ∷ is) =
    rw ((entered_spread names m).first_of i is, length-append (entered names m (i ∷ [])) (entered names m is)) (omega (arith, one_entered m names i, entered_few names m is))

-- ---- in a loop over the items of e in a store
pub picked_more : (pass : Pass) (s : List ℕ) (e : ExprId) (i : ℕ) → i < length (items_at_expr s e) → picked pass (take (i + 1) (items_at_expr s e)) ≡ picked pass (take i (items_at_expr s e)) ++ picked pass (item_at_expr s e i ∷ [])
unfolding item_at_expr
picked_more pass s e i h = more_is (picked_spread pass) (items_at_expr s e) i (child 0) h

pub entered_more : (names : Names) (m : Module) (s : List ℕ) (e : ExprId) (i : ℕ) → i < length (items_at_expr s e) → entered names m (take (i + 1) (items_at_expr s e)) ≡ entered names m (take i (items_at_expr s e)) ++ entered names m (item_at_expr s e i ∷ [])
unfolding item_at_expr
entered_more names m s e i h = more_is (entered_spread names m) (items_at_expr s e) i (child 0) h

pub picked_none : (pass : Pass) → picked pass [] ≡ []
picked_none pass = (picked_spread pass).none_of

pub entered_none : (names : Names) (m : Module) → entered names m [] ≡ []
entered_none names m = (entered_spread names m).none_of
