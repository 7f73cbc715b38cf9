-- The numbers in an expression's row, and inherited values that are what lowering makes of them (docs/RULES.md,
-- "Inherited attributes"), stay right while more is allocated. Assumes nothing.
use mathlib.Core.Path.{◌≡◌, refl, sym, ap, ◌∙◌}
use mathlib.Core.Bool.{Bool, true, false}
use mathlib.Core.List.{List, [], ◌∷◌, ◌++◌}
use mathlib.Core.Option.{none}
use Prim.Native.Nat.{ℕ, ◌<◌, ◌≤◌}
use native.Mathlib.Omega.{arith}
use lib.Dec.{ltb}
use lib.ListN.{length, get_or-append, get_or-eq_default}
use borrow.Author.Tests.{ltb-true, ltb-false}
use Rattle.spec.specs.Basics.{Text, ExprId, NameId}
use Rattle.spec.specs.Module.{string, BindingValue, expr, inherit, inherit_from, Bindings, Expr, missing, literal, reference, select, Made}
use Rattle.spec.specs.Scopes.{one_or_none, field_names, field_defaults, pat_fields, keys_and_values, Form, function, with_body, bound, through, is_in}
use Rattle.spec.proofs.general.Sums.{All, all_map}
use Rattle.spec.proofs.sound.Ordered.{AllBelow, at}
use Rattle.spec.proofs.steps.Weighing.{Grown}

-- ---- the numbers in a row
abbrev pub value_number : BindingValue → ExprId
value_number (expr e) = e
value_number (inherit e) = e
value_number (inherit_from e) = e

abbrev pub static_values : List (NameId × BindingValue) → List ExprId
static_values [] = []
static_values (b ∷ bs) = value_number b.1 ∷ static_values bs

abbrev pub static_names : List (NameId × BindingValue) → List NameId
static_names [] = []
static_names (b ∷ bs) = b.0 ∷ static_names bs

-- all expressions that an expression names, the Select of an inherit among them, which is not walked
abbrev pub expr_numbers : Form → List ExprId
expr_numbers (function x p b) = field_defaults (pat_fields p) ++ (b ∷ [])
expr_numbers (with_body e b) = e ∷ b ∷ []
expr_numbers (bound bs body) = static_values bs.statics ++ (bs.inherit_froms ++ (keys_and_values bs.dynamics ++ one_or_none body))
expr_numbers (through es) = es

-- all names
abbrev pub name_numbers : Form → List NameId
name_numbers (function x p b) = one_or_none x ++ field_names (pat_fields p)
name_numbers (with_body e b) = []
name_numbers (bound bs body) = static_names bs.statics
name_numbers (through es) = []

-- the bindings of a let or a set
abbrev pub bindings_of : Form → List Bindings
bindings_of (function x p b) = []
bindings_of (with_body e b) = []
bindings_of (bound bs body) = bs ∷ []
bindings_of (through es) = []

-- ---- inherited values: a Reference or, with a source, a Select without a default, by one text Literal, of a source
-- that is listed beside it
pub record Referring (es : List Made) (e : ExprId) : Type 0 where
  pub text : Text
  pub is : at es e ≡ reference text

pub record Selecting (es : List Made) (froms : List ExprId) (e : ExprId) : Type 0 where
  pub source : ExprId
  pub label : ExprId
  pub key : Text
  pub is : at es e ≡ select source (label ∷ []) none
  pub labelled : at es label ≡ literal (string key)
  pub beside : is_in source froms ≡ true

-- a value in a row of bindings with such sources, what is inherited having a number below n
abbrev pub Right : ℕ → List Made → List ExprId → BindingValue → Type 0
Right n es froms (expr e) = Unit {0}
Right n es froms (inherit e) = (e < n) × Referring es e
Right n es froms (inherit_from e) = (e < n) × Selecting es froms e

-- a key of bindings: its name is one of x, its value is right
abbrev pub StaticRight : ℕ → ℕ → List Made → List ExprId → NameId × BindingValue → Type 0
StaticRight x n es froms b = (b.0 < x) × Right n es froms b.1

-- bindings of expressions below n, where there are x names
abbrev pub BindingsRight : ℕ → ℕ → List Made → Bindings → Type 0
BindingsRight x n es bs = All (StaticRight x n es bs.inherit_froms) bs.statics

-- ---- what stays where more is allocated
-- an expression that is there stays
pub at_stays : {es es' : List Made} → Grown es es' → (e : ExprId) (d : Expr) → (missing ≡ d → ⊥) → at es e ≡ d → at es' e ≡ d
at_stays {es} {es'} g e d n p = go (ltb e (length es)) refl
  where
    go : (b : Bool) → ltb e (length es) ≡ b → at es' e ≡ d
    go true h = rw g.is (ap (λ (m : Made). m.expr) (get_or-append es g.more _ e (ltb-true e (length es) h)) ∙ p)
    go false h = absurd (n (sym (ap (λ (m : Made). m.expr) (get_or-eq_default es _ {n = e} (ltb-false e (length es) h))) ∙ p))

pub refers_more : {es es' : List Made} → Grown es es' → (e : ExprId) → Referring es e → Referring es' e
refers_more g e r = record { text = r.text; is = at_stays g e _ (λ p. let z : ◌≡◌ {A = ℕ} 0 1 = cc in omega arith) r.is }

pub selects_more : {es es' : List Made} {froms froms' : List ExprId} → Grown es es' → ((d : ExprId) → is_in d froms ≡ true → is_in d froms' ≡ true)
    → (e : ExprId) → Selecting es froms e → Selecting es' froms' e
selects_more g f e r =
    record {
      source = r.source;
      label = r.label;
      key = r.key;
      is = at_stays g e _ (λ p. let z : ◌≡◌ {A = ℕ} 0 1 = cc in omega arith) r.is;
      labelled = at_stays g r.label _ (λ p. let z : ◌≡◌ {A = ℕ} 0 1 = cc in omega arith) r.labelled;
      beside = f r.source r.beside;
    }

pub right_more : {n n' : ℕ} {es es' : List Made} (froms froms' : List ExprId) → n ≤ n' → Grown es es'
    → ((d : ExprId) → is_in d froms ≡ true → is_in d froms' ≡ true) → (v : BindingValue) → Right n es froms v → Right n' es' froms' v
right_more froms froms' l g f (expr e) r = tt
right_more froms froms' l g f (inherit e) r = ((let z = r.0 in omega arith), refers_more g e r.1)
right_more froms froms' l g f (inherit_from e) r = ((let z = r.0 in omega arith), selects_more g f e r.1)

pub bindings_more : {x x' n n' : ℕ} {es es' : List Made} → x ≤ x' → n ≤ n' → Grown es es' → (bs : Bindings) → BindingsRight x n es bs → BindingsRight x' n' es' bs
bindings_more k l g bs a = all_map _ _ (λ b r. ((let z = r.0 in omega arith), right_more bs.inherit_froms bs.inherit_froms l g (λ d h. h) b.1 r.1)) bs.statics a

-- ---- a row of an expression numbered n
pub record Row (x n : ℕ) (es : List Made) (f : Form) : Type 0 where
  pub names : AllBelow x (name_numbers f)
  pub bindings : All (BindingsRight x n es) (bindings_of f)

pub row_more : {x x' n : ℕ} {es es' : List Made} → x ≤ x' → Grown es es' → (f : Form) → Row x n es f → Row x' n es' f
row_more {x} {x'} l g f r =
    record {
      names = all_map (λ y. y < x) (λ y. y < x') (λ y h. omega arith) (name_numbers f) r.names;
      bindings = all_map _ _ (λ bs b. bindings_more l (omega arith) g bs b) (bindings_of f) r.bindings;
    }
