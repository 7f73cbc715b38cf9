-- How steps of lowering follow one another where what is in hand weighs no more than has been paid by allocating it.
-- Assumes nothing.
use mathlib.Core.Path.{◌≡◌, refl, sym, ap, ◌∙◌}
use mathlib.Core.Bool.{Bool, true, false}
use mathlib.Core.List.{List, [], ◌∷◌, ◌++◌}
use mathlib.Core.Option.{none, some}
use Prim.Native.Nat.{ℕ, zero, suc, ◌+◌, ◌<◌, ◌≤◌}
use native.Mathlib.Omega.{arith}
use lib.ListN.{length, get_or}
use lib.Seq.{get_or-append_seam, append_snoc}
use Rattle.spec.specs.Basics.{Text, ExprId, NameId}
use Rattle.spec.specs.Steps.{◌>>=◌, give, asks, when, each}
use Rattle.spec.specs.Module.{Pointer, Expr, missing, Made, NameKind, Name, Module}
use Rattle.spec.specs.State.{SetId, MergingEntry, State, Low, new_made, alloc_expr, alloc_missing, alloc_name}
use Rattle.spec.specs.Merge.{set_of, nested_in}
use Rattle.spec.specs.Scopes.{one_or_none, form, expr_at, made_at}
use Rattle.spec.proofs.general.ListLaws.{length_snoc}
use Rattle.spec.proofs.general.Sums.{sum_by, All, sum_zero}
use Rattle.spec.proofs.once.Once.{entered_by, walked_by, entered, walked}

-- the weights of the numbers below n
abbrev pub up_to : (ℕ → ℕ) → ℕ → ℕ
up_to f zero = 0
up_to f (suc n) = up_to f n + f n

-- ---- the sets that entries name
abbrev pub Between : ℕ → ℕ → SetId → Type 0
Between low high t = (low ≤ t) × (t < high)

-- an entry's own set and its nested one are of those between two numbers
abbrev pub NamesSets : ℕ → ℕ → MergingEntry → Type 0
NamesSets low high e = Between low high (set_of e) × All (Between low high) (one_or_none (nested_in e))

-- the entries name sets that there are
abbrev pub Known : State → Type 0
Known st = All (NamesSets 0 (length st.sets)) st.entries

-- A module, the weights of its names and of its expressions alone, and a weight of expressions with all that is walked
-- from them.
pub record Scale : Type 0 where
  pub lowered : Module
  pub of_name : NameId → ℕ
  pub of_expr : ExprId → ℕ
  pub weight : ExprId → ℕ
  pub meets : (e : ExprId) → weight e ≤ of_expr e + (sum_by of_name (entered lowered e) + sum_by weight (walked lowered e))

module _ (σ : Scale) where
  -- what an expression enters and what is walked from it
  abbrev pub form_weight : Expr → ℕ
  form_weight e = sum_by σ.of_name (entered_by σ.lowered (form e)) + sum_by σ.weight (walked_by (form e))

  -- what has been paid: the weights of all that is allocated
  abbrev pub paid : State → ℕ
  paid st = up_to σ.of_name (length st.names) + up_to σ.of_expr (length st.exprs)

  -- the module has what is allocated so far, and goes on from there
  pub record Fits (st : State) : Type 0 where
    pub more : List Made
    pub goes_on : st.exprs ++ more ≡ σ.lowered.exprs

  -- A step made something: the sets that are being merged are as they were, and the result weighs no more than was owed
  -- and has been paid.
  pub record Makes {A : Type 0} (owed : ℕ) (w : A → ℕ) (st : State) (r : A × State) : Type 0 where
    pub entries : r.1.entries ≡ st.entries
    pub sets : r.1.sets ≡ st.sets
    pub fits : Fits r.1 → Fits st
    pub weighs : Fits r.1 → w r.0 + paid st ≤ owed + paid r.1

  -- a step that does so wherever the entries are E
  pub record MakesWhere {A : Type 0} (E : List MergingEntry) (owed : ℕ) (w : A → ℕ) (p : Low A) : Type 0 where
    pub makes : (st : State) → st.entries ≡ E → Known st → Makes owed w st (p st)

module _ {σ : Scale} where
  pub known_stays : {A : Type 0} {o : ℕ} {w : A → ℕ} {st : State} {r : A × State} → Makes σ o w st r → Known st → Known r.1
  known_stays h k = rw (h.entries, h.sets) k

  module _ {E : List MergingEntry} where
    pub lowers_then : {A B : Type 0} {owed : ℕ} {w : A → ℕ} {w' : B → ℕ} {p : Low A} {f : A → Low B} (o o' : ℕ) → o + o' ≤ owed
        → MakesWhere σ E o w p → ((a : A) → MakesWhere σ E (w a + o') w' (f a)) → MakesWhere σ E owed w' (p >>= f)
    unfolding ◌>>=◌
    lowers_then {owed} {w} {w'} {p} {f} o o' le h g =
        record { makes = λ st same known. go st (h.makes st same known) ((g (p st).0).makes (p st).1) same known }
      where
        joined : (st : State) → Makes σ o w st (p st) → Makes σ (w (p st).0 + o') w' (p st).1 (f (p st).0 (p st).1)
            → Makes σ owed w' st (f (p st).0 (p st).1)
        joined st a b =
            record {
              entries = b.entries ∙ a.entries;
              sets = b.sets ∙ a.sets;
              fits = λ z. a.fits (b.fits z);
              weighs = λ z. let i = b.weighs z in let j = a.weighs (b.fits z) in omega arith;
            }

        go : (st : State) → Makes σ o w st (p st) → ((p st).1.entries ≡ E → Known (p st).1 → Makes σ (w (p st).0 + o') w' (p st).1 (f (p st).0 (p st).1))
            → st.entries ≡ E → Known st → Makes σ owed w' st (f (p st).0 (p st).1)
        go st a b same known = joined st a (b (a.entries ∙ same) (known_stays a known))

    -- what is owed is kept for later
    pub lowers_next : {A B : Type 0} {owed : ℕ} {w : A → ℕ} {w' : B → ℕ} {p : Low A} {f : A → Low B}
        → MakesWhere σ E 0 w p → ((a : A) → MakesWhere σ E (w a + owed) w' (f a)) → MakesWhere σ E owed w' (p >>= f)
    lowers_next {owed} h g = lowers_then 0 owed (omega arith) h g

    pub lowers_give : {A : Type 0} {owed : ℕ} {w : A → ℕ} (a : A) → w a ≤ owed → MakesWhere σ E owed w (give a)
    unfolding give
    lowers_give a le = record { makes = λ st same known. record { entries = refl; sets = refl; fits = λ z. z; weighs = λ z. omega arith } }

    pub lowers_asks : {A B : Type 0} {owed : ℕ} {w : B → ℕ} (g : State → A) {f : A → Low B} → ((a : A) → MakesWhere σ E owed w (f a)) → MakesWhere σ E owed w (asks g >>= f)
    unfolding ◌>>=◌ asks
    lowers_asks g h = record { makes = λ st same known. (h (g st)).makes st same known }

    pub lowers_when : {A : Type 0} {owed : ℕ} {w : A → ℕ} {p q : Low A} (b : Bool) → MakesWhere σ E owed w p → MakesWhere σ E owed w q → MakesWhere σ E owed w (when b p q)
    unfolding when
    lowers_when true h g = h
    lowers_when false h g = g

    pub lowers_each : {A B : Type 0} {w : B → ℕ} (c : A → ℕ) {f : A → Low B} → ((x : A) → MakesWhere σ E (c x) w (f x)) → (xs : List A)
        → MakesWhere σ E (sum_by c xs) (sum_by w) (each f xs)
    unfolding each
    lowers_each c h [] = lowers_give [] (omega arith)
    lowers_each {w} c h (x ∷ xs) =
        lowers_then (c x) (sum_by c xs) (omega arith) (h x) λ y.
        lowers_then (sum_by c xs) (w y) (omega arith) (lowers_each c h xs) λ ys. lowers_give (y ∷ ys) (omega arith)

    pub lowers_at_most : {A : Type 0} {w w' : A → ℕ} {p : Low A} (o o' : ℕ) → o ≤ o' → ((a : A) → w' a ≤ w a) → MakesWhere σ E o w p → MakesWhere σ E o' w' p
    lowers_at_most {w} {w'} {p} o o' le less h = record { makes = λ st same known. go st (h.makes st same known) }
      where
        go : (st : State) → Makes σ o w st (p st) → Makes σ o' w' st (p st)
        go st a =
            record {
              entries = a.entries;
              sets = a.sets;
              fits = a.fits;
              weighs = λ z. let i = a.weighs z in let j = less (p st).0 in omega arith;
            }

    -- where nothing is owed for any
    pub lowers_all : {A B : Type 0} {w : B → ℕ} {f : A → Low B} → ((x : A) → MakesWhere σ E 0 w (f x)) → (xs : List A) → MakesWhere σ E 0 (sum_by w) (each f xs)
    lowers_all h xs = let z = sum_zero xs in lowers_at_most (sum_by (λ _. 0) xs) 0 (omega arith) (λ a. omega arith) (lowers_each (λ _. 0) h xs)

    -- ---- allocation
    pub lowers_made : {owed : ℕ} (d : Made) → form_weight σ d.expr ≤ owed → MakesWhere σ E owed σ.weight (new_made d)
    unfolding new_made expr_at made_at
    lowers_made {owed} d le = record { makes = λ st same known. go st }
      where
        at_end : (st : State) (rest : List Made) → st.exprs ++ (d ∷ []) ++ rest ≡ σ.lowered.exprs → expr_at σ.lowered (length st.exprs) ≡ d.expr
        at_end st rest p =
            ap (λ (es : List Made). (get_or es (length st.exprs) (record { expr = missing; pointer = none })).expr) (sym p ∙ append_snoc st.exprs d rest)
            ∙ ap (λ (k : Made). k.expr) (get_or-append_seam st.exprs d rest _)

        go : (st : State) → Makes σ owed σ.weight st (new_made d st)
        go st =
            record {
              entries = refl;
              sets = refl;
              fits = λ z. record { more = d ∷ z.more; goes_on = sym (append_snoc st.exprs d z.more) ∙ z.goes_on };
              weighs = λ z.
                  let i = σ.meets (length st.exprs) in
                  let j : form_weight σ (expr_at σ.lowered (length st.exprs)) ≡ form_weight σ d.expr = ap (form_weight σ) (at_end st z.more z.goes_on) in
                  rw (length_snoc st.exprs d) (omega arith);
            }

    pub lowers_alloc : {owed : ℕ} (e : Expr) (p : Pointer) → form_weight σ e ≤ owed → MakesWhere σ E owed σ.weight (alloc_expr e p)
    unfolding alloc_expr
    lowers_alloc e p le = lowers_made (record { expr = e; pointer = some p }) le

    pub lowers_missing : {owed : ℕ} → MakesWhere σ E owed σ.weight alloc_missing
    unfolding alloc_missing form
    lowers_missing = lowers_made (record { expr = missing; pointer = none }) (omega arith)

    -- an expression whose number is not handed on to be walked
    pub lowers_aside : {owed : ℕ} (e : Expr) (p : Pointer) → MakesWhere σ E owed (λ _. 0) (alloc_expr e p)
    unfolding alloc_expr new_made
    lowers_aside {owed} e p = record { makes = λ st same known. go st }
      where
        go : (st : State) → Makes σ owed (λ (_ : ExprId). 0) st (new_made (record { expr = e; pointer = some p }) st)
        go st =
            record {
              entries = refl;
              sets = refl;
              fits = λ z.
                  let d : Made = record { expr = e; pointer = some p } in
                  record { more = d ∷ z.more; goes_on = sym (append_snoc st.exprs d z.more) ∙ z.goes_on };
              weighs = λ z.
                  let d : Made = record { expr = e; pointer = some p } in
                  rw (length_snoc st.exprs d) (omega arith);
            }

    pub lowers_name : {owed : ℕ} (t : Text) (k : NameKind) (p : Pointer) → MakesWhere σ E owed σ.of_name (alloc_name t k p)
    unfolding alloc_name
    lowers_name t k p =
        record {
          makes = λ st same known.
              record {
                entries = refl;
                sets = refl;
                fits = λ z. record { more = z.more; goes_on = z.goes_on };
                weighs = λ z.
                    let d : Name = record { text = t; kind = k; pointer = p } in
                    rw (length_snoc st.names d) (omega arith);
              };
        }
