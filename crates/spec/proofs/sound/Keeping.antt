-- Steps of lowering, one after the other, that keep every row in range and every inherited value right. Assumes
-- nothing.
use mathlib.Core.Path.{◌≡◌, refl, sym, ap, subst}
use mathlib.Core.Bool.{Bool, true, false, ◌||◌}
use mathlib.Core.List.{List, [], ◌∷◌, ◌++◌}
use mathlib.Core.Option.{none, some}
use Prim.Native.Nat.{ℕ, ◌<◌, ◌≤◌}
use native.Mathlib.Omega.{arith}
use lib.Dec.{eqb}
use lib.ListN.{length, length-append, get_or-append}
use lib.Seq.{get_or-append_seam}
use Rattle.words.specs.Order.{pick}
use Rattle.spec.specs.Basics.{Text, ExprId, NameId}
use Rattle.spec.specs.Steps.{◌>>=◌, give, asks, when, each}
use Rattle.spec.specs.Module.{Pointer, Expr, missing, Made, NameKind, Name}
use Rattle.spec.specs.State.{SetId, MergingSet, MergingEntry, static, source, dynamic, State, Low, new_made, alloc_expr, alloc_missing, alloc_name, new_set, set_entries, add_entry, cut, inner}
use Rattle.spec.specs.Scopes.{one_or_none, form, is_in}
use Rattle.spec.specs.Merge.{sources_of}
use Rattle.spec.proofs.general.BoolLaws.{differ}
use Rattle.spec.proofs.general.ListLaws.{length_snoc}
use Rattle.spec.proofs.general.Sums.{All, all_append, all_map, compared}
use Rattle.spec.proofs.once.Weights.{NamesSets, Known}
use Rattle.spec.proofs.once.Merging.{names_more}
use Rattle.spec.proofs.steps.Weighing.{Grown, grown_same, grown_then}
use Rattle.spec.proofs.sound.Numbers.{Right, right_more, Row, row_more}
use Rattle.spec.proofs.sound.Ordered.{at}

-- ---- the state
-- an entry's name is one of x names, and its value is right beside the sources of its set
abbrev pub EntryRight : ℕ → List Made → List MergingEntry → MergingEntry → Type 0
EntryRight x es all (static s k y nested value) = (y < x) × All (Right (length es) es (sources_of s all)) (one_or_none value)
EntryRight x es all (source s e) = Unit {0}
EntryRight x es all (dynamic s k v) = Unit {0}

pub record RightSoFar (st : State) : Type 0 where
  pub rows : (i : ℕ) → i < length st.exprs → Row (length st.names) i st.exprs (form (at st.exprs i))
  pub entries : All (EntryRight (length st.names) st.exprs st.entries) st.entries
  pub known : Known st

-- what is there stays
pub record Goes (st after : State) : Type 0 where
  pub exprs : Grown st.exprs after.exprs
  pub names : length st.names ≤ length after.names
  pub sets : length st.sets ≤ length after.sets
  pub sources : (s : SetId) (e : ExprId) → is_in e (sources_of s st.entries) ≡ true → is_in e (sources_of s after.entries) ≡ true

pub goes_same : (st : State) → Goes st st
goes_same st = record { exprs = grown_same _; names = omega arith; sets = omega arith; sources = λ s e h. h }

pub goes_then : {st mid after : State} → Goes st mid → Goes mid after → Goes st after
goes_then g h =
    record {
      exprs = grown_then g.exprs h.exprs;
      names = omega (arith, g.names, h.names);
      sets = omega (arith, g.sets, h.sets);
      sources = λ s e i. h.sources s e (g.sources s e i);
    }

pub grown_length : {l m : List Made} → Grown l m → length l ≤ length m
grown_length {l} g = rw g.is (omega (arith, length-append l g.more))

pub record Keeping {A : Type 0} (K : A → State → Type 0) (st : State) (r : A × State) : Type 0 where
  pub ready : RightSoFar r.1
  pub goes : Goes st r.1
  pub knows : K r.0 r.1

-- A step that keeps all in order wherever what st has is there, and gives something of which K holds.
pub record Keeps {A : Type 0} (K : A → State → Type 0) (st₀ : State) (p : Low A) : Type 0 where
  pub keeps : (st : State) → RightSoFar st → Goes st₀ st → Keeping K st (p st)

abbrev pub nothing : {A : Type 0} → A → State → Type 0
nothing a st = Unit {0}

-- ---- one after another
module _ {st₀ : State} where
  pub keeps_next : {A B : Type 0} {K : A → State → Type 0} {K' : B → State → Type 0} {p : Low A} {f : A → Low B}
      → Keeps K st₀ p → ((a : A) (st : State) → Goes st₀ st → K a st → Keeps K' st (f a)) → Keeps K' st₀ (p >>= f)
  unfolding ◌>>=◌
  keeps_next {p = p} h k =
      record {
        keeps = λ st ready g.
            let a = h.keeps st ready g in
            let b = (k (p st).0 (p st).1 (goes_then g a.goes) a.knows).keeps (p st).1 a.ready (goes_same _) in
            record { ready = b.ready; goes = goes_then a.goes b.goes; knows = b.knows };
      }

  pub keeps_give : {A : Type 0} {K : A → State → Type 0} (a : A) → ((st : State) → Goes st₀ st → K a st) → Keeps K st₀ (give a)
  unfolding give
  keeps_give a h = record { keeps = λ st ready g. record { ready = ready; goes = goes_same st; knows = h st g } }

  pub keeps_asks : {A B : Type 0} {K : B → State → Type 0} (g : State → A) (f : A → Low B)
      → ((st : State) → RightSoFar st → Goes st₀ st → Keeps K st (f (g st))) → Keeps K st₀ (asks g >>= f)
  unfolding ◌>>=◌ asks
  keeps_asks g f h = record { keeps = λ st ready i. (h st ready i).keeps st ready (goes_same st) }

  pub keeps_when : {A : Type 0} {K : A → State → Type 0} {p q : Low A} (b : Bool) → Keeps K st₀ p → Keeps K st₀ q → Keeps K st₀ (when b p q)
  unfolding when
  keeps_when true h k = h
  keeps_when false h k = k

  -- of which less is told
  pub keeps_less : {A : Type 0} {K K' : A → State → Type 0} {p : Low A} → ((a : A) (st : State) → K a st → K' a st) → Keeps K st₀ p → Keeps K' st₀ p
  keeps_less {p = p} f h =
      record { keeps = λ st ready g. let a = h.keeps st ready g in record { ready = a.ready; goes = a.goes; knows = f (p st).0 (p st).1 a.knows } }

-- a step for each item of which S is known
pub keeps_each : {A B : Type 0} {K : B → State → Type 0} (S : A → State → Type 0) {f : A → Low B}
    → ((x : A) (st after : State) → Goes st after → S x st → S x after) → ((y : B) (st after : State) → Goes st after → K y st → K y after)
    → ((x : A) (st : State) → S x st → Keeps K st (f x))
    → (st₀ : State) (xs : List A) → All (λ x. S x st₀) xs → Keeps (λ ys st. All (λ y. K y st) ys) st₀ (each f xs)
unfolding each
keeps_each S m n h st₀ [] a = keeps_give [] λ st g. tt
keeps_each S m n h st₀ (x ∷ xs) a =
    keeps_next (h x st₀ a.0) λ y st₁ g₁ k₁.
    keeps_next (keeps_each S m n h st₁ xs (all_map _ _ (λ x s. m x st₀ st₁ g₁ s) xs a.1)) λ ys st₂ g₂ k₂.
    keeps_give (y ∷ ys) λ st g. (n y st₁ st (goes_then g₂ g) k₁, all_map _ _ (λ y k. n y st₂ st g k) ys k₂)

pub all_unit : {A : Type 0} (xs : List A) → All (λ _. Unit {0}) xs
all_unit [] = tt
all_unit (x ∷ xs) = (tt, all_unit xs)

-- where nothing need be known, and little is told
pub keeps_all : {A B : Type 0} {K : B → State → Type 0} {f : A → Low B} → ((y : B) (st after : State) → Goes st after → K y st → K y after)
    → ((x : A) (st : State) → Keeps K st (f x)) → (st₀ : State) (xs : List A) → Keeps (λ ys st. All (λ y. K y st) ys) st₀ (each f xs)
keeps_all n h st₀ xs = keeps_each nothing (λ x st after g s. tt) n (λ x st _. h x st) st₀ xs (all_unit xs)

-- ---- allocation
pub entries_more : {x x' : ℕ} {es es' : List Made} (all all' : List MergingEntry) → x ≤ x' → Grown es es'
    → ((s : SetId) (e : ExprId) → is_in e (sources_of s all) ≡ true → is_in e (sources_of s all') ≡ true)
    → (ms : List MergingEntry) → All (EntryRight x es all) ms → All (EntryRight x' es' all') ms
entries_more {x} {x'} {es} {es'} all all' l g f ms a = all_map _ _ each_more ms a
  where
    each_more : (m : MergingEntry) → EntryRight x es all m → EntryRight x' es' all' m
    each_more (static s k y nested value) r = (
      (let z = r.0 in omega arith),
      all_map _ _ (λ v h. right_more (sources_of s all) (sources_of s all') (grown_length g) g (f s) v h) (one_or_none value) r.1,
    )
    each_more (source s e) r = tt
    each_more (dynamic s k v) r = tt

one_more_lem : (es : List Made) (d : Made) → Grown es (es ++ (d ∷ []))
one_more_lem es d = record { more = d ∷ []; is = refl }

-- the new expression is the last
pub at_last : (es : List Made) (d : Made) → at (es ++ (d ∷ [])) (length es) ≡ d.expr
at_last es d = ap (λ (k : Made). k.expr) (get_or-append_seam es d [] _)

rows_made : (x : ℕ) (es : List Made) (d : Made) → ((i : ℕ) → i < length es → Row x i es (form (at es i))) → Row x (length es) es (form d.expr)
    → (i : ℕ) → i < length (es ++ (d ∷ [])) → Row x i (es ++ (d ∷ [])) (form (at (es ++ (d ∷ [])) i))
rows_made x es d rows row i l = compared i (length es) (λ p. last p) (λ n. earlier (let k = length_snoc es d in omega arith))
  where
    more : {n : ℕ} (e : Expr) → Row x n es (form e) → Row x n (es ++ (d ∷ [])) (form e)
    more e r = row_more (omega arith) (one_more_lem es d) (form e) r

    last : i ≡ length es → Row x i (es ++ (d ∷ [])) (form (at (es ++ (d ∷ [])) i))
    last p = rw p (subst (λ (e : Expr). Row x (length es) (es ++ (d ∷ [])) (form e)) (sym (at_last es d)) (more d.expr row))

    earlier : i < length es → Row x i (es ++ (d ∷ [])) (form (at (es ++ (d ∷ [])) i))
    earlier k =
        let q : at (es ++ (d ∷ [])) i ≡ at es i = ap (λ (m : Made). m.expr) (get_or-append es (d ∷ []) _ i k) in
        subst (λ (e : Expr). Row x i (es ++ (d ∷ [])) (form e)) (sym q) (more (at es i) (rows i k))

-- an expression that was made
abbrev pub IsNow : Expr → ExprId → State → Type 0
IsNow e i st = (i < length st.exprs) × (at st.exprs i ≡ e)

keeps_made : {st₀ : State} (d : Made) → ((st : State) → Goes st₀ st → Row (length st.names) (length st.exprs) st.exprs (form d.expr))
    → Keeps (IsNow d.expr) st₀ (new_made d)
unfolding new_made
keeps_made d h =
    record {
      keeps = λ st ready g.
          record {
            ready = record {
              rows = rows_made _ st.exprs d ready.rows (h st g);
              entries = entries_more st.entries st.entries (omega arith) (one_more_lem _ d) (λ s e i. i) st.entries ready.entries;
              known = ready.known;
            };
            goes = record { exprs = one_more_lem _ d; names = omega arith; sets = omega arith; sources = λ s e i. i };
            knows = ((let k = length_snoc st.exprs d in omega arith), at_last st.exprs d);
          };
    }

-- what there is to know of a row before it is made
abbrev pub NewRow : State → Expr → Type 0
NewRow st₀ e = (st : State) → Goes st₀ st → Row (length st.names) (length st.exprs) st.exprs (form e)

pub keeps_known : {st₀ : State} (e : Expr) (p : Pointer) → NewRow st₀ e → Keeps (IsNow e) st₀ (alloc_expr e p)
unfolding alloc_expr
keeps_known e p h = keeps_made (record { expr = e; pointer = some p }) h

pub keeps_alloc : {st₀ : State} (e : Expr) (p : Pointer) → NewRow st₀ e → Keeps nothing st₀ (alloc_expr e p)
keeps_alloc e p h = keeps_less (λ a st k. tt) (keeps_known e p h)

pub keeps_missing : {st₀ : State} → Keeps nothing st₀ alloc_missing
unfolding alloc_missing form
keeps_missing = keeps_less (λ a st k. tt) (keeps_made (record { expr = missing; pointer = none }) (λ st g. record { names = tt; bindings = tt }))

-- a name that there is
abbrev pub Named : NameId → State → Type 0
Named x st = x < length st.names

pub keeps_name : {st₀ : State} (t : Text) (k : NameKind) (p : Pointer) → Keeps Named st₀ (alloc_name t k p)
unfolding alloc_name
keeps_name t k p =
    record {
      keeps = λ st ready g.
          let d : Name = record { text = t; kind = k; pointer = p } in
          let l = length_snoc st.names d in
          record {
            ready = record {
              rows = λ i j. row_more (omega arith) (grown_same _) _ (ready.rows i j);
              entries = entries_more st.entries st.entries (omega arith) (grown_same _) (λ s e i. i) st.entries ready.entries;
              known = ready.known;
            };
            goes = record { exprs = grown_same _; names = omega arith; sets = omega arith; sources = λ s e i. i };
            knows = omega arith;
          };
    }

-- a set that there is
abbrev pub Opened : SetId → State → Type 0
Opened s st = s < length st.sets

pub keeps_set : {st₀ : State} (k : NameKind) (p : Pointer) → Keeps Opened st₀ (new_set k p)
unfolding new_set
keeps_set k p =
    record {
      keeps = λ st ready g.
          let d : MergingSet = record { pointer = p; name_kind = k } in
          let l = length_snoc st.sets d in
          record {
            ready = record { rows = ready.rows; entries = ready.entries; known = all_map _ _ (names_more (omega arith) (omega arith)) st.entries ready.known };
            goes = record { exprs = grown_same _; names = omega arith; sets = omega arith; sources = λ s e i. i };
            knows = omega arith;
          };
    }

-- ---- entries
-- one more entry takes no source away
pub sources_add : (s : SetId) (d : ExprId) (es : List MergingEntry) (e : MergingEntry) → is_in d (sources_of s es) ≡ true
    → is_in d (sources_of s (es ++ (e ∷ []))) ≡ true
unfolding sources_of is_in
sources_add s d [] e h = differ (sym h)
sources_add s d (static t k x nested value ∷ es) e h = sources_add s d es e h
sources_add s d (dynamic t k v ∷ es) e h = sources_add s d es e h
sources_add s d (source t x ∷ es) e h = go (eqb t s) h (sources_add s d es e)
  where
    first : (b : Bool) → b || is_in d (sources_of s es) ≡ true → (is_in d (sources_of s es) ≡ true → is_in d (sources_of s (es ++ (e ∷ []))) ≡ true)
        → b || is_in d (sources_of s (es ++ (e ∷ []))) ≡ true
    first true i f = refl
    first false i f = f i

    go : (b : Bool) → is_in d (pick b (x ∷ sources_of s es) (sources_of s es)) ≡ true → (is_in d (sources_of s es) ≡ true → is_in d (sources_of s (es ++ (e ∷ []))) ≡ true)
        → is_in d (pick b (x ∷ sources_of s (es ++ (e ∷ []))) (sources_of s (es ++ (e ∷ [])))) ≡ true
    go true i f = first (eqb d x) i f
    go false i f = f i

pub keeps_add : {st₀ : State} (e : MergingEntry) → ((st : State) → Goes st₀ st → NamesSets 0 (length st.sets) e)
    → ((st : State) → Goes st₀ st → EntryRight (length st.names) st.exprs (st.entries ++ (e ∷ [])) e) → Keeps nothing st₀ (add_entry e)
unfolding add_entry set_entries ◌>>=◌ asks
keeps_add e n r =
    record {
      keeps = λ st ready g.
          record {
            ready = record {
              rows = ready.rows;
              entries = all_append _ st.entries (e ∷ [])
                  (entries_more st.entries (st.entries ++ (e ∷ [])) (omega arith) (grown_same _) (λ s d h. sources_add s d st.entries e h) st.entries ready.entries)
                  (r st g, tt);
              known = all_append _ st.entries (e ∷ []) ready.known (n st g, tt);
            };
            goes = record { exprs = grown_same _; names = omega arith; sets = omega arith; sources = λ s d h. sources_add s d st.entries e h };
            knows = tt;
          };
    }

-- ---- a step with sets of its own, which leaves those around it as they were
pub keeps_inner : {A : Type 0} {K : A → State → Type 0} {p : Low A} {st₀ : State}
    → ((st : State) → Known st → ((inner p st).1.entries ≡ st.entries) × ((inner p st).1.sets ≡ st.sets))
    → ((a : A) (st : State) (s e : ℕ) → K a st → K a (cut s e st).1) → Keeps K st₀ p → Keeps K st₀ (inner p)
unfolding inner cut give ◌>>=◌ asks
keeps_inner {K = K} {p = p} same move h = record { keeps = λ st ready g. go st ready (h.keeps st ready g) (same st ready.known) }
  where
    go : (st : State) → RightSoFar st → Keeping K st (p st) → ((inner p st).1.entries ≡ st.entries) × ((inner p st).1.sets ≡ st.sets) → Keeping K st (inner p st)
    go st ready a q =
        record {
          ready = record {
            rows = a.ready.rows;
            entries = rw q.0 (entries_more st.entries st.entries a.goes.names a.goes.exprs (λ s e i. i) st.entries ready.entries);
            known = rw (q.0, q.1) ready.known;
          };
          goes = record { exprs = a.goes.exprs; names = a.goes.names; sets = rw q.1 (omega arith); sources = λ s e i. rw q.0 i };
          knows = move (p st).0 (p st).1 (length st.sets) (length st.entries) a.knows;
        }
