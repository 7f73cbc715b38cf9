-- Every name in a row of a lowered module is one of its names, and every inherited value is what it is said to be.
-- Assumes nothing.
use mathlib.Core.Path.{◌≡◌, refl, ap, ◌∙◌}
use mathlib.Core.Bool.{Bool, true, false}
use mathlib.Core.List.{List, [], ◌∷◌, ◌++◌}
use mathlib.Core.Option.{Option, none, some}
use Prim.Native.Nat.{ℕ, zero, suc, ◌<◌, ◌≤◌}
use native.Mathlib.Omega.{arith}
use lib.Dec.{eqb}
use lib.ListN.{length, get_or, set}
use borrow.Author.Tests.{eqb-true, eq-eqb}
use Rattle.words.specs.Order.{pick, order}
use Rattle.std.specs.declared.cmp.Ordering.{Ordering}
use Rattle.std.specs.declared.cmp.Ordering.TheVariants.{Less, Equal, Greater}
use Rattle.spec.specs.Basics.{Text, NodeId, ExprId, NameId}
use Rattle.spec.specs.Keys.{AttrKind, static_key, dynamic_key, kind, flag, text, pointer, items, attr_kind, get_str_literal}
use Rattle.spec.specs.Sheet.{Node}
use Rattle.spec.specs.Steps.{◌>>=◌, give, asks, each_of}
use Rattle.spec.specs.Module.{Pointer, string, BindingValue, expr, inherit, inherit_from, Bindings, Pat, Expr, missing, apply, literal, lambda, let_in, attr_set, reference, select, with_in, assert_in, Made, NameKind, PlainAttrset}
use Rattle.spec.specs.State.{SetId, MergingSet, MergingEntry, static, source, dynamic, State, empty, Low, add_duplicate, new_set, set_entries, set_entry, cut, add_entry}
use Rattle.spec.specs.Scopes.{one_or_none, field_names, pat_fields, bound, through, form, is_in}
use Rattle.spec.specs.Merge.{find, entry_at, nested_in, with_value, with_nested, nested_at, name_key, merge_value_at, merge_static_value, new_nested, nested_or, nested_static_at, get_or_create_nested_static, is_at, Static, here_or_later, insert_static, statics_of, sources_of, finish_value, finish_static, finish_with, finish_to, finish_expr, finish, lower_opt, push_dynamic, merge_lowered, merge_into, merge_keyed, merge_attr_as, merge_attr_value, merge_step_as, merge_nested_attr_value, merge_path, merge_attrpath_val, inherit_value, inherit_as, inherit_attr, inherit_source, merge_inherit, merge_entry, entries_of, merge_entries, desugar}
use Rattle.spec.specs.Lower.{lower_if_there, lower_part, string_as, lower_string, lower_path, lower_attr, lower_attrpath_opt, lower_name, lower_field, lower_pattern, lower_param, pair, lower_if_else, lower_select, lower_has_attr, lower_float, lower_integer, lower_lambda, lower_let_in, lower_list, lower_bin_op, lower_attr_set, lower_unary_op, lower_ident, lower_as, lower_expr, merge_bindings, module_of, lower_module}
use Rattle.spec.proofs.general.ListLaws.{length_snoc, is_in_first, is_in_rest}
use Rattle.spec.proofs.general.Sums.{All, all_append, all_map, all_set, all_at}
use Rattle.spec.proofs.sound.Ordered.{AllBelow, at}
use Rattle.spec.proofs.once.Weights.{NamesSets}
use Rattle.spec.proofs.once.Nesting.{is_at_set, find_from_at}
use Rattle.spec.proofs.once.Merging.{names_more, with_value_set, with_value_nested, with_nested_set, with_nested_nested}
use Rattle.spec.proofs.steps.Weighing.{grown_same}
use Rattle.spec.proofs.once.Leaves.{Leaves, lowered_leaves}
use Rattle.spec.proofs.sound.Numbers.{at_stays, Right, right_more, StaticRight, BindingsRight, bindings_more, static_names, Row}
use Rattle.spec.proofs.sound.Keeping.{EntryRight, RightSoFar, Goes, goes_same, goes_then, grown_length, Keeping, Keeps, nothing, keeps_next, keeps_give, keeps_asks, keeps_when, keeps_less, keeps_each, keeps_all, NewRow, keeps_known, keeps_alloc, keeps_missing, Named, keeps_name, Opened, keeps_set, entries_more, sources_add, keeps_add, keeps_inner}

-- ---- what is known of results
abbrev NamesNow : List NameId → State → Type 0
NamesNow xs st = AllBelow (length st.names) xs

abbrev FieldNow : Option NameId × Option ExprId → State → Type 0
FieldNow f st = NamesNow (one_or_none f.0) st

abbrev ParamNow : Option NameId × Option Pat → State → Type 0
ParamNow p st = NamesNow (one_or_none p.0) st × NamesNow (field_names (pat_fields p.1)) st

abbrev BindingsNow : Bindings → State → Type 0
BindingsNow bs st = BindingsRight (length st.names) (length st.exprs) st.exprs bs

-- a value that is right beside such sources
abbrev RightNow : List ExprId → BindingValue → State → Type 0
RightNow froms v st = Right (length st.exprs) st.exprs froms v

names_go : (xs : List NameId) (st after : State) → Goes st after → NamesNow xs st → NamesNow xs after
names_go xs st after g a = let l = g.names in all_map _ _ (λ x h. omega arith) xs a

right_go : (froms : List ExprId) (v : BindingValue) (st after : State) → Goes st after → RightNow froms v st → RightNow froms v after
right_go froms v st after g r = right_more froms froms (grown_length g.exprs) g.exprs (λ d h. h) v r

bindings_go : (bs : Bindings) (st after : State) → Goes st after → BindingsNow bs st → BindingsNow bs after
bindings_go bs st after g a = bindings_more g.names (grown_length g.exprs) g.exprs bs a

-- a row with neither names nor bindings
bare : {x n : ℕ} {es : List Made} {cs : List ExprId} → Row x n es (through cs)
bare = record { names = tt; bindings = tt }

fields_names : (n : ℕ) (fs : List (Option NameId × Option ExprId)) → All (λ f. AllBelow n (one_or_none f.0)) fs → AllBelow n (field_names fs)
unfolding field_names
fields_names n [] a = tt
fields_names n (f ∷ fs) a = all_append _ (one_or_none f.0) (field_names fs) a.0 (fields_names n fs a.1)

statics_names : (x n : ℕ) (es : List Made) (froms : List ExprId) (bs : List (NameId × BindingValue)) → All (StaticRight x n es froms) bs
    → AllBelow x (static_names bs)
statics_names x n es froms [] a = tt
statics_names x n es froms (b ∷ bs) a = (a.0.0, statics_names x n es froms bs a.1)

bound_row : {st₀ : State} (e : Expr) (bs : Bindings) (body : Option ExprId) → form e ≡ bound bs body → BindingsNow bs st₀ → NewRow st₀ e
bound_row {st₀} e bs body p a st g =
    let b = bindings_go bs st₀ st g a in
    rw p (record { names = statics_names _ _ st.exprs bs.inherit_froms bs.statics b; bindings = (b, tt) })

-- ---- the lowering functions
module _ (nodes : List Node) (lower : NodeId → Low ExprId) (merge : SetId → NodeId → Low (Unit {0})) (lowers : (st : State) (m : NodeId) → Keeps nothing st (lower m)) where
  opt_keeps : (st : State) (m : Option NodeId) → Keeps nothing st (lower_opt nodes lower merge m)
  unfolding lower_opt
  opt_keeps st none = keeps_missing
  opt_keeps st (some m) = lowers st m

  there_keeps : (st : State) (m : Option NodeId) → Keeps nothing st (lower_if_there nodes lower merge m)
  unfolding lower_if_there
  there_keeps st none = keeps_give none λ _ _. tt
  there_keeps st (some m) = keeps_next (lowers st m) λ e _ _ _. keeps_give (some e) λ _ _. tt

  part_keeps : (m : NodeId) (st : State) → Keeps nothing st (lower_part nodes lower merge m)
  unfolding lower_part
  part_keeps m st = keeps_when _ (keeps_give _ λ _ _. tt) (keeps_next (opt_keeps st _) λ e _ _ _. keeps_give _ λ _ _. tt)

  string_keeps : (st : State) (m : NodeId) → Keeps nothing st (lower_string nodes lower merge m)
  unfolding lower_string string_as form
  string_keeps st m = go (get_str_literal nodes m)
    where
      go : (t : Option Text) → Keeps nothing st (string_as nodes lower merge m t)
      go (some t) = keeps_alloc _ _ (λ _ _. bare)
      go none = keeps_next (keeps_all (λ _ _ _ _ _. tt) part_keeps st (items nodes m)) λ ps _ _ _. keeps_alloc _ _ (λ _ _. bare)

  path_keeps : (st : State) (m : NodeId) → Keeps nothing st (lower_path nodes lower merge m)
  unfolding lower_path form
  path_keeps st m =
      keeps_when _ (keeps_next (keeps_all (λ _ _ _ _ _. tt) part_keeps st _) λ ps _ _ _. keeps_alloc _ _ (λ _ _. bare)) (keeps_alloc _ _ (λ _ _. bare))

  attr_keeps : (m : NodeId) (st : State) → Keeps nothing st (lower_attr nodes lower merge m)
  unfolding lower_attr form
  attr_keeps m st = keeps_when _ (opt_keeps st _) (keeps_when _ (string_keeps st m) (keeps_when _ (keeps_alloc _ _ (λ _ _. bare)) keeps_missing))

  attrpath_keeps : (st : State) (p : Option NodeId) → Keeps nothing st (lower_attrpath_opt nodes lower merge p)
  unfolding lower_attrpath_opt
  attrpath_keeps st p = keeps_less (λ _ _ _. tt) (keeps_all (λ _ _ _ _ _. tt) attr_keeps st _)

  name_keeps : (st : State) (k : NameKind) (m : Option NodeId) → Keeps (λ x. NamesNow (one_or_none x)) st (lower_name nodes lower merge k m)
  unfolding lower_name one_or_none
  name_keeps st k none = keeps_give none λ _ _. tt
  name_keeps st k (some i) = keeps_next (keeps_name _ _ _) λ x st₁ _ h. keeps_give (some x) λ st₂ g. names_go (x ∷ []) st₁ st₂ g (h, tt)

  field_keeps : (m : NodeId) (st : State) → Keeps FieldNow st (lower_field nodes lower merge m)
  unfolding lower_field
  field_keeps m st =
      keeps_next (name_keeps st _ _) λ x st₁ _ h. keeps_next (there_keeps st₁ _) λ e st₂ g _. keeps_give (x, e) λ st₃ i. names_go (one_or_none x) st₁ st₃ (goes_then g i) h

  param_keeps : (st : State) (m : Option NodeId) → Keeps ParamNow st (lower_param nodes lower merge m)
  unfolding lower_param lower_pattern pat_fields one_or_none field_names
  param_keeps st none = keeps_give (none, none) λ _ _. (tt, tt)
  param_keeps st (some m) =
      keeps_when _ (keeps_next (name_keeps st _ _) λ x st₁ _ h. keeps_give (x, none) λ st₂ g. (names_go (one_or_none x) st₁ st₂ g h, tt))
      (keeps_next (name_keeps st _ _) λ x st₁ _ h.
      keeps_next (keeps_all (λ f st after g. names_go (one_or_none f.0) st after g) field_keeps st₁ _) λ fs st₂ g a.
      keeps_give _ λ st₃ i. (names_go (one_or_none x) st₁ st₃ (goes_then g i) h, names_go (field_names fs) st₂ st₃ i (fields_names _ fs a)))

  pair_keeps : (f : ExprId → ExprId → Expr) → ((a b : ExprId) (st : State) → NewRow st (f a b)) → (st : State) (m : NodeId)
      → Keeps nothing st (pair nodes lower merge f m)
  unfolding pair
  pair_keeps f h st m = keeps_next (opt_keeps st _) λ a st₁ _ _. keeps_next (opt_keeps st₁ _) λ b st₂ _ _. keeps_alloc _ _ (h a b st₂)

  if_keeps : (st : State) (m : NodeId) → Keeps nothing st (lower_if_else nodes lower merge m)
  unfolding lower_if_else form
  if_keeps st m = keeps_next (opt_keeps st _) λ c st₁ _ _. keeps_next (opt_keeps st₁ _) λ t st₂ _ _. keeps_next (opt_keeps st₂ _) λ e _ _ _. keeps_alloc _ _ (λ _ _. bare)

  select_keeps : (st : State) (m : NodeId) → Keeps nothing st (lower_select nodes lower merge m)
  unfolding lower_select form
  select_keeps st m =
      keeps_next (opt_keeps st _) λ s st₁ _ _. keeps_next (attrpath_keeps st₁ _) λ p st₂ _ _. keeps_next (there_keeps st₂ _) λ d _ _ _. keeps_alloc _ _ (λ _ _. bare)

  has_keeps : (st : State) (m : NodeId) → Keeps nothing st (lower_has_attr nodes lower merge m)
  unfolding lower_has_attr form
  has_keeps st m = keeps_next (opt_keeps st _) λ s st₁ _ _. keeps_next (attrpath_keeps st₁ _) λ p _ _ _. keeps_alloc _ _ (λ _ _. bare)

  lambda_keeps : (st : State) (m : NodeId) → Keeps nothing st (lower_lambda nodes lower merge m)
  unfolding lower_lambda form
  lambda_keeps st m =
      keeps_next (param_keeps st _) λ p st₁ _ h. keeps_next (opt_keeps st₁ _) λ b st₂ g _.
      keeps_alloc (lambda p.0 p.1 b) _ λ st₃ i.
      let k = goes_then g i in
      record {
        names = all_append _ (one_or_none p.0) (field_names (pat_fields p.1)) (names_go (one_or_none p.0) st₁ st₃ k h.0) (names_go (field_names (pat_fields p.1)) st₁ st₃ k h.1);
        bindings = tt;
      }

  ident_keeps : (st : State) (m : NodeId) → Keeps nothing st (lower_ident nodes lower merge m)
  unfolding lower_ident form
  ident_keeps st m = keeps_alloc _ _ (go (eqb (flag nodes m) 1))
    where
      go : (b : Bool) → NewRow st (pick b (reference (text nodes m)) missing)
      go true = λ _ _. bare
      go false = λ _ _. bare

  module _ (merges : (st : State) (k : NameKind) (m : NodeId) → Keeps BindingsNow st (desugar nodes lower merge k m)) where
    let_keeps : (st : State) (m : NodeId) → Keeps nothing st (lower_let_in nodes lower merge m)
    unfolding lower_let_in form
    let_keeps st m =
        keeps_next (merges st _ _) λ bs st₁ _ h. keeps_next (opt_keeps st₁ _) λ b st₂ g _.
        keeps_alloc (let_in bs b) _ (bound_row (let_in bs b) bs (some b) refl (bindings_go bs st₁ st₂ g h))

    set_keeps : (st : State) (m : NodeId) → Keeps nothing st (lower_attr_set nodes lower merge m)
    unfolding lower_attr_set form
    set_keeps st m = keeps_next (merges st _ _) λ bs st₁ _ h. keeps_alloc (attr_set (eqb (flag nodes m) 1) bs) _ (bound_row (attr_set (eqb (flag nodes m) 1) bs) bs none refl h)

    as_keeps : (st : State) (k : ℕ) (m : NodeId) → Keeps nothing st (lower_as nodes lower merge k m)
    unfolding lower_as lower_float lower_integer lower_list lower_bin_op lower_unary_op form
    as_keeps st k m =
        keeps_when _ (pair_keeps apply (λ _ _ _ _ _. bare) st m)
        (keeps_when _ (if_keeps st m)
        (keeps_when _ (select_keeps st m)
        (keeps_when _ (pair_keeps with_in (λ _ _ _ _ _. record { names = tt; bindings = tt }) st m)
        (keeps_when _ (has_keeps st m)
        (keeps_when _ (string_keeps st m)
        (keeps_when _ (path_keeps st m)
        (keeps_when _ (keeps_when _ (keeps_alloc _ _ (λ _ _. bare)) keeps_missing)
        (keeps_when _ (keeps_when _ (keeps_alloc _ _ (λ _ _. bare)) keeps_missing)
        (keeps_when _ (keeps_alloc _ _ (λ _ _. bare))
        (keeps_when _ (lambda_keeps st m)
        (keeps_when _ (let_keeps st m)
        (keeps_when _ (keeps_next (keeps_all (λ _ _ _ _ _. tt) (λ x st. lowers st x) st _) λ es _ _ _. keeps_alloc _ _ (λ _ _. bare))
        (keeps_when _ (keeps_next (opt_keeps st _) λ a st₁ _ _. keeps_when _ keeps_missing (keeps_next (opt_keeps st₁ _) λ b _ _ _. keeps_alloc _ _ (λ _ _. bare)))
        (keeps_when _ (opt_keeps st _)
        (keeps_when _ (set_keeps st m)
        (keeps_when _ (keeps_when _ keeps_missing (keeps_next (opt_keeps st _) λ a _ _ _. keeps_alloc _ _ (λ _ _. bare)))
        (keeps_when _ (ident_keeps st m)
        (keeps_when _ (pair_keeps assert_in (λ _ _ _ _ _. bare) st m)
        (keeps_when _ (opt_keeps st _)
        (keeps_alloc _ _ (λ _ _. bare)))))))))))))))))))))

-- ---- an entry changed in its place
-- a change of one entry that leaves its set's sources
record Tame (f : MergingEntry → MergingEntry) : Type 0 where
  tame : (s : SetId) (e : MergingEntry) (es : List MergingEntry) → sources_of s (f e ∷ es) ≡ sources_of s (e ∷ es)

value_tame : (v : BindingValue) → Tame (with_value v)
unfolding with_value sources_of
value_tame v = record { tame = go }
  where
    go : (s : SetId) (e : MergingEntry) (es : List MergingEntry) → sources_of s (with_value v e ∷ es) ≡ sources_of s (e ∷ es)
    go s (static t k x nested value) es = refl
    go s (source t e) es = refl
    go s (dynamic t k w) es = refl

nested_tame : (t : SetId) → Tame (with_nested t)
unfolding with_nested sources_of
nested_tame t = record { tame = go }
  where
    go : (s : SetId) (e : MergingEntry) (es : List MergingEntry) → sources_of s (with_nested t e ∷ es) ≡ sources_of s (e ∷ es)
    go s (static u k x nested value) es = refl
    go s (source u e) es = refl
    go s (dynamic u k w) es = refl

sources_same : (f : MergingEntry → MergingEntry) → Tame f → (s : SetId) (es : List MergingEntry) (i : ℕ) (d : MergingEntry)
    → sources_of s (set es i (f (get_or es i d))) ≡ sources_of s es
unfolding sources_of
sources_same f h s [] i d = refl
sources_same f h s (e ∷ es) zero d = h.tame s e es
sources_same f h s (static t k x nested value ∷ es) (suc i) d = sources_same f h s es i d
sources_same f h s (source t e ∷ es) (suc i) d = rw (sources_same f h s es i d)
sources_same f h s (dynamic t k v ∷ es) (suc i) d = sources_same f h s es i d

-- where another entry is put into the place of one
changed : {A : Type 0} {K : A → State → Type 0} (a : A) (st after : State) (f : MergingEntry → MergingEntry) → Tame f → (i : ℕ)
    → after.exprs ≡ st.exprs → after.names ≡ st.names → length st.sets ≤ length after.sets
    → after.entries ≡ set st.entries i (f (get_or st.entries i (source 0 0))) → RightSoFar st
    → NamesSets 0 (length after.sets) (f (get_or st.entries i (source 0 0)))
    → EntryRight (length st.names) st.exprs st.entries (f (get_or st.entries i (source 0 0))) → K a after → Keeping K st (a, after)
changed a st after f h i exprs_same names_same more entries_are ready named right known =
    let d : MergingEntry = source 0 0 in
    let e = f (get_or st.entries i d) in
    let kept : (s : SetId) (x : ExprId) → is_in x (sources_of s st.entries) ≡ true → is_in x (sources_of s (set st.entries i e)) ≡ true =
    λ s x j. ap (is_in x) (sources_same f h s st.entries i d) ∙ j in
    record {
      ready = record {
        rows = rw (exprs_same, names_same) ready.rows;
        entries = rw (exprs_same, names_same, entries_are) (entries_more st.entries (set st.entries i e) (omega arith) (grown_same _) kept (set st.entries i e) (all_set _ st.entries i e ready.entries right));
        known = rw entries_are (all_set _ st.entries i e (all_map _ _ (names_more (omega arith) more) st.entries ready.known) named);
      };
      goes = record { exprs = rw exprs_same (grown_same _); names = rw names_same (omega arith); sets = more; sources = λ s x j. rw entries_are (kept s x j) };
      knows = known;
    }

-- the entry that has a key in a set
record Has (s : SetId) (key : Text) (st : State) (i : ℕ) : Type 0 where
  there : i < length st.entries
  keyed : is_at s key (get_or st.entries i (source 0 0)) ≡ true

has_found : (s : SetId) (key : Text) (st : State) (i : ℕ) → find s key st ≡ some i → Has s key st i
unfolding find
has_found s key st i h =
    let r = find_from_at s key (source 0 0) 0 st.entries i h in
    let p : i ≡ r.0 = let z = r.1 in omega arith in
    record { there = (let z = r.2 in omega arith); keyed = rw p r.3 }

-- a value that is right beside the sources of a set
abbrev ValueNow : SetId → BindingValue → State → Type 0
ValueNow s v st = RightNow (sources_of s st.entries) v st

value_go : (s : SetId) (v : BindingValue) (st after : State) → Goes st after → ValueNow s v st → ValueNow s v after
value_go s v st after g r = right_more (sources_of s st.entries) (sources_of s after.entries) (grown_length g.exprs) g.exprs (g.sources s) v r

with_value_right : (x : ℕ) (es : List Made) (all : List MergingEntry) (s : SetId) (key : Text) (v : BindingValue) → Right (length es) es (sources_of s all) v
    → (e : MergingEntry) → is_at s key e ≡ true → EntryRight x es all e → EntryRight x es all (with_value v e)
unfolding with_value is_at one_or_none
with_value_right x es all s key v r (static t k y nested value) h a =
    let p : t ≡ s = is_at_set s key (static t k y nested value) h in
    (a.0, (rw p r, tt))
with_value_right x es all s key v r (source t e) h a = a
with_value_right x es all s key v r (dynamic t k w) h a = a

with_nested_right : (x : ℕ) (es : List Made) (all : List MergingEntry) (t : SetId) (e : MergingEntry) → EntryRight x es all e → EntryRight x es all (with_nested t e)
unfolding with_nested
with_nested_right x es all t (static s k y nested value) a = a
with_nested_right x es all t (source s e) a = a
with_nested_right x es all t (dynamic s k w) a = a

key_keeps : (st : State) (s : SetId) (key : Text) (p : Pointer) → Keeps Named st (name_key s key p)
unfolding name_key
key_keeps st s key p = keeps_asks _ _ λ st₁ _ _. keeps_name key _ p

module _ (s : SetId) (key : Text) (p : Pointer) where
  new_value : (st : State) (v : BindingValue) → Opened s st → ValueNow s v st → Keeps nothing st (merge_value_at s key p v none)
  unfolding merge_value_at one_or_none nested_in
  new_value st v o r =
      keeps_next (key_keeps st s key p) λ x st₁ g₁ k.
      keeps_add (static s key x none (some v)) (λ st₂ g₂. ((omega arith, omega (arith, g₁.sets, g₂.sets)), tt)) λ st₂ g₂.
      let e : MergingEntry = static s key x none (some v) in
      let q = value_go s v st st₂ (goes_then g₁ g₂) r in (
        omega (arith, g₂.names),
        (right_more (sources_of s st₂.entries) (sources_of s (st₂.entries ++ (e ∷ []))) (omega arith) (grown_same _) (λ d i. sources_add s d st₂.entries e i) v q, tt),
      )

  old_value : (st : State) (v : BindingValue) → RightSoFar st → ValueNow s v st → (i : ℕ) → Has s key st i → Keeping nothing st (merge_value_at s key p v (some i) st)
  unfolding merge_value_at entry_at add_duplicate set_entry set_entries ◌>>=◌ asks
  old_value st v ready r i h =
      let e = get_or st.entries i (source 0 0) in
      let n = all_at _ st.entries i (source 0 0) h.there ready.known in
      changed tt st _ (with_value v) (value_tame v) i refl refl (omega arith) refl ready (rw (with_value_set v e, with_value_nested v e) n)
      (with_value_right _ st.exprs st.entries s key v r e h.keyed (all_at _ st.entries i (source 0 0) h.there ready.entries)) tt

  value_keeps : (st : State) (v : BindingValue) → Opened s st → ValueNow s v st → Keeps nothing st (merge_static_value s key p v)
  unfolding merge_static_value ◌>>=◌ asks
  value_keeps st v o r = record { keeps = λ st₁ ready g. go st₁ ready g (find s key st₁) refl }
    where
      go : (st₁ : State) → RightSoFar st₁ → Goes st st₁ → (f : Option ℕ) → find s key st₁ ≡ f → Keeping nothing st₁ (merge_value_at s key p v f st₁)
      go st₁ ready g none h = (new_value st v o r).keeps st₁ ready g
      go st₁ ready g (some i) h = old_value st₁ v ready (value_go s v st st₁ g r) i (has_found s key st₁ i h)

  -- ---- nested sets
  nested_known : (c : ℕ) (es : List MergingEntry) (i : ℕ) (t : SetId) → All (NamesSets 0 c) es → nested_in (get_or es i (source 0 0)) ≡ some t → t < c
  unfolding nested_in one_or_none
  nested_known c [] i t a h = absurd (let z : ◌≡◌ {A = ℕ} 0 1 = cc in omega arith)
  nested_known c (e ∷ es) zero t a h = go (nested_in e) h a.0.1
    where
      go : (o : Option SetId) → o ≡ some t → All (λ u. (0 ≤ u) × (u < c)) (one_or_none o) → t < c
      go none q b = absurd (let z : ◌≡◌ {A = ℕ} 0 1 = cc in omega arith)
      go (some u) q b = let z : u ≡ t = cc in let y = b.0.1 in omega arith
  nested_known c (e ∷ es) (suc i) t a h = nested_known c es i t a.1 h

  new_nested_lem : (st : State) → Opened s st → Keeps Opened st (nested_static_at s key p none)
  unfolding nested_static_at new_nested one_or_none nested_in
  new_nested_lem st o =
      keeps_next (key_keeps st s key p) λ x st₁ g₁ k. keeps_next (keeps_set _ _) λ t st₂ g₂ l.
      keeps_next (keeps_add (static s key x (some t) none)
      (λ st₃ g₃. ((omega arith, omega (arith, g₁.sets, g₂.sets, g₃.sets)), ((omega arith, omega (arith, g₃.sets)), tt)))
      λ st₃ g₃. (omega (arith, g₂.names, g₃.names), tt)) λ _ st₃ g₃ _.
      keeps_give t λ st₄ g₄. omega (arith, g₃.sets, g₄.sets)

  again_nested : (st : State) → RightSoFar st → (i : ℕ) → Has s key st i → (o : Option SetId) → nested_in (get_or st.entries i (source 0 0)) ≡ o
      → Keeping Opened st (nested_or i p o st)
  unfolding nested_or new_nested new_set entry_at set_entry set_entries give ◌>>=◌ asks one_or_none
  again_nested st ready i h (some t) q = record { ready = ready; goes = goes_same st; knows = nested_known (length st.sets) st.entries i t ready.known q }
  again_nested st ready i h none q =
      let t = length st.sets in
      let e = get_or st.entries i (source 0 0) in
      let d : MergingSet = record { pointer = p; name_kind = PlainAttrset } in
      let l = length_snoc st.sets d in
      let n = (all_at _ st.entries i (source 0 0) h.there ready.known).0.1 in
      changed t st _ (with_nested t) (nested_tame t) i refl refl (omega arith) refl ready
      (rw (with_nested_set t e, with_nested_nested s key t e h.keyed) ((omega arith, omega arith), ((omega arith, omega arith), tt)))
      (with_nested_right _ st.exprs st.entries t e (all_at _ st.entries i (source 0 0) h.there ready.entries)) (omega arith)

  nested_keeps : (st : State) → Opened s st → Keeps Opened st (get_or_create_nested_static s key p)
  unfolding get_or_create_nested_static nested_static_at nested_at entry_at ◌>>=◌ asks
  nested_keeps st o = record { keeps = λ st₁ ready g. go st₁ ready g (find s key st₁) refl }
    where
      go : (st₁ : State) → RightSoFar st₁ → Goes st st₁ → (f : Option ℕ) → find s key st₁ ≡ f → Keeping Opened st₁ (nested_static_at s key p f st₁)
      go st₁ ready g none h = (new_nested_lem st o).keeps st₁ ready g
      go st₁ ready g (some i) h = again_nested st₁ ready i (has_found s key st₁ i h) _ refl

-- ---- finishing
-- a key whose name there is and whose value is right beside the sources
abbrev KeyNow : List ExprId → Static → State → Type 0
KeyNow froms x st = Named x.name st × All (λ v. RightNow froms v st) (one_or_none x.value)

abbrev StaticNow : List ExprId → NameId × BindingValue → State → Type 0
StaticNow froms b st = StaticRight (length st.names) (length st.exprs) st.exprs froms b

key_go : (froms : List ExprId) (x : Static) (st after : State) → Goes st after → KeyNow froms x st → KeyNow froms x after
key_go froms x st after g k = (omega (arith, g.names, k.0), all_map _ _ (λ v r. right_go froms v st after g r) (one_or_none x.value) k.1)

static_go : (froms : List ExprId) (b : NameId × BindingValue) (st after : State) → Goes st after → StaticNow froms b st → StaticNow froms b after
static_go froms b st after g k = (omega (arith, g.names, k.0), right_go froms b.1 st after g k.1)

all_insert : (P : Static → Type 0) (x : Static) (ys : List Static) → P x → All P ys → All P (insert_static x ys)
unfolding insert_static here_or_later
all_insert P x [] p a = (p, tt)
all_insert P x (y ∷ ys) p a = go (order x.key y.key) (all_insert P x ys p a.1)
  where
    go : (o : Ordering) → All P (insert_static x ys) → All P (here_or_later o (x ∷ y ∷ ys) (y ∷ insert_static x ys))
    go Less r = (p, a)
    go Equal r = (p, a)
    go Greater r = (a.0, r)

keys_now : (s : SetId) (st : State) (es : List MergingEntry) → All (EntryRight (length st.names) st.exprs st.entries) es
    → All (λ k. KeyNow (sources_of s st.entries) k st) (statics_of s es)
unfolding statics_of
keys_now s st [] a = tt
keys_now s st (static t k x nested value ∷ es) a = go (eqb t s) refl (keys_now s st es a.1)
  where
    P : Static → Type 0
    P y = KeyNow (sources_of s st.entries) y st

    own : t ≡ s → All (λ v. RightNow (sources_of s st.entries) v st) (one_or_none value)
    own p = rw p at a.0.1

    go : (b : Bool) → eqb t s ≡ b → All P (statics_of s es)
        → All P (pick b (insert_static (record { key = k; name = x; nested = nested; value = value }) (statics_of s es)) (statics_of s es))
    go true p r = all_insert P _ (statics_of s es) (a.0.0, own (eqb-true t s p)) r
    go false p r = r
keys_now s st (source t e ∷ es) a = keys_now s st es a.1
keys_now s st (dynamic t k v ∷ es) a = keys_now s st es a.1

module _ (fin : SetId → Low ExprId) (finishes : (st : State) (t : SetId) → Keeps nothing st (fin t)) where
  value_finishes : (froms : List ExprId) (st : State) (nested : Option SetId) (value : Option BindingValue) → All (λ v. RightNow froms v st) (one_or_none value)
      → Keeps (RightNow froms) st (finish_value fin nested value)
  unfolding finish_value one_or_none
  value_finishes froms st (some t) value a = keeps_next (finishes st t) λ e _ _ _. keeps_give (expr e) λ _ _. tt
  value_finishes froms st none (some v) a = keeps_give v λ st₁ g. right_go froms v st st₁ g a.0
  value_finishes froms st none none a = keeps_next keeps_missing λ e _ _ _. keeps_give (expr e) λ _ _. tt

  static_finishes : (froms : List ExprId) (x : Static) (st : State) → KeyNow froms x st → Keeps (StaticNow froms) st (finish_static fin x)
  unfolding finish_static
  static_finishes froms x st k =
      keeps_next (value_finishes froms st x.nested x.value k.1) λ v st₁ g h.
      keeps_give (x.name, v) λ st₂ g₂. (omega (arith, g.names, g₂.names, k.0), right_go froms v st₁ st₂ g₂ h)

  with_finishes : (st : State) (s : SetId) → Keeps BindingsNow st (finish_with fin s)
  unfolding finish_with
  with_finishes st s =
      keeps_asks (λ st. st.entries) _ λ st₁ ready _.
      let froms = sources_of s st₁.entries in
      keeps_next (keeps_each (KeyNow froms) (key_go froms) (static_go froms) (static_finishes froms) st₁ (statics_of s st₁.entries) (keys_now s st₁ st₁.entries ready.entries))
      λ statics st₂ g a. keeps_give _ λ st₃ g₃. all_map _ _ (λ b k. static_go froms b st₂ st₃ g₃ k) statics a

to_finishes : (b : ℕ) (st : State) (s : SetId) → Keeps nothing st (finish_to b s)
unfolding finish_to form
to_finishes zero st s = keeps_missing
to_finishes (suc b) st s =
    keeps_next (with_finishes (finish_to b) (to_finishes b) st s) λ bs st₁ _ k. keeps_asks _ _ λ st₂ _ g.
    keeps_alloc (attr_set false bs) _ (bound_row (attr_set false bs) bs none refl (bindings_go bs st₁ st₂ g k))

expr_finishes : (st : State) (s : SetId) → Keeps nothing st (finish_expr s)
unfolding finish_expr
expr_finishes st s = keeps_asks _ _ λ st₁ _ _. to_finishes _ st₁ s

set_finishes : (st : State) (s : SetId) → Keeps BindingsNow st (finish s)
unfolding finish
set_finishes st s = keeps_asks _ _ λ st₁ _ _. with_finishes _ (to_finishes _) st₁ s

-- ---- the entries
module _ (nodes : List Node) (lower : NodeId → Low ExprId) (merge : SetId → NodeId → Low (Unit {0})) (lowers : (st : State) (m : NodeId) → Keeps nothing st (lower m))
    (merging : (st : State) (s : SetId) (m : NodeId) → Opened s st → Keeps nothing st (merge s m)) (leaves : Leaves nodes lower merge) where
  opt : (st : State) (m : Option NodeId) → Keeps nothing st (lower_opt nodes lower merge m)
  opt = opt_keeps nodes lower merge lowers

  dynamic_keeps : (st : State) (s : SetId) (k v : ExprId) → Opened s st → Keeps nothing st (add_entry (dynamic s k v))
  unfolding nested_in one_or_none
  dynamic_keeps st s k v o = keeps_add (dynamic s k v) (λ st₁ g. ((omega arith, omega (arith, g.sets)), tt)) λ _ _. tt

  push_keeps : (st : State) (s : SetId) (key value : Option NodeId) → Opened s st → Keeps nothing st (push_dynamic nodes lower merge s key value)
  unfolding push_dynamic
  push_keeps st s key value o =
      keeps_next (opt st key) λ k st₁ g₁ _. keeps_next (opt st₁ value) λ v st₂ g₂ _. dynamic_keeps st₂ s k v (omega (arith, g₁.sets, g₂.sets))

  lowered_keeps : (st : State) (s : SetId) (key : Text) (attr : NodeId) (value : Option NodeId) → Opened s st
      → Keeps nothing st (merge_lowered nodes lower merge s key attr value)
  unfolding merge_lowered
  lowered_keeps st s key attr value o = keeps_next (opt st value) λ e st₁ g _. value_keeps s key _ st₁ (expr e) (omega (arith, g.sets)) tt

  keyed_keeps : (st : State) (s : SetId) (key : Text) (attr : NodeId) (value : Option NodeId) → Opened s st
      → Keeps nothing st (merge_keyed nodes lower merge s key attr value)
  unfolding merge_keyed merge_into nested_at entry_at
  keyed_keeps st s key attr none o = lowered_keeps st s key attr none o
  keyed_keeps st s key attr (some value) o =
      keeps_when _ (keeps_asks _ _ λ st₁ ready g. go st₁ ready g (find s key st₁)) (lowered_keeps st s key attr (some value) o)
    where
      into : (st₁ : State) → RightSoFar st₁ → Goes st st₁ → (t : Option SetId) → ((u : SetId) → t ≡ some u → Opened u st₁)
          → Keeps nothing st₁ (merge_into nodes lower merge s key attr value t)
      into st₁ ready g none h = lowered_keeps st₁ s key attr (some value) (omega (arith, g.sets))
      into st₁ ready g (some t) h = merging st₁ t value (h t refl)

      go : (st₁ : State) → RightSoFar st₁ → Goes st st₁ → (f : Option ℕ) → Keeps nothing st₁ (merge_into nodes lower merge s key attr value (nested_at f st₁))
      go st₁ ready g none = lowered_keeps st₁ s key attr (some value) (omega (arith, g.sets))
      go st₁ ready g (some i) =
          into st₁ ready g (nested_in (get_or st₁.entries i (source 0 0))) λ u q. nested_known s key (pointer nodes attr) (length st₁.sets) st₁.entries i u ready.known q

  attr_value_keeps : (st : State) (s : SetId) (attr : NodeId) (value : Option NodeId) → Opened s st
      → Keeps nothing st (merge_attr_value nodes lower merge s attr value)
  unfolding merge_attr_value merge_attr_as
  attr_value_keeps st s attr value o = go (attr_kind nodes attr)
    where
      go : (k : AttrKind) → Keeps nothing st (merge_attr_as nodes lower merge s attr value k)
      go (static_key key) = keyed_keeps st s key attr value o
      go (dynamic_key key) = push_keeps st s key value o

  path_value_keeps : (st : State) (s : SetId) (attr : NodeId) (more : List NodeId) (value : Option NodeId) → Opened s st
      → Keeps nothing st (merge_nested_attr_value nodes lower merge s attr more value)
  unfolding merge_nested_attr_value merge_step_as new_nested cut
  path_value_keeps st s attr [] value o = attr_value_keeps st s attr value o
  path_value_keeps st s attr (a ∷ more) value o = go (λ st₁ t l. path_value_keeps st₁ t a more value l) (attr_kind nodes attr)
    where
      own : ((st₁ : State) (t : SetId) → Opened t st₁ → Keeps nothing st₁ (merge_nested_attr_value nodes lower merge t a more value))
          → Keeps nothing st (new_nested (pointer nodes attr) >>= λ t. merge_nested_attr_value nodes lower merge t a more value >>= λ _. finish_expr t)
      own rest = keeps_next (keeps_set _ _) λ t st₁ _ l. keeps_next (rest st₁ t l) λ _ st₂ _ _. expr_finishes st₂ t

      go : ((st₁ : State) (t : SetId) → Opened t st₁ → Keeps nothing st₁ (merge_nested_attr_value nodes lower merge t a more value)) → (k : AttrKind)
          → Keeps nothing st (merge_step_as nodes lower merge s attr (λ t. merge_nested_attr_value nodes lower merge t a more value) k)
      go rest (static_key key) = keeps_next (nested_keeps s key (pointer nodes attr) st o) λ t st₁ _ l. rest st₁ t l
      go rest (dynamic_key key) =
          keeps_next (keeps_inner (λ st₁ known. leaves.nested (pointer nodes attr) a more value st₁ known) (λ _ _ _ _ _. tt) (own rest)) λ e st₁ g₁ _.
          keeps_next (opt st₁ key) λ k st₂ g₂ _. dynamic_keeps st₂ s k e (omega (arith, g₁.sets, g₂.sets))

  attrs_keep : (st : State) (s : SetId) (attrs : List NodeId) (value : Option NodeId) → Opened s st → Keeps nothing st (merge_path nodes lower merge s attrs value)
  unfolding merge_path
  attrs_keep st s [] value o = push_keeps st s none value o
  attrs_keep st s (a ∷ more) value o = path_value_keeps st s a more value o

  -- a source of the set
  abbrev SourceNow : SetId → Option ExprId → State → Type 0
  SourceNow s set st = All (λ e. is_in e (sources_of s st.entries) ≡ true) (one_or_none set)

  inherit_value_keeps : (st : State) (s : SetId) (set : Option ExprId) → SourceNow s set st → (key : Text) (p : Pointer)
      → Keeps (ValueNow s) st (inherit_value nodes lower merge set key p)
  unfolding inherit_value form one_or_none
  inherit_value_keeps st s none a key p =
      keeps_next (keeps_known (reference key) p (λ _ _. bare)) λ e st₁ _ k. keeps_give (inherit e) λ st₂ g.
      value_go s (inherit e) st₁ st₂ g (k.0, record { text = key; is = k.1 })
  inherit_value_keeps st s (some set) a key p =
      keeps_next (keeps_known (literal (string key)) p (λ _ _. bare)) λ l st₁ g₁ k₁.
      keeps_next (keeps_known (select set (l ∷ []) none) p (λ _ _. bare)) λ e st₂ g₂ k₂.
      keeps_give (inherit_from e) λ st₃ g₃.
      let labelled : at st₂.exprs l ≡ literal (string key) = at_stays g₂.exprs l _ (λ q. let z : ◌≡◌ {A = ℕ} 0 1 = cc in omega arith) k₁.1 in
      value_go s (inherit_from e) st₂ st₃ g₃ (
        k₂.0,
        record { source = set; label = l; key = key; is = k₂.1; labelled = labelled; beside = (goes_then g₁ g₂).sources s set a.0 },
      )

  inherit_keeps : (st : State) (s : SetId) (set : Option ExprId) (attr : NodeId) → Opened s st → SourceNow s set st
      → Keeps nothing st (inherit_attr nodes lower merge s set attr)
  unfolding inherit_attr inherit_as
  inherit_keeps st s set attr o a = go (attr_kind nodes attr)
    where
      go : (k : AttrKind) → Keeps nothing st (inherit_as nodes lower merge s set attr k)
      go (static_key key) =
          keeps_next (inherit_value_keeps st s set a key (pointer nodes attr)) λ v st₁ g k. value_keeps s key (pointer nodes attr) st₁ v (omega (arith, g.sets)) k
      go (dynamic_key e) = push_keeps st s none e o

  inherits_keep : (st : State) (s : SetId) (set : Option ExprId) (attrs : List NodeId) → Opened s st → SourceNow s set st
      → Keeps nothing st (each_of (inherit_attr nodes lower merge s set) attrs)
  unfolding each_of
  inherits_keep st s set [] o a = keeps_give tt λ _ _. tt
  inherits_keep st s set (x ∷ xs) o a =
      keeps_next (inherit_keeps st s set x o a) λ _ st₁ g _.
      inherits_keep st₁ s set xs (omega (arith, g.sets)) (all_map _ _ (λ e h. g.sources s e h) (one_or_none set) a)

  -- the source that was added is one of the set's
  source_last : (s : SetId) (e : ExprId) (es : List MergingEntry) → is_in e (sources_of s (es ++ (source s e ∷ []))) ≡ true
  unfolding sources_of is_in
  source_last s e [] = rw (eq-eqb s s refl) (is_in_first e [])
  source_last s e (static t k x nested value ∷ es) = source_last s e es
  source_last s e (source t d ∷ es) = go (eqb t s) (source_last s e es)
    where
      go : (b : Bool) → is_in e (sources_of s (es ++ (source s e ∷ []))) ≡ true
          → is_in e (pick b (d ∷ sources_of s (es ++ (source s e ∷ []))) (sources_of s (es ++ (source s e ∷ [])))) ≡ true
      go true h = is_in_rest e d (sources_of s (es ++ (source s e ∷ []))) h
      go false h = h
  source_last s e (dynamic t k v ∷ es) = source_last s e es

  source_keeps : (st : State) (s : SetId) (from : Option NodeId) → Opened s st → Keeps (SourceNow s) st (inherit_source nodes lower merge s from)
  unfolding inherit_source one_or_none nested_in
  source_keeps st s none o = keeps_give none λ _ _. tt
  source_keeps st s (some from) o =
      keeps_next (opt st _) λ e st₁ g _.
      keeps_next (added st₁ e (omega (arith, g.sets))) λ _ st₂ _ k.
      keeps_give (some e) λ st₃ g₃. (g₃.sources s e k, tt)
    where
      added : (st₁ : State) (e : ExprId) → Opened s st₁ → Keeps (λ _ st₂. is_in e (sources_of s st₂.entries) ≡ true) st₁ (add_entry (source s e))
      added st₁ e o₁ =
          let h = keeps_add {st₀ = st₁} (source s e) (λ st₂ g. ((omega arith, omega (arith, g.sets)), tt)) (λ _ _. tt) in
          record { keeps = λ st₂ ready g. let a = h.keeps st₂ ready g in record { ready = a.ready; goes = a.goes; knows = unfold add_entry set_entries ◌>>=◌ asks in source_last s e st₂.entries } }

  entry_keeps : (s : SetId) (st : State) (m : NodeId) → Opened s st → Keeps nothing st (merge_entry nodes lower merge s m)
  unfolding merge_entry merge_inherit merge_attrpath_val
  entry_keeps s st m o =
      keeps_when _ (keeps_next (source_keeps st s _ o) λ set st₁ g a. inherits_keep st₁ s set _ (omega (arith, g.sets)) a) (attrs_keep st s _ _ o)

  entries_keep : (st : State) (s : SetId) (m : NodeId) → Opened s st → Keeps nothing st (merge_entries nodes lower merge s m)
  unfolding merge_entries each_of
  entries_keep st s m o = go st o (entries_of nodes lower merge m)
    where
      go : (st₁ : State) → Opened s st₁ → (ms : List NodeId) → Keeps nothing st₁ (each_of (merge_entry nodes lower merge s) ms)
      go st₁ l [] = keeps_give tt λ _ _. tt
      go st₁ l (x ∷ xs) = keeps_next (entry_keeps s st₁ x l) λ _ st₂ g _. go st₂ (omega (arith, g.sets)) xs

  desugar_keeps : (st : State) (k : NameKind) (m : NodeId) → Keeps BindingsNow st (desugar nodes lower merge k m)
  unfolding desugar cut
  desugar_keeps st k m =
      keeps_inner (λ st₁ known. leaves.bindings k m st₁ known) (λ bs st s e h. h)
      (keeps_next (keeps_set k (pointer nodes m)) λ s st₁ _ l. keeps_next (entries_keep st₁ s m l) λ _ st₂ _ _. set_finishes st₂ s)

-- ---- the knot
module _ (nodes : List Node) where
  record AtDepth (depth : ℕ) : Type 0 where
    lowers : (st : State) (m : NodeId) → Keeps nothing st (lower_expr nodes depth m)
    merges : (st : State) (s : SetId) (m : NodeId) → Opened s st → Keeps nothing st (merge_bindings nodes depth s m)

  at_depth : (depth : ℕ) → AtDepth depth
  unfolding lower_expr merge_bindings
  at_depth zero = record { lowers = λ st m. keeps_missing; merges = λ st s m o. keeps_give tt λ _ _. tt }
  at_depth (suc depth) = go (at_depth depth)
    where
      go : AtDepth depth → AtDepth (suc depth)
      go h =
          let lower : NodeId → Low ExprId = λ m. lower_expr nodes depth m in
          let merge : SetId → NodeId → Low (Unit {0}) = λ s m. merge_bindings nodes depth s m in
          let leaves = lowered_leaves nodes depth in
          record {
            lowers = λ st m. as_keeps nodes lower merge h.lowers (desugar_keeps nodes lower merge h.lowers h.merges leaves) st (kind nodes m) m;
            merges = λ st s m o. entries_keep nodes lower merge h.lowers h.merges leaves st s m o;
          }

-- THEOREM. In a lowered module every name in a row is one of the module's; and of bindings every inherited value is a
-- Reference or, with a source, a Select without default of one of the same bindings' sources, by one text literal; both
-- with a lower number than the row.
pub lowered_rows : (nodes : List Node) (i : ExprId) → i < length (lower_module nodes).exprs
    → Row (length (lower_module nodes).names) i (lower_module nodes).exprs (form (at (lower_module nodes).exprs i))
unfolding lower_module module_of
lowered_rows nodes =
    let begun : RightSoFar empty = record { rows = λ i l. absurd (omega arith); entries = tt; known = tt } in
    (((at_depth nodes 256).lowers empty 0).keeps empty begun (goes_same empty)).ready.rows
