-- The nodes of an accepted sheet and their kids, read one after the other. Assumes nothing.
use Rattle.std.specs.Prelude.{Option, Some, None, Result, Ok, Err}
use Rattle.std.specs.Borrow.{Bor}
use Rattle.std.specs.List.{count_by}
use Rattle.std.proofs.lemmas.List.Sums.{sum_by-cons}
use mathlib.Core.Path.{◌≡◌, refl, sym, ap, ◌∙◌, subst}
use mathlib.Core.Bool.{Bool, true, false, cond}
use mathlib.Core.List.{List, [], ◌∷◌}
use mathlib.Core.Option as math
use mathlib.Mathlib.Data.Bool.Basic.{and_elim_left, and_elim_right}
use Prim.Native.Nat.{ℕ, suc, ◌+◌, ◌<◌, ◌≤◌}
use native.Mathlib.Numerals.{add-one}
use native.Mathlib.Omega.{arith}
use lib.ListN.{length, drop}
use lib.Seq.{drop-cons}
use lib.Dec.{eqb, ltb}
use borrow.Author.Tests.{ltb-true, lt-ltb}
use Rattle.spec.specs.Basics.{NodeId, maybe}
use Rattle.spec.specs.Sheet as spec
use Rattle.spec.specs.Sheet.{Node, Got, got, bad, kid, cut_before, cut_at_commas, all_kids, kid_list, all_below, node}
use Rattle.spec.specs.Tree.{node_at, nobody}
use Rattle.spec.proofs.reading.Reading.{Reads, one_more_lem}
use Rattle.sheet.specs.Nodes.{node_of, got_node, FormedNode, FormedSpans}
use Rattle.sheet.specs.Lines.{span_of}
use Rattle.sheet.specs.Kids.{kid_of, short_kids, kids_from, RestInside}
use Rattle.sheet.specs.declared.faults.Malformed.{Malformed}
use Rattle.sheet.specs.declared.faults.Refused.{Refused}
use Rattle.sheet.specs.declared.nodes.Node as row
use Rattle.sheet.proofs.KidLaws.{Before, walk_end, walk_malformed, walk_kid}
use Rattle.tree.specs.Nodes.{nodes_in, Stands, kids_in, Kids, Read, After, FirstKid}

-- what is below a number is below a larger one
below_more : (m n : ℕ) → m ≤ n → (ks : List (math.Option NodeId)) → all_below m ks ≡ true → all_below n ks ≡ true
unfolding all_below
below_more m n l [] h = refl
below_more m n l (math.none ∷ ks) h = below_more m n l ks h
below_more m n l (math.some k ∷ ks) h =
    let b = ltb-true k m (and_elim_left (ltb k m) (all_below m ks) h) in
    rw (lt-ltb k n (omega arith)) (below_more m n l ks (and_elim_right (ltb k m) (all_below m ks) h))

pub below_head : (nodes k : ℕ) (ks : List (math.Option NodeId)) → all_below nodes (math.some k ∷ ks) ≡ true → k < nodes
unfolding all_below
below_head nodes k ks h = ltb-true k nodes (and_elim_left (ltb k nodes) (all_below nodes ks) h)

-- ---- a node
-- the first of some nodes, and where the others stand
record First (s : List ℕ) (nodes i at : ℕ) (x : Node) (xs : List Node) (end : ℕ) : Type 0 where
  place : ℕ
  read : node nodes i s at ≡ got x place
  others : Reads s nodes (i + 1) place xs end

first : {s : List ℕ} {nodes i at : ℕ} {x : Node} {xs : List Node} {end : ℕ} → Reads s nodes i at (x ∷ xs) end → First s nodes i at x xs end
first (one_more_lem i at place end n ns e r) = record { place = place; read = e; others = r }

same_got : {A : Type 0} {x y : A} {p q : ℕ} → got x p ≡ got y q → (x ≡ y) × (p ≡ q)
same_got h = (cc, cc)

not_bad : {A : Type 0} {w : spec.Fault} {p q : ℕ} {y : A} → bad w p ≡ got y q → ⊥
not_bad h = cc

module _ (s : List ℕ) (nodes n at : ℕ) (count : nodes ≡ length (nodes_in s)) (few : nodes ≤ 4294967295) (l : n < nodes) (h : Stands s n at) where
  here : First s (length (nodes_in s)) n at (node_at (nodes_in s) n) (drop (n + 1) (nodes_in s)) (length s)
  unfolding node_at
  here =
      let m : n < length (nodes_in s) = omega arith in
      first (rw (drop-cons (nodes_in s) n nobody m, ← add-one n) at h.follow)

  module _ (r : Result row.Node Refused) (e : got_node s r ≡ node nodes n s at) (f : FormedNode s nodes r) where
    as_read : got_node s r ≡ got (node_at (nodes_in s) n) here.place
    as_read = e ∙ (ap (λ c. node c n s at) count ∙ here.read)

    pub never_bad : (w : Refused) → r ≡ Err w → ⊥
    never_bad w q = not_bad (ap (got_node s) (sym q) ∙ as_read)

    module _ (x : row.Node) (q : r ≡ Ok x) where
      these : (node_of s x ≡ node_at (nodes_in s) n) × (x.next.at ≡ here.place)
      these = same_got (ap (got_node s) (sym q) ∙ as_read)

      pub spans : FormedSpans s nodes x
      spans = subst (FormedNode s nodes) q f

      pub within : (x.kids.start ≤ x.kids.end) × (x.kids.end ≤ length s)
      within = (spans.kids.ordered, omega (arith, spans.kids.within))

      pub lines_read : (kids : Bor (List ℕ)) → kids.now ≡ span_of s x.kids → Read s n (record { kind = x.kind; kids = kids; next = x.next })
      unfolding kids_in
      lines_read kids a =
          record {
            kind = ap (λ n. n.kind) these.0;
            kids = rw a (ap (λ n. n.kids) these.0);
            listed = rw a (record { formed = spans.kids.formed; low = below_more nodes 4294967295 few _ spans.kids.fits });
            low = rw (a, ← count) spans.kids.fits;
            next =
                record {
                  inside = omega arith;
                  reach = omega (arith, spans.next, spans.text.within);
                  follow = rw these.1 here.others;
                };
          }

-- ---- a list of kids
module _ (v : List ℕ) (h : Kids v) where
  after : (k : Option ℕ) (rest : List ℕ) → Before rest 4294967295 (kid_of k) (kids_in v) → length rest < length v → After v k rest
  unfolding kids_in
  after k rest b l =
      let here : kids_in rest ≡ b.others = ap (λ o. maybe o [] (λ ks. ks)) b.listed in
      record {
        same = b.these ∙ ap (λ l. kid_of k ∷ l) (sym here);
        shorter = l;
        others =
            record {
              formed = b.listed ∙ ap math.some (sym here);
              low = ap (all_below 4294967295) here ∙ b.below;
            };
      }

  module _ (r : Result (Option (Option ℕ × Bor (List ℕ))) Malformed) (e : kids_from r ≡ short_kids v) (i : RestInside v r) where
    pub never_malformed : (w : Malformed) → r ≡ Err w → ⊥
    never_malformed w q = walk_malformed v 4294967295 (omega arith) (kids_in v) h.formed h.low (rw q at e)

    pub first_read : (x : Option (Option ℕ × Bor (List ℕ))) → r ≡ Ok x → FirstKid v x
    first_read x q = first x (subst (λ r. kids_from r ≡ short_kids v) q e) (subst (RestInside v) q i)
      where
        first : (x : Option (Option ℕ × Bor (List ℕ))) → kids_from (Ok x) ≡ short_kids v → RestInside v (Ok x) → FirstKid v x
        first None e i = walk_end v 4294967295 (omega arith) (kids_in v) h.formed h.low e
        first (Some p) e i = after p.0 p.1.now (walk_kid v 4294967295 (omega arith) (kids_in v) h.formed h.low (kid_of p.0) p.1.now e) i.less

-- ---- counting
-- a list is cut into one part more than it has commas
cut_parts : (v : List ℕ) → length (cut_at_commas v) ≡ count_by (λ b. eqb b 44) v + 1
unfolding cut_at_commas cut_before
cut_parts [] = refl
cut_parts (c ∷ v) = rw sum_by-cons (go (eqb c 44) (cut_at_commas v) (cut_parts v))
  where
    go : (t : Bool) (ps : List (List ℕ)) → length ps ≡ count_by (λ b. eqb b 44) v + 1 → length (cut_before t c ps) ≡ cond t 1 0 + count_by (λ b. eqb b 44) v + 1
    go true ps e = omega (arith, e)
    go false [] e = absurd (omega (arith, e))
    go false (p ∷ ps) e = omega (arith, e)

-- and has a kid for each part
each_part : (ps : List (List ℕ)) (ks : List (math.Option NodeId)) → all_kids ps ≡ math.some ks → length ks ≡ length ps
unfolding all_kids
each_part [] [] e = refl
each_part [] (k ∷ ks) e = cc
each_part (p ∷ ps) ks e = go (kid p) (all_kids ps) (each_part ps) ks e
  where
    go : (k : math.Option (math.Option NodeId)) (o : math.Option (List (math.Option NodeId))) → ((js : List (math.Option NodeId)) → o ≡ math.some js → length js ≡ length ps)
        → (ks : List (math.Option NodeId)) → maybe k math.none (λ k. math.map (λ js. k ∷ js) o) ≡ math.some ks → length ks ≡ suc (length ps)
    go math.none o f ks e = cc
    go (math.some k) math.none f ks e = cc
    go (math.some k) (math.some js) f ks e = let same : k ∷ js ≡ ks = cc in omega (arith, f js refl, ap length (sym same))

pub count_none : (v : List ℕ) → length v ≡ 0 → 0 ≡ length (kids_in v)
unfolding kids_in kid_list
count_none [] e = refl
count_none (c ∷ v) e = absurd (omega (arith, e))

pub count_some : (v : List ℕ) → Kids v → (length v ≡ 0 → ⊥) → count_by (λ b. eqb b 44) v + 1 ≡ length (kids_in v)
unfolding kid_list
count_some [] h n = absurd (n refl)
count_some (c ∷ v) h n = sym (each_part (cut_at_commas (c ∷ v)) (kids_in (c ∷ v)) h.formed ∙ cut_parts (c ∷ v))
