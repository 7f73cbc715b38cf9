-- The nodes of an accepted sheet stand one after the other in its bytes, from its second line to its end. Assumes
-- nothing.
use Rattle.std.specs.Prelude.{if◌then◌else◌}
use mathlib.Core.Path.{◌≡◌, refl, sym, ap, ◌∙◌}
use mathlib.Core.Bool.{Bool, true, false}
use mathlib.Core.List.{List, [], ◌∷◌}
use Prim.Native.Nat.{ℕ, zero, suc, ◌+◌}
use native.Mathlib.Omega.{arith}
use lib.ListN.{length}
use lib.Dec.{leb, eqb}
use borrow.Author.Tests.{eqb-true}
use Rattle.words.specs.Order.{pick}
use Rattle.spec.specs.Sheet.{Node, wrong_count, Got, got, bad, next, ◌>>=◌, give, number, node, nodes_from, node_list, Judged, accepted, refused, whole, read_sheet}
use Rattle.spec.specs.Tree.{Walked, met, stopped, walk_to, whole_tree, judge_tree, judge}

-- The nodes of a sheet of `nodes` nodes from number i on, the first of them at the place `at`, and the place after the
-- last.
pub data Reads (s : List ℕ) (nodes : ℕ) : ℕ → ℕ → List Node → ℕ → Type 0 where
  none_left : (i at : ℕ) → Reads s nodes i at [] at
  one_more_lem : (i at place end : ℕ) (n : Node) (ns : List Node) → node nodes i s at ≡ got n place → Reads s nodes (i + 1) place ns end → Reads s nodes i at (n ∷ ns) end

-- What is true of a value and a place is true of what was read.
abbrev Holds : {A : Type 0} → (A → ℕ → Type 0) → Got A → Type 0
Holds P (got a at) = P a at
Holds P (bad w at) = Unit {0}

-- the nodes that `nodes_from` gives are read one after the other, and are as many as asked for
pub reads : (left nodes i : ℕ) (s : List ℕ) (at : ℕ) → Holds (λ ns end. Reads s nodes i at ns end × (length ns ≡ left)) (nodes_from left nodes i s at)
unfolding nodes_from ◌>>=◌ next give
reads zero nodes i s at = (none_left i at, refl)
reads (suc left) nodes i s at = first (λ place. reads left nodes (i + 1) s place) (node nodes i s at) refl
  where
    rest : (n : Node) (place : ℕ) → node nodes i s at ≡ got n place → (g : Got (List Node))
        → Holds (λ ns end. Reads s nodes (i + 1) place ns end × (length ns ≡ left)) g
        → Holds (λ ns end. Reads s nodes i at ns end × (length ns ≡ suc left)) (next (λ ns. give (n ∷ ns)) s g)
    rest n place e (got ns end) h = (one_more_lem i at place end n ns e h.0, ap suc h.1)
    rest n place e (bad w p) h = tt

    first : ((place : ℕ) → Holds (λ ns end. Reads s nodes (i + 1) place ns end × (length ns ≡ left)) (nodes_from left nodes (i + 1) s place))
        → (g : Got Node) → node nodes i s at ≡ g
        → Holds (λ ns end. Reads s nodes i at ns end × (length ns ≡ suc left)) (next (λ n. nodes_from left nodes (i + 1) >>= λ ns. give (n ∷ ns)) s g)
    first more (got n place) e = rest n place e (nodes_from left nodes (i + 1) s place) (more place)
    first more (bad w p) e = tt

-- ---- a whole sheet
-- An accepted sheet: the place after its first line, and its nodes from there to its end.
pub record Sheet (s : List ℕ) (ns : List Node) : Type 0 where
  pub start : ℕ
  pub counted : number "nodes=" wrong_count 1 4096 s 0 ≡ got (length ns) start
  pub nodes : Reads s (length ns) 0 start ns (length s)

abbrev Accepted : List ℕ → Judged → Type 0
Accepted s (accepted ns) = Sheet s ns
Accepted s (refused number place) = Unit {0}

pub accepted_sheet : (s : List ℕ) (ns : List Node) → read_sheet s ≡ accepted ns → Sheet s ns
unfolding whole next read_sheet node_list ◌>>=◌
accepted_sheet s ns e = let h : Accepted s (read_sheet s) = judged in rw e at h
  where
    all : (count start : ℕ) → number "nodes=" wrong_count 1 4096 s 0 ≡ got count start → (g : Got (List Node))
        → Holds (λ ns end. Reads s count 0 start ns end × (length ns ≡ count)) g → Accepted s (whole s g)
    all count start e (bad w p) h = tt
    all count start e (got ns end) h = done (eqb end (length s)) refl
      where
        done : (b : Bool) → eqb end (length s) ≡ b → Accepted s (if b then accepted ns else refused 2 end)
        done false q = tt
        done true q =
            record {
              start = start;
              counted = rw h.1 e;
              nodes = rw (h.1, sym (eqb-true end (length s) q)) h.0;
            }

    counting : (g : Got ℕ) → number "nodes=" wrong_count 1 4096 s 0 ≡ g → Accepted s (whole s (next (λ nodes. nodes_from nodes nodes 0) s g))
    counting (bad w p) e = tt
    counting (got count start) e = all count start e (nodes_from count count 0 s start) (reads count count 0 s start)

    judged : Accepted s (read_sheet s)
    judged = long (leb (length s) 1048576)
      where
        long : (b : Bool) → Accepted s (if b then whole s (node_list s 0) else refused 1 0)
        long true = counting (number "nodes=" wrong_count 1 4096 s 0) refl
        long false = tt

-- ---- the walk accepts the nodes that were read
pub judged_same : (ns nodes : List Node) → judge_tree (accepted ns) ≡ accepted nodes → ns ≡ nodes
unfolding judge_tree whole_tree
judged_same ns nodes e = go (walk_to ns 255 0) e
  where
    all : (t : Bool) (h : ℕ) → pick t (accepted ns) (refused 7 h) ≡ accepted nodes → ns ≡ nodes
    all true h e = cc
    all false h e = let z : ◌≡◌ {A = ℕ} 0 1 = cc in absurd (omega arith)

    go : (w : Walked) → whole_tree ns w ≡ accepted nodes → ns ≡ nodes
    go (met h) e = all (eqb (h + 1) (length ns)) (h + 1) e
    go (stopped number place) e = let z : ◌≡◌ {A = ℕ} 0 1 = cc in absurd (omega arith)

-- and an accepted sheet's lines were accepted
pub accepted_read : (s : List ℕ) (nodes : List Node) → judge s ≡ accepted nodes → read_sheet s ≡ accepted nodes
unfolding judge judge_tree
accepted_read s nodes e = go (read_sheet s) refl e
  where
    go : (j : Judged) → read_sheet s ≡ j → judge_tree j ≡ accepted nodes → read_sheet s ≡ accepted nodes
    go (accepted ns) i e = i ∙ ap accepted (judged_same ns nodes e)
    go (refused number place) i e = let z : ◌≡◌ {A = ℕ} 0 1 = cc in absurd (omega arith)
