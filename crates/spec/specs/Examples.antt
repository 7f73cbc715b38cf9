-- The marked examples (docs/RULES.md, "Followed examples"): from the bytes of a sheet through all definitions to
-- exactly what document 01 says of them, with the four counts. The sheets are those of `oracle tree`; that of `x: x` is
-- document 01's. And lines that are refused, each for its own reason.
use Rattle.std.specs.Prelude.{◌≡◌, refl, false, List, [], ◌∷◌, ◌++◌, map, ℕ, suc, length}
use Rattle.std.proofs.Math.Option.{Option, none, some}
use Prim.Native.String.{String}
use Rattle.spec.specs.Basics.{ExprId, NameId, bytes}
use Rattle.spec.specs.Module.{BindingValue, expr, Bindings, Expr, attr_set, reference}
use Rattle.spec.specs.Sheet.{Node, Judged, accepted, refused}
use Rattle.spec.specs.Tree.{judge}
use Rattle.spec.specs.Scopes.{expr_at}
use Rattle.spec.specs.Answer.{Answer, unresolved, definition, builtin, withs}
use Rattle.spec.specs.Kept.{Kept, loaded}
use Rattle.spec.specs.Computes.{computes}

-- counts of expressions, names, scopes and duplicates; the answers; and some of the expressions. Or a refusal.
pub data Result : Type 0 where
  result : ℕ → ℕ → ℕ → ℕ → List (ExprId × Answer) → List (ExprId × Expr) → Result
  refusal : ℕ → ℕ → Result

-- a sheet, what it gives, and which of its expressions are looked at
pub record Example : Type 0 where
  pub given : String
  pub seen : List ExprId
  pub gives : Result

abbrev pub statics : List (NameId × BindingValue) → Bindings
statics bs = record { statics = bs; inherit_froms = []; dynamics = [] }

abbrev pub answered : ExprId → List (Option Answer) → List (ExprId × Answer)
answered e [] = []
answered e (none ∷ more) = answered (suc e) more
answered e (some a ∷ more) = (e, a) ∷ answered (suc e) more

abbrev pub result_of : List ExprId → Kept → Result
result_of es k =
    result (length k.lowered.exprs) (length k.lowered.names) (length k.scopes.scopes) (length k.lowered.diagnostics)
    (answered 0 k.answers)
    (map (λ e. (e, expr_at k.lowered e)) es)

abbrev pub judged : List ExprId → Judged → Result
judged es (accepted nodes) = result_of es (loaded nodes)
judged es (refused number place) = refusal number place

abbrev pub computed : Example → Result
computed x = judged x.seen (judge (bytes x.given))

-- the nodes of an accepted sheet
abbrev pub nodes_in : Judged → List Node
nodes_in (accepted nodes) = nodes
nodes_in (refused number place) = []

abbrev pub nodes_of : String → List Node
nodes_of s = nodes_in (judge (bytes s))

-- x@{x}: x, where the field hides the parameter
abbrev pub hidden : String
hidden = "nodes=8\nkind=21\nfrom=0\nto=8\nflag=0\nkids=1\ntext=\nkind=11\nfrom=1\nto=8\nflag=0\nkids=2,7\ntext=\nkind=29\nfrom=2\nto=7\nflag=0\nkids=3,5\ntext=\nkind=30\nfrom=3\nto=5\nflag=0\nkids=4\ntext=\nkind=18\nfrom=4\nto=5\nflag=1\nkids=\ntext=78\nkind=31\nfrom=5\nto=7\nflag=0\nkids=6,-\ntext=\nkind=18\nfrom=6\nto=7\nflag=1\nkids=\ntext=78\nkind=18\nfrom=7\nto=8\nflag=1\nkids=\ntext=78\n"

unfoldable pub examples : List Example
examples =
    -- x: x
    record {
      given = "nodes=5\nkind=21\nfrom=0\nto=4\nflag=0\nkids=1\ntext=\nkind=11\nfrom=0\nto=4\nflag=0\nkids=2,4\ntext=\nkind=28\nfrom=0\nto=1\nflag=0\nkids=3\ntext=\nkind=18\nfrom=0\nto=1\nflag=1\nkids=\ntext=78\nkind=18\nfrom=3\nto=4\nflag=1\nkids=\ntext=78\n";
      seen = [];
      gives = result 2 1 2 0 ((0, definition 0) ∷ []) ([]);
    }
    -- x@{x}: x
    ∷ record {
      given = hidden;
      seen = [];
      gives = result 2 2 2 0 ((0, definition 1) ∷ []) ([]);
    }
    -- with a; map
    ∷ record {
      given = "nodes=4\nkind=21\nfrom=0\nto=4\nflag=0\nkids=1\ntext=\nkind=4\nfrom=1\nto=4\nflag=0\nkids=2,3\ntext=\nkind=18\nfrom=2\nto=3\nflag=1\nkids=\ntext=61\nkind=18\nfrom=3\nto=4\nflag=1\nkids=\ntext=6d6170\n";
      seen = [];
      gives = result 3 0 2 0 ((0, unresolved) ∷ (1, builtin 14) ∷ []) ([]);
    }
    -- with a; with b; c
    ∷ record {
      given = "nodes=6\nkind=21\nfrom=0\nto=6\nflag=0\nkids=1\ntext=\nkind=4\nfrom=1\nto=6\nflag=0\nkids=2,3\ntext=\nkind=18\nfrom=2\nto=3\nflag=1\nkids=\ntext=61\nkind=4\nfrom=3\nto=6\nflag=0\nkids=4,5\ntext=\nkind=18\nfrom=4\nto=5\nflag=1\nkids=\ntext=62\nkind=18\nfrom=5\nto=6\nflag=1\nkids=\ntext=63\n";
      seen = [];
      gives = result 5 0 3 0 ((0, unresolved) ∷ (1, withs (4 ∷ [])) ∷ (2, withs (3 ∷ 4 ∷ [])) ∷ []) ([]);
    }
    -- y: with y; y
    ∷ record {
      given = "nodes=7\nkind=21\nfrom=0\nto=7\nflag=0\nkids=1\ntext=\nkind=11\nfrom=1\nto=7\nflag=0\nkids=2,4\ntext=\nkind=28\nfrom=2\nto=4\nflag=0\nkids=3\ntext=\nkind=18\nfrom=3\nto=4\nflag=1\nkids=\ntext=79\nkind=4\nfrom=4\nto=7\nflag=0\nkids=5,6\ntext=\nkind=18\nfrom=5\nto=6\nflag=1\nkids=\ntext=79\nkind=18\nfrom=6\nto=7\nflag=1\nkids=\ntext=79\n";
      seen = [];
      gives = result 4 1 3 0 ((0, definition 0) ∷ (1, definition 0) ∷ []) ([]);
    }
    -- {}: q
    ∷ record {
      given = "nodes=4\nkind=21\nfrom=0\nto=4\nflag=0\nkids=1\ntext=\nkind=11\nfrom=1\nto=4\nflag=0\nkids=2,3\ntext=\nkind=29\nfrom=2\nto=3\nflag=0\nkids=-\ntext=\nkind=18\nfrom=3\nto=4\nflag=1\nkids=\ntext=71\n";
      seen = [];
      gives = result 2 0 1 0 ((0, unresolved) ∷ []) ([]);
    }
    -- x: let inherit x; in x
    ∷ record {
      given = "nodes=8\nkind=21\nfrom=0\nto=8\nflag=0\nkids=1\ntext=\nkind=11\nfrom=1\nto=8\nflag=0\nkids=2,4\ntext=\nkind=28\nfrom=2\nto=4\nflag=0\nkids=3\ntext=\nkind=18\nfrom=3\nto=4\nflag=1\nkids=\ntext=78\nkind=12\nfrom=4\nto=8\nflag=0\nkids=5,6\ntext=\nkind=18\nfrom=5\nto=6\nflag=1\nkids=\ntext=78\nkind=26\nfrom=6\nto=8\nflag=0\nkids=-,7\ntext=\nkind=18\nfrom=7\nto=8\nflag=1\nkids=\ntext=78\n";
      seen = [];
      gives = result 4 2 3 0 ((0, definition 0) ∷ (1, definition 1) ∷ []) ([]);
    }
    -- x: let inherit (x) x; in x
    ∷ record {
      given = "nodes=10\nkind=21\nfrom=0\nto=10\nflag=0\nkids=1\ntext=\nkind=11\nfrom=1\nto=10\nflag=0\nkids=2,4\ntext=\nkind=28\nfrom=2\nto=4\nflag=0\nkids=3\ntext=\nkind=18\nfrom=3\nto=4\nflag=1\nkids=\ntext=78\nkind=12\nfrom=4\nto=10\nflag=0\nkids=5,6\ntext=\nkind=18\nfrom=5\nto=6\nflag=1\nkids=\ntext=78\nkind=26\nfrom=6\nto=10\nflag=0\nkids=7,9\ntext=\nkind=27\nfrom=7\nto=9\nflag=0\nkids=8\ntext=\nkind=18\nfrom=8\nto=9\nflag=1\nkids=\ntext=78\nkind=18\nfrom=9\nto=10\nflag=1\nkids=\ntext=78\n";
      seen = [];
      gives = result 6 2 3 0 ((0, definition 1) ∷ (3, definition 1) ∷ []) ([]);
    }
    -- { a.b = 1; a = 2; }: one duplicate, a is the set
    ∷ record {
      given = "nodes=11\nkind=21\nfrom=0\nto=11\nflag=0\nkids=1\ntext=\nkind=16\nfrom=1\nto=11\nflag=0\nkids=2,7\ntext=\nkind=25\nfrom=2\nto=7\nflag=0\nkids=3,6\ntext=\nkind=23\nfrom=3\nto=6\nflag=0\nkids=4,5\ntext=\nkind=18\nfrom=4\nto=5\nflag=1\nkids=\ntext=61\nkind=18\nfrom=5\nto=6\nflag=1\nkids=\ntext=62\nkind=9\nfrom=6\nto=7\nflag=0\nkids=\ntext=31\nkind=25\nfrom=7\nto=11\nflag=0\nkids=8,10\ntext=\nkind=23\nfrom=8\nto=10\nflag=0\nkids=9\ntext=\nkind=18\nfrom=9\nto=10\nflag=1\nkids=\ntext=61\nkind=9\nfrom=10\nto=11\nflag=0\nkids=\ntext=32\n";
      seen = 3 ∷ 2 ∷ [];
      gives = result 4 2 1 1 ([]) ((3, attr_set false (statics ((0, expr 2) ∷ []))) ∷ (2, attr_set false (statics ((1, expr 0) ∷ []))) ∷ []);
    }
    -- { a = 2; a.b = 1; }: none, a is the set
    ∷ record {
      given = "nodes=11\nkind=21\nfrom=0\nto=11\nflag=0\nkids=1\ntext=\nkind=16\nfrom=1\nto=11\nflag=0\nkids=2,6\ntext=\nkind=25\nfrom=2\nto=6\nflag=0\nkids=3,5\ntext=\nkind=23\nfrom=3\nto=5\nflag=0\nkids=4\ntext=\nkind=18\nfrom=4\nto=5\nflag=1\nkids=\ntext=61\nkind=9\nfrom=5\nto=6\nflag=0\nkids=\ntext=32\nkind=25\nfrom=6\nto=11\nflag=0\nkids=7,10\ntext=\nkind=23\nfrom=7\nto=10\nflag=0\nkids=8,9\ntext=\nkind=18\nfrom=8\nto=9\nflag=1\nkids=\ntext=61\nkind=18\nfrom=9\nto=10\nflag=1\nkids=\ntext=62\nkind=9\nfrom=10\nto=11\nflag=0\nkids=\ntext=31\n";
      seen = 3 ∷ 2 ∷ [];
      gives = result 4 2 1 0 ([]) ((3, attr_set false (statics ((0, expr 2) ∷ []))) ∷ (2, attr_set false (statics ((1, expr 1) ∷ []))) ∷ []);
    }
    -- x: { a = x; a = 2; }
    ∷ record {
      given = "nodes=13\nkind=21\nfrom=0\nto=13\nflag=0\nkids=1\ntext=\nkind=11\nfrom=1\nto=13\nflag=0\nkids=2,4\ntext=\nkind=28\nfrom=2\nto=4\nflag=0\nkids=3\ntext=\nkind=18\nfrom=3\nto=4\nflag=1\nkids=\ntext=78\nkind=16\nfrom=4\nto=13\nflag=0\nkids=5,9\ntext=\nkind=25\nfrom=5\nto=9\nflag=0\nkids=6,8\ntext=\nkind=23\nfrom=6\nto=8\nflag=0\nkids=7\ntext=\nkind=18\nfrom=7\nto=8\nflag=1\nkids=\ntext=61\nkind=18\nfrom=8\nto=9\nflag=1\nkids=\ntext=78\nkind=25\nfrom=9\nto=13\nflag=0\nkids=10,12\ntext=\nkind=23\nfrom=10\nto=12\nflag=0\nkids=11\ntext=\nkind=18\nfrom=11\nto=12\nflag=1\nkids=\ntext=61\nkind=9\nfrom=12\nto=13\nflag=0\nkids=\ntext=32\n";
      seen = [];
      gives = result 4 2 2 1 ((0, unresolved) ∷ []) ([]);
    }
    -- { ${k}.b = 1; }: k is e2
    ∷ record {
      given = "nodes=8\nkind=21\nfrom=0\nto=8\nflag=0\nkids=1\ntext=\nkind=16\nfrom=1\nto=8\nflag=0\nkids=2\ntext=\nkind=25\nfrom=2\nto=8\nflag=0\nkids=3,7\ntext=\nkind=23\nfrom=3\nto=7\nflag=0\nkids=4,6\ntext=\nkind=24\nfrom=4\nto=6\nflag=0\nkids=5\ntext=\nkind=18\nfrom=5\nto=6\nflag=1\nkids=\ntext=6b\nkind=18\nfrom=6\nto=7\nflag=1\nkids=\ntext=62\nkind=9\nfrom=7\nto=8\nflag=0\nkids=\ntext=31\n";
      seen = 2 ∷ [];
      gives = result 4 1 1 0 ((2, unresolved) ∷ []) ((2, reference (bytes "k")) ∷ []);
    }
    ∷ []

pub marked : map computed examples ≡ map (λ x. x.gives) examples
unfolding computes examples
marked = refl

-- ---- lines refused
-- A Root with one child or none, and the five lines of an Ident after its kind: they begin at bytes 56, 63, 68, 75 and
-- 81 where the ones before them are `from=0`, `to=1`, `flag=0` and `kids=`.
abbrev pub root_and : String → String → List ℕ
root_and kid lines = bytes "nodes=2\nkind=21\nfrom=0\nto=1\nflag=0\nkids=" ++ bytes kid ++ bytes "\ntext=\nkind=18\n" ++ bytes lines

unfoldable pub refused_lines : List (List ℕ × Judged)
refused_lines =
    -- the line decides: a text that the flag 0 leaves no room for is a text outside the rule
    (root_and "1" "from=0\nto=1\nflag=0\nkids=\ntext=78\n", refused 32 81)
    -- a flag of any length; and it comes before a child that there is not
    ∷ (root_and "1" "from=0\nto=1\nflag=99999999999999999999\nkids=2\ntext=\n", refused 31 68)
    -- malformed, and no flag or text at all
    ∷ (root_and "1" "from=0\nto=1\nflag=01\nkids=\ntext=\n", refused 2 68)
    ∷ (root_and "1" "from=0\nto=1\nflag=1\nkids=\ntext=7A\n", refused 2 81)
    -- a range that ends before it begins is told where it ends, one that is too large where it is
    ∷ (root_and "1" "from=1\nto=0\nflag=0\nkids=\ntext=\n", refused 33 63)
    ∷ (root_and "1" "from=4294967296\nto=0\nflag=0\nkids=\ntext=\n", refused 33 56)
    ∷ (root_and "1" "from=0\nto=4294967296\nflag=0\nkids=\ntext=\n", refused 33 63)
    -- a child that there is not
    ∷ (root_and "1" "from=0\nto=1\nflag=0\nkids=2\ntext=\n", refused 3 75)
    -- a node that the walk does not meet: its lines come first
    ∷ (root_and "-" "from=0\nto=1\nflag=2\nkids=\ntext=\n", refused 31 68)
    ∷ (root_and "-" "from=0\nto=1\nflag=0\nkids=\ntext=\n", refused 7 1)
    ∷ []

pub told : map (λ x. judge x.0) refused_lines ≡ map (λ x. x.1) refused_lines
unfolding computes refused_lines
told = refl
