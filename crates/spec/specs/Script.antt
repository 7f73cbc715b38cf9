-- docs/RULES.md, "Followed examples": a script of calls on `x@{x}: x`, computed by the book and by what a store keeps.
-- The hidden name comes back, a definition goes before a builtin, the checks have their order, and the change room ends
-- at 8,192. And what a change moves, each on a sheet of its own.
use Rattle.std.specs.Prelude.{◌≡◌, refl, List, [], ◌∷◌, ◌++◌, map, ℕ, zero, suc, replicate}
use Prim.Native.String.{String}
use Rattle.spec.specs.Basics.{bytes}
use Rattle.spec.specs.Sheet.{Node}
use Rattle.spec.specs.Lower.{lower_module}
use Rattle.spec.specs.Answer.{unresolved, definition, builtin}
use Rattle.spec.specs.Calls.{fit, Call, ask_reference, ask_name, change_reference, change_name, Outcome, refusal, answered, listed, accepted}
use Rattle.spec.specs.Book.{book_of, book_outcome, book_outcomes}
use Rattle.spec.specs.Kept.{Kept, loaded, kept_outcome, kept_after}
use Rattle.spec.specs.Examples.{nodes_of, hidden}
use Rattle.spec.specs.Computes.{computes}

-- e0 is the Reference and e1 the Lambda; n0 is the parameter and n1 the field, entered after it
abbrev pub nodes : List Node
nodes = nodes_of hidden

-- a call, and what it comes to
abbrev pub talk : List (Call × Outcome)
talk =
    (ask_reference 0 0 20, answered (definition 1))
    ∷ (change_name 1 (bytes "y") 3 20, refusal 34 1)
    ∷ (ask_reference 0 0 20, answered (definition 1))
    ∷ (change_name 1 (bytes "y") 4 20, accepted (0 ∷ []))
    ∷ (ask_reference 0 0 20, answered (definition 0))
    ∷ (ask_name 0 4 20, listed (0 ∷ []))
    ∷ (ask_name 0 3 20, refusal 26 1)
    ∷ (change_name 0 (bytes "map") 8 20, accepted (0 ∷ []))
    ∷ (ask_reference 0 0 20, answered unresolved)
    ∷ (change_reference 0 (bytes "map") 4 20, accepted (0 ∷ []))
    ∷ (ask_reference 0 0 20, answered (definition 0))
    ∷ (change_name 0 (bytes "x") 4 20, accepted (0 ∷ []))
    ∷ (ask_reference 0 0 20, answered (builtin 14))
    ∷ (ask_reference 1 0 20, refusal 25 1)
    ∷ (ask_reference 2 0 20, refusal 24 2)
    ∷ (ask_reference 2 0 19, refusal 21 0)
    ∷ (change_reference 1 (replicate 256 97) 0 20, refusal 25 1)
    ∷ (change_reference 0 (replicate 256 97) 0 20, refusal 8 255)
    ∷ []

-- 8 bytes are spent by now; 32 times 255 more, by two texts in turn, leave 24
abbrev pub in_turn : ℕ → List (Call × Outcome)
in_turn zero = []
in_turn (suc n) = (change_name 1 (replicate 255 97) 0 20, accepted []) ∷ (change_name 1 (replicate 255 98) 0 20, accepted []) ∷ in_turn n

abbrev pub last_ones : List (Call × Outcome)
last_ones =
    (change_name 1 (replicate 25 97) 0 20, refusal 27 0)
    ∷ (change_name 1 (replicate 255 98) 0 20, accepted [])
    ∷ (change_name 1 (replicate 24 97) 0 20, accepted [])
    ∷ (change_name 1 (bytes "y") 0 20, refusal 27 0)
    ∷ (change_reference 0 (bytes "x") 0 20, refusal 27 0)
    ∷ (change_name 1 (replicate 256 97) 0 20, refusal 8 255)
    ∷ (change_name 1 [] 0 20, accepted [])
    ∷ []

abbrev pub script : List (Call × Outcome)
script = talk ++ (in_turn 16 ++ last_ones)

abbrev pub calls : List Call
calls = map (λ x. x.0) script

abbrev pub outcomes : List Outcome
outcomes = map (λ x. x.1) script

pub by_the_book : book_outcomes (book_of (lower_module nodes)) calls ≡ outcomes
unfolding computes
by_the_book = refl

abbrev pub kept_outcomes : Kept → List Call → List Outcome
kept_outcomes k [] = []
kept_outcomes k (c ∷ cs) = kept_outcome fit k c ∷ kept_outcomes (kept_after fit k c) cs

pub as_kept : kept_outcomes (loaded nodes) calls ≡ outcomes
unfolding computes
as_kept = refl

-- ---- what a change moves
-- a sheet, a change that is its first call, and what that comes to
pub record Moving : Type 0 where
  pub given : String
  pub call : Call
  pub gives : Outcome

-- a: [ b a b ]
abbrev pub three_uses : String
three_uses = "nodes=8\nkind=21\nfrom=0\nto=8\nflag=0\nkids=1\ntext=\nkind=11\nfrom=1\nto=8\nflag=0\nkids=2,4\ntext=\nkind=28\nfrom=2\nto=4\nflag=0\nkids=3\ntext=\nkind=18\nfrom=3\nto=4\nflag=1\nkids=\ntext=61\nkind=13\nfrom=4\nto=8\nflag=0\nkids=5,6,7\ntext=\nkind=18\nfrom=5\nto=6\nflag=1\nkids=\ntext=62\nkind=18\nfrom=6\nto=7\nflag=1\nkids=\ntext=61\nkind=18\nfrom=7\nto=8\nflag=1\nkids=\ntext=62\n"

-- {x, y}: [x y]
abbrev pub two_fields : String
two_fields = "nodes=10\nkind=21\nfrom=0\nto=10\nflag=0\nkids=1\ntext=\nkind=11\nfrom=1\nto=10\nflag=0\nkids=2,7\ntext=\nkind=29\nfrom=2\nto=7\nflag=0\nkids=-,3,5\ntext=\nkind=31\nfrom=3\nto=5\nflag=0\nkids=4,-\ntext=\nkind=18\nfrom=4\nto=5\nflag=1\nkids=\ntext=78\nkind=31\nfrom=5\nto=7\nflag=0\nkids=6,-\ntext=\nkind=18\nfrom=6\nto=7\nflag=1\nkids=\ntext=79\nkind=13\nfrom=7\nto=10\nflag=0\nkids=8,9\ntext=\nkind=18\nfrom=8\nto=9\nflag=1\nkids=\ntext=78\nkind=18\nfrom=9\nto=10\nflag=1\nkids=\ntext=79\n"

-- with a; b
abbrev pub used_in_with : String
used_in_with = "nodes=4\nkind=21\nfrom=0\nto=4\nflag=0\nkids=1\ntext=\nkind=4\nfrom=1\nto=4\nflag=0\nkids=2,3\ntext=\nkind=18\nfrom=2\nto=3\nflag=1\nkids=\ntext=61\nkind=18\nfrom=3\nto=4\nflag=1\nkids=\ntext=62\n"

unfoldable pub moving : List Moving
moving =
    -- ascending, those that bore the new text among those that bore the old one
    record { given = three_uses; call = change_name 0 (bytes "b") 12 20; gives = accepted (0 ∷ 1 ∷ 2 ∷ []) }
    ∷ record { given = three_uses; call = change_name 0 (bytes "b") 11 20; gives = refusal 34 3 }
    ∷ record { given = three_uses; call = change_name 0 (bytes "a") 0 20; gives = accepted [] }
    -- of equal texts the last entered answers
    ∷ record { given = two_fields; call = change_name 0 (bytes "y") 8 20; gives = accepted (0 ∷ []) }
    ∷ record { given = two_fields; call = change_name 1 (bytes "x") 8 20; gives = accepted (0 ∷ 1 ∷ []) }
    -- a hidden name moves nothing, the one that hides it does
    ∷ record { given = hidden; call = change_name 0 (bytes "q") 0 20; gives = accepted [] }
    ∷ record { given = hidden; call = change_name 1 (bytes "q") 4 20; gives = accepted (0 ∷ []) }
    -- the same Withs are the same answer
    ∷ record { given = used_in_with; call = change_reference 1 (bytes "c") 0 20; gives = accepted [] }
    ∷ []

pub moved_by_the_book : map (λ x. book_outcome (book_of (lower_module (nodes_of x.given))) x.call) moving ≡ map (λ x. x.gives) moving
unfolding computes moving
moved_by_the_book = refl

pub moved_as_kept : map (λ x. kept_outcome fit (loaded (nodes_of x.given)) x.call) moving ≡ map (λ x. x.gives) moving
unfolding computes moving
moved_as_kept = refl
