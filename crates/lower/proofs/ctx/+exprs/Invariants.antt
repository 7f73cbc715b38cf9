-- The measures of the cycle `+exprs`, and the loops in it.
use Prim.Native.Nat.{◌+◌, ◌*◌, ◌-◌}
use Rattle.layout.specs.Layout.{kid_limit}
use Rattle.lower.proofs.LoopLaws.{AttrpathLeft, EntriesLeft, FieldsLeft, InheritsLeft, ListLeft, PartsLeft}
use Rattle.module.specs.Ids.{expr_of}
use Rattle.lower.proofs.ctx.+exprs.Given as goal

abbrev pub decreases-attr : goal.decreases-attr
decreases-attr l = 131072 * l.depth + 5

abbrev pub decreases-attrs : goal.decreases-attrs
decreases-attrs l = 131072 * l.depth + 6

abbrev pub decreases-binds : goal.decreases-binds
decreases-binds l = 131072 * l.depth + 70003

abbrev pub decreases-binop : goal.decreases-binop
decreases-binop l = 131072 * l.depth + 7

abbrev pub decreases-cond : goal.decreases-cond
decreases-cond l = 131072 * l.depth + 7

abbrev pub decreases-entries : goal.decreases-entries
decreases-entries l = 131072 * l.depth + 70002

abbrev pub decreases-entry : goal.decreases-entry
decreases-entry l = 131072 * l.depth + 70001

abbrev pub decreases-expr : goal.decreases-expr
decreases-expr l = 131072 * l.depth

abbrev pub decreases-field : goal.decreases-field
decreases-field l = 131072 * l.depth + 2

abbrev pub decreases-fields : goal.decreases-fields
decreases-fields l = 131072 * l.depth + 3

abbrev pub decreases-get : goal.decreases-get
decreases-get l = 131072 * l.depth + 7

abbrev pub decreases-has : goal.decreases-has
decreases-has l = 131072 * l.depth + 7

abbrev pub decreases-heir : goal.decreases-heir
decreases-heir l = 131072 * l.depth + 3

abbrev pub decreases-inherit : goal.decreases-inherit
decreases-inherit l = 131072 * l.depth + 70000

abbrev pub decreases-join : goal.decreases-join
decreases-join l = 131072 * l.depth

abbrev pub decreases-keyed : goal.decreases-keyed
decreases-keyed l = 131072 * l.depth + 2

abbrev pub decreases-lambda : goal.decreases-lambda
decreases-lambda l = 131072 * l.depth + 7

abbrev pub decreases-last : goal.decreases-last
decreases-last l = 131072 * l.depth + 3

abbrev pub decreases-let_in : goal.decreases-let_in
decreases-let_in l = 131072 * l.depth + 70004

abbrev pub decreases-list : goal.decreases-list
decreases-list l = 131072 * l.depth + 7

abbrev pub decreases-nest : goal.decreases-nest
decreases-nest l = 131072 * l.depth + 9 + 4 * (kid_limit - l.rest.after)

abbrev pub decreases-nested : goal.decreases-nested
decreases-nested l = 131072 * l.depth + 8 + 4 * (kid_limit - l.rest.after)

abbrev pub decreases-opt : goal.decreases-opt
decreases-opt l = 131072 * l.depth + 1

abbrev pub decreases-pair : goal.decreases-pair
decreases-pair l = 131072 * l.depth + 7

abbrev pub decreases-part : goal.decreases-part
decreases-part l = 131072 * l.depth + 2

abbrev pub decreases-parts : goal.decreases-parts
decreases-parts l = 131072 * l.depth + 3

abbrev pub decreases-path : goal.decreases-path
decreases-path l = 131072 * l.depth + 4

abbrev pub decreases-push : goal.decreases-push
decreases-push l = 131072 * l.depth + 2

abbrev pub decreases-put : goal.decreases-put
decreases-put l = 131072 * l.depth + 70000

abbrev pub decreases-set : goal.decreases-set
decreases-set l = 131072 * l.depth + 70004

abbrev pub decreases-src : goal.decreases-src
decreases-src l = 131072 * l.depth + 2

abbrev pub decreases-step : goal.decreases-step
decreases-step l = 131072 * l.depth + 10 + 4 * (kid_limit - l.rest.after)

abbrev pub decreases-str : goal.decreases-str
decreases-str l = 131072 * l.depth + 4

abbrev pub decreases-there : goal.decreases-there
decreases-there l = 131072 * l.depth + 1

abbrev pub decreases-unop : goal.decreases-unop
decreases-unop l = 131072 * l.depth + 7

abbrev pub invariant-attrs-loop-i : goal.invariant-attrs-loop-i
invariant-attrs-loop-i l = AttrpathLeft l.depth l.n.0 l.initial.store l.i l.store

abbrev pub invariant-entries-loop-i : goal.invariant-entries-loop-i
invariant-entries-loop-i l = EntriesLeft l.depth l.s.0 l.n.0 l.initial.store l.i l.store

abbrev pub invariant-fields-loop-i : goal.invariant-fields-loop-i
invariant-fields-loop-i l = FieldsLeft l.depth l.n.0 l.initial.store l.i l.store

abbrev pub invariant-inherit-loop-i : goal.invariant-inherit-loop-i
invariant-inherit-loop-i l = InheritsLeft l.depth l.s.0 (expr_of l.from_set) l.n.0 l.initial.store l.i l.store

abbrev pub invariant-list-loop-i : goal.invariant-list-loop-i
invariant-list-loop-i l = ListLeft l.depth l.n.0 l.initial.store l.i l.store

abbrev pub invariant-parts-loop-i : goal.invariant-parts-loop-i
invariant-parts-loop-i l = PartsLeft l.depth l.n.0 l.initial.store l.i l.store
