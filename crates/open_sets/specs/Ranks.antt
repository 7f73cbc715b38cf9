-- The run: the numbers of the entries that are being merged, in the order of their sets, within a set statics, then
-- sources, then dynamics, and statics in the byte order of their keys. Of equal ones the earlier number stands first.
use Rattle.std.specs.Prelude.{◌≡◌, Bool, List, [], ◌∷◌, ◌++◌, map, ℕ, suc, get_or, if◌then◌else◌}
use Rattle.words.specs.Order.{order}
use Rattle.std.specs.declared.cmp.Ordering.{Ordering}
use Rattle.std.specs.Ordering.{is_lt, is_gt}
use Rattle.spec.specs.Basics.{Text, ExprId}
use Rattle.spec.specs.State.{SetId, MergingEntry, static, source, dynamic}
use Rattle.spec.specs.Merge.{set_of, Static, statics_of, sources_of, dynamics_of}

unfoldable pub class_of : MergingEntry → ℕ
class_of (static s k x nested value) = 0
class_of (source s e) = 1
class_of (dynamic s k v) = 2

unfoldable pub key_of : MergingEntry → Text
key_of (static s k x nested value) = k
key_of (source s e) = []
key_of (dynamic s k v) = []

-- where an entry stands: its set, its class and its key, read as one list
unfoldable pub standing : MergingEntry → List ℕ
standing e = set_of e ∷ class_of e ∷ key_of e

-- the set decides, then the class, then the key (proofs/RankOrder.antt, `rank_is`)
unfoldable pub rank : MergingEntry → MergingEntry → Ordering
rank x y = order (standing x) (standing y)

-- the same as tests
unfoldable pub before : MergingEntry → MergingEntry → Bool
before x y = is_lt (rank x y)

unfoldable pub after : MergingEntry → MergingEntry → Bool
after x y = is_gt (rank x y)

-- ---- a list in the order of what its items have for a key
-- before the first that is not less
unfoldable pub insert_by : {A : Type 0} → (A → List ℕ) → A → List A → List A
insert_by key x [] = x ∷ []
insert_by key x (y ∷ ys) = if is_gt (order (key x) (key y)) then y ∷ insert_by key x ys else x ∷ y ∷ ys

-- an entry and its number
abbrev pub Numbered : Type 0
Numbered = MergingEntry × ℕ

unfoldable pub standing_of : Numbered → List ℕ
standing_of p = standing p.0

-- the entries from number i on
unfoldable pub ranked_from : ℕ → List MergingEntry → List Numbered
ranked_from i [] = []
ranked_from i (e ∷ es) = insert_by standing_of (e, i) (ranked_from (suc i) es)

unfoldable pub sorted : List MergingEntry → List ℕ
sorted es = map (λ p. p.1) (ranked_from 0 es)

-- a run that is as it should be
pub record InOrder (es : List MergingEntry) (run : List ℕ) : Type 0 where
  pub same : run ≡ sorted es

-- the entry in place j of a run
abbrev pub placed : List MergingEntry → List ℕ → ℕ → MergingEntry
placed es run j = get_or es (get_or run j 0) (source 0 0)

-- ---- the entries of a set, as they follow one another in the run
abbrev pub static_entry : SetId → Static → MergingEntry
static_entry s x = static s x.key x.name x.nested x.value

abbrev pub dynamic_entry : SetId → ExprId × ExprId → MergingEntry
dynamic_entry s p = dynamic s p.0 p.1

-- statics, then sources, then dynamics
unfoldable pub in_classes : SetId → List Static → List ExprId → List (ExprId × ExprId) → List MergingEntry
in_classes s statics sources dynamics = map (static_entry s) statics ++ (map (source s) sources ++ map (dynamic_entry s) dynamics)

-- all that finishing the set s takes
abbrev pub segment : SetId → List MergingEntry → List MergingEntry
segment s es = in_classes s (statics_of s es) (sources_of s es) (dynamics_of s es)
