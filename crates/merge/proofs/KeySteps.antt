-- One key merged into a set. Assumes nothing.
use mathlib.Core.Path.{◌≡◌, refl, ap, ◌∙◌}
use mathlib.Core.List.{List}
use mathlib.Core.Option.{Option, none, some}
use Prim.Native.Nat.{ℕ, suc, ◌≤◌}
use native.Mathlib.Omega.{arith}
use lib.ListN.{length}
use Rattle.spec.specs.Basics.{Text, NameId}
use Rattle.spec.specs.Module.{Pointer, BindingValue, NameKind, PlainAttrset}
use Rattle.spec.specs.Steps.{◌>>=◌, give, asks}
use Rattle.spec.specs.State.{SetId, static, alloc_name, add_duplicate, new_set, add_entry, set_entry}
use Rattle.spec.specs.Scopes.{name_at}
use Rattle.spec.specs.Lower.{module_of}
use Rattle.spec.specs.Merge.{find, entry_at, set_at, name_in, nested_in, with_value, with_nested, nested_at, name_pointer, name_key, merge_value_at, merge_static_value, new_nested, nested_or, nested_static_at, get_or_create_nested_static}
use Rattle.spec.proofs.sets.Standing.{standing_value, value_adds, standing_nested, nested_adds, nested_given}
use Rattle.layout.specs.Texts.{text_in}
use Rattle.layout.specs.Exprs.{Item}
use Rattle.layout.specs.States.{sets_of, entries_of, order_of, state_of, module_in}
use Rattle.layout.proofs.Frames.{text_still}
use Rattle.store.specs.Work.{Did, put_name, name_with, put_duplicate}
use Rattle.open_sets.specs.Ranks.{InOrder}
use Rattle.open_sets.specs.Entries.{entry_with, open_set, change}
use Rattle.open_sets.specs.declared.entry.Entry.{Entry}
use Rattle.open_sets.specs.Run.{Entered}
use Rattle.merge.specs.Room.{Price, price, nothing, ◌⊕◌, covers, one_name, one_duplicate, one_set, one_entry}
use Rattle.merge.specs.Lowers.{Lowerable, Lowered, Lowering}
use Rattle.merge.specs.Merges.{Merges, key_price, value_price, nested_price}
use Rattle.merge.proofs.MergeSteps.{follow, given, questioned, in_other_words, allowed, merged_whole}
use Rattle.merge.proofs.SetSteps.{key_named, key_told, set_opened, entry_added, value_changed, nested_changed}

-- ---- what an entry has, which was read from its row
pub name_read : (e : Entry) (i : ℕ) (x : NameId) (s : List ℕ) → ((st : List ℕ) → x ≡ name_in (entry_with st e)) → entry_with s e ≡ entry_at i (state_of s) → x ≡ name_in (entry_at i (state_of s))
name_read e i x s has is = has s ∙ rw is

pub nested_read : (e : Entry) (i : ℕ) (r : Option SetId) (s : List ℕ) → ((st : List ℕ) → r ≡ nested_in (entry_with st e)) → entry_with s e ≡ entry_at i (state_of s) → r ≡ nested_in (entry_at i (state_of s))
nested_read e i r s has is = has s ∙ rw is

-- ---- a name for a key
pub name_given : (set : SetId) (key : Text) (k : NameKind) (p : Pointer) {s : List ℕ} {r : ℕ} {t : List ℕ} → k ≡ (set_at set (state_of s)).name_kind → Did (put_name (name_with key k p)) s r t → Merges one_name (name_key set key p) s r t
unfolding name_key
name_given set key k p e d = questioned (λ st. (set_at set st).name_kind) (λ k. alloc_name key k p) (λ o. e) (key_named key k p d)

-- ---- a value
-- The key is the text n of the store.
pub value_first : (set : SetId) (n : ℕ) (p : Pointer) (v : BindingValue) {x : NameId} {s u t : List ℕ} → Merges one_name (name_key set (text_in s n) p) s x u → Entered (static set (text_in u n) x none (some v)) u t
    → Merges key_price (merge_value_at set (text_in s n) p v none) s tt t
unfolding merge_value_at key_price one_name one_entry price ◌⊕◌ covers
value_first set n p v {s = s} {u = u} m d = allowed refl (follow (λ x. add_entry (static set (text_in s n) x none (some v))) m (entry_added (rw (text_still s u n m.still) at d)))

-- where a name points
pub name_points : (x : NameId) (s : List ℕ) → (name_at (module_in s) x).pointer ≡ name_pointer x (state_of s)
unfolding name_at module_in module_of name_pointer
name_points x s = refl

pub value_second : (i : ℕ) (key : Text) (p : Pointer) (v : BindingValue) (x : NameId) (first : Pointer) {s u t : List ℕ} → x ≡ name_in (entry_at i (state_of s)) → first ≡ (name_at (module_in s) x).pointer → Did (put_duplicate key first p) s tt u → Did (change i (with_value v)) u tt t
    → (set : SetId) → Merges one_duplicate (merge_value_at set key p v (some i)) s tt t
unfolding merge_value_at add_duplicate entry_at ◌>>=◌ asks nothing one_duplicate price ◌⊕◌ covers
value_second i key p v x first {s = s} ex ef told d set =
    let e : first ≡ name_pointer (name_in (entry_at i (state_of s))) (state_of s) = ef ∙ name_points x s ∙ rw ex in
    allowed refl (in_other_words (rw e) (follow (λ _. asks (entry_at i) >>= λ e. set_entry i (with_value v e)) (key_told key first p told) (value_changed v i d)))

value_whole : (set : SetId) (key : Text) (p : Pointer) (v : BindingValue) {s t : List ℕ} → Merges value_price (merge_static_value set key p v) s tt t → Lowering (suc set) (λ _. 0) value_price (λ _. merge_static_value set key p v) s tt t
value_whole set key p v {s = s} m =
    let adds = value_adds set key p v (state_of s) in
    record { at = λ nodes w. merged_whole (λ h. standing_value set key p v (state_of s) h) (rw adds.sets_same (omega arith)) m }

pub value_new : (set : SetId) (key : Text) (p : Pointer) (v : BindingValue) {s t : List ℕ} → (InOrder (entries_of s) (order_of s) → none ≡ find set key (state_of s)) → Merges key_price (merge_value_at set key p v none) s tt t
    → Lowering (suc set) (λ _. 0) value_price (λ _. merge_static_value set key p v) s tt t
unfolding merge_static_value key_price value_price price covers
value_new set key p v found m = value_whole set key p v (allowed refl (questioned (find set key) (merge_value_at set key p v) found m))

pub value_again : (set : SetId) (key : Text) (p : Pointer) (v : BindingValue) (i : ℕ) {s t : List ℕ} → (InOrder (entries_of s) (order_of s) → some i ≡ find set key (state_of s)) → Merges one_duplicate (merge_value_at set key p v (some i)) s tt t
    → Lowering (suc set) (λ _. 0) value_price (λ _. merge_static_value set key p v) s tt t
unfolding merge_static_value one_duplicate value_price price covers
value_again set key p v i found m = value_whole set key p v (allowed refl (questioned (find set key) (merge_value_at set key p v) found m))

-- ---- a nested set
pub nested_first : (set : SetId) (n : ℕ) (p : Pointer) {x : NameId} {r : SetId} {s u z t : List ℕ} → Merges one_name (name_key set (text_in s n) p) s x u → Did (open_set PlainAttrset p) u r z → Entered (static set (text_in z n) x (some r) none) z t
    → Merges nested_price (nested_static_at set (text_in s n) p none) s r t
unfolding nested_static_at new_nested nested_price one_name one_set one_entry nothing price ◌⊕◌ covers
nested_first set n p {x} {r} {s} {u} {z} m o d =
    let there : text_in z n ≡ text_in s n = text_still u z n o.still ∙ text_still s u n m.still in
    allowed refl (
    follow (λ x. new_set PlainAttrset p >>= λ t. add_entry (static set (text_in s n) x (some t) none) >>= λ _. give t) m (
    follow (λ t. add_entry (static set (text_in s n) x (some t) none) >>= λ _. give t) (set_opened PlainAttrset p o) (follow (λ _. give r) (entry_added (rw there at d)) (given r))))

pub nested_made : (i : ℕ) (p : Pointer) {r : SetId} {s u t : List ℕ} → Did (open_set PlainAttrset p) s r u → Did (change i (with_nested r)) u tt t → Merges one_set (nested_or i p none) s r t
unfolding nested_or new_nested ◌>>=◌ asks one_set nothing price ◌⊕◌ covers
nested_made i p {r} o d =
    allowed refl (
    follow (λ t. asks (entry_at i) >>= λ e. set_entry i (with_nested t e) >>= λ _. give t) (set_opened PlainAttrset p o) (
    in_other_words refl (follow (λ _. give r) (nested_changed r i d) (given r))))

pub nested_there : (i : ℕ) (p : Pointer) (t : SetId) {s : List ℕ} → some t ≡ nested_in (entry_at i (state_of s)) → (set : SetId) (key : Text) → Merges one_set (nested_static_at set key p (some i)) s t s
unfolding nested_static_at nested_or nested_at one_set nothing price covers
nested_there i p t e set key = allowed refl (questioned (nested_at (some i)) (nested_or i p) (λ o. e) (given t))

pub nested_lacked : (i : ℕ) (p : Pointer) {r : SetId} {s t : List ℕ} → none ≡ nested_in (entry_at i (state_of s)) → Merges one_set (nested_or i p none) s r t → (set : SetId) (key : Text) → Merges one_set (nested_static_at set key p (some i)) s r t
unfolding nested_static_at nested_at
nested_lacked i p e m set key = questioned (nested_at (some i)) (nested_or i p) (λ o. e) m

nested_whole : (set : SetId) (key : Text) (p : Pointer) {r : SetId} {s t : List ℕ} → Merges nested_price (get_or_create_nested_static set key p) s r t → Lowering (suc set) (λ _. 0) nested_price (λ _. get_or_create_nested_static set key p) s r t
nested_whole set key p {s = s} m =
    let adds = nested_adds set key p (state_of s) in
    record { at = λ nodes w. merged_whole (λ h. standing_nested set key p (state_of s) h) adds.sets_more m }

pub nested_new : (set : SetId) (key : Text) (p : Pointer) {r : SetId} {s t : List ℕ} → (InOrder (entries_of s) (order_of s) → none ≡ find set key (state_of s)) → Merges nested_price (nested_static_at set key p none) s r t
    → Lowering (suc set) (λ _. 0) nested_price (λ _. get_or_create_nested_static set key p) s r t
unfolding get_or_create_nested_static
nested_new set key p found m = nested_whole set key p (questioned (find set key) (nested_static_at set key p) found m)

pub nested_again : (set : SetId) (key : Text) (p : Pointer) (i : ℕ) {r : SetId} {s t : List ℕ} → (InOrder (entries_of s) (order_of s) → some i ≡ find set key (state_of s)) → Merges one_set (nested_static_at set key p (some i)) s r t
    → Lowering (suc set) (λ _. 0) nested_price (λ _. get_or_create_nested_static set key p) s r t
unfolding get_or_create_nested_static one_set nested_price price covers
nested_again set key p i found m = nested_whole set key p (allowed refl (questioned (find set key) (nested_static_at set key p) found m))

-- the set that it gives is one of the sets
pub nested_open : {w : List Item} (set : SetId) (key : Text) (p : Pointer) {m : ℕ} {own : Price} {s : List ℕ} {r : SetId} {t : List ℕ} → suc set ≤ length (sets_of s) → Lowerable s → Lowered w m own (get_or_create_nested_static set key p) s r t → suc r ≤ length (sets_of t)
unfolding state_of
nested_open set key p {s = s} {r = r} {t = t} h ready l =
    let a : r ≡ (get_or_create_nested_static set key p (state_of s)).0 = ap (λ x. x.0) l.same in
    let b : length (sets_of t) ≡ length (get_or_create_nested_static set key p (state_of s)).1.sets = ap (λ x. length x.1.sets) l.same in
    omega (arith, nested_given set key p (state_of s) h ready.standing)

-- ---- the set that is nested at a key
pub nested_found : (set : SetId) (key : Text) (i : ℕ) {s : List ℕ} (r : Option SetId) → (InOrder (entries_of s) (order_of s) → some i ≡ find set key (state_of s)) → r ≡ nested_in (entry_at i (state_of s)) → Lowerable s → r ≡ nested_at (find set key (state_of s)) (state_of s)
unfolding nested_at
nested_found set key i r found e ready = rw (← found ready.order) e

pub nested_missed : (set : SetId) (key : Text) {s : List ℕ} → (InOrder (entries_of s) (order_of s) → none ≡ find set key (state_of s)) → Lowerable s → none ≡ nested_at (find set key (state_of s)) (state_of s)
unfolding nested_at
nested_missed set key found ready = rw (← found ready.order) refl
