-- Reading never leaves the sheet: the next line begins, and a wrong line begins, at a byte of the sheet or at its end.
-- Assumes nothing.
use Rattle.std.specs.Prelude.{if◌then◌else◌}
use mathlib.Core.Path.{◌≡◌, refl, ap}
use mathlib.Core.Bool.{Bool, true, false, ◌&&◌}
use mathlib.Core.List.{List, [], ◌∷◌}
use mathlib.Core.Option.{Option, none, some, map}
use Prim.Native.Nat.{ℕ, zero, suc, ◌+◌, ◌≤◌, ◌<◌}
use Prim.Native.String.{String}
use native.Mathlib.Omega.{arith}
use lib.ListN.{length, drop, length-drop}
use lib.Dec.{eqb, leb}
use Rattle.spec.specs.Basics.{Text, bytes, maybe}
use Rattle.spec.specs.Sheet.{Fault, malformed, wrong_count, wrong_kind, wrong_range, wrong_flag, wrong_kid, wrong_text, Got, got, bad, Reader, next, ◌>>=◌, give, after, up_to_end, line, field, decimal, number, kid_list, all_below, hex, text_fits, node, nodes_from, node_list}
use Rattle.spec.specs.Kinds.{kind_of}

-- ---- how many bytes a line takes
pub after_rest : (key l rest : List ℕ) → after key l ≡ some rest → length key + length rest ≡ length l
unfolding after
after_rest [] l rest e = let f : l ≡ rest = cc in omega (arith, ap length f)
after_rest (k ∷ ks) [] rest e = let z : ◌≡◌ {A = ℕ} 0 1 = cc in absurd (omega arith)
after_rest (k ∷ ks) (c ∷ l) rest e = go (eqb c k) (after_rest ks l rest) e
  where
    go : (t : Bool) → (after ks l ≡ some rest → length ks + length rest ≡ length l) → (if t then after ks l else none) ≡ some rest
        → suc (length ks) + length rest ≡ suc (length l)
    go true f q = let g = f q in omega arith
    go false f q = let z : ◌≡◌ {A = ℕ} 0 1 = cc in absurd (omega arith)

pub end_inside : (l v : List ℕ) → up_to_end l ≡ some v → length v < length l
unfolding up_to_end
end_inside [] v e = let z : ◌≡◌ {A = ℕ} 0 1 = cc in absurd (omega arith)
end_inside (c ∷ l) v e = go (eqb c 10) (up_to_end l) (end_inside l) e
  where
    go : (t : Bool) (o : Option Text) → ((w : List ℕ) → o ≡ some w → length w < length l)
        → elim t [ true ↦ some [] | false ↦ map (λ v. c ∷ v) o ] ≡ some v → length v < suc (length l)
    go true o f q = let g : [] ≡ v = cc in omega (arith, ap length g)
    go false none f q = let z : ◌≡◌ {A = ℕ} 0 1 = cc in absurd (omega arith)
    go false (some w) f q = let g : c ∷ w ≡ v = cc in omega (arith, ap length g, f w refl)

-- ---- a reader stays inside
unfoldable pub Inside : {A : Type 0} → List ℕ → Got A → Type 0
Inside s (got a at) = at ≤ length s
Inside s (bad w at) = at ≤ length s

then_inside : {A B : Type 0} (f : A → Reader B) (s : List ℕ) (g : Got A) → Inside s g → ((a : A) (at : ℕ) → at ≤ length s → Inside s (f a s at)) → Inside s (next f s g)
unfolding next Inside
then_inside f s (got a at) h k = k a at h
then_inside f s (bad w at) h k = h

give_inside : {A : Type 0} (a : A) (s : List ℕ) (at : ℕ) → at ≤ length s → Inside s (give a s at)
unfolding give Inside
give_inside a s at h = h

line_inside : (key : String) (s : List ℕ) (at : ℕ) → at ≤ length s → Inside s (line key s at)
unfolding line Inside
line_inside key s at h = by_key (after (bytes key) (drop at s)) refl
  where
    by_end : (rest : List ℕ) → after (bytes key) (drop at s) ≡ some rest → (o : Option Text) → up_to_end rest ≡ o
        → Inside s (maybe o (bad malformed at) (λ v. got v (at + length (bytes key) + length v + 1)))
    by_end rest p none q = h
    by_end rest p (some v) q = omega (arith, h, after_rest (bytes key) (drop at s) rest p, end_inside rest v q, length-drop at s)

    by_key : (o : Option (List ℕ)) → after (bytes key) (drop at s) ≡ o
        → Inside s (maybe o (bad malformed at) (λ rest. maybe (up_to_end rest) (bad malformed at) (λ v. got v (at + length (bytes key) + length v + 1))))
    by_key none p = h
    by_key (some rest) p = by_end rest p (up_to_end rest) refl

field_inside : {A : Type 0} (key : String) (parse : Text → Option A) (why : Fault) (test : A → Bool) (s : List ℕ) (at : ℕ) → at ≤ length s → Inside s (field key parse why test s at)
unfolding field Inside
field_inside {A} key parse why test s at h = then_inside _ s (line key s at) (line_inside key s at h) (λ v place k. parsed (parse v) place k)
  where
    tested : (t : Bool) (a : A) (place : ℕ) → place ≤ length s → Inside s (if t then got a place else bad why at)
    tested true a place k = k
    tested false a place k = h

    parsed : (o : Option A) (place : ℕ) → place ≤ length s → Inside s (maybe o (bad malformed at) (λ a. if test a then got a place else bad why at))
    parsed none place k = h
    parsed (some a) place k = tested (test a) a place k

number_inside : (key : String) (why : Fault) (lo hi : ℕ) (s : List ℕ) (at : ℕ) → at ≤ length s → Inside s (number key why lo hi s at)
unfolding number
number_inside key why lo hi s at h = field_inside key decimal why (λ v. leb lo v && leb v hi) s at h

node_inside : (nodes i : ℕ) (s : List ℕ) (at : ℕ) → at ≤ length s → Inside s (node nodes i s at)
unfolding node ◌>>=◌
node_inside nodes i s at h =
    then_inside _ s _ (kind (eqb i 0)) (λ kind at₁ h₁.
    then_inside _ s _ (number_inside "from=" wrong_range 0 4294967295 s at₁ h₁) (λ from at₂ h₂.
    then_inside _ s _ (number_inside "to=" wrong_range from 4294967295 s at₂ h₂) (λ to at₃ h₃.
    then_inside _ s _ (number_inside "flag=" wrong_flag 0 (kind_of kind).flags s at₃ h₃) (λ flag at₄ h₄.
    then_inside _ s _ (field_inside "kids=" kid_list wrong_kid (all_below nodes) s at₄ h₄) (λ kids at₅ h₅.
    then_inside _ s _ (field_inside "text=" hex wrong_text (text_fits (kind_of kind).text flag) s at₅ h₅) (λ text at₆ h₆.
    give_inside _ s at₆ h₆))))))
  where
    kind : (t : Bool) → Inside s ((if t then number "kind=" wrong_kind 21 21 else number "kind=" wrong_kind 1 33) s at)
    kind true = number_inside "kind=" wrong_kind 21 21 s at h
    kind false = number_inside "kind=" wrong_kind 1 33 s at h

nodes_inside : (left nodes i : ℕ) (s : List ℕ) (at : ℕ) → at ≤ length s → Inside s (nodes_from left nodes i s at)
unfolding nodes_from ◌>>=◌
nodes_inside zero nodes i s at h = give_inside [] s at h
nodes_inside (suc left) nodes i s at h =
    then_inside _ s _ (node_inside nodes i s at h) (λ n at₁ h₁.
    then_inside _ s _ (nodes_inside left nodes (i + 1) s at₁ h₁) (λ ns at₂ h₂. give_inside (n ∷ ns) s at₂ h₂))

-- LAW. All nodes of a sheet are read inside it, and a line that is refused begins inside it.
pub list_inside : (s : List ℕ) → Inside s (node_list s 0)
unfolding node_list ◌>>=◌
list_inside s =
    then_inside _ s _ (number_inside "nodes=" wrong_count 1 4096 s 0 (omega arith)) (λ nodes at h. nodes_inside nodes nodes 0 s at h)
