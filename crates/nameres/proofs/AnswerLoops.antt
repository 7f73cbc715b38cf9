-- The answers of all expressions, one after the other. Assumes nothing.
use mathlib.Core.Path.{◌≡◌, refl, sym, ap, ◌∙◌}
use mathlib.Core.List.{List}
use Prim.Native.Nat.{ℕ, zero, suc, ◌≤◌, ◌<◌}
use native.Mathlib.Nat.{zero-add}
use native.Mathlib.Omega.{arith}
use lib.ListN.{length, get_or, set, length-set}
use lib.Seq.{ext_get_or, get_or-set_same, get_or-set_other}
use Rattle.spec.specs.Kept.{tabulate}
use Rattle.spec.proofs.general.Sums.{compared}
use Rattle.spec.proofs.general.ListLaws.{get_d_tabulate, length_tabulate}
use Rattle.nameres.specs.Resolution.{set_to}

length_set_to : {A : Type 0} (f : ℕ → A) (n : ℕ) (xs : List A) → length (set_to f n xs) ≡ length xs
unfolding set_to
length_set_to f zero xs = refl
length_set_to f (suc n) xs = length-set (set_to f n xs) n (f n) ∙ length_set_to f n xs

-- what is not reached yet is as it was
pub get_d_set_to_past : {A : Type 0} (f : ℕ → A) (d : A) (n : ℕ) (xs : List A) (i : ℕ) → n ≤ i → get_or (set_to f n xs) i d ≡ get_or xs i d
unfolding set_to
get_d_set_to_past f d zero xs i h = refl
get_d_set_to_past f d (suc n) xs i h =
    get_or-set_other (set_to f n xs) n i (f n) d (λ e. omega arith) ∙ get_d_set_to_past f d n xs i (omega arith)

get_d_set_to : {A : Type 0} (f : ℕ → A) (d : A) (n : ℕ) (xs : List A) (i : ℕ) → i < n → i < length xs → get_or (set_to f n xs) i d ≡ f i
unfolding set_to
get_d_set_to f d zero xs i h l = absurd (omega arith)
get_d_set_to f d (suc n) xs i h l =
    compared i n
    (λ e. ap (λ k. get_or (set (set_to f n xs) n (f n)) k d) e ∙ get_or-set_same (set_to f n xs) n (f n) d (omega (arith, length_set_to f n xs)) ∙ ap f (sym e))
    (λ e. get_or-set_other (set_to f n xs) n i (f n) d e ∙ get_d_set_to f d n xs i (omega arith) l)

-- all of them set anew are the values of the function
pub set_to_all : {A B : Type 0} (f : ℕ → B) (d : B) (n : ℕ) (xs : List B) (ys : List A) → length xs ≡ n → length ys ≡ n → set_to f n xs ≡ tabulate f 0 ys
set_to_all f d n xs ys hx hy =
    ext_get_or d (set_to f n xs) (tabulate f 0 ys) (length_set_to f n xs ∙ hx ∙ sym hy ∙ sym (length_tabulate f 0 ys)) λ i l.
    get_d_set_to f d n xs i (omega (arith, length_set_to f n xs)) (omega (arith, length_set_to f n xs))
    ∙ sym (get_d_tabulate f d 0 ys i (omega (arith, length_set_to f n xs)) ∙ ap f (zero-add i))
