-- Laws of a node's reader, one for each way out. Assumes nothing.
use Rattle.std.specs.Prelude.{Some, None, if◌then◌else◌}
use mathlib.Core.Path.{◌≡◌, refl, sym, ap, ◌∙◌}
use mathlib.Core.Bool.{Bool, true, false, ◌&&◌, and-false}
use mathlib.Mathlib.Data.Bool.Basic.{and_elim_right}
use mathlib.Core.List.{List}
use mathlib.Core.Option.{Option}
use Prim.Native.Nat.{ℕ, ◌≤◌, ◌<◌}
use native.Mathlib.Omega.{arith}
use native.Mathlib.Decide.{dec_lt}
use Prim.Native.String.{String}
use lib.ListN.{length}
use lib.Dec.{eqb, leb}
use borrow.Author.Tests.{eq-eqb, ne_eqb, le-leb, lt-leb, leb-true}
use Rattle.spec.specs.Basics.{Text, NodeId, bytes}
use Rattle.spec.specs.Kinds.{kind_of}
use Rattle.spec.specs.Sheet as spec
use Rattle.spec.specs.Sheet.{Fault, Got, got, bad, next, ◌>>=◌, give, wrong_kind, wrong_range, wrong_flag, wrong_kid, wrong_text, line, field, kid_list, all_below, hex, text_fits, node}
use Rattle.module.specs.SyntaxKinds.{number_of_syntax, syntax_of_number}
use Rattle.module.specs.declared.syntax_kind.SyntaxKind.{SyntaxKind}
use Rattle.module.specs.declared.syntax_kind.SyntaxKind.TheVariants.{Root}
use Rattle.module.proofs.SyntaxKindLaws.{syntax_gap, syntax_told, syntax_unlike, syntax_within}
use Rattle.sheet.specs.Keyed.{line_of, field_of, number_of}
use Rattle.sheet.proofs.LineLaws.{number_is, field_inside}
use Rattle.sheet.proofs.VerdictLaws.{tested_bad, tested_right, tested_wrong}

-- ---- where the next line starts
pub number_inside : (key : Text) (why : Fault) (lo hi : ℕ) (s : List ℕ) (at v place : ℕ) → got v place ≡ number_of key why lo hi s at → place ≤ length s
unfolding number_of
number_inside key why lo hi s at v place e = field_inside key spec.decimal why _ s at v place (sym e)

-- ---- the kind
abbrev pub kind_line : ℕ → List ℕ → ℕ → Got ℕ
kind_line i s at = (if eqb i 0 then spec.number "kind=" wrong_kind 21 21 else spec.number "kind=" wrong_kind 1 33) s at

-- the numbers that the node i may have there
abbrev kind_test : ℕ → ℕ → Bool
kind_test i v = if eqb i 0 then leb 21 v && leb v 21 else leb 1 v && leb v 33

few : (i v : ℕ) → kind_test i v ≡ true → (leb 0 v && leb v 4294967295) ≡ true
few i v = go (eqb i 0)
  where
    short : v ≤ 33 → (leb 0 v && leb v 4294967295) ≡ true
    short h = rw (le-leb 0 v (omega arith), le-leb v 4294967295 (omega arith))

    go : (t : Bool) → (if t then leb 21 v && leb v 21 else leb 1 v && leb v 33) ≡ true → (leb 0 v && leb v 4294967295) ≡ true
    go true e = short (omega (arith, leb-true v 21 (and_elim_right (leb 21 v) (leb v 21) e)))
    go false e = short (leb-true v 33 (and_elim_right (leb 1 v) (leb v 33) e))

module _ (i : ℕ) (s : List ℕ) (at : ℕ) where
  kind_as : field_of (bytes "kind=") spec.decimal wrong_kind (kind_test i) s at ≡ kind_line i s at
  unfolding line_of line field_of field spec.number
  kind_as = go (eqb i 0)
    where
      go : (t : Bool) → field_of (bytes "kind=") spec.decimal wrong_kind (λ v. if t then leb 21 v && leb v 21 else leb 1 v && leb v 33) s at
          ≡ (if t then spec.number "kind=" wrong_kind 21 21 else spec.number "kind=" wrong_kind 1 33) s at
      go true = refl
      go false = refl

  pub kind_bad : (w : Fault) (place : ℕ) → bad w place ≡ number_of (bytes "kind=") wrong_kind 0 4294967295 s at → bad w place ≡ kind_line i s at
  unfolding number_of
  kind_bad w place e = tested_bad (bytes "kind=") spec.decimal wrong_kind (kind_test i) _ (few i) s at w place e ∙ kind_as

  module _ (n place : ℕ) (e : got n place ≡ number_of (bytes "kind=") wrong_kind 0 4294967295 s at) where
    wrong : false ≡ kind_test i n → bad wrong_kind at ≡ kind_line i s at
    unfolding number_of
    wrong f = tested_wrong (bytes "kind=") spec.decimal wrong_kind (kind_test i) _ (few i) s at n place e f ∙ kind_as

    right : true ≡ kind_test i n → got n place ≡ kind_line i s at
    unfolding number_of
    right f = tested_right (bytes "kind=") spec.decimal wrong_kind (kind_test i) _ (few i) s at n place e f ∙ kind_as

    -- no kind has the number
    pub kind_none : syntax_of_number n ≡ None → bad wrong_kind at ≡ kind_line i s at
    kind_none z = wrong (go (eqb i 0) (dec_lt 33 n))
      where
        low : (33 < n → ⊥) → n ≡ 0
        low h = grind (arith, syntax_gap n z)

        go : (t : Bool) → Dec (33 < n) → false ≡ (if t then leb 21 n && leb n 21 else leb 1 n && leb n 33)
        go true (yes h) = rw (lt-leb n 21 (omega arith), and-false)
        go false (yes h) = rw (lt-leb n 33 h, and-false)
        go true (no h) = let u : n ≡ 0 = low h in rw u
        go false (no h) = let u : n ≡ 0 = low h in rw u

    module _ (k : SyntaxKind) (z : syntax_of_number n ≡ Some k) where
      told : number_of_syntax k ≡ n
      told = syntax_told n k z

      pub kind_not_root : i ≡ 0 → (k ≡ Root → ⊥) → bad wrong_kind at ≡ kind_line i s at
      unfolding number_of_syntax
      kind_not_root h o =
          let u : n ≡ 21 → ⊥ = λ q. syntax_unlike k Root o (told ∙ q) in
          wrong (rw (eq-eqb i 0 h) (go (dec_lt n 21) u))
        where
          go : Dec (n < 21) → (n ≡ 21 → ⊥) → false ≡ (leb 21 n && leb n 21)
          go (yes l) u = rw (lt-leb 21 n l)
          go (no l) u = rw (lt-leb n 21 (omega (arith, l)), and-false)

      pub kind_root : i ≡ 0 → k ≡ Root → got (number_of_syntax k) place ≡ kind_line i s at
      unfolding number_of_syntax
      kind_root h q =
          let u : n ≡ 21 = sym told ∙ ap number_of_syntax q in
          rw told (right (rw (eq-eqb i 0 h, le-leb 21 n (omega arith), le-leb n 21 (omega arith))))

      pub kind_other : (i ≡ 0 → ⊥) → got (number_of_syntax k) place ≡ kind_line i s at
      kind_other h =
          let w = syntax_within k in
          rw told (right (rw (ne_eqb i 0 h, le-leb 1 n (omega (arith, told)), le-leb n 33 (omega (arith, told)))))

pub kind_inside : (i : ℕ) (s : List ℕ) (at v place : ℕ) → got v place ≡ kind_line i s at → place ≤ length s
unfolding line_of line field_of field number_of spec.number
kind_inside i s at v place e = go (eqb i 0) e
  where
    go : (t : Bool) → got v place ≡ (if t then spec.number "kind=" wrong_kind 21 21 else spec.number "kind=" wrong_kind 1 33) s at → place ≤ length s
    go true f = number_inside (bytes "kind=") wrong_kind 21 21 s at v place f
    go false f = number_inside (bytes "kind=") wrong_kind 1 33 s at v place f

-- ---- the node, line by line: a fault in one is the node's
pub number_by : (key : String) (why : Fault) (lo hi : ℕ) (s : List ℕ) (at : ℕ) (g : Got ℕ) → g ≡ number_of (bytes key) why lo hi s at → spec.number key why lo hi s at ≡ g
number_by key why lo hi s at g e = sym (e ∙ number_is key why lo hi s at)

module _ (nodes i : ℕ) (s : List ℕ) (at : ℕ) where
  pub node_kind : (w : Fault) (place : ℕ) → bad w place ≡ kind_line i s at → bad w place ≡ node nodes i s at
  unfolding node ◌>>=◌ next
  node_kind w place e = sym (rw (← e))

  module _ (kind p₁ : ℕ) (e₁ : got kind p₁ ≡ kind_line i s at) where
    pub node_from : (w : Fault) (place : ℕ) → bad w place ≡ number_of (bytes "from=") wrong_range 0 4294967295 s p₁ → bad w place ≡ node nodes i s at
    unfolding node ◌>>=◌ next
    node_from w place e = let f = number_by "from=" wrong_range 0 4294967295 s p₁ _ e in sym (rw (← e₁, f))

    module _ (from p₂ : ℕ) (e₂ : got from p₂ ≡ number_of (bytes "from=") wrong_range 0 4294967295 s p₁) where
      f₂ : spec.number "from=" wrong_range 0 4294967295 s p₁ ≡ got from p₂
      f₂ = number_by "from=" wrong_range 0 4294967295 s p₁ _ e₂

      pub node_to : (w : Fault) (place : ℕ) → bad w place ≡ number_of (bytes "to=") wrong_range from 4294967295 s p₂ → bad w place ≡ node nodes i s at
      unfolding node ◌>>=◌ next
      node_to w place e = let f = number_by "to=" wrong_range from 4294967295 s p₂ _ e in sym (rw (← e₁, f₂, f))

      module _ (to p₃ : ℕ) (e₃ : got to p₃ ≡ number_of (bytes "to=") wrong_range from 4294967295 s p₂) (flags : ℕ) (z : flags ≡ (kind_of kind).flags) where
        f₃ : spec.number "to=" wrong_range from 4294967295 s p₂ ≡ got to p₃
        f₃ = number_by "to=" wrong_range from 4294967295 s p₂ _ e₃

        flag_by : (g : Got ℕ) → g ≡ number_of (bytes "flag=") wrong_flag 0 flags s p₃ → spec.number "flag=" wrong_flag 0 (kind_of kind).flags s p₃ ≡ g
        flag_by g e = rw (← z) (number_by "flag=" wrong_flag 0 flags s p₃ g e)

        pub node_flag : (w : Fault) (place : ℕ) → bad w place ≡ number_of (bytes "flag=") wrong_flag 0 flags s p₃ → bad w place ≡ node nodes i s at
        unfolding node ◌>>=◌ next
        node_flag w place e = let f = flag_by _ e in sym (rw (← e₁, f₂, f₃, f))

        module _ (flag p₄ : ℕ) (e₄ : got flag p₄ ≡ number_of (bytes "flag=") wrong_flag 0 flags s p₃) where
          pub node_kids : (w : Fault) (place : ℕ) → bad w place ≡ field "kids=" kid_list wrong_kid (all_below nodes) s p₄ → bad w place ≡ node nodes i s at
          unfolding node ◌>>=◌ next
          node_kids w place e = let f₄ = flag_by _ e₄ in sym (rw (← e₁, f₂, f₃, f₄, ← e))

          module _ (kids : List (Option NodeId)) (p₅ : ℕ) (e₅ : got kids p₅ ≡ field "kids=" kid_list wrong_kid (all_below nodes) s p₄) where
            pub node_text : (w : Fault) (place : ℕ) → bad w place ≡ field "text=" hex wrong_text (text_fits (kind_of kind).text flag) s p₅ → bad w place ≡ node nodes i s at
            unfolding node ◌>>=◌ next
            node_text w place e = let f₄ = flag_by _ e₄ in sym (rw (← e₁, f₂, f₃, f₄, ← e₅, ← e))

            pub node_read : (text : Text) (p₆ : ℕ) → got text p₆ ≡ field "text=" hex wrong_text (text_fits (kind_of kind).text flag) s p₅
                → got (record { kind = kind; from = from; to = to; flag = flag; kids = kids; text = text }) p₆ ≡ node nodes i s at
            unfolding node ◌>>=◌ next give
            node_read text p₆ e = let f₄ = flag_by _ e₄ in sym (rw (← e₁, f₂, f₃, f₄, ← e₅, ← e))
