-- Laws of a line with a number, one for each way out. Assumes nothing.
use Rattle.std.specs.Prelude as rust
use mathlib.Core.Path.{◌≡◌, refl, sym}
use mathlib.Core.Bool.{true, false, ◌&&◌, and-false}
use mathlib.Core.List.{List}
use mathlib.Core.Option.{Option, none, some, map}
use Prim.Native.Nat.{ℕ, ◌+◌, ◌-◌, ◌≤◌, ◌<◌}
use native.Mathlib.Omega.{arith}
use lib.Dec.{leb}
use borrow.Author.Tests.{le-leb, lt-leb}
use Rattle.words.specs.Runs.{run}
use Rattle.spec.specs.Basics.{Text}
use Rattle.spec.specs.Sheet.{Fault, malformed, got, bad, decimal}
use Rattle.sheet.specs.Keyed.{line_of, field_of, number_of}
use Rattle.sheet.specs.Decimals.{capped, got_decimal}
use Rattle.sheet.specs.Lines.{got_line}
use Rattle.sheet.specs.declared.position.Span.{Span}
use Rattle.sheet.proofs.LineLaws.{field_other, field_malformed, field_wrong, field_right}
use Rattle.sheet.proofs.DecimalLaws.{exact, spelled_none}

module _ (key : Text) (why : Fault) (lo hi : ℕ) (s : List ℕ) (at : ℕ) (line : rust.Option Span) (e : got_line s at line ≡ line_of key s at) where
  pub number_other : line ≡ rust.None → bad malformed at ≡ number_of key why lo hi s at
  unfolding number_of
  number_other q = let f : bad malformed at ≡ line_of key s at = rw q at e in sym (field_other key decimal why _ s at _ _ (sym f))

  module _ (v : Span) (q : line ≡ rust.Some v) (n : rust.Option ℕ) (d : got_decimal n ≡ map capped (decimal (run s v.start (v.end - v.start)))) where
    here : line_of key s at ≡ got (run s v.start (v.end - v.start)) (v.end + 1)
    here = sym (rw q at e)

    pub number_malformed : n ≡ rust.None → bad malformed at ≡ number_of key why lo hi s at
    unfolding number_of
    number_malformed p =
        let f : none ≡ map capped (decimal (run s v.start (v.end - v.start))) = rw p at d in
        sym (field_malformed key decimal why _ s at _ _ here (spelled_none _ f))

    module _ (x : ℕ) (p : n ≡ rust.Some x) where
      told : some x ≡ map capped (decimal (run s v.start (v.end - v.start)))
      told = rw p at d

      pub number_low : lo ≤ 4294967295 → x < lo → bad why at ≡ number_of key why lo hi s at
      unfolding number_of
      number_low l h =
          let t : (leb lo x && leb x hi) ≡ false = rw (lt-leb lo x h) in
          sym (field_wrong key decimal why _ s at _ _ here x (exact _ x told (omega arith)) t)

      pub number_right : hi ≤ 4294967295 → lo ≤ x → x ≤ hi → (after : ℕ) → after ≡ v.end + 1 → got x after ≡ number_of key why lo hi s at
      unfolding number_of
      number_right l h k after z =
          let t : (leb lo x && leb x hi) ≡ true = rw (le-leb lo x h, le-leb x hi k) in
          rw z (sym (field_right key decimal why _ s at _ _ here x (exact _ x told (omega arith)) t))

      pub number_high : hi ≤ 4294967295 → hi < x → bad why at ≡ number_of key why lo hi s at
      unfolding number_of
      number_high l h = go (decimal (run s v.start (v.end - v.start))) refl told
        where
          go : (o : Option ℕ) → decimal (run s v.start (v.end - v.start)) ≡ o → some x ≡ map capped o
              → bad why at ≡ field_of key decimal why (λ v. leb lo v && leb v hi) s at
          go none f g = let z : ◌≡◌ {A = ℕ} 0 1 = cc in absurd (omega arith)
          go (some w) f g =
              let c : x ≡ capped w = cc in
              let u : hi < w = omega arith in
              let t : (leb lo w && leb w hi) ≡ false = rw (lt-leb w hi u, and-false) in
              sym (field_wrong key decimal why _ s at _ _ here w f t)
