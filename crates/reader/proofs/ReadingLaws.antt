-- Laws of reading on: where the next line starts, by what the line reader says of the rest of a sheet, and that it
-- starts inside of the sheet. Assumes nothing.
use Rattle.std.specs.Prelude as rust
use mathlib.Core.Path.{◌≡◌, refl, ap, ◌∙◌}
use mathlib.Core.List.{List, []}
use mathlib.Core.Option.{Option, none, some}
use Prim.Native.Nat.{ℕ, ◌+◌, ◌-◌, ◌≤◌, ◌<◌}
use native.Mathlib.Omega.{arith}
use lib.ListN.{length, take, drop, drop_of_length-le}
use borrow.Author.Rules.{part_to_end}
use Rattle.spec.specs.Basics.{Text, maybe}
use Rattle.spec.specs.Sheet.{malformed, Got, got, bad, after, up_to_end}
use Rattle.sheet.specs.Keyed.{line_of}
use Rattle.sheet.specs.Lines.{got_line}
use Rattle.sheet.specs.declared.position.Span.{Span}
use Rattle.sheet.proofs.LineLaws.{line_inside}
use Rattle.reader.specs.Reading.{after_line}

-- where a reader goes on: at the next line, or at the place of the fault
abbrev place_of : Got Text → ℕ
place_of (got v place) = place
place_of (bad w place) = place

module _ (s : List ℕ) (at : ℕ) where
  -- the part of the sheet that the code hands to the line reader
  abbrev rest : List ℕ
  rest = take (length s - at) (drop at s)

  -- the line at the place is the first one of the rest; any line has the empty key
  after_is : at + place_of (line_of [] rest 0) ≡ after_line s at
  unfolding line_of after after_line
  after_is = rw (part_to_end s at) (go (up_to_end (drop at s)))
    where
      go : (o : Option Text) → at + place_of (maybe o (bad malformed 0) (λ v. got v (0 + 0 + length v + 1))) ≡ maybe o at (λ v. at + length v + 1)
      go none = omega arith
      go (some v) = omega arith

  pub after_beyond : length s < at → at ≡ after_line s at
  unfolding after_line up_to_end
  after_beyond h = let k : length s ≤ at = omega arith in rw (drop_of_length-le s)

  module _ (first : ℕ) (f : first ≡ 0) (r : rust.Option Span) (e : got_line rest first r ≡ line_of [] rest first) where
    said : got_line rest 0 r ≡ line_of [] rest 0
    said = rw f at e

    pub after_value : (v : Span) → r ≡ rust.Some v → (next : ℕ) → next ≡ v.end + 1 → at + next ≡ after_line s at
    after_value v q next g =
        let k : got_line rest 0 (rust.Some v) ≡ line_of [] rest 0 = rw q at said in
        ap (λ (n : ℕ). at + n) (g ∙ ap place_of k) ∙ after_is

    pub after_endless : r ≡ rust.None → at ≡ after_line s at
    after_endless q =
        let k : got_line rest 0 rust.None ≡ line_of [] rest 0 = rw q at said in
        let z : at ≡ at + 0 = omega arith in
        z ∙ (ap (λ (n : ℕ). at + n) (ap place_of k) ∙ after_is)

  pub after_inside : at ≤ length s → after_line s at ≤ length s
  unfolding line_of after after_line
  after_inside h = go (up_to_end (drop at s)) (line_inside [] s at)
    where
      go : (o : Option Text) → ((place : ℕ) (v : Text) → maybe o (bad malformed at) (λ v. got v (at + 0 + length v + 1)) ≡ got v place → place ≤ length s)
          → maybe o at (λ v. at + length v + 1) ≤ length s
      go none f = h
      go (some v) f = omega (arith, f (at + 0 + length v + 1) v refl)
