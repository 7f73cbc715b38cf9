-- What a verdict makes of a line is what the field's reader gives. Assumes nothing.
use Rattle.std.specs.Prelude as rust
use Rattle.std.specs.Prelude.{if◌then◌else◌}
use mathlib.Core.Path.{◌≡◌, refl, sym, ap, ◌∙◌}
use mathlib.Core.Bool.{Bool, true, false}
use mathlib.Core.List.{List}
use mathlib.Core.Option.{Option, none, some, map}
use Prim.Native.Nat.{ℕ, ◌+◌, ◌≤◌, ◌<◌}
use native.Mathlib.Omega.{arith}
use lib.ListN.{length}
use Rattle.spec.specs.Basics.{Text, maybe}
use Rattle.spec.specs.Sheet.{Fault, malformed, Got, got, bad, next}
use Rattle.sheet.specs.Keyed.{line_of, field_of}
use Rattle.sheet.specs.Lines.{span_of, got_line}
use Rattle.sheet.specs.Verdicts.{verdict_of, Formed}
use Rattle.sheet.specs.declared.faults.Malformed.{Malformed}
use Rattle.sheet.specs.declared.position.Span.{Span}
use Rattle.sheet.proofs.LineLaws.{field_other, field_malformed, field_wrong, field_right}

-- `get` gives what `parse` does, where it gives something
module _ {A : Type 0} (key : Text) (parse : Text → Option A) (get : Text → A) (agree : (v : Text) (a : A) → parse v ≡ some a → a ≡ get v)
    (why : Fault) (test : A → Bool) (s : List ℕ) (at : ℕ) (l : rust.Option Span) (e : got_line s at l ≡ line_of key s at) where
  pub told_other : l ≡ rust.None → bad malformed at ≡ field_of key parse why test s at
  told_other q =
      let f : bad malformed at ≡ line_of key s at = rw q at e in
      sym (field_other key parse why test s at _ _ (sym f))

  module _ (v : Span) (q : l ≡ rust.Some v) (x : rust.Result Bool Malformed) (j : verdict_of x ≡ map test (parse (span_of s v))) where
    here : line_of key s at ≡ got (span_of s v) (v.end + 1)
    here = sym (rw q at e)

    pub told_malformed : (m : Malformed) → x ≡ rust.Err m → bad malformed at ≡ field_of key parse why test s at
    told_malformed m p = go (parse (span_of s v)) refl (rw p at j)
      where
        go : (o : Option A) → parse (span_of s v) ≡ o → none ≡ map test o → bad malformed at ≡ field_of key parse why test s at
        go none f g = sym (field_malformed key parse why test s at _ _ here f)
        go (some a) f g = let y : ◌≡◌ {A = ℕ} 0 1 = cc in absurd (omega arith)

    pub told_wrong : x ≡ rust.Ok false → bad why at ≡ field_of key parse why test s at
    told_wrong p = go (parse (span_of s v)) refl (rw p at j)
      where
        go : (o : Option A) → parse (span_of s v) ≡ o → some false ≡ map test o → bad why at ≡ field_of key parse why test s at
        go none f g = let y : ◌≡◌ {A = ℕ} 0 1 = cc in absurd (omega arith)
        go (some a) f g = let t : false ≡ test a = cc in sym (field_wrong key parse why test s at _ _ here a f (sym t))

    pub told_right : (v.start ≤ v.end) × (v.end < length s) → x ≡ rust.Ok true → (got (get (span_of s v)) (v.end + 1) ≡ field_of key parse why test s at) × Formed parse get test s v
    told_right o p = go (parse (span_of s v)) refl (rw p at j)
      where
        go : (o : Option A) → parse (span_of s v) ≡ o → some true ≡ map test o → (got (get (span_of s v)) (v.end + 1) ≡ field_of key parse why test s at) × Formed parse get test s v
        go none f g = let y : ◌≡◌ {A = ℕ} 0 1 = cc in absurd (omega arith)
        go (some a) f g =
            let t : true ≡ test a = cc in
            let b : a ≡ get (span_of s v) = agree (span_of s v) a f in (
              ap (λ (x : A). got x (v.end + 1)) (sym b) ∙ sym (field_right key parse why test s at _ _ here a f (sym t)),
              record { ordered = o.0; within = o.1; formed = f ∙ ap some b; fits = rw b at (sym t) },
            )

-- ---- a field by one that takes more values
abbrev tested : {A : Type 0} → Fault → (A → Bool) → ℕ → Got A → Got A
tested why test at (got a place) = if test a then got a place else bad why at
tested why test at (bad w place) = bad w place

module _ {A : Type 0} (key : Text) (parse : Text → Option A) (why : Fault) (test wide : A → Bool) (within : (a : A) → test a ≡ true → wide a ≡ true)
    (s : List ℕ) (at : ℕ) where
  field_tested : field_of key parse why test s at ≡ tested why test at (field_of key parse why wide s at)
  unfolding field_of next
  field_tested = go (line_of key s at)
    where
      one : (a : A) (place : ℕ) (x y : Bool) → test a ≡ x → wide a ≡ y
          → ◌≡◌ {A = Got A} (if test a then got a place else bad why at) (tested why test at (if wide a then got a place else bad why at))
      one a place x true e f = rw f
      one a place true false e f = let y : false ≡ true = sym f ∙ within a e in let z : ◌≡◌ {A = ℕ} 0 1 = cc in absurd (omega arith)
      one a place false false e f = rw (e, f)

      parsed : (o : Option A) (place : ℕ) → ◌≡◌ {A = Got A} (maybe o (bad malformed at) (λ a. if test a then got a place else bad why at))
          (tested why test at (maybe o (bad malformed at) (λ a. if wide a then got a place else bad why at)))
      parsed none place = refl
      parsed (some a) place = one a place (test a) (wide a) refl refl

      go : (g : Got Text) → next (λ v _ place. maybe (parse v) (bad malformed at) (λ a. if test a then got a place else bad why at)) s g
          ≡ tested why test at (next (λ v _ place. maybe (parse v) (bad malformed at) (λ a. if wide a then got a place else bad why at)) s g)
      go (got v place) = parsed (parse v) place
      go (bad w place) = refl

  pub tested_bad : (w : Fault) (place : ℕ) → bad w place ≡ field_of key parse why wide s at → bad w place ≡ field_of key parse why test s at
  tested_bad w place e = sym (field_tested ∙ ap (tested why test at) (sym e))

  pub tested_right : (a : A) (place : ℕ) → got a place ≡ field_of key parse why wide s at → true ≡ test a → got a place ≡ field_of key parse why test s at
  tested_right a place e f = sym (field_tested ∙ ap (tested why test at) (sym e) ∙ rw (← f))

  pub tested_wrong : (a : A) (place : ℕ) → got a place ≡ field_of key parse why wide s at → false ≡ test a → bad why at ≡ field_of key parse why test s at
  tested_wrong a place e f = sym (field_tested ∙ ap (tested why test at) (sym e) ∙ rw (← f))
