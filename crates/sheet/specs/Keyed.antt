-- The readers of a line with the key as bytes, as the code has it: `line key` computes to `line_of (bytes key)`, and so
-- for the others (proofs/LineLaws.antt, `number_is`).
use Rattle.std.specs.Prelude.{Bool, ◌&&◌, ℕ, ◌+◌, length, drop, leb, if◌then◌else◌}
use Rattle.std.proofs.Math.Option.{Option}
use Rattle.spec.specs.Basics.{Text, maybe}
use Rattle.spec.specs.Sheet.{Fault, malformed, got, bad, Reader, next, after, up_to_end, decimal}

unfoldable pub line_of : Text → Reader Text
line_of key s at =
    maybe (after key (drop at s)) (bad malformed at) (λ rest.
    maybe (up_to_end rest) (bad malformed at) (λ v. got v (at + length key + length v + 1)))

unfoldable pub field_of : {A : Type 0} → Text → (Text → Option A) → Fault → (A → Bool) → Reader A
field_of key parse why test s at =
    next (λ v _ place. maybe (parse v) (bad malformed at) (λ a. if test a then got a place else bad why at)) s (line_of key s at)

unfoldable pub number_of : Text → Fault → ℕ → ℕ → Reader ℕ
number_of key why lo hi = field_of key decimal why (λ v. leb lo v && leb v hi)
