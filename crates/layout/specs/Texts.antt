-- Texts: a text's number is the place in the region of the texts where its length stands, and its bytes follow.
use Rattle.std.specs.Prelude.{Bool, List, [], ℕ, ◌+◌, leb, if◌then◌else◌}
use Rattle.std.proofs.Math.Option.{Option, none, some}
use Rattle.words.specs.Runs.{run}
use Rattle.words.specs.Words.{word}
use Rattle.spec.specs.Basics.{Text}
use Rattle.layout.specs.Layout.{texts_place, texts_at, text_limit}
use Rattle.layout.specs.Rows.{cap}
use Rattle.module.specs.declared.ids.TextId as rust_text_id
use Rattle.std.specs.Prelude as rust

-- how many bytes of the region are in use
unfoldable pub texts_used : List ℕ → ℕ
texts_used s = cap (word s texts_place) text_limit

-- what does not lie within the bytes in use is the empty text
unfoldable pub text_of : List ℕ → ℕ → ℕ → Text
text_of s k n = if leb (k + 4 + n) (texts_used s) then run s (texts_at + k + 4) n else []

unfoldable pub text_in : List ℕ → ℕ → Text
text_in s k = text_of s k (word s (texts_at + k))

-- whether the text with the number k lies within the bytes in use
unfoldable pub text_held : List ℕ → ℕ → Bool
text_held s k = leb (k + 4 + word s (texts_at + k)) (texts_used s)

-- a text that may be absent
unfoldable pub maybe_text : List ℕ → rust.Option rust_text_id.TextId → Option Text
maybe_text s (rust.Some t) = some (text_in s t.0)
maybe_text s rust.None = none
