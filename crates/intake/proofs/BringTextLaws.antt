-- A text: its length, and its bytes after that. Assumes nothing.
use mathlib.Core.Path.{◌≡◌, refl, ap, ◌∙◌}
use mathlib.Core.List.{List}
use Prim.Native.Nat.{ℕ, ◌+◌, ◌/◌, ◌≤◌, ◌<◌}
use native.Mathlib.Omega.{arith}
use lib.ListN.{length}
use Rattle.words.specs.Runs.{run, splice}
use Rattle.words.specs.Words.{word, set_word}
use Rattle.words.proofs.RunLaws.{run_splice_same}
use Rattle.words.proofs.WordLaws.{word_set_word_same}
use Rattle.sheet.specs.Texts.{decoded}
use Rattle.sheet.proofs.TextLaws.{length_decoded}
use Rattle.layout.specs.Layout.{sheet_text_limit, texts_at, Long}
use Rattle.spec.specs.Basics.{Text}
use Rattle.intake.specs.Bring.{Within, text_from, TextBrought, TextOver}
use Rattle.intake.proofs.WithinLaws.{within_put, within_splice, within_wide, within_then, word_before}

module _ (v : Text) where
  size : length (text_from v) ≡ length v / 2
  unfolding text_from
  size = length_decoded v

  module _ (t : List ℕ) (first n : ℕ) (e : n ≡ length v / 2) where
    pub text_over : sheet_text_limit < first + 4 + n → TextOver v t t first
    text_over k = record { over = omega (arith, size); wrote = refl }

    module _ (long : Long t) (room : first + 4 + n ≤ sheet_text_limit) (t₁ t₂ : List ℕ) (p : t₁ ≡ set_word t (texts_at + first) n)
        (q : t₂ ≡ splice t₁ (texts_at + first + 4) (decoded v)) where
      counted : first + 4 + n ≡ first + 4 + length (text_from v)
      counted = omega (arith, size)

      put : Within t t₁ (texts_at + first) (texts_at + first + 4)
      put = rw p (within_put t (texts_at + first) n)

      pasted : Within t₁ t₂ (texts_at + first + 4) (texts_at + first + 4 + length (text_from v))
      unfolding text_from
      pasted = rw q (within_splice t₁ (texts_at + first + 4) (decoded v))

      its_size : word t₂ (texts_at + first) ≡ length (text_from v)
      its_size =
          word_before pasted (texts_at + first) (omega arith) ∙ ap (λ (x : List ℕ). word x (texts_at + first)) p
          ∙ word_set_word_same t (texts_at + first) n (omega arith) (omega arith) ∙ omega (arith, size)

      its_bytes : run t₂ (texts_at + first + 4) (length (text_from v)) ≡ text_from v
      unfolding text_from
      its_bytes =
          ap (λ (x : List ℕ). run x (texts_at + first + 4) (length (text_from v))) q
          ∙ run_splice_same t₁ (texts_at + first + 4) (decoded v) (omega (arith, size, put.long))

      pub text_brought : TextBrought v t t₂ first (first + 4 + n)
      text_brought =
          record {
            count = counted;
            room = room;
            wrote =
                within_then (within_wide (texts_at + first) (texts_at + (first + 4 + n)) put (omega arith) (omega arith))
                (within_wide (texts_at + first) (texts_at + (first + 4 + n)) pasted (omega arith) (omega (arith, counted)));
            size = its_size;
            same = its_bytes;
          }
