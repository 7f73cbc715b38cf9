-- `keys::literals::bits_in` meets its contract.
use Rattle.keys.proofs.NumberLaws.{bits_capped}
use Rattle.keys.specs.Literals.{capped}
use Rattle.spec.specs.Sheet.{bits_from}
use Rattle.std.proofs.Common.{◌≡◌, subst, ◌∙◌, arith, rules}
use Rattle.std.proofs.lemmas.Fn.{fold_over, slice_gives, fronts}
use Rattle.keys.proofs.literals.bits_in.Goals as goal

pub returns : goal.returns
unfolding bits_from
returns c =
    subst (λ l. c.fold.result ≡ capped (bits_from 0 l)) (c.iter.ensures.rest ∙ c.text_bytes.ensures.bytes)
    (fold_over fronts (λ y. y.now) _ (λ ys v. v ≡ capped (bits_from 0 ys)) _ (λ ys a x b f' j k. (bits_capped ys x.now a b j (search rules), search rules))
    _ _ _ _ (slice_gives c.iter.result) (omega arith) c.fold.ensures.ran)
