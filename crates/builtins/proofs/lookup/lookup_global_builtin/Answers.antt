-- `builtins::lookup::lookup_global_builtin` meets its contract.
use Rattle.std.proofs.Common.{rules, Some, None, map}
use Rattle.std.proofs.lemmas.Iterator.{YieldsList-from_slice, IsFirst-from_position}
use Rattle.spec.specs.Basics.{Text}
use Rattle.spec.specs.Answer.{builtins}
use Rattle.builtins.proofs.LookupLaws.{looked, Is, IsNot}
use borrow.Author.Tests.{tests}
use denote.Ref.{Bor}
use mathlib.Core.List.{List}
use mathlib.Core.Path.{refl, ap}
use Rattle.builtins.proofs.lookup.lookup_global_builtin.Goals as goal

pub returns-in_err-i : goal.returns-in_err-i
unfolding builtins
returns-in_err-i c =
    let t = c.args.text.now in
    rw c.from_residual.ensures
    (looked t c.iter.result.rest.now (ap (λ (xs : List (Bor Text)). map (λ name. name.now) xs) c.iter.ensures.rest) None
    (IsFirst-from_position _ _ None (Is t) (IsNot t) c.in_err-i.ensures.ran (YieldsList-from_slice c.iter.result.rest.now refl) (λ x q k. search (rules, tests)) (λ x q k. search (rules, tests))))

pub returns : goal.returns
unfolding builtins
returns c =
    let t = c.args.text.now in
    looked t c.iter.result.rest.now (ap (λ (xs : List (Bor Text)). map (λ name. name.now) xs) c.iter.ensures.rest) (Some c.in_ok-i.i)
    (IsFirst-from_position _ _ (Some c.in_ok-i.i) (Is t) (IsNot t) c.in_ok-i.ensures.ran (YieldsList-from_slice c.iter.result.rest.now refl) (λ x q k. search (rules, tests)) (λ x q k. search (rules, tests)))
