-- `resolve::withs::count_withs` meets its contract.
use Rattle.layout.specs.Keeps.{scopes_in}
use Rattle.resolve.proofs.ChainLaws.{one_comes, none_comes}
use Rattle.resolve.proofs.WithLaws.{few_withs}
use Rattle.resolve.proofs.WithListLaws.{counting_on, counting_done}
use native.Mathlib.Omega.{arith}
use Rattle.resolve.proofs.withs.count_withs.Goals as goal

pub loop-i-preserved : goal.loop-i-preserved
loop-i-preserved c =
    counting_on (scopes_in c.args.store.now).scopes c.loop-i.invariant (one_comes _ _ c.next.ensures.steps c.in-Some.is) _ c.is_with.ensures

pub returns : goal.returns
returns c =
    let e = counting_done (scopes_in c.args.store.now).scopes c.loop-i.invariant (none_comes _ _ c.next.ensures.steps c.in-None.is) in
    (e, omega (arith, e, few_withs c.args.store.now c.args.s.0))
