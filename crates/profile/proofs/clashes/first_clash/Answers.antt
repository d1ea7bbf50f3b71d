use Rattle.std.proofs.Common.{◌≡◌, true, false, subst, arith}
use Rattle.std.proofs.lemmas.List.{take_all}
use Rattle.profile.specs.Policy.{IsClear}
use Rattle.profile.proofs.ClearLaws.{first_clash_found, clear_next, clear_still}
use Rattle.profile.proofs.clashes.first_clash.Goals as goal

pub returns-in-Some-clause-some : goal.returns-in-Some-clause-some
returns-in-Some-clause-some c =
    first_clash_found c.args.rules.now _ c.in-Some.first c.loop-second.second c.index-rules-second.result (grind arith)
    c.loop-second-test.true
    c.index-rules-second.is c.in-Some.ensures.within c.in-Some.ensures.some c.in-Some.ensures.least c.loop-second.invariant

pub loop-second-preserved-then-not-clashes_before : goal.loop-second-preserved-then-not-clashes_before
loop-second-preserved-then-not-clashes_before c =
    clear_still c.args.rules.now c.loop-second.second c.loop-second-test.true c.loop-second.invariant
    (λ some.
    let found : c.clashes_before.result ≡ true = c.clashes_before.ensures.1 some in
    let missed : c.clashes_before.result ≡ false = c.if-not-clashes_before.true in
    cc)

pub loop-second-preserved : goal.loop-second-preserved
loop-second-preserved c =
    clear_next c.args.rules.now _ c.loop-second.second c.index-rules-second.result (grind arith) c.loop-second-test.true
    c.index-rules-second.is c.loop-second.invariant c.in_default.ensures.none

pub returns-clause-none : goal.returns-clause-none
returns-clause-none c = subst IsClear (take_all c.loop-second.second c.args.rules.now c.loop-second-test.false) c.loop-second.invariant
