use Rattle.std.proofs.Common.{refl}
use Rattle.machines.specs.Arch.{token_of}
use Rattle.cert_check.proofs.CallLaws.{goes_down, inside, stands_there}
use Rattle.cert_check.proofs.judging.Agreement.call_says.Goals as goal

pub returns-then-says_alone_at : goal.returns-then-says_alone_at
returns-then-says_alone_at g c =
    let rules = c.args.self.now.profile.now.rules in
    let rule = c.index-rules-place.result in
    let place = c.in-Some.place in
    let stands = stands_there rules c.rules-rules.result.now c.loop-next.next place rule c.rules-rules.ensures.rules c.index-rules-place.is
    c.in-Some.is c.loop-next.invariant in
    let says = c.if-says_alone_at.ensures refl in
    λ _. record { place = place; rule = rule; is_of = record { stands = stands; left = says.left }; is_yes = says.is_yes; word = says.word }

pub loop-next-smaller : goal.loop-next-smaller
loop-next-smaller g c =
    let rules = c.args.self.now.profile.now.rules in
    let rule = c.index-rules-place.result in
    let place = c.in-Some.place in
    let stands = stands_there rules c.rules-rules.result.now c.loop-next.next place rule c.rules-rules.ensures.rules c.index-rules-place.is
    c.in-Some.is c.loop-next.invariant in
    goes_down rules (token_of rule.arch) rule.nr place c.loop-next.next c.earlier-next.result c.in-Some.is (c.earlier-next.ensures rule stands)

pub loop-next-preserved : goal.loop-next-preserved
loop-next-preserved g c =
    let rules = c.args.self.now.profile.now.rules in
    let rule = c.index-rules-place.result in
    let place = c.in-Some.place in
    let stands = stands_there rules c.rules-rules.result.now c.loop-next.next place rule c.rules-rules.ensures.rules c.index-rules-place.is
    c.in-Some.is c.loop-next.invariant in
    inside rules (token_of rule.arch) rule.nr place c.earlier-next.result (c.earlier-next.ensures rule stands)
