use Rattle.std.proofs.Common.{◌≡◌, true, false, length, refl, subst}
use Rattle.machines.specs.Arch.{token_of}
use Rattle.profile.specs.Latest.{IsLatest}
use Rattle.cert_check.proofs.CallLaws.{earlier_for, goes_down, inside, stands_there}
use Rattle.cert_check.proofs.SeveralLaws.{goes_on, has_begun, next_is_for, none_says}
use Rattle.cert_check.proofs.several.is_said_of.Goals as goal

pub loop-next-init : goal.loop-next-init
loop-next-init c =
    let rules = c.args.profile.now.rules in
    let nr = c.args.nr in
    let latest = subst (λ t. IsLatest rules t nr (length rules) c.latest-next.result) c.token.ensures c.latest-next.ensures in
    record {
      inside = inside rules (token_of c.args.arch) nr (length rules) c.latest-next.result latest;
      walk = has_begun c.args.word (token_of c.args.arch) nr rules c.latest-next.result latest;
    }

pub returns-then-says_alone : goal.returns-then-says_alone
returns-then-says_alone c =
    let rules = c.args.profile.now.rules in
    let rule = c.index-rules-place.result in
    let place = c.in-Some.place in
    let so = c.loop-next.invariant in
    let stands = stands_there rules c.rules-rules.result.now c.loop-next.next place rule c.rules-rules.ensures.rules c.index-rules-place.is
    c.in-Some.is so.inside in
    let its = next_is_for c.args.word (token_of c.args.arch) c.args.nr rules c.loop-next.next place rule c.in-Some.is so.walk stands in (
      λ _. record { place = place; rule = rule; stands = stands; is_for = its; says = c.if-says_alone.ensures.0 refl },
      λ _. refl,
    )

pub loop-next-smaller : goal.loop-next-smaller
loop-next-smaller c =
    let rules = c.args.profile.now.rules in
    let rule = c.index-rules-place.result in
    let place = c.in-Some.place in
    let so = c.loop-next.invariant in
    let stands = stands_there rules c.rules-rules.result.now c.loop-next.next place rule c.rules-rules.ensures.rules c.index-rules-place.is
    c.in-Some.is so.inside in
    goes_down rules (token_of rule.arch) rule.nr place c.loop-next.next c.earlier-next.result c.in-Some.is (c.earlier-next.ensures rule stands)

pub loop-next-preserved : goal.loop-next-preserved
loop-next-preserved c =
    let rules = c.args.profile.now.rules in
    let token = token_of c.args.arch in
    let nr = c.args.nr in
    let rule = c.index-rules-place.result in
    let place = c.in-Some.place in
    let more = c.earlier-next.result in
    let so = c.loop-next.invariant in
    let stands = stands_there rules c.rules-rules.result.now c.loop-next.next place rule c.rules-rules.ensures.rules c.index-rules-place.is
    c.in-Some.is so.inside in
    let its = next_is_for c.args.word token nr rules c.loop-next.next place rule c.in-Some.is so.walk stands in
    let latest = earlier_for rules token nr place rule more its (c.earlier-next.ensures rule stands) in
    record {
      inside = inside rules token nr place more latest;
      walk = goes_on c.args.word token nr rules c.loop-next.next more place rule c.in-Some.is so.walk stands
          (λ says. let e : false ≡ true = c.if-says_alone.ensures.1 says in cc) latest;
    }

pub returns : goal.returns
returns c = (
  λ t. let e : false ≡ true = t in cc,
  λ said. absurd (none_says c.args.word (token_of c.args.arch) c.args.nr c.args.profile.now.rules c.loop-next.next c.in_default.is
      c.loop-next.invariant.walk said.place said.rule said.stands said.is_for said.says),
)
