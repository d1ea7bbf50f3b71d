use Rattle.std.proofs.Common.{◌≡◌, ◌<◌, ◌∙◌, List, Option, Some, ap, arith, get_or, length, refl, subst, sym}
use Rattle.std.specs.Prelude.{slice_get}
use Rattle.std.proofs.lemmas.Option.{slice_get-get_or}
use Rattle.profile.specs.declared.rules.Rule.{Rule}
use Rattle.profile.proofs.Walks.{height}
use Rattle.rule_compile.specs.inner.Stands.{AreThoseBehind}
use Rattle.rule_compile.proofs.ThoseLaws.{behind_within, those_down, those_next, those_none, those_turned}
use Rattle.rule_compile.proofs.ranges.rules_for.Goals as goal

pub loop-next-init : goal.loop-next-init
loop-next-init c =
    let rs = c.args.profile.now.rules in
    subst (AreThoseBehind rs c.args.token c.args.number c.latest-next.result) (sym c.new-own.ensures.items)
    (those_none rs c.args.token c.args.number c.latest-next.result c.latest-next.ensures)

pub bounds-rules-place : goal.bounds-rules-place
bounds-rules-place c =
    let rs = c.args.profile.now.rules in
    let within : c.in-Some.place < length rs =
    behind_within rs c.args.token c.args.number c.loop-next.next c.in-Some.place c.loop-next.own.items c.loop-next.invariant c.in-Some.is in
    omega (arith, within, ap length c.rules-rules.ensures.rules)

pub earlier-next-requires : goal.earlier-next-requires
earlier-next-requires c =
    behind_within c.args.profile.now.rules c.args.token c.args.number c.loop-next.next c.in-Some.place c.loop-next.own.items
    c.loop-next.invariant c.in-Some.is

pub loop-next-preserved : goal.loop-next-preserved
loop-next-preserved c =
    let rs = c.args.profile.now.rules in
    let place = c.in-Some.place in
    let x = c.index-rules-place.result in
    let own = c.loop-next.own.items in
    let more = c.earlier-next.result in
    let within = behind_within rs c.args.token c.args.number c.loop-next.next place own c.loop-next.invariant c.in-Some.is in
    let is : x ≡ get_or rs place x = subst (λ (xs : List Rule). x ≡ get_or xs place x) c.rules-rules.ensures.rules c.index-rules-place.is in
    let at : slice_get rs place ≡ Some x = slice_get-get_or rs place x within ∙ ap Some (sym is) in
    let behind : AreThoseBehind rs c.args.token c.args.number (Some place) own =
    subst (λ (o : Option _). AreThoseBehind rs c.args.token c.args.number o own) c.in-Some.is c.loop-next.invariant in
    subst (AreThoseBehind rs c.args.token c.args.number more) (sym c.in_ok-push.ensures.items)
    (those_next rs c.args.token c.args.number place own _ behind at refl more c.earlier-next.ensures)

pub loop-next-smaller : goal.loop-next-smaller
loop-next-smaller c =
    let rs = c.args.profile.now.rules in
    let place = c.in-Some.place in
    let own = c.loop-next.own.items in
    let more = c.earlier-next.result in
    let behind : AreThoseBehind rs c.args.token c.args.number (Some place) own =
    subst (λ (o : Option _). AreThoseBehind rs c.args.token c.args.number o own) c.in-Some.is c.loop-next.invariant in
    subst (λ (o : Option _). height more < height o) (sym c.in-Some.is)
    (those_down rs c.args.token c.args.number place own behind more c.earlier-next.ensures)

pub returns : goal.returns
returns c =
    those_turned c.args.profile.now.rules c.args.token c.args.number c.loop-next.next c.loop-next.own.items c.reverse.new.self.items
    c.in_default.is c.loop-next.invariant c.reverse.ensures.permutation
