use Rattle.std.proofs.Common.{◌≡◌, ◌≤◌, ◌<◌, ◌*◌, List, arith, subst}
use Rattle.std.proofs.lemmas.Bool.{ltb-true}
use Rattle.profile.specs.declared.conditions.Cond.{Cond}
use Rattle.differ.specs.OnCall.{all_rules, most_ways, ways_of, ways_on}
use Rattle.differ.proofs.WaysLaws.{beyond_more, ways_next}
use Rattle.differ.proofs.ways.are_crowded.Goals as goal

pub loop-index-preserved : goal.loop-index-preserved
loop-index-preserved c =
    let conds : List Cond = c.in_ok-conds.conds.items in
    let here : c.ways_on.result ≤ ways_on conds = subst (λ (cs : List Cond). c.ways_on.result ≤ ways_on cs) c.deref.ensures.value c.ways_on.ensures in
    ways_next c.args.first.now c.args.second.now c.args.token c.args.nr c.loop-index.index c.loop-index.ways c.ways_on.result c.saturating_mul-ways.result
    c.args.held.now conds c.requires.first c.requires.second c.in_ok-conds.ensures c.loop-index.invariant here (omega arith)

pub returns : goal.returns
returns c = λ many.
    let all : c.loop-index.index ≡ 6 = omega arith in
    let few : c.loop-index.ways ≤ ways_of c.args.first.now c.args.second.now c.args.token c.args.nr 6 =
    subst (λ k. c.loop-index.ways ≤ ways_of c.args.first.now c.args.second.now c.args.token c.args.nr k) all c.loop-index.invariant in
    let beyond : most_ways < c.saturating_mul-all.result = ltb-true _ _ many in
    let small : c.saturating_mul-all.result ≤ c.loop-index.ways * c.all_rules.result = omega arith in
    beyond_more most_ways c.saturating_mul-all.result c.loop-index.ways c.all_rules.result
    (ways_of c.args.first.now c.args.second.now c.args.token c.args.nr 6) (all_rules c.args.first.now c.args.second.now) beyond small few
    c.all_rules.ensures
