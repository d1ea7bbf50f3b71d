use Rattle.std.proofs.Common.{[], refl, sym, ap}
use Rattle.cert_form.specs.Views.{claims_from, says}
use Rattle.cert_check.specs.Rules.{known_on}
use Rattle.cert_check.specs.inner.Followed.{FollowsBy}
use Rattle.cert_check.specs.inner.Ways.{edge_of}
use Rattle.cert_check.proofs.SharedLaws.{all_follow, all_left, rest_follow}
use Rattle.cert_check.proofs.passage.Passage.chain_follows.Goals as goal

pub returns-then-from-shared : goal.returns-then-from-shared
returns-then-from-shared c =
    let policy = c.args.self.now.profile.now in
    let node = c.args.self.now.node.now in
    let there = c.args.self.now.there.now in
    let e = edge_of c.args.self.now.way.now in
    let known = known_on (says node) e in
    let from = c.after_fact-from.result in
    let shared = c.shared-shared.result in
    let left = ap (claims_from there) (sym c.if-from-shared.true) in (
      λ _. all_follow policy node there e from shared shared c.args.self.now.same c.requires c.shared-shared.ensures c.after_fact-from.ensures.facts
          (all_left (FollowsBy policy [] [] known) _ _ left)
          (all_left (FollowsBy policy (says node).out (says node).met known) _ _ refl),
      λ _. refl,
    )

pub returns-in-None : goal.returns-in-None
returns-in-None c =
    let policy = c.args.self.now.profile.now in
    let node = c.args.self.now.node.now in
    let there = c.args.self.now.there.now in
    let e = edge_of c.args.self.now.way.now in
    let known = known_on (says node) e in
    let from = c.after_fact-from.result in
    let shared = c.shared-shared.result in
    let shows = simp (c.none-outs.ensures, c.none-mets.ensures, c.of-facts.ensures) at c.in-None.ensures in (
      λ _. all_follow policy node there e from shared shared c.args.self.now.same c.requires c.shared-shared.ensures c.after_fact-from.ensures.facts
          shows (all_left (FollowsBy policy (says node).out (says node).met known) _ _ refl),
      λ _. refl,
    )

pub returns-in-Some : goal.returns-in-Some
returns-in-Some c =
    let policy = c.args.self.now.profile.now in
    let node = c.args.self.now.node.now in
    let there = c.args.self.now.there.now in
    let e = edge_of c.args.self.now.way.now in
    let from = c.after_fact-from.result in
    let first = c.in-Some.first in
    let shared = c.shared-shared.result in
    let stops = simp (c.none-outs.ensures, c.none-mets.ensures, c.of-facts.ensures) at c.in-Some.ensures in
    let told = simp c.of-facts.ensures at c.rest_follows-in-Some.ensures in (
      λ t. all_follow policy node there e from first shared c.args.self.now.same c.requires c.shared-shared.ensures c.after_fact-from.ensures.facts
          stops.0 (told.0 t),
      λ h. told.1 (rest_follow policy node there e from first c.requires c.after_fact-from.ensures.last stops.1 h),
    )

pub returns-then-not-self : goal.returns-then-not-self
returns-then-not-self c =
    let policy = c.args.self.now.profile.now in
    let node = c.args.self.now.node.now in
    let there = c.args.self.now.there.now in
    let e = edge_of c.args.self.now.way.now in
    let known = known_on (says node) e in
    let from = c.after_fact-from.result in
    let shared = c.shared-shared.result in
    let told = simp c.of-facts.ensures at c.rest_follows.ensures in (
      λ t. all_follow policy node there e from from shared c.args.self.now.same c.requires c.shared-shared.ensures c.after_fact-from.ensures.facts
          (all_left (FollowsBy policy [] [] known) _ _ refl) (told.0 t),
      λ h. told.1 (rest_follow policy node there e from from c.requires c.after_fact-from.ensures.last ([], refl) h),
    )
