use Rattle.std.proofs.Common.{◌≡◌, [], true, false, refl, subst, sym, ◌∙◌}
use Rattle.std.specs.Prelude.{All}
use Rattle.std.proofs.lemmas.List.Elements.{All-head}
use Rattle.cert_check.specs.inner.Claimed.{mets_of, outs_of}
use Rattle.cert_check.specs.inner.Followed.{FollowsBy}
use Rattle.cert_check.proofs.SharedLaws.{all_left, last_again, last_so, none_left, one_more}
use Rattle.cert_check.proofs.claims.shared.first_open.Goals as goal

pub loop-at-init : goal.loop-at-init
loop-at-init g c =
    let P = FollowsBy c.args.profile.now (outs_of c.args.outs.now.node) (mets_of c.args.mets.now.node) (g.S.State.known c.args.facts.now.state.now) in
    (all_left P _ _ refl, ([], refl))

pub returns-in_default : goal.returns-in_default
returns-in_default g c =
    let P = FollowsBy c.args.profile.now (outs_of c.args.outs.now.node) (mets_of c.args.mets.now.node) (g.S.State.known c.args.facts.now.state.now) in
    none_left P _ _ _ c.in_default.ensures c.loop-at.invariant.0

pub returns-then-not-so : goal.returns-then-not-so
returns-then-not-so g c =
    let P = FollowsBy c.args.profile.now (outs_of c.args.outs.now.node) (mets_of c.args.mets.now.node) (g.S.State.known c.args.facts.now.state.now) in (
      c.loop-at.invariant.0,
      c.loop-at.invariant.1,
      λ all.
          let first = All-head P c.in-Some.claim _ (subst (All P) c.in-Some.ensures (last_so P _ _ c.loop-at.invariant.1 all)) in
          let e : false ≡ true = sym c.if-not-so.true ∙ c.follows-so.ensures.1 first in cc,
    )

pub loop-at-preserved : goal.loop-at-preserved
loop-at-preserved g c =
    let P = FollowsBy c.args.profile.now (outs_of c.args.outs.now.node) (mets_of c.args.mets.now.node) (g.S.State.known c.args.facts.now.state.now) in (
      one_more P c.in-Some.claim _ _ _ c.in-Some.ensures (c.follows-so.ensures.0 c.if-not-so.false) c.loop-at.invariant.0,
      last_again c.in-Some.claim _ _ _ c.in-Some.ensures c.loop-at.invariant.1,
    )
