use Rattle.std.proofs.Common.{◌≡◌, ◌<◌, List, true, length, sym, subst, arith}
use Rattle.std.specs.List.{All, list_any}
use Rattle.std.proofs.lemmas.List.{take_all}
use Rattle.std.proofs.lemmas.List.Elements.{All-more, All-same}
use Rattle.profile.specs.declared.rules.Rule.{Rule}
use Rattle.differ.specs.OnCall.{is_for}
use Rattle.together.specs.OnCall.{Names}
use Rattle.together.proofs.calls.named_calls.Goals as goal

pub loop-profile-preserved : goal.loop-profile-preserved
loop-profile-preserved c =
    let i = c.loop-profile.profile-index in
    let lt : i < length c.args.profiles.now = omega arith in
    All-more (Names c.add_rules.new.list.items) c.args.profiles.now i c.profile-item.result lt
    (λ k d within t n h. c.in_ok-add_rules.ensures.stay t n (c.loop-profile.invariant k d within t n h))
    (subst (Names c.add_rules.new.list.items) c.profile-item.is
    (λ t n h. c.in_ok-add_rules.ensures.added t n (subst (λ (xs : List Rule). list_any (is_for t n) xs ≡ true) (sym c.rules.ensures.rules) h)))

pub returns-clause-each : goal.returns-clause-each
returns-clause-each c =
    let all : All (Names c.loop-profile.list.items) c.args.profiles.now =
    All-same (Names c.loop-profile.list.items) _ _ (sym (take_all c.loop-profile.profile-index c.args.profiles.now (omega arith))) c.loop-profile.invariant in
    λ k d lt t n h. c.in_ok-add_rules-2.ensures.stay t n (all k d lt t n h)

pub returns-clause-joined : goal.returns-clause-joined
returns-clause-joined c = λ t n h.
    c.in_ok-add_rules-2.ensures.added t n (subst (λ (xs : List Rule). list_any (is_for t n) xs ≡ true) (sym c.rules-2.ensures.rules) h)
