use Rattle.std.proofs.Common.{◌≡◌, ◌≤◌, length, get_or, take, sym, subst, arith}
use Rattle.std.proofs.lemmas.List.{take_all}
use Rattle.std.specs.List.{All, Contains}
use Rattle.std.proofs.lemmas.List.Elements.{All-more}
use Rattle.profile.specs.declared.rules.Rule.{Rule}
use Rattle.widths.proofs.narrowing.profiles.has_all.Goals as goal

pub loop-other-preserved : goal.loop-other-preserved
loop-other-preserved c =
    let P : Rule → Type 0 = Contains c.args.rules.now in (
      omega (arith, c.in-Some.ensures.within),
      All-more P c.args.others.now c.loop-other.other-index c.other-item.result (omega (arith, c.loop-other-test.true)) c.loop-other.invariant.1
          (subst P c.other-item.is c.in-Some.ensures.has),
    )

pub returns : goal.returns
returns c =
    λ _. subst (All (Contains c.args.rules.now)) (take_all c.loop-other.other-index c.args.others.now (omega (arith, c.loop-other-test.false)))
    c.loop-other.invariant.1
