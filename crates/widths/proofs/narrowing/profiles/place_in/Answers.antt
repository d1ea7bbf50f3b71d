use Rattle.std.proofs.Common.{◌≡◌, ◌≤◌, get_or, sym, ◌∙◌, subst, arith}
use Rattle.profile.specs.declared.rules.Rule.{Rule}
use Rattle.widths.proofs.narrowing.profiles.place_in.Goals as goal

pub returns-then-same-clause-has : goal.returns-then-same-clause-has
returns-then-same-clause-has c =
    let e = c.same.ensures.0 c.if-same.true in
    let at = c.index-rules-place.is in (
      c.loop-place.place,
      omega (arith, c.loop-place-test.true, c.requires),
      subst (λ (x : Rule). get_or c.args.rules.now c.loop-place.place x ≡ x) e (sym at),
    )
