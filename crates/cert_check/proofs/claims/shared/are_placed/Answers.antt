use Rattle.std.proofs.Common.{◌≡◌, true, false, refl, subst, arith}
use Rattle.std.proofs.lemmas.Option.{slice_get_within, get_or_from_slice_get}
use Rattle.cert_form.specs.Views.{all_claims}
use Rattle.cert_check.specs.inner.Followed.{IsPlaced}
use Rattle.cert_check.proofs.SoFar.{one_more}
use Rattle.cert_check.proofs.claims.shared.are_placed.Goals as goal

pub loop-i-preserved : goal.loop-i-preserved
loop-i-preserved c =
    let all = all_claims c.args.view.now in
    let claim = c.claim.result in
    let at = c.claim.ensures in
    one_more (IsPlaced c.args.profile.now) all c.loop-i.i claim (slice_get_within all c.loop-i.i claim at)
    (get_or_from_slice_get all c.loop-i.i claim claim at) c.loop-i.invariant (c.if-not-is_placed.ensures.0 refl)

pub returns-then-not-is_placed : goal.returns-then-not-is_placed
returns-then-not-is_placed c =
    let all = all_claims c.args.view.now in
    let claim = c.claim.result in
    let at = c.claim.ensures in (
      λ t. let e : false ≡ true = t in cc,
      λ so. absurd (let e : false ≡ true = c.if-not-is_placed.ensures.1 (subst (IsPlaced c.args.profile.now)
          (get_or_from_slice_get all c.loop-i.i claim claim at) (so c.loop-i.i claim (slice_get_within all c.loop-i.i claim at))) in cc),
    )

pub returns : goal.returns
returns c = (λ _ k d lt. c.loop-i.invariant k d (omega (arith, lt, c.loop-i-test.false, c.claim_count-i-end.ensures)), λ _. refl)
