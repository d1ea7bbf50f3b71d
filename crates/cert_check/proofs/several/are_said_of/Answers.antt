use Rattle.std.proofs.Common.{◌≡◌, true, false, refl, arith}
use Rattle.cert_check.proofs.SeveralLaws.{one_more_said, up_to_last}
use Rattle.cert_check.proofs.several.are_said_of.Goals as goal

pub returns-then-not-is_said_of : goal.returns-then-not-is_said_of
returns-then-not-is_said_of c = (
  λ t. let e : false ≡ true = t in cc,
  λ all. let e : false ≡ true = c.if-not-is_said_of.ensures.1 (all c.loop-nr.nr c.loop-nr.invariant.from c.loop-nr.invariant.up) in cc,
)

pub loop-nr-preserved : goal.loop-nr-preserved
loop-nr-preserved c = record {
  from = omega (arith, c.loop-nr.invariant.from);
  up = omega (arith, c.loop-nr-test.true);
  said = one_more_said c.args.profile.now c.args.word c.args.arch c.args.low c.loop-nr.nr c.loop-nr.invariant.said (c.if-not-is_said_of.ensures.0 refl);
}

pub returns : goal.returns
returns c =
    let so = c.loop-nr.invariant in
    let last : c.loop-nr.nr ≡ c.args.high = omega (arith, so.up, c.loop-nr-test.false) in (
      λ t. up_to_last c.args.profile.now c.args.word c.args.arch c.args.low c.args.high c.loop-nr.nr last so.said (c.is_said_of-2.ensures.0 t),
      λ all. c.is_said_of-2.ensures.1 (all c.args.high c.requires (omega arith)),
    )
