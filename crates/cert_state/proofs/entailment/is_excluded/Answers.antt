use Rattle.std.proofs.Common.{◌≡◌, true, false, refl}
use Rattle.cert_state.specs.inner.Exclusion.{IsSuch}
use Rattle.cert_state.proofs.RangeLaws.{excluded_here, excluded_later}
use Rattle.cert_state.proofs.entailment.is_excluded.Goals as goal

pub loop-literal-preserved : goal.loop-literal-preserved
loop-literal-preserved g c =
    let never : IsSuch c.args.word c.args.mask c.args.datum c.in-Some.literal → ⊥ =
    λ such. let e : false ≡ true = c.if-excludes.ensures.1 such in cc in
    let later = excluded_later c.in-Some.literal _ _ c.in-Some.ensures.more c.args.word c.args.mask c.args.datum never in
    (λ h. later.0 (c.loop-literal.invariant.0 h), λ h. c.loop-literal.invariant.1 (later.1 h))

pub loop-literal-init : goal.loop-literal-init
loop-literal-init g c = rw c.start-at.ensures.all (λ h. h, λ h. h)

pub returns-then-excludes : goal.returns-then-excludes
returns-then-excludes g c =
    let here = excluded_here c.in-Some.literal _ _ c.in-Some.ensures.more c.args.word c.args.mask c.args.datum (c.if-excludes.ensures.0 refl) in
    (λ _. c.loop-literal.invariant.1 here, λ _. refl)
