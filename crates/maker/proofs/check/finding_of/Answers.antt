use Rattle.std.proofs.Common.{◌≡◌, false, true, sym, ◌∙◌}
use Rattle.maker.proofs.FindingLaws.{found_beside, found_refused, in_limit, limit_refused}
use Rattle.maker.proofs.check.finding_of.Goals as goal

pub returns-in-Err-clause-found : goal.returns-in-Err-clause-found
returns-in-Err-clause-found c =
    let document = c.args.document.now in
    found_refused document.native document.bytes c.args.filter.now c.args.cert.now c.in-Err.error c.refused.result c.refused.ensures.found
    c.in-Err.ensures.err

pub returns-in-Err-clause-limit : goal.returns-in-Err-clause-limit
returns-in-Err-clause-limit c =
    let document = c.args.document.now in
    limit_refused document.native document.bytes c.args.filter.now c.args.cert.now c.in-Err.error c.refused.result c.refused.ensures.found

pub returns-then-not-light-clause-found : goal.returns-then-not-light-clause-found
returns-then-not-light-clause-found c = (
  c.in-Ok.bundle.now.profile,
  c.in-Ok.ensures.ok,
  λ is. absurd (let e : false ≡ true = sym c.if-not-light.true ∙ (rw c.native.ensures at c.in-Ok-is_light.ensures).1 is in cc),
)

pub returns-then-not-light-clause-limit : goal.returns-then-not-light-clause-limit
returns-then-not-light-clause-limit c = tt

pub returns-clause-found : goal.returns-clause-found
returns-clause-found c =
    let document = c.args.document.now in
    found_beside document.native document.bytes c.args.filter.now c.args.cert.now c.in-Ok.bundle.now.profile c.judged.result c.in-Ok.ensures.ok
    c.judged.ensures

pub returns-clause-limit : goal.returns-clause-limit
returns-clause-limit c =
    let document = c.args.document.now in
    in_limit document.native document.bytes c.args.filter.now c.args.cert.now c.judged.result
    (c.in-Ok.bundle.now.profile, c.in-Ok.ensures.ok, (rw c.native.ensures at c.in-Ok-is_light.ensures).0 c.if-not-light.false)
