use Rattle.std.proofs.Common.{◌≡◌, true, false, subst, arith, inl, inr}
use Rattle.std.proofs.lemmas.Bool.{cases_lt}
use Rattle.std.specs.Prelude.{Contains}
use Rattle.cert_check.specs.inner.Claimed.{mets_of}
use Rattle.cert_check.proofs.claims.mets.Mets.has_one.Goals as goal

pub loop-own-preserved : goal.loop-own-preserved
loop-own-preserved c = λ k lt has. elim (cases_lt k c.loop-own.own) [
  | inl earlier ↦ c.loop-own.invariant k earlier has
  | inr later ↦
      let met = mets_of c.args.self.now.node in
      let same : k ≡ c.loop-own.own = omega arith in
      let e : false ≡ true = c.if-has.ensures.1 (subst (λ j. Contains met (c.args.rule, j)) same has) in cc
]

pub returns : goal.returns
returns c = (λ t. let e : false ≡ true = t in cc, λ h. absurd (c.loop-own.invariant h.0 (omega (arith, h.1)) h.2))
