use Rattle.std.proofs.Common.{◌≡◌, List, true, false, refl, sym, subst, ap, arith, length}
use Rattle.std.specs.Prelude.{slice_index_or}
use Rattle.machines.specs.declared.arch.Arch.{Arch}
use Rattle.machines.specs.declared.arch.Arch.TheVariants.{X86_64}
use Rattle.cert_check.specs.inner.Asked.{known_of, met_of, out_of}
use Rattle.cert_check.specs.Agree.{ListedAgrees}
use Rattle.cert_check.proofs.SoFar.{one_more_at}
use Rattle.cert_check.proofs.judging.Agreement.all_agree.Goals as goal

pub loop-count-preserved : goal.loop-count-preserved
loop-count-preserved g c =
    let a = c.args.self.now in
    let P = ListedAgrees a.profile.now (out_of a) (met_of a) (known_of a) a.word in
    let same = c.machines-machines.ensures.machines in
    let size = ap length same in
    one_more_at P a.profile.now.machines c.loop-count.count X86_64 (omega (arith, size, c.loop-count-test.true)) c.loop-count.invariant
    (subst (λ (machines : List Arch). P (slice_index_or machines c.loop-count.count X86_64)) same (c.if-not-listed_agrees.ensures.0 refl))

pub returns-then-not-listed_agrees : goal.returns-then-not-listed_agrees
returns-then-not-listed_agrees g c =
    let a = c.args.self.now in
    let P = ListedAgrees a.profile.now (out_of a) (met_of a) (known_of a) a.word in
    let same = c.machines-machines.ensures.machines in
    let size = ap length same in (
      λ t. let e : false ≡ true = t in cc,
      λ all. let e : false ≡ true = c.if-not-listed_agrees.ensures.1
          (subst (λ (machines : List Arch). P (slice_index_or machines c.loop-count.count X86_64)) (sym same)
          (all c.loop-count.count X86_64 (omega (arith, size, c.loop-count-test.true)))) in cc,
    )

pub returns : goal.returns
returns g c =
    let size = ap length c.machines-machines.ensures.machines in
    (λ _ k d inside. c.loop-count.invariant k d (omega (arith, size, inside, c.loop-count-test.false)), λ _. refl)
