use Rattle.std.proofs.Common.{List, refl, sym, subst, ◌∙◌, arith}
use Rattle.std.specs.Prelude.{slice_index_or}
use Rattle.machines.specs.declared.arch.Arch.{Arch}
use Rattle.machines.specs.declared.arch.Arch.TheVariants.{X86_64}
use Rattle.cert_check.specs.Agree.{ListedAgrees}
use Rattle.cert_check.specs.inner.Asked.{known_of, met_of, out_of}
use Rattle.cert_check.proofs.AlikeLaws.{agree_by_token}
use Rattle.cert_check.proofs.judging.Agreement.agrees_as_before.Goals as goal

pub rules_agreed-requires : goal.rules_agreed-requires
rules_agreed-requires g c =
    let a = c.args.self.now in
    let k = c.loop-k.k in
    subst (λ (machines : List Arch).
    ListedAgrees a.profile.now (out_of a) (met_of a) (known_of a) a.word (slice_index_or machines k X86_64)) (sym c.machines-machines.ensures.machines)
    (c.requires.first k X86_64 c.loop-k-test.true)

pub returns-then-rules_agreed : goal.returns-then-rules_agreed
returns-then-rules_agreed g c =
    let a = c.args.self.now in
    λ _.
    agree_by_token a.profile.now (out_of a) (met_of a) (known_of a) a.word _ c.args.arch
    (sym c.token.ensures ∙ (omega (arith, c.if-token.true) ∙ c.token-in-loop-k.ensures)) (c.if-rules_agreed.ensures refl)
