use Rattle.std.proofs.Common.{◌≡◌, ◌∷◌, ◌∙◌, ap, subst, sym}
use Rattle.bpf_insn.specs.declared.code.Operation.TheVariants.{Jump}
use Rattle.rule_compile.specs.Steady.{IsSteady}
use Rattle.rule_compile.specs.inner.Code.{insn_of}
use Rattle.rule_compile.specs.inner.Runs.{gives_from}
use Rattle.rule_compile.proofs.GoesLaws.{grows_written, jump_code}
use Rattle.rule_compile.proofs.RunsLaws.{jump_runs}
use Rattle.rule_compile.proofs.SteadyLaws.{steady_jump_front}
use Rattle.rule_compile.proofs.assembler.Assembler.begin_at.Goals as goal

pub returns-clause-grows : goal.returns-clause-grows
returns-clause-grows c = grows_written c.args.self.now c.jump.new.self _ c.in_ok-jump.ensures.written

pub returns-clause-runs : goal.returns-clause-runs
returns-clause-runs c a r =
    let k = c.distance-skipped.result in
    let old = c.args.self.now in
    let written : c.jump.new.self ≡ insn_of Jump k ∷ old = c.in_ok-jump.ensures.written in
    ap (λ code. gives_from code 0 a r) written ∙ jump_runs old c.args.to k c.requires c.distance-skipped.ensures.skipped a r

pub returns-clause-steady : goal.returns-clause-steady
returns-clause-steady c h s =
    let k = c.distance-skipped.result in
    let old = c.args.self.now in
    let written : c.jump.new.self ≡ insn_of Jump k ∷ old = c.in_ok-jump.ensures.written in
    subst (λ code. IsSteady code 0 h) (sym written)
    (steady_jump_front (insn_of Jump k) old c.args.to jump_code c.requires c.distance-skipped.ensures.skipped h s)
