use Rattle.std.proofs.Common.{◌≡◌, ℕ, drop, ◌+◌, sym, ◌∙◌, ap, subst, arith}
use Rattle.std.specs.Prelude.{Some}
use Rattle.bpf_insn.specs.Machine.{Ends, Goes, Registers, step, verdict_of}
use Rattle.bpf_insn.specs.Program.{insns}
use Rattle.kernel_check.specs.Lent.{accepted_insns}
use Rattle.compare.specs.Stub.{enosys}
use Rattle.compare.specs.inner.Path.{IsIn, a_of, holding, step_of}
use Rattle.compare.proofs.StubRunLaws.{given, given_anew, given_drop, given_ends, given_goes, in_whole, part_of_part}
use Rattle.compare.proofs.behind_runc.stub.path.follow.Goals as goal

pub returns-in-Answers-clause-answer : goal.returns-in-Answers-clause-answer
returns-in-Answers-clause-answer c r h =
    let now : Registers = holding (a_of c.loop-pc.held r) in
    let before : IsIn c.loop-pc.region r = in_whole c.advance.new.region c.loop-pc.region r c.in_ok-advance.ensures.part h in
    let does : step r c.get.result now ≡ step_of c.in_ok-advance.field-0 r = c.in_ok-advance.ensures.does r h in
    let ends : step r c.get.result now ≡ Ends enosys = does ∙ ap (λ m. step_of m r) c.in-Answers.is in
    let same : verdict_of (insns c.program-program.result) r ≡ Some enosys =
    c.loop-pc.invariant.same r before ∙ given_ends (insns c.program-program.result) c.loop-pc.pc c.get.result now r enosys c.get.ensures ends in
    ap (λ p. verdict_of p r) (sym c.program-program.ensures.same) ∙ same

pub loop-pc-preserved : goal.loop-pc-preserved
loop-pc-preserved c = record {
  part = part_of_part c.advance.new.region c.loop-pc.region c.args.region.now c.in_ok-advance.ensures.part c.loop-pc.invariant.part;
  same = λ r h.
      let now : Registers = holding (a_of c.loop-pc.held r) in
      let next : Registers = holding (a_of c.in-Skips.then r) in
      let before : IsIn c.loop-pc.region r = in_whole c.advance.new.region c.loop-pc.region r c.in_ok-advance.ensures.part h in
      let does : step r c.get.result now ≡ step_of c.in_ok-advance.field-0 r = c.in_ok-advance.ensures.does r h in
      let goes : step r c.get.result now ≡ Goes c.in-Skips.skip next = does ∙ ap (λ m. step_of m r) c.in-Skips.is in
      let place : c.loop-pc.pc + (1 + c.in-Skips.skip) ≡ c.loop-pc.pc + 1 + c.in-Skips.skip = omega arith in
      c.loop-pc.invariant.same r before
      ∙ given_goes (insns c.program-program.result) c.loop-pc.pc c.get.result now r c.in-Skips.skip next
      (c.loop-pc.pc + (1 + c.in-Skips.skip)) c.get.ensures goes place;
}

pub returns-then-pc-begin-clause-answer : goal.returns-then-pc-begin-clause-answer
returns-then-pc-begin-clause-answer c r h =
    let all : insns c.program-program.result ≡ accepted_insns c.args.filter.now = c.program-program.ensures.same in
    let a : ℕ = a_of c.loop-pc.held r in
    let here : c.loop-pc.pc ≡ c.args.begin = let t = c.if-pc-begin.true in omega (arith, t) in
    let whole : verdict_of (accepted_insns c.args.filter.now) r ≡ given (accepted_insns c.args.filter.now) c.loop-pc.pc (holding a) r =
    subst (λ p. verdict_of p r ≡ given p c.loop-pc.pc (holding a) r) all (c.loop-pc.invariant.same r h) in
    whole
    ∙ (ap (λ pc. given (accepted_insns c.args.filter.now) pc (holding a) r) here
    ∙ (given_drop (accepted_insns c.args.filter.now) c.args.begin (holding a) r
    ∙ given_anew (drop c.args.begin (accepted_insns c.args.filter.now)) a r c.requires.loads))
