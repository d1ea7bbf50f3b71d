use Rattle.std.proofs.Common.{◌≡◌, ℕ, List, ◌∙◌, subst, sym, ap}
use Rattle.bpf_insn.specs.Bytes.{insns_of}
use Rattle.bpf_insn.specs.Machine.{verdict_of}
use Rattle.aside.specs.inner.Front.{verdict_from}
use Rattle.aside.proofs.FrontLaws.{aside_at}
use Rattle.aside.proofs.front.giving.Goals as goal

pub loop-calls-init : goal.loop-calls-init
loop-calls-init c = λ r is none a.
    c.in_ok-bytes.ensures r a
    ∙ (ap (λ (rest : List ℕ). verdict_from (insns_of rest) a r) c.deref.ensures.value ∙ c.in_ok-rest.ensures r a)

pub loop-calls-preserved : goal.loop-calls-preserved
loop-calls-preserved c = λ r is none.
    c.in_ok-bytes-2.ensures r is (λ h. none (aside_at r c.args.aside.now c.loop-calls.calls-index _ c.loop-calls-test.true h))
    (verdict_of (insns_of c.args.filter.now) r)
    (subst (λ (bytes : List ℕ). (a : ℕ) → verdict_from (insns_of bytes) a r ≡ verdict_of (insns_of c.args.filter.now) r)
    (sym c.deref-in-loop-calls.ensures.value) (c.loop-calls.invariant r is none))
