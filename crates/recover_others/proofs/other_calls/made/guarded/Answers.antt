use Rattle.std.proofs.Common.{◌≡◌, ◌∙◌, ◌+◌, List, ap, length, subst, arith}
use Rattle.bpf_insn.specs.declared.instruction.Insn.{Insn}
use Rattle.bpf_insn.specs.Bytes.{insns_of}
use Rattle.flatten.specs.inner.Turns.{ArePlain}
use Rattle.recover_others.specs.Guarded.{IsGuarded}
use Rattle.recover_others.specs.inner.Guard.{base, guard}
use Rattle.recover_others.proofs.GuardLaws.{guarded_is, if_ok}
use Rattle.std.specs.Prelude.{Err}
use Rattle.recover_others.proofs.LimitLaws.{base_length, err_reason, guard_length}
use Rattle.recover_others.proofs.other_calls.made.guarded.Goals as goal

pub returns-in-Ok-made_of-clause-guarded : goal.returns-in-Ok-made_of-clause-guarded
returns-in-Ok-made_of-clause-guarded c =
    let machines = c.args.machines.now in
    let p : List Insn = insns_of c.args.filter.now in
    let plain : ArePlain p = subst ArePlain c.in-Ok.ensures.same c.in-Ok.ensures.plain in
    let same : c.deref.result.now ≡ p = c.deref.ensures.value ∙ c.in-Ok.ensures.same in
    let made : c.deref-in-Ok-made_of.result.now ≡ guard machines (length p + 1) (base p) =
    c.deref-in-Ok-made_of.ensures.value ∙ c.in-Ok-made_of.ensures.made
    ∙ ap (λ (q : List Insn). guard machines (length q + 1) (base q)) same in
    if_ok c.spelled.result (λ bytes. insns_of bytes.items ≡ c.deref-in-Ok-made_of.result.now)
    (λ bytes. IsGuarded machines p (insns_of bytes.items))
    (λ bytes h. guarded_is machines p (insns_of bytes.items) plain c.in-Ok.ensures.filter.1 (h ∙ made))
    c.spelled.ensures.bytes

pub returns-in-Err-clause-reason : goal.returns-in-Err-clause-reason
returns-in-Err-clause-reason c =
    c.told.ensures c.args.machines.now c.args.filter.now c.in-Err.ensures.fault.is (λ e. c.plain_insns.ensures.short (c.in-Err.is ∙ ap Err e))

pub returns-in-Ok-made_of-clause-reason : goal.returns-in-Ok-made_of-clause-reason
returns-in-Ok-made_of-clause-reason c =
    let machines = c.args.machines.now in
    let filter = c.args.filter.now in
    let p : List Insn = insns_of filter in
    let same : c.deref.result.now ≡ p = c.deref.ensures.value ∙ c.in-Ok.ensures.same in
    let made : c.deref-in-Ok-made_of.result.now ≡ guard machines (length p + 1) (base p) =
    c.deref-in-Ok-made_of.ensures.value ∙ c.in-Ok-made_of.ensures.made
    ∙ ap (λ (q : List Insn). guard machines (length q + 1) (base q)) same in
    let size = ap length made ∙ guard_length machines (length p + 1) (base p) in
    let whole = base_length p in
    err_reason machines filter (length c.deref-in-Ok-made_of.result.now) c.spelled.result (omega (arith, size, whole)) c.spelled.ensures.limit
