use Rattle.std.proofs.Common.{◌∙◌, ap, sym}
use Rattle.bpf_insn.specs.Program.{insns}
use Rattle.kernel_check.specs.Accepted.{IsAccepted}
use Rattle.processes.specs.Attached.Attached.{Taken}
use Rattle.processes.proofs.AttachedLaws.{attached_refused, attached_taken}
use Rattle.processes.proofs.load.accepted_in.Goals as goal

pub returns-in-Err-accept : goal.returns-in-Err-accept
returns-in-Err-accept c =
    attached_refused c.args.bytes.now c.in-Ok.ensures.fault
    (λ a. let b : IsAccepted (insns c.in-Ok.program) = rw c.in-Ok.ensures.read a in
    b.no_cause c.in-Err-accept.field-0.pc c.in-Err-accept.field-0.cause c.in-Err-accept.ensures.refused.stands)

pub returns-in-Ok-accept : goal.returns-in-Ok-accept
returns-in-Ok-accept c =
    attached_taken c.args.bytes.now c.in-Ok.ensures.fault (rw c.in-Ok.ensures.read at c.in-Ok-accept.ensures.accepted)
    ∙ ap Taken (sym (c.in-Ok-accept.ensures.same ∙ c.in-Ok.ensures.read))
