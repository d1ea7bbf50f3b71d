use Rattle.std.proofs.Common.{ap, subst, ◌∙◌}
use Rattle.machines.specs.declared.arch.Family.{Family}
use Rattle.machines.specs.Arch.{family_of}
use Rattle.aside.specs.inner.Lead.{Leads}
use Rattle.aside.proofs.AsideLaws.{left_out, taken_of}
use Rattle.aside.proofs.judged.judge_but.Goals as goal

pub leave_more-requires-clause-taken : goal.leave_more-requires-clause-taken
leave_more-requires-clause-taken c =
    let judged = c.loop.but.judged.evidence in
    let leads : Leads (family_of c.args.document.now.native) c.args.leave judged c.in-Some.calls =
    subst (λ (family : Family). Leads family c.args.leave judged c.in-Some.calls) (c.family.ensures ∙ ap family_of c.native.ensures) c.in-Some.ensures in
    taken_of c.args.document.now.native c.args.document.now.bytes c.args.filter.now c.args.behind.now.rest.now c.args.behind.now.answered.items c.args.leave
    c.loop.but.aside.items c.loop.but.judged.whole judged c.loop.invariant c.in-Some.calls leads

pub loop-preserved : goal.loop-preserved
loop-preserved c =
    let judged = c.loop.but.judged.evidence in
    let leads : Leads (family_of c.args.document.now.native) c.args.leave judged c.in-Some.calls =
    subst (λ (family : Family). Leads family c.args.leave judged c.in-Some.calls) (c.family.ensures ∙ ap family_of c.native.ensures) c.in-Some.ensures in
    c.in_ok-but.ensures c.args.leave c.loop.invariant.left
    (left_out c.args.document.now.native c.args.document.now.bytes c.args.filter.now c.args.behind.now.rest.now c.args.behind.now.answered.items c.args.leave
    c.loop.but.aside.items c.loop.but.judged.whole judged c.loop.invariant c.in-Some.calls leads)
