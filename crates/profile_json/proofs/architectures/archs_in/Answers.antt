use Rattle.std.proofs.Common.{arith}
use Rattle.profile_json.specs.inner.Reading.{arch_of}
use Rattle.profile_json.proofs.reading.EachSteps.{each_step, each_done}
use Rattle.profile_json.proofs.architectures.archs_in.Goals as goal

pub loop-value-preserved : goal.loop-value-preserved
loop-value-preserved c =
    let pushed = c.in_ok-push.ensures.items in
    each_step (arch_of c.args.family) c.loop-value.found.items c.in_ok-arch.arch
    c.push.new.self.items c.args.values.now c.loop-value.value-index c.value-item.result _ c.loop-value-test.true c.value-item.is
    pushed c.in_ok-arch.ensures c.loop-value.invariant

pub returns : goal.returns
returns c =
    let all = c.loop-value-test.false in
    each_done (arch_of c.args.family) c.loop-value.found.items c.args.values.now c.loop-value.value-index _ (omega (arith, all)) c.loop-value.invariant
