use Rattle.std.proofs.Common.{[], refl, subst, arith}
use Rattle.cert_form.specs.Nodes.{on_chain}
use Rattle.cert_form.specs.Reading.{entries_of}
use Rattle.cert_form.specs.Views.{AreLast}
use Rattle.cert_form.proofs.NumberLaws.{shared_are, step_one, step_other}
use Rattle.cert_form.proofs.ReadLaws.{last_of}
use Rattle.cert_form.proofs.chain.meeting.Goals as goal

pub loop-one-init : goal.loop-one-init
loop-one-init c = record { first = ([], refl); second = ([], refl); share = λ n. (λ h. h, λ h. h) }

pub loop-one-preserved-then-one-other : goal.loop-one-preserved-then-one-other
loop-one-preserved-then-one-other c =
    let so = c.loop-one.invariant in
    record {
      first = last_of _ _ _ c.after-one.ensures.last so.first;
      second = so.second;
      share = step_one (entries_of c.args.bytes.now) c.loop-one.one c.loop-one.other c.after-one.result c.args.first c.args.second
          (omega (arith, c.if-one-other.true)) c.after-one.ensures.others so.share;
    }

pub loop-one-preserved : goal.loop-one-preserved
loop-one-preserved c =
    let so = c.loop-one.invariant in
    record {
      first = so.first;
      second = last_of _ _ _ c.after-other.ensures.last so.second;
      share = step_other (entries_of c.args.bytes.now) c.loop-one.one c.loop-one.other c.after-other.result c.args.first c.args.second
          (omega (arith, c.if-one-other.false, c.loop-one-test.true)) c.after-other.ensures.others so.share;
    }

pub returns-clause-first : goal.returns-clause-first
returns-clause-first c = c.loop-one.invariant.first

pub returns-clause-second : goal.returns-clause-second
returns-clause-second c =
    subst (λ k. AreLast (on_chain (entries_of c.args.bytes.now) k) (on_chain (entries_of c.args.bytes.now) c.args.second))
    (omega (arith, c.loop-one-test.false)) c.loop-one.invariant.second

pub returns-clause-shared : goal.returns-clause-shared
returns-clause-shared c =
    shared_are (entries_of c.args.bytes.now) c.loop-one.one c.loop-one.other c.args.first c.args.second
    (omega (arith, c.loop-one-test.false)) c.loop-one.invariant.share
