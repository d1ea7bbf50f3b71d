use Rattle.std.proofs.Common.{arith}
use Rattle.cli.proofs.LogLaws.{one_more_log}
use Rattle.cli.proofs.logs.logs_of.Goals as goal

pub loop-place-preserved : goal.loop-place-preserved
loop-place-preserved c =
    one_more_log c.args.names.now c.args.texts.now c.loop-place.logs.items c.push.new.self.items c.loop-place.place _ c.as_slice.result
    c.index-texts-place.result c.requires (omega (arith, c.loop-place-test.true)) c.loop-place.invariant c.in_ok-push.ensures.items
    c.as_slice.ensures.value c.index-texts-place.is
