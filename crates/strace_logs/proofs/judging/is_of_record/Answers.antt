use Rattle.std.proofs.Common.{refl}
use Rattle.strace_logs.proofs.judging.is_of_record.Goals as goal

pub returns-then-has_name : goal.returns-then-has_name
returns-then-has_name c = λ native texts all it_is. record {
  arch = _;
  nr = _;
  seen = all c.loop-call.call-index _ c.loop-call-test.true;
  named = c.if-has_name.ensures refl;
}
