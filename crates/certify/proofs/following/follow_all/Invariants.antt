use Rattle.std.proofs.Common.{◌-◌, length}
use Rattle.kernel_check.specs.Lent.{accepted_insns}
use Rattle.certify.specs.inner.Follow.{AreSound}
use Rattle.certify.specs.inner.Led.{AreLed}
use Rattle.certify.specs.inner.Meant.{IsMeant}
use Rattle.certify.specs.inner.Plain.{HaveRoom}
use Rattle.certify.proofs.following.follow_all.Given as goal

abbrev pub invariant-loop : goal.invariant-loop
invariant-loop l = record {
  sound : AreSound l.profile (accepted_insns l.program) l.paths;
  led : AreLed (accepted_insns l.program) l.fn.paths → AreLed (accepted_insns l.program) l.paths;
  room : IsMeant l.profile (accepted_insns l.program) → HaveRoom l.profile (accepted_insns l.program) l.fn.paths
      → HaveRoom l.profile (accepted_insns l.program) l.paths;
}

-- each place gets a node once, and there are so many at most
abbrev pub decreases-loop : goal.decreases-loop
decreases-loop l = 16384 - length l.paths.kinds.items
