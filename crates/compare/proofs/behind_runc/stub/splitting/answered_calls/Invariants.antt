use Rattle.std.proofs.Common.{◌<◌, ◌-◌, ◌^◌, ℕ, List, drop}
use Rattle.call_record.specs.Words.{IsRecord, word}
use Rattle.kernel_check.specs.Lent.{accepted_insns}
use Rattle.compare.specs.Stub.{IsAnswered}
use Rattle.compare.specs.inner.Parts.{Splits}
use Rattle.compare.proofs.behind_runc.stub.splitting.answered_calls.Given as goal

abbrev pub invariant-all : goal.invariant-all
invariant-all l = record {
  fits : l.next < 2 ^ 32;
  below : (r : List ℕ) → IsAnswered l.answered.items r → word r 1 < l.next;
  splits : (r : List ℕ) → IsRecord r → word r 1 < l.next
      → Splits (accepted_insns l.filter) (drop l.begin (accepted_insns l.filter)) l.answered.items r;
}

abbrev pub decreases-all : goal.decreases-all
decreases-all l = 2 ^ 32 - l.next
