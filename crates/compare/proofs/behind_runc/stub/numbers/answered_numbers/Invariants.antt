use Rattle.std.proofs.Common.{◌<◌, ◌-◌, ◌^◌, ℕ, List, drop}
use Rattle.call_record.specs.Words.{IsRecord, word}
use Rattle.machines.specs.Numbers.{IsWithin}
use Rattle.kernel_check.specs.Lent.{accepted_insns}
use Rattle.compare.specs.inner.Parts.{IsAmong, SplitsBy}
use Rattle.compare.specs.inner.Path.{IsPart}
use Rattle.compare.proofs.behind_runc.stub.numbers.answered_numbers.Given as goal

abbrev pub invariant-all : goal.invariant-all
invariant-all l = record {
  fits : l.next < 2 ^ 32;
  part : IsPart l.tokens l.fn.tokens;
  below : (n : ℕ) → IsAmong n l.numbers.items → n < l.next;
  splits : (r : List ℕ) → IsRecord r → IsWithin (word r 1) l.tokens → word r 0 < l.next
      → SplitsBy (accepted_insns l.filter) (drop l.begin (accepted_insns l.filter)) l.numbers.items r;
}

abbrev pub decreases-all : goal.decreases-all
decreases-all l = 2 ^ 32 - l.next
