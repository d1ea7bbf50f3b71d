use Rattle.std.proofs.Common.{take}
use Rattle.std.specs.List.{All}
use Rattle.widths.specs.Past.{AreTold, IsAnswered}
use Rattle.widths.proofs.unread_bits.calls.add_each.Given as goal

abbrev pub invariant-loop-call : goal.invariant-loop-call
invariant-loop-call l = record {
  told : AreTold l.profile l.direction l.initial.all → AreTold l.profile l.direction l.all;
  answered : All (λ call. IsAnswered l.profile l.direction l.all call.token call.nr) (take l.call-index l.list);
}
