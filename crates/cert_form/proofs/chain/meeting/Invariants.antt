use Rattle.std.proofs.Common.{◌+◌}
use Rattle.cert_form.specs.Nodes.{on_chain}
use Rattle.cert_form.specs.Reading.{entries_of}
use Rattle.cert_form.specs.Views.{AreLast}
use Rattle.cert_form.proofs.NumberLaws.{Share}
use Rattle.cert_form.proofs.chain.meeting.Given as goal

abbrev pub invariant-loop-one : goal.invariant-loop-one
invariant-loop-one l = record {
  first : AreLast (on_chain (entries_of l.bytes) l.one) (on_chain (entries_of l.bytes) l.first);
  second : AreLast (on_chain (entries_of l.bytes) l.other) (on_chain (entries_of l.bytes) l.second);
  share : Share (entries_of l.bytes) l.one l.other l.first l.second;
}

abbrev pub decreases-loop-one : goal.decreases-loop-one
decreases-loop-one l = l.one + l.other
