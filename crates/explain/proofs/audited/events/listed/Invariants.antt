-- Those so far and those that are left are the different ones. Whatever is the same as one so far is the same as one of them.
use Rattle.std.proofs.Common.{◌≡◌, ◌≤◌, ◌++◌, [], drop, length, take}
use Rattle.explain.specs.Audit.{firsts_behind}
use Rattle.explain.specs.inner.Events.{HaveSame}
use Rattle.explain.proofs.audited.events.listed.Given as goal

abbrev pub invariant-loop-event : goal.invariant-loop-event
invariant-loop-event l = record {
  left : l.firsts.items ++ firsts_behind (take l.event-index l.events) (drop l.event-index l.events) ≡ firsts_behind [] l.events;
  alike : HaveSame l.firsts.items (take l.event-index l.events);
  few : length l.firsts.items ≤ 1024;
}
