-- What is told, and what is to be told of those that are left, is all.
use Rattle.std.proofs.Common.{◌≡◌, ◌++◌, [], drop, take}
use Rattle.std.specs.Prelude.{map, string_bytes}
use Rattle.explain.specs.Audit.{lines_behind}
use Rattle.explain.specs.inner.Origins.{origin_of}
use Rattle.explain.proofs.audited.auditing.put_events.Given as goal

abbrev pub invariant-loop-place : goal.invariant-loop-place
invariant-loop-place l =
    string_bytes l.text
    ++ lines_behind l.family l.profile l.all.rules.items l.all.ends.items l.events (map origin_of l.origins) (take l.place l.firsts)
    (drop l.place l.firsts)
    ≡ string_bytes l.fn.text
    ++ lines_behind l.family l.profile l.all.rules.items l.all.ends.items l.events (map origin_of l.origins) [] l.firsts
