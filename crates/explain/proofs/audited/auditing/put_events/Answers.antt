use Rattle.std.proofs.Common.{◌+◌, ◌++◌, [], drop, take}
use Rattle.std.specs.Prelude.{map, string_bytes}
use Rattle.explain.specs.Audit.{lines_behind}
use Rattle.explain.specs.inner.Origins.{origin_of}
use Rattle.explain.proofs.AuditLaws.{lines_step}
use Rattle.explain.proofs.EventLaws.{more_of}
use Rattle.explain.proofs.audited.auditing.put_events.Goals as goal

pub loop-place-preserved : goal.loop-place-preserved
loop-place-preserved c =
    let f = c.args.family in
    let p = c.args.profile.now in
    let rules = c.args.all.now.rules.items in
    let ends = c.args.all.now.ends.items in
    let all = c.args.events.now in
    let origins = map origin_of c.args.origins.now in
    let xs = c.args.firsts.now in
    let i = c.loop-place.place in
    more_of (string_bytes c.put_event.new.text) (string_bytes c.loop-place.text) _
    (lines_behind f p rules ends all origins (take i xs) (drop i xs))
    (lines_behind f p rules ends all origins (take (i + 1) xs) (drop (i + 1) xs))
    (string_bytes c.args.text.now ++ lines_behind f p rules ends all origins [] xs) c.in_ok-put_event.ensures
    (lines_step f p rules ends all origins xs i _ c.loop-place-test.true) c.loop-place.invariant
