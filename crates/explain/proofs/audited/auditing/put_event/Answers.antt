use Rattle.std.proofs.Common.{Bool, ◌++◌, ap, ◌∙◌}
use Rattle.std.specs.Prelude.{map, string_bytes}
use Rattle.wording.specs.Phrases.{call_on, machine_with}
use Rattle.wording.proofs.Results.{if_ok_equal}
use Rattle.explain.specs.Audit.{entries_lines, event_lines, may_be, may_line, origin_lines, times_line}
use Rattle.explain.specs.inner.Origins.{origin_of}
use Rattle.explain.proofs.AuditLaws.{told_five}
use Rattle.explain.proofs.audited.auditing.put_event.Goals as goal

pub returns : goal.returns
returns c =
    let f = c.args.family in
    let p = c.args.profile.now in
    let rules = c.args.all.now.rules.items in
    let ends = c.args.all.now.ends.items in
    let all = c.args.events.now in
    let origins = map origin_of c.args.origins.now in
    let before = c.args.before.now in
    let e = c.args.event.now in
    let old = string_bytes c.args.text.now in
    if_ok_equal (string_bytes c.put_entries.new.text) (string_bytes c.put_may.new.text ++ entries_lines p rules ends before e)
    (old ++ event_lines f p rules ends all origins before e)
    (told_five old (string_bytes c.put_number.new.text) (string_bytes c.put_times.new.text) (string_bytes c.put_origins.new.text)
    (string_bytes c.put_may.new.text) (call_on (machine_with f e.token e.nr) e.token e.nr) (times_line all e) (origin_lines origins e)
    (may_line (may_be p e)) (entries_lines p rules ends before e)
    c.in_ok-put_number.ensures c.in_ok-put_times.ensures c.in_ok-put_origins.ensures
    (c.in_ok-put_may.ensures ∙ ap (λ (may : Bool). string_bytes c.put_origins.new.text ++ may_line may) c.may_be.ensures))
    c.put_entries.result c.put_entries.ensures
