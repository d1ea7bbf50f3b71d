use Rattle.std.proofs.Common.{◌∙◌}
use Rattle.std.specs.Prelude.{map, string_bytes}
use Rattle.explain.specs.inner.Origins.{origin_of}
use Rattle.explain.proofs.AuditLaws.{whole_text}
use Rattle.explain.proofs.audited.auditing.text_of.Goals as goal

pub returns : goal.returns
returns c =
    whole_text c.args.family c.args.profile.now c.args.all.now.rules.items c.args.all.now.ends.items c.args.events.now
    (map origin_of c.args.origins.now) c.deref.result.now c.deref-2.result.now c.args.further c.args.unread c.count_others.result
    (string_bytes c.put_unread.new.text) (string_bytes c.put_further.new.text) (string_bytes c.put_others.new.text)
    (string_bytes c.put_events.new.text) (string_bytes c.new-text.result) c.in_ok-put_unread.ensures c.in_ok-put_further.ensures
    c.in_ok-put_others.ensures
    c.count_others.ensures (c.deref-2.ensures.value ∙ c.in_ok-firsts.ensures)
    c.in_ok-put_events.ensures (c.deref.ensures.value ∙ c.in_ok-firsts.ensures) c.new-text.ensures.bytes
