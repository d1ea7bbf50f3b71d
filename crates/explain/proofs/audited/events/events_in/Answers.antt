use Rattle.std.proofs.Common.{◌++◌, List, ap, sym, ◌∙◌}
use Rattle.std.specs.Prelude.{None, Some}
use Rattle.explain.specs.Audit.{event_in, events_in}
use Rattle.explain.specs.inner.Events.{told_on}
use Rattle.explain.specs.declared.audited.event.Event.{Event}
use Rattle.explain.proofs.EventLaws.{events_step, more_of}
use Rattle.explain.proofs.audited.events.events_in.Goals as goal

pub line-preserved : goal.line-preserved
line-preserved c =
    more_of c.put_line.new.events.items c.line.events.items (told_on (event_in c.in-Some.line.now)) (events_in c.line.rest.now)
    (events_in c.in-Some.more.now) (events_in c.args.text.now) c.in_ok-put_line.ensures
    (events_step c.line.rest.now (Some (c.in-Some.line, c.in-Some.more)) c.in-Some.ensures.lines) c.line.invariant

pub returns : goal.returns
returns c =
    c.in_ok-put_line-2.ensures
    ∙ ap (λ (l : List Event). c.line.events.items ++ l) (sym (events_step c.line.rest.now None c.in_default.ensures.lines)) ∙ c.line.invariant
