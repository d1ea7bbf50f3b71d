use Rattle.std.proofs.Common.{ap, sym, ◌∙◌}
use Rattle.std.specs.List.{list_any}
use Rattle.explain.specs.Audit.{is_same}
use Rattle.explain.proofs.EventLaws.{next_added, next_kept}
use Rattle.explain.proofs.audited.events.put_first.Goals as goal

pub returns-then-has_same : goal.returns-then-has_same
returns-then-has_same c = λ before have.
    next_kept before c.args.firsts.now.items c.args.event.now have
    (sym c.if-has_same.true ∙ c.has_same.ensures
    ∙ ap (list_any (λ b. is_same b c.args.event.now)) c.deref.ensures.value)

pub returns : goal.returns
returns c = λ before have.
    next_added before c.args.firsts.now.items c.push.new.self.items c.args.event.now have
    (sym c.if-has_same.false ∙ c.has_same.ensures
    ∙ ap (list_any (λ b. is_same b c.args.event.now)) c.deref.ensures.value)
    c.in_ok-push.ensures.items
