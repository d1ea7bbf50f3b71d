use Rattle.std.proofs.Common.{◌∙◌, ◌++◌, ap, sym}
use Rattle.std.proofs.lemmas.List.{append-nil}
use Rattle.allow_groups.specs.Calls.{call_with}
use Rattle.allow_groups.proofs.calls.put_on.Goals as goal

pub returns-in_ok-push-in-Some : goal.returns-in_ok-push-in-Some
returns-in_ok-push-in-Some c =
    c.in_ok-push-in-Some.ensures.items
    ∙ ap (λ o. c.args.list.now.items ++ call_with c.args.arch o) (sym c.in-Some.is ∙ c.call_number.ensures)

pub returns-in-None : goal.returns-in-None
returns-in-None c =
    sym (append-nil c.args.list.now.items)
    ∙ ap (λ o. c.args.list.now.items ++ call_with c.args.arch o) (sym c.in-None.is ∙ c.call_number.ensures)
