use Rattle.std.proofs.Common.{◌∙◌, ◌++◌, ap, sym}
use Rattle.std.proofs.lemmas.List.{append-nil}
use Rattle.call_tables.specs.Tables.{table_of}
use Rattle.call_tables.specs.Table.{number_in}
use Rattle.review.specs.Asked.{asked_with, whole}
use Rattle.review.proofs.asked.add_on.Goals as goal

pub returns-in_ok-push-in-Some : goal.returns-in_ok-push-in-Some
returns-in_ok-push-in-Some c =
    c.in_ok-push-in-Some.ensures.items
    ∙ (ap (λ o. c.args.list.now.items ++ asked_with c.part_on-part.result c.args.arch o)
    (sym c.in-Some.is ∙ c.call_number.ensures ∙ ap (λ arch. number_in (table_of arch) c.args.name.now) c.whole.ensures)
    ∙ ap (λ p. c.args.list.now.items ++ asked_with p c.args.arch (number_in (table_of (whole c.args.arch)) c.args.name.now)) c.part_on-part.ensures)

pub returns-in-None : goal.returns-in-None
returns-in-None c =
    sym (append-nil c.args.list.now.items)
    ∙ (ap (λ o. c.args.list.now.items ++ asked_with c.part_on-part.result c.args.arch o)
    (sym c.in-None.is ∙ c.call_number.ensures ∙ ap (λ arch. number_in (table_of arch) c.args.name.now) c.whole.ensures)
    ∙ ap (λ p. c.args.list.now.items ++ asked_with p c.args.arch (number_in (table_of (whole c.args.arch)) c.args.name.now)) c.part_on-part.ensures)
