use Rattle.std.proofs.Common.{ap, codes}
use Rattle.std.proofs.lemmas.List.{append_assoc}
use Rattle.call_record.specs.Text as verdict
use Rattle.session.specs.Replies.{outcome_text}
use Rattle.session.proofs.reply.put_outcome.Goals as goal

pub returns-in-Denied-clause-items : goal.returns-in-Denied-clause-items
returns-in-Denied-clause-items c =
    let i = c.put-in-Denied.ensures.items in
    let j = c.put-in-Denied-2.ensures.items in
    let t = c.text.ensures in
    let e = ap outcome_text c.in-Denied.is in
    let a = append_assoc c.args.line.now.items (codes "denied ") (verdict.text_of c.in-Denied.word) in
    cc
