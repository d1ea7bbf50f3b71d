use Rattle.std.proofs.Common.{ap, codes}
use Rattle.std.proofs.lemmas.List.{append_assoc}
use Rattle.call_record.specs.Text as verdict
use Rattle.lifecycle.specs.Fault as refusal
use Rattle.session.proofs.reply.put_verdict.Goals as goal

pub returns-in-StartDenied-clause-items : goal.returns-in-StartDenied-clause-items
returns-in-StartDenied-clause-items c =
    let i = c.put.ensures.items in
    let j = c.put-in-StartDenied.ensures.items in
    let t = c.text.ensures in
    let e = ap refusal.verdict_text c.in-StartDenied.is in
    let a = append_assoc c.args.line.now.items (codes " ") (verdict.text_of c.in-StartDenied.word) in
    cc
