use Rattle.std.proofs.Common.{◌≡◌, ◌+◌, bit_and, subst, arith}
use Rattle.cert_form.specs.Reading.{long_at}
use Rattle.cert_form.proofs.PartLaws.{literal_there}
use Rattle.cert_form.proofs.judge.judge_literal.Goals as goal
use Rattle.cert_form.proofs.judge.judge_literal.Goals.{else-tag-ne1-via-then-tag-ne1+else-datum-read_long, else-tag-ne1-via-else-tag-ne1}

pub returns-clause-sound : goal.returns-clause-sound
returns-clause-sound c = literal_there c.args.bytes.now c.args.at (λ i. omega (arith, c.type_inv.bytes i))
    (omega arith) c.if-tag-eq0.false (omega arith) (omega arith)
    (elim c.else-tag-ne1.branch [
      | else-tag-ne1-via-then-tag-ne1+else-datum-read_long w ↦ λ _.
          subst (λ q. bit_and q (long_at c.args.bytes.now (c.args.at + 2)) ≡ q) c.read_long-datum.ensures
          (subst (λ p. bit_and c.read_long-datum.result p ≡ c.read_long-datum.result) w.read_long.ensures w.if-datum-read_long.false)
      | else-tag-ne1-via-else-tag-ne1 w ↦ λ masked. absurd (masked w.if-tag-ne1.false)
    ])
