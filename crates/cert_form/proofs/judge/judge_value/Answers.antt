use Rattle.std.proofs.Common.{arith}
use Rattle.cert_form.proofs.PartLaws.{value_there}
use Rattle.cert_form.proofs.judge.judge_value.Goals as goal
use Rattle.cert_form.proofs.judge.judge_value.Goals.{else-tag-ne2-via-then-tag-ne2+else-word-ne0, else-tag-ne2-via-else-tag-ne2}
use Rattle.cert_form.proofs.judge.judge_value.Goals.{else-tag-eq0-via-then-tag-eq0+else-read_long-ne0, else-tag-eq0-via-else-tag-eq0}

pub returns-clause-sound : goal.returns-clause-sound
returns-clause-sound c = value_there c.args.bytes.now c.args.at (λ i. omega (arith, c.type_inv.bytes i)) (omega arith) (omega arith)
    (omega arith)
    (elim c.else-tag-ne2.branch [
      | else-tag-ne2-via-then-tag-ne2+else-word-ne0 w ↦ λ _. w.if-word-ne0.false
      | else-tag-ne2-via-else-tag-ne2 w ↦ λ free. absurd (free w.if-tag-ne2.false)
    ])
    (elim c.else-tag-eq0.branch [
      | else-tag-eq0-via-then-tag-eq0+else-read_long-ne0 w ↦ λ _. omega (arith, w.read_long.ensures, w.if-read_long-ne0.false)
      | else-tag-eq0-via-else-tag-eq0 w ↦ λ none. absurd (w.if-tag-eq0.false none)
    ])
