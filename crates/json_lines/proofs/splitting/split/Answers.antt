use Rattle.std.proofs.Common.{ℕ, ◌+◌, List, take, drop, subst, sym, ap, ◌∙◌, arith}
use Rattle.std.specs.Prelude.{Some}
use Rattle.std.proofs.lemmas.Grind.{common_steps}
use Rattle.std.proofs.lemmas.List.{take_all}
use Rattle.texts.proofs.Splits.{Lacks, split_at_none}
use Rattle.json_lines.proofs.Parts.{lacks_more, split_here}
use Rattle.json_lines.proofs.splitting.split.Goals as goal

pub returns-then-here-byte : goal.returns-then-here-byte
returns-then-here-byte c =
    let text = c.args.text.now in
    let at = c.loop-at.at in
    ap (λ (l : List ℕ). Some (take at text, l)) (take_all _ (drop (at + 1) text) (grind (arith, common_steps)))
    ∙ sym (split_here c.args.byte text at c.loop-at-test.true c.if-here-byte.true c.loop-at.invariant)

pub loop-at-preserved : goal.loop-at-preserved
loop-at-preserved c =
    lacks_more c.args.byte c.args.text.now c.loop-at.at c.loop-at-test.true c.if-here-byte.false c.loop-at.invariant

pub returns : goal.returns
returns c =
    sym (split_at_none c.args.byte c.args.text.now (subst (Lacks c.args.byte) (take_all c.loop-at.at c.args.text.now c.loop-at-test.false) c.loop-at.invariant))
