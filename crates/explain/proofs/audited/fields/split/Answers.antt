use Rattle.std.proofs.Common.{◌+◌, List, ℕ, take, drop, subst, sym, ap, ◌∙◌, arith}
use Rattle.std.specs.Prelude.{Some}
use Rattle.std.proofs.lemmas.Grind.{common_steps}
use Rattle.std.proofs.lemmas.List.{take_all}
use Rattle.texts.proofs.Splits.{Lacks, split_at_none}
use Rattle.explain.proofs.FieldLaws.{split_here}
use Rattle.explain.proofs.audited.fields.split.Goals as goal

pub returns-then-here-byte : goal.returns-then-here-byte
returns-then-here-byte c =
    let line = c.args.line.now in
    let at = c.loop-at.at in
    ap (λ (rest : List ℕ). Some (take at line, rest)) (take_all _ (drop (at + 1) line) (grind (arith, common_steps)))
    ∙ split_here c.args.byte line at c.loop-at-test.true c.if-here-byte.true c.loop-at.invariant

pub returns : goal.returns
returns c =
    let line = c.args.line.now in
    sym (split_at_none c.args.byte line (subst (Lacks c.args.byte) (take_all c.loop-at.at line c.loop-at-test.false) c.loop-at.invariant))
