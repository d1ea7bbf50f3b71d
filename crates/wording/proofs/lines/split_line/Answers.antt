use Rattle.std.proofs.Common.{◌≡◌, ℕ, ◌+◌, List, [], ◌∷◌, take, drop, subst, sym, ap, ◌∙◌, arith}
use Rattle.std.specs.Prelude.{◌==◌, false}
use Rattle.std.specs.List.{All}
use Rattle.std.proofs.lemmas.Bool.{ne_eqb}
use Rattle.std.proofs.lemmas.Grind.{common_steps}
use Rattle.std.proofs.lemmas.List.{take_all}
use Rattle.std.proofs.lemmas.List.Elements.{All-more}
use Rattle.std.proofs.lemmas.List.Splits.{slice_split_none}
use Rattle.texts.specs.Lines.{line_feed}
use Rattle.wording.specs.Lines.{lines_of}
use Rattle.wording.proofs.Splits.{splits_here}
use Rattle.wording.proofs.lines.split_line.Goals as goal

pub returns-then-byte-eq-LINE_FEED-clause-lines : goal.returns-then-byte-eq-LINE_FEED-clause-lines
returns-then-byte-eq-LINE_FEED-clause-lines c =
    let text = c.args.text.now in
    let at = c.loop-at.at in
    splits_here text at c.loop-at-test.true c.if-byte-eq-LINE_FEED.true c.loop-at.invariant
    ∙ ap (λ (l : List ℕ). take at text ∷ lines_of l) (sym (take_all _ (drop (at + 1) text) (grind (arith, common_steps))))

pub loop-at-preserved : goal.loop-at-preserved
loop-at-preserved c =
    All-more (λ b. (b == line_feed) ≡ false) c.args.text.now c.loop-at.at 0 c.loop-at-test.true c.loop-at.invariant
    (ne_eqb _ 10 c.if-byte-eq-LINE_FEED.false)

pub returns-clause-lines : goal.returns-clause-lines
returns-clause-lines c =
    slice_split_none (λ b. b == line_feed) c.args.text.now
    (subst (λ (l : List ℕ). All (λ b. (b == line_feed) ≡ false) l) (take_all c.loop-at.at c.args.text.now c.loop-at-test.false)
    c.loop-at.invariant)
