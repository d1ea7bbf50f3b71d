use Rattle.std.proofs.Common.{◌≡◌, ◌++◌, length, ap, sym, ◌∙◌, List, ℕ}
use Rattle.std.proofs.Common.{arith}
use Rattle.std.proofs.lemmas.Grind.{common_steps}
use denote.Ref.{Bor}
use Rattle.json_lines.specs.Lines.{parts_by}
use Rattle.json_lines.specs.inner.Views.{texts}
use Rattle.json_lines.proofs.Parts.{parts_last, parts_step, shorter_split}
use Rattle.json_lines.proofs.splitting.parts_of.Goals as goal

pub part-smaller : goal.part-smaller
part-smaller c = shorter_split c.args.end c.part.rest.now (c.in-Some.part.now, c.in-Some.more.now) (sym c.in-Some.ensures)

pub part-preserved : goal.part-preserved
part-preserved c =
    parts_step c.args.end (parts_by c.args.end c.args.text.now) c.part.parts.items c.in-Some.part c.in-Some.more.now c.part.rest.now c.part.invariant
    (sym c.in-Some.ensures)
    ∙ ap (λ (items : List (Bor (List ℕ))). texts items ++ parts_by c.args.end c.in-Some.more.now) (sym c.in_ok-push.ensures.items)

pub returns : goal.returns
returns c =
    ap texts c.in_ok-push-2.ensures.items
    ∙ parts_last c.args.end (parts_by c.args.end c.args.text.now) c.part.parts.items c.part.rest c.part.invariant (sym c.in_default.ensures)
    (λ e. let l : length c.part.rest.now ≡ 0 = ap length e in grind (arith, common_steps))
