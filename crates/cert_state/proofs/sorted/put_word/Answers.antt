use Rattle.std.proofs.Common.{◌≡◌, ◌++◌, sym, ap, ◌∙◌, arith, take}
use Rattle.std.proofs.lemmas.List.{append-nil}
use Rattle.cert_state.specs.inner.Sorted.{of_word}
use Rattle.cert_state.proofs.SortedLaws.{put_part}
use Rattle.cert_state.proofs.sorted.put_word.Goals as goal

pub returns-clause-put : goal.returns-clause-put
returns-clause-put g c =
    let so = c.loop-literal.invariant in
    let known = of_word c.args.word (g.S.State.known c.args.state.now) in
    let left : take c.loop-literal.to c.loop-literal.table.lits ++ of_word c.args.word (g.S.State.rest c.args.state.now c.loop-literal.at)
    ≡ take c.loop-literal.to c.loop-literal.table.lits =
    ap (λ r. take c.loop-literal.to c.loop-literal.table.lits ++ of_word c.args.word r) c.in_default.ensures.more
    ∙ append-nil (take c.loop-literal.to c.loop-literal.table.lits) in
    (so.ordered, so.within, put_part c.loop-literal.table.lits c.args.table.now.lits known c.args.from c.loop-literal.to so.ordered (omega (arith, c.requires)) (sym left ∙ so.put))
