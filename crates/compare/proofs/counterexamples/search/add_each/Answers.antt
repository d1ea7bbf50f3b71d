use Rattle.compare.proofs.counterexamples.search.add_each.Goals as goal

pub loop-difference-preserved : goal.loop-difference-preserved
loop-difference-preserved c = λ native bundle bytes judged same all.
    c.in_ok-add.ensures native bundle bytes (c.another-found.ensures native bundle bytes judged same)
    (c.loop-difference.invariant native bundle bytes judged same all)
