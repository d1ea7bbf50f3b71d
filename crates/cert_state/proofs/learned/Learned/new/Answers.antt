use Rattle.std.proofs.Common.{◌<◌, ap, sym, ◌∙◌, arith, length}
use Rattle.cert_state.specs.Learned.{lits_of, own_of}
use Rattle.cert_state.proofs.LearnedLaws.{element}
use Rattle.cert_state.proofs.learned.Learned.new.Goals as goal

pub returns : goal.returns
unfolding own_of
returns c = λ w lt.
    let items = c.loop-word.words.items in
    let room : w < length items = omega (arith, lt, c.loop-word.invariant.so_far, c.loop-word-test.false) in
    let (x, is, at) = element items w room in
    is ∙ ap lits_of (sym (at x)) ∙ c.loop-word.invariant.none w x (omega (arith, lt, c.loop-word-test.false))
