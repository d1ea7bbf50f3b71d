use Rattle.std.proofs.Common.{ap, arith, drop, map, sym, ◌+◌, ◌∙◌}
use Rattle.engines.specs.inner.Reading.{with_all}
use Rattle.engines.proofs.ReadLaws.{asked_at_end, asked_none, goes_on, none_after, now_of}
use Rattle.engines.proofs.words.read.Goals as goal

pub returns-in-None : goal.returns-in-None
returns-in-None c =
    let i = c.loop-word.word-index in
    asked_none c.args.words.now
    (c.loop-word.invariant ∙ goes_on c.args.words.now i _ c.loop-word.so_far c.loop-word-test.true
    ∙ ap (λ o. with_all o (map now_of (drop (i + 1) c.args.words.now))) (sym c.with_next.ensures ∙ c.in-None.is)
    ∙ none_after (map now_of (drop (i + 1) c.args.words.now)))

pub loop-word-preserved : goal.loop-word-preserved
loop-word-preserved c =
    let i = c.loop-word.word-index in
    c.loop-word.invariant ∙ goes_on c.args.words.now i _ c.loop-word.so_far c.loop-word-test.true
    ∙ ap (λ o. with_all o (map now_of (drop (i + 1) c.args.words.now))) (sym c.with_next.ensures ∙ c.in-Some.is)

pub returns : goal.returns
returns c =
    c.finished.ensures ∙ asked_at_end c.args.words.now c.loop-word.word-index c.loop-word.so_far (omega arith) c.loop-word.invariant
