-- What the words so far ask for.
use Rattle.std.proofs.Common.{[], IfSome, map, take}
use Rattle.strace_logs.specs.inner.Wished.{Asks, AsksTo, IsMark}
use Rattle.strace_logs.proofs.wish.put_words.Given as goal

abbrev pub invariant-loop-word : goal.invariant-loop-word
invariant-loop-word l = record {
  mark : IfSome l.mark IsMark;
  asks : Asks [] l.fn.wish → AsksTo (map (λ w. w.now) (take l.word-index l.words)) l.mark l.wish;
}
