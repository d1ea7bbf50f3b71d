-- What comes of the words from here on is what comes of all.
use Rattle.std.proofs.Common.{◌≡◌, Some, map, drop}
use Rattle.engines.specs.inner.Reading.{no_words, with_all}
use Rattle.engines.proofs.ReadLaws.{now_of}
use Rattle.engines.proofs.words.read.Given as goal

abbrev pub invariant-loop-word : goal.invariant-loop-word
invariant-loop-word l =
    with_all (Some no_words) (map now_of l.words) ≡ with_all (Some l.so_far) (map now_of (drop l.word-index l.words))
