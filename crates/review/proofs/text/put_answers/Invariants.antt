-- What is told, and what is to be told of those that are left, is all.
use Rattle.std.proofs.Common.{◌≡◌, ◌++◌, [], drop}
use Rattle.std.specs.Prelude.{string_bytes}
use Rattle.review.specs.Told.{lines_from}
use Rattle.review.specs.inner.Lines.{texts_of}
use Rattle.review.proofs.text.put_answers.Given as goal

abbrev pub invariant-loop-judged : goal.invariant-loop-judged
invariant-loop-judged l =
    string_bytes l.text
    ++ lines_from l.profile l.all.rules.items l.all.ends.items (texts_of l.last) (drop l.judged-index l.list)
    ≡ string_bytes l.fn.text ++ lines_from l.profile l.all.rules.items l.all.ends.items ([], []) l.list
