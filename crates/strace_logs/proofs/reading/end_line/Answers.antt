use Rattle.std.proofs.Common.{ℕ, List, [], ◌∷◌, ◌++◌, subst}
use Rattle.strace_logs.specs.Taken.{AreTaken}
use Rattle.strace_logs.proofs.reading.end_line.Goals as goal

pub returns-clause-taken : goal.returns-clause-taken
returns-clause-taken c = λ lines taken.
    subst (λ (l : List ℕ). AreTaken c.args.native (lines ++ l ∷ []) c.take_line.new.calls.seen.items) c.deref.ensures.value
    (c.in_ok-take_line.ensures lines taken)
