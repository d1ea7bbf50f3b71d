use Rattle.std.proofs.Common.{ℕ, List, sym, subst}
use Rattle.strace_logs.specs.Taken.{AreTaken, lines_in}
use Rattle.strace_logs.proofs.Taken.{lines_in-push}
use Rattle.strace_logs.proofs.reading.Shown.read_log.Goals as goal

pub returns : goal.returns
returns g c = λ texts shown whole.
    let found = c.in_ok-take_all.ensures (lines_in texts) c.new.ensures.items (shown whole) in (
      found.0,
      found.1,
      λ _. subst (λ (lines : List (List ℕ)). AreTaken c.args.native lines c.take_all.new.calls.seen.items) (sym (lines_in-push texts found.0))
          found.2,
    )
