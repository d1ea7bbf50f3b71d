-- What is told, and what is to be told of the entries that are left, is all.
use Rattle.std.proofs.Common.{◌≡◌, ◌++◌, drop}
use Rattle.std.specs.Prelude.{string_bytes}
use Rattle.strace_logs.specs.Unused.{entries_text}
use Rattle.strace_logs.specs.inner.Views.{uses_now}
use Rattle.strace_logs.proofs.unused.put_entries.Given as goal

abbrev pub invariant-loop-entry : goal.invariant-loop-entry
invariant-loop-entry l =
    string_bytes l.text ++ entries_text (uses_now l.uses) l.entry l.start (drop l.entry l.ends)
    ≡ string_bytes l.fn.text ++ entries_text (uses_now l.uses) 0 0 l.ends
