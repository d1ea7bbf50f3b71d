-- What is told, and what is to be told of those that are left, is all.
use Rattle.std.proofs.Common.{◌≡◌, ◌++◌, drop}
use Rattle.std.specs.Prelude.{string_bytes}
use Rattle.std.specs.List.{flat_map}
use Rattle.strace_logs.specs.Replayed.{refusal_text}
use Rattle.strace_logs.specs.inner.Views.{all_refused}
use Rattle.strace_logs.proofs.refusals.put_each.Given as goal

abbrev pub invariant-loop-first : goal.invariant-loop-first
invariant-loop-first l =
    string_bytes l.text ++ flat_map (refusal_text (all_refused l.calls)) (all_refused (drop l.first-index l.firsts))
    ≡ string_bytes l.fn.text ++ flat_map (refusal_text (all_refused l.calls)) (all_refused l.firsts)
