-- The name is one of the list just where it is one of those that are left.
use Rattle.std.proofs.Common.{◌≡◌, drop}
use Rattle.std.specs.List.{list_any}
use Rattle.std.specs.Str.{bytes_eq}
use Rattle.strace_logs.proofs.lists.is_in.Given as goal

abbrev pub invariant-loop-other : goal.invariant-loop-other
invariant-loop-other l =
    list_any (λ other. bytes_eq other.now l.name) (drop l.other-index l.list) ≡ list_any (λ other. bytes_eq other.now l.name) l.list
