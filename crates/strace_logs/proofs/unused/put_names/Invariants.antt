-- What is told, and what is to be told of the names that are left, is all.
use Rattle.std.proofs.Common.{◌≡◌, ◌++◌, [], drop}
use Rattle.std.specs.Prelude.{string_bytes}
use Rattle.std.specs.Str.{IsUtf8}
use Rattle.strace_logs.specs.Unused.{names_behind}
use Rattle.strace_logs.specs.inner.Views.{names_now}
use Rattle.strace_logs.proofs.unused.put_names.Given as goal

abbrev pub invariant-loop-name : goal.invariant-loop-name
invariant-loop-name l = record {
  told : string_bytes l.text ++ names_behind l.last (names_now (drop l.name-index l.names)) ≡ string_bytes l.fn.text ++ names_behind [] (names_now l.names);
  utf8 : IsUtf8 l.last;
}
