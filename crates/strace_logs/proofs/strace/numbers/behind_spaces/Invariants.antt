-- The text that is left.
use Rattle.std.proofs.Common.{◌≡◌, length}
use Rattle.std.specs.Str.{IsUtf8}
use Rattle.strace_logs.specs.Line.{behind_spaces}
use Rattle.strace_logs.proofs.strace.numbers.behind_spaces.Given as goal

abbrev pub invariant-space : goal.invariant-space
invariant-space l = record {
  left : behind_spaces l.text ≡ behind_spaces l.rest;
  utf8 : IsUtf8 l.rest;
}

abbrev pub decreases-space : goal.decreases-space
decreases-space l = length l.rest
