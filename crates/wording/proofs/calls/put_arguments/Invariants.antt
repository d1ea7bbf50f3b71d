use Rattle.std.proofs.Common.{◌≡◌, ◌++◌, drop}
use Rattle.std.specs.Prelude.{string_bytes}
use Rattle.wording.specs.Phrases.{arguments_text}
use Rattle.wording.proofs.calls.put_arguments.Given as goal

abbrev pub invariant-loop-arg : goal.invariant-loop-arg
invariant-loop-arg l =
    string_bytes l.text ++ arguments_text (drop l.arg-index l.args) ≡ string_bytes l.fn.text ++ arguments_text l.args
