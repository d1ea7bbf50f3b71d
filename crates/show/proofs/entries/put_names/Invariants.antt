-- What is told, and what is to be told of the rules that are left, is all.
use Rattle.std.proofs.Common.{◌≡◌, ◌++◌, [], drop}
use Rattle.std.specs.Prelude.{string_bytes}
use Rattle.std.specs.Str.{IsUtf8}
use Rattle.show.specs.Read.{names_behind}
use Rattle.show.proofs.entries.put_names.Given as goal

abbrev pub invariant-loop-rule : goal.invariant-loop-rule
invariant-loop-rule l = record {
  told : string_bytes l.text ++ names_behind l.last (drop l.rule-index l.rules) ≡ string_bytes l.fn.text ++ names_behind [] l.rules;
  utf8 : IsUtf8 l.last;
}
