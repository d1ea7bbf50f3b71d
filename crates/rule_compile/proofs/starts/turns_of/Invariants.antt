use Rattle.std.specs.Prelude.{◌<◌, ◌^◌, take}
use Rattle.std.specs.List.{All, Contains}
use Rattle.rule_compile.proofs.StartLaws.{Turns}
use Rattle.rule_compile.proofs.starts.turns_of.Given as goal

abbrev pub invariant-loop-open : goal.invariant-loop-open
invariant-loop-open l = record {
  words : All (λ number. number < 2 ^ 32) l.turns.items;
  zero : Contains l.turns.items 0;
  turns : All (Turns l.subject l.turns.items) (take l.open-index l.rules);
}
