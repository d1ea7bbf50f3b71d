use Rattle.std.proofs.Common.{◌≡◌, drop}
use Rattle.call_words.specs.Kinds.{kind_in, plain}
use Rattle.call_words.proofs.constant_names.kinds.kind_in.Given as goal

abbrev pub invariant-loop-row : goal.invariant-loop-row
invariant-loop-row l = kind_in l.call l.argument (plain (drop l.row-index l.table)) ≡ kind_in l.call l.argument (plain l.table)
