use Rattle.std.proofs.Common.{◌≡◌, false, map, take}
use Rattle.clap.specs.Words.{app_of}
use Rattle.clap.specs.declared.builder.command.Command.TheViews.{out-Command as fields_of}
use Rattle.command_line.specs.Table.{row}
use Rattle.command_line.specs.inner.Grammar.{grammar_of}
use Rattle.command_line.proofs.grammar.grammar.Given as goal

abbrev pub invariant-loop-entry : goal.invariant-loop-entry
invariant-loop-entry l = record {
  app : app_of l.program ≡ grammar_of (map row (take l.entry-index l.entries));
  own : (fields_of l.program).has_globals ≡ false;
}
