use Rattle.std.proofs.Common.{◌∙◌, ◌<◌, ◌||◌, ap₂, arith, length, sym}
use Rattle.clap.specs.Words.{with_subcommand}
use Rattle.command_line.proofs.Grammars.{entries_more}
use Rattle.command_line.proofs.grammar.grammar.Goals as goal

pub loop-entry-preserved : goal.loop-entry-preserved
loop-entry-preserved c =
    let entries = c.args.entries.now in
    let leaf = c.in_ok-command_called.ensures in
    let lt : c.loop-entry.entry-index < length entries = omega (arith, c.loop-entry-test.true) in
    record {
      app = c.in_ok-program.ensures.shape leaf.1 ∙ ap₂ with_subcommand c.loop-entry.invariant.app leaf.0
          ∙ sym (entries_more entries c.loop-entry.entry-index _ lt);
      own = c.in_ok-program.ensures.globals ∙ ap₂ (λ a b. a || b) c.loop-entry.invariant.own leaf.1;
    }
