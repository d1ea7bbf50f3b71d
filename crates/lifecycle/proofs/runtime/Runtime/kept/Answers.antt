use Rattle.std.proofs.Common.{sym, ap, ◌∙◌}
use Rattle.std.specs.Map.{lookup}
use Rattle.processes.specs.Views.{same_text}
use Rattle.lifecycle.specs.Listed.{listed}
use Rattle.lifecycle.proofs.CommandLaws.{if_none}
use Rattle.lifecycle.proofs.runtime.Runtime.kept.Goals as goal

pub returns-in_err-entry-clause-none : goal.returns-in_err-entry-clause-none
returns-in_err-entry-clause-none g c =
    if_none c.from_residual-in_err-entry.result
    (ap (λ q. lookup (same_text q) (listed c.args.self.now.entries)) (sym c.in_ok-name.ensures.text) ∙ sym c.in_err-entry.ensures.value)

pub returns-clause-some : goal.returns-clause-some
returns-clause-some g c = record {
  name = c.in_ok-name.ensures.text;
  kept = ap (λ q. lookup (same_text q) (listed c.args.self.now.entries)) (sym c.in_ok-name.ensures.text) ∙ sym c.in_ok-entry.ensures.value;
  distinct = c.in_ok-entry.ensures.distinct;
}
