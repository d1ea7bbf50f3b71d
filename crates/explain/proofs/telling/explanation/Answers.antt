use Rattle.std.proofs.Common.{◌≡◌, subst}
use Rattle.std.specs.Prelude.{string_bytes}
use Rattle.call_record.specs.Record.{words}
use Rattle.machines.specs.Arch.{family_of}
use Rattle.machines.specs.declared.arch.Arch.{Arch}
use Rattle.explain.specs.Explanation.{told_by}
use Rattle.wording.specs.Reason.{reason_of}
use Rattle.explain.proofs.telling.explanation.Goals as goal

pub returns-clause-explains : goal.returns-clause-explains
returns-clause-explains c =
    let means = c.in_ok-read.ensures.ok in
    let told = c.in_ok-text.ensures in
    let policy = c.in_ok-read.read.now.profile in
    let rules = c.in_ok-read.read.now.by_entry.rules.items in
    let ends = c.in_ok-read.read.now.by_entry.ends.items in
    record {
      policy = policy;
      rules = rules;
      ends = ends;
      read = record { t = means.0; is_text = means.1; means = means.2; are = c.in_ok-read.ensures.rules };
      said = told.0;
      says = told.1;
      told = subst (λ (machine : Arch). string_bytes c.in_ok-text.text
          ≡ told_by (family_of machine) told.0 (reason_of policy rules ends (words c.args.call.now)) rules ends c.args.call.now)
          c.native.ensures told.2;
    }
