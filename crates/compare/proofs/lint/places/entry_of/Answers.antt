use Rattle.std.proofs.Common.{List, ap, sym, ◌∙◌}
use Rattle.std.specs.Prelude.{Option, ℕ, position}
use Rattle.call_record.specs.Record.{words}
use Rattle.profile.specs.declared.rules.Rule.{Rule}
use Rattle.profile.specs.Said.{matches}
use Rattle.compare.specs.LintTold.{entry_with}
use Rattle.compare.proofs.lint.places.entry_of.Goals as goal

pub returns-in-Some : goal.returns-in-Some
returns-in-Some c =
    c.entry_of.ensures
    ∙ ap (λ (place : Option ℕ). entry_with c.args.all.now.ends.items place)
    (sym c.in-Some.is ∙ c.first_match.ensures
    ∙ ap (λ (rules : List Rule). position (λ rule. matches rule (words c.args.call.now)) rules) c.deref.ensures.value)
