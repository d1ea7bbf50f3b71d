use Rattle.std.proofs.Common.{◌-◌, ◌∙◌, ap, arith, refl, subst, sym}
use Rattle.rule_compile.specs.declared.label.Label.{Label}
use Rattle.rule_compile.specs.inner.Code.{IsTarget}
use Rattle.rule_compile.specs.inner.Runs.{runs}
use Rattle.rule_compile.specs.inner.Steadily.{IsAlwaysSteady}
use Rattle.rule_compile.proofs.RunsLaws.{past_runs}
use Rattle.rule_compile.proofs.SteadyLaws.{past_steady}
use Rattle.rule_compile.proofs.assembler.Assembler.past_load.Goals as goal

pub returns-then-is_load-clause-runs : goal.returns-then-is_load-clause-runs
returns-then-is_load-clause-runs c a r is_r is holds_it =
    let code = c.args.self.now in
    let place = c.in-Place.place in
    let after : Label = record { to_end = place.to_end - 1 } in
    let at = subst (IsTarget code) c.in-Place.is c.requires in
    let found = c.if-is_load.ensures refl in
    past_runs code c.args.loaded place after is at (omega (arith, found.0)) (omega (arith, found.0)) found.1 a r is_r holds_it
    ∙ ap (λ to. runs code to a r) (sym c.in-Place.is)

pub returns-then-is_load-clause-steady : goal.returns-then-is_load-clause-steady
returns-then-is_load-clause-steady c s =
    let code = c.args.self.now in
    let place = c.in-Place.place in
    let after : Label = record { to_end = place.to_end - 1 } in
    let at = subst (IsTarget code) c.in-Place.is c.requires in
    let found = c.if-is_load.ensures refl in
    past_steady code c.args.loaded place after at (omega (arith, found.0)) (omega (arith, found.0)) found.1
    (subst (IsAlwaysSteady code) c.in-Place.is s)
