use Rattle.std.proofs.Common.{◌≢◌, ◌↔◌, ◌<◌, ◌≤◌, length, refl, rules, subst, sym, true, false}
use Rattle.std.proofs.lemmas.List.{take_all}
use Rattle.rule_compile.specs.Rules.{SomeMet}
use Rattle.rule_compile.specs.inner.Asked.{IsAdded}
use Rattle.rule_compile.specs.inner.Left.{SomeHeld}
use Rattle.rule_compile.proofs.HeldLaws.{one_so_far}
use Rattle.rule_compile.proofs.asked.questions_of.Goals as goal

pub returns-then-branch-clause-says : goal.returns-then-branch-clause-says
returns-then-branch-clause-says c = λ r rec.
    let within : c.loop-placed.placed-index < length c.args.rules.now = search rules in
    let held : IsAdded c.loop-placed.questions c.add.new.self c.placed-item.result c.args.default true =
    subst (IsAdded c.loop-placed.questions c.add.new.self c.placed-item.result c.args.default) c.if-branch.true c.in_ok-add.ensures.says in
    (c.loop-placed.placed-index, c.placed-item.result, within, sym c.placed-item.is, (held r rec, refl))

pub returns-then-branch-clause-met : goal.returns-then-branch-clause-met
returns-then-branch-clause-met c =
    let within : c.loop-placed.placed-index < length c.args.rules.now = search rules in
    let held : IsAdded c.loop-placed.questions c.add.new.self c.placed-item.result c.args.default true =
    subst (IsAdded c.loop-placed.questions c.add.new.self c.placed-item.result c.args.default) c.if-branch.true c.in_ok-add.ensures.says in
    (c.placed-item.result, (c.loop-placed.placed-index, within, sym c.placed-item.is), refl, held)

pub loop-placed-preserved : goal.loop-placed-preserved
loop-placed-preserved c =
    let within : c.loop-placed.placed-index < length c.args.rules.now = search rules in
    let adds : IsAdded c.loop-placed.questions c.add.new.self c.placed-item.result c.args.default false =
    subst (IsAdded c.loop-placed.questions c.add.new.self c.placed-item.result c.args.default) c.if-branch.false c.in_ok-add.ensures.says in
    record {
      left = c.in_ok-add.ensures.rules c.loop-placed.invariant.left;
      says = λ r rec w. one_so_far c.loop-placed.questions.asked.items c.add.new.self.asked.items c.args.rules.now c.loop-placed.placed-index
          c.placed-item.result c.args.default r w within c.placed-item.is (adds r rec w) (c.loop-placed.invariant.says r rec w);
    }

pub returns-clause-says : goal.returns-clause-says
returns-clause-says c = λ r rec w.
    let ended : length c.args.rules.now ≤ c.loop-placed.placed-index = search rules in
    subst (λ rs. SomeMet c.loop-placed.questions.asked.items r w ↔ (SomeHeld rs r w × (w ≢ c.args.default)))
    (take_all c.loop-placed.placed-index c.args.rules.now ended) (c.loop-placed.invariant.says r rec w)
