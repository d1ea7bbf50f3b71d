use Rattle.std.proofs.Common.{rules, arith, sym, subst, refl, ◌+◌}
use Rattle.certify.specs.inner.Places.{IsLearned}
use Rattle.certify.specs.declared.paths.Paths.{Paths}
use Rattle.certify.proofs.PathLaws.{learned_one}
use Rattle.certify.proofs.paths.Paths.learn.Goals as goal

pub returns-clause-learned : goal.returns-clause-learned
returns-clause-learned c =
    let t : Paths = record { entries = c.push.new.self; places = c.args.self.now.places; kinds = c.args.self.now.kinds } in
    subst (λ o. IsLearned c.args.self.now t c.args.from o (c.len-count.result + 1, c.args.from.depth + 1)) (sym c.in-Some.is)
    (learned_one c.args.self.now t c.args.from c.in-Some.literal c.len-count.result c.requires.paths c.requires.from (search rules)
    (omega (arith, c.if-from-ge-MAX_LITERALS.false)) c.in_ok-push.ensures.items refl refl (search rules))
