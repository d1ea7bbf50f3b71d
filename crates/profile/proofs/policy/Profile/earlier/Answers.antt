use Rattle.std.proofs.Common.{◌≡◌, List, ap, arith, length, subst, sym}
use Rattle.machines.specs.Arch.{token_of}
use Rattle.profile.specs.declared.rules.Rule.{Rule}
use Rattle.profile.specs.Latest.{IsLatest}
use Rattle.profile.specs.Policy.{Policy}
use Rattle.profile.specs.inner.Places.{IsIndexOf}
use Rattle.profile.proofs.policy.Profile.earlier.Goals as goal

pub earlier-requires : goal.earlier-requires
earlier-requires c =
    let p = c.args.self.now in
    let rules-are : c.self.inside.rules.items ≡ p.rules = ap (λ (q : Policy). q.rules) c.self.view_is in
    omega (arith, c.requires, ap length rules-are, c.self.invariant.1.as_many)

pub returns : goal.returns
returns c = λ rule at.
    let p = c.args.self.now in
    let rules-are : c.self.inside.rules.items ≡ p.rules = ap (λ (q : Policy). q.rules) c.self.view_is in
    let index : IsIndexOf p.rules c.self.inside.index =
    subst (λ (xs : List Rule). IsIndexOf xs c.self.inside.index) rules-are c.self.invariant.1 in
    subst (IsLatest p.rules (token_of rule.arch) rule.nr c.args.place) (sym c.earlier.ensures) (index.earlier c.args.place rule at)
