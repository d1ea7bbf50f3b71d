use Rattle.std.proofs.Common.{◌≡◌, List, ap, length, subst, sym}
use Rattle.profile.specs.declared.rules.Rule.{Rule}
use Rattle.profile.specs.Latest.{IsLatest}
use Rattle.profile.specs.Policy.{Policy}
use Rattle.profile.specs.inner.Places.{IsIndexOf}
use Rattle.profile.proofs.policy.Profile.latest.Goals as goal

pub returns : goal.returns
returns c =
    let p = c.args.self.now in
    let rules-are : c.self.inside.rules.items ≡ p.rules = ap (λ (q : Policy). q.rules) c.self.view_is in
    let index : IsIndexOf p.rules c.self.inside.index =
    subst (λ (xs : List Rule). IsIndexOf xs c.self.inside.index) rules-are c.self.invariant.1 in
    subst (IsLatest p.rules c.args.token c.args.number (length p.rules)) (sym c.latest.ensures) (index.latest c.args.token c.args.number)
