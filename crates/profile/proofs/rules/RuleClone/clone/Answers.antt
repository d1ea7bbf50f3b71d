use Rattle.std.proofs.Common.{refl}
use Rattle.std.proofs.lemmas.List.Elements.{same_from_all_zip}
use Rattle.profile.proofs.Same.{same_rule}
use Rattle.profile.proofs.rules.RuleClone.clone.Goals as goal

pub returns : goal.returns
returns c = record {
  cases = same_rule _ c.args.self.now refl refl
      (same_from_all_zip _ c.args.self.now.conds.items c.in_ok-clone.field-0.items c.in_ok-clone.ensures.cases (λ x y e. e)) refl;
}
