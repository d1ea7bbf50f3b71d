-- Conditions and rules with the same parts are the same.
use Rattle.std.proofs.Common.{◌≡◌, List, [], ◌∷◌, map, refl, ap}
use Rattle.profile.specs.declared.conditions.Cond.{Cond}
use Rattle.profile.specs.declared.rules.Rule.{Rule}
use Rattle.profile.proofs.Same.{same_cond, same_rule}
use Rattle.profile_json.specs.Parts.{CondParts, RuleParts, cond_parts, rule_parts}

cond_same : (a b : Cond) → cond_parts a ≡ cond_parts b → a ≡ b
cond_same a b h = same_cond a b (ap (λ (p : CondParts). p.index) h) (ap (λ (p : CondParts). p.op) h) (ap (λ (p : CondParts). p.value) h)
    (ap (λ (p : CondParts). p.datum) h)

module _ {A B : Type 0} where
  -- a list is told by what is made of it, where each element is
  map_same : (f : A → B) → ((x y : A) → f x ≡ f y → x ≡ y) → (xs ys : List A) → map f xs ≡ map f ys → xs ≡ ys
  map_same f one [] [] h = refl
  map_same f one [] (y ∷ ys) h = cc
  map_same f one (x ∷ xs) [] h = cc
  map_same f one (x ∷ xs) (y ∷ ys) h =
      let head : f x ≡ f y = cc in
      let tail : map f xs ≡ map f ys = cc in
      let first : x ≡ y = one x y head in
      let rest : xs ≡ ys = map_same f one xs ys tail in
      cc

pub rule_same : (a b : Rule) → rule_parts a ≡ rule_parts b → a ≡ b
rule_same a b h =
    same_rule a b (ap (λ (p : RuleParts). p.arch) h) (ap (λ (p : RuleParts). p.nr) h)
    (map_same cond_parts cond_same a.conds.items b.conds.items (ap (λ (p : RuleParts). p.conds) h)) (ap (λ (p : RuleParts). p.word) h)

pub rules_same : (xs ys : List Rule) → map rule_parts xs ≡ map rule_parts ys → xs ≡ ys
rules_same = map_same rule_parts rule_same
