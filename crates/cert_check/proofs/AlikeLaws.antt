-- Machines of one token.
use Rattle.std.proofs.Common.{◌≡◌, ℕ, List, sym, ◌∙◌, inl, inr}
use Rattle.machines.specs.declared.arch.Arch.{Arch}
use Rattle.machines.specs.Arch.{token_of}
use Rattle.profile.specs.declared.rules.Rule.{Rule}
use Rattle.profile.specs.Policy.{Policy}
use Rattle.cert_state.specs.declared.literal.Lit.{Lit}
use Rattle.cert_check.specs.Agree.{IsRuleOf, RulesAgree}

-- they have the same rules
pub agree_by_token : (policy : Policy) (out : List ℕ) (met : List (ℕ × ℕ)) (known : List Lit) (v : ℕ) (arch other : Arch)
    → token_of arch ≡ token_of other → RulesAgree policy out met known v arch → RulesAgree policy out met known v other
agree_by_token policy out met known v arch other same agree = by agree where
  moved : (place : ℕ) (rule : Rule) (a b : Arch) → token_of a ≡ token_of b → IsRuleOf policy out a place rule → IsRuleOf policy out b place rule
  moved place rule a b e of = record {
    stands = of.stands;
    left = record { not_out = of.left.not_out; is_for = of.left.is_for ∙ e };
  }

  by : RulesAgree policy out met known v arch → RulesAgree policy out met known v other
  by (inl one) = inl (record {
    place = one.place;
    rule = one.rule;
    is_of = moved one.place one.rule arch other same one.is_of;
    is_yes = one.is_yes;
    word = one.word;
  })
  by (inr none) = inr (record {
    none_yes = λ place rule of. none.none_yes place rule (moved place rule other arch (sym same) of);
    default = none.default;
    each = λ place rule of. none.each place rule (moved place rule other arch (sym same) of);
  })
