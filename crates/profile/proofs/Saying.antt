-- The verdict that a profile says, from a rule that matches, and where none does.
use Rattle.std.proofs.Common.{◌≡◌, ℕ, ◌<◌, List, length, get_or, refl, sym, subst}
use Rattle.std.specs.List.{All}
use Rattle.profile.specs.declared.rules.Rule.{Rule}
use Rattle.profile.specs.Rule.{Matches}
use Rattle.call_record.specs.Words.{IsRecord}
use Rattle.profile.specs.Policy.{Policy, IsNative, Says, IsClear}

pub says_match : (p : Policy) (r : List ℕ) (i : ℕ) (x : Rule) → IsClear p.rules → IsRecord r → IsNative p r → i < length p.rules
    → x ≡ get_or p.rules i x → Matches x r → Says p r x.word
says_match p r i x clear is_r native lt at m = record {
  foreign = λ no. absurd (no native);
  matched = λ _ rule has hit. clear r is_r x rule (i, lt, sym at) has m hit;
  unmatched = λ _ none. absurd (none i x lt (subst (λ (y : Rule). Matches y r) at m));
}

pub says_default : (p : Policy) (r : List ℕ) → IsNative p r → All (λ rule. ¬ Matches rule r) p.rules → Says p r p.default_word
says_default p r native none = record {
  foreign = λ no. absurd (no native);
  matched = λ _ rule has hit. absurd (none has.0 rule has.1 (subst (λ (y : Rule). Matches y r) (sym has.2) hit));
  unmatched = λ _ _. refl;
}
