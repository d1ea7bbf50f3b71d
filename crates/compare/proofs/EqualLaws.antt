-- Profiles that are the same but for the order of their rules say the same.
use Rattle.std.proofs.Common.{◌≡◌, ℕ, List, subst, sym, ◌∙◌}
use Rattle.std.specs.Prelude.{slice_index_or}
use Rattle.std.specs.List.{All, Any, Contains}
use Rattle.std.proofs.lemmas.List.Elements.{All-contains}
use Rattle.call_record.specs.Words.{word}
use Rattle.machines.specs.Numbers.{HasCall}
use Rattle.profile.specs.Policy.{IsNative, Policy, Says}
use Rattle.profile.specs.Rule.{Matches}
use Rattle.profile.specs.declared.rules.Rule.{Rule}
use Rattle.compare.specs.Difference.{SayTheSame}
use Rattle.compare.specs.Equal.{AreEqual}

-- the same of the same lists
pub held : (xs xs2 ys ys2 : List Rule) → xs ≡ xs2 → ys ≡ ys2 → All (λ rule. Contains xs rule) ys → All (λ rule. Contains xs2 rule) ys2
held xs xs2 ys ys2 first second all =
    subst (λ zs. All (λ rule. Contains zs rule) ys2) first (subst (All (λ rule. Contains xs rule)) second all)

turned : (p q : Policy) → AreEqual p q → AreEqual q p
turned p q equal =
    record { machines = sym equal.machines; default_word = sym equal.default_word; first = equal.second; second = equal.first }

is_native : (p q : Policy) (r : List ℕ) → AreEqual p q → IsNative q r → IsNative p r
is_native p q r equal native = subst (Any (HasCall (word r 1) (word r 0))) (sym equal.machines) native

says : (p q : Policy) (r : List ℕ) (v : ℕ) → AreEqual p q → Says p r v → Says q r v
says p q r v equal said = record {
  foreign = λ not. said.foreign (λ native. not (is_native q p r (turned p q equal) native));
  matched = λ native rule own matches.
      said.matched (is_native p q r equal native) rule (All-contains (Contains p.rules) q.rules rule equal.second own) matches;
  unmatched = λ native none.
      said.unmatched (is_native p q r equal native)
      (λ k d within. All-contains (λ rule. Matches rule r → ⊥) q.rules (slice_index_or p.rules k d) none (equal.first k d within))
      ∙ equal.default_word;
}

pub equal_say_the_same : (p q : Policy) → AreEqual p q → SayTheSame p q
equal_say_the_same p q equal = λ r is v. (says p q r v equal, says q p r v (turned p q equal))
