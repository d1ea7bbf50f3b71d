-- A profile that was built of rules of the same parts says what the rules say that were added.
use Rattle.std.proofs.Common.{◌≡◌, ℕ, List, map, sym, subst, ◌∙◌, Some}
use Rattle.std.specs.List.{Any, Contains}
use Rattle.std.proofs.lemmas.Option.{same_Some}
use Rattle.std.proofs.lemmas.List.Elements.{All-contains}
use Rattle.call_record.specs.Words.{word}
use Rattle.machines.specs.declared.arch.Arch.{Arch}
use Rattle.machines.specs.Numbers.{HasCall}
use Rattle.profile.specs.declared.rules.Rule.{Rule}
use Rattle.profile.specs.Build.{IsBuiltOf}
use Rattle.profile.specs.Policy.{IsNative, Policy, Says}
use Rattle.profile.specs.Rule.{Matches}
use Rattle.profile.proofs.KeptLaws.{in_kept, kept_in}
use Rattle.filter_c.specs.declared.added.given.AddedRule.{AddedRule}
use Rattle.filter_c.specs.Machine.{machine_with}
use Rattle.filter_c.specs.Parts.{added_rule, kept_rule}
use Rattle.filter_c.specs.Saying.{AddedSay, IsOfMachine, IsOfMachines, MatchesAdded, SaysWhatWasAdded}
use Rattle.filter_c.proofs.Lists.{all_by, contains_map, contains_map_back}
use Rattle.filter_c.proofs.Same.{is_added, is_kept, same_action}

module _ {A : Type 0} (P : A → Type 0) (xs : List A) where
  pub any_of : (x : A) → Contains xs x → P x → Any P xs
  any_of x c p = (c.0, x, c.1, c.2, p)

module _ (machines : List ℕ) (default_action : ℕ) (added : List AddedRule) (native : Arch) (archs : List Arch) (rules : List Rule)
    (p : Policy) (built : IsBuiltOf native archs default_action rules p) (same_archs : map (λ (a : Arch). Some a) archs ≡ map machine_with machines)
    (same : map kept_rule rules ≡ map added_rule added) where
  -- ---- machines

  number_of : (a : Arch) → Contains archs a → (n : ℕ) × Contains machines n × (machine_with n ≡ Some a)
  number_of a c =
      contains_map_back machine_with machines (Some a)
      (subst (λ l. Contains l (Some a)) same_archs (contains_map (λ (b : Arch). Some b) archs a c))

  arch_of : (n : ℕ) (a : Arch) → Contains machines n → machine_with n ≡ Some a → Contains archs a
  arch_of n a c is =
      let found = contains_map_back (λ (b : Arch). Some b) archs (machine_with n)
      (subst (λ l. Contains l (machine_with n)) (sym same_archs) (contains_map machine_with machines n c)) in
      subst (Contains archs) (same_Some found.0 a (found.2 ∙ is)) found.1

  module _ (r : List ℕ) where
    native_is : IsNative p r → IsOfMachines machines r
    native_is h =
        let a = h.1 in
        let at = number_of a (built.machines_listed a (h.0, h.2, h.3)) in
        any_of (IsOfMachine r) machines at.0 at.1 (record { machine = a; machine_is = at.2; call = h.4 })

    is_native : IsOfMachines machines r → IsNative p r
    is_native h =
        let n = h.1 in
        let a = h.4.machine in
        let listed = arch_of n a (h.0, h.2, h.3) h.4.machine_is in
        any_of (HasCall (word r 1) (word r 0)) p.machines a (All-contains (Contains p.machines) archs a built.machines_all listed) h.4.call

    -- ---- rules

    added_of : (rule : Rule) → Contains p.rules rule → (g : AddedRule) × Contains added g × (added_rule g ≡ kept_rule rule)
    added_of rule c =
        contains_map_back added_rule added (kept_rule rule)
        (subst (λ l. Contains l (kept_rule rule)) same (contains_map kept_rule rules rule (kept_in rules p.rules built.rules_kept rule c)))

    rule_of : (g : AddedRule) → Contains added g → (rule : Rule) × Contains p.rules rule × (kept_rule rule ≡ added_rule g)
    rule_of g c =
        let found = contains_map_back kept_rule rules (added_rule g)
        (subst (λ l. Contains l (added_rule g)) (sym same) (contains_map added_rule added g c)) in
        (found.0, in_kept rules p.rules built.rules_kept found.0 found.1, found.2)

    -- ---- what is said

    module _ (v : ℕ) where
      says_added : Says p r v → AddedSay machines default_action added r v
      says_added h = record {
        foreign = λ none. h.foreign (λ native. none (native_is native));
        matched = λ is g has hit.
            let at = rule_of g has in
            h.matched (is_native is) at.0 at.1 (is_kept r at.0 g at.2 hit) ∙ same_action at.0 g at.2;
        unmatched = λ is none.
            h.unmatched (is_native is)
            (all_by (λ rule. ¬ Matches rule r) p.rules (λ rule has hit.
            let at = added_of rule has in
            All-contains (λ g. ¬ MatchesAdded g r) added at.0 none at.1 (is_added r rule at.0 (sym at.2) hit)))
            ∙ built.default_is;
      }

      added_says : AddedSay machines default_action added r v → Says p r v
      added_says h = record {
        foreign = λ none. h.foreign (λ is. none (is_native is));
        matched = λ native rule has hit.
            let at = added_of rule has in
            h.matched (native_is native) at.0 at.1 (is_added r rule at.0 (sym at.2) hit) ∙ sym (same_action rule at.0 (sym at.2));
        unmatched = λ native none.
            h.unmatched (native_is native)
            (all_by (λ g. ¬ MatchesAdded g r) added (λ g has hit.
            let at = rule_of g has in
            All-contains (λ rule. ¬ Matches rule r) p.rules at.0 none at.1 (is_kept r at.0 g at.2 hit)))
            ∙ sym built.default_is;
      }

  pub says_what_was_added : SaysWhatWasAdded machines default_action added p
  says_what_was_added r is_record v = (says_added r v, added_says r v)
