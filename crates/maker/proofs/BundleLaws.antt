-- Which bundles mean plain profiles.
use Rattle.std.proofs.Common.{◌≡◌, ◌≤◌, ℕ, Bool, true, false, List, refl, sym, ap, subst, ◌∙◌, arith}
use Rattle.std.specs.Prelude.{Some}
use Rattle.std.specs.List.{All, Contains, list_any}
use Rattle.std.proofs.lemmas.List.Elements.{All-contains, All-contains_itself, All-weaker}
use Rattle.machines.specs.declared.arch.Arch.{Arch}
use Rattle.machines.specs.declared.arch.Arch.TheVariants.{X86_64, Aarch64, LinuxX86_64, LinuxX86, LinuxX32, LinuxAarch64, LinuxArm, LinuxRiscv64, LinuxPpc64le, LinuxLoongarch64, LinuxS390x, LinuxS390}
use Rattle.machines.specs.declared.arch.Family.TheVariants.{Chosen, Whole}
use Rattle.machines.specs.Arch.{family_of, same_arch}
use Rattle.call_tables.specs.Tables.{table_of}
use Rattle.call_tables.specs.Table.{name_in}
use Rattle.call_tables.proofs.InverseLaws.{table_of-inverse}
use Rattle.profile.specs.declared.rules.Rule.{Rule}
use Rattle.profile.specs.Machines.{in_order}
use Rattle.profile.specs.Policy.{Policy}
use Rattle.profile.proofs.KeptLaws.{kept_in}
use Rattle.profile.proofs.MachineLaws.{family_in}
use Rattle.profile_json.specs.Parts.{RuleParts, rule_parts}
use Rattle.profile_json.specs.Rules.{rules_of, rules_of_entry, rules_under}
use Rattle.profile_json.proofs.Lists.{contains_flat_back, contains_map}
use Rattle.profile_json.proofs.clashing.Clashing.{IsUnder, under_back}
use Rattle.rule_compile.specs.Shape.{IsPlain, IsPlainRule, tokens}
use Rattle.maker.specs.evidence.Tables.{HasSmallNumbers, IsX32Beside}
use Rattle.maker.proofs.TableLaws.{beside_small, table_rule_is_plain}
use Rattle.maker.specs.Finding.{IsBundle}
use Rattle.maker.specs.Plain.{BundlesArePlain, HasNoConditions}

-- ---- the rules of a bundle

-- a rule is for a listed machine, and its number stands in the machine's table
record IsOfTable (p : Policy) (rule : Rule) : Type 0 where
  listed : Contains p.machines rule.arch
  name : List ℕ
  named : name_in (table_of rule.arch) rule.nr ≡ Some name

in_table : (native : Arch) (bundle : List ℕ) (p : Policy) → IsBundle native bundle p → (rule : Rule) → Contains p.rules rule
    → IsOfTable p rule
in_table native bundle p is rule stands =
    let calls = is.2.calls in
    let r = rule_parts rule in
    let in_said : Contains calls.said rule = kept_in calls.said p.rules calls.kept rule stands in
    let here : Contains (rules_of p.machines calls.entries) r =
    subst (λ (l : List RuleParts). Contains l r) calls.said_is (contains_map rule_parts calls.said rule in_said) in
    let entry = contains_flat_back (rules_of_entry p.machines) calls.entries r here in
    let named = contains_flat_back (rules_under p.machines entry.0) entry.0.names r entry.2 in
    let from : IsUnder p.machines entry.0 named.0 r = under_back p.machines entry.0 named.0 r named.2 in
    let arch : rule.arch ≡ from.arch = ap (λ (s : RuleParts). s.arch) from.is in
    let nr : rule.nr ≡ from.nr = ap (λ (s : RuleParts). s.nr) from.is in record {
      listed = subst (Contains p.machines) (sym arch) from.listed;
      name = named.0;
      named = ap (λ a. name_in (table_of a) rule.nr) arch ∙ ap (name_in (table_of from.arch)) nr
          ∙ (table_of-inverse from.arch named.0 from.nr).0 from.nr_is;
    }

-- ---- machines of the chosen lists

chosen_small : (arch : Arch) → family_of arch ≡ Chosen → HasSmallNumbers arch
chosen_small X86_64 is = tt
chosen_small Aarch64 is = tt
chosen_small LinuxX86_64 is = cc
chosen_small LinuxX86 is = cc
chosen_small LinuxX32 is = cc
chosen_small LinuxAarch64 is = cc
chosen_small LinuxArm is = cc
chosen_small LinuxRiscv64 is = cc
chosen_small LinuxPpc64le is = cc
chosen_small LinuxLoongarch64 is = cc
chosen_small LinuxS390x is = cc
chosen_small LinuxS390 is = cc

-- they have two tokens at most
chosen_few : (archs : List Arch) → tokens (in_order Chosen archs) ≤ 2
chosen_few archs = by (listed X86_64) (listed Aarch64) refl refl where
  listed : Arch → Bool
  listed a = list_any (same_arch a) archs

  by : (x a : Bool) → listed X86_64 ≡ x → listed Aarch64 ≡ a → tokens (in_order Chosen archs) ≤ 2
  by true true at_x at_a = rw (at_x, at_a) (omega arith)
  by true false at_x at_a = rw (at_x, at_a) (omega arith)
  by false true at_x at_a = rw (at_x, at_a) (omega arith)
  by false false at_x at_a = rw (at_x, at_a) (omega arith)

-- ---- plain profiles

module _ (native : Arch) (bundle : List ℕ) (p : Policy) (is : IsBundle native bundle p) where
  plain_by : tokens p.machines ≤ 2 → IsX32Beside p.machines
      → ((rule : Rule) → Contains p.rules rule → HasNoConditions rule × HasSmallNumbers rule.arch) → IsPlain p
  plain_by few beside simple = record {
    rules = All-weaker (Contains p.rules) IsPlainRule
        (λ rule stands.
        let of = in_table native bundle p is rule stands in
        table_rule_is_plain rule ((simple rule stands).0, (simple rule stands).1, (of.name, of.named)))
        p.rules (All-contains_itself p.rules);
    small = beside_small p.machines beside;
    few = few;
    clear = is.2.calls.clear;
  }

  whole : tokens p.machines ≤ 2 → IsX32Beside p.machines → All (λ rule. HasNoConditions rule × HasSmallNumbers rule.arch) p.rules
      → IsPlain p
  whole few beside rules =
      plain_by few beside (λ rule stands. All-contains (λ (r : Rule). HasNoConditions r × HasSmallNumbers r.arch) p.rules rule rules stands)

  module _ (family : family_of native ≡ Chosen) where
    order : p.machines ≡ in_order Chosen is.2.calls.archs
    order = is.2.calls.machines_are ∙ ap (λ f. in_order f is.2.calls.archs) family

    of_chosen : (arch : Arch) → Contains p.machines arch → family_of arch ≡ Chosen
    of_chosen arch listed =
        All-contains (λ a. family_of a ≡ Chosen) p.machines arch (family_in Chosen is.2.calls.archs p.machines order) listed

    chosen : All HasNoConditions p.rules → IsPlain p
    chosen none =
        plain_by (subst (λ (ms : List Arch). tokens ms ≤ 2) (sym order) (chosen_few is.2.calls.archs))
        (λ listed. absurd (not_chosen (of_chosen LinuxX32 listed)))
        (λ rule stands. (
          All-contains HasNoConditions p.rules rule none stands,
          chosen_small rule.arch (of_chosen rule.arch (in_table native bundle p is rule stands).listed),
        )) where
          not_chosen : Whole ≡ Chosen → ⊥
          not_chosen e = cc

pub bundles_are_plain : BundlesArePlain
bundles_are_plain = record {
  chosen = λ native bundle p is family none. chosen native bundle p is family none;
  whole = λ native bundle p is few beside rules. whole native bundle p is few beside rules;
}
