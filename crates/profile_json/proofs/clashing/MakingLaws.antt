-- What the answer of building a profile says of the entries.
use Rattle.std.proofs.Common.{◌≡◌, ℕ, List, map, Option, Some, None, IsSomeAnd, IfSome, option_map, sym, ◌∙◌, ap, subst}
use Rattle.std.specs.List.{Contains, slice_get}
use Rattle.std.proofs.lemmas.Option.{slice_get-map}
use Rattle.machines.specs.declared.arch.Arch.{Arch}
use Rattle.machines.specs.declared.arch.Family.{Family}
use Rattle.machines.specs.Arch.{family_of, AreOfFamily}
use Rattle.profile.specs.declared.rules.Rule.{Rule}
use Rattle.profile.specs.declared.fault.BuildError.{BuildError}
use Rattle.profile.specs.declared.fault.BuildError.TheVariants.{NativeMissing, MixedFamilies, ForeignRule, Overlap, TooMany}
use Rattle.profile.specs.Machines.{in_order}
use Rattle.profile.specs.Policy.{InOrder}
use Rattle.profile.specs.Build.{IsFirstCause, AreMachinesFor, IsFirstClash, IsFirstForeign, AreListed, ClashAt, AreTooMany}
use Rattle.profile_json.specs.Fault.{Fault, too_many}
use Rattle.profile_json.specs.Parts.{EntryParts, RuleParts, rule_parts}
use Rattle.profile_json.specs.Rules.{rules_of_entry, rules_of, rules_under}
use Rattle.profile_json.specs.inner.Reading.{Said}
use Rattle.profile_json.specs.inner.Clashes.{HasClash, IsOverlap}
use Rattle.profile_json.specs.inner.Making.{IsNotMade, many, clash}
use Rattle.profile_json.proofs.Lists.{contains_at, contains_flat_back}
use Rattle.profile_json.proofs.clashing.Clashing.{IsUnder, under_back}

pub if_is_some_and : {X : Type 0} (o : Option X) {P Q : X → Type 0} → IsSomeAnd o P → ((x : X) → P x → Q x) → IfSome o Q
if_is_some_and None h then = absurd h
if_is_some_and (Some x) h then = then x h

-- the machines are those that are listed, in order
pub order_of : (native : Arch) (family : Family) (archs these items machines : List Arch) → machines ≡ items → items ≡ in_order family these
    → family ≡ family_of native → these ≡ archs → machines ≡ in_order (family_of native) archs
order_of native family archs these items machines is ordered of listed =
    is ∙ ordered ∙ ap (λ f. in_order f these) of ∙ ap (in_order (family_of native)) listed

pub has_clash : (native : Arch) (machines : List Arch) (es : List EntryParts) (rules : List Rule) (e : BuildError) (i j : ℕ) → InOrder machines
    → map rule_parts rules ≡ rules_of machines es → e ≡ Overlap i j → IsFirstCause native machines rules e → HasClash machines es j
has_clash native machines es rules e i j order said is stands =
    let cause : AreMachinesFor native machines × AreListed machines rules × (¬ AreTooMany rules) × IsFirstClash rules i j =
    subst (IsFirstCause native machines rules) is stands in
    let at : ClashAt rules i j = cause.3.clash in
    record {
      order = order;
      said = rules;
      said_is = said;
      earlier = i;
      before = at.0;
      first = at.1;
      first_at = at.3;
      second = at.2;
      second_at =
          at.4;
      clash = at.5;
    }

pub not_missing : (native : Arch) (machines : List Arch) (rules : List Rule) (e : BuildError) → Contains machines native
    → e ≡ NativeMissing → IsFirstCause native machines rules e → ⊥
not_missing native machines rules e listed is stands =
    let cause : ¬ Contains machines native = subst (IsFirstCause native machines rules) is stands in
    cause listed

pub not_mixed : (native : Arch) (machines : List Arch) (rules : List Rule) (e : BuildError) → AreOfFamily (family_of native) machines
    → e ≡ MixedFamilies → IsFirstCause native machines rules e → ⊥
not_mixed native machines rules e of is stands =
    let cause : Contains machines native × ¬ AreOfFamily (family_of native) machines = subst (IsFirstCause native machines rules) is stands in
    cause.1 of

pub no_foreign : (native : Arch) (machines : List Arch) (es : List EntryParts) (rules : List Rule) (e : BuildError) (i : ℕ)
    → map rule_parts rules ≡ rules_of machines es → e ≡ ForeignRule i → IsFirstCause native machines rules e → ⊥
no_foreign native machines es rules e i said is stands =
    let cause : AreMachinesFor native machines × IsFirstForeign machines rules i = subst (IsFirstCause native machines rules) is stands in
    let at : (rule : Rule) × (slice_get rules i ≡ Some rule) × ¬ Contains machines rule.arch =
    (cause.1.rule, cause.1.at, cause.1.foreign) in
    let here : slice_get (rules_of machines es) i ≡ Some (rule_parts at.0) = ap (λ rs. slice_get rs i) (sym said)
    ∙ slice_get-map rule_parts rules i ∙ ap (option_map rule_parts) at.1 in
    let among = contains_flat_back (rules_of_entry machines) es (rule_parts at.0)
    (contains_at (rules_of machines es) i (rule_parts at.0) here) in
    let named = contains_flat_back (rules_under machines among.0) among.0.names (rule_parts at.0) among.2 in
    let from : IsUnder machines among.0 named.0 (rule_parts at.0) = under_back machines among.0 named.0 (rule_parts at.0) named.2 in
    let arch : from.arch ≡ at.0.arch = sym (ap (λ (r : RuleParts). r.arch) from.is) in
    at.2 (subst (Contains machines) arch from.listed)

pub too_many_rules : (said : Said) (native : Arch) (machines : List Arch) (rules : List Rule) (e : BuildError)
    → machines ≡ in_order (family_of native) said.archs → map rule_parts rules ≡ rules_of machines said.entries → e ≡ TooMany
    → IsFirstCause native machines rules e → IsNotMade said native too_many
too_many_rules said native machines rules e order are is stands =
    let cause : AreMachinesFor native machines × AreListed machines rules × AreTooMany rules =
    subst (IsFirstCause native machines rules) is stands in
    let at : AreTooMany rules = cause.2 in
    many rules (are ∙ ap (λ ms. rules_of ms said.entries) order) at

pub clash_refused : (said : Said) (native : Arch) (machines : List Arch) (f : Fault) → machines ≡ in_order (family_of native) said.archs
    → IsOverlap machines said.entries f → IsNotMade said native f
clash_refused said native machines f order is = clash f (subst (λ ms. IsOverlap ms said.entries f) order is)
