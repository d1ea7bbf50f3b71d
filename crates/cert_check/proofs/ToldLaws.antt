-- What a table tells of rules, each at its place.
use Rattle.std.proofs.Common.{◌≡◌, ℕ, zero, suc, ◌==◌, ◌<◌, ◌≤◌, Bool, true, false, List, [], Option, None, Some, length, refl, sym, ◌∙◌, ap, subst, inl, inr}
use Rattle.std.specs.Prelude.{Contains, IfSome, if◌then◌else◌, replicate, slice_get, slice_index_or, slice_set}
use Rattle.std.proofs.lemmas.Bool.{cases_eq, eq-eqb, ne_eqb}
use Rattle.std.proofs.lemmas.List.{get_or-set_same, get_or-set_other}
use Rattle.std.proofs.lemmas.Option.{same_Some}
use Rattle.profile.specs.declared.conditions.Cond.{Cond}
use Rattle.profile.specs.declared.rules.Rule.{Rule}
use Rattle.profile.specs.Rule.{is_narrow_rule}
use Rattle.profile.specs.Policy.{Policy}
use Rattle.cert_state.specs.declared.literal.Lit.{Lit}
use Rattle.cert_check.specs.declared.judged.Asked.{Asked}
use Rattle.cert_check.specs.declared.judged.Asked.TheVariants.{AllYes, OneNo}
use Rattle.cert_check.specs.declared.judged.Bearing.TheVariants.{Agrees}
use Rattle.cert_check.specs.inner.Alike.{SayTheSame}
use Rattle.cert_check.specs.inner.Judged.{Bears, IsAnswer}
use Rattle.cert_check.specs.inner.Told.{AreTold, IsToldOf, turn}
use Rattle.cert_check.proofs.MetsLaws.{no_rule, none_left}

-- the answer to what is asked of conditions, of a rule of this verdict that bears on it or does not
abbrev IsAsked : List Lit → ℕ → Bool → ℕ → Bool → List Cond → Type 0
IsAsked known v bears word narrow conds =
    let asked = if word == v then AllYes else OneNo in IsAnswer asked narrow [] known 0 conds (turn asked bears)

-- what is told of a rule is so of one that says the same
pub same_told : (known : List Lit) (v : ℕ) (a b : Rule) (bears : Bool) → SayTheSame a b → IsToldOf known v a bears → IsToldOf known v b bears
same_told known v a b bears same told = (
  subst (λ (cs : List Cond). IsAsked known v bears b.word (is_narrow_rule b) cs) same.conds
      (subst (λ (narrow : Bool). IsAsked known v bears b.word narrow a.conds.items) same.narrow
      (subst (λ (word : ℕ). IsAsked known v bears word (is_narrow_rule a) a.conds.items) same.word told.0)),
  subst (λ (cs : List Cond). length cs ≤ 6) same.conds told.1,
)

-- an answer that is turned twice is the same again
pub turned_twice : (asked : Asked) (so : Bool) → turn asked (turn asked so) ≡ so
turned_twice AllYes so = refl
turned_twice OneNo true = refl
turned_twice OneNo false = refl

-- a rule that does not bear on the verdict by its conditions agrees with it, where none of them is said to be met
pub told_agrees : (met : List (ℕ × ℕ)) (known : List Lit) (v place : ℕ) (rule : Rule) → IsToldOf known v rule false
    → ((own : ℕ) → own < 6 → Contains met (place, own) → ⊥) → Bears met known v place rule Agrees
told_agrees met known v place rule told none = elim (cases_eq rule.word v) [
  | inl same ↦
      (let says : IsAnswer AllYes (is_narrow_rule rule) [] known 0 rule.conds.items false =
      subst (λ (b : Bool). let asked = if b then AllYes else OneNo in IsAnswer asked (is_narrow_rule rule) [] known 0 rule.conds.items (turn asked false))
      (eq-eqb rule.word v same) told.0 in
      let all = none_left AllYes (is_narrow_rule rule) met known place rule.conds.items false told.1 none says in
      (λ yes. absurd (let e : false ≡ true = all.1 yes.1 in cc), inr same))
  | inr other ↦
      (let says : IsAnswer OneNo (is_narrow_rule rule) [] known 0 rule.conds.items true =
      subst (λ (b : Bool). let asked = if b then AllYes else OneNo in IsAnswer asked (is_narrow_rule rule) [] known 0 rule.conds.items (turn asked false))
      (ne_eqb rule.word v other) told.0 in
      let no = (none_left OneNo (is_narrow_rule rule) met known place rule.conds.items true told.1 none says).0 refl in
      (λ _. other, inl (no_rule met known place rule no)))
]

-- one rule more
pub one_told : (policy : Policy) (known : List Lit) (v : ℕ) (table : List (Option Bool)) (place : ℕ) (rule : Rule) (bears : Bool)
    → place < length table → slice_get policy.rules place ≡ Some rule → AreTold policy known v table → IsToldOf known v rule bears
    → AreTold policy known v (slice_set table place (Some bears))
one_told policy known v table place rule bears within stands so told k x at = elim (cases_eq k place) [
  | inl same ↦
      (let its : rule ≡ x = same_Some rule x (sym stands ∙ (ap (slice_get policy.rules) (sym same) ∙ at)) in
      subst (λ j. IfSome (slice_index_or (slice_set table place (Some bears)) j None) (IsToldOf known v x)) (sym same)
      (subst (λ (o : Option Bool). IfSome o (IsToldOf known v x)) (sym (get_or-set_same table place (Some bears) None within))
      (subst (λ y. IsToldOf known v y bears) its told)))
  | inr apart ↦
      subst (λ (o : Option Bool). IfSome o (IsToldOf known v x)) (sym (get_or-set_other table place k (Some bears) None apart)) (so k x at)
]

-- nothing is told yet
abbrev no_answer : Option Bool
no_answer = None

none_there : (size k : ℕ) → slice_index_or (replicate size no_answer) k no_answer ≡ no_answer
none_there zero k = refl
none_there (suc size) zero = refl
none_there (suc size) (suc k) = none_there size k

pub none_told : (policy : Policy) (known : List Lit) (v size : ℕ) → AreTold policy known v (replicate size None)
none_told policy known v size k rule at = subst (λ (o : Option Bool). IfSome o (IsToldOf known v rule)) (sym (none_there size k)) tt
