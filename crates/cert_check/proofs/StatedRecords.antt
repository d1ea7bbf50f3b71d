-- Where each word of a record is stated, the rule of returns is kept by the verdict that the profile says.
use Rattle.std.proofs.Common.{◌≡◌, ℕ, zero, suc, ◌⊎◌, Bool, true, false, List, [], ◌∷◌, Some, None}
use Rattle.std.proofs.Common.{refl, sym, subst, ◌∙◌, inl, inr, arith}
use Rattle.std.specs.Prelude.{slice_get, find, unwrap_or, All, Any, Contains}
use Rattle.std.specs.Option.{option_map}
use Rattle.std.proofs.lemmas.Bool.{cases_Bool, cases_eq}
use Rattle.std.proofs.lemmas.Bool.Decides.{not_from_Decides}
use Rattle.std.proofs.lemmas.List.Elements.{All-contains}
use Rattle.call_record.specs.Words.{IsRecord, word}
use Rattle.machines.specs.declared.arch.Arch.{Arch}
use Rattle.machines.specs.declared.numbers.Numbers.{Numbers}
use Rattle.machines.specs.Arch.{token_of, family_of, same_arch}
use Rattle.machines.specs.Numbers.{HasCall, IsOwn, IsWithin, foreign_numbers, own_numbers}
use Rattle.machines.proofs.ArchLaws.{Decides-same_arch}
use Rattle.machines.proofs.ForeignLaws.{native_or_foreign, none_foreign}
use Rattle.profile.specs.declared.rules.Rule.{Rule}
use Rattle.profile.specs.Rule.{Matches}
use Rattle.profile.specs.Policy.{Policy, InOrder, IsNative}
use Rattle.profile.specs.Said.{said, matches, is_native}
use Rattle.profile.proofs.SaidLaws.{Decides-matches, Decides-is_native}
use Rattle.profile.proofs.MachineLaws.{family_in}
use Rattle.cert_state.specs.declared.literal.Lit.{Lit}
use Rattle.cert_state.specs.Literals.{Holds}
use Rattle.cert_check.specs.Agree.{Agrees, ForeignNumbersAgree, IsAmong, IsRuleOf, ListedAgrees, MachineAgrees, RulesAgree}
use Rattle.cert_check.specs.Settled.{AreStated, StatedIsSettled}
use Rattle.cert_check.proofs.Elements.{each_of}
use Rattle.cert_check.proofs.StatedPoints.{between_follows, word_follows, another_follows}
use Rattle.cert_check.proofs.StatedRules.{match_is_yes, mismatch_is_no, none_said}

-- the verdict of the first rule that passes, or of none, by the rule's place
abbrev first_verdict : (Rule → Bool) → ℕ → List Rule → ℕ
first_verdict test default rules = unwrap_or (option_map (λ rule. rule.word) (find test rules)) default

record IsFirst (test : Rule → Bool) (default : ℕ) (rules : List Rule) : Type 0 where
  place : ℕ
  rule : Rule
  stands : slice_get rules place ≡ Some rule
  passes : test rule ≡ true
  verdict_is : rule.word ≡ first_verdict test default rules

record IsNone (test : Rule → Bool) (default : ℕ) (rules : List Rule) : Type 0 where
  fails : (place : ℕ) (rule : Rule) → slice_get rules place ≡ Some rule → test rule ≡ false
  default_is : default ≡ first_verdict test default rules

fails_first : (test : Rule → Bool) (x : Rule) (xs : List Rule) → test x ≡ false
    → ((place : ℕ) (rule : Rule) → slice_get xs place ≡ Some rule → test rule ≡ false)
    → (place : ℕ) (rule : Rule) → slice_get (x ∷ xs) place ≡ Some rule → test rule ≡ false
fails_first test x xs miss rest zero rule at =
    let same : x ≡ rule = cc in subst (λ y. test y ≡ false) same miss
fails_first test x xs miss rest (suc place) rule at = rest place rule at

find_past : (test : Rule → Bool) (default : ℕ) (x : Rule) (xs : List Rule) → test x ≡ false
    → first_verdict test default xs ≡ first_verdict test default (x ∷ xs)
find_past test default x xs miss = rw miss refl

find_here : (test : Rule → Bool) (default : ℕ) (x : Rule) (xs : List Rule) → test x ≡ true → x.word ≡ first_verdict test default (x ∷ xs)
find_here test default x xs hit = rw hit refl

first_or_none : (test : Rule → Bool) (default : ℕ) (rules : List Rule) → IsFirst test default rules ⊎ IsNone test default rules
first_or_none test default [] =
    inr (record { fails = λ place rule at. absurd (let e : None ≡ Some rule = at in cc); default_is = refl })
first_or_none test default (x ∷ xs) = elim (cases_Bool (test x)) [
  | inl hit ↦ inl (record { place = 0; rule = x; stands = refl; passes = hit; verdict_is = find_here test default x xs hit })
  | inr miss ↦
      let past = find_past test default x xs miss in
      elim (first_or_none test default xs) [
        | inl one ↦ inl (record {
          place = suc one.place;
          rule = one.rule;
          stands = one.stands;
          passes = one.passes;
          verdict_is = one.verdict_is ∙ past;
        })
        | inr none ↦ inr (record { fails = fails_first test x xs miss none.fails; default_is = none.default_is ∙ past })
      ]
]

-- what is said of a foreign record, and of another
said_foreign : (policy : Policy) (r : List ℕ) → is_native policy r ≡ false → said policy r ≡ 0
said_foreign policy r foreign = rw foreign refl

said_native : (policy : Policy) (r : List ℕ) → is_native policy r ≡ true
    → said policy r ≡ first_verdict (λ rule. matches rule r) policy.default_word policy.rules
said_native policy r native = rw native refl

module _ (policy : Policy) (known : List Lit) (r : List ℕ) (ordered : InOrder policy.machines) (rec : IsRecord r)
    (so : All (λ l. Holds l r) known) (stated : AreStated known r) where
  -- the rules of the record's machine say what the profile says of a record that is no foreign one
  rules_agree : (arch : Arch) → word r 1 ≡ token_of arch → is_native policy r ≡ true → RulesAgree policy [] [] known (said policy r) arch
  rules_agree arch machine native =
      let v = said_native policy r native in
      elim (first_or_none (λ rule. matches rule r) policy.default_word policy.rules) [
        | inl one ↦
            let m : Matches one.rule r = (Decides-matches one.rule r).0 one.passes in
            inl (record {
              place = one.place;
              rule = one.rule;
              is_of = record {
                stands = one.stands;
                left = record { not_out = none_said one.place; is_for = sym m.machine ∙ machine };
              };
              is_yes = match_is_yes r rec known so stated one.place one.rule m;
              word = one.verdict_is ∙ sym v;
            })
        | inr none ↦
            let no = λ (place : ℕ) (rule : Rule) (of : IsRuleOf policy [] arch place rule).
            mismatch_is_no r rec known so stated place rule (machine ∙ sym of.left.is_for)
            (not_from_Decides _ (Decides-matches rule r) (none.fails place rule of.stands)) in
            inr (record {
              none_yes = λ place rule of. (no place rule of).1;
              default = none.default_is ∙ sym v;
              each = λ place rule of. inl (no place rule of);
            })
      ]

  -- a number that lies among these is known to
  among : (all : List Numbers) → Any (IsWithin (word r 0)) all → IsAmong known all
  among all (k, numbers, inside, at, within) =
      (k, numbers, inside, at, between_follows r rec known so stated 0 numbers.first numbers.last (omega arith) within.0 within.1)

  -- the number of a foreign record with the token of a listed machine is foreign
  is_foreign : (arch : Arch) → Contains policy.machines arch → word r 1 ≡ token_of arch → is_native policy r ≡ false
      → Any (IsWithin (word r 0)) (foreign_numbers policy.machines arch)
  is_foreign arch listed machine alien = elim (native_or_foreign policy.machines arch (word r 0) (rec.words 0) listed) [
    | inl its ↦
        let native : IsNative policy r = subst (λ t. Any (HasCall t (word r 0)) policy.machines) (sym machine) its in
        absurd (not_from_Decides _ (Decides-is_native policy r) alien native)
    | inr foreign ↦ foreign
  ]

  of_family : (arch : Arch) → Contains policy.machines arch → family_of arch ≡ ordered.0
  of_family arch =
      All-contains (λ a. family_of a ≡ ordered.0) policy.machines arch (family_in ordered.0 policy.machines policy.machines ordered.1)

  -- the number of a record that is no foreign one is the machine's own, or another listed machine has the token
  own_number : (arch : Arch) → Contains policy.machines arch → word r 1 ≡ token_of arch → is_native policy r ≡ true
      → ForeignNumbersAgree known (said policy r) arch (foreign_numbers policy.machines arch)
  own_number arch listed machine native =
      let at = (Decides-is_native policy r).0 native in
      let its : Contains policy.machines at.1 = (at.0, at.2, at.3) in
      elim (cases_Bool (same_arch at.1 arch)) [
        | inl same ↦
            inr (inr (among (own_numbers arch) (subst (λ a. IsOwn a (word r 0)) ((Decides-same_arch at.1 arch).0 same) at.4.1)))
        | inr differ ↦
            inl (none_foreign policy.machines arch at.1 its (of_family at.1 its ∙ sym (of_family arch listed)) (at.4.0 ∙ machine) differ)
      ]

  machine_agrees : (arch : Arch) → Contains policy.machines arch → word r 1 ≡ token_of arch
      → MachineAgrees policy [] [] known (said policy r) arch
  machine_agrees arch listed machine = elim (cases_Bool (is_native policy r)) [
    | inl native ↦ record { foreign = own_number arch listed machine native; rules = inr (rules_agree arch machine native) }
    | inr alien ↦ record {
      foreign = inr (inl (said_foreign policy r alien));
      rules = inl (among (foreign_numbers policy.machines arch) (is_foreign arch listed machine alien));
    }
  ]

  listed_agrees : (arch : Arch) → Contains policy.machines arch → ListedAgrees policy [] [] known (said policy r) arch
  listed_agrees arch listed = elim (cases_eq (word r 1) (token_of arch)) [
    | inr another ↦ inl (another_follows r rec known so stated 1 (token_of arch) (omega arith) another)
    | inl machine ↦ inr (machine_agrees arch listed machine)
  ]

  settled : Agrees policy [] [] known (said policy r)
  settled = record {
    foreign = elim (cases_Bool (is_native policy r)) [
      | inr foreign ↦ inr (said_foreign policy r foreign)
      | inl native ↦
          let at = (Decides-is_native policy r).0 native in
          inl (at.1, (at.0, at.2, at.3), word_follows r rec known so stated 1 (token_of at.1) (omega arith) (sym at.4.0))
    ];
    machines = each_of (ListedAgrees policy [] [] known (said policy r)) policy.machines listed_agrees;
  }

pub stated_settled : StatedIsSettled
stated_settled policy known r ordered rec so stated = settled policy known r ordered rec so stated
