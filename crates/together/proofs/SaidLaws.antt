-- Profiles say the same of records whose arguments are answered alike.
use Rattle.std.proofs.Common.{◌≡◌, ℕ, ◌<◌, ◌==◌, ◌&&◌, inl, inr, false, cond, List, [], ◌∷◌, ◌++◌, filter, refl, sym, ◌∙◌, ap, subst}
use Rattle.std.specs.Prelude.{Some}
use Rattle.std.specs.List.{All, find, flat_map, list_all}
use Rattle.std.proofs.lemmas.Bool.{cases_Bool, eq-eqb}
use Rattle.std.proofs.lemmas.List.Elements.{All-head, All-tail}
use Rattle.call_record.specs.Words.{word}
use Rattle.machines.specs.Arch.{token_of}
use Rattle.profile.specs.declared.conditions.Cond.{Cond}
use Rattle.profile.specs.declared.rules.Rule.{Rule}
use Rattle.profile.specs.Policy.{Policy}
use Rattle.profile.specs.Rule.{argument_of}
use Rattle.profile.specs.Said.{is_native, matches, meets, said}
use Rattle.differ.specs.Cells.{AreAlike}
use Rattle.differ.specs.OnCall.{IsOfCall, conditions_on, is_for, on_argument, rules_for}
use Rattle.differ.specs.declared.named.Call.{Call}
use Rattle.differ.proofs.OpenLaws.{all_left, all_right, native_is, said_by}
use Rattle.together.specs.declared.way.Way.{Way}
use Rattle.together.specs.OnCall.{AgreesOn, conditions_of, own_conditions}
use Rattle.together.specs.Together.{each_said}
use Rattle.together.specs.Word.{word_of}

-- the arguments of two records are answered alike
abbrev pub AllAlike : (ℕ → List Cond) → List ℕ → List ℕ → Type 0
AllAlike conds r s = (j : ℕ) → j < 6 → AreAlike (conds j) (argument_of r j) (argument_of s j)

-- ---- one rule

conds_same : (cs : List Cond) (r s : List ℕ) → AllAlike (λ j. filter (λ c. c.index == j) cs) r s
    → list_all (λ c. meets c (argument_of r c.index)) cs ≡ list_all (λ c. meets c (argument_of s c.index)) cs
conds_same [] r s h = refl
conds_same (c ∷ cs) r s h =
    let i = c.index in
    let P : Cond → Type 0 = λ x. meets x (argument_of r i) ≡ meets x (argument_of s i) in
    let both : All P (c ∷ filter (λ x. x.index == i) cs) =
    subst (λ b. All P (cond b (c ∷ filter (λ x. x.index == i) cs) (filter (λ x. x.index == i) cs))) (eq-eqb i i refl) (h i c.in_range) in
    let rest : AllAlike (λ j. filter (λ x. x.index == j) cs) r s = λ j lt.
    (let Q : Cond → Type 0 = λ x. meets x (argument_of r j) ≡ meets x (argument_of s j) in
    elim (cases_Bool (c.index == j)) [
      | inl here ↦
          All-tail Q c (filter (λ x. x.index == j) cs)
          (subst (λ b. All Q (cond b (c ∷ filter (λ x. x.index == j) cs) (filter (λ x. x.index == j) cs))) here (h j lt))
      | inr other ↦ subst (λ b. All Q (cond b (c ∷ filter (λ x. x.index == j) cs) (filter (λ x. x.index == j) cs))) other (h j lt)
    ]) in
    ap (λ b. b && list_all (λ x. meets x (argument_of r x.index)) cs) (All-head P c (filter (λ x. x.index == i) cs) both)
    ∙ ap (λ b. meets c (argument_of s i) && b) (conds_same cs r s rest)

match_parts : (token nr : ℕ) (r : List ℕ) (rule : Rule) → IsOfCall token nr r
    → matches rule r ≡ (is_for token nr rule && list_all (λ c. meets c (argument_of r c.index)) rule.conds.items)
match_parts token nr r rule of =
    let head : is_for token nr rule ≡ ((word r 1 == token_of rule.arch) && (word r 0 == rule.nr)) =
    ap (λ t. (t == token_of rule.arch) && (nr == rule.nr)) (sym of.machine)
    ∙ ap (λ n. (word r 1 == token_of rule.arch) && (n == rule.nr)) (sym of.number) in
    ap (λ b. b && list_all (λ c. meets c (argument_of r c.index)) rule.conds.items) (sym head)

-- ---- the rules of a profile

find_same : (token nr : ℕ) (rules : List Rule) (r s : List ℕ) → IsOfCall token nr r → IsOfCall token nr s
    → AllAlike (λ j. conditions_on j (rules_for token nr rules)) r s → find (λ rule. matches rule r) rules ≡ find (λ rule. matches rule s) rules
find_same token nr [] r s of_r of_s h = refl
find_same token nr (rule ∷ rules) r s of_r of_s h =
    let more : List Rule = rules_for token nr rules in
    elim (cases_Bool (is_for token nr rule)) [
      | inl mine ↦
          let both : AllAlike (λ j. on_argument j rule ++ conditions_on j more) r s = λ j lt.
          subst (λ b. AreAlike (conditions_on j (cond b (rule ∷ more) more)) (argument_of r j) (argument_of s j)) mine (h j lt) in
          let first : AllAlike (λ j. on_argument j rule) r s = λ j lt.
          all_left (λ c. meets c (argument_of r j) ≡ meets c (argument_of s j)) (on_argument j rule) (conditions_on j more) (both j lt) in
          let rest : AllAlike (λ j. conditions_on j more) r s = λ j lt.
          all_right (λ c. meets c (argument_of r j) ≡ meets c (argument_of s j)) (on_argument j rule) (conditions_on j more) (both j lt) in
          let same : matches rule r ≡ matches rule s =
          match_parts token nr r rule of_r
          ∙ ap (λ b. is_for token nr rule && b) (conds_same rule.conds.items r s first)
          ∙ sym (match_parts token nr s rule of_s) in
          ap (λ b. cond b (Some rule) (find (λ x. matches x r) rules)) same
          ∙ ap (λ o. cond (matches rule s) (Some rule) o) (find_same token nr rules r s of_r of_s rest)
      | inr other ↦
          let rest : AllAlike (λ j. conditions_on j more) r s = λ j lt.
          subst (λ b. AreAlike (conditions_on j (cond b (rule ∷ more) more)) (argument_of r j) (argument_of s j)) other (h j lt) in
          let one : matches rule r ≡ false =
          match_parts token nr r rule of_r ∙ ap (λ b. b && list_all (λ c. meets c (argument_of r c.index)) rule.conds.items) other in
          let two : matches rule s ≡ false =
          match_parts token nr s rule of_s ∙ ap (λ b. b && list_all (λ c. meets c (argument_of s c.index)) rule.conds.items) other in
          ap (λ b. cond b (Some rule) (find (λ x. matches x r) rules)) one
          ∙ find_same token nr rules r s of_r of_s rest
          ∙ sym (ap (λ b. cond b (Some rule) (find (λ x. matches x s) rules)) two)
    ]

said_alike : (call : Call) (p : Policy) (r s : List ℕ) → IsOfCall call.token call.nr r → IsOfCall call.token call.nr s
    → AllAlike (λ j. own_conditions call j p) r s → said p r ≡ said p s
said_alike call p r s of_r of_s h =
    let native : is_native p r ≡ is_native p s = native_is p call.token call.nr r of_r ∙ sym (native_is p call.token call.nr s of_s) in
    ap (λ b. said_by p b (find (λ rule. matches rule r) p.rules)) native
    ∙ ap (λ f. said_by p (is_native p s) f) (find_same call.token call.nr p.rules r s of_r of_s h)

-- ---- several profiles

each_alike : (call : Call) (ps : List Policy) (r s : List ℕ) → IsOfCall call.token call.nr r → IsOfCall call.token call.nr s
    → AllAlike (λ j. flat_map (own_conditions call j) ps) r s → each_said ps r ≡ each_said ps s
each_alike call [] r s of_r of_s h = refl
each_alike call (p ∷ ps) r s of_r of_s h =
    let first : AllAlike (λ j. own_conditions call j p) r s = λ j lt.
    all_left (λ c. meets c (argument_of r j) ≡ meets c (argument_of s j)) (own_conditions call j p) (flat_map (own_conditions call j) ps) (h j lt) in
    let rest : AllAlike (λ j. flat_map (own_conditions call j) ps) r s = λ j lt.
    all_right (λ c. meets c (argument_of r j) ≡ meets c (argument_of s j)) (own_conditions call j p) (flat_map (own_conditions call j) ps) (h j lt) in
    ap (λ v. v ∷ each_said ps r) (said_alike call p r s of_r of_s first)
    ∙ ap (λ vs. said p s ∷ vs) (each_alike call ps r s of_r of_s rest)

-- where each says the same of two records, what is so of one is so of the other
pub agree_moves : (way : Way) (ps : List Policy) (q : Policy) (r s : List ℕ) → each_said ps r ≡ each_said ps s → said q r ≡ said q s
    → AgreesOn way ps q s → AgreesOn way ps q r
agree_moves way ps q r s each own agree = own ∙ agree ∙ ap (word_of way) (sym each)

pub agree_alike : (way : Way) (call : Call) (ps : List Policy) (q : Policy) (r s : List ℕ) → IsOfCall call.token call.nr r
    → IsOfCall call.token call.nr s → AllAlike (conditions_of ps q call) r s → AgreesOn way ps q s → AgreesOn way ps q r
agree_alike way call ps q r s of_r of_s h =
    let first : AllAlike (λ j. flat_map (own_conditions call j) ps) r s = λ j lt.
    all_left (λ c. meets c (argument_of r j) ≡ meets c (argument_of s j)) (flat_map (own_conditions call j) ps) (own_conditions call j q) (h j lt) in
    let rest : AllAlike (λ j. own_conditions call j q) r s = λ j lt.
    all_right (λ c. meets c (argument_of r j) ≡ meets c (argument_of s j)) (flat_map (own_conditions call j) ps) (own_conditions call j q) (h j lt) in
    agree_moves way ps q r s (each_alike call ps r s of_r of_s first) (said_alike call q r s of_r of_s rest)
