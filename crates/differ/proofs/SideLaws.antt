-- What a profile says of a record, rule by rule.
use Rattle.std.proofs.Common.{◌≡◌, ℕ, ◌+◌, ◌*◌, ◌^◌, ◌<◌, ◌≤◌, ◌&&◌, ◌==◌, Bool, true, false, inl, inr, List, [], ◌∷◌, drop, length, get_or, refl, sym, ◌∙◌, ap, arith, subst}
use Rattle.std.specs.Prelude.{if◌then◌else◌}
use Rattle.std.specs.List.{find, list_all, list_any}
use Rattle.std.proofs.lemmas.Bool.{cases_Bool}
use Rattle.std.proofs.lemmas.List.{drop_more, get_or_default, get_or_past}
use Rattle.call_record.specs.Words.{argument, word}
use Rattle.machines.specs.Arch.{token_of}
use Rattle.machines.specs.Numbers.{has_call}
use Rattle.machines.specs.Width.{compared, is_narrow}
use Rattle.profile.specs.declared.conditions.Cond.{Cond}
use Rattle.profile.specs.declared.rules.Rule.{Rule}
use Rattle.profile.specs.Policy.{Policy}
use Rattle.profile.specs.Rule.{argument_of}
use Rattle.profile.specs.Said.{is_native, matches, meets, said}
use Rattle.differ.specs.OnCall.{IsOfCall, bits_of, is_for}
use Rattle.differ.specs.Left.{AreWithin}
use Rattle.differ.specs.inner.Sides.{said_from}
use Rattle.differ.proofs.OpenLaws.{native_is}
use Rattle.differ.proofs.WalkLaws.{argument_below}

-- ---- arguments

small_compared : (narrow : Bool) (u : ℕ) → u < 2 ^ 64 → compared narrow u < 2 ^ 64
small_compared true u lt = omega arith
small_compared false u lt = lt

zero_compared : (narrow : Bool) (u : ℕ) → u ≡ 0 → compared narrow u ≡ 0
zero_compared true u none = omega arith
zero_compared false u none = none

pub argument_small : (token nr : ℕ) (r : List ℕ) (j : ℕ) → IsOfCall token nr r → argument_of r j < 2 ^ 64
argument_small token nr r j of =
    let low : word r (4 + 2 * j) < 2 ^ 32 = of.is_record.words (4 + 2 * j) in
    let high : word r (5 + 2 * j) < 2 ^ 32 = of.is_record.words (5 + 2 * j) in
    let whole : argument r j < 2 ^ 64 = omega arith in
    small_compared (is_narrow (word r 1)) (argument r j) whole

-- there are six
argument_beyond : (r : List ℕ) (j : ℕ) → length r ≡ 16 → 6 ≤ j → argument_of r j ≡ 0
argument_beyond r j len le =
    let low : get_or r (4 + 2 * j) 0 ≡ 0 = get_or_past r (4 + 2 * j) 0 (omega arith) in
    let high : get_or r (5 + 2 * j) 0 ≡ 0 = get_or_past r (5 + 2 * j) 0 (omega arith) in
    let none : argument r j ≡ 0 = omega arith in
    zero_compared (is_narrow (word r 1)) (argument r j) none

pub record_within : (token nr : ℕ) (r : List ℕ) → IsOfCall token nr r → AreWithin (bits_of token) 0 (bits_of token) (argument_of r)
record_within token nr r of = record {
  past = λ i before. absurd (omega arith);
  here = argument_below token nr r 0 of;
  later = λ i after inside. argument_below token nr r i of;
  beyond = λ i after. argument_beyond r i of.is_record.length_is after;
}

-- ---- rules

abbrev pub are_met_by : Rule → List ℕ → Bool
are_met_by rule r = list_all (λ c. meets c (argument_of r c.index)) rule.conds.items

for_matches : (token nr : ℕ) (rule : Rule) (r : List ℕ) → IsOfCall token nr r → matches rule r ≡ (is_for token nr rule && are_met_by rule r)
for_matches token nr rule r of =
    ap (λ t. ((t == token_of rule.arch) && (word r 0 == rule.nr)) && are_met_by rule r) of.machine
    ∙ ap (λ n. ((token == token_of rule.arch) && (n == rule.nr)) && are_met_by rule r) of.number

said_cons : (d : ℕ) (rule : Rule) (rules : List Rule) (r : List ℕ)
    → said_from d (rule ∷ rules) r ≡ (if matches rule r then rule.word else said_from d rules r)
said_cons d rule rules r = elim (cases_Bool (matches rule r)) [
  | inl hit ↦ rw hit refl
  | inr miss ↦ rw miss refl
]

pub same_read : (rules : List Rule) (i : ℕ) (a b : Rule) → i < length rules → a ≡ get_or rules i a → b ≡ get_or rules i b → a ≡ b
same_read rules i a b lt one other = one ∙ get_or_default rules i a b lt ∙ sym other

said_more : (d : ℕ) (rules : List Rule) (i : ℕ) (rule : Rule) (r : List ℕ) → i < length rules → rule ≡ get_or rules i rule
    → said_from d (drop i rules) r ≡ (if matches rule r then rule.word else said_from d (drop (i + 1) rules) r)
said_more d rules i rule r lt is =
    ap (λ rs. said_from d rs r) (drop_more rules i rule lt)
    ∙ said_cons d (get_or rules i rule) (drop (i + 1) rules) r
    ∙ ap (λ (x : Rule). if matches x r then x.word else said_from d (drop (i + 1) rules) r) (sym is)

pub said_more_for : (token nr d : ℕ) (rules : List Rule) (i : ℕ) (rule : Rule) (r : List ℕ) → IsOfCall token nr r → i < length rules
    → rule ≡ get_or rules i rule → is_for token nr rule ≡ true
    → said_from d (drop i rules) r ≡ (if are_met_by rule r then rule.word else said_from d (drop (i + 1) rules) r)
said_more_for token nr d rules i rule r of lt is for =
    said_more d rules i rule r lt is
    ∙ ap (λ b. if b then rule.word else said_from d (drop (i + 1) rules) r)
    (for_matches token nr rule r of ∙ ap (λ b. b && are_met_by rule r) for)

pub said_more_other : (token nr d : ℕ) (rules : List Rule) (i : ℕ) (rule : Rule) (r : List ℕ) → IsOfCall token nr r → i < length rules
    → rule ≡ get_or rules i rule → is_for token nr rule ≡ false → said_from d (drop i rules) r ≡ said_from d (drop (i + 1) rules) r
said_more_other token nr d rules i rule r of lt is for =
    said_more d rules i rule r lt is
    ∙ ap (λ b. if b then rule.word else said_from d (drop (i + 1) rules) r)
    (for_matches token nr rule r of ∙ ap (λ b. b && are_met_by rule r) for)

-- ---- the whole profile

pub said_native : (p : Policy) (token nr : ℕ) (r : List ℕ) → IsOfCall token nr r → list_any (has_call token nr) p.machines ≡ true
    → said p r ≡ said_from p.default_word p.rules r
said_native p token nr r of native =
    ap (λ b. if b then said_from p.default_word p.rules r else 0) (native_is p token nr r of ∙ native)

pub said_foreign : (p : Policy) (token nr : ℕ) (r : List ℕ) → IsOfCall token nr r → list_any (has_call token nr) p.machines ≡ false → said p r ≡ 0
said_foreign p token nr r of foreign =
    ap (λ b. if b then said_from p.default_word p.rules r else 0) (native_is p token nr r of ∙ foreign)
