-- A rule that matches one of the calls that were gathered matches each of them.
use Rattle.std.proofs.Common.{◌≡◌, ℕ, ◌+◌, ◌*◌, ◌-◌, ◌%◌, ◌^◌, ◌<◌, inl, inr, Bool, true, false, List, get_or, bit_and, sym, ap, subst, ◌∙◌, arith}
use Rattle.std.specs.Prelude.{slice_index_or}
use Rattle.std.specs.List.{All, Contains}
use Rattle.std.proofs.lemmas.List.Elements.{All-contains}
use Rattle.std.proofs.lemmas.Nat.{and_mask, and_assoc, and_comm}
use Rattle.std.proofs.Math.Nat.{mod-eq_of_lt}
use Rattle.call_record.specs.Words.{IsRecord, argument}
use Rattle.call_record.proofs.RecordLemmas.{argument-words_from}
use Rattle.machines.specs.declared.arch.Arch.{Arch}
use Rattle.machines.specs.Arch.{token_of}
use Rattle.machines.specs.Width.{compared, is_narrow}
use Rattle.profile.specs.declared.conditions.Cond.{Cond}
use Rattle.profile.specs.declared.conditions.Op.{Op}
use Rattle.profile.specs.declared.conditions.Op.TheVariants.{MaskedEq}
use Rattle.profile.specs.declared.rules.Rule.{Rule}
use Rattle.profile.specs.Condition.{Meets}
use Rattle.profile.specs.Operator.{Compares}
use Rattle.profile.specs.Policy.{IsNative, IsProfile, Policy, Says}
use Rattle.profile.specs.Rule.{Matches}
use Rattle.strace_logs.specs.Line.{words_of_call}
use Rattle.strace_logs.specs.declared.calls.Seen.{Seen}
use Rattle.strace_logs.specs.Taken.{Agree, AllowsEach, IsForEach, IsLow, IsWithin, OneAllows}

mask_within : (m b : ℕ) → m < 2 ^ b → bit_and (2 ^ b - 1) m ≡ m
mask_within m b lt = and_comm (2 ^ b - 1) m ∙ and_mask m b ∙ mod-eq_of_lt lt

-- a mask of the lowest bits sees no others
low_bits : (u m b : ℕ) → m < 2 ^ b → bit_and u m ≡ bit_and (u % 2 ^ b) m
low_bits u m b lt =
    sym (ap (λ x. bit_and x m) (sym (and_mask u b)) ∙ and_assoc m u (2 ^ b - 1) ∙ ap (bit_and u) (mask_within m b lt))

low_mask : (u m b : ℕ) → bit_and (u % 2 ^ b) m ≡ bit_and u (m % 2 ^ b)
low_mask u m b =
    sym (ap (bit_and u) (sym (and_mask m b) ∙ and_comm m (2 ^ b - 1)) ∙ sym (and_assoc m u (2 ^ b - 1)) ∙ ap (λ x. bit_and x m) (and_mask u b))

masked : (narrow : Bool) (u m b : ℕ) → m < 2 ^ b → bit_and (compared narrow u) m ≡ bit_and (u % 2 ^ b) (compared narrow m)
masked false u m b lt = low_bits u m b lt
masked true u m b lt = low_mask u m 32 ∙ low_bits u (m % 2 ^ 32) b (omega (arith, lt))

masked_too : (c : Cond) (narrow : Bool) (b x y : ℕ) → c.op ≡ MaskedEq → c.value < 2 ^ b → x % 2 ^ b ≡ y % 2 ^ b
    → Meets c (compared narrow x) → Meets c (compared narrow y)
masked_too c narrow b x y is lt same h =
    let at-x : bit_and (compared narrow x) c.value ≡ c.datum = subst (λ (o : Op). Compares o c.value c.datum (compared narrow x)) is h in
    let at-y : bit_and (compared narrow y) c.value ≡ c.datum =
    masked narrow y c.value b lt ∙ ap (λ u. bit_and u (compared narrow c.value)) (sym same) ∙ sym (masked narrow x c.value b lt) ∙ at-x in
    subst (λ (o : Op). Compares o c.value c.datum (compared narrow y)) (sym is) at-y

argument_fits : (r : List ℕ) (j : ℕ) → IsRecord r → argument r j < 2 ^ 64
argument_fits r j is =
    let low = is.words (4 + 2 * j) in
    let top = is.words (5 + 2 * j) in
    omega (arith, low, top)

-- a condition on so many of the lowest bits is met alike by arguments that agree in them
meets_too : (c : Cond) (narrow : Bool) (b x y : ℕ) → x < 2 ^ 64 → y < 2 ^ 64 → IsLow b c → x % 2 ^ b ≡ y % 2 ^ b
    → Meets c (compared narrow x) → Meets c (compared narrow y)
meets_too c narrow b x y fits-x fits-y (inl whole) same h =
    let at : x % 2 ^ 64 ≡ y % 2 ^ 64 = subst (λ (n : ℕ). x % 2 ^ n ≡ y % 2 ^ n) whole same in
    let e : x ≡ y = omega (arith, fits-x, fits-y, at) in
    subst (λ (u : ℕ). Meets c (compared narrow u)) e h
meets_too c narrow b x y fits-x fits-y (inr low) same h = masked_too c narrow b x y low.0 low.1 same h

same_low : (arch : Arch) (nr : ℕ) (bits values args : List ℕ) (j : ℕ)
    → get_or args j 0 % 2 ^ get_or bits j 0 ≡ get_or values j 0 % 2 ^ get_or bits j 0
    → argument (words_of_call (arch, nr, values)) j % 2 ^ get_or bits j 0 ≡ argument (words_of_call (arch, nr, args)) j % 2 ^ get_or bits j 0
same_low arch nr bits values args j e =
    ap (λ u. u % 2 ^ get_or bits j 0) (argument-words_from nr (token_of arch) 0 values j) ∙ sym e
    ∙ sym (ap (λ u. u % 2 ^ get_or bits j 0) (argument-words_from nr (token_of arch) 0 args j))

matches_too : (rule : Rule) (arch : Arch) (nr : ℕ) (bits values args : List ℕ) → Agree bits values args
    → All (IsWithin bits) rule.conds.items → IsRecord (words_of_call (arch, nr, values)) → IsRecord (words_of_call (arch, nr, args))
    → Matches rule (words_of_call (arch, nr, values)) → Matches rule (words_of_call (arch, nr, args))
matches_too rule arch nr bits values args agree within is-values is-args m = record {
  machine = m.machine;
  number = m.number;
  conditions = λ k d below.
      let c : Cond = slice_index_or rule.conds.items k d in
      let here : IsWithin bits c = within k d below in
      meets_too c (is_narrow (token_of arch)) (get_or bits c.index 0) (argument (words_of_call (arch, nr, values)) c.index)
      (argument (words_of_call (arch, nr, args)) c.index) (argument_fits (words_of_call (arch, nr, values)) c.index is-values)
      (argument_fits (words_of_call (arch, nr, args)) c.index is-args) here.1
      (same_low arch nr bits values args c.index (agree c.index here.0)) (m.conditions k d below);
}

pub for_each : (seen : Seen) (rule : Rule) → IsRecord (words_of_call (seen.arch, seen.nr, seen.values))
    → Matches rule (words_of_call (seen.arch, seen.nr, seen.values)) → All (IsWithin seen.bits) rule.conds.items → IsForEach seen rule
for_each seen rule is m within call covers is_record =
    let here : IsRecord (words_of_call (seen.arch, seen.nr, call.2)) =
    subst (λ (a : Arch). IsRecord (words_of_call (a, seen.nr, call.2))) covers.arch
    (subst (λ (n : ℕ). IsRecord (words_of_call (call.0, n, call.2))) covers.nr is_record) in
    let there : Matches rule (words_of_call (seen.arch, seen.nr, call.2)) =
    matches_too rule seen.arch seen.nr seen.bits seen.values call.2 covers.agrees within is here m in
    subst (λ (a : Arch). Matches rule (words_of_call (a, call.1, call.2))) (sym covers.arch)
    (subst (λ (n : ℕ). Matches rule (words_of_call (seen.arch, n, call.2))) (sym covers.nr) there)

says_rule : (p : Policy) (r : List ℕ) (rule : Rule) → IsProfile p → IsRecord r → IsNative p r → Contains p.rules rule → Matches rule r
    → Says p r rule.word
says_rule p r rule is is_record native among matches = record {
  foreign = λ alien. absurd (alien native);
  matched = λ _ other in_rules m. is.clear r is_record rule other among in_rules matches m;
  unmatched = λ _ none. absurd (All-contains (λ (x : Rule). ¬ Matches x r) p.rules rule none among matches);
}

-- a profile of whose rules one allows each of the calls
pub profile_allows : (p : Policy) (seen : Seen) → IsProfile p → IsNative p (words_of_call (seen.arch, seen.nr, seen.values))
    → OneAllows p.rules seen → AllowsEach p seen
profile_allows p seen is native (rule, among, allows, each) call covers is_record =
    let here : IsNative p (words_of_call call) =
    subst (λ (a : Arch). IsNative p (words_of_call (a, call.1, call.2))) (sym covers.arch)
    (subst (λ (n : ℕ). IsNative p (words_of_call (seen.arch, n, call.2))) (sym covers.nr) native) in
    subst (Says p (words_of_call call)) allows (says_rule p (words_of_call call) rule is is_record here among (each call covers is_record))
