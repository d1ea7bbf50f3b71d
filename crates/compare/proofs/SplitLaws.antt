-- How the records are split, one region after another.
use Rattle.std.proofs.Common.{◌≡◌, ◌↔◌, ℕ, zero, suc, ◌+◌, ◌<◌, ◌≤◌, ◌⊎◌, Bool, true, false, List, [], ◌∷◌, ◌++◌, refl, sym, subst, arith, inl, inr}
use Rattle.std.specs.Prelude.{Some, map}
use Rattle.bpf_insn.specs.declared.instruction.Insn.{Insn}
use Rattle.bpf_insn.specs.Machine.{verdict_of}
use Rattle.call_record.specs.Words.{IsRecord, word}
use Rattle.machines.specs.declared.numbers.Numbers.{Numbers}
use Rattle.machines.specs.Numbers.{IsWithin}
use Rattle.compare.specs.declared.behind_runc.stub.calls.Calls.{Calls}
use Rattle.compare.specs.declared.behind_runc.stub.region.Region.{Region}
use Rattle.compare.specs.Stub.{IsAnswered, IsOf, enosys}
use Rattle.compare.specs.inner.Parts.{IsAmong, Splits, SplitsBy, calls_of}
use Rattle.compare.specs.inner.Path.{IsIn, answer_of}
use Rattle.compare.proofs.AnyLaws.{any_mapped, mapped_any}
use Rattle.rule_compile.proofs.RulesLaws.{any_cases, any_either, any_left, any_nil, any_right}

-- a number is below another one, or is not
below_or_not : (n m : ℕ) → (n < m) ⊎ (m ≤ n)
below_or_not zero zero = inr (omega arith)
below_or_not zero (suc m) = inl (omega arith)
below_or_not (suc n) zero = inr (omega arith)
below_or_not (suc n) (suc m) = elim (below_or_not n m) [ inl h ↦ inl (omega arith) | inr h ↦ inr (omega arith) ]

-- a number that is among numbers is one of them where others are added
module _ (p rest : List Insn) (region : Region) (old new : List Numbers) (next : ℕ) (first : region.numbers.first ≡ next)
    (below : (n : ℕ) → IsAmong n old → n < next)
    (splits : (r : List ℕ) → IsRecord r → IsWithin (word r 1) region.tokens → word r 0 < next → SplitsBy p rest old r) where
  module _ (yes : (n : ℕ) → IsAmong n new ↔ (IsAmong n old ⊎ IsWithin n region.numbers))
      (answer : (r : List ℕ) → IsIn region r → verdict_of p r ≡ Some enosys) where
    answered_splits : (r : List ℕ) → IsRecord r → IsWithin (word r 1) region.tokens → word r 0 ≤ region.numbers.last → SplitsBy p rest new r
    answered_splits r is token most = elim (below_or_not (word r 0) next) [
      | inl less ↦
          let before = splits r is token less in
          record {
            answers = λ among. elim ((yes (word r 0)).0 among) [
              | inl h ↦ before.answers h
              | inr h ↦ absurd (omega (arith, h, less, first))
            ];
            others = λ no. before.others (λ h. no ((yes (word r 0)).1 (inl h)));
          }
      | inr least ↦
          let within : IsWithin (word r 0) region.numbers = (omega (arith, first, least), most) in
          let is_in : IsIn region r = record { is_record = is; number = within; token = token } in
          record {
            answers = λ among. answer r is_in;
            others = λ no. absurd (no ((yes (word r 0)).1 (inr within)));
          }
    ]

  module _ (no : new ≡ old) (answer : (r : List ℕ) → IsIn region r → verdict_of p r ≡ verdict_of rest r) where
    passed_splits : (r : List ℕ) → IsRecord r → IsWithin (word r 1) region.tokens → word r 0 ≤ region.numbers.last → SplitsBy p rest new r
    passed_splits r is token most = elim (below_or_not (word r 0) next) [
      | inl less ↦ subst (λ numbers. SplitsBy p rest numbers r) (sym no) (splits r is token less)
      | inr least ↦
          let within : IsWithin (word r 0) region.numbers = (omega (arith, first, least), most) in
          let is_in : IsIn region r = record { is_record = is; number = within; token = token } in
          record {
            answers = λ among.
                let less = below (word r 0) (subst (λ numbers. IsAmong (word r 0) numbers) no among) in
                absurd (omega (arith, less, least));
            others = λ never. answer r is_in;
          }
    ]

  -- the numbers of one region more are split
  pub more_splits : (answered : Bool) → (answered ≡ true → (n : ℕ) → IsAmong n new ↔ (IsAmong n old ⊎ IsWithin n region.numbers))
      → (answered ≡ false → new ≡ old) → ((r : List ℕ) → IsIn region r → verdict_of p r ≡ answer_of answered rest r)
      → (r : List ℕ) → IsRecord r → IsWithin (word r 1) region.tokens → word r 0 ≤ region.numbers.last → SplitsBy p rest new r
  more_splits true = λ y n answer. answered_splits (y refl) answer
  more_splits false = λ y n answer. passed_splits (n refl) answer

  -- they are all below the next one
  pub more_below : (answered : Bool) → (answered ≡ true → (n : ℕ) → IsAmong n new ↔ (IsAmong n old ⊎ IsWithin n region.numbers))
      → (answered ≡ false → new ≡ old) → region.numbers.first ≤ region.numbers.last
      → (n : ℕ) → IsAmong n new → n < region.numbers.last + 1
  more_below true = λ y e some n among. elim ((y refl n).0 among) [
    | inl h ↦ let less = below n h in omega (arith, less, first, some)
    | inr h ↦ omega (arith, h)
  ]
  more_below false = λ y e some n among.
      let less = below n (subst (λ numbers. IsAmong n numbers) (e refl) among) in omega (arith, less, first, some)

-- ---- the calls of one token more

module _ (p rest : List Insn) (tokens : Numbers) (numbers : List Numbers) (old : List Calls)
    (mixed : (tokens.first ≡ tokens.last) ⊎ (numbers ≡ []))
    (below : (r : List ℕ) → IsAnswered old r → word r 1 < tokens.first)
    (splits : (r : List ℕ) → IsRecord r → word r 1 < tokens.first → Splits p rest old r)
    (split_by : (r : List ℕ) → IsRecord r → IsWithin (word r 1) tokens → SplitsBy p rest numbers r) where
  -- the calls that come in addition are of the first token
  pub of_first : (r : List ℕ) → IsAnswered (map (calls_of tokens.first) numbers) r → (word r 1 ≡ tokens.first) × IsAmong (word r 0) numbers
  of_first r h = (token_of numbers h, mapped_any (IsWithin (word r 0)) (IsOf r) (calls_of tokens.first) (λ n is. is.1) numbers h) where
    token_of : (some : List Numbers) → IsAnswered (map (calls_of tokens.first) some) r → word r 1 ≡ tokens.first
    token_of [] g = absurd (any_nil (IsOf r) g)
    token_of (n ∷ some) g = elim (any_cases (IsOf r) (calls_of tokens.first n) (map (calls_of tokens.first) some) g) [
      | inl here ↦ here.0
      | inr later ↦ token_of some later
    ]

  -- a number of the first token is of a call that comes in addition
  of_number : (r : List ℕ) → word r 1 ≡ tokens.first → IsAmong (word r 0) numbers → IsAnswered (map (calls_of tokens.first) numbers) r
  of_number r e h = any_mapped (IsWithin (word r 0)) (IsOf r) (calls_of tokens.first) (λ n is. (e, is)) numbers h

  module _ (new : List Calls) (is : new ≡ old ++ map (calls_of tokens.first) numbers) where
    -- a record is of a call from before, or of one that comes in addition
    pub either : (r : List ℕ) → IsAnswered new r → IsAnswered old r ⊎ IsAnswered (map (calls_of tokens.first) numbers) r
    either r h =
        any_either (IsOf r) old (map (calls_of tokens.first) numbers) (subst (λ (calls : List Calls). IsAnswered calls r) is h)

    in_new : (r : List ℕ) → IsAnswered old r ⊎ IsAnswered (map (calls_of tokens.first) numbers) r → IsAnswered new r
    in_new r h = subst (λ (calls : List Calls). IsAnswered calls r) (sym is) (put h) where
      put : IsAnswered old r ⊎ IsAnswered (map (calls_of tokens.first) numbers) r → IsAnswered (old ++ map (calls_of tokens.first) numbers) r
      put (inl early) = any_left (IsOf r) old (map (calls_of tokens.first) numbers) early
      put (inr late) = any_right (IsOf r) old (map (calls_of tokens.first) numbers) late

    -- all tokens so far are below the next one
    pub tokens_below : tokens.first ≤ tokens.last → (r : List ℕ) → IsAnswered new r → word r 1 < tokens.last + 1
    tokens_below some r h = elim (either r h) [
      | inl early ↦ let less = below r early in omega (arith, less, some)
      | inr late ↦ let first = (of_first r late).0 in omega (arith, first, some)
    ]

    early_splits : (r : List ℕ) → IsRecord r → word r 1 < tokens.first → Splits p rest new r
    early_splits r record_is less =
        let before = splits r record_is less in
        record {
          answers = λ h. elim (either r h) [
            | inl early ↦ before.answers early
            | inr late ↦ let first = (of_first r late).0 in absurd (omega (arith, first, less))
          ];
          others = λ no. before.others (λ h. no (in_new r (inl h)));
        }

    late_splits : (r : List ℕ) → IsRecord r → IsWithin (word r 1) tokens → Splits p rest new r
    late_splits r record_is within =
        let by = split_by r record_is within in
        record {
          answers = λ h. elim (either r h) [
            | inl early ↦ let less = below r early in absurd (omega (arith, less, within))
            | inr late ↦ by.answers (of_first r late).1
          ];
          others = λ no. by.others (λ among. no (in_new r (inr (of_number r (only mixed among) among))));
        } where
          only : (tokens.first ≡ tokens.last) ⊎ (numbers ≡ []) → IsAmong (word r 0) numbers → word r 1 ≡ tokens.first
          only (inl one) among = omega (arith, one, within)
          only (inr none) among = absurd (any_nil (IsWithin (word r 0)) (subst (λ (some : List Numbers). IsAmong (word r 0) some) none among))

    -- the records of one token more are split
    pub calls_split : (r : List ℕ) → IsRecord r → word r 1 < tokens.last + 1 → Splits p rest new r
    calls_split r record_is less = elim (below_or_not (word r 1) tokens.first) [
      | inl early ↦ early_splits r record_is early
      | inr late ↦ late_splits r record_is (late, omega (arith, less))
    ]
