use Rattle.std.proofs.Common.{◌≡◌, ◌<◌, ◌≤◌, ◌⊎◌, [], ◌++◌, ℕ, List, drop, map, ◌+◌, ◌∙◌, ap, refl, sym, inl, inr, arith}
use Rattle.bpf_insn.specs.declared.instruction.Insn.{Insn}
use Rattle.call_record.specs.Words.{IsRecord, word}
use Rattle.machines.specs.declared.numbers.Numbers.{Numbers}
use Rattle.machines.specs.Numbers.{IsWithin}
use Rattle.kernel_check.specs.Lent.{accepted_insns}
use Rattle.compare.specs.declared.behind_runc.stub.calls.Calls.{Calls}
use Rattle.compare.specs.Stub.{IsAnswered}
use Rattle.compare.specs.inner.Parts.{Splits, SplitsBy, calls_of}
use Rattle.compare.proofs.SplitLaws.{calls_split, tokens_below}
use Rattle.compare.proofs.behind_runc.stub.splitting.answered_calls.Goals as goal

-- one token more, where the next one is the first of those that are kept
module _ (p rest : List Insn) (tokens : Numbers) (numbers shown added : List Numbers) (old new : List Calls) (next : ℕ)
    (first : tokens.first ≡ next) (same : shown ≡ numbers) (same_added : added ≡ numbers)
    (mixed : (tokens.first ≡ tokens.last) ⊎ (shown ≡ []))
    (below : (r : List ℕ) → IsAnswered old r → word r 1 < next)
    (splits : (r : List ℕ) → IsRecord r → word r 1 < next → Splits p rest old r)
    (split_by : (r : List ℕ) → IsRecord r → IsWithin (word r 1) tokens → SplitsBy p rest numbers r)
    (is : new ≡ old ++ map (calls_of next) added) where
  mixed_too : (tokens.first ≡ tokens.last) ⊎ (numbers ≡ [])
  mixed_too = elim mixed [ inl one ↦ inl one | inr none ↦ inr (sym same ∙ none) ]

  below_too : (r : List ℕ) → IsAnswered old r → word r 1 < tokens.first
  below_too r h = let less = below r h in omega (arith, less, first)

  splits_too : (r : List ℕ) → IsRecord r → word r 1 < tokens.first → Splits p rest old r
  splits_too r record_is less = splits r record_is (omega (arith, less, first))

  is_too : new ≡ old ++ map (calls_of tokens.first) numbers
  is_too = is ∙ (ap (λ (some : List Numbers). old ++ map (calls_of next) some) same_added
      ∙ ap (λ (n : ℕ). old ++ map (calls_of n) numbers) (sym first))

  all_split : (r : List ℕ) → IsRecord r → word r 1 < tokens.last + 1 → Splits p rest new r
  all_split = calls_split p rest tokens numbers old mixed_too below_too splits_too split_by new is_too

  all_below : tokens.first ≤ tokens.last → (r : List ℕ) → IsAnswered new r → word r 1 < tokens.last + 1
  all_below = tokens_below p rest tokens numbers old mixed_too below_too splits_too split_by new is_too

pub answered_numbers-requires-clause-some : goal.answered_numbers-requires-clause-some
answered_numbers-requires-clause-some c = omega (arith, c.all.invariant.fits)

pub returns-then-tokens : goal.returns-then-tokens
returns-then-tokens c r is =
    let p : List Insn = accepted_insns c.args.filter.now in
    let rest : List Insn = drop c.args.begin p in
    let by : (q : List ℕ) → IsRecord q → IsWithin (word q 1) c.answered_numbers.new.tokens → SplitsBy p rest c.in-Some.numbers.items q =
    rw c.in-Some.is at c.in_ok-answered_numbers.ensures.split in
    let w = is.words 1 in
    all_split p rest c.answered_numbers.new.tokens c.in-Some.numbers.items c.deref.result.now c.deref-in-all.result.now c.all.answered.items
    c.add_calls.new.calls.items c.all.next c.answered_numbers.ensures.part.first c.deref.ensures.value c.deref-in-all.ensures.value
    (c.if-are_mixed.ensures refl) c.all.invariant.below c.all.invariant.splits by c.in_ok-add_calls.ensures r is (omega (arith, w, c.if-tokens.true))

pub all-preserved : goal.all-preserved
all-preserved c =
    let p : List Insn = accepted_insns c.args.filter.now in
    let rest : List Insn = drop c.args.begin p in
    let by : (q : List ℕ) → IsRecord q → IsWithin (word q 1) c.answered_numbers.new.tokens → SplitsBy p rest c.in-Some.numbers.items q =
    rw c.in-Some.is at c.in_ok-answered_numbers.ensures.split in
    record {
      fits = omega (arith, c.answered_numbers.ensures.part.last, c.if-tokens.false);
      below =
          all_below p rest c.answered_numbers.new.tokens c.in-Some.numbers.items c.deref.result.now c.deref-in-all.result.now
          c.all.answered.items c.add_calls.new.calls.items c.all.next c.answered_numbers.ensures.part.first c.deref.ensures.value
          c.deref-in-all.ensures.value (c.if-are_mixed.ensures refl) c.all.invariant.below c.all.invariant.splits by
          c.in_ok-add_calls.ensures c.answered_numbers.ensures.part.some;
      splits =
          all_split p rest c.answered_numbers.new.tokens c.in-Some.numbers.items c.deref.result.now c.deref-in-all.result.now
          c.all.answered.items c.add_calls.new.calls.items c.all.next c.answered_numbers.ensures.part.first c.deref.ensures.value
          c.deref-in-all.ensures.value (c.if-are_mixed.ensures refl) c.all.invariant.below c.all.invariant.splits by
          c.in_ok-add_calls.ensures;
    }
