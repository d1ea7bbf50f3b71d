-- The other half of a number.
use Rattle.std.proofs.Common.{◌≡◌, ℕ, zero, suc, ◌+◌, ◌-◌, ◌*◌, ◌/◌, ◌%◌, ◌^◌, ◌<◌, ◌≤◌, ◌⊎◌, inl, inr, Bool, true, false, cond, eqb, List, [], ◌∷◌, length, refl, ap, sym, ◌∙◌, arith, subst}
use Rattle.std.specs.Prelude.{Option, Some, None, map, slice_get, nat_lt, nat_le, not, ◌||◌, ◌==◌}
use Rattle.std.proofs.lemmas.Bool.{cases_lt, cases_eq, eq-eqb, ne_eqb, cond-true, cond-false}
use Rattle.std.proofs.lemmas.Option.{slice_get_past}
use Rattle.std.proofs.lemmas.Bool.Decides.{nat_tests}
use Rattle.call_record.specs.Words as words
use Rattle.bpf_insn.specs.declared.code.Operation.{Operation}
use Rattle.bpf_insn.specs.declared.code.Operation.TheVariants.{LoadWord, LoadScratch, LoadScratchX, Store, StoreX, SetA, SetX}
use Rattle.bpf_insn.specs.declared.code.Operation.TheVariants.{ReturnK, ReturnA, Jump, Branch, Compute, ShiftLeft, ShiftRight}
use Rattle.bpf_insn.specs.declared.code.Operation.TheVariants.{Negate, CopyToX, CopyToA}
use Rattle.bpf_insn.specs.declared.instruction.Insn.{Insn}
use Rattle.bpf_insn.specs.Code.{operation_of}
use Rattle.bpf_insn.specs.Machine.{word_at}
use Rattle.byte_order.specs.Big as big
use Rattle.byte_order.specs.Turned.{other_half, other_half_by, other_word}

-- ---- offsets

small_same : (k : ℕ) → k < 8 → other_word k ≡ k
small_same k h = grind (arith, nat_tests, h)

large_same : (k : ℕ) → 64 ≤ k → other_word k ≡ k
large_same k h = grind (arith, nat_tests, h)

skew_same : (k : ℕ) → (k % 4 ≡ 0 → ⊥) → other_word k ≡ k
skew_same k h = grind (arith, nat_tests, h)

goes_up : (k : ℕ) → 8 ≤ k → k < 64 → k % 8 ≡ 0 → other_word k ≡ k + 4
goes_up k low high e = grind (arith, nat_tests, low, high, e)

goes_down : (m : ℕ) → 8 ≤ m → m + 4 < 64 → m % 8 ≡ 0 → other_word (m + 4) ≡ m
goes_down m low high e = grind (arith, nat_tests, low, high, e)

-- ---- words

-- the place of the other half in a list of halves
pair : ℕ → ℕ
pair zero = 1
pair (suc zero) = 0
pair (suc (suc j)) = suc (suc (pair j))

pair-even : (j : ℕ) → j % 2 ≡ 0 → pair j ≡ j + 1
unfolding pair
pair-even zero e = refl
pair-even (suc zero) e = absurd (omega (arith, e))
pair-even (suc (suc j)) e = omega (arith, pair-even j (omega (arith, e)))

pair-odd : (j : ℕ) → j % 2 ≡ 1 → pair j + 1 ≡ j
unfolding pair
pair-odd zero e = absurd (omega (arith, e))
pair-odd (suc zero) e = refl
pair-odd (suc (suc j)) e = omega (arith, pair-odd j (omega (arith, e)))

halves-pair : (ns : List ℕ) (j : ℕ) → slice_get (big.halves ns) j ≡ slice_get (words.halves ns) (pair j)
unfolding pair
halves-pair [] zero = refl
halves-pair [] (suc zero) = refl
halves-pair [] (suc (suc j)) = refl
halves-pair (n ∷ ns) zero = refl
halves-pair (n ∷ ns) (suc zero) = refl
halves-pair (n ∷ ns) (suc (suc j)) = halves-pair ns j

length-halves : (ns : List ℕ) → length (words.halves ns) ≡ 2 * length ns
length-halves [] = refl
length-halves (n ∷ ns) = omega (arith, length-halves ns)

length-big : (ns : List ℕ) → length (big.halves ns) ≡ 2 * length ns
length-big [] = refl
length-big (n ∷ ns) = omega (arith, length-big ns)

module _ (nr arch ip : ℕ) (args : List ℕ) (six : length args ≡ 6) where
  abbrev own : List ℕ
  own = big.words_from nr arch ip args

  abbrev others : List ℕ
  others = words.words_from nr arch ip args

  -- a word of the record
  at_word : (k j : ℕ) → k % 4 ≡ 0 → k / 4 ≡ j → word_at others k ≡ slice_get others j
  at_word k j e is = cond-true (k % 4 == 0) _ _ (eq-eqb (k % 4) 0 e) ∙ ap (slice_get others) is

  past_own : (k : ℕ) → 64 ≤ k → slice_get own (k / 4) ≡ None
  past_own k h = slice_get_past own (k / 4) (omega (arith, h, length-big (ip ∷ args), six))

  past_others : (k : ℕ) → 64 ≤ k → slice_get others (k / 4) ≡ None
  past_others k h = slice_get_past others (k / 4) (omega (arith, h, length-halves (ip ∷ args), six))

  same_word : (k : ℕ) → k % 4 ≡ 0 → slice_get own (k / 4) ≡ word_at others (other_word k)
  same_word k e = elim (cases_lt k 8) [
    | inl small ↦ at_start (cases_lt k 4) small
    | inr half ↦ elim (cases_lt k 64) [
      | inr past ↦ past_own k past ∙ (sym (past_others k past) ∙ (sym (at_word k (k / 4) e refl) ∙ ap (word_at others) (sym (large_same k past))))
      | inl within ↦ elim (cases_eq (k % 8) 0) [
        | inl even ↦
            let j = (k - 8) / 4 in
            let at : k / 4 ≡ suc (suc j) = omega (arith, half) in
            let up = pair-even j (omega (arith, half, even)) in
            ap (slice_get own) at ∙ (halves-pair (ip ∷ args) j
            ∙ sym (ap (word_at others) (goes_up k half within even) ∙ at_word (k + 4) (suc (suc (pair j))) (omega (arith, e)) (omega (arith, half, even, up))))
        | inr odd ↦
            let m = k - 4 in
            let j = (k - 8) / 4 in
            let is : k ≡ m + 4 = omega (arith, half) in
            let at : k / 4 ≡ suc (suc j) = omega (arith, half) in
            let down = pair-odd j (omega (arith, half, e, odd)) in
            ap (slice_get own) at ∙ (halves-pair (ip ∷ args) j
            ∙ sym (ap (λ n. word_at others (other_word n)) is ∙ (ap (word_at others) (goes_down m (omega (arith, half, e, odd)) (omega (arith, within, half)) (omega (arith, half, e, odd)))
            ∙ at_word m (suc (suc (pair j))) (omega (arith, half, e)) (omega (arith, half, e, odd, down)))))
      ]
    ]
  ] where
    at_start : (k < 4) ⊎ (4 ≤ k) → k < 8 → slice_get own (k / 4) ≡ word_at others (other_word k)
    at_start (inl h) small =
        let at : k / 4 ≡ 0 = omega (arith, h) in
        ap (slice_get own) at ∙ sym (ap (word_at others) (small_same k small) ∙ at_word k 0 e at)
    at_start (inr h) small =
        let at : k / 4 ≡ 1 = omega (arith, h, small) in
        ap (slice_get own) at ∙ sym (ap (word_at others) (small_same k small) ∙ at_word k 1 e at)

  pub other_loads : (k : ℕ) → word_at own k ≡ word_at others (other_word k)
  other_loads k = elim (cases_eq (k % 4) 0) [
    | inl e ↦ cond-true (k % 4 == 0) _ _ (eq-eqb (k % 4) 0 e) ∙ same_word k e
    | inr skew ↦
        cond-false (k % 4 == 0) _ _ (ne_eqb (k % 4) 0 skew)
        ∙ sym (ap (word_at others) (skew_same k skew) ∙ cond-false (k % 4 == 0) _ _ (ne_eqb (k % 4) 0 skew))
  ]

-- ---- instructions

pub code_same : (o : Option Operation) (i : Insn) → (other_half_by o i).code ≡ i.code
code_same None i = refl
code_same (Some LoadWord) i = refl
code_same (Some LoadScratch) i = refl
code_same (Some LoadScratchX) i = refl
code_same (Some Store) i = refl
code_same (Some StoreX) i = refl
code_same (Some SetA) i = refl
code_same (Some SetX) i = refl
code_same (Some ReturnK) i = refl
code_same (Some ReturnA) i = refl
code_same (Some Jump) i = refl
code_same (Some (Branch test c)) i = refl
code_same (Some (Compute f c)) i = refl
code_same (Some ShiftLeft) i = refl
code_same (Some ShiftRight) i = refl
code_same (Some Negate) i = refl
code_same (Some CopyToX) i = refl
code_same (Some CopyToA) i = refl

pub operation_same : (i : Insn) → operation_of (other_half i).code ≡ operation_of i.code
operation_same i = ap operation_of (code_same (operation_of i.code) i)

-- the other half of the other half
twice_word : (k : ℕ) → other_word (other_word k) ≡ k
twice_word k = elim (cases_lt k 8) [
  | inl small ↦ ap other_word (small_same k small) ∙ small_same k small
  | inr half ↦ elim (cases_lt k 64) [
    | inr past ↦ ap other_word (large_same k past) ∙ large_same k past
    | inl within ↦ elim (cases_eq (k % 4) 0) [
      | inr skew ↦ ap other_word (skew_same k skew) ∙ skew_same k skew
      | inl e ↦ elim (cases_eq (k % 8) 0) [
        | inl even ↦ ap other_word (goes_up k half within even) ∙ goes_down k half (omega (arith, within, even)) even
        | inr odd ↦
            let m = k - 4 in
            let is : k ≡ m + 4 = omega (arith, half) in
            let low : 8 ≤ m = omega (arith, half, e, odd) in
            let whole : m % 8 ≡ 0 = omega (arith, half, e, odd) in
            ap (λ n. other_word (other_word n)) is
            ∙ (ap other_word (goes_down m low (omega (arith, within, half)) whole) ∙ (goes_up m low (omega (arith, within)) whole ∙ sym is))
      ]
    ]
  ]
]

twice_by : (o : Option Operation) (i : Insn) → other_half_by o (other_half_by o i) ≡ i
twice_by None i = refl
twice_by (Some LoadWord) i = ap (λ k. record i { k = k }) (twice_word i.k)
twice_by (Some LoadScratch) i = refl
twice_by (Some LoadScratchX) i = refl
twice_by (Some Store) i = refl
twice_by (Some StoreX) i = refl
twice_by (Some SetA) i = refl
twice_by (Some SetX) i = refl
twice_by (Some ReturnK) i = refl
twice_by (Some ReturnA) i = refl
twice_by (Some Jump) i = refl
twice_by (Some (Branch test c)) i = refl
twice_by (Some (Compute f c)) i = refl
twice_by (Some ShiftLeft) i = refl
twice_by (Some ShiftRight) i = refl
twice_by (Some Negate) i = refl
twice_by (Some CopyToX) i = refl
twice_by (Some CopyToA) i = refl

pub twice : (i : Insn) → other_half (other_half i) ≡ i
twice i = ap (λ o. other_half_by o (other_half i)) (operation_same i) ∙ twice_by (operation_of i.code) i

pub twice_all : (p : List Insn) → map other_half (map other_half p) ≡ p
twice_all [] = refl
twice_all (i ∷ p) = ap (λ x. x ∷ map other_half (map other_half p)) (twice i) ∙ ap (λ q. i ∷ q) (twice_all p)

-- the offset of a word stays that of a word
pub other_stays : (k : ℕ) → k < 64 → k % 4 ≡ 0 → (other_word k < 64) × (other_word k % 4 ≡ 0)
other_stays k within e = elim (cases_lt k 8) [
  | inl small ↦ subst (λ n. (n < 64) × (n % 4 ≡ 0)) (sym (small_same k small)) (within, e)
  | inr half ↦ elim (cases_eq (k % 8) 0) [
    | inl even ↦
        subst (λ n. (n < 64) × (n % 4 ≡ 0)) (sym (goes_up k half within even)) (omega (arith, within, even), omega (arith, e))
    | inr odd ↦
        let m = k - 4 in
        let same : k ≡ m + 4 = omega (arith, half) in
        let is : other_word k ≡ m = ap other_word same ∙ goes_down m (omega (arith, half, e, odd)) (omega (arith, within, half)) (omega (arith, half, e, odd)) in
        subst (λ n. (n < 64) × (n % 4 ≡ 0)) (sym is) (omega (arith, within), omega (arith, half, e))
  ]
]

pub other_fits : (k : ℕ) → k < 2 ^ 32 → other_word k < 2 ^ 32
other_fits k fits = elim (cases_lt k 64) [
  | inr past ↦ subst (λ n. n < 2 ^ 32) (sym (large_same k past)) fits
  | inl within ↦ elim (cases_eq (k % 4) 0) [
    | inr skew ↦ subst (λ n. n < 2 ^ 32) (sym (skew_same k skew)) fits
    | inl e ↦ let stays = other_stays k within e in omega (arith, stays.0)
  ]
]
