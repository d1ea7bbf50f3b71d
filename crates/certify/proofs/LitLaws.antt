-- What is learned is a literal.
use Rattle.std.proofs.Common.{◌≡◌, ℕ, zero, suc, ◌+◌, ◌-◌, ◌*◌, ◌/◌, ◌%◌, ◌^◌, ◌<◌, ◌≤◌, Bool, true, false, cond, eqb, List, length, ap, sym}
use Rattle.std.proofs.Common.{arith, subst, ⊎_elim, get_or, refl, ◌∙◌, inl, inr, leb, ltb}
use Rattle.std.specs.Prelude.{All, IfSome, Option, Some, None, bit_and, bit_or, min, slice_get, slice_index_or, slice_set}
use Rattle.std.specs.Int.{bit_at}
use Rattle.std.specs.Int.Bits.{and_mask, and_self}
use Rattle.std.proofs.Math.Nat.{div-le_self, min-le_right}
use Rattle.std.proofs.lemmas.Bool.{cases_Bool, cases_lt, eqb-true, eqb-false}
use Rattle.std.proofs.lemmas.List.{length-set}
use Rattle.std.proofs.lemmas.List.Elements.{All-cons, All-nil, All-set}
use Rattle.std.proofs.lemmas.Nat.{or_lt, xor_lt}
use Rattle.std.proofs.lemmas.Nat.Bits.{bit_at_and, bit_at-lt, bit_at-zero, same_from_bits}
use Rattle.std.proofs.lemmas.Option.{slice_get-get_or}
use Rattle.bpf_insn.specs.declared.code.Operand.{Operand}
use Rattle.bpf_insn.specs.declared.code.Operand.TheVariants.{K, X}
use Rattle.bpf_insn.specs.declared.code.Test.{Test}
use Rattle.bpf_insn.specs.declared.code.Test.TheVariants.{Equal, Greater, AtLeast, AnyBit}
use Rattle.bpf_insn.specs.declared.code.Arithmetic.{Arithmetic}
use Rattle.bpf_insn.specs.declared.code.Arithmetic.TheVariants.{Add, Sub, Or, And, Xor}
use Rattle.bpf_insn.specs.declared.code.Operation.{Operation}
use Rattle.bpf_insn.specs.declared.code.Operation.TheVariants.{LoadWord, LoadScratch, LoadScratchX, Store, StoreX, SetA, SetX, ReturnK, ReturnA}
use Rattle.bpf_insn.specs.declared.code.Operation.TheVariants.{Jump, Branch, Compute, ShiftLeft, ShiftRight, Negate, CopyToX, CopyToA}
use Rattle.bpf_insn.specs.declared.instruction.Insn.{Insn}
use Rattle.bpf_insn.specs.Causes.{IsPlain}
use Rattle.bpf_insn.specs.Code.{operation_of}
use Rattle.bpf_insn.specs.Machine.{computed}
use Rattle.bpf_insn.proofs.PlainLaws.{plain-loads, plain-reads}
use Rattle.cert_state.specs.declared.literal.AVal.{AVal}
use Rattle.cert_state.specs.declared.literal.AVal.TheVariants.{Unknown, Const, Masked}
use Rattle.cert_state.specs.declared.literal.Lit.{Lit}
use Rattle.cert_state.specs.declared.literal.Lit.TheVariants.{In, Bits, NotBits}
use Rattle.cert_state.specs.declared.literal.Regs.{Regs}
use Rattle.cert_state.specs.Literals.{AreValues, IsLit, IsValue, all_bits, false_literal}
use Rattle.cert_state.specs.Sharp.{above_fact, any_fact, beside_fact, is_bit, is_high, lowest_bit, outside, part_fact}
use Rattle.cert_state.specs.Sharp.{sharp_fact, sharp_fact_by, sharp_masked_fact, sharp_test_fact}
use Rattle.cert_state.specs.Transfer.{certain_fact, combined, computed_value, mapped, masked, masked_fact, operand_value, test_fact, transfer}
use Rattle.cert_state.specs.Transfer.{transfer_if}
use Rattle.cert_state.proofs.BitLaws.{and_all}
use Rattle.cert_form.specs.Nodes.{literals}
use Rattle.cert_form.specs.Writing.{AreLiteralEntries}
use Rattle.certify.proofs.ChainFacts.{chain_next, literals_none, literals_past}

-- a mask has no more bits than it had
pub and_small : (m c : ℕ) → m < 2 ^ 32 → bit_and m c < 2 ^ 32
and_small m c small =
    let same : bit_and (bit_and m c) all_bits ≡ bit_and m c = same_from_bits _ _ (λ i. omega (
      arith,
      bit_at_and (bit_and m c) all_bits i,
      bit_at_and m c i,
      ap (λ n. bit_at n i) (and_all m small),
      bit_at_and m all_bits i,
      bit_at-lt m i,
      bit_at-lt c i,
      bit_at-lt all_bits i,
    )) in
    omega (arith, and_mask (bit_and m c) 32, same)

zero_and : (m : ℕ) → bit_and 0 m ≡ 0
zero_and m = same_from_bits _ _ (λ i. omega (arith, bit_at_and 0 m i, bit_at-zero i))

below_all : (n : ℕ) → n % 2 ^ 32 < 2 ^ 32
below_all n = omega arith

divided : (a k : ℕ) → a < 2 ^ 32 → a / k < 2 ^ 32
divided a k small = let l = div-le_self a k in omega (arith, l, small)

abbrev IsFact : Option Lit → Type 0
IsFact o = IfSome o IsLit

false_is : IsLit false_literal
false_is = (omega arith, omega arith, omega arith)

certain_lit : (b : Bool) → IsFact (certain_fact b)
certain_lit true = tt
certain_lit false = false_is

module _ (w m c : ℕ) (low : w < 16) (small : m < 2 ^ 32) (fits : c < 2 ^ 32) where
  masked_lit : (test : Test) (taken : Bool) → IsFact (masked_fact test w m c taken)
  masked_lit Equal true = ⊎_elim
      (λ (inside : eqb (bit_and c m) c ≡ true). rw inside (low, small, eqb-true (bit_and c m) c inside))
      (λ (outside : eqb (bit_and c m) c ≡ false). rw outside false_is)
      (cases_Bool (eqb (bit_and c m) c))
  masked_lit Equal false = ⊎_elim
      (λ (inside : eqb (bit_and c m) c ≡ true). rw inside (low, small, eqb-true (bit_and c m) c inside))
      (λ (outside : eqb (bit_and c m) c ≡ false). rw outside tt)
      (cases_Bool (eqb (bit_and c m) c))
  masked_lit Greater true = ⊎_elim
      (λ (all : eqb m all_bits ≡ true). rw all (⊎_elim
      (λ (most : eqb c all_bits ≡ true). rw most false_is)
      (λ (less : eqb c all_bits ≡ false). let ne = eqb-false c all_bits less in rw less (low, omega (arith, fits, ne), omega arith))
      (cases_Bool (eqb c all_bits))))
      (λ (part : eqb m all_bits ≡ false). rw part tt)
      (cases_Bool (eqb m all_bits))
  masked_lit Greater false = ⊎_elim
      (λ (all : eqb m all_bits ≡ true). rw all (low, omega arith, fits))
      (λ (part : eqb m all_bits ≡ false). rw part tt)
      (cases_Bool (eqb m all_bits))
  masked_lit AtLeast true = ⊎_elim
      (λ (all : eqb m all_bits ≡ true). rw all (low, fits, omega arith))
      (λ (part : eqb m all_bits ≡ false). rw part tt)
      (cases_Bool (eqb m all_bits))
  masked_lit AtLeast false = ⊎_elim
      (λ (all : eqb m all_bits ≡ true). rw all (⊎_elim
      (λ (none : eqb c 0 ≡ true). rw none false_is)
      (λ (some : eqb c 0 ≡ false). rw some (low, omega arith, omega (arith, fits)))
      (cases_Bool (eqb c 0))))
      (λ (part : eqb m all_bits ≡ false). rw part tt)
      (cases_Bool (eqb m all_bits))
  masked_lit AnyBit true = (low, and_small m c small, zero_and (bit_and m c))
  masked_lit AnyBit false = (low, and_small m c small, zero_and (bit_and m c))

test_lit : (test : Test) (a b : AVal) (taken : Bool) → IsValue a → IsValue b → IsFact (test_fact test a b taken)
test_lit test (Const a) (Const c) taken is_a is_b = certain_lit _
test_lit test (Masked w m) (Const c) taken is_a is_b = masked_lit w m c is_a.0 is_a.1 is_b test taken
test_lit test Unknown b taken is_a is_b = tt
test_lit test (Const a) Unknown taken is_a is_b = tt
test_lit test (Const a) (Masked w m) taken is_a is_b = tt
test_lit test (Masked w m) Unknown taken is_a is_b = tt
test_lit test (Masked w m) (Masked v n) taken is_a is_b = tt

-- ---- sharp facts

module _ (w : ℕ) (low : w < 16) where
  any_lit : (m : ℕ) (taken : Bool) → m < 2 ^ 32 → IsFact (any_fact w m taken)
  any_lit m true small = by_test (is_bit m) where
    by_test : (b : Bool) → IsFact (cond b (Some (Bits w m m)) (Some (NotBits w m 0)))
    by_test true = (low, small, and_self m)
    by_test false = (low, small, zero_and m)
  any_lit m false small = (low, small, zero_and m)

module _ (lits : List Lit) (w m c : ℕ) (low : w < 16) (small : m < 2 ^ 32) (fits : c < 2 ^ 32) where
  beside_lit : (o : Option ℕ) (taken : Bool) → IsFact (beside_fact w m c o taken)
  beside_lit (Some d) taken =
      masked_lit w all_bits (min (c + d) all_bits) low (omega arith)
      (let l = min-le_right (c + d) all_bits in omega (arith, l)) Greater taken
  beside_lit None taken = by_bit (ltb c (lowest_bit m)) where
    by_way : (taken : Bool) → IsFact (cond taken (masked_fact Greater w all_bits c true) None)
    by_way true = masked_lit w all_bits c low (omega arith) fits Greater true
    by_way false = tt

    by_bit : (b : Bool) → IsFact (cond b (any_fact w m taken) (cond taken (masked_fact Greater w all_bits c true) None))
    by_bit true = any_lit w low m taken small
    by_bit false = by_way taken

  part_lit : (taken : Bool) → IsFact (part_fact lits w m c taken)
  part_lit true = by_test (leb m c) where
    by_test : (b : Bool) → IsFact (cond b (Some false_literal) (beside_fact w m c (outside lits w m) true))
    by_test true = false_is
    by_test false = beside_lit (outside lits w m) true
  part_lit false = beside_lit (outside lits w m) false

  above_lit : (taken : Bool) → IsFact (above_fact lits w m c taken)
  above_lit taken = by_test (is_high m) where
    by_test : (b : Bool)
        → IsFact (cond b (masked_fact Greater w all_bits (bit_or c (all_bits - m)) taken) (part_fact lits w m c taken))
    by_test true = masked_lit w all_bits (bit_or c (all_bits - m)) low (omega arith)
        (or_lt 32 c (all_bits - m) fits (omega arith)) Greater taken
    by_test false = part_lit taken

module _ (lits : List Lit) (w m c : ℕ) (low : w < 16) (small : m < 2 ^ 32) (fits : c < 2 ^ 32) where
  least_lit : (b taken : Bool) → IsFact (cond b (masked_fact AtLeast w all_bits 0 taken) (above_fact lits w m (c - 1) taken))
  least_lit true taken = masked_lit w all_bits 0 low (omega arith) (omega arith) AtLeast taken
  least_lit false taken = above_lit lits w m (c - 1) low small (omega (arith, fits)) taken

  sharp_masked_lit : (test : Test) (taken : Bool) → IsFact (sharp_masked_fact lits test w m c taken)
  sharp_masked_lit Greater taken = above_lit lits w m c low small fits taken
  sharp_masked_lit AtLeast taken = least_lit (eqb c 0) taken
  sharp_masked_lit AnyBit taken = any_lit w low (bit_and m c) taken (and_small m c small)
  sharp_masked_lit Equal taken = masked_lit w m c low small fits Equal taken

sharp_test_lit : (lits : List Lit) (test : Test) (a b : AVal) (taken : Bool) → IsValue a → IsValue b
    → IsFact (sharp_test_fact lits test a b taken)
sharp_test_lit lits test (Masked w m) (Const c) taken is_a is_b = sharp_masked_lit lits w m c is_a.0 is_a.1 is_b test taken
sharp_test_lit lits test (Const a) b taken is_a is_b = test_lit test (Const a) b taken is_a is_b
sharp_test_lit lits test Unknown b taken is_a is_b = tt
sharp_test_lit lits test (Masked w m) Unknown taken is_a is_b = tt
sharp_test_lit lits test (Masked w m) (Masked v n) taken is_a is_b = tt

operand_is : (c : Operand) (i : Insn) (s : Regs) → AreValues s → i.k < 2 ^ 32 → IsValue (operand_value c i s)
operand_is K i s are fits = fits
operand_is X i s are fits = are.x

-- the fact of an edge is a literal
pub fact_lit : (lits : List Lit) (s : Regs) (i : Insn) (taken : Bool) → AreValues s → i.k < 2 ^ 32
    → IfSome (sharp_fact lits s i taken) IsLit
fact_lit lits s i taken are fits = by_operation (operation_of i.code) where
  by_operation : (o : Option Operation) → IfSome (sharp_fact_by lits o i s taken) IsLit
  by_operation (Some (Branch test c)) = sharp_test_lit lits test s.a (operand_value c i s) taken are.a (operand_is c i s are fits)
  by_operation _ = tt

-- ---- what is known of the registers after an instruction

computed_small : (f : Arithmetic) (a c : ℕ) → a < 2 ^ 32 → c < 2 ^ 32 → computed f a c < 2 ^ 32
computed_small Add a c small fits = omega arith
computed_small Sub a c small fits = omega arith
computed_small Or a c small fits = or_lt 32 a c small fits
computed_small And a c small fits = and_small a c small
computed_small Xor a c small fits = xor_lt 32 a c small fits

combined_is : (f : Arithmetic) (v w : AVal) → IsValue v → IsValue w → IsValue (combined (computed f) v w)
combined_is f (Const a) (Const c) is_v is_w = computed_small f a c is_v is_w
combined_is f (Const a) Unknown is_v is_w = tt
combined_is f (Const a) (Masked w m) is_v is_w = tt
combined_is f Unknown w is_v is_w = tt
combined_is f (Masked v m) w is_v is_w = tt

masked_is : (v w : AVal) → IsValue v → IsValue w → IsValue (masked v w)
masked_is (Const a) (Const c) is_v is_w = and_small a c is_v
masked_is (Masked w m) (Const c) is_v is_w = (is_v.0, and_small m c is_v.1)
masked_is Unknown w is_v is_w = tt
masked_is (Const a) Unknown is_v is_w = tt
masked_is (Const a) (Masked w m) is_v is_w = tt
masked_is (Masked w m) Unknown is_v is_w = tt
masked_is (Masked w m) (Masked v n) is_v is_w = tt

computed_is : (f : Arithmetic) (v w : AVal) → IsValue v → IsValue w → IsValue (computed_value f v w)
computed_is Add v w is_v is_w = combined_is Add v w is_v is_w
computed_is Sub v w is_v is_w = combined_is Sub v w is_v is_w
computed_is Or v w is_v is_w = combined_is Or v w is_v is_w
computed_is And v w is_v is_w = masked_is v w is_v is_w
computed_is Xor v w is_v is_w = combined_is Xor v w is_v is_w

mapped_is : (f : ℕ → ℕ) (v : AVal) → ((a : ℕ) → a < 2 ^ 32 → f a < 2 ^ 32) → IsValue v → IsValue (mapped f v)
mapped_is f (Const a) small is_v = small a is_v
mapped_is f Unknown small is_v = tt
mapped_is f (Masked w m) small is_v = tt

module _ (s : Regs) (are : AreValues s) where
  with_a : (v : AVal) → IsValue v → AreValues (record s { a = v })
  with_a v is = record { a = is; x = are.x; sixteen = are.sixteen; scratch = are.scratch }

  with_x : (v : AVal) → IsValue v → AreValues (record s { x = v })
  with_x v is = record { a = are.a; x = is; sixteen = are.sixteen; scratch = are.scratch }

  with_scratch : (k : ℕ) (v : AVal) → IsValue v → AreValues (record s { scratch = slice_set s.scratch k v })
  with_scratch k v is = record {
    a = are.a;
    x = are.x;
    sixteen = length-set s.scratch k v ∙ are.sixteen;
    scratch = All-set IsValue s.scratch k v is are.scratch;
  }

  scratch_is : (k : ℕ) → k < 16 → IsValue (slice_index_or s.scratch k Unknown)
  scratch_is k low = are.scratch k Unknown (let e = are.sixteen in omega (arith, low, e))

  after_is : (o : Option Operation) (i : Insn) → IsPlain i → i.k < 2 ^ 32 → operation_of i.code ≡ o → AreValues (transfer_if o i s)
  after_is None i plain fits is = are
  after_is (Some LoadWord) i plain fits is =
      with_a (Masked (i.k / 4) all_bits) (let l = plain-loads i plain is in (omega (arith, l.0), omega arith))
  after_is (Some LoadScratch) i plain fits is =
      with_a (slice_index_or s.scratch i.k Unknown) (scratch_is i.k (plain-reads i plain (inl is)))
  after_is (Some LoadScratchX) i plain fits is =
      with_x (slice_index_or s.scratch i.k Unknown) (scratch_is i.k (plain-reads i plain (inr is)))
  after_is (Some Store) i plain fits is = with_scratch i.k s.a are.a
  after_is (Some StoreX) i plain fits is = with_scratch i.k s.x are.x
  after_is (Some SetA) i plain fits is = with_a (Const i.k) fits
  after_is (Some SetX) i plain fits is = with_x (Const i.k) fits
  after_is (Some ReturnK) i plain fits is = are
  after_is (Some ReturnA) i plain fits is = are
  after_is (Some Jump) i plain fits is = are
  after_is (Some (Branch test c)) i plain fits is = are
  after_is (Some (Compute f c)) i plain fits is =
      with_a (computed_value f s.a (operand_value c i s)) (computed_is f s.a (operand_value c i s) are.a (operand_is c i s are fits))
  after_is (Some ShiftLeft) i plain fits is =
      with_a (mapped (λ a. a * 2 ^ i.k % 2 ^ 32) s.a) (mapped_is (λ a. a * 2 ^ i.k % 2 ^ 32) s.a (λ a small. below_all (a * 2 ^ i.k)) are.a)
  after_is (Some ShiftRight) i plain fits is =
      with_a (mapped (λ a. a / 2 ^ i.k) s.a) (mapped_is (λ a. a / 2 ^ i.k) s.a (λ a small. divided a (2 ^ i.k) small) are.a)
  after_is (Some Negate) i plain fits is =
      with_a (mapped (λ a. (2 ^ 32 - a) % 2 ^ 32) s.a) (mapped_is (λ a. (2 ^ 32 - a) % 2 ^ 32) s.a (λ a small. below_all (2 ^ 32 - a)) are.a)
  after_is (Some CopyToX) i plain fits is = with_x s.a are.a
  after_is (Some CopyToA) i plain fits is = with_a s.x are.x

-- they are values still
pub transfer_values : (s : Regs) (i : Insn) → IsPlain i → i.k < 2 ^ 32 → AreValues s → AreValues (transfer s i)
transfer_values s i plain fits are = after_is s are (operation_of i.code) i plain fits refl

-- the literals of a chain are such
chain_lits : (es : List (ℕ × Lit)) → AreLiteralEntries es → (fuel n : ℕ) → n ≤ fuel → All IsLit (literals es n)
chain_lits es are zero n le =
    let none : n ≡ 0 =
    omega arith in subst (λ k. All IsLit (literals es k)) (sym none) (subst (All IsLit) (sym (literals_none es)) (All-nil IsLit))
chain_lits es are (suc fuel) zero le = subst (All IsLit) (sym (literals_none es)) (All-nil IsLit)
chain_lits es are (suc fuel) (suc j) le = ⊎_elim
    (λ (inside : j < length es).
    let e : ℕ × Lit = get_or es j (0, In 0 0 0) in
    let there : slice_get es j ≡ Some e = slice_get-get_or es j (0, In 0 0 0) inside in
    let is = are j e there in
    let earlier = is.earlier in
    subst (All IsLit) (sym (chain_next es j e there earlier))
    (All-cons IsLit e.1 (literals es e.0) is.literal (chain_lits es are fuel e.0 (omega (arith, earlier, le)))))
    (λ (past : length es ≤ j). subst (All IsLit) (sym (literals_past es (suc j) (omega arith))) (All-nil IsLit))
    (cases_lt j (length es))

pub known_lits : (es : List (ℕ × Lit)) (n : ℕ) → AreLiteralEntries es → All IsLit (literals es n)
known_lits es n are = chain_lits es are n n (omega arith)
