-- The fact of the edge that is taken is true.
use Rattle.std.proofs.Common.{◌≡◌, ℕ, ◌<◌, ◌≤◌, Bool, true, false, cond, not, eqb, List, sym, refl, ap, ◌∙◌, subst, ⊎_elim, arith}
use Rattle.std.specs.Prelude.{bit_and, IfSome}
use Rattle.std.specs.Int.Bits.{and_self}
use Rattle.std.proofs.lemmas.Bool.{cases_Bool, eq-eqb, ne_eqb, eqb-true, eqb-false, ltb-true, ltb-false, leb-true, leb-false}
use Rattle.call_record.specs.Words.{IsRecord, word}
use Rattle.bpf_insn.specs.declared.code.Operand.{Operand}
use Rattle.bpf_insn.specs.declared.code.Operand.TheVariants.{K, X}
use Rattle.bpf_insn.specs.declared.code.Test.{Test}
use Rattle.bpf_insn.specs.declared.code.Test.TheVariants.{Equal, Greater, AtLeast, AnyBit}
use Rattle.bpf_insn.specs.declared.instruction.Insn.{Insn}
use Rattle.bpf_insn.specs.Machine.{Registers, holds, operand}
use Rattle.cert_state.specs.declared.literal.Lit.{Lit}
use Rattle.cert_state.specs.declared.literal.AVal.{AVal}
use Rattle.cert_state.specs.declared.literal.AVal.TheVariants.{Unknown, Const, Masked}
use Rattle.cert_state.specs.declared.literal.Regs.{Regs}
use Rattle.cert_state.specs.Literals.{Holds, all_bits}
use Rattle.cert_state.specs.States.{HasValue}
use Rattle.cert_state.specs.Transfer.{certain_fact, fact_by, masked_fact, operand_value, test_fact}
use Rattle.cert_state.specs.Soundness.{FollowsFact}
use Rattle.cert_state.proofs.BitLaws.{and_assoc, and_all}

certain_is_true : (b : Bool) (r : List ℕ) → b ≡ true → IfSome (certain_fact b) (λ l. Holds l r)
certain_is_true true r e = tt
certain_is_true false r e = cc

whole : (r : List ℕ) (w m a : ℕ) → IsRecord r → a ≡ bit_and (word r w) m → eqb m all_bits ≡ true → a ≡ word r w
whole r w m a rec h e = h ∙ ap (λ n. bit_and (word r w) n) (eqb-true m all_bits e) ∙ and_all (word r w) (rec.words w)

pub masked_is_true : (t : Test) (r : List ℕ) (w m c a : ℕ) (b : Bool) → IsRecord r → a ≡ bit_and (word r w) m → holds t a c ≡ b
    → IfSome (masked_fact t w m c b) (λ l. Holds l r)
masked_is_true Equal r w m c a true rec h e =
    let same : a ≡ c = eqb-true a c e in
    let here : bit_and (word r w) m ≡ c = sym h ∙ same in
    let inside : bit_and c m ≡ c =
    ap (λ n. bit_and n m) (sym here) ∙ and_assoc (word r w) m m ∙ ap (λ n. bit_and (word r w) n) (and_self m) ∙ here in
    rw (eq-eqb (bit_and c m) c inside) here
masked_is_true Equal r w m c a false rec h e = ⊎_elim
    (λ (inside : eqb (bit_and c m) c ≡ true). rw inside (λ is. eqb-false a c e (h ∙ is)))
    (λ (outside : eqb (bit_and c m) c ≡ false). rw outside tt)
    (cases_Bool (eqb (bit_and c m) c))
masked_is_true Greater r w m c a true rec h e = ⊎_elim
    (λ (all : eqb m all_bits ≡ true).
    let is : a ≡ word r w = whole r w m a rec h all in
    let above : c < a = ltb-true c a e in
    let small = rec.words w in
    let differ : c ≡ all_bits → ⊥ = λ q. absurd (omega arith) in
    rw (all, ne_eqb c all_bits differ) (omega arith, omega arith))
    (λ (part : eqb m all_bits ≡ false). rw part tt)
    (cases_Bool (eqb m all_bits))
masked_is_true Greater r w m c a false rec h e = ⊎_elim
    (λ (all : eqb m all_bits ≡ true).
    let is : a ≡ word r w = whole r w m a rec h all in
    let below : a ≤ c = ltb-false c a e in
    rw all (omega arith, omega arith))
    (λ (part : eqb m all_bits ≡ false). rw part tt)
    (cases_Bool (eqb m all_bits))
masked_is_true AtLeast r w m c a true rec h e = ⊎_elim
    (λ (all : eqb m all_bits ≡ true).
    let is : a ≡ word r w = whole r w m a rec h all in
    let above : c ≤ a = leb-true c a e in
    let small = rec.words w in
    rw all (omega arith, omega arith))
    (λ (part : eqb m all_bits ≡ false). rw part tt)
    (cases_Bool (eqb m all_bits))
masked_is_true AtLeast r w m c a false rec h e = ⊎_elim
    (λ (all : eqb m all_bits ≡ true).
    let is : a ≡ word r w = whole r w m a rec h all in
    let below : a < c = leb-false c a e in
    let differ : c ≡ 0 → ⊥ = λ q. absurd (omega arith) in
    rw (all, ne_eqb c 0 differ) (omega arith, omega arith))
    (λ (part : eqb m all_bits ≡ false). rw part tt)
    (cases_Bool (eqb m all_bits))
masked_is_true AnyBit r w m c a true rec h e = λ none.
    let is : bit_and a c ≡ 0 = ap (λ n. bit_and n c) h ∙ and_assoc (word r w) m c ∙ none in
    absurd (has_bit (eqb (bit_and a c) 0) e (eq-eqb (bit_and a c) 0 is))
  where
    has_bit : (b : Bool) → cond b false true ≡ true → b ≡ true → ⊥
    has_bit true e f = cc
    has_bit false e f = cc
masked_is_true AnyBit r w m c a false rec h e =
    sym (and_assoc (word r w) m c) ∙ ap (λ n. bit_and n c) (sym h) ∙ eqb-true (bit_and a c) 0 (has_none (eqb (bit_and a c) 0) e)
  where
    has_none : (b : Bool) → cond b false true ≡ false → b ≡ true
    has_none true e = refl
    has_none false e = cc

const_is_true : (t : Test) (r : List ℕ) (m n a c : ℕ) (b : Bool) → a ≡ m → c ≡ n → holds t a c ≡ b
    → IfSome (certain_fact (cond b (holds t m n) (not (holds t m n)))) (λ l. Holds l r)
const_is_true t r m n a c true h k e = certain_is_true (holds t m n) r (ap (λ x. holds t x n) (sym h) ∙ ap (λ x. holds t a x) (sym k) ∙ e)
const_is_true t r m n a c false h k e =
    certain_is_true (not (holds t m n)) r (ap not (ap (λ x. holds t x n) (sym h) ∙ ap (λ x. holds t a x) (sym k) ∙ e))

pub test_is_true : (t : Test) (r : List ℕ) (v w : AVal) (a c : ℕ) → IsRecord r → HasValue v r a → HasValue w r c
    → IfSome (test_fact t v w (holds t a c)) (λ l. Holds l r)
test_is_true t r (Const m) (Const n) a c rec h k = const_is_true t r m n a c (holds t a c) h k refl
test_is_true t r (Masked i m) (Const n) a c rec h k =
    masked_is_true t r i m n a (holds t a c) rec h (ap (λ x. holds t a x) (sym k))
test_is_true t r Unknown w a c rec h k = tt
test_is_true t r (Const m) Unknown a c rec h k = tt
test_is_true t r (Const m) (Masked i n) a c rec h k = tt
test_is_true t r (Masked i m) Unknown a c rec h k = tt
test_is_true t r (Masked i m) (Masked j n) a c rec h k = tt

-- the second operand is as its value says
pub operand_has_value : (o : Operand) (i : Insn) (regs : Regs) (r : List ℕ) (s : Registers) → HasValue regs.x r s.x
    → HasValue (operand_value o i regs) r (operand o i s)
operand_has_value K i regs r s h = refl
operand_has_value X i regs r s h = h

pub follows_fact : (regs : Regs) (lits : List Lit) (i : Insn) → FollowsFact regs lits i
follows_fact regs lits i r s t o rec inside is =
    subst (λ op. IfSome (fact_by op i regs (holds t s.a (operand o i s))) (λ l. Holds l r)) (sym is)
    (test_is_true t r regs.a (operand_value o i regs) s.a (operand o i s) rec inside.has_a (operand_has_value o i regs r s inside.has_x))
