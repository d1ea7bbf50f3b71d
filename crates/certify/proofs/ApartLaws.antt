-- Where a comparison tells all that it asks, the facts of its two edges are true of no record together.
use Rattle.std.proofs.Common.{◌≡◌, ℕ, ◌+◌, ◌-◌, ◌≤◌, Bool, true, false, not, cond, eqb, List, sym, ◌∙◌, subst, ⊎_elim, arith}
use Rattle.std.specs.Prelude.{bit_and, bit_or, IfSome, Option, Some, None}
use Rattle.std.specs.Int.{w32, trailing_zeros}
use Rattle.std.proofs.lemmas.Bool.{cases_Bool, eqb-true}
use Rattle.std.proofs.lemmas.Nat.{pow_pos}
use Rattle.call_record.specs.Words.{word}
use Rattle.bpf_insn.specs.declared.code.Test.{Test}
use Rattle.bpf_insn.specs.declared.code.Test.TheVariants.{Equal, Greater, AtLeast, AnyBit}
use Rattle.bpf_insn.specs.Machine.{holds}
use Rattle.cert_state.specs.declared.literal.AVal.{AVal}
use Rattle.cert_state.specs.declared.literal.AVal.TheVariants.{Const, Masked}
use Rattle.cert_state.specs.declared.literal.Lit.{Lit}
use Rattle.cert_state.specs.declared.literal.Lit.TheVariants.{In, Bits, NotBits}
use Rattle.cert_state.specs.Literals.{Holds, all_bits, false_literal}
use Rattle.cert_state.specs.Sharp.{above_fact, is_bit, is_high, lowest_bit, part_fact, sharp_test_fact}
use Rattle.cert_state.specs.Transfer.{certain_fact, masked_fact}
use Rattle.certify.specs.Telling.{IsTold}

module _ (r : List ℕ) where
  abbrev Tell : Option Lit → Type 0
  Tell o = IfSome o (λ l. Holds l r)

  never_false : Holds false_literal r → ⊥
  never_false h = omega (arith, h.0, h.1)

  certain_apart : (b : Bool) → Tell (certain_fact b) → Tell (certain_fact (not b)) → ⊥
  certain_apart true one other = never_false other
  certain_apart false one other = never_false one

  module _ (w c : ℕ) where
    equal_apart : (m : ℕ) → Tell (masked_fact Equal w m c true) → Tell (masked_fact Equal w m c false) → ⊥
    equal_apart m one other = ⊎_elim
        (λ (inside : eqb (bit_and c m) c ≡ true).
        let is : bit_and (word r w) m ≡ c = subst (λ b. Tell (cond b (Some (Bits w m c)) (Some false_literal))) inside one in
        let never : bit_and (word r w) m ≡ c → ⊥ = subst (λ b. Tell (cond b (Some (NotBits w m c)) None)) inside other in
        never is)
        (λ (outside : eqb (bit_and c m) c ≡ false).
        never_false (subst (λ b. Tell (cond b (Some (Bits w m c)) (Some false_literal))) outside one))
        (cases_Bool (eqb (bit_and c m) c))

    order_apart : Tell (masked_fact Greater w all_bits c true) → Tell (masked_fact Greater w all_bits c false) → ⊥
    order_apart one other = ⊎_elim
        (λ (most : eqb c all_bits ≡ true).
        never_false (subst (λ b. Tell (cond b (Some false_literal) (Some (In w (c + 1) all_bits)))) most one))
        (λ (less : eqb c all_bits ≡ false).
        let above : (c + 1 ≤ word r w) × (word r w ≤ all_bits) =
        subst (λ b. Tell (cond b (Some false_literal) (Some (In w (c + 1) all_bits)))) less one in
        let below : (0 ≤ word r w) × (word r w ≤ c) = other in
        omega (arith, above.0, below.1))
        (cases_Bool (eqb c all_bits))

  above_apart : (lits : List Lit) (w m c : ℕ) → is_high m ≡ true → Tell (above_fact lits w m c true) → Tell (above_fact lits w m c false) → ⊥
  above_apart lits w m c high one other =
      let k : ℕ = bit_or c (all_bits - m) in
      order_apart w k
      (subst (λ b. Tell (cond b (masked_fact Greater w all_bits k true) (part_fact lits w m c true))) high one)
      (subst (λ b. Tell (cond b (masked_fact Greater w all_bits k false) (part_fact lits w m c false))) high other)

  least_apart : (lits : List Lit) (w m c : ℕ) → is_high m ≡ true
      → Tell (cond (eqb c 0) (masked_fact AtLeast w all_bits 0 true) (above_fact lits w m (c - 1) true))
      → Tell (cond (eqb c 0) (masked_fact AtLeast w all_bits 0 false) (above_fact lits w m (c - 1) false)) → ⊥
  least_apart lits w m c high one other = ⊎_elim
      (λ (none : eqb c 0 ≡ true).
      never_false (subst (λ b. Tell (cond b (masked_fact AtLeast w all_bits 0 false) (above_fact lits w m (c - 1) false))) none other))
      (λ (some : eqb c 0 ≡ false).
      above_apart lits w m (c - 1) high
      (subst (λ b. Tell (cond b (masked_fact AtLeast w all_bits 0 true) (above_fact lits w m (c - 1) true))) some one)
      (subst (λ b. Tell (cond b (masked_fact AtLeast w all_bits 0 false) (above_fact lits w m (c - 1) false))) some other))
      (cases_Bool (eqb c 0))

  no_bit : is_bit 0 ≡ true → ⊥
  no_bit e = let none : 0 ≡ lowest_bit 0 = eqb-true 0 (lowest_bit 0) e in let some = pow_pos (trailing_zeros w32 0) in omega (arith, none, some)

  any_apart : (w b : ℕ) → Tell (cond (is_bit b) (Some (Bits w b b)) (Some (NotBits w b 0))) → bit_and (word r w) b ≡ 0 → ⊥
  any_apart w b one other = ⊎_elim
      (λ (bit : is_bit b ≡ true).
      let is : bit_and (word r w) b ≡ b = subst (λ x. Tell (cond x (Some (Bits w b b)) (Some (NotBits w b 0)))) bit one in
      no_bit (subst (λ n. is_bit n ≡ true) (sym is ∙ other) bit))
      (λ (more : is_bit b ≡ false).
      let never : bit_and (word r w) b ≡ 0 → ⊥ = subst (λ x. Tell (cond x (Some (Bits w b b)) (Some (NotBits w b 0)))) more one in
      never other)
      (cases_Bool (is_bit b))

  pub apart : (lits : List Lit) (test : Test) (a b : AVal) → IsTold test a b
      → Tell (sharp_test_fact lits test a b true) → Tell (sharp_test_fact lits test a b false) → ⊥
  apart lits test (Const a) (Const c) told one other = certain_apart (holds test a c) one other
  apart lits Equal (Masked w m) (Const c) told one other = equal_apart w c m one other
  apart lits AnyBit (Masked w m) (Const c) told one other = any_apart w (bit_and m c) one other
  apart lits Greater (Masked w m) (Const c) told one other = above_apart lits w m c told one other
  apart lits AtLeast (Masked w m) (Const c) told one other = least_apart lits w m c told one other
  apart lits test a b told one other = absurd told
