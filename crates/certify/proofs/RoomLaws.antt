-- There is room for what is made.
use Rattle.std.proofs.Common.{◌≡◌, ℕ, ◌+◌, ◌-◌, ◌*◌, ◌<◌, ◌≤◌, ◌^◌, Bool, true, false, cond, eqb, List, ◌∷◌, length, ap}
use Rattle.std.proofs.Common.{refl, sym, ◌∙◌, subst, arith, inl, inr, ◌⊎◌, ⊎_elim}
use Rattle.std.specs.List.{list_any}
use Rattle.std.specs.Prelude.{filter, take, Option, Some, None, slice_get, bit_and, nat_le, not}
use Rattle.std.proofs.lemmas.Bool.{cases_eq, eq-eqb, ne_eqb, leb-true}
use Rattle.std.proofs.lemmas.Option.{same_Some}
use Rattle.std.proofs.lemmas.List.Filters.{length-filter_both}
use Rattle.std.proofs.Math.Nat.{le-max_left, le-max_right}
use Rattle.machines.specs.declared.arch.Arch.{Arch}
use Rattle.machines.specs.Arch.{machines_of, same_arch}
use Rattle.bpf_insn.specs.declared.code.Test.{Test}
use Rattle.bpf_insn.specs.declared.code.Test.TheVariants.{Equal, AtLeast}
use Rattle.bpf_insn.specs.declared.instruction.Insn.{Insn}
use Rattle.bpf_insn.specs.Code.{operation_of}
use Rattle.profile.specs.Policy.{Policy, IsProfile}
use Rattle.cert_state.specs.declared.literal.Lit.{Lit}
use Rattle.cert_state.specs.declared.literal.Lit.TheVariants.{In, Bits, NotBits}
use Rattle.cert_state.specs.Literals.{all_bits}
use Rattle.cert_state.proofs.BitLaws.{and_all}
use Rattle.rule_compile.specs.Moves.{Forks, move_at}
use Rattle.rule_compile.specs.Shape.{depth, tokens}
use Rattle.certify.specs.inner.Counts.{Exclude, halves_cost, inside, path_cost, return_cost}
use Rattle.certify.specs.inner.Path.{fact}
use Rattle.certify.proofs.CountLaws.{both_first, both_second, inside_parts}
use Rattle.certify.proofs.HalfLaws.{tokens_exclude}
use Rattle.certify.proofs.TokenLaws.{first_fewer, first_tokens}
use Rattle.profile.proofs.MachineLaws.{few}
use Rattle.certify.proofs.MoveLaws.{forks_cost, move_of_is}

-- ---- a return's machines

return_split : (n a b x y i : ℕ) → b ≡ a + 1 → b ≤ n → x + y ≤ i
    → halves_cost 10 x + (2 * (n - b) + 1 + 2 * y) + 1 ≤ 2 * (n - a) + 1 + 2 * i
return_split n a b x y i next most parts = omega (arith, next, most, parts)

-- a machine whose token none before it has is told apart
pub tokens_total : (policy : Policy) (known : List Lit) (t at : ℕ) → at < length policy.machines
    → tokens (take (at + 1) policy.machines) ≡ tokens (take at policy.machines) + 1
    → halves_cost 10 (inside 512 policy.machines (Bits 1 all_bits t ∷ known))
    + return_cost policy.machines (at + 1) (inside 512 policy.machines (NotBits 1 all_bits t ∷ known)) + 1
    ≤ return_cost policy.machines at (inside 512 policy.machines known)
tokens_total policy known t at less next =
    return_split (tokens policy.machines) (tokens (take at policy.machines)) (tokens (take (at + 1) policy.machines))
    (inside 512 policy.machines (Bits 1 all_bits t ∷ known)) (inside 512 policy.machines (NotBits 1 all_bits t ∷ known))
    (inside 512 policy.machines known) next (first_tokens policy.machines (at + 1) (omega (arith, less)))
    (inside_parts 512 policy.machines known (Bits 1 all_bits t) (NotBits 1 all_bits t) (tokens_exclude t))

-- what is left costs no more past a machine
pub past_machine : (machines : List Arch) (at calls : ℕ) → at < length machines → return_cost machines (at + 1) calls ≤ return_cost machines at calls
past_machine machines at calls inside =
    let fewer = first_fewer machines at inside in
    let most = first_tokens machines (at + 1) (omega (arith, inside)) in
    omega (arith, fewer, most)

kept_at_most : (p : Arch → Bool) (xs : List Arch) → length (filter p xs) ≤ length xs
kept_at_most p xs = let e = length-filter_both p (λ x. not (p x)) (λ x. refl) xs in omega (arith, e)

-- a profile lists ten at most
pub ten_machines : (policy : Policy) → IsProfile policy → length policy.machines ≤ 10
ten_machines policy is =
    let order = is.machines_in_order in
    let kept = kept_at_most (λ a. list_any (same_arch a) policy.machines) (machines_of order.0) in
    omega (arith, ap length order.1, kept, few order.0)

-- ---- a comparison's ways

-- no call meets both facts of a comparison
module _ (w k : ℕ) (small : k < 2 ^ 32) where
  equal_exclude : (l m : Lit) → fact Equal w k true ≡ Some l → fact Equal w k false ≡ Some m → Exclude l m
  equal_exclude l m e f =
      let within : bit_and k all_bits ≡ k = and_all k small in
      let yes : Bits w all_bits k ≡ l =
      same_Some _ _ (sym (ap (λ b. cond b (Some (Bits w all_bits k)) (Some (In 0 1 0))) (eq-eqb (bit_and k all_bits) k within)) ∙ e) in
      let no_is : NotBits w all_bits k ≡ m =
      same_Some _ _ (sym (ap (λ b. cond b (Some (NotBits w all_bits k)) None) (eq-eqb (bit_and k all_bits) k within)) ∙ f) in
      subst (λ x. Exclude x m) yes (subst (λ x. Exclude (Bits w all_bits k) x) no_is (λ token nr own other.
      apart (eqb (bit_and (cond (eqb w 0) nr token) all_bits) k) own other))
    where
      apart : (b : Bool) → b ≡ true → not b ≡ true → ⊥
      apart true own other = cc
      apart false own other = cc

  least_exclude : (l m : Lit) → fact AtLeast w k true ≡ Some l → fact AtLeast w k false ≡ Some m → Exclude l m
  least_exclude l m e f =
      let yes : In w k all_bits ≡ l = same_Some _ _ e in
      subst (λ x. Exclude x m) yes (⊎_elim
      (λ (z : k ≡ 0).
      let no_is : In 0 1 0 ≡ m = same_Some _ _ (sym (ap (λ b. cond b (Some (In 0 1 0)) (Some (In w 0 (k - 1)))) (eq-eqb k 0 z)) ∙ f) in
      subst (λ x. Exclude (In w k all_bits) x) no_is (λ token nr own other.
      let from = leb-true 1 nr (both_first (nat_le 1 nr) (nat_le nr 0) other) in
      let upto = leb-true nr 0 (both_second (nat_le 1 nr) (nat_le nr 0) other) in
      omega (arith, from, upto)))
      (λ (nz : k ≡ 0 → ⊥).
      let no_is : In w 0 (k - 1) ≡ m =
      same_Some _ _ (sym (ap (λ b. cond b (Some (In 0 1 0)) (Some (In w 0 (k - 1)))) (ne_eqb k 0 nz)) ∙ f) in
      subst (λ x. Exclude (In w k all_bits) x) no_is (λ token nr own other.
      let u = cond (eqb w 0) nr token in
      let from = leb-true k u (both_first (nat_le k u) (nat_le u all_bits) own) in
      let upto = leb-true u (k - 1) (both_second (nat_le 0 u) (nat_le u (k - 1)) other) in
      omega (arith, from, upto, nz)))
      (cases_eq k 0))

  pub facts_exclude : (test : Test) (l m : Lit) → (test ≡ Equal) ⊎ (test ≡ AtLeast) → fact test w k true ≡ Some l
      → fact test w k false ≡ Some m → Exclude l m
  facts_exclude test l m (inl is) e f = equal_exclude l m (ap (λ x. fact x w k true) (sym is) ∙ e) (ap (λ x. fact x w k false) (sym is) ∙ f)
  facts_exclude test l m (inr is) e f = least_exclude l m (ap (λ x. fact x w k true) (sym is) ∙ e) (ap (λ x. fact x w k false) (sym is) ∙ f)

module _ (policy : Policy) (p : List Insn) (pc : ℕ) (i : Insn) (held : Option ℕ) (found : slice_get p pc ≡ Some i) (small : i.k < 2 ^ 32)
    (test : Test) (w : ℕ) (forks : move_at (operation_of i.code) i.k held ≡ Some (Forks test w)) (known : List Lit) (l m : Lit)
    (yes : fact test w i.k true ≡ Some l) (other : fact test w i.k false ≡ Some m) where
  pub forks_total : path_cost p (pc + 1 + i.jt) (inside 512 policy.machines (l ∷ known))
      + path_cost p (pc + 1 + i.jf) (inside 512 policy.machines (m ∷ known)) + 1
      ≤ path_cost p pc (inside 512 policy.machines known)
  forks_total =
      let which = (move_of_is (operation_of i.code) i.k held (Some (Forks test w)) forks).2 in
      let parts = inside_parts 512 policy.machines known l m (facts_exclude w i.k small test l m which yes other) in
      omega (arith, parts, (forks_cost p pc i held found test w forks).0)

  pub taken_lower : depth p (pc + 1 + i.jt) + 1 ≤ depth p pc
  taken_lower =
      omega (arith, (forks_cost p pc i held found test w forks).1, le-max_left (depth p (pc + 1 + i.jt)) (depth p (pc + 1 + i.jf)))

  pub other_lower : depth p (pc + 1 + i.jf) + 1 ≤ depth p pc
  other_lower =
      omega (arith, (forks_cost p pc i held found test w forks).1, le-max_right (depth p (pc + 1 + i.jt)) (depth p (pc + 1 + i.jf)))
