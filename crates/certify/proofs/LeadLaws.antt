-- What is known leads on.
use Rattle.std.proofs.Common.{◌≡◌, ℕ, suc, zero, ◌+◌, ◌-◌, ◌^◌, ◌<◌, ◌≤◌, Bool, true, false, cond, eqb, List, [], ◌∷◌, sym}
use Rattle.std.proofs.Common.{refl, ap, subst, ◌∙◌, arith, inl, inr, ◌⊎◌, ⊎_elim}
use Rattle.std.specs.Prelude.{Option, Some, None, slice_get, slice_index, bit_and, nat_le}
use Rattle.std.proofs.lemmas.Option.{same_Some, none-some}
use Rattle.std.proofs.lemmas.List.Elements.{All-head, All-tail}
use Rattle.std.proofs.lemmas.Bool.{cases_eq, eq-eqb, ne_eqb, le-leb, lt-leb}
use Rattle.bpf_insn.specs.declared.code.Test.{Test}
use Rattle.bpf_insn.specs.declared.code.Test.TheVariants.{Equal, Greater, AtLeast, AnyBit}
use Rattle.bpf_insn.specs.declared.instruction.Insn.{Insn}
use Rattle.bpf_insn.specs.Code.{operation_of}
use Rattle.bpf_insn.specs.Machine.{holds}
use Rattle.profile.specs.Policy.{Policy}
use Rattle.cert_state.specs.declared.literal.Lit.{Lit}
use Rattle.cert_state.specs.declared.literal.Lit.TheVariants.{In, Bits, NotBits}
use Rattle.cert_state.specs.Literals.{all_bits}
use Rattle.cert_state.specs.Points.{IsPoint}
use Rattle.cert_state.proofs.BitLaws.{and_all}
use Rattle.rule_compile.specs.Moves.{Move}
use Rattle.rule_compile.specs.Moves.{Ends, Goes, Forks}
use Rattle.rule_compile.specs.Moves.{move_at}
use Rattle.rule_compile.specs.Shape.{answer, answer_by, call}
use Rattle.certify.specs.inner.Path.{AnswersThere, HoldsCall, fact, LeadsOn, PathsLead}
use Rattle.certify.proofs.MoveLaws.{move_of_is}
use Rattle.certify.proofs.PointFacts.{Asks}

-- the answer at a position, by what the instruction there does
pub answer_is : (p : List Insn) (pc : ℕ) (i : Insn) (held : Option ℕ) (r : List ℕ) (o : Option ℕ) → slice_get p pc ≡ Some i
    → ((rest : ℕ → Option ℕ → Option ℕ) → ((skip : ℕ) (now : Option ℕ) → rest skip now ≡ answer p (pc + 1 + skip) now r)
    → answer_by (move_at (operation_of i.code) i.k held) i r rest ≡ o)
    → answer p pc held r ≡ o
answer_is [] pc i held r o found step = cc
answer_is (x ∷ p) zero i held r o found step =
    let same : x ≡ i = same_Some x i found in
    let rest : ℕ → Option ℕ → Option ℕ = λ skip now. answer p skip now r in
    ap (λ y. answer_by (move_at (operation_of y.code) y.k held) y r rest) same
    ∙ step rest (λ skip now. let e : suc skip ≡ 0 + 1 + skip = omega arith in ap (λ k. answer (x ∷ p) k now r) e)
answer_is (x ∷ p) (suc pc) i held r o found step =
    answer_is p pc i held r o found (λ rest same. step rest (λ skip now.
    let e : suc (pc + 1 + skip) ≡ suc pc + 1 + skip = omega arith in
    same skip now ∙ ap (λ k. answer (x ∷ p) k now r) e))

-- a comparison of a word that is a point of its fact came out so
module _ (w k u : ℕ) (small : k < 2 ^ 32) (below : u < 2 ^ 32) where
  equal_taken : (l : Lit) → fact Equal w k true ≡ Some l → Asks w u l → eqb u k ≡ true
  equal_taken l e asks =
      let within : bit_and k all_bits ≡ k = and_all k small in
      let is : Bits w all_bits k ≡ l =
      same_Some _ _ (sym (ap (λ b. cond b (Some (Bits w all_bits k)) (Some (In 0 1 0))) (eq-eqb (bit_and k all_bits) k within)) ∙ e) in
      let met : bit_and u all_bits ≡ k = subst (Asks w u) (sym is) asks refl refl in
      eq-eqb u k (sym (and_all u below) ∙ met)

  equal_not : (l : Lit) → fact Equal w k false ≡ Some l → Asks w u l → eqb u k ≡ false
  equal_not l e asks =
      let within : bit_and k all_bits ≡ k = and_all k small in
      let is : NotBits w all_bits k ≡ l =
      same_Some _ _ (sym (ap (λ b. cond b (Some (NotBits w all_bits k)) None) (eq-eqb (bit_and k all_bits) k within)) ∙ e) in
      let met : bit_and u all_bits ≡ k → ⊥ = subst (Asks w u) (sym is) asks refl refl in
      ne_eqb u k (λ same. met (and_all u below ∙ same))

  least_taken : (l : Lit) → fact AtLeast w k true ≡ Some l → Asks w u l → nat_le k u ≡ true
  least_taken l e asks =
      let is : In w k all_bits ≡ l = same_Some _ _ e in
      let met : (k ≤ u) × (u ≤ all_bits) = subst (Asks w u) (sym is) asks refl tt in
      le-leb k u met.0

  -- where the number is 0 the comparison is never so, and the literal of it is the false one
  least_not : (l : Lit) → fact AtLeast w k false ≡ Some l → ((l ≡ In 0 1 0) → ⊥) → Asks w u l → nat_le k u ≡ false
  least_not l e possible asks = ⊎_elim
      (λ (z : k ≡ 0).
      let is : In 0 1 0 ≡ l = same_Some _ _ (sym (ap (λ b. cond b (Some (In 0 1 0)) (Some (In w 0 (k - 1)))) (eq-eqb k 0 z)) ∙ e) in
      absurd (possible (sym is)))
      (λ (nz : k ≡ 0 → ⊥).
      let is : In w 0 (k - 1) ≡ l = same_Some _ _ (sym (ap (λ b. cond b (Some (In 0 1 0)) (Some (In w 0 (k - 1)))) (ne_eqb k 0 nz)) ∙ e) in
      let met : (0 ≤ u) × (u ≤ k - 1) = subst (Asks w u) (sym is) asks refl tt in
      lt-leb k u (omega (arith, met.1, nz)))
      (cases_eq k 0)

-- a word of a call is a point where both are
pub word_point : (ls : List Lit) (t u w : ℕ) → w < 2 → IsPoint ls 1 t → IsPoint ls 0 u → IsPoint ls w (slice_index (call t u) w)
word_point ls t u zero below at_t at_u = at_u
word_point ls t u (suc zero) below at_t at_u = at_t
word_point ls t u (suc (suc w)) below at_t at_u = absurd (omega arith)

pub first_asks : (l : Lit) (ls : List Lit) (w u : ℕ) → IsPoint (l ∷ ls) w u → Asks w u l
first_asks l ls w u at = All-head (Asks w u) l ls at.1

pub rest_point : (l : Lit) (ls : List Lit) (w u : ℕ) → IsPoint (l ∷ ls) w u → IsPoint ls w u
rest_point l ls w u at = (at.0, All-tail (Asks w u) l ls at.1)

-- the false literal leaves no number
pub never_false : (l : Lit) (ls : List Lit) (u : ℕ) → IsPoint (l ∷ ls) 0 u → l ≡ In 0 1 0 → ⊥
never_false l ls u at is =
    let met : (1 ≤ u) × (u ≤ 0) = subst (Asks 0 u) is (first_asks l ls 0 u at) refl tt in
    omega (arith, met.0, met.1)

-- the comparison came out as its fact says
came_out : (test : Test) (w k t u : ℕ) (taken : Bool) (l : Lit) (ls : List Lit) → (test ≡ Equal) ⊎ (test ≡ AtLeast) → k < 2 ^ 32 → w < 2
    → fact test w k taken ≡ Some l → IsPoint (l ∷ ls) 1 t → IsPoint (l ∷ ls) 0 u → holds test (slice_index (call t u) w) k ≡ taken
came_out test w k t u taken l ls which small below e at_t at_u =
    let at : IsPoint (l ∷ ls) w (slice_index (call t u) w) = word_point (l ∷ ls) t u w below at_t at_u in
    let asks = first_asks l ls w (slice_index (call t u) w) at in
    by_test test taken which e asks at.0
  where
    by_test : (test : Test) (taken : Bool) → (test ≡ Equal) ⊎ (test ≡ AtLeast) → fact test w k taken ≡ Some l
        → Asks w (slice_index (call t u) w) l
        → slice_index (call t u) w < 2 ^ 32 → holds test (slice_index (call t u) w) k ≡ taken
    by_test Equal true which e asks low = equal_taken w k (slice_index (call t u) w) small low l e asks
    by_test Equal false which e asks low = equal_not w k (slice_index (call t u) w) small low l e asks
    by_test AtLeast true which e asks low = least_taken w k (slice_index (call t u) w) small low l e asks
    by_test AtLeast false which e asks low = least_not w k (slice_index (call t u) w) small low l e (never_false l ls u at_u) asks
    by_test Greater taken (inl e) _ asks low = cc
    by_test Greater taken (inr e) _ asks low = cc
    by_test AnyBit taken (inl e) _ asks low = cc
    by_test AnyBit taken (inr e) _ asks low = cc

module _ (policy : Policy) (p : List Insn) (pc : ℕ) (held : Option ℕ) (known : List Lit) (i : Insn) (found : slice_get p pc ≡ Some i)
    (small : i.k < 2 ^ 32) (of : HoldsCall held) (answers : AnswersThere policy p pc held known) where
  leads : (m : Option Move) → move_at (operation_of i.code) i.k held ≡ m → LeadsOn policy p pc held known i m
  leads None is = λ possible.
      let gives = answers possible.token possible.number possible.token_is possible.number_is in
      let none : answer p pc held (call possible.token possible.number) ≡ None =
      answer_is p pc i held (call possible.token possible.number) None found
      (λ rest same. ap (λ m. answer_by m i (call possible.token possible.number) rest) is) in
      none-some _ (sym none ∙ gives)
  leads (Some (Ends v)) is = λ t u at_t at_u.
      let gives : answer p pc held (call t u) ≡ Some v =
      answer_is p pc i held (call t u) (Some v) found (λ rest same. ap (λ m. answer_by m i (call t u) rest) is) in
      same_Some _ _ (sym (answers t u at_t at_u) ∙ gives)
  leads (Some (Goes skip now)) is = λ t u at_t at_u.
      let goes : answer p pc held (call t u) ≡ answer p (pc + 1 + skip) now (call t u) =
      answer_is p pc i held (call t u) _ found (λ rest same. ap (λ m. answer_by m i (call t u) rest) is ∙ same skip now) in
      sym goes ∙ answers t u at_t at_u
  leads (Some (Forks test w)) is = λ taken l e t u at_t at_u.
      let fork = move_of_is (operation_of i.code) i.k held (Some (Forks test w)) is in
      let below : w < 2 = subst HoldsCall fork.1 of in
      let out : holds test (slice_index (call t u) w) i.k ≡ taken = came_out test w i.k t u taken l known fork.2 small below e at_t at_u in
      let goes : answer p pc held (call t u) ≡ answer p (pc + 1 + cond taken i.jt i.jf) (Some w) (call t u) =
      answer_is p pc i held (call t u) _ found (λ rest same. ap (λ m. answer_by m i (call t u) rest) is
      ∙ ap (λ b. rest (cond b i.jt i.jf) (Some w)) out ∙ same (cond taken i.jt i.jf) (Some w)) in
      sym goes ∙ answers t u (rest_point l known 1 t at_t) (rest_point l known 0 u at_u)

pub paths_lead : PathsLead
paths_lead policy p pc held known i found small of answers =
    leads policy p pc held known i found small of answers (move_at (operation_of i.code) i.k held) refl
