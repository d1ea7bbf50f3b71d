-- One step of the machine leads from inside a state to inside what is known after it.
use Rattle.std.proofs.Common.{◌≡◌, ℕ, ◌-◌, ◌*◌, ◌/◌, ◌%◌, ◌^◌, ◌<◌, Bool, true, false, cond, eqb, ltb, zero, suc, List, [], ◌∷◌, get_or, set, length, Option, Some, None, sym, refl, ap, ◌∙◌, subst, inl, inr, ⊎_elim, arith}
use Rattle.std.specs.Prelude.{bit_and, slice_get, slice_set, option_and_then}
use Rattle.std.proofs.lemmas.Bool.{cases_eq}
use Rattle.std.proofs.lemmas.Option.{slice_get_cases, get_or_from_slice_get}
use Rattle.std.proofs.lemmas.List.{length-set, get_or_past}
use Rattle.call_record.specs.Words.{IsRecord, word}
use Rattle.bpf_insn.specs.declared.code.Arithmetic.{Arithmetic}
use Rattle.bpf_insn.specs.declared.code.Arithmetic.TheVariants.{Add, Sub, Or, And, Xor}
use Rattle.bpf_insn.specs.declared.code.Operation.{Operation}
use Rattle.bpf_insn.specs.declared.code.Operation.TheVariants.{LoadWord, LoadScratch, LoadScratchX, Store, StoreX, SetA, SetX, ReturnK, ReturnA, Jump, Branch, Compute, ShiftLeft, ShiftRight, Negate, CopyToX, CopyToA}
use Rattle.bpf_insn.specs.declared.instruction.Insn.{Insn}
use Rattle.bpf_insn.specs.Causes.{IsPlain, WritesScratch}
use Rattle.bpf_insn.specs.Code.{operation_of}
use Rattle.bpf_insn.specs.Machine.{Registers, Goes, Stuck, computed, kept, loaded, loaded_x, operand, perform, perform_if, word_at}
use Rattle.bpf_insn.proofs.PlainLaws.{plain-writes}
use Rattle.cert_state.specs.declared.literal.Lit.{Lit}
use Rattle.cert_state.specs.declared.literal.AVal.{AVal}
use Rattle.cert_state.specs.declared.literal.AVal.TheVariants.{Unknown, Const, Masked}
use Rattle.cert_state.specs.declared.literal.Regs.{Regs}
use Rattle.cert_state.specs.Literals.{all_bits}
use Rattle.cert_state.specs.States.{HasValue, IsKept, Inside}
use Rattle.cert_state.specs.Transfer.{combined, computed_value, mapped, masked, operand_value, transfer_by, transfer_if}
use Rattle.cert_state.specs.Soundness.{StaysInside}
use Rattle.cert_state.proofs.BitLaws.{and_assoc, and_all}
use Rattle.cert_state.proofs.EdgeLaws.{operand_has_value}

-- the values of what is computed

mapped_has : (f : ℕ → ℕ) (r : List ℕ) (v : AVal) (a : ℕ) → HasValue v r a → HasValue (mapped f v) r (f a)
mapped_has f r (Const m) a h = ap f h
mapped_has f r Unknown a h = tt
mapped_has f r (Masked i m) a h = tt

combined_has : (f : ℕ → ℕ → ℕ) (r : List ℕ) (v w : AVal) (a b : ℕ) → HasValue v r a → HasValue w r b → HasValue (combined f v w) r (f a b)
combined_has f r (Const m) (Const n) a b h k = ap (λ x. f x b) h ∙ ap (λ x. f m x) k
combined_has f r (Const m) Unknown a b h k = tt
combined_has f r (Const m) (Masked i n) a b h k = tt
combined_has f r Unknown w a b h k = tt
combined_has f r (Masked i n) w a b h k = tt

masked_has : (r : List ℕ) (v w : AVal) (a b : ℕ) → HasValue v r a → HasValue w r b → HasValue (masked v w) r (bit_and a b)
masked_has r (Const m) (Const n) a b h k = ap (λ x. bit_and x b) h ∙ ap (λ x. bit_and m x) k
masked_has r (Masked i m) (Const n) a b h k =
    ap (λ x. bit_and x b) h ∙ ap (λ x. bit_and (bit_and (word r i) m) x) k ∙ and_assoc (word r i) m n
masked_has r Unknown w a b h k = tt
masked_has r (Const m) Unknown a b h k = tt
masked_has r (Const m) (Masked i n) a b h k = tt
masked_has r (Masked i m) Unknown a b h k = tt
masked_has r (Masked i m) (Masked j n) a b h k = tt

computed_has : (f : Arithmetic) (r : List ℕ) (v w : AVal) (a b : ℕ) → HasValue v r a → HasValue w r b
    → HasValue (computed_value f v w) r (computed f a b)
computed_has Add r v w a b h k = combined_has (computed Add) r v w a b h k
computed_has Sub r v w a b h k = combined_has (computed Sub) r v w a b h k
computed_has Or r v w a b h k = combined_has (computed Or) r v w a b h k
computed_has And r v w a b h k = masked_has r v w a b h k
computed_has Xor r v w a b h k = combined_has (computed Xor) r v w a b h k

-- a list with one element changed

set_same : {X : Type 0} (xs : List X) (k : ℕ) (x : X) → k < length xs → slice_get (set xs k x) k ≡ Some x
set_same [] k x lt = absurd (omega arith)
set_same (y ∷ ys) zero x lt = refl
set_same (y ∷ ys) (suc k) x lt = set_same ys k x (omega arith)

set_found : {X : Type 0} (xs : List X) (k : ℕ) (x y : X) → slice_get (set xs k x) k ≡ Some y → x ≡ y
set_found [] k x y e = cc
set_found (z ∷ zs) zero x y e = cc
set_found (z ∷ zs) (suc k) x y e = set_found zs k x y e

set_other : {X : Type 0} (xs : List X) (k j : ℕ) (x : X) → (j ≡ k → ⊥) → slice_get (set xs k x) j ≡ slice_get xs j
set_other [] k j x ne = refl
set_other (y ∷ ys) zero zero x ne = absurd (ne refl)
set_other (y ∷ ys) zero (suc j) x ne = refl
set_other (y ∷ ys) (suc k) zero x ne = refl
set_other (y ∷ ys) (suc k) (suc j) x ne = set_other ys k j x (λ e. ne (ap suc e))

-- what is loaded and stored

loaded_goes : (s : Registers) (o : Option ℕ) (skip : ℕ) (after : Registers) → loaded s o ≡ Goes skip after
    → (n : ℕ) × (o ≡ Some n) × (record s { a = n } ≡ after)
loaded_goes s None skip after e = cc
loaded_goes s (Some n) skip after e = (n, refl, cc)

loaded_x_goes : (s : Registers) (o : Option ℕ) (skip : ℕ) (after : Registers) → loaded_x s o ≡ Goes skip after
    → (n : ℕ) × (o ≡ Some n) × (record s { x = n } ≡ after)
loaded_x_goes s None skip after e = cc
loaded_x_goes s (Some n) skip after e = (n, refl, cc)

word_is : (r : List ℕ) (j n : ℕ) (b : Bool) → cond b (slice_get r j) None ≡ Some n → word r j ≡ n
word_is r j n true e = get_or_from_slice_get r j n 0 e
word_is r j n false e = cc

-- a written scratch word and a register that hold the same are as the same values say
value_from_kept : (v : AVal) (r : List ℕ) (o : Option ℕ) (n : ℕ) → o ≡ Some n → IsKept v r o → HasValue v r n
value_from_kept Unknown r o n e h = tt
value_from_kept (Const c) r o n e h = cc
value_from_kept (Masked w m) r o n e h = cc

kept_from_value : (v : AVal) (r : List ℕ) (o : Option ℕ) (n : ℕ) → o ≡ Some n → HasValue v r n → IsKept v r o
kept_from_value Unknown r o n e h = tt
kept_from_value (Const c) r o n e h = e ∙ ap Some h
kept_from_value (Masked w m) r o n e h = e ∙ ap Some h

module _ (regs : Regs) (lits : List Lit) (r : List ℕ) (s : Registers) (inside : Inside regs lits r s) where
  new_a : (v : AVal) (n : ℕ) → HasValue v r n → Inside (record regs { a = v }) lits r (record s { a = n })
  new_a v n h = record { known = inside.known; has_a = h; has_x = inside.has_x; sixteen = inside.sixteen; has_scratch = inside.has_scratch }

  new_x : (v : AVal) (n : ℕ) → HasValue v r n → Inside (record regs { x = v }) lits r (record s { x = n })
  new_x v n h = record { known = inside.known; has_a = inside.has_a; has_x = h; sixteen = inside.sixteen; has_scratch = inside.has_scratch }

  new_scratch : (k : ℕ) (v : AVal) (n : ℕ) → k < 16 → HasValue v r n
      → Inside (record regs { scratch = slice_set regs.scratch k v }) lits r (record s { scratch = slice_set s.scratch k (Some n) })
  new_scratch k v n lt h = record {
    known = inside.known;
    has_a = inside.has_a;
    has_x = inside.has_x;
    sixteen = length-set s.scratch k (Some n) ∙ inside.sixteen;
    has_scratch = λ j u found. ⊎_elim
        (λ (e : j ≡ k).
        let here : slice_get (set regs.scratch k v) k ≡ Some u = subst (λ i. slice_get (set regs.scratch k v) i ≡ Some u) e found in
        let same : v ≡ u = set_found regs.scratch k v u here in
        let there : slice_get (set s.scratch k (Some n)) j ≡ Some (Some n) =
        ap (λ i. slice_get (set s.scratch k (Some n)) i) e ∙ set_same s.scratch k (Some n) (let l = inside.sixteen in omega arith) in
        kept_from_value u r _ n (ap (option_and_then (λ o. o)) there) (subst (λ w. HasValue w r n) same h))
        (λ (ne : j ≡ k → ⊥).
        subst (λ o. IsKept u r (option_and_then (λ p. p) o)) (sym (set_other s.scratch k j (Some n) ne))
        (inside.has_scratch j u (sym (set_other regs.scratch k j v ne) ∙ found)))
        (cases_eq j k);
  }

  loaded_value : (k n : ℕ) → kept s k ≡ Some n → HasValue (get_or regs.scratch k Unknown) r n
  loaded_value k n e = elim (slice_get_cases regs.scratch k).1 [
    | inl (v, within, found, is) ↦
        subst (λ u. HasValue u r n) (sym (get_or_from_slice_get regs.scratch k v Unknown found))
        (value_from_kept v r (kept s k) n e (inside.has_scratch k v found))
    | inr (past, none) ↦ subst (λ u. HasValue u r n) (sym (get_or_past regs.scratch k Unknown past)) tt
  ]

  -- where the run goes on with registers that are as a state says, the next ones are
  goes : (known : Regs) (t : Registers) (j skip : ℕ) (after : Registers) → Goes j t ≡ Goes skip after
      → Inside known lits r t → Inside known lits r after
  goes known t j skip after e h = let same : t ≡ after = cc in subst (λ z. Inside known lits r z) same h

  -- a shift that goes on
  shifted : (b : Bool) (v : AVal) (n skip : ℕ) (after : Registers) → HasValue v r n
      → cond b (Goes 0 (record s { a = n })) Stuck ≡ Goes skip after → Inside (record regs { a = v }) lits r after
  shifted true v n skip after h e = goes (record regs { a = v }) (record s { a = n }) 0 skip after e (new_a v n h)
  shifted false v n skip after h e = cc

  by_operation : (op : Operation) (i : Insn) (skip : ℕ) (after : Registers) → IsRecord r → (WritesScratch i → i.k < 16)
      → operation_of i.code ≡ Some op → perform op r i s ≡ Goes skip after → Inside (transfer_by op i regs) lits r after
  by_operation LoadWord i skip after rec small is e =
      let found = loaded_goes s (word_at r i.k) skip after e in
      let same : word r (i.k / 4) ≡ found.0 = word_is r (i.k / 4) found.0 (eqb (i.k % 4) 0) found.1 in
      let whole : found.0 ≡ bit_and (word r (i.k / 4)) all_bits = sym same ∙ sym (and_all (word r (i.k / 4)) (rec.words (i.k / 4))) in
      subst (λ z. Inside (record regs { a = Masked (i.k / 4) all_bits }) lits r z) found.2 (new_a (Masked (i.k / 4) all_bits) found.0 whole)
  by_operation LoadScratch i skip after rec small is e =
      let found = loaded_goes s (kept s i.k) skip after e in
      subst (λ z. Inside (record regs { a = get_or regs.scratch i.k Unknown }) lits r z) found.2
      (new_a (get_or regs.scratch i.k Unknown) found.0 (loaded_value i.k found.0 found.1))
  by_operation LoadScratchX i skip after rec small is e =
      let found = loaded_x_goes s (kept s i.k) skip after e in
      subst (λ z. Inside (record regs { x = get_or regs.scratch i.k Unknown }) lits r z) found.2
      (new_x (get_or regs.scratch i.k Unknown) found.0 (loaded_value i.k found.0 found.1))
  by_operation Store i skip after rec small is e = goes _ _ 0 skip after e (new_scratch i.k regs.a s.a (small (inl is)) inside.has_a)
  by_operation StoreX i skip after rec small is e = goes _ _ 0 skip after e (new_scratch i.k regs.x s.x (small (inr is)) inside.has_x)
  by_operation SetA i skip after rec small is e = goes _ _ 0 skip after e (new_a (Const i.k) i.k refl)
  by_operation SetX i skip after rec small is e = goes _ _ 0 skip after e (new_x (Const i.k) i.k refl)
  by_operation ReturnK i skip after rec small is e = cc
  by_operation ReturnA i skip after rec small is e = cc
  by_operation Jump i skip after rec small is e = goes regs s i.k skip after e inside
  by_operation (Branch test c) i skip after rec small is e = goes regs s _ skip after e inside
  by_operation (Compute f c) i skip after rec small is e =
      goes _ _ 0 skip after e
      (new_a (computed_value f regs.a (operand_value c i regs)) (computed f s.a (operand c i s))
      (computed_has f r regs.a (operand_value c i regs) s.a (operand c i s) inside.has_a (operand_has_value c i regs r s inside.has_x)))
  by_operation ShiftLeft i skip after rec small is e =
      shifted (ltb i.k 32) _ _ skip after (mapped_has (λ a. a * 2 ^ i.k % 2 ^ 32) r regs.a s.a inside.has_a) e
  by_operation ShiftRight i skip after rec small is e =
      shifted (ltb i.k 32) _ _ skip after (mapped_has (λ a. a / 2 ^ i.k) r regs.a s.a inside.has_a) e
  by_operation Negate i skip after rec small is e =
      goes _ _ 0 skip after e (new_a _ _ (mapped_has (λ a. (2 ^ 32 - a) % 2 ^ 32) r regs.a s.a inside.has_a))
  by_operation CopyToX i skip after rec small is e = goes _ _ 0 skip after e (new_x regs.a s.a inside.has_a)
  by_operation CopyToA i skip after rec small is e = goes _ _ 0 skip after e (new_a regs.x s.x inside.has_x)

  by_code : (o : Option Operation) (i : Insn) (skip : ℕ) (after : Registers) → IsRecord r → (WritesScratch i → i.k < 16)
      → operation_of i.code ≡ o → perform_if o r i s ≡ Goes skip after → Inside (transfer_if o i regs) lits r after
  by_code None i skip after rec small is e = cc
  by_code (Some op) i skip after rec small is e = by_operation op i skip after rec small is e

pub stays_inside : (regs : Regs) (lits : List Lit) (i : Insn) → IsPlain i → StaysInside regs lits i
stays_inside regs lits i plain r s skip after rec inside e =
    by_code regs lits r s inside (operation_of i.code) i skip after rec (plain-writes i plain) refl e
