-- Which instructions make a move, where they lead, and what that costs.
use Rattle.std.proofs.Common.{◌≡◌, ℕ, zero, suc, ◌+◌, ◌<◌, ◌≤◌, Bool, true, false, cond, eqb, refl, sym, subst}
use Rattle.std.proofs.Common.{arith, inl, inr, ⊎_elim, length, List, [], ◌∷◌, max}
use Rattle.std.specs.Prelude.{Option, Some, None, slice_get}
use Rattle.std.proofs.lemmas.Bool.{eqb-true}
use Rattle.bpf_insn.specs.declared.code.Operation.{Operation}
use Rattle.bpf_insn.specs.declared.code.Operation.TheVariants.{LoadWord, LoadScratch, LoadScratchX, Store, StoreX, SetA, SetX}
use Rattle.bpf_insn.specs.declared.code.Operation.TheVariants.{ReturnK, ReturnA, Jump, Branch, Compute, ShiftLeft, ShiftRight}
use Rattle.bpf_insn.specs.declared.code.Operation.TheVariants.{Negate, CopyToX, CopyToA}
use Rattle.bpf_insn.specs.declared.code.Operand.TheVariants.{K, X}
use Rattle.bpf_insn.specs.declared.code.Test.{Test}
use Rattle.bpf_insn.specs.declared.code.Test.TheVariants.{Equal, Greater, AtLeast, AnyBit}
use Rattle.bpf_insn.specs.declared.instruction.Insn.{Insn}
use Rattle.bpf_insn.specs.Code.{operation_of}
use Rattle.rule_compile.specs.Moves.{Move, Ends, Goes, Forks, move_at}
use Rattle.rule_compile.specs.Shape.{weight, weight_by, depth}
use Rattle.certify.specs.inner.Inverse.{IsLoad, IsMoveOf}
use Rattle.certify.specs.inner.Path.{HoldsCall}
use Rattle.certify.proofs.CountLaws.{costs}

load_of : (k : ℕ) (held : Option ℕ) (a b : Bool) → eqb k 0 ≡ a → eqb k 4 ≡ b
    → IsMoveOf (Some LoadWord) k held (cond a (Some (Goes 0 (Some 0))) (cond b (Some (Goes 0 (Some 1))) None))
load_of k held true b is_a is_b =
    inr (record { operation = refl; word = 0; few = omega arith; offset = eqb-true k 0 is_a; skip_is = refl; now_is = refl })
load_of k held false true is_a is_b =
    inr (record { operation = refl; word = 1; few = omega arith; offset = eqb-true k 4 is_b; skip_is = refl; now_is = refl })
load_of k held false false is_a is_b = tt

-- each move is of such an instruction
pub move_is : (o : Option Operation) (k : ℕ) (held : Option ℕ) → IsMoveOf o k held (move_at o k held)
move_is None k held = tt
move_is (Some LoadWord) k held = load_of k held (eqb k 0) (eqb k 4) refl refl
move_is (Some Jump) k held = inl (refl, refl, refl)
move_is (Some ReturnK) k held = (refl, refl)
move_is (Some (Branch Equal K)) k (Some w) = (refl, refl, inl refl)
move_is (Some (Branch Equal K)) k None = tt
move_is (Some (Branch AtLeast K)) k (Some w) = (refl, refl, inr refl)
move_is (Some (Branch AtLeast K)) k None = tt
move_is (Some (Branch Greater K)) k held = tt
move_is (Some (Branch AnyBit K)) k held = tt
move_is (Some (Branch Equal X)) k held = tt
move_is (Some (Branch Greater X)) k held = tt
move_is (Some (Branch AtLeast X)) k held = tt
move_is (Some (Branch AnyBit X)) k held = tt
move_is (Some LoadScratch) k held = tt
move_is (Some LoadScratchX) k held = tt
move_is (Some Store) k held = tt
move_is (Some StoreX) k held = tt
move_is (Some SetA) k held = tt
move_is (Some SetX) k held = tt
move_is (Some ReturnA) k held = tt
move_is (Some (Compute f c)) k held = tt
move_is (Some ShiftLeft) k held = tt
move_is (Some ShiftRight) k held = tt
move_is (Some Negate) k held = tt
move_is (Some CopyToX) k held = tt
move_is (Some CopyToA) k held = tt

pub move_of_is : (o : Option Operation) (k : ℕ) (held : Option ℕ) (m : Option Move) → move_at o k held ≡ m → IsMoveOf o k held m
move_of_is o k held m e = subst (IsMoveOf o k held) e (move_is o k held)

-- A holds the number or the token after it
pub goes_held : (o : Option Operation) (k : ℕ) (held : Option ℕ) (skip : ℕ) (now : Option ℕ) → move_at o k held ≡ Some (Goes skip now)
    → HoldsCall held → HoldsCall now
goes_held o k held skip now e holds = ⊎_elim
    (λ (jump : (o ≡ Some Jump) × (skip ≡ k) × (now ≡ held)). subst HoldsCall (sym jump.2) holds)
    (λ (load : IsLoad o k skip now). let few = load.few in subst HoldsCall (sym load.now_is) few)
    (move_of_is o k held (Some (Goes skip now)) e)

pub fork_held : (o : Option Operation) (k : ℕ) (held : Option ℕ) (test : Test) (w : ℕ)
    → move_at o k held ≡ Some (Forks test w) → held ≡ Some w
fork_held o k held test w e = (move_of_is o k held (Some (Forks test w)) e).1

-- ---- what moves cost

module _ (p : List Insn) (pc : ℕ) (i : Insn) (held : Option ℕ) (found : slice_get p pc ≡ Some i) where
  pub ends_cost : (v : ℕ) → move_at (operation_of i.code) i.k held ≡ Some (Ends v) → weight p pc ≡ 5
  ends_cost v e = (costs p pc i found).return (move_of_is (operation_of i.code) i.k held (Some (Ends v)) e).0

  pub goes_cost : (skip : ℕ) (now : Option ℕ) → move_at (operation_of i.code) i.k held ≡ Some (Goes skip now)
      → (weight p pc ≡ 1 + weight p (pc + 1 + skip)) × (depth p pc ≡ depth p (pc + 1 + skip))
  goes_cost skip now e = ⊎_elim
      (λ (jump : (operation_of i.code ≡ Some Jump) × (skip ≡ i.k) × (now ≡ held)).
      subst (λ k. (weight p pc ≡ 1 + weight p (pc + 1 + k)) × (depth p pc ≡ depth p (pc + 1 + k))) (sym jump.1)
      ((costs p pc i found).jump jump.0))
      (λ (load : IsLoad (operation_of i.code) i.k skip now).
      subst (λ k. (weight p pc ≡ 1 + weight p (pc + 1 + k)) × (depth p pc ≡ depth p (pc + 1 + k))) (sym load.skip_is)
      ((costs p pc i found).load load.operation))
      (move_of_is (operation_of i.code) i.k held (Some (Goes skip now)) e)

  pub forks_cost : (test : Test) (w : ℕ) → move_at (operation_of i.code) i.k held ≡ Some (Forks test w)
      → (weight p pc ≡ 1 + (weight p (pc + 1 + i.jt) + weight p (pc + 1 + i.jf)))
      × (depth p pc ≡ 1 + max (depth p (pc + 1 + i.jt)) (depth p (pc + 1 + i.jf)))
  forks_cost test w e = (costs p pc i found).fork test K (move_of_is (operation_of i.code) i.k held (Some (Forks test w)) e).0

-- each instruction costs something
pub some_weight : (p : List Insn) (pc : ℕ) → pc < length p → 1 ≤ weight p pc
some_weight [] pc h = absurd (omega (arith, h))
some_weight (i ∷ p) (suc pc) h = some_weight p pc (omega (arith, h))
some_weight (i ∷ p) zero h = by (operation_of i.code) where
  by : (o : Option Operation) → 1 ≤ weight_by o i (λ skip. weight p skip)
  by None = omega arith
  by (Some LoadWord) = omega arith
  by (Some Jump) = omega arith
  by (Some ReturnK) = omega arith
  by (Some (Branch test c)) = omega arith
  by (Some LoadScratch) = omega arith
  by (Some LoadScratchX) = omega arith
  by (Some Store) = omega arith
  by (Some StoreX) = omega arith
  by (Some SetA) = omega arith
  by (Some SetX) = omega arith
  by (Some ReturnA) = omega arith
  by (Some (Compute f c)) = omega arith
  by (Some ShiftLeft) = omega arith
  by (Some ShiftRight) = omega arith
  by (Some Negate) = omega arith
  by (Some CopyToX) = omega arith
  by (Some CopyToA) = omega arith
