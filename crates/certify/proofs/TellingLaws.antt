-- Filters that compare steadily tell all that they ask.
use Rattle.std.proofs.Common.{◌≡◌, ℕ, zero, suc, ◌+◌, ◌/◌, List, [], ◌∷◌, refl, ap, sym, subst, arith}
use Rattle.std.specs.Prelude.{Option, Some, None, ⊤, bit_and, slice_get}
use Rattle.std.specs.Int.Count.{count_trailing_zeros}
use Rattle.std.proofs.lemmas.Option.{same_Some}
use Rattle.bpf_insn.specs.declared.code.Operand.TheVariants.{K}
use Rattle.bpf_insn.specs.declared.code.Test.{Test}
use Rattle.bpf_insn.specs.declared.code.Test.TheVariants.{Equal, AtLeast, AnyBit, Greater}
use Rattle.bpf_insn.specs.declared.code.Arithmetic.TheVariants.{And}
use Rattle.bpf_insn.specs.declared.code.Operation.{Operation}
use Rattle.bpf_insn.specs.declared.code.Operation.TheVariants.{Branch, Compute, Jump, LoadWord, ReturnA, ReturnK}
use Rattle.bpf_insn.specs.declared.instruction.Insn.{Insn}
use Rattle.bpf_insn.specs.Code.{operation_of}
use Rattle.cert_state.specs.declared.literal.AVal.{AVal}
use Rattle.cert_state.specs.declared.literal.AVal.TheVariants.{Const, Masked}
use Rattle.cert_state.specs.declared.literal.Regs.{Regs}
use Rattle.cert_state.specs.Literals.{all_bits}
use Rattle.cert_state.specs.Transfer.{masked, transfer, transfer_by, transfer_if}
use Rattle.rule_compile.specs.Steady.{Held, Nothing, Whole, Part, IsSteady, Tells, IsOfWord, steady_by}
use Rattle.certify.specs.Telling.{IsTold, SteadyIsTelling, TellsFrom, at_first, telling_by}

-- A holds no word, a whole one, or bits of one
abbrev IsHeld : Held → AVal → Type 0
IsHeld Nothing a = ⊤
IsHeld Whole a = (w : ℕ) × (a ≡ Masked w all_bits)
IsHeld Part a = (w : ℕ) × (m : ℕ) × (a ≡ Masked w m)

told_of : (test : Test) (k : ℕ) (a : AVal) (h : Held) → IsHeld h a → Tells test h → IsTold test a (Const k)
unfolding count_trailing_zeros
told_of Equal k a Nothing is tells = absurd tells
told_of AnyBit k a Nothing is tells = absurd tells
told_of AtLeast k a Nothing is tells = cc
told_of Greater k a Nothing is tells = cc
told_of Equal k a Whole is tells = subst (λ v. IsTold Equal v (Const k)) (sym is.1) tt
told_of AnyBit k a Whole is tells = subst (λ v. IsTold AnyBit v (Const k)) (sym is.1) tt
told_of AtLeast k a Whole is tells = subst (λ v. IsTold AtLeast v (Const k)) (sym is.1) refl
told_of Greater k a Whole is tells = subst (λ v. IsTold Greater v (Const k)) (sym is.1) refl
told_of Equal k a Part is tells = subst (λ v. IsTold Equal v (Const k)) (sym is.2) tt
told_of AnyBit k a Part is tells = subst (λ v. IsTold AnyBit v (Const k)) (sym is.2) tt
told_of AtLeast k a Part is tells = cc
told_of Greater k a Part is tells = cc

-- some bits of a word under a mask
part_of : (h : Held) (a : AVal) (k : ℕ) → IsHeld h a → IsOfWord h → IsHeld Part (masked a (Const k))
part_of Nothing a k is some = absurd some
part_of Whole a k is some = (is.0, bit_and all_bits k, ap (λ v. masked v (Const k)) is.1)
part_of Part a k is some = (is.0, bit_and is.1 k, ap (λ v. masked v (Const k)) is.2)

by_operation : (o : Option Operation) (i : Insn) (h : Held) (s : Regs) (p : List Insn)
    → ((skip : ℕ) (now : Held) (t : Regs) → IsHeld now t.a → IsSteady p skip now → TellsFrom p skip t)
    → IsHeld h s.a → steady_by o i h (λ skip now. IsSteady p skip now) → telling_by o i s (λ skip. TellsFrom p skip (transfer_if o i s))
by_operation (Some ReturnK) i h s p rest is steady = tt
by_operation (Some Jump) i h s p rest is steady = rest i.k h s is steady
by_operation (Some LoadWord) i h s p rest is steady = rest 0 Whole (transfer_by LoadWord i s) (i.k / 4, refl) steady
by_operation (Some (Compute And K)) i h s p rest is steady =
    rest 0 Part (transfer_by (Compute And K) i s) (part_of h s.a i.k is steady.0) steady.1
by_operation (Some (Branch test K)) i h s p rest is steady =
    (told_of test i.k s.a h is steady.0, rest i.jt h s is steady.1, rest i.jf h s is steady.2)
by_operation _ i h s p rest is steady = absurd steady

from_steady : (p : List Insn) (pc : ℕ) (h : Held) (s : Regs) → IsHeld h s.a → IsSteady p pc h → TellsFrom p pc s
from_steady [] pc h s is steady = absurd steady
from_steady (i ∷ p) (suc pc) h s is steady = from_steady p pc h s is steady
from_steady (i ∷ p) zero h s is steady =
    by_operation (operation_of i.code) i h s p (λ skip now t. from_steady p skip now t) is steady

pub steady_telling : SteadyIsTelling
steady_telling p steady = from_steady p 0 Nothing at_first tt steady

-- what is asked of the rest may be less
telling_less : (o : Option Operation) (i : Insn) (s : Regs) (rest less : ℕ → Type 0) → ((skip : ℕ) → rest skip → less skip)
    → telling_by o i s rest → telling_by o i s less
telling_less (Some ReturnK) i s rest less f t = tt
telling_less (Some ReturnA) i s rest less f t = t
telling_less (Some Jump) i s rest less f t = f i.k t
telling_less (Some (Branch test c)) i s rest less f t = (t.0, f i.jt t.1, f i.jf t.2)
telling_less None i s rest less f t = absurd t
telling_less (Some op) i s rest less f t = f 0 t

-- what stands at a position, and the rest of the filter
pub telling_at : (p : List Insn) (pc : ℕ) (i : Insn) (s : Regs) → slice_get p pc ≡ Some i → TellsFrom p pc s
    → telling_by (operation_of i.code) i s (λ skip. TellsFrom p (pc + 1 + skip) (transfer s i))
telling_at [] pc i s found t = absurd t
telling_at (x ∷ p) zero i s found t =
    telling_less (operation_of i.code) i s (λ skip. TellsFrom p skip (transfer s i)) (λ skip. TellsFrom (x ∷ p) (0 + 1 + skip) (transfer s i))
    (λ skip rest. let e : suc skip ≡ 0 + 1 + skip = omega arith in subst (λ k. TellsFrom (x ∷ p) k (transfer s i)) e rest)
    (subst (λ y. telling_by (operation_of y.code) y s (λ skip. TellsFrom p skip (transfer s y))) (same_Some x i found) t)
telling_at (x ∷ p) (suc pc) i s found t =
    telling_less (operation_of i.code) i s (λ skip. TellsFrom p (pc + 1 + skip) (transfer s i))
    (λ skip. TellsFrom (x ∷ p) (suc pc + 1 + skip) (transfer s i))
    (λ skip rest. let e : suc (pc + 1 + skip) ≡ suc pc + 1 + skip = omega arith in subst (λ k. TellsFrom (x ∷ p) k (transfer s i)) e rest)
    (telling_at p pc i s found t)
