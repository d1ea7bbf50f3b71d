-- The instructions in front of a filter leave the verdict to it on each record that is not of their calls.
use Rattle.std.proofs.Common.{◌≡◌, ℕ, zero, suc, ◌*◌, ◌-◌, ◌<◌, ◌≤◌, Bool, true, false, cond, List, [], ◌∷◌, ◌++◌, get_or, length, refl, ap, ◌∙◌, arith}
use Rattle.std.specs.Prelude.{◌==◌, nat_le, nat_lt, Option, Result, Ok, Err, IfOk}
use Rattle.std.proofs.lemmas.Bool.{eqb-true, leb-true, ltb-false}
use Rattle.bpf_insn.specs.declared.instruction.Insn.{Insn}
use Rattle.bpf_insn.specs.declared.code.Operand.TheVariants.{K}
use Rattle.bpf_insn.specs.declared.code.Operation.{Operation}
use Rattle.bpf_insn.specs.declared.code.Operation.TheVariants.{Branch, Jump, LoadWord, SetA}
use Rattle.bpf_insn.specs.declared.code.Test.TheVariants.{AtLeast, Equal, Greater}
use Rattle.bpf_insn.specs.Bytes.{insn_at, insns_of}
use Rattle.bpf_insn.specs.Code.{code_of, operation_of}
use Rattle.bpf_insn.specs.Machine.{Goes, Registers, perform, perform_if, start, step}
use Rattle.bpf_insn.proofs.BytesLemmas.{length-insns_of}
use Rattle.bpf_insn.proofs.CodeLaws.{operation_of-code_of}
use Rattle.compare.specs.declared.behind_runc.stub.calls.Calls.{Calls}
use Rattle.compare.specs.Stub.{IsOf}
use Rattle.compare.proofs.StubRunLaws.{given, given_anew, given_goes}
use Rattle.aside.specs.Aside.{IsAside}
use Rattle.compare.specs.inner.Path.{BeginsWithLoad}
use Rattle.aside.specs.inner.Front.{IsFreed, IsLike, Passes, front_of, insn}

-- what an instruction does, by its operation
runs : (op : Operation) (i : Insn) (s : Registers) (r : List ℕ) → i.code ≡ code_of op → step r i s ≡ perform op r i s
runs op i s r e = ap (λ c. perform_if (operation_of c) r i s) e ∙ ap (λ o. perform_if o r i s) (operation_of-code_of op)

-- the registers where only A was written
abbrev holding : ℕ → Registers
holding a = record start { a = a }

module _ (calls : Calls) (skip : ℕ) (p : List Insn) (nr token : ℕ) (more : List ℕ) (v : Option ℕ) where
  abbrev r : List ℕ
  r = nr ∷ token ∷ more

  abbrev q : List Insn
  q = front_of calls skip ++ p

  module _ (other : IsOf r calls → ⊥) (on : (a : ℕ) → given p 0 (holding a) r ≡ v) where
    by_last : token ≡ calls.token → calls.numbers.first ≤ nr → (b : Bool) → nat_lt calls.numbers.last nr ≡ b
        → given q 4 (holding nr) r ≡ v
    by_last here least true e =
        let i = insn 0x25 1 0 calls.numbers.last in
        let goes : step r i (holding nr) ≡ Goes 1 (holding nr) =
        runs (Branch Greater K) i (holding nr) r refl ∙ ap (λ b. Goes (cond b 1 0) (holding nr)) e in
        given_goes q 4 i (holding nr) r 1 (holding nr) 6 refl goes refl ∙ on nr
    by_last here least false e = absurd (other (here, (least, ltb-false calls.numbers.last nr e)))

    by_first : token ≡ calls.token → (b : Bool) → nat_le calls.numbers.first nr ≡ b → given q 3 (holding nr) r ≡ v
    by_first here true e =
        let i = insn 0x35 0 2 calls.numbers.first in
        let goes : step r i (holding nr) ≡ Goes 0 (holding nr) =
        runs (Branch AtLeast K) i (holding nr) r refl ∙ ap (λ b. Goes (cond b 0 2) (holding nr)) e in
        given_goes q 3 i (holding nr) r 0 (holding nr) 4 refl goes refl
        ∙ by_last here (leb-true calls.numbers.first nr e) (nat_lt calls.numbers.last nr) refl
    by_first here false e =
        let i = insn 0x35 0 2 calls.numbers.first in
        let goes : step r i (holding nr) ≡ Goes 2 (holding nr) =
        runs (Branch AtLeast K) i (holding nr) r refl ∙ ap (λ b. Goes (cond b 0 2) (holding nr)) e in
        given_goes q 3 i (holding nr) r 2 (holding nr) 6 refl goes refl ∙ on nr

    by_token : (b : Bool) → (token == calls.token) ≡ b → given q 1 (holding token) r ≡ v
    by_token true e =
        let i = insn 0x15 0 4 calls.token in
        let load = insn 0x20 0 0 0 in
        let goes : step r i (holding token) ≡ Goes 0 (holding token) =
        runs (Branch Equal K) i (holding token) r refl ∙ ap (λ b. Goes (cond b 0 4) (holding token)) e in
        given_goes q 1 i (holding token) r 0 (holding token) 2 refl goes refl
        ∙ (given_goes q 2 load (holding token) r 0 (holding nr) 3 refl (runs LoadWord load (holding token) r refl) refl
        ∙ by_first (eqb-true token calls.token e) (nat_le calls.numbers.first nr) refl)
    by_token false e =
        let i = insn 0x15 0 4 calls.token in
        let goes : step r i (holding token) ≡ Goes 4 (holding token) =
        runs (Branch Equal K) i (holding token) r refl ∙ ap (λ b. Goes (cond b 0 4) (holding token)) e in
        given_goes q 1 i (holding token) r 4 (holding token) 6 refl goes refl ∙ on token

    given_all : (a : ℕ) → given q 0 (holding a) r ≡ v
    given_all a =
        let load = insn 0x20 0 0 4 in
        given_goes q 0 load (holding a) r 0 (holding token) 1 refl (runs LoadWord load (holding a) r refl) refl
        ∙ by_token (token == calls.token) refl

-- a record that is not of the calls gets the verdict of what stands behind
pub passes : (calls : Calls) (skip : ℕ) (p : List Insn) → Passes calls (front_of calls skip ++ p) p
passes calls skip p [] is other v on a = let size = is.length_is in absurd (omega (arith, size))
passes calls skip p (nr ∷ []) is other v on a = let size = is.length_is in absurd (omega (arith, size))
passes calls skip p (nr ∷ token ∷ more) is other v on a = given_all calls skip p nr token more v other on a

-- ---- a filter behind another, over which it jumps

behind_own : (own p : List Insn) (s : Registers) (r : List ℕ) → given (own ++ p) (length own) s r ≡ given p 0 s r
behind_own [] p s r = refl
behind_own (i ∷ own) p s r = behind_own own p s r

pub jumps : (own p : List Insn) → IsLike (insn 0x05 0 0 (length own) ∷ (own ++ p)) p
jumps own p r a =
    let i = insn 0x05 0 0 (length own) in
    given_goes (i ∷ (own ++ p)) 0 i (holding a) r (length own) (holding a) (suc (length own)) refl (runs Jump i (holding a) r refl) (omega arith)
    ∙ behind_own own p (holding a) r

-- ---- a filter to which it does not matter what A holds

pub frees : (p : List Insn) → IsFreed (insn 0x00 0 0 0 ∷ p) p
frees p r a =
    let i = insn 0x00 0 0 0 in
    given_goes (i ∷ p) 0 i (holding a) r 0 start 1 refl (runs SetA i (holding a) r refl) refl

pub loads : (p : List Insn) → BeginsWithLoad p → IsFreed p p
loads p h r a = given_anew p a r h

-- the instructions of bytes behind whole instructions
pub insns_of-append : (a b : List ℕ) (n : ℕ) → length a ≡ 8 * n → insns_of (a ++ b) ≡ insns_of a ++ insns_of b
insns_of-append [] b n e = refl
insns_of-append (b0 ∷ b1 ∷ b2 ∷ b3 ∷ b4 ∷ b5 ∷ b6 ∷ b7 ∷ rest) b n e =
    let first = insn_at (b0 ∷ b1 ∷ b2 ∷ b3 ∷ b4 ∷ b5 ∷ b6 ∷ b7 ∷ rest) in
    ap (λ (more : List Insn). first ∷ more) (insns_of-append rest b (n - 1) (omega (arith, e)))
insns_of-append (b0 ∷ []) b n e = absurd (omega (arith, e))
insns_of-append (b0 ∷ b1 ∷ []) b n e = absurd (omega (arith, e))
insns_of-append (b0 ∷ b1 ∷ b2 ∷ []) b n e = absurd (omega (arith, e))
insns_of-append (b0 ∷ b1 ∷ b2 ∷ b3 ∷ []) b n e = absurd (omega (arith, e))
insns_of-append (b0 ∷ b1 ∷ b2 ∷ b3 ∷ b4 ∷ []) b n e = absurd (omega (arith, e))
insns_of-append (b0 ∷ b1 ∷ b2 ∷ b3 ∷ b4 ∷ b5 ∷ []) b n e = absurd (omega (arith, e))
insns_of-append (b0 ∷ b1 ∷ b2 ∷ b3 ∷ b4 ∷ b5 ∷ b6 ∷ []) b n e = absurd (omega (arith, e))

-- so many instructions have eight bytes each
pub length-whole : (a : List ℕ) (n : ℕ) → length a ≡ 8 * n → length (insns_of a) ≡ n
length-whole a n e = omega (arith, length-insns_of a, e)

-- ---- for the functions that write them

pub if_ok : {A E : Type 0} → (result : Result A E) (P Q : A → Type 0) → ((a : A) → P a → Q a) → IfOk result P → IfOk result Q
if_ok (Ok a) P Q f p = f a p
if_ok (Err e) P Q f p = tt

-- a record that is of one of the calls at a position is of one of all
pub aside_at : (r : List ℕ) (aside : List Calls) (i : ℕ) (d : Calls) → i < length aside → IsOf r (get_or aside i d) → IsAside aside r
aside_at r [] i d lt h = absurd (omega (arith, lt))
aside_at r (calls ∷ aside) zero d lt h = (0, calls, omega arith, refl, h)
aside_at r (calls ∷ aside) (suc i) d lt h = later (aside_at r aside i d (omega (arith, lt)) h) where
  later : IsAside aside r → IsAside (calls ∷ aside) r
  later g = (suc g.0, g.1, omega (arith, g.2), g.3, g.4)
