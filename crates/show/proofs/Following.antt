-- How the kernel asks a filter about a call, and what a run of the filter on that call does.
use Rattle.std.proofs.Common.{◌≡◌, ℕ, zero, suc, ◌+◌, Bool, true, false, cond, List, [], ◌∷◌, ◌++◌, map, refl, ap, sym, ◌∙◌, arith}
use Rattle.std.specs.Prelude.{Some, None, slice_get, Option}
use Rattle.std.specs.Option.{option_map}
use Rattle.bpf_insn.specs.declared.instruction.Insn.{Insn}
use Rattle.bpf_insn.specs.Code.{operation_of}
use Rattle.bpf_insn.specs.Machine.{Registers, Step, Ends, Goes, Stuck, Ending, after_one, ending, follow, start, step, verdict_of}
use Rattle.bpf_insn.proofs.RunLaws.{counted, counted-after_one, ending_ends, ending_goes, ending_stuck, ending-more}
use Rattle.call_record.specs.Words.{halves}
use Rattle.kernel_check.specs.Accepted.{IsAccepted}
use Rattle.kernel_check.proofs.RunLaws.{lands}
use Rattle.show.specs.Answered.{AnsweredIsAllowed, followed, is_followed, is_plain_allow, verdict_asked}
use Rattle.show.specs.inner.Asking.{IsAsked}

-- the instruction as the kernel takes it, by whether it follows it
taken : Bool → Insn → Insn
taken b i = cond b i (record i { code = 0xffff })

-- an instruction that is followed does what it does
pub goes_along : (i : Insn) (r : List ℕ) (s : Registers) → is_followed (operation_of i.code) i.k ≡ true → step r (followed i) s ≡ step r i s
unfolding taken
goes_along i r s h = ap (λ b. step r (taken b i) s) h

-- at another the kernel gives up
pub gives_up : (i : Insn) (r : List ℕ) (s : Registers) → is_followed (operation_of i.code) i.k ≡ false → step r (followed i) s ≡ Stuck
unfolding taken operation_of
gives_up i r s h = ap (λ b. step r (taken b i) s) h

-- the instruction at a position, as the kernel takes it
at_mapped : (p : List Insn) (pc : ℕ) (i : Insn) → slice_get p pc ≡ Some i → slice_get (map followed p) pc ≡ Some (followed i)
at_mapped [] pc i h = cc
at_mapped (x ∷ p) zero i h = let same : x ≡ i = cc in ap (λ y. Some (followed y)) same
at_mapped (x ∷ p) (suc pc) i h = at_mapped p pc i h

counted_none : (e : Ending) → e ≡ counted 0 e
counted_none None = refl
counted_none (Some (word, n)) = let same : n ≡ 0 + n = omega arith in ap (λ m. Some (word, m)) same

-- at the start
pub asked_first : (p : List Insn) (r : List ℕ) → IsAccepted p → IsAsked p r 0 0 start
asked_first p r ok = record {
  within = omega (arith, ok.some);
  same = counted_none (ending (map followed p) 0 start r);
}

-- one step more
pub asked_next : (p : List Insn) (r : List ℕ) (count pc skip : ℕ) (i : Insn) (s t : Registers) → IsAccepted p → IsAsked p r count pc s
    → slice_get p pc ≡ Some i → is_followed (operation_of i.code) i.k ≡ true → step r i s ≡ Goes skip t
    → IsAsked p r (count + 1) (pc + 1 + skip) t
asked_next p r count pc skip i s t ok now found follows e = record {
  within = lands p pc i r s t skip ok found e;
  same =
      now.same
      ∙ (ap (counted count)
      (ending_goes (map followed p) pc (followed i) s r skip t (pc + 1 + skip) (at_mapped p pc i found) (goes_along i r s follows ∙ e) refl)
      ∙ counted-after_one count (ending (map followed p) (pc + 1 + skip) t r));
}

-- the verdict, where the last step is this
pub asked_last : (p : List Insn) (r : List ℕ) (count pc word : ℕ) (i : Insn) (s : Registers) → IsAsked p r count pc s
    → slice_get p pc ≡ Some i → is_followed (operation_of i.code) i.k ≡ true → step r i s ≡ Ends word
    → Some word ≡ verdict_of (map followed p) r
asked_last p r count pc word i s now found follows e =
    sym (ap (option_map (λ (end : ℕ × ℕ). end.0)) (now.same
    ∙ ap (counted count) (ending_ends (map followed p) pc (followed i) s r word (at_mapped p pc i found) (goes_along i r s follows ∙ e))))

-- none, where the kernel gives up
pub asked_stuck : (p : List Insn) (r : List ℕ) (count pc : ℕ) (i : Insn) (s : Registers) → IsAsked p r count pc s
    → slice_get p pc ≡ Some i → is_followed (operation_of i.code) i.k ≡ false → None ≡ verdict_of (map followed p) r
asked_stuck p r count pc i s now found gives =
    sym (ap (option_map (λ (end : ℕ × ℕ). end.0)) (now.same
    ∙ ap (counted count) (ending_stuck (map followed p) pc (followed i) s r (at_mapped p pc i found) (gives_up i r s gives))))

-- a run of the filter goes the way of the asking, where this ends
pub ending-followed : (p : List Insn) (pc : ℕ) (s : Registers) (r : List ℕ) (end : ℕ × ℕ)
    → ending (map followed p) pc s r ≡ Some end → ending p pc s r ≡ Some end
ending-followed [] pc s r end h = cc
ending-followed (i ∷ p) (suc pc) s r end h = ending-followed p pc s r end h
ending-followed (i ∷ p) zero s r end h =
    by_test (is_followed (operation_of i.code) i.k) refl h (λ skip t e g. ending-followed p skip t r e g) where
      by_rest : (rest : Ending) (skip : ℕ) (t : Registers) → ending (map followed p) skip t r ≡ rest → after_one rest ≡ Some end
          → ((e : ℕ × ℕ) → ending (map followed p) skip t r ≡ Some e → ending p skip t r ≡ Some e)
          → after_one (ending p skip t r) ≡ Some end
      by_rest None skip t e g later = cc
      by_rest (Some inner) skip t e g later = ap after_one (later inner e) ∙ g

      by_step : (does : Step) → follow does (λ skip t. ending (map followed p) skip t r) ≡ Some end
          → ((skip : ℕ) (t : Registers) (e : ℕ × ℕ) → ending (map followed p) skip t r ≡ Some e → ending p skip t r ≡ Some e)
          → follow does (λ skip t. ending p skip t r) ≡ Some end
      by_step (Ends word) g later = g
      by_step (Goes skip t) g later = by_rest (ending (map followed p) skip t r) skip t refl g (later skip t)
      by_step Stuck g later = cc

      by_test : (b : Bool) → is_followed (operation_of i.code) i.k ≡ b
          → follow (step r (followed i) s) (λ skip t. ending (map followed p) skip t r) ≡ Some end
          → ((skip : ℕ) (t : Registers) (e : ℕ × ℕ) → ending (map followed p) skip t r ≡ Some e → ending p skip t r ≡ Some e)
          → follow (step r i s) (λ skip t. ending p skip t r) ≡ Some end
      by_test true e h later =
          by_step (step r i s)
          (sym (ap (λ does. follow does (λ skip t. ending (map followed p) skip t r)) (goes_along i r s e)) ∙ h) later
      by_test false e h later =
          let none : None ≡ Some end = sym (ap (λ does. follow does (λ skip t. ending (map followed p) skip t r)) (gives_up i r s e)) ∙ h in cc

-- a verdict of ALLOW is that word
plain_word : (o : Option ℕ) → is_plain_allow o ≡ true → o ≡ Some 0x7fff0000
plain_word None h = cc
plain_word (Some word) h = ap Some (grind arith)

by_end : (p : List Insn) (r more : List ℕ) (e : Ending) → ending (map followed p) 0 start r ≡ e
    → option_map (λ (end : ℕ × ℕ). end.0) e ≡ Some 0x7fff0000 → verdict_of p (r ++ more) ≡ Some 0x7fff0000
by_end p r more None is h = cc
by_end p r more (Some end) is h =
    ap (option_map (λ (end : ℕ × ℕ). end.0)) (ending-more p 0 start r more end (ending-followed p 0 start r end is)) ∙ h

pub allowed : AnsweredIsAllowed
allowed p r h =
    by_end p (r.nr ∷ r.arch ∷ []) (halves (r.ip ∷ r.args)) (ending (map followed p) 0 start (r.nr ∷ r.arch ∷ [])) refl
    (plain_word (verdict_asked p r.arch r.nr) h)
