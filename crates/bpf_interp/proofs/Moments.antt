-- The moments of a run of an accepted program.
use Rattle.std.proofs.Common.{◌≡◌, ℕ, ◌+◌, List, refl, ap, ◌∙◌, arith}
use Rattle.std.specs.Prelude.{Some, None, slice_get}
use Rattle.bpf_insn.specs.declared.instruction.Insn.{Insn}
use Rattle.bpf_insn.specs.Machine.{Registers, Ends, Goes, Ending, Gives, ending, start, step}
use Rattle.bpf_insn.proofs.RunLaws.{counted, counted-after_one, ending_ends, ending_goes}
use Rattle.kernel_check.specs.Accepted.{IsAccepted}
use Rattle.kernel_check.proofs.RunLaws.{lands, fits_start, fits_on}
use Rattle.bpf_interp.specs.inner.Moment.{IsMoment}

-- no instruction more
counted_none : (e : Ending) → e ≡ counted 0 e
counted_none None = refl
counted_none (Some (word, n)) = let same : n ≡ 0 + n = omega arith in ap (λ m. Some (word, m)) same

-- at the start
pub at_first : (p : List Insn) (r : List ℕ) → IsAccepted p → IsMoment p r 0 0 start
at_first p r ok = record {
  within = omega (arith, ok.some);
  few = omega arith;
  path = fits_start p;
  same = counted_none (ending p 0 start r);
}

-- one step more
pub next_one : (p : List Insn) (r : List ℕ) (count pc skip : ℕ) (i : Insn) (s t : Registers) → IsAccepted p → IsMoment p r count pc s
    → slice_get p pc ≡ Some i → step r i s ≡ Goes skip t → IsMoment p r (count + 1) (pc + 1 + skip) t
next_one p r count pc skip i s t ok now found e = record {
  within = lands p pc i r s t skip ok found e;
  few = omega (arith, now.few);
  path = fits_on p pc i r s t skip found e now.path;
  same =
      now.same
      ∙ (ap (counted count) (ending_goes p pc i s r skip t (pc + 1 + skip) found e refl)
      ∙ counted-after_one count (ending p (pc + 1 + skip) t r));
}

-- the last step
pub gives : (p : List Insn) (r : List ℕ) (count pc word : ℕ) (i : Insn) (s : Registers) → IsMoment p r count pc s
    → slice_get p pc ≡ Some i → step r i s ≡ Ends word → Gives p r word (count + 1)
gives p r count pc word i s now found e = now.same ∙ ap (counted count) (ending_ends p pc i s r word found e)
