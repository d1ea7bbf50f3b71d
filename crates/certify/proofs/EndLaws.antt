-- How a run ends, by the instruction at a position.
use Rattle.std.proofs.Common.{◌≡◌, ℕ, ◌+◌, List, refl, ap, ◌∙◌}
use Rattle.std.specs.Prelude.{Option, Some, None, slice_get}
use Rattle.std.specs.Option.{option_map}
use Rattle.bpf_insn.specs.declared.instruction.Insn.{Insn}
use Rattle.bpf_insn.specs.Machine.{Ending, Ends, Goes, Registers, Stuck, after_one, ending, step}
use Rattle.bpf_insn.proofs.RunLaws.{ending_ends, ending_goes, ending_stuck}

-- the verdict that is given from a position on
abbrev pub given : List Insn → ℕ → Registers → List ℕ → Option ℕ
given p pc s r = option_map (λ (end : ℕ × ℕ). end.0) (ending p pc s r)

after_one_word : (e : Ending) → option_map (λ (end : ℕ × ℕ). end.0) (after_one e) ≡ option_map (λ (end : ℕ × ℕ). end.0) e
after_one_word None = refl
after_one_word (Some end) = refl

-- from an instruction that ends the run
pub given_ends : (p : List Insn) (pc : ℕ) (i : Insn) (s : Registers) (r : List ℕ) (word : ℕ) → slice_get p pc ≡ Some i
    → step r i s ≡ Ends word → given p pc s r ≡ Some word
given_ends p pc i s r word found e = ap (option_map (λ (end : ℕ × ℕ). end.0)) (ending_ends p pc i s r word found e)

-- from an instruction that goes on
pub given_goes : (p : List Insn) (pc : ℕ) (i : Insn) (s : Registers) (r : List ℕ) (skip : ℕ) (t : Registers) → slice_get p pc ≡ Some i
    → step r i s ≡ Goes skip t → given p pc s r ≡ given p (pc + 1 + skip) t r
given_goes p pc i s r skip t found e =
    ap (option_map (λ (end : ℕ × ℕ). end.0)) (ending_goes p pc i s r skip t (pc + 1 + skip) found e refl)
    ∙ after_one_word (ending p (pc + 1 + skip) t r)

-- from one that is stuck
pub given_stuck : (p : List Insn) (pc : ℕ) (i : Insn) (s : Registers) (r : List ℕ) → slice_get p pc ≡ Some i
    → step r i s ≡ Stuck → given p pc s r ≡ None
given_stuck p pc i s r found e = ap (option_map (λ (end : ℕ × ℕ). end.0)) (ending_stuck p pc i s r found e)
