-- A run on a record with upper halves first is a run of the instructions that read the other halves.
use Rattle.std.proofs.Common.{◌≡◌, ℕ, zero, suc, List, [], ◌∷◌, length, refl, ap, sym, ◌∙◌}
use Rattle.std.specs.Prelude.{Option, Some, None, map}
use Rattle.std.specs.Option.{option_map}
use Rattle.call_record.specs.Words.{words_from}
use Rattle.bpf_insn.specs.declared.code.Operation.{Operation}
use Rattle.bpf_insn.specs.declared.code.Operation.TheVariants.{LoadWord, LoadScratch, LoadScratchX, Store, StoreX, SetA, SetX}
use Rattle.bpf_insn.specs.declared.code.Operation.TheVariants.{ReturnK, ReturnA, Jump, Branch, Compute, ShiftLeft, ShiftRight}
use Rattle.bpf_insn.specs.declared.code.Operation.TheVariants.{Negate, CopyToX, CopyToA}
use Rattle.bpf_insn.specs.declared.instruction.Insn.{Insn}
use Rattle.bpf_insn.specs.Code.{operation_of}
use Rattle.bpf_insn.specs.Machine.{Ending, Ends, Goes, Registers, Step, Stuck, after_one, ending, follow, loaded, perform_if, start, step, verdict_of}
use Rattle.byte_order.specs.Big as big
use Rattle.byte_order.specs.Turned.{other_half, other_half_by}
use Rattle.byte_order.proofs.HalfLaws.{operation_same, other_loads}

follow_same : (done : Step) (f g : ℕ → Registers → Ending) → ((skip : ℕ) (t : Registers) → f skip t ≡ g skip t) → follow done f ≡ follow done g
follow_same (Ends word) f g same = refl
follow_same (Goes skip t) f g same = ap after_one (same skip t)
follow_same Stuck f g same = refl

module _ (nr arch ip : ℕ) (args : List ℕ) (six : length args ≡ 6) where
  abbrev own : List ℕ
  own = big.words_from nr arch ip args

  abbrev others : List ℕ
  others = words_from nr arch ip args

  by_operation : (o : Option Operation) (i : Insn) (s : Registers) → perform_if o own i s ≡ perform_if o others (other_half_by o i) s
  by_operation None i s = refl
  by_operation (Some LoadWord) i s = ap (loaded s) (other_loads nr arch ip args six i.k)
  by_operation (Some LoadScratch) i s = refl
  by_operation (Some LoadScratchX) i s = refl
  by_operation (Some Store) i s = refl
  by_operation (Some StoreX) i s = refl
  by_operation (Some SetA) i s = refl
  by_operation (Some SetX) i s = refl
  by_operation (Some ReturnK) i s = refl
  by_operation (Some ReturnA) i s = refl
  by_operation (Some Jump) i s = refl
  by_operation (Some (Branch test c)) i s = refl
  by_operation (Some (Compute f c)) i s = refl
  by_operation (Some ShiftLeft) i s = refl
  by_operation (Some ShiftRight) i s = refl
  by_operation (Some Negate) i s = refl
  by_operation (Some CopyToX) i s = refl
  by_operation (Some CopyToA) i s = refl

  same_step : (i : Insn) (s : Registers) → step own i s ≡ step others (other_half i) s
  same_step i s =
      by_operation (operation_of i.code) i s ∙ ap (λ o. perform_if o others (other_half i) s) (sym (operation_same i))

  same_ending : (p : List Insn) (pc : ℕ) (s : Registers) → ending p pc s own ≡ ending (map other_half p) pc s others
  same_ending [] pc s = refl
  same_ending (i ∷ p) (suc pc) s = same_ending p pc s
  same_ending (i ∷ p) zero s =
      follow_same (step own i s) (λ skip t. ending p skip t own) (λ skip t. ending (map other_half p) skip t others) (λ skip t. same_ending p skip t)
      ∙ ap (λ done. follow done (λ skip t. ending (map other_half p) skip t others)) (same_step i s)

  pub same_verdict : (p : List Insn) → verdict_of p own ≡ verdict_of (map other_half p) others
  same_verdict p = ap (λ e. option_map (λ (end : ℕ × ℕ). end.0) e) (same_ending p 0 start)
