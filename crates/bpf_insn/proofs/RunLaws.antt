-- One step of a run, wherever it is in its program, and a run on fewer words.
use Rattle.std.proofs.Common.{◌≡◌, ℕ, zero, suc, ◌+◌, ◌/◌, ◌%◌, Bool, true, false, cond, eqb, List, [], ◌∷◌, ◌++◌, refl, ap, sym}
use Rattle.std.proofs.Common.{◌∙◌, arith}
use Rattle.std.specs.Prelude.{Some, None, slice_get, Option}
use Rattle.std.specs.Option.{option_map}
use Rattle.bpf_insn.specs.declared.instruction.Insn.{Insn}
use Rattle.bpf_insn.specs.declared.code.Operation.{Operation}
use Rattle.bpf_insn.specs.declared.code.Operation.TheVariants.{LoadWord, LoadScratch, LoadScratchX, Store, StoreX, SetA, SetX}
use Rattle.bpf_insn.specs.declared.code.Operation.TheVariants.{ReturnK, ReturnA, Jump, Branch, Compute, ShiftLeft, ShiftRight}
use Rattle.bpf_insn.specs.declared.code.Operation.TheVariants.{Negate, CopyToX, CopyToA}
use Rattle.bpf_insn.specs.Code.{operation_of}
use Rattle.bpf_insn.specs.Machine.{Registers, Step, Ends, Goes, Stuck, Ending, after_one, follow, ending, loaded, perform_if, step}

-- an end, after so many instructions more
abbrev pub counted : ℕ → Ending → Ending
counted n e = option_map (λ (end : ℕ × ℕ). (end.0, n + end.1)) e

-- one instruction that a run begins with is one that came before its rest
pub counted-after_one : (n : ℕ) (e : Ending) → counted n (after_one e) ≡ counted (n + 1) e
counted-after_one n None = refl
counted-after_one n (Some (word, m)) = let e : n + (m + 1) ≡ n + 1 + m = omega arith in ap (λ k. Some (word, k)) e

-- a run whose first instruction ends it
pub ending_ends : (p : List Insn) (pc : ℕ) (i : Insn) (s : Registers) (r : List ℕ) (word : ℕ)
    → slice_get p pc ≡ Some i → step r i s ≡ Ends word → ending p pc s r ≡ Some (word, 1)
ending_ends [] pc i s r word found e = cc
ending_ends (x ∷ p) zero i s r word found e =
    let same : x ≡ i = cc in
    let here : step r x s ≡ Ends word = ap (λ y. step r y s) same ∙ e in
    ap (λ done. follow done (λ skip t. ending p skip t r)) here
ending_ends (x ∷ p) (suc pc) i s r word found e = ending_ends p pc i s r word found e

-- a run whose first instruction goes on to a later position
pub ending_goes : (p : List Insn) (pc : ℕ) (i : Insn) (s : Registers) (r : List ℕ) (skip : ℕ) (t : Registers) (next : ℕ)
    → slice_get p pc ≡ Some i → step r i s ≡ Goes skip t → next ≡ pc + 1 + skip
    → ending p pc s r ≡ after_one (ending p next t r)
ending_goes [] pc i s r skip t next found e n = cc
ending_goes (x ∷ p) zero i s r skip t next found e n =
    let same : x ≡ i = cc in
    let here : step r x s ≡ Goes skip t = ap (λ y. step r y s) same ∙ e in
    let there : next ≡ suc skip = omega arith in
    ap (λ done. follow done (λ skip t. ending p skip t r)) here ∙ ap (λ k. after_one (ending (x ∷ p) k t r)) (sym there)
ending_goes (x ∷ p) (suc pc) i s r skip t next found e n =
    let there : next ≡ suc (pc + 1 + skip) = omega arith in
    ending_goes p pc i s r skip t (pc + 1 + skip) found e refl ∙ ap (λ k. after_one (ending (x ∷ p) k t r)) (sym there)

-- a run whose first instruction is stuck gives nothing
pub ending_stuck : (p : List Insn) (pc : ℕ) (i : Insn) (s : Registers) (r : List ℕ)
    → slice_get p pc ≡ Some i → step r i s ≡ Stuck → ending p pc s r ≡ None
ending_stuck [] pc i s r found e = cc
ending_stuck (x ∷ p) zero i s r found e =
    let same : x ≡ i = cc in
    let here : step r x s ≡ Stuck = ap (λ y. step r y s) same ∙ e in
    ap (λ done. follow done (λ skip t. ending p skip t r)) here
ending_stuck (x ∷ p) (suc pc) i s r found e = ending_stuck p pc i s r found e

-- a word that is known stays known where more words are
slice_get-more : (r more : List ℕ) (j w : ℕ) → slice_get r j ≡ Some w → slice_get (r ++ more) j ≡ Some w
slice_get-more [] more j w h = cc
slice_get-more (x ∷ r) more zero w h = h
slice_get-more (x ∷ r) more (suc j) w h = slice_get-more r more j w h

-- a load that is not stuck does the same where more words are
loaded-more : (b : Bool) (r more : List ℕ) (j : ℕ) (s : Registers) (does : Step) → (does ≡ Stuck → ⊥)
    → loaded s (cond b (slice_get r j) None) ≡ does → loaded s (cond b (slice_get (r ++ more) j) None) ≡ does
loaded-more false r more j s does goes h = h
loaded-more true r more j s does goes h = by_word (slice_get r j) refl h where
  by_word : (o : Option ℕ) → slice_get r j ≡ o → loaded s o ≡ does → loaded s (slice_get (r ++ more) j) ≡ does
  by_word None e g = absurd (goes (sym g))
  by_word (Some w) e g = ap (loaded s) (slice_get-more r more j w e) ∙ g

-- an instruction that is not stuck does the same where more words are
perform_if-more : (op : Option Operation) (r more : List ℕ) (i : Insn) (s : Registers) (does : Step) → (does ≡ Stuck → ⊥)
    → perform_if op r i s ≡ does → perform_if op (r ++ more) i s ≡ does
perform_if-more None r more i s does goes h = h
perform_if-more (Some LoadWord) r more i s does goes h = loaded-more (eqb (i.k % 4) 0) r more (i.k / 4) s does goes h
perform_if-more (Some LoadScratch) r more i s does goes h = h
perform_if-more (Some LoadScratchX) r more i s does goes h = h
perform_if-more (Some Store) r more i s does goes h = h
perform_if-more (Some StoreX) r more i s does goes h = h
perform_if-more (Some SetA) r more i s does goes h = h
perform_if-more (Some SetX) r more i s does goes h = h
perform_if-more (Some ReturnK) r more i s does goes h = h
perform_if-more (Some ReturnA) r more i s does goes h = h
perform_if-more (Some Jump) r more i s does goes h = h
perform_if-more (Some (Branch test c)) r more i s does goes h = h
perform_if-more (Some (Compute f c)) r more i s does goes h = h
perform_if-more (Some ShiftLeft) r more i s does goes h = h
perform_if-more (Some ShiftRight) r more i s does goes h = h
perform_if-more (Some Negate) r more i s does goes h = h
perform_if-more (Some CopyToX) r more i s does goes h = h
perform_if-more (Some CopyToA) r more i s does goes h = h

pub step-more : (r more : List ℕ) (i : Insn) (s : Registers) (does : Step) → (does ≡ Stuck → ⊥) → step r i s ≡ does → step (r ++ more) i s ≡ does
step-more r more i s does goes h = perform_if-more (operation_of i.code) r more i s does goes h

-- what is known of a run on fewer words stays so where more words are
pub ending-more : (p : List Insn) (pc : ℕ) (s : Registers) (r more : List ℕ) (end : ℕ × ℕ)
    → ending p pc s r ≡ Some end → ending p pc s (r ++ more) ≡ Some end
ending-more [] pc s r more end h = cc
ending-more (i ∷ p) (suc pc) s r more end h = ending-more p pc s r more end h
ending-more (i ∷ p) zero s r more end h = by_step (step r i s) refl h (λ skip t e g. ending-more p skip t r more e g) where
  same : (does : Step) → (does ≡ Stuck → ⊥) → step r i s ≡ does
      → follow (step (r ++ more) i s) (λ skip t. ending p skip t (r ++ more)) ≡ follow does (λ skip t. ending p skip t (r ++ more))
  same does goes e =
      ap (λ now. follow now (λ skip t. ending p skip t (r ++ more))) (perform_if-more (operation_of i.code) r more i s does goes e)

  by_rest : (rest : Ending) (skip : ℕ) (t : Registers) → ending p skip t r ≡ rest → after_one rest ≡ Some end
      → ((e : ℕ × ℕ) → ending p skip t r ≡ Some e → ending p skip t (r ++ more) ≡ Some e)
      → after_one (ending p skip t (r ++ more)) ≡ Some end
  by_rest None skip t e g later = cc
  by_rest (Some inner) skip t e g later = ap after_one (later inner e) ∙ g

  by_step : (does : Step) → step r i s ≡ does → follow does (λ skip t. ending p skip t r) ≡ Some end
      → ((skip : ℕ) (t : Registers) (e : ℕ × ℕ) → ending p skip t r ≡ Some e → ending p skip t (r ++ more) ≡ Some e)
      → follow (step (r ++ more) i s) (λ skip t. ending p skip t (r ++ more)) ≡ Some end
  by_step (Ends word) e g later = same (Ends word) (λ f. cc) e ∙ g
  by_step (Goes skip t) e g later = same (Goes skip t) (λ f. cc) e ∙ by_rest (ending p skip t r) skip t refl g (later skip t)
  by_step Stuck e g later = cc
