-- An accepted program's instructions run and lead on to others, so on a whole record it ends.
use Rattle.std.proofs.Common.{◌≡◌, ◌≢◌, ℕ, zero, suc, ◌+◌, ◌-◌, ◌/◌, ◌%◌, ◌<◌, ◌≤◌, ◌⊎◌, inl, inr, Bool}
use Rattle.std.proofs.Common.{true, false, cond, eqb, List, [], ◌∷◌, length, slice_set, refl, ap, sym, subst, ◌∙◌, arith}
use Rattle.std.specs.Prelude.{Some, None, slice_get, Option, nat_lt, option_and_then}
use Rattle.std.proofs.lemmas.Bool.{eq-eqb}
use Rattle.std.proofs.lemmas.Bool.Decides.{nat_tests}
use Rattle.std.proofs.lemmas.List.{length-set}
use Rattle.std.proofs.lemmas.Option.{slice_get_cases}
use Rattle.bpf_insn.specs.declared.code.Operation.{Operation}
use Rattle.bpf_insn.specs.declared.code.Operation.TheVariants.{LoadWord, LoadScratch, LoadScratchX, Store, StoreX, ReturnK}
use Rattle.bpf_insn.specs.declared.code.Operation.TheVariants.{ReturnA, Jump, Branch, ShiftLeft, ShiftRight}
use Rattle.bpf_insn.specs.declared.instruction.Insn.{Insn}
use Rattle.bpf_insn.specs.Code.{operation_of}
use Rattle.bpf_insn.specs.Causes.{IsPlain, ReadsScratch}
use Rattle.bpf_insn.specs.Machine.{Registers, Step, Ends, Goes, Stuck, Ending, after_one, ending}
use Rattle.bpf_insn.specs.Machine.{start, kept, loaded, loaded_x, with_a, word_at, perform_if, step}
use Rattle.bpf_insn.proofs.PlainLaws.{plain-loads, plain-reads, plain-shifts}
use Rattle.bpf_insn.proofs.RunLaws.{ending_ends, ending_goes}
use Rattle.kernel_check.specs.declared.fault.Cause.TheVariants.{Scratch}
use Rattle.kernel_check.specs.Accepted.{AcceptedGive, IsAccepted}
use Rattle.kernel_check.specs.Paths.{LeadsTo}
use Rattle.kernel_check.specs.Paths.Unwritten.{at_first, handed_on}
use Rattle.kernel_check.specs.inner.Registers.{FitsPath}
use Rattle.kernel_check.proofs.PathLemmas.{plain_where, inside}

-- no instruction of an accepted program has a cause of its own
pub plain : (p : List Insn) (pc : ℕ) (i : Insn) → IsAccepted p → slice_get p pc ≡ Some i → IsPlain i
plain p pc i ok found = plain_where p pc i (λ j k h. absurd (ok.no_cause j k h)) found

-- what is no jump goes on with the next instruction
loaded_skips : (o : Option ℕ) (s t : Registers) (skip : ℕ) → loaded s o ≡ Goes skip t → skip ≡ 0
loaded_skips None s t skip e = cc
loaded_skips (Some w) s t skip e = cc

guarded_skips : (b : Bool) (n : ℕ) (s t : Registers) (skip : ℕ) → cond b (with_a s n) Stuck ≡ Goes skip t → skip ≡ 0
guarded_skips true n s t skip e = cc
guarded_skips false n s t skip e = cc

loaded_x_skips : (o : Option ℕ) (s t : Registers) (skip : ℕ) → loaded_x s o ≡ Goes skip t → skip ≡ 0
loaded_x_skips None s t skip e = cc
loaded_x_skips (Some w) s t skip e = cc

-- a jump leads to one of its targets
branch_leads : (b : Bool) (jt jf pc : ℕ) (s t : Registers) (skip : ℕ) → Goes (cond b jt jf) s ≡ Goes skip t
    → (pc + 1 + skip ≡ pc + 1 + jt) ⊎ (pc + 1 + skip ≡ pc + 1 + jf)
branch_leads true jt jf pc s t skip e = let same : jt ≡ skip = cc in inl (omega arith)
branch_leads false jt jf pc s t skip e = let same : jf ≡ skip = cc in inr (omega arith)

jump_leads : (k pc : ℕ) (s t : Registers) (skip : ℕ) → Goes k s ≡ Goes skip t → pc + 1 + skip ≡ pc + 1 + k
jump_leads k pc s t skip e = let same : k ≡ skip = cc in omega arith

-- what skips nothing leads to the next instruction
next_one : (pc skip : ℕ) → skip ≡ 0 → pc + 1 + skip ≡ pc + 1
next_one pc skip e = omega arith

-- a step goes where its instruction leads to, by its operation
leads_by : (op : Option Operation) (pc : ℕ) (i : Insn) (r : List ℕ) (s t : Registers) (skip : ℕ)
    → perform_if op r i s ≡ Goes skip t → LeadsTo op pc i (pc + 1 + skip)
leads_by None pc i r s t skip e = cc
leads_by (Some LoadWord) pc i r s t skip e = next_one pc skip (loaded_skips _ s t skip e)
leads_by (Some LoadScratch) pc i r s t skip e = next_one pc skip (loaded_skips _ s t skip e)
leads_by (Some LoadScratchX) pc i r s t skip e = next_one pc skip (loaded_x_skips _ s t skip e)
leads_by (Some ReturnK) pc i r s t skip e = cc
leads_by (Some ReturnA) pc i r s t skip e = cc
leads_by (Some Jump) pc i r s t skip e = jump_leads i.k pc s t skip e
leads_by (Some (Branch test c)) pc i r s t skip e = branch_leads _ i.jt i.jf pc s t skip e
leads_by (Some ShiftLeft) pc i r s t skip e = next_one pc skip (guarded_skips _ _ s t skip e)
leads_by (Some ShiftRight) pc i r s t skip e = next_one pc skip (guarded_skips _ _ s t skip e)
leads_by (Some op) pc i r s t skip e = next_one pc skip cc

-- a step goes where its instruction leads to
pub leads : (pc : ℕ) (i : Insn) (r : List ℕ) (s t : Registers) (skip : ℕ) → step r i s ≡ Goes skip t
    → LeadsTo (operation_of i.code) pc i (pc + 1 + skip)
leads pc i r s t skip e = leads_by (operation_of i.code) pc i r s t skip e

-- where an instruction goes on, there is one
pub lands : (p : List Insn) (pc : ℕ) (i : Insn) (r : List ℕ) (s t : Registers) (skip : ℕ)
    → IsAccepted p → slice_get p pc ≡ Some i → step r i s ≡ Goes skip t → pc + 1 + skip < length p
lands p pc i r s t skip ok found e = inside p pc i (pc + 1 + skip) (λ j k h. absurd (ok.no_cause j k h)) found (leads pc i r s t skip e)

-- the place and the registers of a step
goes_same : (skip other : ℕ) (s t : Registers) → Goes skip s ≡ Goes other t → t ≡ s
goes_same skip other s t e = cc

-- where a list has None after a write, it had None there, at another place
unwritten_after : (l : List (Option ℕ)) (k n w : ℕ) → slice_get (slice_set l k (Some n)) w ≡ Some None
    → (slice_get l w ≡ Some None) × (k ≢ w)
unwritten_after [] k n w h = cc
unwritten_after (x ∷ l) zero n zero h = cc
unwritten_after (x ∷ l) zero n (suc w) h = (h, λ e. omega arith)
unwritten_after (x ∷ l) (suc k) n zero h = (h, λ e. omega arith)
unwritten_after (x ∷ l) (suc k) n (suc w) h = let was = unwritten_after l k n w h in (was.0, λ e. was.1 (omega arith))

-- a word that is not written after a step was not written before it, nor by it
Keeps : Option Operation → Insn → Registers → Registers → Type 0
Keeps op i s t = (length t.scratch ≡ length s.scratch)
    × ((w : ℕ) → slice_get t.scratch w ≡ Some None
    → (slice_get s.scratch w ≡ Some None) × (((op ≡ Some Store) ⊎ (op ≡ Some StoreX)) × (i.k ≡ w) → ⊥))

keeps_all : (op : Operation) (i : Insn) (s t : Registers) → t.scratch ≡ s.scratch → op ≢ Store → op ≢ StoreX → Keeps (Some op) i s t
unfolding Keeps
keeps_all op i s t e a x = (
  ap length e,
  λ w h. (
    ap (λ l. slice_get l w) (sym e) ∙ h,
    λ both. elim both.0 [ inl f ↦ let g : op ≡ Store = cc in a g | inr f ↦ let g : op ≡ StoreX = cc in x g ],
  ),
)

keeps_stored : (op : Option Operation) (i : Insn) (s t : Registers) (n : ℕ) → t.scratch ≡ slice_set s.scratch i.k (Some n) → Keeps op i s t
unfolding Keeps
keeps_stored op i s t n e = (
  ap length e ∙ length-set s.scratch i.k (Some n),
  λ w h.
      let there : slice_get (slice_set s.scratch i.k (Some n)) w ≡ Some None = ap (λ l. slice_get l w) (sym e) ∙ h in
      let was = unwritten_after s.scratch i.k n w there in
      (was.0, λ both. was.1 both.1),
)

-- a load changes no scratch word, nor does a shift
loaded_keeps : (o : Option ℕ) (s t : Registers) (skip : ℕ) → loaded s o ≡ Goes skip t → t.scratch ≡ s.scratch
loaded_keeps None s t skip e = cc
loaded_keeps (Some w) s t skip e = ap (λ z. z.scratch) (goes_same 0 skip _ t e)

loaded_x_keeps : (o : Option ℕ) (s t : Registers) (skip : ℕ) → loaded_x s o ≡ Goes skip t → t.scratch ≡ s.scratch
loaded_x_keeps None s t skip e = cc
loaded_x_keeps (Some w) s t skip e = ap (λ z. z.scratch) (goes_same 0 skip _ t e)

guarded_keeps : (b : Bool) (n : ℕ) (s t : Registers) (skip : ℕ) → cond b (with_a s n) Stuck ≡ Goes skip t → t.scratch ≡ s.scratch
guarded_keeps true n s t skip e = ap (λ z. z.scratch) (goes_same 0 skip _ t e)
guarded_keeps false n s t skip e = cc

-- what is not written after a step, by its operation
keeps_by : (op : Option Operation) (r : List ℕ) (i : Insn) (s t : Registers) (skip : ℕ) → perform_if op r i s ≡ Goes skip t → Keeps op i s t
keeps_by None r i s t skip e = cc
keeps_by (Some LoadWord) r i s t skip e = keeps_all LoadWord i s t (loaded_keeps _ s t skip e) (λ f. cc) (λ f. cc)
keeps_by (Some LoadScratch) r i s t skip e = keeps_all LoadScratch i s t (loaded_keeps _ s t skip e) (λ f. cc) (λ f. cc)
keeps_by (Some LoadScratchX) r i s t skip e = keeps_all LoadScratchX i s t (loaded_x_keeps _ s t skip e) (λ f. cc) (λ f. cc)
keeps_by (Some Store) r i s t skip e = keeps_stored (Some Store) i s t s.a (ap (λ z. z.scratch) (goes_same 0 skip _ t e))
keeps_by (Some StoreX) r i s t skip e = keeps_stored (Some StoreX) i s t s.x (ap (λ z. z.scratch) (goes_same 0 skip _ t e))
keeps_by (Some ReturnK) r i s t skip e = cc
keeps_by (Some ReturnA) r i s t skip e = cc
keeps_by (Some ShiftLeft) r i s t skip e = keeps_all ShiftLeft i s t (guarded_keeps _ _ s t skip e) (λ f. cc) (λ f. cc)
keeps_by (Some ShiftRight) r i s t skip e = keeps_all ShiftRight i s t (guarded_keeps _ _ s t skip e) (λ f. cc) (λ f. cc)
keeps_by (Some op) r i s t skip e = keeps_all op i s t (ap (λ z. z.scratch) (goes_same _ skip _ t e)) (λ f. cc) (λ f. cc)

-- at the start
pub fits_start : (p : List Insn) → FitsPath p 0 start
fits_start p = record { size = refl; path = λ w h. at_first }

-- one step more
pub fits_on : (p : List Insn) (pc : ℕ) (i : Insn) (r : List ℕ) (s t : Registers) (skip : ℕ)
    → slice_get p pc ≡ Some i → step r i s ≡ Goes skip t → FitsPath p pc s → FitsPath p (pc + 1 + skip) t
unfolding Keeps
fits_on p pc i r s t skip found e fits =
    let keeps = keeps_by (operation_of i.code) r i s t skip e in
    record {
      size = keeps.0 ∙ fits.size;
      path = λ w h. let was = keeps.1 w h in handed_on pc (pc + 1 + skip) i (fits.path w was.0) found (was.1, leads pc i r s t skip e);
    }

-- a scratch word that an accepted program reads is written
pub reads_written : (p : List Insn) (pc : ℕ) (i : Insn) (s : Registers) → IsAccepted p → slice_get p pc ≡ Some i → FitsPath p pc s
    → ReadsScratch i → kept s i.k ≡ None → ⊥
reads_written p pc i s ok found fits reads e =
    let low : i.k < 16 = plain-reads i (plain p pc i ok found) reads in
    elim (slice_get_cases s.scratch i.k).1 [
      | inl at ↦ by_word at.0 at.2
      | inr past ↦ absurd (omega (arith, past.0, fits.size))
    ] where
      by_word : (o : Option ℕ) → slice_get s.scratch i.k ≡ Some o → ⊥
      by_word None at = ok.no_cause pc Scratch (i, found, (reads, fits.path i.k at))
      by_word (Some w) at = let there : Some w ≡ None = sym (ap (option_and_then (λ o. o)) at) ∙ e in cc

-- a load of a word that is known is not stuck
load_found : (r : List ℕ) (k : ℕ) (s : Registers) → k % 4 ≡ 0 → k / 4 < length r → loaded s (word_at r k) ≡ Stuck → ⊥
load_found r k s whole known e =
    let test : eqb (k % 4) 0 ≡ true = eq-eqb (k % 4) 0 whole in
    let at : loaded s (slice_get r (k / 4)) ≡ Stuck = ap (λ b. loaded s (cond b (slice_get r (k / 4)) None)) (sym test) ∙ e in
    elim (slice_get_cases r (k / 4)).1 [
      | inl found ↦ let there : slice_get r (k / 4) ≡ Some found.0 = found.2 in cc
      | inr past ↦ absurd (omega (arith, past.0))
    ]

-- a shift by less than 32 bits is not stuck
shift_goes : (k n : ℕ) (s : Registers) → k < 32 → cond (nat_lt k 32) (with_a s n) Stuck ≡ Stuck → ⊥
shift_goes k n s fits e = let test : nat_lt k 32 ≡ true = grind (arith, nat_tests) in cc

-- a load of a scratch word that is written is not stuck
loaded_stuck : (o : Option ℕ) (s : Registers) → loaded s o ≡ Stuck → o ≡ None
loaded_stuck None s e = refl
loaded_stuck (Some w) s e = cc

loaded_x_stuck : (o : Option ℕ) (s : Registers) → loaded_x s o ≡ Stuck → o ≡ None
loaded_x_stuck None s e = refl
loaded_x_stuck (Some w) s e = cc

-- an instruction without a cause is not stuck, by its operation
goes_on : (op : Option Operation) (r : List ℕ) (i : Insn) (s : Registers)
    → op ≢ None → (op ≡ Some LoadWord → (i.k % 4 ≡ 0) × (i.k / 4 < length r))
    → ((op ≡ Some ShiftLeft) ⊎ (op ≡ Some ShiftRight) → i.k < 32)
    → ((op ≡ Some LoadScratch) ⊎ (op ≡ Some LoadScratchX) → kept s i.k ≡ None → ⊥)
    → perform_if op r i s ≡ Stuck → ⊥
goes_on None r i s listed known shifts written e = listed refl
goes_on (Some LoadWord) r i s listed known shifts written e = load_found r i.k s (known refl).0 (known refl).1 e
goes_on (Some LoadScratch) r i s listed known shifts written e = written (inl refl) (loaded_stuck _ s e)
goes_on (Some LoadScratchX) r i s listed known shifts written e = written (inr refl) (loaded_x_stuck _ s e)
goes_on (Some ShiftLeft) r i s listed known shifts written e = shift_goes i.k _ s (shifts (inl refl)) e
goes_on (Some ShiftRight) r i s listed known shifts written e = shift_goes i.k _ s (shifts (inr refl)) e
goes_on (Some op) r i s listed known shifts written e = cc

-- an instruction without a cause is stuck only if it loads an unknown word of the record, or a scratch
-- word that is not written
pub step-Stuck : (i : Insn) (r : List ℕ) (s : Registers) → IsPlain i → (operation_of i.code ≡ Some LoadWord → i.k / 4 < length r)
    → (ReadsScratch i → kept s i.k ≡ None → ⊥) → step r i s ≡ Stuck → ⊥
step-Stuck i r s plain known written e =
    goes_on (operation_of i.code) r i s plain.listed (λ is. ((plain-loads i plain is).1, known is)) (plain-shifts i plain) written e

-- of a whole record every word is known
known_whole : (i : Insn) (r : List ℕ) → IsPlain i → length r ≡ 16 → operation_of i.code ≡ Some LoadWord → i.k / 4 < length r
known_whole i r plain size is = omega (arith, (plain-loads i plain is).0)

-- a run that ends, by some verdict, after no more instructions than these
abbrev pub EndsWithin : ℕ → Ending → Type 0
EndsWithin most e = (word : ℕ) × (n : ℕ) × (e ≡ Some (word, n)) × (n ≤ most)

-- one instruction more at the front
EndsWithin-after_one : (most more : ℕ) (e : Ending) → most + 1 ≤ more → EndsWithin most e → EndsWithin more (after_one e)
EndsWithin-after_one most more e room h = (h.0, h.1 + 1, ap after_one h.2, omega (arith, h.3))

-- from each position of it an accepted program ends, since each step leads on to a later one
runs_from : (p : List Insn) (r : List ℕ) → IsAccepted p → length r ≡ 16 → (left pc : ℕ) (s : Registers)
    → FitsPath p pc s → pc < length p → length p - pc ≤ left → EndsWithin (length p - pc) (ending p pc s r)
runs_from p r ok size zero pc s fits within enough = absurd (omega arith)
runs_from p r ok size (suc left) pc s fits within enough =
    elim (slice_get_cases p pc).1 [
      | inl found ↦
          by_step found.0 (step r found.0 s) found.2 refl
          (λ next t path at room. runs_from p r ok size left next t path at room)
      | inr past ↦ absurd (omega (arith, past.0))
    ] where
      by_step : (i : Insn) (does : Step) → slice_get p pc ≡ Some i → step r i s ≡ does
          → ((next : ℕ) (t : Registers) → FitsPath p next t → next < length p → length p - next ≤ left
          → EndsWithin (length p - next) (ending p next t r))
          → EndsWithin (length p - pc) (ending p pc s r)
      by_step i (Ends word) found e later = (word, 1, ending_ends p pc i s r word found e, omega arith)
      by_step i (Goes skip t) found e later =
          let next : ℕ = pc + 1 + skip in
          let at : next < length p = lands p pc i r s t skip ok found e in
          let rest : EndsWithin (length p - next) (ending p next t r) =
          later next t (fits_on p pc i r s t skip found e fits) at (omega arith) in
          subst (EndsWithin (length p - pc)) (sym (ending_goes p pc i s r skip t next found e refl))
          (EndsWithin-after_one (length p - next) (length p - pc) _ (omega arith) rest)
      by_step i Stuck found e later =
          let own : IsPlain i = plain p pc i ok found in
          absurd (step-Stuck i r s own (known_whole i r own size) (reads_written p pc i s ok found fits) e)

-- so it gives a verdict on each whole record, and runs no instruction twice
pub runs : AcceptedGive
runs p r ok size =
    let end = runs_from p r ok size (length p) 0 start (fits_start p) (omega (arith, ok.some)) (omega arith) in
    (end.0, end.1, end.2, omega (arith, end.3))
