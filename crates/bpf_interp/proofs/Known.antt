-- Steps where the first two words of a record are known, and no others.
use Rattle.std.proofs.Common.{◌≡◌, ℕ, zero, suc, ◌/◌, ◌%◌, ◌<◌, ◌≤◌, Bool, true, false, cond, eqb, List, [], ◌∷◌, ◌++◌, refl, ap}
use Rattle.std.proofs.Common.{sym, ◌∙◌, arith}
use Rattle.std.specs.Prelude.{Some, None, slice_get, Option, nat_le}
use Rattle.std.specs.Option.{option_map}
use Rattle.std.proofs.lemmas.Bool.{leb-false, leb-true}
use Rattle.bpf_insn.specs.declared.code.Operation.{Operation}
use Rattle.bpf_insn.specs.declared.code.Operation.TheVariants.{LoadWord, LoadScratch, LoadScratchX, Store, StoreX, SetA, SetX}
use Rattle.bpf_insn.specs.declared.code.Operation.TheVariants.{ReturnK, ReturnA, Jump, Branch, Compute, ShiftLeft, ShiftRight}
use Rattle.bpf_insn.specs.declared.code.Operation.TheVariants.{Negate, CopyToX, CopyToA}
use Rattle.bpf_insn.specs.declared.instruction.Insn.{Insn}
use Rattle.bpf_insn.specs.Code.{operation_of}
use Rattle.bpf_insn.specs.Machine.{Registers, Ends, Stuck, Ending, ending, loaded, perform_if, start, step, verdict_of}
use Rattle.bpf_insn.proofs.RunLaws.{counted, ending_ends, ending_stuck, ending-more}
use Rattle.call_record.specs.Words.{halves}
use Rattle.bpf_interp.specs.Fixed.{FixedIsTheVerdict}
use Rattle.bpf_interp.specs.inner.Known.{loads_further}
use Rattle.bpf_interp.specs.inner.Moment.{IsMoment}

-- the first two words are the same, whatever follows
slice_get-two : (nr arch j : ℕ) (more : List ℕ) → j < 2 → slice_get (nr ∷ arch ∷ []) j ≡ slice_get (nr ∷ arch ∷ more) j
slice_get-two nr arch zero more h = refl
slice_get-two nr arch (suc zero) more h = refl
slice_get-two nr arch (suc (suc j)) more h = absurd (omega arith)

-- beyond them nothing is known
slice_get-none : (nr arch j : ℕ) → 2 ≤ j → slice_get (nr ∷ arch ∷ []) j ≡ None
slice_get-none nr arch zero h = absurd (omega arith)
slice_get-none nr arch (suc zero) h = absurd (omega arith)
slice_get-none nr arch (suc (suc j)) h = refl

load_near : (nr arch k : ℕ) (more : List ℕ) (s : Registers) → nat_le 8 k ≡ false
    → loaded s (cond (eqb (k % 4) 0) (slice_get (nr ∷ arch ∷ []) (k / 4)) None)
    ≡ loaded s (cond (eqb (k % 4) 0) (slice_get (nr ∷ arch ∷ more) (k / 4)) None)
load_near nr arch k more s h =
    let near : k < 8 = leb-false 8 k h in
    let j : k / 4 < 2 = omega arith in
    ap (λ o. loaded s (cond (eqb (k % 4) 0) o None)) (slice_get-two nr arch (k / 4) more j)

load_far : (nr arch k : ℕ) (s : Registers) → nat_le 8 k ≡ true → (b : Bool)
    → loaded s (cond b (slice_get (nr ∷ arch ∷ []) (k / 4)) None) ≡ Stuck
load_far nr arch k s h false = refl
load_far nr arch k s h true =
    let far : 8 ≤ k = leb-true 8 k h in
    let j : 2 ≤ k / 4 = omega arith in
    ap (loaded s) (slice_get-none nr arch (k / 4) j)

near_by : (op : Option Operation) (nr arch : ℕ) (more : List ℕ) (i : Insn) (s : Registers) → loads_further op i.k ≡ false
    → perform_if op (nr ∷ arch ∷ []) i s ≡ perform_if op (nr ∷ arch ∷ more) i s
near_by None nr arch more i s h = refl
near_by (Some LoadWord) nr arch more i s h = load_near nr arch i.k more s h
near_by (Some LoadScratch) nr arch more i s h = refl
near_by (Some LoadScratchX) nr arch more i s h = refl
near_by (Some Store) nr arch more i s h = refl
near_by (Some StoreX) nr arch more i s h = refl
near_by (Some SetA) nr arch more i s h = refl
near_by (Some SetX) nr arch more i s h = refl
near_by (Some ReturnK) nr arch more i s h = refl
near_by (Some ReturnA) nr arch more i s h = refl
near_by (Some Jump) nr arch more i s h = refl
near_by (Some (Branch test c)) nr arch more i s h = refl
near_by (Some (Compute f c)) nr arch more i s h = refl
near_by (Some ShiftLeft) nr arch more i s h = refl
near_by (Some ShiftRight) nr arch more i s h = refl
near_by (Some Negate) nr arch more i s h = refl
near_by (Some CopyToX) nr arch more i s h = refl
near_by (Some CopyToA) nr arch more i s h = refl

-- what loads no further word does the same whatever follows
pub near : (nr arch : ℕ) (more : List ℕ) (i : Insn) (s : Registers) → loads_further (operation_of i.code) i.k ≡ false
    → step (nr ∷ arch ∷ []) i s ≡ step (nr ∷ arch ∷ more) i s
near nr arch more i s h = near_by (operation_of i.code) nr arch more i s h

far_by : (op : Option Operation) (nr arch : ℕ) (i : Insn) (s : Registers) → loads_further op i.k ≡ true
    → perform_if op (nr ∷ arch ∷ []) i s ≡ Stuck
far_by None nr arch i s h = cc
far_by (Some LoadWord) nr arch i s h = load_far nr arch i.k s h (eqb (i.k % 4) 0)
far_by (Some LoadScratch) nr arch i s h = cc
far_by (Some LoadScratchX) nr arch i s h = cc
far_by (Some Store) nr arch i s h = cc
far_by (Some StoreX) nr arch i s h = cc
far_by (Some SetA) nr arch i s h = cc
far_by (Some SetX) nr arch i s h = cc
far_by (Some ReturnK) nr arch i s h = cc
far_by (Some ReturnA) nr arch i s h = cc
far_by (Some Jump) nr arch i s h = cc
far_by (Some (Branch test c)) nr arch i s h = cc
far_by (Some (Compute f c)) nr arch i s h = cc
far_by (Some ShiftLeft) nr arch i s h = cc
far_by (Some ShiftRight) nr arch i s h = cc
far_by (Some Negate) nr arch i s h = cc
far_by (Some CopyToX) nr arch i s h = cc
far_by (Some CopyToA) nr arch i s h = cc

-- what loads a further word is stuck
pub far : (nr arch : ℕ) (i : Insn) (s : Registers) → loads_further (operation_of i.code) i.k ≡ true
    → step (nr ∷ arch ∷ []) i s ≡ Stuck
far nr arch i s h = far_by (operation_of i.code) nr arch i s h

-- the verdict of a run whose last step is this
pub last_word : (p : List Insn) (r : List ℕ) (count pc word : ℕ) (i : Insn) (s : Registers) → IsMoment p r count pc s
    → slice_get p pc ≡ Some i → step r i s ≡ Ends word → Some word ≡ verdict_of p r
last_word p r count pc word i s now found e =
    sym (ap (option_map (λ (end : ℕ × ℕ). end.0)) (now.same ∙ ap (counted count) (ending_ends p pc i s r word found e)))

-- the verdict of a run that is stuck
pub no_word : (p : List Insn) (r : List ℕ) (count pc : ℕ) (i : Insn) (s : Registers) → IsMoment p r count pc s
    → slice_get p pc ≡ Some i → step r i s ≡ Stuck → None ≡ verdict_of p r
no_word p r count pc i s now found e =
    sym (ap (option_map (λ (end : ℕ × ℕ). end.0)) (now.same ∙ ap (counted count) (ending_stuck p pc i s r found e)))

-- a run that is fixed goes the same way on a whole record
more_words : (p : List Insn) (r more : List ℕ) (word : ℕ) (e : Ending) → ending p 0 start r ≡ e
    → option_map (λ (end : ℕ × ℕ). end.0) e ≡ Some word → verdict_of p (r ++ more) ≡ Some word
more_words p r more word None is h = cc
more_words p r more word (Some end) is h = ap (option_map (λ (end : ℕ × ℕ). end.0)) (ending-more p 0 start r more end is) ∙ h

pub fixed_stays : FixedIsTheVerdict
fixed_stays p r word h = more_words p (r.nr ∷ r.arch ∷ []) (halves (r.ip ∷ r.args)) word (ending p 0 start (r.nr ∷ r.arch ∷ [])) refl h
