-- What code gives from a place on, as more of it is written, and by its first instruction.
use Rattle.std.proofs.Common.{◌≡◌, ℕ, suc, ◌+◌, ◌/◌, ◌%◌, ◌==◌, ◌≤◌, true, List, [], ◌∷◌, ◌++◌, length, refl, ap, sym}
use Rattle.std.proofs.Common.{◌∙◌, arith, length-append, bit_and}
use Rattle.std.specs.Prelude.{Some, None, slice_get, slice_index, if◌then◌else◌}
use Rattle.std.specs.Option.{option_map}
use Rattle.std.proofs.lemmas.Bool.{eq-eqb}
use Rattle.std.proofs.lemmas.Option.{slice_get-get_or}
use Rattle.call_record.specs.Words.{IsRecord}
use Rattle.bpf_insn.specs.declared.code.Operand.TheVariants.{K}
use Rattle.bpf_insn.specs.declared.code.Arithmetic.TheVariants.{And}
use Rattle.bpf_insn.specs.declared.code.Operation.TheVariants.{Compute, Jump, LoadWord}
use Rattle.bpf_insn.specs.declared.instruction.Insn.{Insn}
use Rattle.bpf_insn.specs.Code.{operation_of}
use Rattle.bpf_insn.specs.Machine.{Ending, Ends, Goes, Registers, after_one, ending, loaded, perform_if, step, word_at}
use Rattle.bpf_insn.proofs.RunLaws.{ending_ends, ending_goes}
use Rattle.rule_compile.specs.declared.label.Label.{Label}
use Rattle.rule_compile.specs.declared.label.Target.{Target}
use Rattle.rule_compile.specs.declared.label.Target.TheVariants.{Place, Return}
use Rattle.rule_compile.specs.inner.Code.{Grows, IsIn, IsTarget, insn_of, position}
use Rattle.rule_compile.specs.inner.Left.{IsOffset}
use Rattle.rule_compile.specs.inner.Runs.{gives_from, holding, runs}

abbrev verdict_in : ℕ × ℕ → ℕ
verdict_in end = end.0

after_one_verdict : (e : Ending) → option_map verdict_in (after_one e) ≡ option_map verdict_in e
after_one_verdict None = refl
after_one_verdict (Some end) = refl

-- from an instruction that ends the run
pub gives_ends : (code : List Insn) (pc : ℕ) (i : Insn) (a : ℕ) (r : List ℕ) (word : ℕ) → slice_get code pc ≡ Some i
    → step r i (holding a) ≡ Ends word → gives_from code pc a r ≡ Some word
gives_ends code pc i a r word found e = ap (option_map verdict_in) (ending_ends code pc i (holding a) r word found e)

-- from an instruction that goes on
pub gives_goes : (code : List Insn) (pc : ℕ) (i : Insn) (a : ℕ) (r : List ℕ) (skip b next : ℕ) → slice_get code pc ≡ Some i
    → step r i (holding a) ≡ Goes skip (holding b) → next ≡ pc + 1 + skip → gives_from code pc a r ≡ gives_from code next b r
gives_goes code pc i a r skip b next found e n =
    ap (option_map verdict_in) (ending_goes code pc i (holding a) r skip (holding b) next found e n)
    ∙ after_one_verdict (ending code next (holding b) r)

-- ---- as more is written in front

ending_behind : (more code : List Insn) (k : ℕ) (s : Registers) (r : List ℕ) → ending (more ++ code) (length more + k) s r ≡ ending code k s r
ending_behind [] code k s r = let e : 0 + k ≡ k = omega arith in ap (λ n. ending code n s r) e
ending_behind (i ∷ more) code k s r =
    let e : suc (length more) + k ≡ suc (length more + k) = omega arith in
    ap (λ n. ending (i ∷ (more ++ code)) n s r) e ∙ ending_behind more code k s r

pub runs_kept : (old new : List Insn) → Grows old new → (to : Target) → IsTarget old to → (a : ℕ) (r : List ℕ) → runs new to a r ≡ runs old to a r
runs_kept old new g (Return w) at a r = refl
runs_kept old new g (Place l) at a r =
    let there : position new l ≡ length g.more + position old l = omega (arith, ap length g.is, length-append g.more old, at.1) in
    ap (λ n. gives_from new n a r) there
    ∙ ap (λ code. gives_from code (length g.more + position old l) a r) g.is
    ∙ ap (option_map verdict_in) (ending_behind g.more old (position old l) (holding a) r)

-- ---- a load

pub load_code : operation_of 0x20 ≡ Some LoadWord
unfolding operation_of
load_code = refl

module _ (offset : ℕ) (is : IsOffset offset) (r : List ℕ) (is_r : IsRecord r) where
  word_is : word_at r offset ≡ Some (slice_index r (offset / 4))
  word_is =
      let even : (offset % 4 == 0) ≡ true = eq-eqb (offset % 4) 0 is.0 in
      ap (λ b. if b then slice_get r (offset / 4) else None) even
      ∙ slice_get-get_or r (offset / 4) 0 (omega (arith, is.1, is_r.length_is))

  load_step : (a : ℕ) → step r (insn_of LoadWord offset) (holding a) ≡ Goes 0 (holding (slice_index r (offset / 4)))
  load_step a =
      ap (λ o. perform_if o r (insn_of LoadWord offset) (holding a)) load_code ∙ ap (loaded (holding a)) word_is

pub load_runs : (offset : ℕ) → IsOffset offset → (code : List Insn) (a : ℕ) (r : List ℕ) → IsRecord r
    → gives_from (insn_of LoadWord offset ∷ code) 0 a r ≡ gives_from code 0 (slice_index r (offset / 4)) r
load_runs offset is code a r is_r =
    gives_goes (insn_of LoadWord offset ∷ code) 0 (insn_of LoadWord offset) a r 0 (slice_index r (offset / 4)) 1 refl
    (load_step offset is r is_r a) refl

-- ---- a mask

pub and_code : operation_of 0x54 ≡ Some (Compute And K)
unfolding operation_of
and_code = refl

pub mask_runs : (mask : ℕ) (code : List Insn) (a : ℕ) (r : List ℕ)
    → gives_from (insn_of (Compute And K) mask ∷ code) 0 a r ≡ gives_from code 0 (bit_and a mask) r
mask_runs mask code a r =
    gives_goes (insn_of (Compute And K) mask ∷ code) 0 (insn_of (Compute And K) mask) a r 0 (bit_and a mask) 1 refl
    (ap (λ o. perform_if o r (insn_of (Compute And K) mask) (holding a)) and_code) refl

-- ---- behind a load of what A holds

pub past_runs : (code : List Insn) (offset : ℕ) (place after : Label) → IsOffset offset → IsIn code place → 1 ≤ after.to_end
    → after.to_end + 1 ≡ place.to_end → slice_get code (position code place) ≡ Some (insn_of LoadWord offset)
    → (a : ℕ) (r : List ℕ) → IsRecord r → a ≡ slice_index r (offset / 4) → runs code (Place after) a r ≡ runs code (Place place) a r
past_runs code offset place after is at some next stands a r is_r holds_it =
    let there : position code after ≡ position code place + 1 + 0 = omega (arith, at.1, next, some) in
    ap (λ b. gives_from code (position code after) b r) holds_it
    ∙ sym (gives_goes code (position code place) (insn_of LoadWord offset) a r 0 (slice_index r (offset / 4)) (position code after) stands
    (load_step offset is r is_r a) there)

-- ---- a jump in front

jump_code : operation_of 0x05 ≡ Some Jump
unfolding operation_of
jump_code = refl

pub jump_runs : (code : List Insn) (to : Label) (k : ℕ) → IsIn code to → k + to.to_end ≡ length code → (a : ℕ) (r : List ℕ)
    → gives_from (insn_of Jump k ∷ code) 0 a r ≡ gives_from code (position code to) a r
jump_runs code to k at leads a r =
    gives_goes (insn_of Jump k ∷ code) 0 (insn_of Jump k) a r k a (suc k) refl
    (ap (λ o. perform_if o r (insn_of Jump k) (holding a)) jump_code) (omega arith)
    ∙ (let e : k ≡ position code to = omega (arith, leads, at.1) in ap (λ n. gives_from code n a r) e)
