-- Runs of a program, of one that stands before others, and of one whose returns give way.
use Rattle.std.proofs.Common.{◌≡◌, ◌+◌, ℕ, zero, suc, Bool, true, false, List, [], ◌∷◌, ◌++◌, length, refl, ap, sym, ◌∙◌, arith}
use Rattle.std.specs.Prelude.{◌==◌, ◌&&◌, ◌*◌, ◌/◌, ◌%◌, ◌^◌, nat_lt, if◌then◌else◌, Option, Some, None}
use Rattle.std.proofs.lemmas.Bool.{eqb-true}
use Rattle.std.specs.List.{list_all}
use Rattle.std.specs.Option.{option_map}
use Rattle.bpf_insn.specs.declared.code.Operation.{Operation}
use Rattle.bpf_insn.specs.declared.code.Operation.TheVariants.{LoadWord, LoadScratch, LoadScratchX, Store, StoreX, SetA, SetX}
use Rattle.bpf_insn.specs.declared.code.Operation.TheVariants.{ReturnK, ReturnA, Jump, Branch, Compute, ShiftLeft, ShiftRight}
use Rattle.bpf_insn.specs.declared.code.Operation.TheVariants.{Negate, CopyToX, CopyToA}
use Rattle.bpf_insn.specs.declared.instruction.Insn.{Insn}
use Rattle.bpf_insn.specs.Code.{code_of, operation_of}
use Rattle.bpf_insn.specs.Machine.{Ending, Ends, Goes, Registers, Step, Stuck, after_one, ending, follow, kept, loaded, loaded_x, perform}
use Rattle.bpf_insn.specs.Machine.{perform_if, start, step, word_at}
use Rattle.bpf_insn.proofs.CodeLaws.{operation_of-code_of}
use Rattle.flatten.specs.Unflat.{is_plain, is_plain_by, is_return, is_return_by}
use Rattle.flatten.specs.inner.Turns.{ArePlain, both, block, given, gives, insn}
use Rattle.flatten.specs.inner.Turns.{jump_over, mapped, return_of}

-- ---- single steps

after_word : (e : Ending) → option_map (λ (end : ℕ × ℕ). end.0) (after_one e) ≡ option_map (λ (end : ℕ × ℕ). end.0) e
after_word None = refl
after_word (Some end) = refl

-- the verdict that is given from a step on
abbrev pub from_step : Step → List Insn → List ℕ → Option ℕ
from_step done p r = option_map (λ (end : ℕ × ℕ). end.0) (follow done (λ skip t. ending p skip t r))

pub goes_on : (p : List Insn) (skip : ℕ) (t : Registers) (r : List ℕ) → from_step (Goes skip t) p r ≡ given p skip t r
goes_on p skip t r = after_word (ending p skip t r)

-- a step that does not end, and leaves the scratch words as they are
abbrev pub Quiet : Step → Registers → Type 0
Quiet (Ends word) s = ⊥
Quiet (Goes skip t) s = t.scratch ≡ s.scratch
Quiet Stuck s = Unit {0}

-- a return ends with its number, and every other plain instruction is quiet
abbrev pub Seen : Bool → Step → Insn → Registers → Type 0
Seen true done i s = done ≡ Ends i.k
Seen false done i s = Quiet done s

quiet_loaded : (s : Registers) (o : Option ℕ) → Quiet (loaded s o) s
quiet_loaded s None = tt
quiet_loaded s (Some w) = refl

quiet_loaded_x : (s : Registers) (o : Option ℕ) → Quiet (loaded_x s o) s
quiet_loaded_x s None = tt
quiet_loaded_x s (Some w) = refl

quiet_shift : (s : Registers) (b : Bool) (n : ℕ) → Quiet (if b then Goes 0 (record s { a = n }) else Stuck) s
quiet_shift s true n = refl
quiet_shift s false n = tt

seen_by : (o : Option Operation) (r : List ℕ) (i : Insn) (s : Registers) → is_plain_by o ≡ true → Seen (is_return_by o) (perform_if o r i s) i s
seen_by None r i s h = tt
seen_by (Some LoadWord) r i s h = quiet_loaded s (word_at r i.k)
seen_by (Some LoadScratch) r i s h = quiet_loaded s (kept s i.k)
seen_by (Some LoadScratchX) r i s h = quiet_loaded_x s (kept s i.k)
seen_by (Some Store) r i s h = absurd (cc)
seen_by (Some StoreX) r i s h = absurd (cc)
seen_by (Some SetA) r i s h = refl
seen_by (Some SetX) r i s h = refl
seen_by (Some ReturnK) r i s h = refl
seen_by (Some ReturnA) r i s h = absurd (cc)
seen_by (Some Jump) r i s h = refl
seen_by (Some (Branch test c)) r i s h = refl
seen_by (Some (Compute f c)) r i s h = refl
seen_by (Some ShiftLeft) r i s h = quiet_shift s (nat_lt i.k 32) (s.a * 2 ^ i.k % 2 ^ 32)
seen_by (Some ShiftRight) r i s h = quiet_shift s (nat_lt i.k 32) (s.a / 2 ^ i.k)
seen_by (Some Negate) r i s h = refl
seen_by (Some CopyToX) r i s h = refl
seen_by (Some CopyToA) r i s h = refl

pub seen : (i : Insn) (r : List ℕ) (s : Registers) → is_plain i ≡ true → Seen (is_return i) (step r i s) i s
seen i r s h = seen_by (operation_of i.code) r i s h

-- what an instruction does, by its operation
pub runs : (op : Operation) (i : Insn) (s : Registers) (r : List ℕ) → i.code ≡ code_of op → step r i s ≡ perform op r i s
runs op i s r e = ap (λ c. perform_if (operation_of c) r i s) e ∙ ap (λ o. perform_if o r i s) (operation_of-code_of op)

-- the first of plain instructions, and the others
pub first_plain : (i : Insn) (p : List Insn) → ArePlain (i ∷ p) → is_plain i ≡ true
first_plain i p h = by_test (is_plain i) (list_all is_plain p) h where
  by_test : (a b : Bool) → (a && b) ≡ true → a ≡ true
  by_test true b e = refl
  by_test false b e = e

pub rest_plain : (i : Insn) (p : List Insn) → ArePlain (i ∷ p) → ArePlain p
rest_plain i p h = by_test (is_plain i) (list_all is_plain p) h where
  by_test : (a b : Bool) → (a && b) ≡ true → b ≡ true
  by_test true b e = e
  by_test false b e = absurd (cc)

-- ---- a program before others, and behind others

more_step : (done : Step) (p q : List Insn) (r : List ℕ) (v : ℕ)
    → ((pc : ℕ) (s : Registers) → given p pc s r ≡ Some v → given (p ++ q) pc s r ≡ Some v)
    → from_step done p r ≡ Some v → from_step done (p ++ q) r ≡ Some v
more_step (Ends word) p q r v on h = h
more_step (Goes skip t) p q r v on h = goes_on (p ++ q) skip t r ∙ on skip t (sym (goes_on p skip t r) ∙ h)
more_step Stuck p q r v on h = cc

pub more : (p q : List Insn) (pc : ℕ) (s : Registers) (r : List ℕ) (v : ℕ) → given p pc s r ≡ Some v → given (p ++ q) pc s r ≡ Some v
more [] q pc s r v h = cc
more (i ∷ p) q zero s r v h = more_step (step r i s) p q r v (λ pc t g. more p q pc t r v g) h
more (i ∷ p) q (suc pc) s r v h = more p q pc s r v h

pub behind : (own p : List Insn) (at n : ℕ) (s : Registers) (r : List ℕ) → at ≡ length own + n → given (own ++ p) at s r ≡ given p n s r
behind [] p at n s r e = let same : at ≡ n = omega arith in ap (λ k. given p k s r) same
behind (i ∷ own) p zero n s r e = absurd (omega (arith, e))
behind (i ∷ own) p (suc at) n s r e = behind own p at n s r (omega (arith, e))

-- ---- returns that give way to a newer verdict

pub returns : (k : ℕ) (s : Registers) (r : List ℕ) → step r (return_of k) s ≡ Ends k
returns k s r = runs ReturnK (return_of k) s r refl

pub jumps : (k : ℕ) (s : Registers) (r : List ℕ) → step r (jump_over k) s ≡ Goes k s
jumps k s r = runs Jump (jump_over k) s r refl

module _ (word : ℕ) (r : List ℕ) where
  mapped_step : (done : Step) (i : Insn) (p : List Insn) (s : Registers) (v : ℕ)
      → ((pc : ℕ) (t : Registers) → given p pc t r ≡ Some v → given (mapped word p) pc t r ≡ Some (both word v))
      → Quiet done s → from_step done p r ≡ Some v → from_step done (mapped word p) r ≡ Some (both word v)
  mapped_step (Ends k) i p s v on q h = absurd q
  mapped_step (Goes skip t) i p s v on q h = goes_on (mapped word p) skip t r ∙ on skip t (sym (goes_on p skip t r) ∙ h)
  mapped_step Stuck i p s v on q h = cc

  mapped_first : (b : Bool) (i : Insn) (p : List Insn) (s : Registers) (v : ℕ)
      → ((pc : ℕ) (t : Registers) → given p pc t r ≡ Some v → given (mapped word p) pc t r ≡ Some (both word v))
      → Seen b (step r i s) i s → from_step (step r i s) p r ≡ Some v
      → from_step (step r (if b then return_of (both word i.k) else i) s) (mapped word p) r ≡ Some (both word v)
  mapped_first true i p s v on seen h =
      let same : Some i.k ≡ Some v = ap (λ done. from_step done p r) (sym seen) ∙ h in
      ap (λ done. from_step done (mapped word p) r) (returns (both word i.k) s r)
      ∙ ap (λ (k : Option ℕ). option_map (both word) k) same
  mapped_first false i p s v on seen h = mapped_step (step r i s) i p s v on seen h

  pub maps : (p : List Insn) (pc : ℕ) (s : Registers) (v : ℕ) → ArePlain p → given p pc s r ≡ Some v
      → given (mapped word p) pc s r ≡ Some (both word v)
  maps [] pc s v plain h = cc
  maps (i ∷ p) zero s v plain h =
      mapped_first (is_return i) i p s v (λ pc t g. maps p pc t v (rest_plain i p plain) g) (seen i r s (first_plain i p plain)) h
  maps (i ∷ p) (suc pc) s v plain h = maps p pc s v (rest_plain i p plain) h

  -- registers of which only the scratch words are as at the start are all so behind the two first instructions
  emptied : (s : Registers) → s.scratch ≡ start.scratch → record (record s { a = 0 }) { x = 0 } ≡ start
  emptied s e = ap (λ (kept : List (Option ℕ)). record { a = 0; x = 0; scratch = kept }) e

  pub blocks : (older : List Insn) (s : Registers) (v : ℕ) → ArePlain older → s.scratch ≡ start.scratch → given older 0 start r ≡ Some v
      → given (block word older) 0 s r ≡ Some (both word v)
  blocks older s v plain e h =
      let rest = mapped word older in
      let a = insn 0x00 0 0 0 in
      let x = insn 0x01 0 0 0 in
      let one : given (a ∷ x ∷ rest) 0 s r ≡ given (x ∷ rest) 0 (record s { a = 0 }) r =
      ap (λ done. from_step done (x ∷ rest) r) (runs SetA a s r refl) ∙ goes_on (x ∷ rest) 0 (record s { a = 0 }) r in
      let two : given (x ∷ rest) 0 (record s { a = 0 }) r ≡ given rest 0 (record (record s { a = 0 }) { x = 0 }) r =
      ap (λ done. from_step done rest r) (runs SetX x (record s { a = 0 }) r refl)
      ∙ goes_on rest 0 (record (record s { a = 0 }) { x = 0 }) r in
      one ∙ two ∙ ap (λ t. given rest 0 t r) (emptied s e) ∙ maps older 0 start v plain h

-- ---- returns that all give way to one answer

module _ (word c : ℕ) (r : List ℕ) where
  one_step : (done : Step) (p : List Insn) (s : Registers) (v : ℕ)
      → ((pc : ℕ) (t : Registers) → given p pc t r ≡ Some v → both word v ≡ c) → Quiet done s → from_step done p r ≡ Some v → both word v ≡ c
  one_step (Ends k) p s v on q h = absurd q
  one_step (Goes skip t) p s v on q h = on skip t (sym (goes_on p skip t r) ∙ h)
  one_step Stuck p s v on q h = cc

  one_first : (b : Bool) (i : Insn) (p : List Insn) (s : Registers) (v : ℕ)
      → ((pc : ℕ) (t : Registers) → given p pc t r ≡ Some v → both word v ≡ c)
      → (if b then both word i.k == c else true) ≡ true
      → Seen b (step r i s) i s → from_step (step r i s) p r ≡ Some v → both word v ≡ c
  one_first true i p s v on test seen h =
      let same : Some i.k ≡ Some v = ap (λ done. from_step done p r) (sym seen) ∙ h in
      let k : i.k ≡ v = cc in
      ap (both word) (sym k) ∙ eqb-true (both word i.k) c test
  one_first false i p s v on test seen h = one_step (step r i s) p s v on seen h

  first_of : (a b : Bool) → (a && b) ≡ true → a ≡ true
  first_of true b e = refl
  first_of false b e = e

  rest_of : (a b : Bool) → (a && b) ≡ true → b ≡ true
  rest_of true b e = e
  rest_of false b e = absurd (cc)

  pub one_answer : (p : List Insn) (pc : ℕ) (s : Registers) (v : ℕ) → ArePlain p → list_all (gives word c) p ≡ true → given p pc s r ≡ Some v
      → both word v ≡ c
  one_answer [] pc s v plain all h = cc
  one_answer (i ∷ p) zero s v plain all h =
      one_first (is_return i) i p s v
      (λ pc t g. one_answer p pc t v (rest_plain i p plain) (rest_of (gives word c i) (list_all (gives word c) p) all) g)
      (first_of (gives word c i) (list_all (gives word c) p) all) (seen i r s (first_plain i p plain)) h
  one_answer (i ∷ p) (suc pc) s v plain all h =
      one_answer p pc s v (rest_plain i p plain) (rest_of (gives word c i) (list_all (gives word c) p) all) h
