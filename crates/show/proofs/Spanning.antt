-- Where instructions lead on a call of which the machine and the number are known, and how many run.
use Rattle.std.proofs.Common.{◌≡◌, ℕ, zero, suc, ◌+◌, ◌-◌, ◌<◌, ◌≤◌, ◌⊎◌, inl, inr, Bool, true, false, cond, eqb, List, [], ◌∷◌, ◌++◌, length}
use Rattle.std.proofs.Common.{refl, ap, sym, subst, ◌∙◌, arith}
use Rattle.std.specs.Prelude.{Some, None, slice_get, Option, nat_lt}
use Rattle.std.specs.Prelude.{slice_index_or}
use Rattle.std.proofs.lemmas.Option.{slice_get-get_or}
use Rattle.bpf_insn.specs.declared.instruction.Insn.{Insn}
use Rattle.bpf_insn.specs.declared.code.Operand.TheVariants.{K, X}
use Rattle.bpf_insn.specs.declared.code.Test.{Test}
use Rattle.bpf_insn.specs.declared.code.Operation.{Operation}
use Rattle.bpf_insn.specs.declared.code.Operation.TheVariants.{LoadWord, LoadScratch, LoadScratchX, Store, StoreX, SetA, SetX}
use Rattle.bpf_insn.specs.declared.code.Operation.TheVariants.{ReturnK, ReturnA, Jump, Branch, Compute, ShiftLeft, ShiftRight}
use Rattle.bpf_insn.specs.declared.code.Operation.TheVariants.{Negate, CopyToX, CopyToA}
use Rattle.bpf_insn.specs.Code.{operation_of}
use Rattle.bpf_insn.specs.Machine.{Registers, Step, Ends, Goes, Stuck, Ending, after_one, ending, follow, holds, loaded, loaded_x, kept}
use Rattle.bpf_insn.specs.Machine.{perform_if, start, step, with_a, word_at}
use Rattle.bpf_insn.proofs.RunLaws.{ending_ends, ending_goes, ending_stuck}
use Rattle.call_record.specs.declared.layout.Record.{Record}
use Rattle.call_record.specs.Record.{words}
use Rattle.show.specs.declared.leading.Holds.{Holds}
use Rattle.show.specs.declared.leading.Holds.TheVariants.{Number, Machine, Other}
use Rattle.show.specs.declared.leading.Ways.{Ways}
use Rattle.show.specs.declared.spans.Span.{Span}
use Rattle.show.specs.inner.Leading.{Held, LeadsOn, known, leads_of, loaded_from, tested, to}
use Rattle.show.specs.declared.spans.Spans.{Spans}
use Rattle.show.specs.Spans.{IsSpan}
use Rattle.show.specs.inner.Covering.{AreSpans, Covers, IsWithOne, SpanFrom}

-- what a load of the record's word leaves in A
word_held : (r : Record) (k w : ℕ) → word_at (words r) k ≡ Some w → Held r.arch r.nr (loaded_from k) w
word_held r k w h = by_test (eqb k 0) (eqb k 4) refl refl where
  by_test : (b c : Bool) → eqb k 0 ≡ b → eqb k 4 ≡ c → Held r.arch r.nr (cond b Number (cond c Machine Other)) w
  by_test true c e f =
      let zero : k ≡ 0 = grind arith in
      let same : Some r.nr ≡ Some w = ap (λ j. word_at (words r) j) (sym zero) ∙ h in cc
  by_test false true e f =
      let four : k ≡ 4 = grind arith in
      let same : Some r.arch ≡ Some w = ap (λ j. word_at (words r) j) (sym four) ∙ h in cc
  by_test false false e f = tt

load_leads : (arch nr k : ℕ) (s : Registers) (o : Option ℕ) → ((w : ℕ) → o ≡ Some w → Held arch nr (loaded_from k) w)
    → LeadsOn arch nr (Some (to 0 0 (loaded_from k))) (loaded s o)
load_leads arch nr k s None h = tt
load_leads arch nr k s (Some w) h = (inl refl, h w refl)

loaded_leads : (arch nr : ℕ) (s : Registers) (o : Option ℕ) → LeadsOn arch nr (Some (to 0 0 Other)) (loaded s o)
loaded_leads arch nr s None = tt
loaded_leads arch nr s (Some w) = (inl refl, tt)

loaded_x_leads : (arch nr : ℕ) (h : Holds) (s : Registers) (o : Option ℕ) → Held arch nr h s.a
    → LeadsOn arch nr (Some (to 0 0 h)) (loaded_x s o)
loaded_x_leads arch nr h s None at = tt
loaded_x_leads arch nr h s (Some w) at = (inl refl, at)

shift_leads : (arch nr n : ℕ) (s : Registers) (b : Bool) → LeadsOn arch nr (Some (to 0 0 Other)) (cond b (with_a s n) Stuck)
shift_leads arch nr n s true = (inl refl, tt)
shift_leads arch nr n s false = tt

-- a test of A
test_leads : (test : Test) (i : Insn) (h : Holds) (arch nr : ℕ) (s : Registers) (b : Bool) → Held arch nr h s.a
    → LeadsOn arch nr (Some (to i.jt i.jf h)) (Goes (cond b i.jt i.jf) s)
test_leads test i h arch nr s true at = (inl refl, at)
test_leads test i h arch nr s false at = (inr refl, at)

known_leads : (i : Insn) (h : Holds) (arch nr : ℕ) (s : Registers) (b : Bool) → Held arch nr h s.a
    → LeadsOn arch nr (Some (cond b (to i.jt i.jt h) (to i.jf i.jf h))) (Goes (cond b i.jt i.jf) s)
known_leads i h arch nr s true at = (inl refl, at)
known_leads i h arch nr s false at = (inl refl, at)

tested_leads : (test : Test) (i : Insn) (h : Holds) (arch nr : ℕ) (s : Registers) → Held arch nr h s.a
    → LeadsOn arch nr (Some (tested test i h (known arch nr h))) (Goes (cond (holds test s.a i.k) i.jt i.jf) s)
tested_leads test i Number arch nr s at =
    subst (λ a. LeadsOn arch nr (Some (cond (holds test a i.k) (to i.jt i.jt Number) (to i.jf i.jf Number)))
    (Goes (cond (holds test s.a i.k) i.jt i.jf) s)) at
    (known_leads i Number arch nr s (holds test s.a i.k) at)
tested_leads test i Machine arch nr s at =
    subst (λ a. LeadsOn arch nr (Some (cond (holds test a i.k) (to i.jt i.jt Machine) (to i.jf i.jf Machine)))
    (Goes (cond (holds test s.a i.k) i.jt i.jf) s)) at
    (known_leads i Machine arch nr s (holds test s.a i.k) at)
tested_leads test i Other arch nr s at = test_leads test i Other arch nr s (holds test s.a i.k) at

-- where an instruction leads, by its operation
leads_by : (op : Option Operation) (r : Record) (i : Insn) (h : Holds) (s : Registers) → Held r.arch r.nr h s.a
    → LeadsOn r.arch r.nr (leads_of op i r.arch r.nr h) (perform_if op (words r) i s)
leads_by None r i h s at = tt
leads_by (Some LoadWord) r i h s at = load_leads r.arch r.nr i.k s (word_at (words r) i.k) (λ w e. word_held r i.k w e)
leads_by (Some LoadScratch) r i h s at = loaded_leads r.arch r.nr s (kept s i.k)
leads_by (Some LoadScratchX) r i h s at = loaded_x_leads r.arch r.nr h s (kept s i.k) at
leads_by (Some Store) r i h s at = (inl refl, at)
leads_by (Some StoreX) r i h s at = (inl refl, at)
leads_by (Some SetA) r i h s at = (inl refl, tt)
leads_by (Some SetX) r i h s at = (inl refl, at)
leads_by (Some ReturnK) r i h s at = tt
leads_by (Some ReturnA) r i h s at = tt
leads_by (Some Jump) r i h s at = (inl refl, at)
leads_by (Some (Branch test K)) r i h s at = tested_leads test i h r.arch r.nr s at
leads_by (Some (Branch test X)) r i h s at = test_leads test i h r.arch r.nr s (holds test s.a s.x) at
leads_by (Some (Compute f c)) r i h s at = (inl refl, tt)
leads_by (Some ShiftLeft) r i h s at = shift_leads r.arch r.nr _ s (nat_lt i.k 32)
leads_by (Some ShiftRight) r i h s at = shift_leads r.arch r.nr _ s (nat_lt i.k 32)
leads_by (Some Negate) r i h s at = (inl refl, tt)
leads_by (Some CopyToX) r i h s at = (inl refl, at)
leads_by (Some CopyToA) r i h s at = (inl refl, tt)

-- how many instructions were run
abbrev counts : Ending → ℕ
counts None = 0
counts (Some end) = end.1

-- a run has one end
no_end : (e : Ending) (end : ℕ × ℕ) → e ≡ None → e ≡ Some end → ⊥
no_end None end h g = cc
no_end (Some other) end h g = cc

one_end : (e : Ending) (w m word n : ℕ) → e ≡ Some (w, m) → e ≡ Some (word, n) → m ≡ n
one_end e w m word n h g = ap counts (sym h ∙ g)

-- no run has more instructions than the program
pub few : (p : List Insn) (pc : ℕ) (s : Registers) (r : List ℕ) (word n : ℕ) → ending p pc s r ≡ Some (word, n) → n ≤ length p
few [] pc s r word n h = cc
few (i ∷ p) (suc pc) s r word n h = let rest = few p pc s r word n h in omega arith
few (i ∷ p) zero s r word n h = by_step (step r i s) h (λ skip t w m e. few p skip t r w m e) where
  by_rest : (rest : Ending) → after_one rest ≡ Some (word, n) → ((w m : ℕ) → rest ≡ Some (w, m) → m ≤ length p) → n ≤ suc (length p)
  by_rest None g later = cc
  by_rest (Some (w, m)) g later =
      let within : m ≤ length p = later w m refl in
      let same : m + 1 ≡ n = ap counts g in
      omega arith

  by_step : (does : Step) → follow does (λ skip t. ending p skip t r) ≡ Some (word, n)
      → ((skip : ℕ) (t : Registers) (w m : ℕ) → ending p skip t r ≡ Some (w, m) → m ≤ length p) → n ≤ suc (length p)
  by_step (Ends w) g later = let same : 1 ≡ n = ap counts g in omega arith
  by_step (Goes skip t) g later = by_rest (ending p skip t r) g (λ w m e. later skip t w m e)
  by_step Stuck g later = cc

-- so many run from a position on, by where the instruction there leads
SpanBehind : List Insn → ℕ → ℕ → ℕ → Option Ways → Span → Type 0
SpanBehind p arch nr pc None span = (span.least ≤ 1) × (1 ≤ span.most)
SpanBehind p arch nr pc (Some ways) span =
    (one : Span) × (other : Span) × SpanFrom p arch nr (pc + 1 + ways.first) ways.holds one
    × SpanFrom p arch nr (pc + 1 + ways.second) ways.holds other × IsWithOne one other span

-- where an instruction leads on a record of the call
leads_on : (r : Record) (arch nr : ℕ) (i : Insn) (h : Holds) (s : Registers) → r.arch ≡ arch → r.nr ≡ nr → Held arch nr h s.a
    → LeadsOn arch nr (leads_of (operation_of i.code) i arch nr h) (step (words r) i s)
leads_on r arch nr i h s ra rn at =
    let there : Held r.arch r.nr h s.a = subst (λ a. Held a r.nr h s.a) (sym ra) (subst (λ m. Held arch m h s.a) (sym rn) at) in
    subst (λ a. LeadsOn a nr (leads_of (operation_of i.code) i a nr h) (step (words r) i s)) ra
    (subst (λ m. LeadsOn r.arch m (leads_of (operation_of i.code) i r.arch m h) (step (words r) i s)) rn
    (leads_by (operation_of i.code) r i h s there))

from_here : (p : List Insn) (arch nr pc : ℕ) (i : Insn) (h : Holds) (ways : Option Ways) (span : Span) → length p ≤ 4096
    → slice_get p pc ≡ Some i → leads_of (operation_of i.code) i arch nr h ≡ ways → SpanBehind p arch nr pc ways span
    → SpanFrom p arch nr pc h span
unfolding SpanBehind
from_here p arch nr pc i h ways span short found is behind r s word n ra rn at run =
    by_step ways (step (words r) i s) refl
    (subst (λ w. LeadsOn arch nr w (step (words r) i s)) is (leads_on r arch nr i h s ra rn at)) behind where
      by_rest : (ways : Ways) (skip : ℕ) (t : Registers) (rest : Ending) → ending p (pc + 1 + skip) t (words r) ≡ rest
          → after_one rest ≡ Some (word, n) → (skip ≡ ways.first) ⊎ (skip ≡ ways.second) → Held arch nr ways.holds t.a
          → (one other : Span) → SpanFrom p arch nr (pc + 1 + ways.first) ways.holds one → SpanFrom p arch nr (pc + 1 + ways.second) ways.holds other
          → IsWithOne one other span → (span.least ≤ n) × (n ≤ span.most)
      by_rest ways skip t None e g which held one other a b with = cc
      by_rest ways skip t (Some (w, m)) e g (inl same) held one other a b with =
          let bounds = a r t w m ra rn held (ap (λ k. ending p (pc + 1 + k) t (words r)) (sym same) ∙ e) in
          let size : m ≤ length p = few p (pc + 1 + skip) t (words r) w m e in
          let all : m + 1 ≡ n = ap counts g in
          let top : m + 1 ≤ span.most = with.most m (omega arith) (inl bounds.1) in
          (omega (arith, with.first, bounds.0), omega arith)
      by_rest ways skip t (Some (w, m)) e g (inr same) held one other a b with =
          let bounds = b r t w m ra rn held (ap (λ k. ending p (pc + 1 + k) t (words r)) (sym same) ∙ e) in
          let size : m ≤ length p = few p (pc + 1 + skip) t (words r) w m e in
          let all : m + 1 ≡ n = ap counts g in
          let top : m + 1 ≤ span.most = with.most m (omega arith) (inr bounds.1) in
          (omega (arith, with.second, bounds.0), omega arith)

      by_step : (ways : Option Ways) (does : Step) → step (words r) i s ≡ does → LeadsOn arch nr ways does
          → SpanBehind p arch nr pc ways span → (span.least ≤ n) × (n ≤ span.most)
      by_step ways Stuck e leads b =
          absurd (no_end (ending p pc s (words r)) (word, n) (ending_stuck p pc i s (words r) found e) run)
      by_step None (Ends w) e leads b =
          let one : 1 ≡ n = one_end (ending p pc s (words r)) w 1 word n (ending_ends p pc i s (words r) w found e) run in
          (omega (arith, b.0), omega (arith, b.1))
      by_step None (Goes skip t) e leads b = absurd leads
      by_step (Some ways) (Ends w) e leads b = absurd leads
      by_step (Some ways) (Goes skip t) e leads b =
          by_rest ways skip t (ending p (pc + 1 + skip) t (words r)) refl
          (sym (ending_goes p pc i s (words r) skip t (pc + 1 + skip) found e refl) ∙ run) leads.0 leads.1 b.0 b.1 b.2 b.3 b.4

-- an instruction that ends the run
pub from_end : (p : List Insn) (arch nr pc : ℕ) (i : Insn) (h : Holds) (span : Span) → length p ≤ 4096
    → slice_get p pc ≡ Some i → leads_of (operation_of i.code) i arch nr h ≡ None → span.least ≤ 1 → 1 ≤ span.most
    → SpanFrom p arch nr pc h span
unfolding SpanBehind
from_end p arch nr pc i h span short found is least most = from_here p arch nr pc i h None span short found is (least, most)

-- one that leads on
pub from_ways : (p : List Insn) (arch nr pc : ℕ) (i : Insn) (h : Holds) (ways : Ways) (one other span : Span) → length p ≤ 4096
    → slice_get p pc ≡ Some i → leads_of (operation_of i.code) i arch nr h ≡ Some ways
    → SpanFrom p arch nr (pc + 1 + ways.first) ways.holds one → SpanFrom p arch nr (pc + 1 + ways.second) ways.holds other
    → IsWithOne one other span → SpanFrom p arch nr pc h span
unfolding SpanBehind
from_ways p arch nr pc i h ways one other span short found is a b with =
    from_here p arch nr pc i h (Some ways) span short found is (one, other, a, b, with)

-- any number of instructions
pub any_span : (p : List Insn) (arch nr pc : ℕ) (h : Holds) (span : Span) → length p ≤ 4096 → span.least ≡ 0 → 4096 ≤ span.most
    → SpanFrom p arch nr pc h span
any_span p arch nr pc h span short least most r s word n ra rn at run =
    let size : n ≤ length p = few p pc s (words r) word n run in (omega arith, omega arith)

-- what a table has behind an instruction
pub covered : (p : List Insn) (arch nr pc skip j : ℕ) (table : List Spans) (spans : Spans) → Covers p arch nr table
    → length table + pc + 1 ≡ length p → slice_get table j ≡ Some spans → j + 1 + skip ≡ length table
    → AreSpans p arch nr (pc + 1 + skip) spans
covered p arch nr pc skip j table spans all size found place = all.each j (pc + 1 + skip) spans found (omega arith)

-- an empty table
pub covers_none : (p : List Insn) (arch nr : ℕ) → length p ≤ 4096 → Covers p arch nr []
covers_none p arch nr short = record {
  short = short;
  each = λ j pc spans found place. cc;
}

-- a last element
get_last : {A : Type 0} (xs : List A) (x y : A) (j : ℕ) → slice_get (xs ++ x ∷ []) j ≡ Some y
    → (slice_get xs j ≡ Some y) ⊎ ((j ≡ length xs) × (x ≡ y))
get_last [] x y zero h = inr (refl, cc)
get_last [] x y (suc j) h = cc
get_last (z ∷ xs) x y zero h = inl h
get_last (z ∷ xs) x y (suc j) h = elim (get_last xs x y j h) [
  | inl there ↦ inl there
  | inr last ↦ inr (ap suc last.0, last.1)
]

-- a table with one position more
pub covers_more : (p : List Insn) (arch nr pc : ℕ) (table : List Spans) (spans : Spans) → Covers p arch nr table
    → length table + pc + 1 ≡ length p → AreSpans p arch nr pc spans → Covers p arch nr (table ++ spans ∷ [])
covers_more p arch nr pc table spans all size here = record {
  short = all.short;
  each = λ j at other found place. elim (get_last table spans other j found) [
    | inl there ↦ all.each j at other there place
    | inr last ↦
        let same : pc ≡ at = omega (arith, last.0) in
        subst (AreSpans p arch nr at) last.1 (subst (λ k. AreSpans p arch nr k spans) same here)
  ];
}

-- the element at an index
pub at_index : {A : Type 0} (xs : List A) (i : ℕ) (d : A) → i < length xs → slice_get xs i ≡ Some (slice_index_or xs i d)
at_index xs i d h = slice_get-get_or xs i d h

-- what stands where a table has nothing
abbrev pub no_spans : Spans
no_spans = record {
  number = record { least = 0; most = 0 };
  machine = record { least = 0; most = 0 };
  other = record { least = 0; most = 0 };
}

-- what a table of a whole program has for its first position
pub at_first : (p : List Insn) (arch nr : ℕ) (table : List Spans) (d : Spans) → Covers p arch nr table → length table ≡ length p
    → 1 ≤ length table → SpanFrom p arch nr 0 Other (slice_index_or table (length table - 1) d).other
at_first p arch nr table d all size some =
    (all.each (length table - 1) 0 _ (at_index table (length table - 1) d (omega arith)) (omega arith)).other

-- what it has behind an instruction
pub at_later : (p : List Insn) (arch nr pc skip : ℕ) (table : List Spans) (d : Spans) → Covers p arch nr table
    → length table + pc + 1 ≡ length p → skip < length table
    → AreSpans p arch nr (pc + 1 + skip) (slice_index_or table (length table - 1 - skip) d)
at_later p arch nr pc skip table d all size near =
    covered p arch nr pc skip (length table - 1 - skip) table _ all size (at_index table (length table - 1 - skip) d (omega arith)) (omega arith)

-- a run from the first position on is a run
pub whole_span : (p : List Insn) (arch nr : ℕ) (span : Span) → SpanFrom p arch nr 0 Other span → IsSpan p arch nr span
whole_span p arch nr span from r word n ra rn gives = from r start word n ra rn tt gives

-- a list is longer by its last element
pub longer : {A : Type 0} (xs : List A) (x : A) → length (xs ++ x ∷ []) ≡ length xs + 1
longer [] x = refl
longer (y ∷ xs) x = let rest : length (xs ++ x ∷ []) ≡ length xs + 1 = longer xs x in omega arith
