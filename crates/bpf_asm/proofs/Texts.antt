-- A text, line by line.
use Rattle.std.proofs.Common.{◌≡◌, ℕ, zero, suc, ◌+◌, ◌/◌, ◌%◌, ◌<◌, ◌≤◌, ◌^◌, cond, List, [], ◌∷◌, ◌++◌, length, refl, ap, sym}
use Rattle.std.proofs.Common.{◌∙◌, subst, arith, inl, inr}
use Rattle.std.specs.Prelude.{Option, Some, None, Result, Ok, Err, nat_lt, slice_index, unwrap_or}
use Rattle.std.specs.Result.{result_err}
use Rattle.std.proofs.lemmas.List.{append_assoc, append-nil, length-append}
use Rattle.std.proofs.lemmas.Grind.{flat_map-append}
use Rattle.std.proofs.lemmas.List.Elements.{All-append, All-cons, All-head, All-nil, All-tail}
use Rattle.std.proofs.lemmas.Bool.{le-ltb, lt-ltb}
use Rattle.std.proofs.lemmas.Bool.Decides.{nat_tests}
use Rattle.std.proofs.lemmas.Option.{same_Some}
use Rattle.bpf_insn.specs.declared.instruction.Insn.{Insn}
use Rattle.bpf_insn.specs.Bytes.{AreBytes, AreInsns, IsInsn, insns_of, max_insns, spelling, view_fault}
use Rattle.bpf_insn.proofs.BytesLemmas.{are_insns-insns_of, length-insns_of, spelling-insns_of}
use Rattle.bpf_asm.specs.declared.fault.AsmError.{AsmError}
use Rattle.bpf_asm.specs.declared.fault.AsmError.TheVariants.{Line, OutOfMemory}
use Rattle.bpf_asm.specs.declared.fault.LineFault.{LineFault}
use Rattle.bpf_asm.specs.declared.fault.LineFault.TheVariants.{UnknownWord, BadNumber, TooLong, BadLine}
use Rattle.texts.specs.Lines.{line_feed}
use Rattle.texts.specs.Splits.{split_at}
use Rattle.bpf_asm.specs.Listing.{line_of, listing}
use Rattle.bpf_asm.specs.Faults.{AtItsEnd, BeyondLimit, Explains, FaultAt, FaultStands, HasFault, InLine, NoLine, first_line}
use Rattle.bpf_asm.specs.inner.Mnemonics.{mnemonic_at}
use Rattle.bpf_asm.specs.inner.Reading.{first_part, line_at}
use Rattle.texts.proofs.Splits.{Lacks, split_at_first, split_at_none, split_at_sound}
use Rattle.bpf_asm.proofs.Lines.{LineJudged, Unknown, Shapeless, BadNumbers, NeedlesslyRaw, Reads, before_first-split, fault_told}
use Rattle.bpf_asm.proofs.Lines.{lacks-line_of, line_at-line_of, line_judged, line_of_injective}

-- One line.

ok_err : (x : Insn) (f : LineFault) (r : Result Insn LineFault) → r ≡ Ok x → r ≡ Err f → ⊥
ok_err x f r h k = cc

-- a line that is read is the line of the instruction
pub line_ok : (own : List ℕ) (i : Insn) → line_at own ≡ Ok i → IsInsn i × (line_of i ≡ own)
line_ok own i h = by_case (line_judged own) where
  same_ok : (x y : Insn) (r : Result Insn LineFault) → r ≡ Ok x → r ≡ Ok y → x ≡ y
  same_ok x y r g k = cc

  by_case : LineJudged own → IsInsn i × (line_of i ≡ own)
  by_case (Unknown fault e) = absurd (ok_err i UnknownWord (line_at own) h e)
  by_case (Shapeless fault e) = absurd (ok_err i BadLine (line_at own) h e)
  by_case (BadNumbers fault e) = absurd (ok_err i BadNumber (line_at own) h e)
  by_case (NeedlesslyRaw fault e) = absurd (ok_err i BadLine (line_at own) h e)
  by_case (Reads j fits text e) =
      let P : Insn → Type 0 = λ x. IsInsn x × (line_of x ≡ own) in
      subst P (same_ok j i (line_at own) e h) (fits, text)

-- and one that is not has the fault that is told
line_err : (own : List ℕ) (f : LineFault) → line_at own ≡ Err f → HasFault f own
line_err own f h = by_case (line_judged own) where
  same_err : (g k : LineFault) (r : Result Insn LineFault) → r ≡ Err g → r ≡ Err k → g ≡ k
  same_err g k r a b = cc

  at : (g : LineFault) → line_at own ≡ Err g → HasFault g own → HasFault f own
  at g e k = let P : LineFault → Type 0 = λ x. HasFault x own in subst P (same_err g f (line_at own) e h) k

  by_case : LineJudged own → HasFault f own
  by_case (Unknown fault e) = at UnknownWord e fault
  by_case (Shapeless fault e) = at BadLine e (inl fault)
  by_case (BadNumbers fault e) = at BadNumber e fault
  by_case (NeedlesslyRaw fault e) = at BadLine e (inr fault)
  by_case (Reads j fits text e) = absurd (ok_err j f (line_at own) e h)

no_fault : (f : LineFault) (i : Insn) → IsInsn i → HasFault f (line_of i) → ⊥
no_fault f i fits h = ok_err i f (line_at (line_of i)) (line_at-line_of i fits) (fault_told f (line_of i) h)

empty_line : line_at [] ≡ Err UnknownWord
unfolding line_at mnemonic_at
empty_line = refl

some_line : (i : Insn) → IsInsn i → line_of i ≡ [] → ⊥
some_line i fits none = ok_err i UnknownWord (line_at (line_of i)) (line_at-line_of i fits) (ap line_at none ∙ empty_line)

first_line-cut : (rest : List ℕ) (parts : List ℕ × List ℕ) → split_at line_feed rest ≡ Some parts → first_line rest ≡ parts.0
first_line-cut rest parts cut = before_first-split line_feed rest ∙ ap (first_part rest) cut

first_line-unended : (rest : List ℕ) → split_at line_feed rest ≡ None → first_line rest ≡ rest
first_line-unended rest cut = before_first-split line_feed rest ∙ ap (first_part rest) cut

first_line-line : (i : Insn) (after : List ℕ) → IsInsn i → first_line (line_of i ++ line_feed ∷ after) ≡ line_of i
first_line-line i after fits =
    first_line-cut (line_of i ++ line_feed ∷ after) (line_of i, after) (split_at_first line_feed (line_of i) after (lacks-line_of i fits))

some_cut : (rest : List ℕ) (parts : List ℕ × List ℕ) → split_at line_feed rest ≡ Some parts → 0 < length rest
some_cut [] parts h = absurd (cc)
some_cut (b ∷ rest) parts h = omega arith

-- Where a fault is told.

-- the lines before a line of a text
pub record IsAfter (text : List ℕ) (before : List Insn) (n : ℕ) (rest : List ℕ) : Type 0 where
  pub each : AreInsns before
  pub split : text ≡ listing before ++ rest
  pub count : n ≡ length before + 1
  pub few : length before ≤ max_insns

told : (text : List ℕ) (before : List Insn) (rest : List ℕ) (n : ℕ) (f : LineFault) → IsAfter text before n rest → FaultStands f n rest
    → FaultAt text n f
told text before rest n f after stands =
    record {
      before = before;
      each = after.each;
      few = after.few;
      rest = rest;
      split = after.split;
      count = after.count;
      stands = stands;
    }

pub at_line : (text : List ℕ) (before : List Insn) (rest own after : List ℕ) (n : ℕ) (f : LineFault) → IsAfter text before n rest
    → n ≤ max_insns
    → split_at line_feed rest ≡ Some (own, after) → line_at own ≡ Err f → FaultAt text n f
at_line text before rest own after n f is limit cut fault =
    let P : List ℕ → Type 0 = HasFault f in
    told text before rest n f is
    (InLine (some_cut rest (own, after) cut) limit (subst P (sym (first_line-cut rest (own, after) cut)) (line_err own f fault)))

-- the last line, which lacks its line feed, is read as one that has it, and told if it is read
pub at_last : (text : List ℕ) (before : List Insn) (rest : List ℕ) (n : ℕ)
    (r : Result Insn LineFault) (o : Option LineFault) (f : LineFault)
    → IsAfter text before n rest → n ≤ max_insns → 0 < length rest → split_at line_feed rest ≡ None
    → line_at rest ≡ r → o ≡ result_err r → f ≡ unwrap_or o BadLine → FaultAt text n f
at_last text before rest n (Err g) o f is limit some cut read e h =
    let same : f ≡ g = h ∙ ap (λ x. unwrap_or x BadLine) e in
    let P : List ℕ → Type 0 = HasFault f in
    told text before rest n f is
    (InLine some limit (subst P (sym (first_line-unended rest cut)) (line_err rest f (read ∙ ap (λ x. Err x) (sym same)))))
at_last text before rest n (Ok i) o f is limit some cut read e h =
    let own = line_ok rest i read in
    told text before rest n f is
    (AtItsEnd limit (record { insn = i; fields = own.0; line = sym own.1 }) (h ∙ ap (λ x. unwrap_or x BadLine) e))

pub at_limit : (text : List ℕ) (before : List Insn) (rest : List ℕ) (n : ℕ) → IsAfter text before n rest → max_insns < n → 0 < length rest
    → FaultAt text n TooLong
at_limit text before rest n is beyond some =
    told text before rest n TooLong is (BeyondLimit some (let few = is.few in let count = is.count in omega arith) refl)

pub at_nothing : (text : List ℕ) → text ≡ [] → FaultAt text 1 BadLine
at_nothing text none =
    told text [] [] 1 BadLine (record { each = All-nil IsInsn; split = none; count = refl; few = omega arith }) (NoLine refl refl refl)

-- one line more
pub one_more : (text : List ℕ) (before : List Insn) (i : Insn) (rest own after : List ℕ)
    → text ≡ listing before ++ rest → split_at line_feed rest ≡ Some (own, after) → line_of i ≡ own
    → text ≡ listing (before ++ i ∷ []) ++ after
one_more text before i rest own after split cut line =
    let front : List ℕ = listing before in
    let ended : List ℕ = line_of i ++ line_feed ∷ [] in
    let cut_there : rest ≡ ended ++ after =
    (split_at_sound line_feed rest (own, after) cut).0 ∙ ap (λ t. t ++ line_feed ∷ after) (sym line)
    ∙ sym (append_assoc (line_of i) (line_feed ∷ []) after) in
    let longer : listing (before ++ i ∷ []) ≡ front ++ ended =
    flat_map-append (λ j. line_of j ++ line_feed ∷ []) before (i ∷ []) ∙ ap (λ t. front ++ t) (append-nil ended) in
    split ∙ ap (λ t. front ++ t) cut_there ∙ sym (append_assoc front ended after) ∙ ap (λ t. t ++ after) (sym longer)

pub more_insns : (before : List Insn) (i : Insn) → AreInsns before → IsInsn i → AreInsns (before ++ i ∷ [])
more_insns before i each fits = All-append IsInsn before (i ∷ []) each (All-cons IsInsn i [] fits (All-nil IsInsn))

-- Two ways to begin one text by lines of instructions.

same_front : (a b x y : List ℕ) → Lacks line_feed a → Lacks line_feed b → a ++ line_feed ∷ x ≡ b ++ line_feed ∷ y → (a ≡ b) × (x ≡ y)
same_front a b x y la lb e =
    let same = sym (split_at_first line_feed a x la) ∙ ap (split_at line_feed) e ∙ split_at_first line_feed b y lb in
    let parts = same_Some (a, x) (b, y) same in
    (ap (λ (z : List ℕ × List ℕ). z.0) parts, ap (λ (z : List ℕ × List ℕ). z.1) parts)

data Aligned (p q : List Insn) (r s : List ℕ) : Type 0 where
  Same : p ≡ q → r ≡ s → Aligned p q r s
  Longer : (i : Insn) (t : List Insn) (after : List ℕ) → IsInsn i → p ≡ q ++ i ∷ t → s ≡ line_of i ++ line_feed ∷ after → Aligned p q r s
  Shorter : (i : Insn) (t : List Insn) (after : List ℕ) → IsInsn i → q ≡ p ++ i ∷ t → r ≡ line_of i ++ line_feed ∷ after → Aligned p q r s

one_longer : (i : Insn) (p q : List Insn) (r s : List ℕ) → Aligned p q r s → Aligned (i ∷ p) (i ∷ q) r s
one_longer i p q r s (Same e f) = Same (ap (λ t. i ∷ t) e) f
one_longer i p q r s (Longer j t after fits e f) = Longer j t after fits (ap (λ x. i ∷ x) e) f
one_longer i p q r s (Shorter j t after fits e f) = Shorter j t after fits (ap (λ x. i ∷ x) e) f

line_front : (i : Insn) (p : List Insn) (r : List ℕ) → listing (i ∷ p) ++ r ≡ line_of i ++ line_feed ∷ (listing p ++ r)
line_front i p r =
    append_assoc (line_of i ++ line_feed ∷ []) (listing p) r ∙ append_assoc (line_of i) (line_feed ∷ []) (listing p ++ r)

aligned : (p q : List Insn) (r s : List ℕ) → AreInsns p → AreInsns q → listing p ++ r ≡ listing q ++ s → Aligned p q r s
aligned [] [] r s each own e = Same refl e
aligned (i ∷ p) [] r s each own e = Longer i p (listing p ++ r) (All-head IsInsn i p each) refl (sym e ∙ line_front i p r)
aligned [] (j ∷ q) r s each own e = Shorter j q (listing q ++ s) (All-head IsInsn j q own) refl (e ∙ line_front j q s)
aligned (i ∷ p) (j ∷ q) r s each own e =
    let fits = All-head IsInsn i p each in
    let fits_j = All-head IsInsn j q own in
    let fronts = same_front (line_of i) (line_of j) (listing p ++ r) (listing q ++ s) (lacks-line_of i fits) (lacks-line_of j fits_j)
    (sym (line_front i p r) ∙ e ∙ line_front j q s) in
    let more = one_longer i p q r s (aligned p q r s (All-tail IsInsn i p each) (All-tail IsInsn j q own) fronts.1) in
    let P : Insn → Type 0 = λ x. Aligned (i ∷ p) (x ∷ q) r s in
    subst P (line_of_injective i j fits fits_j fronts.0) more

some_text : (own rest : List ℕ) → own ++ line_feed ∷ rest ≡ [] → ⊥
some_text own rest e = let l = ap length e in omega (arith, simp length-append at l)

pub listing_injective : (p q : List Insn) → AreInsns p → AreInsns q → listing p ≡ listing q → p ≡ q
listing_injective p q each own e = by_case (aligned p q [] [] each own (append-nil (listing p) ∙ e ∙ sym (append-nil (listing q)))) where
  by_case : Aligned p q [] [] → p ≡ q
  by_case (Same same rest) = same
  by_case (Longer i t after fits same rest) = absurd (some_text (line_of i) after (sym rest))
  by_case (Shorter i t after fits same rest) = absurd (some_text (line_of i) after (sym rest))

-- A fault stands in one line, and excludes each listing.

ended_by_feed : (own rest : List ℕ) → Lacks line_feed (own ++ line_feed ∷ rest) → ⊥
ended_by_feed [] rest h = h.0 refl
ended_by_feed (b ∷ own) rest h = ended_by_feed own rest h.1

-- in the line of an instruction none stands but that it is one too many
at_insn : (f : LineFault) (n : ℕ) (rest : List ℕ) (i : Insn) (after : List ℕ) → IsInsn i → rest ≡ line_of i ++ line_feed ∷ after
    → FaultStands f n rest → n ≡ max_insns + 1
at_insn f n rest i after fits text (BeyondLimit some limit e) = limit
at_insn f n rest i after fits text (InLine some limit fault) =
    let P : List ℕ → Type 0 = HasFault f in
    absurd (no_fault f i fits (subst P (ap first_line text ∙ first_line-line i after fits) fault))
at_insn f n rest i after fits text (AtItsEnd limit unended e) =
    let P : List ℕ → Type 0 = Lacks line_feed in
    absurd (ended_by_feed (line_of i) after (subst P (sym unended.line ∙ text) (lacks-line_of unended.insn unended.fields)))
at_insn f n rest i after fits text (NoLine none first e) = absurd (some_text (line_of i) after (sym text ∙ none))

at_end : (f : LineFault) (n : ℕ) → FaultStands f n [] → n ≡ 1
at_end f n (BeyondLimit some limit e) = absurd (omega arith)
at_end f n (InLine some limit fault) = absurd (omega arith)
at_end f n (AtItsEnd limit unended e) = absurd (some_line unended.insn unended.fields (sym unended.line))
at_end f n (NoLine none first e) = first

pub no_program : (text : List ℕ) (n : ℕ) (f : LineFault) → FaultAt text n f
    → (p : List Insn) → AreInsns p → 1 ≤ length p → length p ≤ max_insns → listing p ≡ text → ⊥
no_program text n f h p each some limit e = by_case (aligned p h.before [] h.rest each h.each (append-nil (listing p) ∙ e ∙ h.split)) where
  counted : n ≡ length h.before + 1
  counted = h.count

  by_case : Aligned p h.before [] h.rest → ⊥
  by_case (Same same rest) =
      let P : List ℕ → Type 0 = FaultStands f n in
      let first = at_end f n (subst P (sym rest) h.stands) in
      let l = ap length same in
      omega (arith, counted)
  by_case (Longer i t after fits same rest) =
      let last = at_insn f n h.rest i after fits rest h.stands in
      let l = ap length same in
      omega (arith, counted, simp length-append at l)
  by_case (Shorter i t after fits same rest) = some_text (line_of i) after (sym rest)

-- the fault that is told of a line: it is one too many, there is none, or what is wrong with it
abbrev fault_of : Result Insn LineFault → LineFault
fault_of (Ok i) = BadLine
fault_of (Err f) = f

abbrev fault_at : ℕ → List ℕ → LineFault
fault_at n [] = BadLine
fault_at n (b ∷ rest) = cond (nat_lt max_insns n) TooLong (fault_of (line_at (first_line (b ∷ rest))))

within_limit : (n : ℕ) (b : ℕ) (rest : List ℕ) → n ≤ max_insns → fault_at n (b ∷ rest) ≡ fault_of (line_at (first_line (b ∷ rest)))
within_limit n b rest limit = ap (λ t. cond t TooLong (fault_of (line_at (first_line (b ∷ rest))))) (le-ltb max_insns n limit)

stands_told : (f : LineFault) (n : ℕ) (rest : List ℕ) → FaultStands f n rest → f ≡ fault_at n rest
stands_told f n [] (BeyondLimit some limit e) = absurd (omega arith)
stands_told f n [] (InLine some limit fault) = absurd (omega arith)
stands_told f n [] (AtItsEnd limit unended e) = e
stands_told f n [] (NoLine none first e) = e
stands_told f n (b ∷ rest) (BeyondLimit some limit e) =
    e ∙ sym (ap (λ t. cond t TooLong (fault_of (line_at (first_line (b ∷ rest))))) (lt-ltb max_insns n (omega arith)))
stands_told f n (b ∷ rest) (InLine some limit fault) =
    sym (within_limit n b rest limit ∙ ap fault_of (fault_told f (first_line (b ∷ rest)) fault))
stands_told f n (b ∷ rest) (AtItsEnd limit unended e) =
    let i = unended.insn in
    let cut = ap (split_at line_feed) unended.line ∙ split_at_none line_feed (line_of i) (lacks-line_of i unended.fields) in
    let read = ap line_at (first_line-unended (b ∷ rest) cut ∙ unended.line) ∙ line_at-line_of i unended.fields in
    e ∙ sym (within_limit n b rest limit ∙ ap fault_of read)
stands_told f n (b ∷ rest) (NoLine none first e) = absurd (cc)

pub one_fault : (text : List ℕ) (n m : ℕ) (f g : LineFault) → FaultAt text n f → FaultAt text m g → (n ≡ m) × (f ≡ g)
one_fault text n m f g h k = by_case (aligned h.before k.before h.rest k.rest h.each k.each (sym h.split ∙ k.split)) where
  counted : n ≡ length h.before + 1
  counted = h.count

  counted_k : m ≡ length k.before + 1
  counted_k = k.count

  by_case : Aligned h.before k.before h.rest k.rest → (n ≡ m) × (f ≡ g)
  by_case (Same same rest) =
      let line : n ≡ m = let l = ap length same in omega (arith, counted, counted_k) in
      (line, stands_told f n h.rest h.stands ∙ (λ x. fault_at (line x) (rest x)) ∙ sym (stands_told g m k.rest k.stands))
  by_case (Longer i t after fits same rest) =
      let last = at_insn g m k.rest i after fits rest k.stands in
      let few = h.few in
      let l = ap length same in
      absurd (omega (arith, counted_k, simp length-append at l))
  by_case (Shorter i t after fits same rest) =
      let last = at_insn f n h.rest i after fits rest h.stands in
      let few = k.few in
      let l = ap length same in
      absurd (omega (arith, counted, simp length-append at l))

-- Bytes.

each_byte : (bytes : List ℕ) → AreBytes bytes → (i : ℕ) → slice_index bytes i < 256
each_byte [] h i = omega arith
each_byte (b ∷ bytes) h zero = All-head (λ x. x < 2 ^ 8) b bytes h
each_byte (b ∷ bytes) h (suc i) = each_byte bytes (All-tail (λ x. x < 2 ^ 8) b bytes h) i

whole : (bytes : List ℕ) → view_fault bytes ≡ None → length bytes % 8 ≡ 0
whole bytes h = grind (arith, nat_tests)

pub program_size : (bytes : List ℕ) → view_fault bytes ≡ None → (1 ≤ length (insns_of bytes)) × (length (insns_of bytes) ≤ max_insns)
program_size bytes h = let whole_insns = whole bytes h in sized (length (insns_of bytes)) (length-insns_of bytes) whole_insns h where
  sized : (n : ℕ) → n ≡ length bytes / 8 → length bytes % 8 ≡ 0 → view_fault bytes ≡ None → (1 ≤ n) × (n ≤ max_insns)
  sized n e w v = (grind (arith, nat_tests), grind (arith, nat_tests))

-- what is given is the one program whose listing the text is
pub only_bytes : (text : List ℕ) (insns : List Insn) (given bytes : List ℕ) → AreInsns insns → listing insns ≡ text → given ≡ spelling insns
    → AreBytes bytes → view_fault bytes ≡ None → listing (insns_of bytes) ≡ text → given ≡ bytes
only_bytes text insns given bytes each own spelled are whole_bytes e =
    let same = listing_injective insns (insns_of bytes) each (are_insns-insns_of bytes (each_byte bytes are)) (own ∙ sym e) in
    spelled ∙ ap spelling same ∙ spelling-insns_of bytes (each_byte bytes are) (whole bytes whole_bytes)

-- no error but want of memory comes where the text is a listing
pub only_memory : (text : List ℕ) (e : AsmError) (bytes : List ℕ) → Explains text e → AreBytes bytes → view_fault bytes ≡ None
    → listing (insns_of bytes) ≡ text → e ≡ OutOfMemory
only_memory text (Line line fault) bytes h are whole_bytes t =
    let size = program_size bytes whole_bytes in
    absurd (no_program text line fault h (insns_of bytes) (are_insns-insns_of bytes (each_byte bytes are)) size.0 size.1 t)
only_memory text OutOfMemory bytes h are whole_bytes t = refl

pub shorter : (rest own after : List ℕ) → split_at line_feed rest ≡ Some (own, after) → length after < length rest
shorter rest own after cut =
    let l = ap length (split_at_sound line_feed rest (own, after) cut).0 in
    omega (arith, simp length-append at l)
