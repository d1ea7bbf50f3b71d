-- Where the instructions of a program lead to, and what is unwritten there.
use Rattle.std.proofs.Common.{◌≡◌, ◌≢◌, ℕ, ◌+◌, ◌<◌, ◌≤◌, ◌⊎◌, ◌↔◌, inl, inr, List, length, refl, sym, subst, ◌∙◌, arith}
use Rattle.std.specs.Prelude.{Some, None, slice_get, Option}
use Rattle.std.proofs.lemmas.Bool.{cases_lt, cases_eq}
use Rattle.std.proofs.lemmas.Option.{slice_get_within}
use Rattle.bpf_insn.specs.declared.code.Operation.{Operation}
use Rattle.bpf_insn.specs.declared.code.Operation.TheVariants.{ReturnK, ReturnA, Jump, Branch}
use Rattle.bpf_insn.specs.declared.instruction.Insn.{Insn}
use Rattle.bpf_insn.specs.Bytes.{max_insns}
use Rattle.bpf_insn.specs.Code.{operation_of}
use Rattle.bpf_insn.specs.Causes.{ReadsScratch, IsPlain}
use Rattle.bpf_insn.proofs.PlainLaws.{plain-reads}
use Rattle.kernel_check.specs.declared.fault.Cause.TheVariants.{Code, Load, Shift, Target, End, Scratch}
use Rattle.kernel_check.specs.Accepted.{CauseAt, HasCause, LeadsOut}
use Rattle.kernel_check.specs.Paths.{LeadsTo, HandsOn, Unwritten}
use Rattle.kernel_check.specs.Paths.Unwritten.{at_first, handed_on}
use Rattle.kernel_check.specs.inner.Masks.{AreMasks, IsMarked, OnlyScratch}
use Rattle.kernel_check.proofs.AcceptLemmas.{at_insn}

-- where only Scratch stands no instruction has a cause of its own
pub plain_where : (p : List Insn) (pc : ℕ) (i : Insn) → OnlyScratch p → slice_get p pc ≡ Some i → IsPlain i
plain_where p pc i only found = record {
  listed = λ bad. let e : Code ≡ Scratch = only pc Code (i, found, bad) in cc;
  loads = λ bad. let e : Load ≡ Scratch = only pc Load (i, found, bad) in cc;
  shifts = λ bad. let e : Shift ≡ Scratch = only pc Shift (i, found, bad) in cc;
}

-- the operation is a return
Returns : Option Operation → Type 0
Returns op = (op ≡ Some ReturnK) ⊎ (op ≡ Some ReturnA)

-- the others are none
no_return : (op : Operation) → op ≢ ReturnK → op ≢ ReturnA → Returns (Some op) → ⊥
unfolding Returns
no_return op k a h = elim h [ inl e ↦ let f : op ≡ ReturnK = cc in k f | inr e ↦ let f : op ≡ ReturnA = cc in a f ]

-- an instruction that is not the last has a next one
falls : (n pc next : ℕ) → pc < n → (pc + 1 ≡ n → ⊥) → next ≡ pc + 1 → next < n
falls n pc next h never e =
    elim (cases_eq (pc + 1) n) [ inl at ↦ absurd (never at) | inr ne ↦ omega arith ]

-- a place that is not past the last instruction is of one
not_past : (n place next : ℕ) → (n ≤ place → ⊥) → next ≡ place → next < n
not_past n place next never e = elim (cases_lt place n) [ inl lt ↦ omega arith | inr le ↦ absurd (never le) ]

-- where an instruction leads to there is one, by its operation
inside_by : (op : Option Operation) (n pc : ℕ) (i : Insn) (next : ℕ)
    → pc < n → (LeadsOut op n pc i → ⊥) → (pc + 1 ≡ n → (Returns op → ⊥) → ⊥) → op ≢ None → LeadsTo op pc i next → next < n
inside_by None n pc i next h never ends listed to = absurd (listed refl)
inside_by (Some ReturnK) n pc i next h never ends listed to = absurd to
inside_by (Some ReturnA) n pc i next h never ends listed to = absurd to
inside_by (Some Jump) n pc i next h never ends listed to = not_past n (pc + 1 + i.k) next never to
inside_by (Some (Branch test c)) n pc i next h never ends listed to = elim to [
  | inl e ↦ not_past n (pc + 1 + i.jt) next (λ le. never (inl le)) e
  | inr e ↦ not_past n (pc + 1 + i.jf) next (λ le. never (inr le)) e
]
inside_by (Some op) n pc i next h never ends listed to = falls n pc next h (λ at. ends at (no_return op (λ f. cc) (λ f. cc))) to

-- where only Scratch stands an instruction leads to instructions
pub inside : (p : List Insn) (pc : ℕ) (i : Insn) (next : ℕ) → OnlyScratch p → slice_get p pc ≡ Some i
    → LeadsTo (operation_of i.code) pc i next → next < length p
unfolding Returns
inside p pc i next only found to =
    inside_by (operation_of i.code) (length p) pc i next (slice_get_within p pc i found)
    (λ out. let e : Target ≡ Scratch = only pc Target (i, found, out) in cc)
    (λ at never. let e : End ≡ Scratch = only pc End (i, found, (at, never)) in cc)
    (λ bad. let e : Code ≡ Scratch = only pc Code (i, found, bad) in cc) to

-- and to later ones
later_by : (op : Option Operation) (pc : ℕ) (i : Insn) (next : ℕ) → LeadsTo op pc i next → pc < next
later_by None pc i next to = omega arith
later_by (Some ReturnK) pc i next to = absurd to
later_by (Some ReturnA) pc i next to = absurd to
later_by (Some Jump) pc i next to = omega arith
later_by (Some (Branch test c)) pc i next to = elim to [ inl e ↦ omega arith | inr e ↦ omega arith ]
later_by (Some op) pc i next to = omega arith

-- of the next position the masks say all
pub marked : (p : List Insn) (masks : List ℕ) (i w : ℕ) → AreMasks p masks i → w < 16 → Unwritten p w i → IsMarked masks i w
marked p masks i w ok within at = by_path i at refl where
  by_path : (j : ℕ) → Unwritten p w j → j ≡ i → IsMarked masks i w
  by_path ℕ.zero at_first e = subst (λ m. IsMarked masks m w) e (ok.first w within)
  by_path there (handed_on before j insn un found on) e =
      let lt : before < j = later_by (operation_of insn.code) before insn j on.1 in
      subst (λ m. IsMarked masks m w) e (ok.handed before j w insn (omega arith) within un found on)

-- the first masks
pub first_ok : (p : List Insn) (masks : List ℕ) → length masks ≡ max_insns
    → ((j w : ℕ) → w < 16 → IsMarked masks j w ↔ (j ≡ 0)) → AreMasks p masks 0
first_ok p masks size exact = record {
  size = size;
  sound = λ j w within h. subst (Unwritten p w) (sym ((exact j w within).0 h)) at_first;
  first = λ w within. (exact 0 w within).1 refl;
  handed = λ i j w insn lt within un found on. absurd (omega arith);
}

-- one position more
pub handed_more : (p : List Insn) (old new : List ℕ) (i : ℕ) (insn : Insn) → slice_get p i ≡ Some insn → length new ≡ length old
    → ((j w : ℕ) → w < 16 → IsMarked new j w ↔ IsMarked old j w ⊎ (IsMarked old i w × HandsOn insn w i j))
    → AreMasks p old i → AreMasks p new (i + 1)
handed_more p old new i insn found size exact ok = record {
  size = size ∙ ok.size;
  sound = λ j w within h. elim ((exact j w within).0 h) [
    | inl was ↦ ok.sound j w within was
    | inr got ↦ handed_on i j insn (ok.sound i w within got.0) found got.1
  ];
  first = λ w within. (exact 0 w within).1 (inl (ok.first w within));
  handed = λ before j w other lt within un at on. elim (cases_lt before i) [
    | inl earlier ↦ (exact j w within).1 (inl (ok.handed before j w other earlier within un at on))
    | inr le ↦
        let e : before ≡ i = omega arith in
        let same : other ≡ insn = let there : slice_get p i ≡ Some other = subst (λ m. slice_get p m ≡ Some other) e at in cc in
        (exact j w within).1 (inr (
          marked p old i w ok within (subst (Unwritten p w) e un),
          subst (λ m. HandsOn insn w m j) e (subst (λ x. HandsOn x w before j) same on),
        ))
  ];
}

-- a read of a marked word is one of a word that may be unwritten
pub read_at : (p : List Insn) (masks : List ℕ) (i : ℕ) (insn : Insn) → AreMasks p masks i → OnlyScratch p → slice_get p i ≡ Some insn
    → ReadsScratch insn → IsMarked masks i insn.k → HasCause p i Scratch
read_at p masks i insn ok only found reads is =
    let within : insn.k < 16 = plain-reads insn (plain_where p i insn only found) reads in
    (insn, found, (reads, ok.sound i insn.k within is))

-- and where it is not marked it is none
pub no_read_more : (p : List Insn) (masks : List ℕ) (i : ℕ) (insn : Insn) → AreMasks p masks i → OnlyScratch p → slice_get p i ≡ Some insn
    → (ReadsScratch insn × IsMarked masks i insn.k → ⊥)
    → ((j : ℕ) → j < i → HasCause p j Scratch → ⊥) → (j : ℕ) → j < i + 1 → HasCause p j Scratch → ⊥
no_read_more p masks i insn ok only found never before j lt read =
    elim (cases_lt j i) [
      | inl earlier ↦ before j earlier read
      | inr le ↦
          let e : j ≡ i = omega arith in
          let here : CauseAt Scratch p i insn = at_insn p i insn Scratch found (subst (λ m. HasCause p m Scratch) e read) in
          let within : insn.k < 16 = plain-reads insn (plain_where p i insn only found) here.0 in
          never (here.0, marked p masks i insn.k ok within here.1)
    ]

-- so the first one that reads an unwritten word is found
pub least_read : (p : List Insn) (i : ℕ) → ((j : ℕ) → j < i → HasCause p j Scratch → ⊥) → (j : ℕ) → HasCause p j Scratch → i ≤ j
least_read p i none j read = elim (cases_lt j i) [ inl lt ↦ absurd (none j lt read) | inr le ↦ le ]

-- and none, where the positions are all
pub no_read : (p : List Insn) (n i : ℕ) → n ≡ length p → n ≤ i → ((j : ℕ) → j < i → HasCause p j Scratch → ⊥)
    → (j : ℕ) → HasCause p j Scratch → ⊥
no_read p n i size past none j read =
    let lt : j < length p = slice_get_within p j read.0 read.1 in none j (omega arith) read
