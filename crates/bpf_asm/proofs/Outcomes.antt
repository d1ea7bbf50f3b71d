-- What becomes of a form and the digits of its numbers: an instruction, or a number that is bad.
use Rattle.std.proofs.Common.{◌≡◌, ℕ, ◌<◌, ◌≤◌, ◌^◌, Bool, true, false, cond, List, [], ◌∷◌, refl, ap, ◌∙◌, sym, subst, lit<, lit≤}
use Rattle.std.specs.Prelude.{Option, Some, None}
use Rattle.std.specs.List.{All, AllByRecursion}
use Rattle.std.specs.Fmt.{digits}
use Rattle.std.proofs.lemmas.List.Elements.{recursion_from_All}
use Rattle.std.proofs.lemmas.Option.{same_Some}
use Rattle.bpf_insn.specs.declared.code.Test.TheVariants.{Equal, Greater, AtLeast, AnyBit}
use Rattle.bpf_insn.specs.declared.code.Arithmetic.TheVariants.{Add, Sub, Or, And, Xor}
use Rattle.bpf_insn.specs.declared.code.Operand.TheVariants as operands
use Rattle.bpf_insn.specs.declared.code.Operation.{Operation}
use Rattle.bpf_insn.specs.declared.code.Operation.TheVariants as operations
use Rattle.bpf_insn.specs.declared.instruction.Insn.{Insn}
use Rattle.bpf_insn.specs.Bytes.{IsInsn}
use Rattle.bpf_insn.specs.Code.{code_of}
use Rattle.texts.specs.Digits.{are_digits}
use Rattle.bpf_asm.specs.Faults.{HasDigits, IsBadNumber}
use Rattle.bpf_asm.specs.Forms.{Code, Digits, Field, Form, Jf, Jt, K, Notation, Number, Piece, RegisterA, RegisterX, base_of}
use Rattle.bpf_asm.specs.Forms.{is_digit_of, is_same, notation_in, number_at, pieces_of, width_of}
use Rattle.bpf_asm.specs.Listing.{digits_of}
use Rattle.bpf_asm.specs.inner.Reading.{insn_of, insn_with, within}
use Rattle.bpf_asm.specs.inner.Written.{content, content_by, fields_with, fixed}
use Rattle.bpf_asm.proofs.Numerals as numerals
use Rattle.bpf_asm.proofs.Numerals.{Judged, judged_number, within_some}

pub code_small : (op : Operation) → code_of op < 2 ^ 16
code_small operations.LoadWord = lit< tt
code_small operations.LoadScratch = lit< tt
code_small operations.LoadScratchX = lit< tt
code_small operations.Store = lit< tt
code_small operations.StoreX = lit< tt
code_small operations.SetA = lit< tt
code_small operations.SetX = lit< tt
code_small operations.ReturnK = lit< tt
code_small operations.ReturnA = lit< tt
code_small operations.Jump = lit< tt
code_small (operations.Branch Equal operands.K) = lit< tt
code_small (operations.Branch Equal operands.X) = lit< tt
code_small (operations.Branch Greater operands.K) = lit< tt
code_small (operations.Branch Greater operands.X) = lit< tt
code_small (operations.Branch AtLeast operands.K) = lit< tt
code_small (operations.Branch AtLeast operands.X) = lit< tt
code_small (operations.Branch AnyBit operands.K) = lit< tt
code_small (operations.Branch AnyBit operands.X) = lit< tt
code_small (operations.Compute Add operands.K) = lit< tt
code_small (operations.Compute Add operands.X) = lit< tt
code_small (operations.Compute Sub operands.K) = lit< tt
code_small (operations.Compute Sub operands.X) = lit< tt
code_small (operations.Compute Or operands.K) = lit< tt
code_small (operations.Compute Or operands.X) = lit< tt
code_small (operations.Compute And operands.K) = lit< tt
code_small (operations.Compute And operands.X) = lit< tt
code_small (operations.Compute Xor operands.K) = lit< tt
code_small (operations.Compute Xor operands.X) = lit< tt
code_small operations.ShiftLeft = lit< tt
code_small operations.ShiftRight = lit< tt
code_small operations.Negate = lit< tt
code_small operations.CopyToX = lit< tt
code_small operations.CopyToA = lit< tt

no_jt : (code jf k : Option ℕ) → insn_with code None jf k ≡ None
no_jt None jf k = refl
no_jt (Some c) jf k = refl

no_jf : (code jt k : Option ℕ) → insn_with code jt None k ≡ None
no_jf None jt k = refl
no_jf (Some c) None k = refl
no_jf (Some c) (Some t) k = refl

no_k : (code jt jf : Option ℕ) → insn_with code jt jf None ≡ None
no_k None jt jf = refl
no_k (Some c) None jf = refl
no_k (Some c) (Some t) None = refl
no_k (Some c) (Some t) (Some f) = refl

-- a form shows a field in a notation
abbrev pub Shows : Form → Notation → Field → Type 0
Shows form notation field = notation_in (pieces_of form) field ≡ Some notation

abbrev pub IsBadAt : Digits → Notation → Field → Type 0
IsBadAt d notation field = IsBadNumber (base_of notation) (width_of field) (d notation field)

-- Each number that a form shows is of digits.

same_field : (a b : Field) → is_same a b ≡ true → a ≡ b
same_field Code Code h = refl
same_field Jt Jt h = refl
same_field Jf Jf h = refl
same_field K K h = refl
same_field a b h = absurd (cc)

digits_shown : (d : Digits) (ps : List Piece) → AllByRecursion (HasDigits d) ps → (field : Field) (notation : Notation)
    → notation_in ps field ≡ Some notation → are_digits (is_digit_of notation) (d notation field) ≡ true
digits_shown d [] each field notation shows = absurd (cc)
digits_shown d (RegisterA ∷ ps) each field notation shows = digits_shown d ps each.1 field notation shows
digits_shown d (RegisterX ∷ ps) each field notation shows = digits_shown d ps each.1 field notation shows
digits_shown d (Number own at ∷ ps) each field notation shows =
    by_same (is_same at field) refl (digits_shown d ps each.1 field notation) shows
  where
    by_same : (b : Bool) → is_same at field ≡ b
        → (notation_in ps field ≡ Some notation → are_digits (is_digit_of notation) (d notation field) ≡ true)
        → cond b (Some own) (notation_in ps field) ≡ Some notation → are_digits (is_digit_of notation) (d notation field) ≡ true
    by_same true e later h =
        let P : Notation → Type 0 = λ x. are_digits (is_digit_of x) (d x field) ≡ true in
        let Q : Field → Type 0 = λ x. are_digits (is_digit_of own) (d own x) ≡ true in
        subst P (same_Some own notation h) (subst Q (same_field at field e) each.0)
    by_same false e later h = later h

-- One field: its number is bad, or is one that the field holds.

data FieldJudged (form : Form) (d : Digits) (field : Field) : Type 0 where
  Bad : (notation : Notation) → Shows form notation field → IsBadAt d notation field
      → within (width_of field) (content form d field) ≡ None → FieldJudged form d field
  Good : (n : ℕ) → n < 2 ^ width_of field → within (width_of field) (content form d field) ≡ Some n
      → ((notation : Notation) → Shows form notation field
      → (d notation field ≡ digits (base_of notation) false n) × (IsBadAt d notation field → ⊥))
      → (notation_in (pieces_of form) field ≡ None → n ≡ fixed field form) → FieldJudged form d field

narrow : (field : Field) → 2 ^ width_of field ≤ 2 ^ 64
narrow Code = lit≤ tt
narrow Jt = lit≤ tt
narrow Jf = lit≤ tt
narrow K = lit≤ tt

fixed_small : (field : Field) (form : Form) → fixed field form < 2 ^ width_of field
fixed_small Code (Some op) = code_small op
fixed_small Code None = lit< tt
fixed_small Jt form = lit< tt
fixed_small Jf form = lit< tt
fixed_small K form = lit< tt

field_judged : (form : Form) (d : Digits) → AllByRecursion (HasDigits d) (pieces_of form) → (field : Field) → FieldJudged form d field
field_judged form d each field = by_notation (notation_in (pieces_of form) field) refl where
  read : (o : Option Notation) → notation_in (pieces_of form) field ≡ o
      → within (width_of field) (content form d field) ≡ within (width_of field) (content_by o form d field)
  read o is = ap (λ x. within (width_of field) (content_by x form d field)) is

  by_number : (notation : Notation) → Shows form notation field
      → Judged (base_of notation) (width_of field) (digits (base_of notation) false) (d notation field) → FieldJudged form d field
  by_number notation shows (numerals.Bad bad none) = Bad notation shows bad (read (Some notation) shows ∙ none)
  by_number notation shows (numerals.Good n fits found spelled not_bad) =
      let P : Notation → Type 0 = λ x. (d x field ≡ digits (base_of x) false n) × (IsBadAt d x field → ⊥) in
      Good n fits (read (Some notation) shows ∙ found)
      (λ other told. subst P (same_Some notation other (sym shows ∙ told)) (spelled, not_bad)) (λ hidden. absurd (cc))

  by_notation : (o : Option Notation) → notation_in (pieces_of form) field ≡ o → FieldJudged form d field
  by_notation (Some notation) shows =
      by_number notation shows
      (judged_number notation (width_of field) (d notation field) (narrow field)
      (digits_shown d (pieces_of form) each field notation shows))
  by_notation None hidden =
      Good (fixed field form) (fixed_small field form)
      (read None hidden ∙ within_some (width_of field) (fixed field form) (fixed_small field form))
      (λ notation shows. absurd (cc)) (λ h. refl)

-- All fields.

pub data Outcome (form : Form) (d : Digits) : Type 0 where
  Faulty : (field : Field) (notation : Notation) → Shows form notation field → IsBadAt d notation field
      → insn_of (fields_with form d) ≡ None → Outcome form d
  Made : (i : Insn) → insn_of (fields_with form d) ≡ Some i → IsInsn i
      → ((field : Field) (notation : Notation) → Shows form notation field
      → (d notation field ≡ digits_of i notation field) × (IsBadAt d notation field → ⊥))
      → ((field : Field) → notation_in (pieces_of form) field ≡ None → number_at field i ≡ fixed field form) → Outcome form d

together : (form : Form) (d : Digits)
    → FieldJudged form d Code → FieldJudged form d Jt → FieldJudged form d Jf → FieldJudged form d K → Outcome form d
together form d (Bad notation shows bad none) t f k =
    Faulty Code notation shows bad
    (ap (λ x. insn_with x (within 8 (content form d Jt)) (within 8 (content form d Jf)) (within 32 (content form d K))) none)
together form d (Good c fits_c found_c shown_c hidden_c) (Bad notation shows bad none) f k =
    Faulty Jt notation shows bad
    (ap (λ x. insn_with (within 16 (content form d Code)) x (within 8 (content form d Jf)) (within 32 (content form d K))) none
    ∙ no_jt (within 16 (content form d Code)) (within 8 (content form d Jf)) (within 32 (content form d K)))
together form d (Good c fits_c found_c shown_c hidden_c) (Good t fits_t found_t shown_t hidden_t) (Bad notation shows bad none) k =
    Faulty Jf notation shows bad
    (ap (λ x. insn_with (within 16 (content form d Code)) (within 8 (content form d Jt)) x (within 32 (content form d K))) none
    ∙ no_jf (within 16 (content form d Code)) (within 8 (content form d Jt)) (within 32 (content form d K)))
together form d (Good c fits_c found_c shown_c hidden_c) (Good t fits_t found_t shown_t hidden_t) (Good f fits_f found_f shown_f hidden_f)
    (Bad notation shows bad none) =
    Faulty K notation shows bad
    (ap (λ x. insn_with (within 16 (content form d Code)) (within 8 (content form d Jt)) (within 8 (content form d Jf)) x) none
    ∙ no_k (within 16 (content form d Code)) (within 8 (content form d Jt)) (within 8 (content form d Jf)))
together form d (Good c fits_c found_c shown_c hidden_c) (Good t fits_t found_t shown_t hidden_t) (Good f fits_f found_f shown_f hidden_f)
    (Good k fits_k found_k shown_k hidden_k) =
    Made own (λ x. insn_with (found_c x) (found_t x) (found_f x) (found_k x))
    (record { code = fits_c; jt = fits_t; jf = fits_f; k = fits_k }) shown hidden
  where
    own : Insn
    own = record { code = c; jt = t; jf = f; k = k }

    shown : (field : Field) (notation : Notation) → Shows form notation field
        → (d notation field ≡ digits_of own notation field) × (IsBadAt d notation field → ⊥)
    shown Code notation shows = shown_c notation shows
    shown Jt notation shows = shown_t notation shows
    shown Jf notation shows = shown_f notation shows
    shown K notation shows = shown_k notation shows

    hidden : (field : Field) → notation_in (pieces_of form) field ≡ None → number_at field own ≡ fixed field form
    hidden Code none = hidden_c none
    hidden Jt none = hidden_t none
    hidden Jf none = hidden_f none
    hidden K none = hidden_k none

pub outcome : (form : Form) (d : Digits) → All (HasDigits d) (pieces_of form) → Outcome form d
outcome form d each =
    let judged = field_judged form d (recursion_from_All (HasDigits d) (pieces_of form) each) in
    together form d (judged Code) (judged Jt) (judged Jf) (judged K)
