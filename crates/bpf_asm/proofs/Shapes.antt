-- The pieces of the forms, with their digits.
use Rattle.std.proofs.Common.{◌≡◌, ℕ, List, [], ◌∷◌, ◌++◌, refl, ap, sym}
use Rattle.std.specs.Prelude.{Some, None, option_and_then, map, codes}
use Rattle.std.specs.List.{AllByRecursion}
use Rattle.bpf_insn.specs.declared.code.Operand.TheVariants as operands
use Rattle.bpf_insn.specs.declared.code.Operation.{Operation}
use Rattle.bpf_insn.specs.declared.code.Operation.TheVariants as operations
use Rattle.bpf_asm.specs.declared.arguments.Arguments.TheVariants.{Nothing, One, Three, Four}
use Rattle.bpf_asm.specs.declared.line.Fields.{Fields}
use Rattle.bpf_asm.specs.declared.mnemonic.Mnemonic.{Mnemonic}
use Rattle.bpf_asm.specs.declared.mnemonic.Mnemonic.TheVariants.{Ld, Ldx, St, Stx, Ret, Ja, Branch, Compute, Lsh, Rsh, Neg, Tax, Txa, Raw}
use Rattle.bpf_asm.specs.Faults.{HasDigits}
use Rattle.bpf_asm.specs.Forms.{Address, Code, Constant, Decimal, Digits, Field, Form, Hexadecimal, Jf, Jt, K, Notation, Number}
use Rattle.bpf_asm.specs.Forms.{Piece, RegisterA, RegisterX, Scratch, line_text, notation_in, number_text, piece_text, pieces_of}
use Rattle.bpf_asm.specs.Forms.{rest_text, mnemonic_text}
use Rattle.bpf_asm.specs.inner.Mnemonics.{mnemonic_of, text_of}
use Rattle.bpf_asm.specs.inner.Reading.{fields_of}
use Rattle.bpf_asm.specs.inner.Written.{IsWritten, OfA, OfNumber, OfX, Written, arguments_of, fields_with, part_of, with_digits}
use Rattle.bpf_asm.specs.inner.Written.{written_text}
use Rattle.bpf_asm.proofs.Mnemonics.{text_of-mnemonic_of}
use Rattle.bpf_asm.proofs.Outcomes.{Shows}

-- a line of a mnemonic and pieces
abbrev pub whole : Mnemonic → List Written → List ℕ
whole w ps = text_of w ++ rest_text (map written_text ps)

texts_written : (d : Digits) (ps : List Piece) → map (piece_text d) ps ≡ map written_text (map (with_digits d) ps)
texts_written d [] = refl
texts_written d (RegisterA ∷ ps) = ap (λ t. codes "a" ∷ t) (texts_written d ps)
texts_written d (RegisterX ∷ ps) = ap (λ t. codes "x" ∷ t) (texts_written d ps)
texts_written d (Number notation field ∷ ps) = ap (λ t. number_text notation (d notation field) ∷ t) (texts_written d ps)

pub line_whole : (form : Form) (d : Digits) → line_text form d ≡ whole (mnemonic_of form) (map (with_digits d) (pieces_of form))
line_whole form d = λ x. sym (text_of-mnemonic_of form) x ++ rest_text (texts_written d (pieces_of form) x)

pub all_written : (d : Digits) (ps : List Piece) → AllByRecursion (HasDigits d) ps → AllByRecursion IsWritten (map (with_digits d) ps)
all_written d [] h = tt
all_written d (RegisterA ∷ ps) h = (tt, all_written d ps h.1)
all_written d (RegisterX ∷ ps) h = (tt, all_written d ps h.1)
all_written d (Number notation field ∷ ps) h = (h.0, all_written d ps h.1)

pub all_digits : (d : Digits) (ps : List Piece) → AllByRecursion IsWritten (map (with_digits d) ps) → AllByRecursion (HasDigits d) ps
all_digits d [] h = tt
all_digits d (RegisterA ∷ ps) h = (tt, all_digits d ps h.1)
all_digits d (RegisterX ∷ ps) h = (tt, all_digits d ps h.1)
all_digits d (Number notation field ∷ ps) h = (h.0, all_digits d ps h.1)

-- the code of an operation stands in no piece
pub no_code : (op : Operation) → notation_in (pieces_of (Some op)) Code ≡ None
no_code operations.LoadWord = refl
no_code operations.LoadScratch = refl
no_code operations.LoadScratchX = refl
no_code operations.Store = refl
no_code operations.StoreX = refl
no_code operations.SetA = refl
no_code operations.SetX = refl
no_code operations.ReturnK = refl
no_code operations.ReturnA = refl
no_code operations.Jump = refl
no_code (operations.Branch test operands.K) = refl
no_code (operations.Branch test operands.X) = refl
no_code (operations.Compute arithmetic operands.K) = refl
no_code (operations.Compute arithmetic operands.X) = refl
no_code operations.ShiftLeft = refl
no_code operations.ShiftRight = refl
no_code operations.Negate = refl
no_code operations.CopyToX = refl
no_code operations.CopyToA = refl

-- a line says no more than the digits of what it shows
same_pieces : (form : Form) (d e : Digits)
    → ((notation : Notation) (field : Field) → Shows form notation field → d notation field ≡ e notation field)
    → map (piece_text d) (pieces_of form) ≡ map (piece_text e) (pieces_of form)
same_pieces (Some operations.LoadWord) d e same = λ x. number_text Address (same Address K refl x) ∷ []
same_pieces (Some operations.LoadScratch) d e same = λ x. number_text Scratch (same Scratch K refl x) ∷ []
same_pieces (Some operations.LoadScratchX) d e same = λ x. number_text Scratch (same Scratch K refl x) ∷ []
same_pieces (Some operations.Store) d e same = λ x. number_text Scratch (same Scratch K refl x) ∷ []
same_pieces (Some operations.StoreX) d e same = λ x. number_text Scratch (same Scratch K refl x) ∷ []
same_pieces (Some operations.SetA) d e same = λ x. number_text Constant (same Constant K refl x) ∷ []
same_pieces (Some operations.SetX) d e same = λ x. number_text Constant (same Constant K refl x) ∷ []
same_pieces (Some operations.ReturnK) d e same = λ x. number_text Constant (same Constant K refl x) ∷ []
same_pieces (Some operations.ReturnA) d e same = refl
same_pieces (Some operations.Jump) d e same = λ x. number_text Decimal (same Decimal K refl x) ∷ []
same_pieces (Some (operations.Branch test operands.K)) d e same =
    λ x. number_text Constant (same Constant K refl x) ∷ same Decimal Jt refl x ∷ same Decimal Jf refl x ∷ []
same_pieces (Some (operations.Branch test operands.X)) d e same = λ x. codes "x" ∷ same Decimal Jt refl x ∷ same Decimal Jf refl x ∷ []
same_pieces (Some (operations.Compute arithmetic operands.K)) d e same = λ x. number_text Constant (same Constant K refl x) ∷ []
same_pieces (Some (operations.Compute arithmetic operands.X)) d e same = refl
same_pieces (Some operations.ShiftLeft) d e same = λ x. number_text Constant (same Constant K refl x) ∷ []
same_pieces (Some operations.ShiftRight) d e same = λ x. number_text Constant (same Constant K refl x) ∷ []
same_pieces (Some operations.Negate) d e same = refl
same_pieces (Some operations.CopyToX) d e same = refl
same_pieces (Some operations.CopyToA) d e same = refl
same_pieces None d e same =
    λ x. number_text Hexadecimal (same Hexadecimal Code refl x) ∷ same Decimal Jt refl x ∷ same Decimal Jf refl x
    ∷ number_text Hexadecimal (same Hexadecimal K refl x) ∷ []

pub same_line : (form : Form) (d e : Digits)
    → ((notation : Notation) (field : Field) → Shows form notation field → d notation field ≡ e notation field)
    → line_text form d ≡ line_text form e
same_line form d e same = λ x. line_with form (same_pieces form d e same x) where
  line_with : Form → List (List ℕ) → List ℕ
  line_with f ts = mnemonic_text f ++ rest_text ts

-- what is read of a form with digits
pub reads_form : (form : Form) (d : Digits)
    → option_and_then (fields_of (mnemonic_of form)) (arguments_of (map (with_digits d) (pieces_of form))) ≡ Some (fields_with form d)
reads_form (Some operations.LoadWord) d = refl
reads_form (Some operations.LoadScratch) d = refl
reads_form (Some operations.LoadScratchX) d = refl
reads_form (Some operations.Store) d = refl
reads_form (Some operations.StoreX) d = refl
reads_form (Some operations.SetA) d = refl
reads_form (Some operations.SetX) d = refl
reads_form (Some operations.ReturnK) d = refl
reads_form (Some operations.ReturnA) d = refl
reads_form (Some operations.Jump) d = refl
reads_form (Some (operations.Branch test operands.K)) d = refl
reads_form (Some (operations.Branch test operands.X)) d = refl
reads_form (Some (operations.Compute arithmetic operands.K)) d = refl
reads_form (Some (operations.Compute arithmetic operands.X)) d = refl
reads_form (Some operations.ShiftLeft) d = refl
reads_form (Some operations.ShiftRight) d = refl
reads_form (Some operations.Negate) d = refl
reads_form (Some operations.CopyToX) d = refl
reads_form (Some operations.CopyToA) d = refl
reads_form None d = refl

-- what is read is a form with digits
pub record Found (w : Mnemonic) (ps : List Written) : Type 0 where
  pub form : Form
  pub digits : Digits
  pub mnemonic : mnemonic_of form ≡ w
  pub pieces : map (with_digits digits) (pieces_of form) ≡ ps

of_form : (form : Form) (d : Digits) → Found (mnemonic_of form) (map (with_digits d) (pieces_of form))
of_form form d = record { form = form; digits = d; mnemonic = refl; pieces = refl }

abbrev no_digits : Digits
no_digits notation field = []

abbrev all_fields : List ℕ → Digits
all_fields ds notation field = ds

abbrev by_field : List ℕ → List ℕ → List ℕ → List ℕ → Digits
by_field code jt jf k notation Code = code
by_field code jt jf k notation Jt = jt
by_field code jt jf k notation Jf = jf
by_field code jt jf k notation K = k

found_none : (w : Mnemonic) (f : Fields) → fields_of w Nothing ≡ Some f → Found w []
found_none Neg f h = of_form (Some operations.Negate) no_digits
found_none Tax f h = of_form (Some operations.CopyToX) no_digits
found_none Txa f h = of_form (Some operations.CopyToA) no_digits
found_none w f h = absurd (cc)

found_one : (w : Mnemonic) (p : Written) (f : Fields) → fields_of w (One (part_of p)) ≡ Some f → Found w (p ∷ [])
found_one Ld (OfNumber Address ds) f h = of_form (Some operations.LoadWord) (all_fields ds)
found_one Ld (OfNumber Scratch ds) f h = of_form (Some operations.LoadScratch) (all_fields ds)
found_one Ldx (OfNumber Scratch ds) f h = of_form (Some operations.LoadScratchX) (all_fields ds)
found_one St (OfNumber Scratch ds) f h = of_form (Some operations.Store) (all_fields ds)
found_one Stx (OfNumber Scratch ds) f h = of_form (Some operations.StoreX) (all_fields ds)
found_one Ld (OfNumber Constant ds) f h = of_form (Some operations.SetA) (all_fields ds)
found_one Ldx (OfNumber Constant ds) f h = of_form (Some operations.SetX) (all_fields ds)
found_one Ret (OfNumber Constant ds) f h = of_form (Some operations.ReturnK) (all_fields ds)
found_one Ret OfA f h = of_form (Some operations.ReturnA) no_digits
found_one Ja (OfNumber Decimal ds) f h = of_form (Some operations.Jump) (all_fields ds)
found_one (Compute arithmetic) (OfNumber Constant ds) f h = of_form (Some (operations.Compute arithmetic operands.K)) (all_fields ds)
found_one (Compute arithmetic) OfX f h = of_form (Some (operations.Compute arithmetic operands.X)) no_digits
found_one Lsh (OfNumber Constant ds) f h = of_form (Some operations.ShiftLeft) (all_fields ds)
found_one Rsh (OfNumber Constant ds) f h = of_form (Some operations.ShiftRight) (all_fields ds)
found_one w p f h = absurd (cc)

found_three : (w : Mnemonic) (p q r : Written) (f : Fields) → fields_of w (Three (part_of p) (part_of q) (part_of r)) ≡ Some f
    → Found w (p ∷ q ∷ r ∷ [])
found_three (Branch test) (OfNumber Constant k) (OfNumber Decimal jt) (OfNumber Decimal jf) f h =
    of_form (Some (operations.Branch test operands.K)) (by_field [] jt jf k)
found_three (Branch test) OfX (OfNumber Decimal jt) (OfNumber Decimal jf) f h =
    of_form (Some (operations.Branch test operands.X)) (by_field [] jt jf [])
found_three w p q r f h = absurd (cc)

found_four : (w : Mnemonic) (p q r s : Written) (f : Fields)
    → fields_of w (Four (part_of p) (part_of q) (part_of r) (part_of s)) ≡ Some f → Found w (p ∷ q ∷ r ∷ s ∷ [])
found_four Raw (OfNumber Hexadecimal code) (OfNumber Decimal jt) (OfNumber Decimal jf) (OfNumber Hexadecimal k) f h =
    of_form None (by_field code jt jf k)
found_four w p q r s f h = absurd (cc)

pub found : (w : Mnemonic) (ps : List Written) (f : Fields) → option_and_then (fields_of w) (arguments_of ps) ≡ Some f → Found w ps
found w [] f h = found_none w f h
found w (p ∷ []) f h = found_one w p f h
found w (p ∷ q ∷ r ∷ []) f h = found_three w p q r f h
found w (p ∷ q ∷ r ∷ s ∷ []) f h = found_four w p q r s f h
found w ps f h = absurd (cc)
