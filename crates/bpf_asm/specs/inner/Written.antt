-- The pieces of a line with the digits that stand there, and what is read of them.
use Rattle.std.specs.Prelude.{ℕ, ◌≡◌, true, List, [], ◌∷◌, Option, Some, None, ⊤, codes}
use Rattle.texts.specs.Digits.{are_digits}
use Rattle.texts.specs.Numbers.{number_of}
use Rattle.bpf_insn.specs.Code.{code_of}
use Rattle.bpf_asm.specs.declared.arguments.Part.{Part}
use Rattle.bpf_asm.specs.declared.arguments.Part.TheVariants as parts
use Rattle.bpf_asm.specs.declared.arguments.Arguments.{Arguments}
use Rattle.bpf_asm.specs.declared.arguments.Arguments.TheVariants.{Nothing, One, Three, Four}
use Rattle.bpf_asm.specs.declared.line.Fields.{Fields}
use Rattle.bpf_asm.specs.Forms.{Address, Code, Constant, Decimal, Digits, Field, Form, Hexadecimal, Jf, Jt, K, Notation, Number}
use Rattle.bpf_asm.specs.Forms.{Piece, RegisterA, RegisterX, Scratch, base_of, is_digit_of, notation_in, number_text, pieces_of}

pub data Written : Type 0 where
  OfA : Written
  OfX : Written
  OfNumber : (notation : Notation) → (digits : List ℕ) → Written

abbrev pub written_text : Written → List ℕ
written_text OfA = codes "a"
written_text OfX = codes "x"
written_text (OfNumber notation digits) = number_text notation digits

abbrev pub IsWritten : Written → Type 0
IsWritten OfA = ⊤
IsWritten OfX = ⊤
IsWritten (OfNumber notation digits) = are_digits (is_digit_of notation) digits ≡ true

-- a piece with these digits
abbrev pub with_digits : Digits → Piece → Written
with_digits digits RegisterA = OfA
with_digits digits RegisterX = OfX
with_digits digits (Number notation field) = OfNumber notation (digits notation field)

abbrev pub number_part : Notation → Option ℕ → Part
number_part Address n = parts.Address n
number_part Scratch n = parts.Scratch n
number_part Constant n = parts.Constant n
number_part Decimal n = parts.Decimal n
number_part Hexadecimal n = parts.Hexadecimal n

-- what is read of a piece, and of all
abbrev pub part_of : Written → Part
part_of OfA = parts.RegisterA
part_of OfX = parts.RegisterX
part_of (OfNumber notation digits) = number_part notation (number_of (base_of notation) digits)

abbrev pub arguments_of : List Written → Option Arguments
arguments_of [] = Some Nothing
arguments_of (p ∷ []) = Some (One (part_of p))
arguments_of (p ∷ q ∷ r ∷ []) = Some (Three (part_of p) (part_of q) (part_of r))
arguments_of (p ∷ q ∷ r ∷ s ∷ []) = Some (Four (part_of p) (part_of q) (part_of r) (part_of s))
arguments_of pieces = None

-- what a form says of a field that it doesn't show
abbrev pub fixed : Field → Form → ℕ
fixed Code (Some operation) = code_of operation
fixed Code None = 0
fixed Jt form = 0
fixed Jf form = 0
fixed K form = 0

abbrev pub content_by : Option Notation → Form → Digits → Field → Option ℕ
content_by (Some notation) form digits field = number_of (base_of notation) (digits notation field)
content_by None form digits field = Some (fixed field form)

-- what a line of a form with these digits gives for a field, and for all
abbrev pub content : Form → Digits → Field → Option ℕ
content form digits field = content_by (notation_in (pieces_of form) field) form digits field

abbrev pub fields_with : Form → Digits → Fields
fields_with form digits =
    record { code = content form digits Code; jt = content form digits Jt; jf = content form digits Jf; k = content form digits K }
