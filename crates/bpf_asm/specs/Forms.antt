-- The forms of lines: what stands in the line of each operation, and in a raw line, which shows any instruction.
-- The mnemonics are those of the kernel's bpf_asm (Documentation/networking/filter.rst).
use Rattle.std.specs.Prelude.{ℕ, Bool, true, false, if◌then◌else◌, List, [], ◌∷◌, ◌++◌, map, codes, Option, Some, None}
use Rattle.std.specs.List.{join_with_byte}
use Rattle.std.specs.Char.{is_ascii_digit}
use Rattle.texts.specs.Digits.{is_hexadecimal_digit}
use Rattle.texts.specs.Lines.{space}
use Rattle.bpf_insn.specs.declared.code.Operand.TheVariants as operands
use Rattle.bpf_insn.specs.declared.code.Test.{Test}
use Rattle.bpf_insn.specs.declared.code.Test.TheVariants.{Equal, Greater, AtLeast, AnyBit}
use Rattle.bpf_insn.specs.declared.code.Arithmetic.{Arithmetic}
use Rattle.bpf_insn.specs.declared.code.Arithmetic.TheVariants.{Add, Sub, Or, And, Xor}
use Rattle.bpf_insn.specs.declared.code.Operation.{Operation}
use Rattle.bpf_insn.specs.declared.code.Operation.TheVariants.{LoadWord, LoadScratch, LoadScratchX, Store, StoreX, SetA, SetX}
use Rattle.bpf_insn.specs.declared.code.Operation.TheVariants.{ReturnK, ReturnA, Jump, Branch, Compute, ShiftLeft, ShiftRight}
use Rattle.bpf_insn.specs.declared.code.Operation.TheVariants.{Negate, CopyToX, CopyToA}
use Rattle.bpf_insn.specs.declared.instruction.Insn.{Insn}

-- a field of an instruction
pub data Field : Type 0 where
  Code : Field
  Jt : Field
  Jf : Field
  K : Field

-- what an instruction holds there
abbrev pub number_at : Field → Insn → ℕ
number_at Code i = i.code
number_at Jt i = i.jt
number_at Jf i = i.jf
number_at K i = i.k

-- how many bits it has
abbrev pub width_of : Field → ℕ
width_of Code = 16
width_of Jt = 8
width_of Jf = 8
width_of K = 32

-- how a number is written
pub data Notation : Type 0 where
  Address : Notation
  Scratch : Notation
  Constant : Notation
  Decimal : Notation
  Hexadecimal : Notation

abbrev pub number_text : Notation → List ℕ → List ℕ
number_text Address digits = codes "[" ++ digits ++ codes "]"
number_text Scratch digits = codes "M[" ++ digits ++ codes "]"
number_text Constant digits = codes "#0x" ++ digits
number_text Decimal digits = digits
number_text Hexadecimal digits = codes "0x" ++ digits

-- its digits are of this base, and these
abbrev pub base_of : Notation → ℕ
base_of Address = 10
base_of Scratch = 10
base_of Constant = 16
base_of Decimal = 10
base_of Hexadecimal = 16

abbrev pub is_digit_of : Notation → ℕ → Bool
is_digit_of Address = is_ascii_digit
is_digit_of Scratch = is_ascii_digit
is_digit_of Constant = is_hexadecimal_digit
is_digit_of Decimal = is_ascii_digit
is_digit_of Hexadecimal = is_hexadecimal_digit

-- what stands between two commas: a register, or the number of a field
pub data Piece : Type 0 where
  RegisterA : Piece
  RegisterX : Piece
  Number : Notation → Field → Piece

-- a form of lines is an operation's, or, with no operation, that of raw lines
abbrev pub Form : Type 0
Form = Option Operation

abbrev pub mnemonic_text_of_test : Test → List ℕ
mnemonic_text_of_test Equal = codes "jeq"
mnemonic_text_of_test Greater = codes "jgt"
mnemonic_text_of_test AtLeast = codes "jge"
mnemonic_text_of_test AnyBit = codes "jset"

abbrev pub mnemonic_text_of_arithmetic : Arithmetic → List ℕ
mnemonic_text_of_arithmetic Add = codes "add"
mnemonic_text_of_arithmetic Sub = codes "sub"
mnemonic_text_of_arithmetic Or = codes "or"
mnemonic_text_of_arithmetic And = codes "and"
mnemonic_text_of_arithmetic Xor = codes "xor"

-- the mnemonic that a line of the form begins with
abbrev pub mnemonic_text : Form → List ℕ
mnemonic_text (Some LoadWord) = codes "ld"
mnemonic_text (Some LoadScratch) = codes "ld"
mnemonic_text (Some LoadScratchX) = codes "ldx"
mnemonic_text (Some Store) = codes "st"
mnemonic_text (Some StoreX) = codes "stx"
mnemonic_text (Some SetA) = codes "ld"
mnemonic_text (Some SetX) = codes "ldx"
mnemonic_text (Some ReturnK) = codes "ret"
mnemonic_text (Some ReturnA) = codes "ret"
mnemonic_text (Some Jump) = codes "ja"
mnemonic_text (Some (Branch test operand)) = mnemonic_text_of_test test
mnemonic_text (Some (Compute arithmetic operand)) = mnemonic_text_of_arithmetic arithmetic
mnemonic_text (Some ShiftLeft) = codes "lsh"
mnemonic_text (Some ShiftRight) = codes "rsh"
mnemonic_text (Some Negate) = codes "neg"
mnemonic_text (Some CopyToX) = codes "tax"
mnemonic_text (Some CopyToA) = codes "txa"
mnemonic_text None = codes "raw"

-- the pieces after it
abbrev pub pieces_of : Form → List Piece
pieces_of (Some LoadWord) = Number Address K ∷ []
pieces_of (Some LoadScratch) = Number Scratch K ∷ []
pieces_of (Some LoadScratchX) = Number Scratch K ∷ []
pieces_of (Some Store) = Number Scratch K ∷ []
pieces_of (Some StoreX) = Number Scratch K ∷ []
pieces_of (Some SetA) = Number Constant K ∷ []
pieces_of (Some SetX) = Number Constant K ∷ []
pieces_of (Some ReturnK) = Number Constant K ∷ []
pieces_of (Some ReturnA) = RegisterA ∷ []
pieces_of (Some Jump) = Number Decimal K ∷ []
pieces_of (Some (Branch test operands.K)) = Number Constant K ∷ Number Decimal Jt ∷ Number Decimal Jf ∷ []
pieces_of (Some (Branch test operands.X)) = RegisterX ∷ Number Decimal Jt ∷ Number Decimal Jf ∷ []
pieces_of (Some (Compute arithmetic operands.K)) = Number Constant K ∷ []
pieces_of (Some (Compute arithmetic operands.X)) = RegisterX ∷ []
pieces_of (Some ShiftLeft) = Number Constant K ∷ []
pieces_of (Some ShiftRight) = Number Constant K ∷ []
pieces_of (Some Negate) = []
pieces_of (Some CopyToX) = []
pieces_of (Some CopyToA) = []
pieces_of None = Number Hexadecimal Code ∷ Number Decimal Jt ∷ Number Decimal Jf ∷ Number Hexadecimal K ∷ []

abbrev pub is_same : Field → Field → Bool
is_same Code Code = true
is_same Jt Jt = true
is_same Jf Jf = true
is_same K K = true
is_same field other = false

-- the notation in which pieces show a field, if they do
abbrev pub notation_in : List Piece → Field → Option Notation
notation_in [] field = None
notation_in (Number notation shown ∷ pieces) field = if is_same shown field then Some notation else notation_in pieces field
notation_in (register ∷ pieces) field = notation_in pieces field

-- the digits that stand for each field's number
abbrev pub Digits : Type 0
Digits = Notation → Field → List ℕ

abbrev pub piece_text : Digits → Piece → List ℕ
piece_text digits RegisterA = codes "a"
piece_text digits RegisterX = codes "x"
piece_text digits (Number notation field) = number_text notation (digits notation field)

abbrev pub comma : ℕ
comma = 44

-- after a space, the pieces, with commas between them
abbrev pub rest_text : List (List ℕ) → List ℕ
rest_text [] = []
rest_text (piece ∷ pieces) = space ∷ join_with_byte comma (piece ∷ pieces)

-- a line of the form with these digits, without its line feed
abbrev pub line_text : Form → Digits → List ℕ
line_text form digits = mnemonic_text form ++ rest_text (map (piece_text digits) (pieces_of form))
