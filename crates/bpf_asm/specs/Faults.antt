-- What is wrong with a text.
use Rattle.std.specs.Prelude.{ℕ, ◌≡◌, ◌≢◌, ◌<◌, ◌≤◌, ◌+◌, ◌^◌, ◌⊎◌, ◌==◌, true, List, [], ◌++◌, length, Some, None, ⊤}
use Rattle.std.specs.List.{All, before_first}
use Rattle.std.specs.Str.Parse.{digits_value}
use Rattle.texts.specs.Digits.{are_digits, has_leading_zero}
use Rattle.texts.specs.Lines.{line_feed, space}
use Rattle.bpf_insn.specs.declared.instruction.Insn.{Insn}
use Rattle.bpf_insn.specs.Bytes.{AreInsns, IsInsn, max_insns}
use Rattle.bpf_asm.specs.declared.fault.AsmError.{AsmError}
use Rattle.bpf_asm.specs.declared.fault.AsmError.TheVariants.{Line, OutOfMemory}
use Rattle.bpf_asm.specs.declared.fault.LineFault.{LineFault}
use Rattle.bpf_asm.specs.declared.fault.LineFault.TheVariants.{UnknownWord, BadNumber, TooLong, BadLine}
use Rattle.bpf_asm.specs.Forms.{Digits, Field, Form, Notation, Number, Piece, RegisterA, RegisterX, base_of, is_digit_of, line_text}
use Rattle.bpf_asm.specs.Forms.{notation_in, pieces_of, width_of, mnemonic_text}
use Rattle.bpf_asm.specs.Listing.{digits_of, form_of, line_of, listing}

-- a number is digits, one of them at least
abbrev pub HasDigits : Digits → Piece → Type 0
HasDigits digits RegisterA = ⊤
HasDigits digits RegisterX = ⊤
HasDigits digits (Number notation field) = are_digits (is_digit_of notation) (digits notation field) ≡ true

-- a line of this form, with these digits
pub record IsShaped (line : List ℕ) (form : Form) (digits : Digits) : Type 0 where
  pub each : All (HasDigits digits) (pieces_of form)
  pub text : line ≡ line_text form digits

-- what stands before the first space
abbrev pub first_field : List ℕ → List ℕ
first_field line = before_first (λ b. b == space) line

-- the line begins with the mnemonic of no form
abbrev pub IsUnknown : List ℕ → Type 0
IsUnknown line = (form : Form) → first_field line ≢ mnemonic_text form

-- it begins with a form's mnemonic, and has the shape of none
pub record IsShapeless (line : List ℕ) : Type 0 where
  pub form : Form
  pub begins : first_field line ≡ mnemonic_text form
  pub none : (other : Form) (digits : Digits) → IsShaped line other digits → ⊥

-- a number that is not written as its field asks: with a leading zero, or too large for the field's bits
abbrev pub IsBadNumber : ℕ → ℕ → List ℕ → Type 0
IsBadNumber radix bits ds = (has_leading_zero ds ≡ true) ⊎ (2 ^ bits ≤ digits_value radix ds)

-- it has the shape of a form, and a number is bad for its field
pub record HasBadNumber (line : List ℕ) : Type 0 where
  pub form : Form
  pub digits : Digits
  pub shaped : IsShaped line form digits
  pub notation : Notation
  pub field : Field
  pub shown : notation_in (pieces_of form) field ≡ Some notation
  pub bad : IsBadNumber (base_of notation) (width_of field) (digits notation field)

-- it is raw, of an instruction whose line has another form
pub record IsNeedlesslyRaw (line : List ℕ) : Type 0 where
  pub insn : Insn
  pub fields : IsInsn insn
  pub form : form_of insn ≢ None
  pub text : line ≡ line_text None (digits_of insn)

-- the fault of a line by itself, without its line feed: no two of these stand
abbrev pub HasFault : LineFault → List ℕ → Type 0
HasFault UnknownWord line = IsUnknown line
HasFault BadNumber line = HasBadNumber line
HasFault TooLong line = ⊥
HasFault BadLine line = IsShapeless line ⊎ IsNeedlesslyRaw line

-- the text is the line of an instruction, and no line feed ends it
pub record IsUnended (text : List ℕ) : Type 0 where
  pub insn : Insn
  pub fields : IsInsn insn
  pub line : text ≡ line_of insn

-- the first line of a text, without its line feed
abbrev pub first_line : List ℕ → List ℕ
first_line text = before_first (λ b. b == line_feed) text

-- the fault stands in the first line of what is left of a text, which is the line of this number
pub data FaultStands (fault : LineFault) (line : ℕ) (rest : List ℕ) : Type 0 where
  BeyondLimit : 0 < length rest → line ≡ max_insns + 1 → fault ≡ TooLong → FaultStands fault line rest
  InLine : 0 < length rest → line ≤ max_insns → HasFault fault (first_line rest) → FaultStands fault line rest
  AtItsEnd : line ≤ max_insns → IsUnended rest → fault ≡ BadLine → FaultStands fault line rest
  NoLine : rest ≡ [] → line ≡ 1 → fault ≡ BadLine → FaultStands fault line rest

-- the lines before this one are the lines of instructions, and the fault stands in this one
pub record FaultAt (text : List ℕ) (line : ℕ) (fault : LineFault) : Type 0 where
  pub before : List Insn
  pub each : AreInsns before
  pub few : length before ≤ max_insns
  pub rest : List ℕ
  pub split : text ≡ listing before ++ rest
  pub count : line ≡ length before + 1
  pub stands : FaultStands fault line rest

-- what an error says of the text
abbrev pub Explains : List ℕ → AsmError → Type 0
Explains text (Line line fault) = FaultAt text line fault
Explains text OutOfMemory = ⊤
