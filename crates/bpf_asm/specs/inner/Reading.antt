-- How a line is read.
use Rattle.std.specs.Prelude.{ℕ, ◌^◌, ◌==◌, nat_lt, Bool, ◌&&◌, if◌then◌else◌, List, [], ◌∷◌, Option, Some, None, option_and_then}
use Rattle.std.specs.Prelude.{Result, Ok, Err, codes, is_some}
use Rattle.std.specs.Option.{option_map}
use Rattle.std.specs.Char.{is_ascii_digit}
use Rattle.std.specs.Str.{bytes_eq}
use Rattle.texts.specs.Digits.{are_digits, is_hexadecimal_digit}
use Rattle.texts.specs.Numbers.{number_of}
use Rattle.texts.specs.Splits.{behind, split_at}
use Rattle.bpf_insn.specs.declared.code.Operation.{Operation}
use Rattle.bpf_insn.specs.declared.code.Operation.TheVariants as operations
use Rattle.bpf_insn.specs.declared.code.Operand.TheVariants.{K, X}
use Rattle.bpf_insn.specs.declared.instruction.Insn.{Insn}
use Rattle.bpf_insn.specs.Code.{code_of}
use Rattle.bpf_asm.specs.declared.line.Fields.{Fields}
use Rattle.bpf_asm.specs.declared.fault.LineFault.{LineFault}
use Rattle.bpf_asm.specs.declared.fault.LineFault.TheVariants.{UnknownWord, BadNumber, BadLine}
use Rattle.bpf_asm.specs.Listing.{form_of}
use Rattle.bpf_asm.specs.inner.Mnemonics.{is_raw, mnemonic_at}
use Rattle.bpf_asm.specs.declared.mnemonic.Mnemonic.{Mnemonic}
use Rattle.bpf_asm.specs.declared.mnemonic.Mnemonic.TheVariants.{Ld, Ldx, St, Stx, Ret, Ja, Branch, Compute, Lsh, Rsh, Neg, Tax, Txa, Raw}
use Rattle.bpf_asm.specs.declared.arguments.Part.{Part}
use Rattle.bpf_asm.specs.declared.arguments.Part.TheVariants.{RegisterA, RegisterX, Address, Scratch, Constant, Decimal, Hexadecimal}
use Rattle.bpf_asm.specs.declared.arguments.Arguments.{Arguments}
use Rattle.bpf_asm.specs.declared.arguments.Arguments.TheVariants.{Nothing, One, Three, Four}

infixl 10 ◌>>=◌
abbrev pub ◌>>=◌ : {A B : Type 0} → Option A → (A → Option B) → Option B
o >>= f = option_and_then f o

-- what stands before such a byte at the end
abbrev pub ahead_of : ℕ → List ℕ → Option (List ℕ)
ahead_of byte [] = None
ahead_of byte (b ∷ []) = if b == byte then Some [] else None
ahead_of byte (b ∷ c ∷ text) = option_map (λ front. b ∷ front) (ahead_of byte (c ∷ text))

-- what a text is in decimal, if it is digits alone: their number, or none where they are no good
unfoldable pub decimal_at : List ℕ → Option (Option ℕ)
decimal_at text = if are_digits is_ascii_digit text then Some (number_of 10 text) else None

-- the same in hexadecimal, behind `0x`
unfoldable pub hexadecimal_at : List ℕ → Option (Option ℕ)
hexadecimal_at text = do
  ds ← behind (codes "0x") text
  if are_digits is_hexadecimal_digit ds then Some (number_of 16 ds) else None

abbrev pub bare_part : Option (Option ℕ) → List ℕ → Option Part
bare_part (Some n) text = Some (Hexadecimal n)
bare_part None text = option_map Decimal (decimal_at text)

unfoldable pub bracketed_at : List ℕ → Option (Option ℕ)
bracketed_at rest = do
  ds ← ahead_of 93 rest
  decimal_at ds

-- the three options are what follows `#`, `[` and `M[` at the front
abbrev pub marked_part : Option (List ℕ) → Option (List ℕ) → Option (List ℕ) → List ℕ → Option Part
marked_part (Some rest) bracket scratch text = option_map Constant (hexadecimal_at rest)
marked_part None (Some rest) scratch text = option_map Address (bracketed_at rest)
marked_part None None (Some rest) text = option_map Scratch (bracketed_at rest)
marked_part None None None text = bare_part (hexadecimal_at text) text

unfoldable pub part_at : List ℕ → Option Part
part_at text =
    if bytes_eq text (codes "a") then Some RegisterA
    else if bytes_eq text (codes "x") then Some RegisterX
    else marked_part (behind (codes "#") text) (behind (codes "[") text) (behind (codes "M[") text) text

abbrev pub last_parts : Part → Part → List ℕ → Option (List ℕ × List ℕ) → Option Arguments
last_parts first second rest None = do
  third ← part_at rest
  Some (Three first second third)
last_parts first second rest (Some parts) = do
  third ← part_at parts.0
  fourth ← part_at parts.1
  Some (Four first second third fourth)

abbrev pub parts_of : List ℕ → Option (List ℕ × List ℕ) → Option Arguments
parts_of text None = do
  part ← part_at text
  Some (One part)
parts_of text (Some parts) = do
  first ← part_at parts.0
  more ← split_at 44 parts.1
  second ← part_at more.0
  last_parts first second more.1 (split_at 44 more.1)

unfoldable pub arguments_at : List ℕ → Option Arguments
arguments_at text = parts_of text (split_at 44 text)

abbrev pub branch_fields : Operation → Option ℕ → Option ℕ → Option ℕ → Fields
branch_fields operation k jt jf = record { code = Some (code_of operation); jt = jt; jf = jf; k = k }

abbrev pub plain_fields : Operation → Option ℕ → Fields
plain_fields operation k = branch_fields operation k (Some 0) (Some 0)

-- the fields that a line gives, where what stands after its mnemonic has a shape of it
abbrev pub fields_of : Mnemonic → Arguments → Option Fields
fields_of Ld (One (Address k)) = Some (plain_fields operations.LoadWord k)
fields_of Ld (One (Scratch k)) = Some (plain_fields operations.LoadScratch k)
fields_of Ld (One (Constant k)) = Some (plain_fields operations.SetA k)
fields_of Ldx (One (Scratch k)) = Some (plain_fields operations.LoadScratchX k)
fields_of St (One (Scratch k)) = Some (plain_fields operations.Store k)
fields_of Stx (One (Scratch k)) = Some (plain_fields operations.StoreX k)
fields_of Ldx (One (Constant k)) = Some (plain_fields operations.SetX k)
fields_of Ret (One (Constant k)) = Some (plain_fields operations.ReturnK k)
fields_of Ret (One RegisterA) = Some (plain_fields operations.ReturnA (Some 0))
fields_of Ja (One (Decimal k)) = Some (plain_fields operations.Jump k)
fields_of (Branch test) (Three (Constant k) (Decimal jt) (Decimal jf)) = Some (branch_fields (operations.Branch test K) k jt jf)
fields_of (Branch test) (Three RegisterX (Decimal jt) (Decimal jf)) = Some (branch_fields (operations.Branch test X) (Some 0) jt jf)
fields_of (Compute arithmetic) (One (Constant k)) = Some (plain_fields (operations.Compute arithmetic K) k)
fields_of (Compute arithmetic) (One RegisterX) = Some (plain_fields (operations.Compute arithmetic X) (Some 0))
fields_of Lsh (One (Constant k)) = Some (plain_fields operations.ShiftLeft k)
fields_of Rsh (One (Constant k)) = Some (plain_fields operations.ShiftRight k)
fields_of Neg Nothing = Some (plain_fields operations.Negate (Some 0))
fields_of Tax Nothing = Some (plain_fields operations.CopyToX (Some 0))
fields_of Txa Nothing = Some (plain_fields operations.CopyToA (Some 0))
fields_of Raw (Four (Hexadecimal code) (Decimal jt) (Decimal jf) (Hexadecimal k)) = Some (record { code = code; jt = jt; jf = jf; k = k })
fields_of mnemonic arguments = None

-- a number of so many bits
abbrev pub within : ℕ → Option ℕ → Option ℕ
within bits o = option_and_then (λ n. if nat_lt n (2 ^ bits) then Some n else None) o

-- the instruction with these fields, code, jt, jf and k, if there are all
abbrev pub insn_with : Option ℕ → Option ℕ → Option ℕ → Option ℕ → Option Insn
insn_with (Some code) (Some jt) (Some jf) (Some k) = Some (record { code = code; jt = jt; jf = jf; k = k })
insn_with code jt jf k = None

-- the same, where each number is good and within its width
abbrev pub insn_of : Fields → Option Insn
insn_of f = insn_with (within 16 f.code) (within 8 f.jt) (within 8 f.jf) (within 32 f.k)

abbrev pub first_part : List ℕ → Option (List ℕ × List ℕ) → List ℕ
first_part line None = line
first_part line (Some parts) = parts.0

abbrev pub read_rest : Option (List ℕ × List ℕ) → Option Arguments
read_rest None = Some Nothing
read_rest (Some parts) = arguments_at parts.1

-- the mnemonic that a line begins with, and the fields that the line gives where its rest has a shape of it
abbrev pub with_fields : Option Mnemonic → Option Arguments → Option (Mnemonic × Option Fields)
with_fields None arguments = None
with_fields (Some mnemonic) arguments = Some (mnemonic, option_and_then (fields_of mnemonic) arguments)

abbrev pub fields_at : List ℕ → Option (Mnemonic × Option Fields)
fields_at line = with_fields (mnemonic_at (first_part line (split_at 32 line))) (read_rest (split_at 32 line))

abbrev pub checked : Bool → Option Insn → Result Insn LineFault
checked raw None = Err BadNumber
checked raw (Some i) = if raw && is_some (form_of i) then Err BadLine else Ok i

abbrev pub judged : Option (Mnemonic × Option Fields) → Result Insn LineFault
judged None = Err UnknownWord
judged (Some (mnemonic, None)) = Err BadLine
judged (Some (mnemonic, Some fields)) = checked (is_raw mnemonic) (insn_of fields)

-- the instruction of a line, or what is wrong with it
unfoldable pub line_at : List ℕ → Result Insn LineFault
line_at line = judged (fields_at line)
