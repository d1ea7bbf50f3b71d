-- The text of a program: a line for each instruction, ended by a line feed.
use Rattle.std.specs.Prelude.{ℕ, ◌==◌, Bool, false, ◌&&◌, ◌||◌, if◌then◌else◌, List, [], ◌∷◌, ◌++◌, Some, None, option_and_then, is_some}
use Rattle.std.specs.List.{flat_map}
use Rattle.std.specs.Fmt.{digits}
use Rattle.texts.specs.Lines.{line_feed}
use Rattle.bpf_insn.specs.declared.code.Operation.{Operation}
use Rattle.bpf_insn.specs.declared.instruction.Insn.{Insn}
use Rattle.bpf_insn.specs.Code.{operation_of}
use Rattle.bpf_asm.specs.Forms.{Digits, Field, Form, Jf, Jt, K, base_of, line_text, notation_in, number_at, pieces_of}

-- the field is shown in the operation's lines, or it is 0
abbrev pub is_told : Field → Insn → Operation → Bool
is_told field i operation = is_some (notation_in (pieces_of (Some operation)) field) || number_at field i == 0

-- so is each field but the code, for which the mnemonic stands
abbrev pub has_own_form : Insn → Operation → Bool
has_own_form i operation = is_told Jt i operation && (is_told Jf i operation && is_told K i operation)

-- the form of an instruction's line: that of the operation which its code stands for. It is raw unless that operation is
-- listed and the line shows each field
unfoldable pub form_of : Insn → Form
form_of i = option_and_then (λ operation. if has_own_form i operation then Some operation else None) (operation_of i.code)

-- the digits of an instruction's numbers: small letters, no leading zero, and one digit for 0
abbrev pub digits_of : Insn → Digits
digits_of i notation field = digits (base_of notation) false (number_at field i)

-- the line of an instruction, without its line feed
unfoldable pub line_of : Insn → List ℕ
line_of i = line_text (form_of i) (digits_of i)

-- the listing of a program
abbrev pub listing : List Insn → List ℕ
listing p = flat_map (λ i. line_of i ++ line_feed ∷ []) p
