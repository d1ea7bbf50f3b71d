-- The mnemonics of the code, and the forms that they are of.
use Rattle.std.specs.Prelude.{ℕ, Bool, true, false, List, [], ◌∷◌, Option, Some, None, find}
use Rattle.std.specs.Str.{bytes_eq}
use Rattle.bpf_insn.specs.declared.code.Operand.TheVariants as operands
use Rattle.bpf_insn.specs.declared.code.Test.TheVariants.{Equal, Greater, AtLeast, AnyBit}
use Rattle.bpf_insn.specs.declared.code.Arithmetic.TheVariants.{Add, Sub, Or, And, Xor}
use Rattle.bpf_insn.specs.declared.code.Operation.TheVariants as operations
use Rattle.bpf_asm.specs.declared.mnemonic.Mnemonic.{Mnemonic}
use Rattle.bpf_asm.specs.declared.mnemonic.Mnemonic.TheVariants.{Ld, Ldx, St, Stx, Ret, Ja, Branch, Compute, Lsh, Rsh, Neg, Tax, Txa, Raw}
use Rattle.bpf_asm.specs.Forms.{Form, mnemonic_text}

-- the mnemonic of a form
abbrev pub mnemonic_of : Form → Mnemonic
mnemonic_of (Some operations.LoadWord) = Ld
mnemonic_of (Some operations.LoadScratch) = Ld
mnemonic_of (Some operations.LoadScratchX) = Ldx
mnemonic_of (Some operations.Store) = St
mnemonic_of (Some operations.StoreX) = Stx
mnemonic_of (Some operations.SetA) = Ld
mnemonic_of (Some operations.SetX) = Ldx
mnemonic_of (Some operations.ReturnK) = Ret
mnemonic_of (Some operations.ReturnA) = Ret
mnemonic_of (Some operations.Jump) = Ja
mnemonic_of (Some (operations.Branch test operand)) = Branch test
mnemonic_of (Some (operations.Compute arithmetic operand)) = Compute arithmetic
mnemonic_of (Some operations.ShiftLeft) = Lsh
mnemonic_of (Some operations.ShiftRight) = Rsh
mnemonic_of (Some operations.Negate) = Neg
mnemonic_of (Some operations.CopyToX) = Tax
mnemonic_of (Some operations.CopyToA) = Txa
mnemonic_of None = Raw

-- a form of a mnemonic
abbrev pub form_with : Mnemonic → Form
form_with Ld = Some operations.LoadWord
form_with Ldx = Some operations.LoadScratchX
form_with St = Some operations.Store
form_with Stx = Some operations.StoreX
form_with Ret = Some operations.ReturnK
form_with Ja = Some operations.Jump
form_with (Branch test) = Some (operations.Branch test operands.K)
form_with (Compute arithmetic) = Some (operations.Compute arithmetic operands.K)
form_with Lsh = Some operations.ShiftLeft
form_with Rsh = Some operations.ShiftRight
form_with Neg = Some operations.Negate
form_with Tax = Some operations.CopyToX
form_with Txa = Some operations.CopyToA
form_with Raw = None

-- how it is written
abbrev pub text_of : Mnemonic → List ℕ
text_of mnemonic = mnemonic_text (form_with mnemonic)

abbrev pub mnemonics : List Mnemonic
mnemonics =
    Ld ∷ Ldx ∷ St ∷ Stx ∷ Ret ∷ Ja ∷ Branch Equal ∷ Branch Greater ∷ Branch AtLeast ∷ Branch AnyBit
    ∷ Compute Add ∷ Compute Sub ∷ Compute Or ∷ Compute And ∷ Compute Xor
    ∷ Lsh ∷ Rsh ∷ Neg ∷ Tax ∷ Txa ∷ Raw ∷ []

-- the mnemonic that a text is, if it is one
unfoldable pub mnemonic_at : List ℕ → Option Mnemonic
mnemonic_at text = find (λ mnemonic. bytes_eq text (text_of mnemonic)) mnemonics

abbrev pub is_raw : Mnemonic → Bool
is_raw Raw = true
is_raw mnemonic = false
