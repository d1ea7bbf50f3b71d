-- The mnemonics of the code are those of the forms.
use Rattle.std.proofs.Common.{◌≡◌, ◌≢◌, ℕ, Bool, true, false, cond, List, [], ◌∷◌, refl, ap, ◌∙◌}
use Rattle.std.specs.Prelude.{Some, None, find, nat_le}
use Rattle.std.specs.List.{list_all}
use Rattle.std.specs.Str.{bytes_eq}
use Rattle.std.proofs.lemmas.Slice.Eq.{bytes_eq-Decides}
use Rattle.bpf_insn.specs.declared.code.Test.TheVariants.{Equal, Greater, AtLeast, AnyBit}
use Rattle.bpf_insn.specs.declared.code.Arithmetic.TheVariants.{Add, Sub, Or, And, Xor}
use Rattle.bpf_insn.specs.declared.code.Operand.TheVariants as operands
use Rattle.bpf_insn.specs.declared.code.Operation.{Operation}
use Rattle.bpf_insn.specs.declared.code.Operation.TheVariants as operations
use Rattle.bpf_asm.specs.declared.mnemonic.Mnemonic.{Mnemonic}
use Rattle.bpf_asm.specs.declared.mnemonic.Mnemonic.TheVariants.{Ld, Ldx, St, Stx, Ret, Ja, Branch, Compute, Lsh, Rsh, Neg, Tax, Txa, Raw}
use Rattle.bpf_asm.specs.Forms.{Form, mnemonic_text}
use Rattle.bpf_asm.specs.inner.Mnemonics.{is_raw, mnemonic_at, mnemonic_of, mnemonics, text_of}
use Rattle.texts.proofs.Splits.{Lacks}
use Rattle.bpf_asm.proofs.Pieces.{lacks_digits}

letters : (w : Mnemonic) → list_all (λ b. nat_le 97 b) (text_of w) ≡ true
letters Ld = refl
letters Ldx = refl
letters St = refl
letters Stx = refl
letters Ret = refl
letters Ja = refl
letters (Branch Equal) = refl
letters (Branch Greater) = refl
letters (Branch AtLeast) = refl
letters (Branch AnyBit) = refl
letters (Compute Add) = refl
letters (Compute Sub) = refl
letters (Compute Or) = refl
letters (Compute And) = refl
letters (Compute Xor) = refl
letters Lsh = refl
letters Rsh = refl
letters Neg = refl
letters Tax = refl
letters Txa = refl
letters Raw = refl

-- a mnemonic is of letters alone
pub lacks-text_of : (c : ℕ) → nat_le 97 c ≡ false → (w : Mnemonic) → Lacks c (text_of w)
lacks-text_of c small w = lacks_digits (λ b. nat_le 97 b) c small (text_of w) (letters w)

pub mnemonic_at-text_of : (w : Mnemonic) → mnemonic_at (text_of w) ≡ Some w
unfolding mnemonic_at
mnemonic_at-text_of Ld = refl
mnemonic_at-text_of Ldx = refl
mnemonic_at-text_of St = refl
mnemonic_at-text_of Stx = refl
mnemonic_at-text_of Ret = refl
mnemonic_at-text_of Ja = refl
mnemonic_at-text_of (Branch Equal) = refl
mnemonic_at-text_of (Branch Greater) = refl
mnemonic_at-text_of (Branch AtLeast) = refl
mnemonic_at-text_of (Branch AnyBit) = refl
mnemonic_at-text_of (Compute Add) = refl
mnemonic_at-text_of (Compute Sub) = refl
mnemonic_at-text_of (Compute Or) = refl
mnemonic_at-text_of (Compute And) = refl
mnemonic_at-text_of (Compute Xor) = refl
mnemonic_at-text_of Lsh = refl
mnemonic_at-text_of Rsh = refl
mnemonic_at-text_of Neg = refl
mnemonic_at-text_of Tax = refl
mnemonic_at-text_of Txa = refl
mnemonic_at-text_of Raw = refl

looked_up : (text : List ℕ) (w : Mnemonic) (ws : List Mnemonic) → find (λ m. bytes_eq text (text_of m)) ws ≡ Some w → text ≡ text_of w
looked_up text w [] h = absurd (cc)
looked_up text w (v ∷ ws) h = by_test (bytes_eq text (text_of v)) refl (looked_up text w ws) h where
  by_test : (b : Bool) → bytes_eq text (text_of v) ≡ b → (find (λ m. bytes_eq text (text_of m)) ws ≡ Some w → text ≡ text_of w)
      → cond b (Some v) (find (λ m. bytes_eq text (text_of m)) ws) ≡ Some w → text ≡ text_of w
  by_test true e later g =
      let same : v ≡ w = cc in
      (bytes_eq-Decides text (text_of v)).0 e ∙ ap text_of same
  by_test false e later g = later g

pub mnemonic_at_sound : (text : List ℕ) (w : Mnemonic) → mnemonic_at text ≡ Some w → text ≡ text_of w
unfolding mnemonic_at
mnemonic_at_sound text w h = looked_up text w mnemonics h

pub mnemonic_at_none : (text : List ℕ) → mnemonic_at text ≡ None → (w : Mnemonic) → text ≢ text_of w
mnemonic_at_none text h w e = let read = ap mnemonic_at e ∙ mnemonic_at-text_of w in absurd (cc)

-- the mnemonic of a form is what its lines begin with
pub text_of-mnemonic_of : (form : Form) → text_of (mnemonic_of form) ≡ mnemonic_text form
text_of-mnemonic_of (Some operations.LoadWord) = refl
text_of-mnemonic_of (Some operations.LoadScratch) = refl
text_of-mnemonic_of (Some operations.LoadScratchX) = refl
text_of-mnemonic_of (Some operations.Store) = refl
text_of-mnemonic_of (Some operations.StoreX) = refl
text_of-mnemonic_of (Some operations.SetA) = refl
text_of-mnemonic_of (Some operations.SetX) = refl
text_of-mnemonic_of (Some operations.ReturnK) = refl
text_of-mnemonic_of (Some operations.ReturnA) = refl
text_of-mnemonic_of (Some operations.Jump) = refl
text_of-mnemonic_of (Some (operations.Branch test operands.K)) = refl
text_of-mnemonic_of (Some (operations.Branch test operands.X)) = refl
text_of-mnemonic_of (Some (operations.Compute arithmetic operands.K)) = refl
text_of-mnemonic_of (Some (operations.Compute arithmetic operands.X)) = refl
text_of-mnemonic_of (Some operations.ShiftLeft) = refl
text_of-mnemonic_of (Some operations.ShiftRight) = refl
text_of-mnemonic_of (Some operations.Negate) = refl
text_of-mnemonic_of (Some operations.CopyToX) = refl
text_of-mnemonic_of (Some operations.CopyToA) = refl
text_of-mnemonic_of None = refl

-- and no operation's is `raw`
pub not_raw : (op : Operation) → is_raw (mnemonic_of (Some op)) ≡ false
not_raw operations.LoadWord = refl
not_raw operations.LoadScratch = refl
not_raw operations.LoadScratchX = refl
not_raw operations.Store = refl
not_raw operations.StoreX = refl
not_raw operations.SetA = refl
not_raw operations.SetX = refl
not_raw operations.ReturnK = refl
not_raw operations.ReturnA = refl
not_raw operations.Jump = refl
not_raw (operations.Branch test operands.K) = refl
not_raw (operations.Branch test operands.X) = refl
not_raw (operations.Compute arithmetic operands.K) = refl
not_raw (operations.Compute arithmetic operands.X) = refl
not_raw operations.ShiftLeft = refl
not_raw operations.ShiftRight = refl
not_raw operations.Negate = refl
not_raw operations.CopyToX = refl
not_raw operations.CopyToA = refl
