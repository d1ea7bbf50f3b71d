-- What may be known of a word of a record, and of a register.
use Rattle.std.specs.Prelude.{⊤, length, All, ◌≡◌, ◌≢◌, ℕ, ◌<◌, ◌≤◌, ◌^◌, List, bit_and}
use Rattle.call_record.specs.Words.{word}
use Rattle.cert_state.specs.declared.literal.Lit.{Lit}
use Rattle.cert_state.specs.declared.literal.Lit.TheVariants.{In, Bits, NotBits}
use Rattle.cert_state.specs.declared.literal.AVal.{AVal}
use Rattle.cert_state.specs.declared.literal.AVal.TheVariants.{Unknown, Const, Masked}
use Rattle.cert_state.specs.declared.literal.Regs.{Regs}

-- the mask of all bits
abbrev pub all_bits : ℕ
all_bits = 0xffffffff

-- the word is one of the record's sixteen, the numbers have 32 bits, and no bit of a datum lies outside
-- its mask
abbrev pub IsLit : Lit → Type 0
IsLit (In w lo hi) = (w < 16) × (lo < 2 ^ 32) × (hi < 2 ^ 32)
IsLit (Bits w m d) = (w < 16) × (m < 2 ^ 32) × (bit_and d m ≡ d)
IsLit (NotBits w m d) = (w < 16) × (m < 2 ^ 32) × (bit_and d m ≡ d)

-- the word is one of the record's sixteen, and the numbers have 32 bits
abbrev pub IsValue : AVal → Type 0
IsValue Unknown = ⊤
IsValue (Const c) = c < 2 ^ 32
IsValue (Masked w m) = (w < 16) × (m < 2 ^ 32)

-- each is such a value, and there are sixteen scratch words
pub record AreValues (regs : Regs) : Type 0 where
  pub a : IsValue regs.a
  pub x : IsValue regs.x
  pub sixteen : length regs.scratch ≡ 16
  pub scratch : All IsValue regs.scratch

-- the word of which a literal speaks
abbrev pub index_of : Lit → ℕ
index_of (In w lo hi) = w
index_of (Bits w m d) = w
index_of (NotBits w m d) = w

-- the literal is true where that word is u
abbrev pub Meets : Lit → ℕ → Type 0
Meets (In w lo hi) u = (lo ≤ u) × (u ≤ hi)
Meets (Bits w m d) u = bit_and u m ≡ d
Meets (NotBits w m d) u = bit_and u m ≢ d

-- the literal is true of a record
abbrev pub Holds : Lit → List ℕ → Type 0
Holds l r = Meets l (word r (index_of l))

-- a literal that is true of no record
abbrev pub false_literal : Lit
false_literal = In 0 1 0
