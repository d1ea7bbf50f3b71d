-- The program that is made of another: instructions in front tell the calls of machines, and then stands that program, twice.
use Rattle.std.specs.Prelude.{ℕ, ◌==◌, ◌-◌, List, [], ◌∷◌, ◌++◌, length, if◌then◌else◌}
use Rattle.call_record.specs.Verdict.{allow, kill_thread}
use Rattle.machines.specs.declared.arch.Arch.{Arch}
use Rattle.machines.specs.declared.numbers.Numbers.{Numbers}
use Rattle.machines.specs.Arch.{token_of}
use Rattle.machines.specs.Numbers.{own_numbers}
use Rattle.bpf_insn.specs.declared.instruction.Insn.{Insn}
use Rattle.flatten.specs.Unflat.{is_return}
use Rattle.flatten.specs.inner.Turns.{insn, return_of}

-- KILL_THREAD in the place of ALLOW, and ALLOW in the place of all else
abbrev pub turn : ℕ → ℕ
turn word = if word == allow then kill_thread else allow

abbrev pub turned_insn : Insn → Insn
turned_insn i = if is_return i then return_of (turn i.k) else i

abbrev pub turned : List Insn → List Insn
turned [] = []
turned (i ∷ p) = turned_insn i ∷ turned p

abbrev pub empty_a : Insn
empty_a = insn 0x00 0 0 0

-- the program with its verdicts turned, and behind it the program itself, each with A emptied first
abbrev pub base : List Insn → List Insn
base p = (empty_a ∷ turned p) ++ (empty_a ∷ p)

-- a jump over so many instructions, on the calls of one token with these numbers alone
abbrev pub front : ℕ → Numbers → ℕ → List Insn
front token numbers skip =
    insn 0x20 0 0 4 ∷ insn 0x15 0 4 token
    ∷ insn 0x20 0 0 0 ∷ insn 0x35 0 2 numbers.first ∷ insn 0x25 1 0 numbers.last
    ∷ insn 0x05 0 0 skip ∷ []

-- on these calls, the program goes on at its last instructions, so many
abbrev pub before : ℕ → Numbers → ℕ → List Insn → List Insn
before token numbers tail p = front token numbers (length p - tail) ++ p

-- the same for numbers of several ranges, and for the calls of machines
abbrev pub fronts : ℕ → List Numbers → ℕ → List Insn → List Insn
fronts token [] tail p = p
fronts token (n ∷ ns) tail p = before token n tail (fronts token ns tail p)

abbrev pub guard : List Arch → ℕ → List Insn → List Insn
guard [] tail p = p
guard (m ∷ ms) tail p = fronts (token_of m) (own_numbers m) tail (guard ms tail p)
