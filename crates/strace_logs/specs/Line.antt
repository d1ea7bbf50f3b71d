-- Which call a line of a log tells that `strace -n -e raw=all` wrote (strace(1)). It is its number, its name and its
-- arguments. Such a line is `22463 [ 257] openat(0xffffff9c, 0x7f3c133b60b1, 0x80000, 0) = 0x3`, for example. Where another
-- process made a line before the call was over, ` <unfinished ...>` stands in the place of `)`.
use Rattle.std.specs.Prelude.{ℕ, ◌==◌, ◌&&◌, ◌||◌, ◌^◌, length, is_some, nat_lt, Bool, true}
use Rattle.std.specs.Prelude.{false, if◌then◌else◌, List, [], ◌∷◌, Option, Some, None, codes, find}
use Rattle.std.specs.Prelude.{option_and_then}
use Rattle.std.specs.Str.{is_utf8}
use Rattle.texts.specs.Lines.{space}
use Rattle.texts.specs.Numbers.{decimal_at, hexadecimal_at}
use Rattle.texts.specs.Splits.{behind, split_at}
use Rattle.machines.specs.declared.arch.Arch.{Arch}
use Rattle.machines.specs.declared.arch.Arch.TheVariants.{X86_64, Aarch64, LinuxX86_64, LinuxX86, LinuxX32}
use Rattle.machines.specs.declared.arch.Arch.TheVariants.{LinuxAarch64, LinuxArm, LinuxRiscv64}
use Rattle.machines.specs.declared.arch.Arch.TheVariants.{LinuxPpc64le, LinuxLoongarch64, LinuxS390x, LinuxS390}
use Rattle.machines.specs.Arch.{token_of}
use Rattle.call_tables.specs.Tables.{table_of}
use Rattle.call_tables.specs.Table.{number_in}
use Rattle.call_record.specs.Words.{words_from}

infixl 10 ◌>>=◌
abbrev pub ◌>>=◌ : {A B : Type 0} → Option A → (A → Option B) → Option B
o >>= f = option_and_then f o

-- ---- machines

-- the machines whose calls one kernel runs, the native one first
abbrev pub machines_run : Arch → List Arch
machines_run X86_64 = X86_64 ∷ []
machines_run Aarch64 = Aarch64 ∷ []
machines_run LinuxX86_64 = LinuxX86_64 ∷ LinuxX86 ∷ LinuxX32 ∷ []
machines_run LinuxX86 = LinuxX86 ∷ []
machines_run LinuxX32 = LinuxX32 ∷ []
machines_run LinuxAarch64 = LinuxAarch64 ∷ LinuxArm ∷ []
machines_run LinuxArm = LinuxArm ∷ []
machines_run LinuxRiscv64 = LinuxRiscv64 ∷ []
machines_run LinuxPpc64le = LinuxPpc64le ∷ []
machines_run LinuxLoongarch64 = LinuxLoongarch64 ∷ []
machines_run LinuxS390x = LinuxS390x ∷ LinuxS390 ∷ []
machines_run LinuxS390 = LinuxS390 ∷ []

abbrev pub is_number : Option ℕ → ℕ → Bool
is_number None nr = false
is_number (Some own) nr = own == nr

-- the call of this name has this number
abbrev pub has_call : Arch → List ℕ → ℕ → Bool
has_call arch name nr = is_number (number_in (table_of arch) name) nr

-- the machine on which the call of this name has this number: name and number together tell it
abbrev pub machine_of : Arch → List ℕ → ℕ → Option Arch
machine_of native name nr = find (λ arch. has_call arch name nr) (machines_run native)

-- ---- numbers

-- the option is what follows `0x`
abbrev pub marked_value : Option (List ℕ) → List ℕ → Option ℕ
marked_value (Some digits) text = hexadecimal_at digits
marked_value None text = decimal_at text

-- the number that a text is: decimal, or `0x` and hexadecimal
unfoldable pub value_at : List ℕ → Option ℕ
value_at text = marked_value (behind (codes "0x") text) text

-- a text without the spaces in front
abbrev pub behind_spaces : List ℕ → List ℕ
behind_spaces [] = []
behind_spaces (b ∷ text) = if b == space then behind_spaces text else b ∷ text

-- a number of 32 bits in decimal, behind spaces
unfoldable pub number_at : List ℕ → Option ℕ
number_at text = do
  n ← decimal_at (behind_spaces text)
  if nat_lt n (2 ^ 32) then Some n else None

-- ---- arguments

abbrev pub or_whole : Option (List ℕ × List ℕ) → List ℕ → List ℕ × List ℕ
or_whole (Some parts) text = parts
or_whole None text = (text, [])

-- a text at the first such byte; where there is none, the text, and nothing
unfoldable pub cut : ℕ → List ℕ → List ℕ × List ℕ
cut byte text = or_whole (split_at byte text) text

abbrev pub or_zero : Option ℕ → ℕ
or_zero (Some n) = n
or_zero None = 0

-- the number that a text begins with, before a space and a comma, or 0 where it begins with none
unfoldable pub argument_at : List ℕ → ℕ
argument_at text = or_zero (value_at (cut 44 (cut 32 text).0).0)

-- what stands behind the first space
unfoldable pub rest_at : List ℕ → List ℕ
rest_at text = (cut 32 text).1

-- six arguments: 0 where strace wrote none, since the call takes fewer
unfoldable pub arguments_at : List ℕ → List ℕ
arguments_at text =
    let b = rest_at text in
    let c = rest_at b in
    let d = rest_at c in
    let e = rest_at d in
    argument_at text ∷ argument_at b ∷ argument_at c ∷ argument_at d ∷ argument_at e ∷ argument_at (rest_at e) ∷ []

-- what stands before `)`, or else before `<`
abbrev pub before_end : Option (List ℕ × List ℕ) → Option (List ℕ × List ℕ) → Option (List ℕ)
before_end (Some parts) other = Some parts.0
before_end None (Some parts) = Some parts.0
before_end None None = None

abbrev pub given_at : List ℕ → Option (List ℕ)
given_at text = before_end (split_at 41 text) (split_at 60 text)

-- ---- whether arguments are numbers

-- the field that a text begins with is a number, or there is none
unfoldable pub is_raw_at : List ℕ → Bool
is_raw_at text = length (cut 32 text).0 == 0 || is_some (value_at (cut 44 (cut 32 text).0).0)

-- so are six fields
unfoldable pub are_raw_at : List ℕ → Bool
are_raw_at text =
    let b = rest_at text in
    let c = rest_at b in
    let d = rest_at c in
    let e = rest_at d in
    is_raw_at text && (is_raw_at b && (is_raw_at c && (is_raw_at d && (is_raw_at e && is_raw_at (rest_at e)))))

abbrev pub are_raw_in : Option (List ℕ) → Bool
are_raw_in None = true
are_raw_in (Some given) = are_raw_at given

abbrev pub is_raw_behind : Option (List ℕ × List ℕ) → Bool
is_raw_behind None = true
is_raw_behind (Some parts) = are_raw_in (given_at parts.1)

-- each argument that a line writes is a number, as `-e raw=all` has it
unfoldable pub is_raw : List ℕ → Bool
is_raw line = is_raw_behind (split_at 40 line)

-- ---- calls

-- a call: its machine, its number, its arguments
abbrev pub CallParts : Type 0
CallParts = Arch × ℕ × List ℕ

-- strace has no name for the call, and writes its number in the place of one
abbrev pub is_unnamed : List ℕ → Bool
is_unnamed name = is_some (behind (codes "syscall_0x") name)

-- the machine of a call: it is the native one if calls without names are asked for, and this is one
abbrev pub machine_by : Bool → Arch → List ℕ → ℕ → Option Arch
machine_by unnamed native name nr = if unnamed && is_unnamed name then Some native else machine_of native name nr

-- the call of this name and number, by what stands behind `(`
unfoldable pub called : Bool → Arch → List ℕ → ℕ → List ℕ → Option CallParts
called unnamed native name nr text = do
  arch ← machine_by unnamed native name nr
  given ← given_at text
  Some (arch, nr, arguments_at given)

-- the call of this number, by what stands behind `]`
unfoldable pub numbered : Bool → Arch → ℕ → List ℕ → Option CallParts
numbered unnamed native nr text = do
  parts ← split_at 40 text
  name ← behind (codes " ") parts.0
  called unnamed native name nr parts.1

-- the call that a line tells, if it tells one: a number in brackets, a space, a name, and arguments in parentheses
unfoldable pub call_by : Bool → Arch → List ℕ → Option CallParts
call_by unnamed native line = do
  front ← split_at 91 line
  parts ← split_at 93 front.1
  nr ← number_at parts.0
  numbered unnamed native nr parts.1

-- the call that a line tells by its name
abbrev pub call_on : Arch → List ℕ → Option CallParts
call_on native line = call_by false native line

-- the call that a line tells by its name, or by its number alone
abbrev pub shown_on : Arch → List ℕ → Option CallParts
shown_on native line = call_by true native line

-- the call that a line tells of which nothing is known: one that is no UTF-8 tells none
unfoldable pub call_in : Arch → List ℕ → Option CallParts
call_in native line = if is_utf8 line then call_on native line else None

-- the same, also by its number alone
unfoldable pub shown_in : Arch → List ℕ → Option CallParts
shown_in native line = if is_utf8 line then shown_on native line else None

-- the words of such a call as a filter sees them, made at address 0
abbrev pub words_of_call : CallParts → List ℕ
words_of_call call = words_from call.1 (token_of call.0) 0 call.2
