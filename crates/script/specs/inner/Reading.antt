-- How a line is read.
use Rattle.std.specs.Prelude.{ℕ, ◌==◌, ◌^◌, nat_lt, if◌then◌else◌, List, [], ◌∷◌, ◌++◌, length}
use Rattle.std.specs.Prelude.{Option, Some, None, option_and_then, codes}
use Rattle.std.specs.Option.{option_map}
use Rattle.std.specs.List.{slice_split}
use Rattle.std.specs.Str.{bytes_eq}
use Rattle.texts.specs.Numbers.{decimal_at, hexadecimal_at}
use Rattle.texts.specs.Splits.{behind, split_at}
use Rattle.machines.specs.declared.arch.Arch.{Arch}
use Rattle.machines.specs.declared.arch.Family.{Family}
use Rattle.machines.specs.Arch.{family_of, same_family, machine_called}
use Rattle.call_tables.specs.Tables.{table_of}
use Rattle.call_tables.specs.Table.{number_in}
use Rattle.script.specs.Commands.{Command, Create, Start, Delete, State, Kill, Call}
use Rattle.script.specs.Grammar.{colon}
use Rattle.script.specs.Pairs.{is_paired, spelled_bytes}

infixl 10 ◌>>=◌
abbrev pub ◌>>=◌ : {A B : Type 0} → Option A → (A → Option B) → Option B
o >>= f = option_and_then f o

-- the option is what follows `0x`
abbrev pub marked_number : Option (List ℕ) → List ℕ → Option ℕ
marked_number (Some ds) text = hexadecimal_at ds
marked_number None text = decimal_at text

unfoldable pub number_at : List ℕ → Option ℕ
number_at text = marked_number (behind (codes "0x") text) text

-- a number of 32 bits
unfoldable pub number32_at : List ℕ → Option ℕ
number32_at text = do
  n ← number_at text
  if nat_lt n (2 ^ 32) then Some n else None

-- a machine of the family and a number
abbrev pub numbered : Family → List ℕ → Arch → Option (Arch × ℕ)
numbered family digits arch = if same_family (family_of arch) family then option_map (λ nr. (arch, nr)) (number32_at digits) else None

abbrev pub called : Family → List ℕ × List ℕ → Option (Arch × ℕ)
called family parts = machine_called parts.0 >>= numbered family parts.1

-- a call by its machine's name, a colon and its number
unfoldable pub foreign_at : Family → List ℕ → Option (Arch × ℕ)
foreign_at family text = split_at colon text >>= called family

abbrev pub native_or : Arch → Option ℕ → List ℕ → Option (Arch × ℕ)
native_or native (Some nr) text = Some (native, nr)
native_or native None text = foreign_at (family_of native) text

unfoldable pub what_at : Arch → List ℕ → Option (Arch × ℕ)
what_at native text = native_or native (number_in (table_of native) text) text

-- what stands before a program
abbrev pub mark : List ℕ
mark = codes "prog"

-- an argument and the fields behind it: 0 at the end, and where the program begins
abbrev pub next_at : List (List ℕ) → Option (ℕ × List (List ℕ))
next_at [] = Some (0, [])
next_at (f ∷ fields) = if bytes_eq f mark then Some (0, f ∷ fields) else option_map (λ n. (n, fields)) (number_at f)

-- six arguments, and the fields behind them
unfoldable pub arguments_at : List (List ℕ) → Option (List ℕ × List (List ℕ))
arguments_at fields = do
  a ← next_at fields
  b ← next_at a.1
  c ← next_at b.1
  d ← next_at c.1
  e ← next_at d.1
  f ← next_at e.1
  Some (a.0 ∷ b.0 ∷ c.0 ∷ d.0 ∷ e.0 ∷ f.0 ∷ [], f.1)

-- the program, if there is one
abbrev pub program_at : List (List ℕ) → Option (Option (List ℕ))
program_at [] = Some None
program_at (f ∷ []) = None
program_at (f ∷ digits ∷ []) =
    if bytes_eq f mark then if is_paired digits then Some (Some (spelled_bytes digits)) else None else None
program_at (f ∷ digits ∷ g ∷ fields) = None

unfoldable pub call_at : Arch → List ℕ → List ℕ → List ℕ → List (List ℕ) → Option Command
call_at native id task what rest = do
  t ← number_at task
  w ← what_at native what
  args ← arguments_at rest
  p ← program_at args.1
  Some (Call id t w.0 w.1 args.0 p)

-- a command of two fields
unfoldable pub command_of_two : List ℕ → List ℕ → Option Command
command_of_two verb id =
    if bytes_eq verb (codes "start") then Some (Start id)
    else if bytes_eq verb (codes "delete") then Some (Delete id)
    else if bytes_eq verb (codes "state") then Some (State id)
    else None

-- a command of three
unfoldable pub command_of_three : List ℕ → List ℕ → List ℕ → Option Command
command_of_three verb id last =
    if bytes_eq verb (codes "create") then Some (Create id last)
    else if bytes_eq verb (codes "kill") then option_map (Kill id) (number_at last)
    else None

-- a command of more
unfoldable pub command_of_more : Arch → List ℕ → List ℕ → List ℕ → List ℕ → List (List ℕ) → Option Command
command_of_more native verb id task what rest = if bytes_eq verb (codes "call") then call_at native id task what rest else None

-- the command of fields
abbrev pub command_from : Arch → List (List ℕ) → Option Command
command_from native [] = None
command_from native (verb ∷ []) = None
command_from native (verb ∷ id ∷ []) = command_of_two verb id
command_from native (verb ∷ id ∷ last ∷ []) = command_of_three verb id last
command_from native (verb ∷ id ∷ task ∷ what ∷ rest) = command_of_more native verb id task what rest

-- the most fields of a command: with six arguments and a program
abbrev pub max_fields : ℕ
max_fields = 12

-- fields behind those so far, unless one is empty or they are too many
abbrev pub fields_from : List (List ℕ) → List (List ℕ) → Option (List (List ℕ))
fields_from done [] = Some done
fields_from done (f ∷ fields) =
    if length f == 0 then None
    else if nat_lt (length done) max_fields then fields_from (done ++ f ∷ []) fields
    else None

-- what stands between the spaces
abbrev pub pieces : List ℕ → List (List ℕ)
pieces text = slice_split (λ b. b == 32) text

abbrev pub fields_at : List ℕ → Option (List (List ℕ))
fields_at text = fields_from [] (pieces text)

-- the command of a text
abbrev pub command_at : Arch → List ℕ → Option Command
command_at native text = option_and_then (command_from native) (fields_at text)
