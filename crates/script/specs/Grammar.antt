-- Which lines are which commands. Nothing here says how a line is read.
use Rattle.std.specs.Prelude.{ℕ, ◌≡◌, ◌==◌, ◌≤◌, ◌<◌, ◌^◌, ◌⊎◌, Bool, true, not, ◌&&◌, List, [], ◌∷◌, ◌++◌, length, Option, Some}
use Rattle.std.specs.Prelude.{None, codes, IsUtf8}
use Rattle.std.specs.List.{join_with_byte, list_all}
use Rattle.texts.specs.Lines.{space}
use Rattle.machines.specs.declared.arch.Arch.{Arch}
use Rattle.machines.specs.declared.arch.Family.{Family}
use Rattle.machines.specs.Arch.{machine_name, family_of}
use Rattle.call_tables.specs.Tables.{table_of}
use Rattle.call_tables.specs.Table.{number_in}
use Rattle.script.specs.Commands.{Command, Create, Start, Delete, State, Kill, Call}
use Rattle.script.specs.Numbers.{IsNumber, AreBytes}

-- the most bytes of a line, its line feed not counted
abbrev pub max_line : ℕ
max_line = 70000

abbrev pub colon : ℕ
colon = 58

-- no byte is this one
abbrev pub lacks : ℕ → List ℕ → Bool
lacks byte text = list_all (λ b. not (b == byte)) text

-- some bytes, and no space
abbrev pub is_field : List ℕ → Bool
is_field text = not (length text == 0) && lacks space text

-- a machine of the family and a number of 32 bits
pub record IsForeign (family : Family) (text : List ℕ) (arch : Arch) (nr : ℕ) : Type 0 where
  pub digits : List ℕ
  pub of_family : family_of arch ≡ family
  pub spelled : text ≡ machine_name arch ++ colon ∷ digits
  pub number : IsNumber digits nr
  pub small : nr < 2 ^ 32

-- the name of a native call, or a machine of the native one's family and a number
abbrev pub IsWhat : Arch → List ℕ → Arch → ℕ → Type 0
IsWhat native text arch nr = ((arch ≡ native) × (number_in (table_of native) text ≡ Some nr)) ⊎ IsForeign (family_of native) text arch nr

-- the arguments are the numbers of these fields; those that have none are 0
abbrev pub AreArguments : List (List ℕ) → List ℕ → Type 0
AreArguments fields [] = fields ≡ []
AreArguments [] (a ∷ args) = (a ≡ 0) × AreArguments [] args
AreArguments (f ∷ fields) (a ∷ args) = IsNumber f a × AreArguments fields args

-- the fields of the program beside a call, if there is one: a byte at least
abbrev pub AreProgram : List (List ℕ) → Option (List ℕ) → Type 0
AreProgram fields None = fields ≡ []
AreProgram fields (Some []) = ⊥
AreProgram fields (Some (b ∷ bytes)) = (digits : List ℕ) × (fields ≡ codes "prog" ∷ digits ∷ []) × AreBytes digits (b ∷ bytes)

-- the fields after the id of a call with six arguments
pub record AreCall (native : Arch) (fields : List (List ℕ)) (task : ℕ) (arch : Arch) (nr : ℕ) (args : List ℕ)
    (program : Option (List ℕ)) : Type 0 where
  pub task_field : List ℕ
  pub what_field : List ℕ
  pub given : List (List ℕ)
  pub end : List (List ℕ)
  pub parts : fields ≡ task_field ∷ what_field ∷ (given ++ end)
  pub task_is : IsNumber task_field task
  pub what_is : IsWhat native what_field arch nr
  pub arguments : AreArguments given args
  pub six : length args ≡ 6
  pub program_is : AreProgram end program

-- the fields of a command
abbrev pub AreFieldsOf : Arch → List (List ℕ) → Command → Type 0
AreFieldsOf native fields (Create id bundle) = fields ≡ codes "create" ∷ id ∷ bundle ∷ []
AreFieldsOf native fields (Start id) = fields ≡ codes "start" ∷ id ∷ []
AreFieldsOf native fields (Delete id) = fields ≡ codes "delete" ∷ id ∷ []
AreFieldsOf native fields (State id) = fields ≡ codes "state" ∷ id ∷ []
AreFieldsOf native fields (Kill id signal) = (digits : List ℕ) × (fields ≡ codes "kill" ∷ id ∷ digits ∷ []) × IsNumber digits signal
AreFieldsOf native fields (Call id task arch nr args program) =
    (rest : List (List ℕ)) × (fields ≡ codes "call" ∷ id ∷ rest) × AreCall native rest task arch nr args program

-- the line is this command: a text, not too long, of fields with one space between any two
pub record IsCommand (native : Arch) (line : List ℕ) (command : Command) : Type 0 where
  pub short : length line ≤ max_line
  pub utf8 : IsUtf8 line
  pub fields : List (List ℕ)
  pub joined : line ≡ join_with_byte space fields
  pub each : list_all is_field fields ≡ true
  pub form : AreFieldsOf native fields command

-- what a line is: a command, or none
abbrev pub LineIs : Arch → List ℕ → Option Command → Type 0
LineIs native line (Some command) = IsCommand native line command
LineIs native line None = (command : Command) → IsCommand native line command → ⊥
