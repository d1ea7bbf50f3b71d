-- How the calls are told that a stub answers.
use Rattle.std.specs.Prelude.{ℕ, ◌==◌, if◌then◌else◌, Bool, List, [], ◌∷◌, ◌++◌, Option, Some, None, length, codes}
use Rattle.std.specs.Fmt.{decimal}
use Rattle.std.specs.List.{flat_map}
use Rattle.texts.specs.Lines.{line_feed}
use Rattle.machines.specs.declared.arch.Arch.{Arch}
use Rattle.machines.specs.declared.arch.Family.{Family}
use Rattle.machines.specs.declared.numbers.Numbers.{Numbers}
use Rattle.machines.specs.Arch.{machine_name}
use Rattle.wording.specs.Phrases.{hexadecimal, machine_with}
use Rattle.compare.specs.declared.behind_runc.stub.calls.Calls.{Calls}

-- a machine by its name, or by its token
abbrev pub machine_text : Option Arch → ℕ → List ℕ
machine_text (Some arch) token = machine_name arch
machine_text None token = hexadecimal token

-- the line of numbers, and of the machine that has the first of them
abbrev pub numbers_line : Numbers → List ℕ → List ℕ
numbers_line numbers machine =
    codes "  " ++ decimal numbers.first ++ codes " to " ++ decimal numbers.last ++ codes " of " ++ machine ++ line_feed ∷ []

abbrev pub calls_line : Family → Calls → List ℕ
calls_line family calls = numbers_line calls.numbers (machine_text (machine_with family calls.token calls.numbers.first) calls.token)

-- how many bytes the stub has
abbrev pub size_line : ℕ → List ℕ
size_line size = codes "runc's stub, the first " ++ decimal size ++ codes " bytes, answers these calls ENOSYS:\n"

abbrev pub none_line : List ℕ
none_line = codes "the filter does not begin with a stub as runc puts it in front\n"

-- behind the calls, if the whole filter is asked about
abbrev pub whole_line : Bool → List ℕ
whole_line whole = if whole then codes "so the whole filter is judged, not the filter behind the stub\n" else []

-- a stub of so many bytes that answers these calls, and whether the whole filter is asked about
abbrev pub stub_text : Family → ℕ → List Calls → Bool → List ℕ
stub_text family size answered whole =
    if length answered == 0 then none_line else size_line size ++ flat_map (calls_line family) answered ++ whole_line whole
