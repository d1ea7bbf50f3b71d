-- Why no filter is made of a stack.
use Rattle.std.specs.Prelude.{◌≡◌, ◌<◌, ◌+◌, ◌*◌, ◌⊎◌, ℕ, Bool, true, false, if◌then◌else◌, List, [], ◌∷◌, length, take}
use Rattle.std.specs.Prelude.{Option, None, Some, slice_get}
use Rattle.bpf_insn.specs.declared.code.Operation.{Operation}
use Rattle.bpf_insn.specs.declared.code.Operation.TheVariants.{ReturnA, ReturnK, Store, StoreX}
use Rattle.bpf_insn.specs.declared.instruction.Insn.{Insn}
use Rattle.bpf_insn.specs.Bytes.{insns_of, view_fault}
use Rattle.bpf_insn.specs.Code.{operation_of}
use Rattle.kernel_check.specs.Accepted.{IsRefusal}
use Rattle.flatten.specs.declared.unflat.Unflat.{Unflat}
use Rattle.flatten.specs.declared.unflat.Unflat.TheVariants.{Bytes, Refused, TooLong, Unplain}

-- the instruction writes no scratch word, and returns nothing but its own number
abbrev pub is_plain_by : Option Operation → Bool
is_plain_by (Some Store) = false
is_plain_by (Some StoreX) = false
is_plain_by (Some ReturnA) = false
is_plain_by other = true

abbrev pub is_plain : Insn → Bool
is_plain i = is_plain_by (operation_of i.code)

-- it returns its own number
abbrev pub is_return_by : Option Operation → Bool
is_return_by (Some ReturnK) = true
is_return_by other = false

abbrev pub is_return : Insn → Bool
is_return i = is_return_by (operation_of i.code)

-- how many instructions of a program return
abbrev pub returns_in : List Insn → ℕ
returns_in [] = 0
returns_in (i ∷ p) = (if is_return i then 1 else 0) + returns_in p

-- How many instructions a filter has at most above older ones of so many: for each of its returns the older ones and two more.
abbrev pub most_above : ℕ → List Insn → ℕ
most_above older newer = length newer + returns_in newer * (older + 2)

-- the same of a stack above older ones of so many instructions
abbrev pub most_from : ℕ → List (List ℕ) → ℕ
most_from older [] = older
most_from older (filter ∷ filters) = most_from (most_above older (insns_of filter)) filters

-- The oldest filters of a stack can come to more than 4,096 instructions. A stack of no filters is one: allow.
abbrev pub CanBeLong : List (List ℕ) → Type 0
CanBeLong filters = (many : ℕ) × (4096 < most_from 1 (take many filters))

-- The filter is no program, or the kernel refuses it, or an instruction of it is not plain.
abbrev pub IsOf : List ℕ → Unflat → Type 0
IsOf filter (Bytes place fault) = view_fault filter ≡ Some fault
IsOf filter (Refused place why) = (view_fault filter ≡ None) × IsRefusal (insns_of filter) why
IsOf filter (Unplain place at) = (i : Insn) × (slice_get (insns_of filter) at ≡ Some i) × (is_plain i ≡ false)
IsOf filter other = Unit {0}

-- the place that is told
abbrev pub place_of : Unflat → Option ℕ
place_of (Bytes place fault) = Some place
place_of (Refused place why) = Some place
place_of (Unplain place at) = Some place
place_of other = None

-- of the filter at this place, if a place is told
pub record SaysOf (place : ℕ) (filter : List ℕ) (e : Unflat) : Type 0 where
  pub here : place_of e ≡ Some place ⊎ (place_of e ≡ None)
  pub is : IsOf filter e

-- of the filter at the place that is told, if one is
abbrev pub SaysAt : Option ℕ → List (List ℕ) → Unflat → Type 0
SaysAt None filters e = Unit {0}
SaysAt (Some place) filters e = (filter : List ℕ) × (slice_get filters place ≡ Some filter) × IsOf filter e

-- it is too long only if the filters can come to so much
abbrev pub IsOfLength : List (List ℕ) → Unflat → Type 0
IsOfLength filters TooLong = CanBeLong filters
IsOfLength filters other = Unit {0}

abbrev pub Says : List (List ℕ) → Unflat → Type 0
Says filters e = SaysAt (place_of e) filters e × IsOfLength filters e
