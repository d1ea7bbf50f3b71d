-- The text of `ccell lint`: which calls get past a profile, and which are stopped by it.
use Rattle.std.specs.Prelude.{ℕ, suc, ◌≡◌, ◌==◌, Bool, true, false, if◌then◌else◌, List, [], ◌∷◌, ◌++◌, length, nat_lt, position}
use Rattle.std.specs.Prelude.{Option, Some, None, codes}
use Rattle.std.specs.Fmt.{decimal}
use Rattle.std.specs.Int.{bytes_low_first}
use Rattle.std.specs.List.{flat_map}
use Rattle.std.specs.Option.{option_or}
use Rattle.hex.specs.Hex.{encode_lower}
use Rattle.texts.specs.Lines.{line_feed}
use Rattle.call_record.specs.Fate.{fate_of}
use Rattle.call_record.specs.declared.fate.Fate.{Fate}
use Rattle.call_record.specs.declared.fate.Fate.TheVariants.{Refused, Left, LetThrough}
use Rattle.call_record.specs.declared.layout.Record.{Record}
use Rattle.call_record.specs.Record.{words}
use Rattle.machines.specs.declared.arch.Arch.{Arch}
use Rattle.machines.specs.declared.arch.Family.{Family}
use Rattle.machines.specs.Arch.{family_of, machine_name}
use Rattle.call_tables.specs.Tables.{table_of}
use Rattle.call_tables.specs.Table.{name_in}
use Rattle.profile.specs.declared.rules.Rule.{Rule}
use Rattle.profile.specs.Said.{matches}
use Rattle.profile_json.specs.ByEntry.{AreRulesOf}
use Rattle.wording.specs.Phrases.{action_text, hexadecimal, machine_with}
use Rattle.widths.specs.declared.unread_bits.past.Past.{Past}
use Rattle.compare.specs.declared.lint.past.Way.{Way}
use Rattle.compare.specs.declared.lint.past.Way.TheVariants.{GetsPast, IsStopped}
use Rattle.compare.specs.declared.lint.past.Finding.{Finding}
use Rattle.compare.specs.declared.lint.past.Finding.TheVariants.{Nothing, Unlike, Undecided}
use Rattle.compare.specs.declared.search.Crowded.{Crowded}

-- ---- the place

-- the entry of the rule at a place, by where the rules of each entry end
abbrev pub entry_with : List ℕ → Option ℕ → Option ℕ
entry_with ends (Some place) = position (λ end. nat_lt place end) ends
entry_with ends None = None

-- the entry of the first rule that matches a call
abbrev pub entry_of : List Rule → List ℕ → Record → Option ℕ
entry_of rules ends call = entry_with ends (position (λ rule. matches rule (words call)) rules)

-- the entry that answers the call, or else the one that answers the same with the bits at 0 that are not read
abbrev pub place_of : List Rule → List ℕ → Record → Record → Option ℕ
place_of rules ends call cleared = option_or (entry_of rules ends call) (entry_of rules ends cleared)

abbrev pub place_text : Option ℕ → List ℕ
place_text (Some entry) = codes "linux.seccomp.syscalls[" ++ decimal entry ++ codes "]: "
place_text None = []

-- ---- the call

-- a call by its name, or else by its number, and its machine
abbrev pub call_on : Option (List ℕ) → Arch → ℕ → List ℕ
call_on (Some name) arch nr = name ++ codes " of " ++ machine_name arch
call_on None arch nr = codes "call " ++ decimal nr ++ codes " of " ++ machine_name arch

abbrev pub call_text : Option Arch → ℕ → List ℕ
call_text (Some arch) nr = call_on (name_in (table_of arch) nr) arch nr
call_text None nr = codes "call " ++ decimal nr

-- what stands in front of an argument: of the first one that is told, and of others
abbrev pub joint_of : Bool → List ℕ
joint_of begun = if begun then codes ";" else codes ":"

-- what becomes of a call
abbrev pub fate_text : Fate → List ℕ
fate_text Refused = codes " is refused"
fate_text Left = codes " is left to a tracer or a listener"
fate_text LetThrough = codes " is let through"

-- an argument with a value, and what becomes of the call
abbrev pub value_text : ℕ → ℕ → Fate → List ℕ
value_text j value fate = codes " arg" ++ decimal j ++ codes " = " ++ hexadecimal value ++ fate_text fate ++ codes ","

-- what the kernel reads of both values; what it reads of one, and what becomes of the call with that
abbrev pub read_text : ℕ → List ℕ
read_text read = codes " and Linux reads " ++ hexadecimal read ++ codes " of both"

abbrev pub only_text : ℕ → List ℕ → List ℕ
only_text read said = codes " but Linux reads " ++ hexadecimal read ++ codes ", which" ++ said

-- an argument that is unlike in the two calls: as it is read and as it goes further; or as it is stopped, and as it is read
abbrev pub argument_text : Way → ℕ → ℕ → Bool → ℕ → ℕ → ℕ → List ℕ
argument_text GetsPast word cleared_word begun j whole read =
    joint_of begun ++ value_text j read (fate_of cleared_word) ++ value_text j whole (fate_of word) ++ read_text read
argument_text IsStopped word cleared_word begun j whole read =
    joint_of begun ++ value_text j whole (fate_of word) ++ only_text read (fate_text (fate_of cleared_word))

-- the unlike ones, from this argument on
abbrev pub arguments_from : (Bool → ℕ → ℕ → ℕ → List ℕ) → Bool → ℕ → List ℕ → List ℕ → List ℕ
arguments_from text begun j (whole ∷ wholes) (read ∷ reads) =
    if whole == read
    then arguments_from text begun (suc j) wholes reads
    else text begun j whole read ++ arguments_from text true (suc j) wholes reads
arguments_from text begun j wholes reads = []

-- ---- the records

-- the bytes of a call record: of each word four, the lowest first
abbrev pub bytes_of : Record → List ℕ
bytes_of call = flat_map (bytes_low_first 0 4) (words call)

-- a verdict, and the record of which it is said, two hexadecimal digits for each byte
abbrev pub digits_line : ℕ → List ℕ → List ℕ
digits_line word digits = codes "  " ++ action_text word ++ codes ", record " ++ digits ++ line_feed ∷ []

abbrev pub record_line : ℕ → Record → List ℕ
record_line word call = digits_line word (encode_lower (bytes_of call))

-- ---- the text

-- where the call is answered, the call and its unlike arguments
abbrev pub unlike_text : Way → Family → List Rule → List ℕ → Past → List ℕ
unlike_text way family rules ends past =
    place_text (place_of rules ends past.call past.cleared) ++ call_text (machine_with family past.call.arch past.call.nr) past.call.nr
    ++ arguments_from (argument_text way past.word past.cleared_word) false 0 past.call.args past.cleared.args

abbrev pub unlike_line : Way → Family → List Rule → List ℕ → Past → List ℕ
unlike_line way family rules ends past = unlike_text way family rules ends past ++ codes "\n"

-- both records, the one first that goes less far
abbrev pub records_text : Way → Past → List ℕ
records_text GetsPast past = record_line past.cleared_word past.cleared ++ record_line past.word past.call
records_text IsStopped past = record_line past.word past.call ++ record_line past.cleared_word past.cleared

-- this line, and then the records
abbrev pub past_lines : Way → Family → List Rule → List ℕ → Past → List ℕ
past_lines way family rules ends past = unlike_line way family rules ends past ++ records_text way past

-- how many there are
abbrev pub count_text : Way → ℕ → List ℕ
count_text GetsPast count = if count == 1 then codes " call gets past\n" else codes " calls get past\n"
count_text IsStopped count =
    if count == 1 then codes " call is stopped by bits that Linux does not read\n"
    else codes " calls are stopped by bits that Linux does not read\n"

abbrev pub count_line : Way → ℕ → List ℕ
count_line way count = decimal count ++ count_text way count

-- all of a way and how many there are, if there are any
abbrev pub list_text : Way → Family → List Rule → List ℕ → List Past → List ℕ
list_text way family rules ends [] = []
list_text way family rules ends (past ∷ list) =
    flat_map (past_lines way family rules ends) (past ∷ list) ++ count_line way (length (past ∷ list))

-- a call that is not decided
abbrev pub crowded_line : Crowded → List ℕ
crowded_line call = codes "undecided TooLarge " ++ call_text call.arch call.nr ++ codes "\n"

-- what was found, beside the rules of a bundle's entries
abbrev pub found_text : Family → List Rule → List ℕ → Finding → List ℕ
found_text family rules ends Nothing = codes "nothing gets past\n"
found_text family rules ends (Unlike past stopped) = list_text GetsPast family rules ends past.items
    ++ list_text IsStopped family rules ends stopped.items
found_text family rules ends (Undecided past stopped crowded) =
    flat_map (past_lines GetsPast family rules ends) past.items
    ++ flat_map (past_lines IsStopped family rules ends) stopped.items ++ flat_map crowded_line crowded.items

-- the text says what was found of a bundle; behind it may stand remarks, of which nothing is said here
pub record TellsFound (native : Arch) (bundle : List ℕ) (found : Finding) (text : List ℕ) : Type 0 where
  pub rules : List Rule
  pub ends : List ℕ
  pub are_rules : AreRulesOf native bundle rules ends
  pub remarks : List ℕ
  pub is : text ≡ found_text (family_of native) rules ends found ++ remarks
