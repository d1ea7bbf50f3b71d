-- What is told of the lines that a kernel's audit writes of filters, as dmesg, journald, auditd and `ausearch -i` show them.
use Rattle.std.specs.Prelude.{ℕ, ◌≡◌, ◌≢◌, ◌⊎◌, ◌==◌, ◌-◌, ◌^◌, ◌&&◌, ◌||◌, nat_lt, not, Bool, true, false, if◌then◌else◌, List, [], ◌∷◌}
use Rattle.std.specs.Prelude.{◌++◌, Option, Some, None, codes, count_by, filter_map, is_none, is_some, length, map, option_and_then, take}
use Rattle.std.specs.Fmt.{decimal}
use Rattle.std.specs.List.{All, flat_map, fold, list_any, slice_split}
use Rattle.std.specs.Option.{option_map, option_or}
use Rattle.std.specs.Str.{bytes_eq}
use Rattle.texts.specs.Lines.{line_feed, space}
use Rattle.texts.specs.Numbers.{decimal_at, hexadecimal_at}
use Rattle.texts.specs.Splits.{behind, split_at}
use Rattle.call_record.specs.Verdict.{action, allow, errno, kill_process, kill_thread, log, trace, trap, user_notif}
use Rattle.machines.specs.declared.arch.Arch.{Arch}
use Rattle.machines.specs.declared.arch.Arch.TheVariants.{LinuxX86_64, LinuxX86, LinuxAarch64, LinuxArm, LinuxRiscv64, LinuxPpc64le}
use Rattle.machines.specs.declared.arch.Family.{Family}
use Rattle.machines.specs.Arch.{family_of, token_of}
use Rattle.call_tables.specs.Tables.{table_of}
use Rattle.call_tables.specs.Table.{Table, number_in}
use Rattle.profile.specs.declared.rules.Rule.{Rule}
use Rattle.profile.specs.Policy.{Policy}
use Rattle.wording.specs.Lines.{lines_of}
use Rattle.wording.specs.Phrases.{action_text, call_on, hexadecimal, machine_with}
use Rattle.wording.specs.Told.{EndsBy, RefusesBundle, RefusesBy}
use Rattle.wording.specs.Understood.{IsReadAs}
use Rattle.wording.specs.declared.told.Told.{Told}
use Rattle.explain.specs.Answers.{may_answer}
use Rattle.explain.specs.Any.{said_lines}
use Rattle.explain.specs.Naming.{naming, text_of}
use Rattle.explain.specs.Signs.{is_doubled, is_marked, signs_of}
use Rattle.explain.specs.declared.audited.signs.Signs.{Signs}
use Rattle.explain.specs.declared.audited.event.Answer.{Answer}
use Rattle.explain.specs.declared.audited.event.Answer.TheVariants.{Code, Kill}
use Rattle.explain.specs.declared.audited.event.Event.{Event}
use Rattle.explain.specs.declared.audited.named.TheConstants.{OTHER_NAMES}

-- ---- the fields of a line

infixl 10 ◌>>=◌
abbrev pub ◌>>=◌ : {A B : Type 0} → Option A → (A → Option B) → Option B
o >>= f = option_and_then f o

-- what stands between the spaces of a line
abbrev pub words_on : List ℕ → List (List ℕ)
words_on line = slice_split (λ b. b == space) line

-- what follows the key in the last word that begins with it: the names that a program gives itself stand before the fields
abbrev pub last_behind : List ℕ → List (List ℕ) → Option (List ℕ)
last_behind key [] = None
last_behind key (word ∷ words) = option_or (last_behind key words) (behind key word)

-- `)`
abbrev pub closing : ℕ
closing = 41

-- U+001D: auditd says some of a line again, by names, behind it
abbrev pub separator : ℕ
separator = 29

abbrev pub front_or : Option (List ℕ × List ℕ) → List ℕ → List ℕ
front_or (Some parts) text = parts.0
front_or None text = text

-- a text as far as the first separator
unfoldable pub cut : List ℕ → List ℕ
cut text = front_or (split_at separator text) text

-- the value of a field
unfoldable pub value_of : List ℕ → List ℕ → Option (List ℕ)
value_of key line = option_map cut (last_behind key (words_on line))

-- a line of a filter's answer has these fields
unfoldable pub has_fields : List ℕ → Bool
has_fields line =
    is_some (value_of (codes "arch=") line) && is_some (value_of (codes "syscall=") line) && is_some (value_of (codes "code=") line)

-- ---- what their values mean, as a kernel writes them, and as auditd says them by names

-- a number of 32 bits
abbrev pub narrow : ℕ → Option ℕ
narrow n = if nat_lt n (2 ^ 32) then Some n else None

unfoldable pub hexadecimal_of : List ℕ → Option ℕ
hexadecimal_of text = option_and_then narrow (hexadecimal_at text)

unfoldable pub decimal_of : List ℕ → Option ℕ
decimal_of text = option_and_then narrow (decimal_at text)

-- auditd's names of machines. It says armeb of little-endian ARM.
unfoldable pub machine_named : List ℕ → Option Arch
machine_named word =
    if bytes_eq word (codes "x86_64") then Some LinuxX86_64
    else if bytes_eq word (codes "i386") then Some LinuxX86
    else if bytes_eq word (codes "aarch64") then Some LinuxAarch64
    else if bytes_eq word (codes "armeb") then Some LinuxArm
    else if bytes_eq word (codes "riscv64") then Some LinuxRiscv64
    else if bytes_eq word (codes "ppc64le") then Some LinuxPpc64le
    else None

unfoldable pub named_token : List ℕ → Option ℕ
named_token text = do
  machine ← machine_named text
  Some (token_of machine)

-- the machine's token
unfoldable pub token_in : List ℕ → Option ℕ
token_in text = option_or (hexadecimal_of text) (named_token text)

-- what auditd says of a number that it has no name for
unfoldable pub unknown_number : List ℕ → Option ℕ
unknown_number text = do
  digits ← behind (codes "unknown-syscall(") text
  parts ← split_at closing digits
  if length parts.1 == 0 then decimal_of parts.0 else None

-- the names of calls that auditd has in place of Linux's, each with Linux's
unfoldable pub other_names : List (List ℕ × List ℕ)
other_names = map (λ e. (e.0.now, e.1.now)) OTHER_NAMES.now

-- the number of the call that has the name in place of Linux's
abbrev pub number_by : List (List ℕ × List ℕ) → Table → List ℕ → Option ℕ
number_by [] table name = None
number_by (e ∷ es) table name = if bytes_eq e.0 name then number_in table e.1 else number_by es table name

-- the number of a call of a machine by its name
unfoldable pub call_named : Arch → List ℕ → Option ℕ
call_named machine name = option_or (number_in (table_of machine) name) (number_by other_names (table_of machine) name)

-- of the machine that auditd names beside it: beside a machine that it does not know it names those of another
unfoldable pub named_number : List ℕ → List ℕ → Option ℕ
named_number machine name = do
  arch ← machine_named machine
  call_named arch name

-- Linux writes a number as a signed one of 32 bits: one from 2^31 on is 2^32 less, and stands behind a minus
abbrev pub unsigned_of : ℕ → Option ℕ
unsigned_of size = if (size == 0) || nat_lt 0x80000000 size then None else Some (0x100000000 - size)

unfoldable pub negative_of : List ℕ → Option ℕ
negative_of text = do
  digits ← behind (codes "-") text
  size ← decimal_of digits
  unsigned_of size

-- the number of the call
unfoldable pub call_in : List ℕ → List ℕ → Option ℕ
call_in machine text =
    option_or (option_or (option_or (decimal_of text) (negative_of text)) (unknown_number text)) (named_number machine text)

-- auditd's names of actions. It has kill or kill-thread for both kills.
unfoldable pub action_named : List ℕ → Option Answer
action_named word =
    if bytes_eq word (codes "errno") then Some (Code errno)
    else if bytes_eq word (codes "log") then Some (Code log)
    else if bytes_eq word (codes "kill") then Some Kill
    else if bytes_eq word (codes "kill-thread") then Some Kill
    else if bytes_eq word (codes "kill-process") then Some (Code kill_process)
    else if bytes_eq word (codes "trap") then Some (Code trap)
    else if bytes_eq word (codes "trace") then Some (Code trace)
    else if bytes_eq word (codes "user-notify") then Some (Code user_notif)
    else if bytes_eq word (codes "allow") then Some (Code allow)
    else None

-- a kernel writes the action alone, without data
abbrev pub bare_code : ℕ → Option Answer
bare_code code = if action code == code then Some (Code code) else None

unfoldable pub written_code : List ℕ → Option Answer
written_code text = do
  digits ← behind (codes "0x") text
  code ← hexadecimal_of digits
  bare_code code

-- what the filter answered
unfoldable pub answer_in : List ℕ → Option Answer
answer_in text = option_or (written_code text) (action_named text)

-- ---- what a line tells

-- the value of a field, if it is UTF-8
unfoldable pub text_on : List ℕ → List ℕ → Option (List ℕ)
text_on key line = option_and_then text_of (value_of key line)

-- a call, by its machine's token and its number, and what a filter answered
unfoldable pub event_of : List ℕ → List ℕ → List ℕ → Option Event
event_of arch call code = do
  token ← token_in arch
  nr ← call_in arch call
  answer ← answer_in code
  Some (record { token = token; nr = nr; answer = answer })

-- the event that the fields of a line tell
unfoldable pub event_by : List ℕ → Option Event
event_by line = do
  arch ← text_on (codes "arch=") line
  call ← text_on (codes "syscall=") line
  code ← text_on (codes "code=") line
  event_of arch call code

abbrev pub signs_on : List ℕ → Signs
signs_on line = signs_of (words_on line)

-- the event that a line tells, if it tells one: a line with two records tells none
unfoldable pub event_in : List ℕ → Option Event
event_in line = if is_doubled (signs_on line) then None else event_by line

-- it is a filter's record, whole or cut
abbrev pub is_record : List ℕ → Bool
is_record line = is_marked (signs_on line) || has_fields line

-- it is one that tells no event, or it tells that records were lost
unfoldable pub is_unread : List ℕ → Bool
is_unread line = (signs_on line).lost || (is_record line && is_none (event_in line))

-- the events that the lines of a text tell, in order
abbrev pub events_in : List ℕ → List Event
events_in text = filter_map event_in (lines_of text)

-- how many lines are not read
abbrev pub count_unread : List ℕ → ℕ
count_unread text = count_by is_unread (lines_of text)

-- ---- which process it names

-- what the words of a line tell of the process, in their order
abbrev pub process_on : List ℕ → List ℕ
process_on line = flat_map naming (words_on line)

-- ---- what a profile says of it

-- the profile may answer so to the call. A kernel writes the action without its data.
abbrev pub may_give : Policy → ℕ → ℕ → Answer → Bool
may_give p token nr (Code code) = may_answer p token nr (action code)
may_give p token nr Kill = may_answer p token nr kill_process || may_answer p token nr kill_thread

abbrev pub may_be : Policy → Event → Bool
may_be p e = may_give p e.token e.nr e.answer

abbrev pub MayBe : Policy → Event → Type 0
MayBe p e = may_be p e ≡ true

-- ---- which are listed

abbrev pub same_answer : Answer → Answer → Bool
same_answer (Code a) (Code b) = a == b
same_answer (Code a) Kill = false
same_answer Kill (Code b) = false
same_answer Kill Kill = true

-- the same answer to the same call
abbrev pub is_same : Event → Event → Bool
is_same a b = a.token == b.token && a.nr == b.nr && same_answer a.answer b.answer

-- those that are the same as none before them
abbrev pub firsts_behind : List Event → List Event → List Event
firsts_behind before [] = []
firsts_behind before (e ∷ es) = (if list_any (λ b. is_same b e) before then [] else e ∷ []) ++ firsts_behind (before ++ e ∷ []) es

-- the different events, in the order of their first lines: 1024 of them at most
abbrev pub listed : List Event → List Event
listed events = take 1024 (firsts_behind [] events)

-- how many lines tell others
abbrev pub count_others : List Event → ℕ
count_others events = count_by (λ e. not (list_any (λ b. is_same b e) (listed events))) events

-- ---- which processes they are of

-- it is this answer to this call, of this process
abbrev pub is_origin : Event → List ℕ → Event × List ℕ → Bool
is_origin e process origin = is_same e origin.0 && bytes_eq process origin.1

abbrev pub has_origin : List (Event × List ℕ) → Event → List ℕ → Bool
has_origin origins e process = list_any (is_origin e process) origins

-- 16 processes have the answer, or there are 1024 of all answers
abbrev pub is_full : List (Event × List ℕ) → Event → Bool
is_full origins e = nat_lt 1023 (length origins) || nat_lt 15 (count_by (λ origin. is_same e origin.0) origins)

abbrev pub with_origin : List (Event × List ℕ) → Event → List ℕ → List (Event × List ℕ)
with_origin origins e process = if has_origin origins e process || is_full origins e then origins else origins ++ (e, process) ∷ []

abbrev pub with_told : List (Event × List ℕ) → Option Event → List ℕ → List (Event × List ℕ)
with_told origins None process = origins
with_told origins (Some e) process = if length process == 0 then origins else with_origin origins e process

abbrev pub with_line : List (Event × List ℕ) → List ℕ → List (Event × List ℕ)
with_line origins line = with_told origins (event_in line) (process_on line)

-- the processes that lines name of each event, in the order of their first lines
abbrev pub origins_in : List ℕ → List (Event × List ℕ)
origins_in text = fold with_line [] (lines_of text)

abbrev pub is_other : List (Event × List ℕ) → Option Event → List ℕ → Bool
is_other origins None process = false
is_other origins (Some e) process = if length process == 0 then false else not (has_origin origins e process)

-- how many lines tell events of other processes
abbrev pub count_of_others : List (Event × List ℕ) → List ℕ → ℕ
count_of_others origins text = count_by (λ line. is_other origins (event_in line) (process_on line)) (lines_of text)

-- ---- how they are told

abbrev pub answer_line : Answer → List ℕ
answer_line (Code code) = hexadecimal code ++ codes " " ++ action_text code ++ line_feed ∷ []
answer_line Kill = codes "kill KILL_PROCESS or KILL_THREAD" ++ line_feed ∷ []

-- how many lines tell it, and the answer
abbrev pub times_line : List Event → Event → List ℕ
times_line all e = codes "told " ++ decimal (count_by (is_same e) all) ++ codes " times, code " ++ answer_line e.answer

abbrev pub process_line : List ℕ → List ℕ
process_line process = codes "process" ++ process ++ line_feed ∷ []

abbrev pub origin_line : Event → Event × List ℕ → List ℕ
origin_line e origin = if is_same e origin.0 then process_line origin.1 else []

-- the processes of an event
abbrev pub origin_lines : List (Event × List ℕ) → Event → List ℕ
origin_lines origins e = flat_map (origin_line e) origins

abbrev pub may_line : Bool → List ℕ
may_line may =
    (if may then codes "the bundle may answer so" else codes "the bundle never answers so: another filter did") ++ line_feed ∷ []

-- an answer to the same call
abbrev pub is_of_call : Event → Event → Bool
is_of_call a b = a.token == b.token && a.nr == b.nr

-- what the bundle says of the call: that stands above where one of those before is of the same call
abbrev pub entries_lines : Policy → List Rule → List ℕ → List Event → Event → List ℕ
entries_lines p rules ends before e =
    if list_any (λ b. is_of_call b e) before then codes "entries as above" ++ line_feed ∷ [] else said_lines p rules ends e.token e.nr

-- an event behind these
abbrev pub event_lines : Family → Policy → List Rule → List ℕ → List Event → List (Event × List ℕ) → List Event → Event → List ℕ
event_lines family p rules ends all origins before e =
    call_on (machine_with family e.token e.nr) e.token e.nr ++ times_line all e ++ origin_lines origins e ++ may_line (may_be p e)
    ++ entries_lines p rules ends before e

-- these events of all, behind others of them
abbrev pub lines_behind : Family → Policy → List Rule → List ℕ → List Event → List (Event × List ℕ) → List Event → List Event → List ℕ
lines_behind family p rules ends all origins before [] = []
lines_behind family p rules ends all origins before (e ∷ es) =
    event_lines family p rules ends all origins before e ++ lines_behind family p rules ends all origins (before ++ e ∷ []) es

abbrev pub counted : ℕ → List ℕ → List ℕ
counted n what = if n == 0 then [] else what ++ decimal n ++ line_feed ∷ []

abbrev pub others_line : ℕ → List ℕ
others_line n = counted n (codes "more lines that tell others: ")

abbrev pub further_line : ℕ → List ℕ
further_line n = counted n (codes "more lines of other processes: ")

abbrev pub unread_line : ℕ → List ℕ
unread_line n = counted n (codes "lines of filters that are not read: ")

abbrev pub audit_text : Family → Policy → List Rule → List ℕ → List Event → List (Event × List ℕ) → ℕ → ℕ → List ℕ
audit_text family p rules ends events origins further unread =
    lines_behind family p rules ends events origins [] (listed events) ++ others_line (count_others events) ++ further_line further
    ++ unread_line unread

-- ---- what is answered

-- no line is of a filter's answer, and the line that says so is told
pub record RefusesLines (events : List Event) (unread : ℕ) (told : Told) : Type 0 where
  pub none : events ≡ []
  pub all_read : unread ≡ 0
  pub tells : RefusesBy (codes "refused lines: none has arch, syscall and code") told

-- Each event is told once, with its processes. It is done if the profile may answer so to each and each line is read, and no otherwise.
pub record TellsEvents (family : Family) (p : Policy) (rules : List Rule) (ends : List ℕ) (events : List Event)
    (origins : List (Event × List ℕ)) (further unread : ℕ) (told : Told) : Type 0 where
  pub some : (events ≢ []) ⊎ (unread ≢ 0)
  pub tells : told.bytes.items ≡ audit_text family p rules ends events origins further unread
  pub end_is : EndsBy (All (MayBe p) events × (unread ≡ 0)) told.end

abbrev pub AnswersEvents : Family → Policy → List Rule → List ℕ → List Event → List (Event × List ℕ) → ℕ → ℕ → Told → Type 0
AnswersEvents family p rules ends events origins further unread told =
    RefusesLines events unread told ⊎ TellsEvents family p rules ends events origins further unread told

-- the profile that the bundle means was asked about the events that the lines tell
pub record AsksBundle (native : Arch) (bundle lines : List ℕ) (told : Told) : Type 0 where
  pub policy : Policy
  pub rules : List Rule
  pub ends : List ℕ
  pub read : IsReadAs native bundle policy rules ends
  pub answers : AnswersEvents (family_of native) policy rules ends (events_in lines) (origins_in lines)
      (count_of_others (origins_in lines) lines) (count_unread lines) told

abbrev pub IsAudited : Arch → List ℕ → List ℕ → Told → Type 0
IsAudited native bundle lines told = RefusesBundle native bundle told ⊎ AsksBundle native bundle lines told
