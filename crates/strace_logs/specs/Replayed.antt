-- What is told of logs that are played through a bundle.
use Rattle.std.specs.Prelude.{ℕ, ◌≡◌, ◌⊎◌, ◌==◌, ◌&&◌, Bool, true, false, if◌then◌else◌, List, [], ◌∷◌, ◌++◌, Some, None, IfSome}
use Rattle.std.specs.Prelude.{◌-◌, codes, count_by, length, map, unwrap_or}
use Rattle.std.specs.Fmt.{decimal}
use Rattle.std.specs.List.{All, flat_map, list_any}
use Rattle.texts.specs.Lines.{line_feed}
use Rattle.call_record.specs.Fate.{is_left}
use Rattle.call_record.specs.Verdict.{Through, is_through}
use Rattle.call_record.specs.Words.{word}
use Rattle.machines.specs.declared.arch.Arch.{Arch}
use Rattle.machines.specs.Arch.{machine_name, token_of}
use Rattle.call_tables.specs.Tables.{table_of}
use Rattle.call_tables.specs.Table.{name_in}
use Rattle.profile.specs.declared.rules.Rule.{Rule}
use Rattle.profile.specs.Policy.{Policy, Says}
use Rattle.profile.specs.Said.{said}
use Rattle.wording.specs.declared.reason.Reason.{Reason}
use Rattle.wording.specs.declared.reason.Reason.TheVariants.{Foreign, Entry, Default}
use Rattle.wording.specs.declared.told.Told.{Told}
use Rattle.wording.specs.Phrases.{action_text}
use Rattle.wording.specs.Reason.{reason_of}
use Rattle.wording.specs.Told.{EndsBy, RefusesBundle, RefusesBy}
use Rattle.strace_logs.specs.Line.{shown_in, words_of_call}
use Rattle.wording.specs.Lines.{lines_of}
use Rattle.strace_logs.specs.Logged.{Logged, calls_in, first_none}
use Rattle.strace_logs.specs.Unread.{are_read, unread_text}
use Rattle.strace_logs.specs.Unused.{unused_text}
use Rattle.wording.specs.Understood.{IsReadAs}

-- ---- which calls are refused

-- A call that is not carried out: its machine and number, the verdict that is said of it, and why. Also, where a log shows it.
pub record Refused : Type 0 where
  pub arch : Arch
  pub nr : ℕ
  pub verdict : ℕ
  pub why : Reason
  pub log : List ℕ
  pub number : ℕ
  pub line : List ℕ

abbrev pub with_verdict : Logged → ℕ → Reason → Refused
with_verdict call v why =
    record { arch = call.arch; nr = word call.words 0; verdict = v; why = why; log = call.log; number = call.number; line = call.line }

abbrev pub refused_of : Policy → List Rule → List ℕ → Logged → List Refused
refused_of p rules ends call =
    if is_through (said p call.words) then [] else with_verdict call (said p call.words) (reason_of p rules ends call.words) ∷ []

abbrev pub refused_in : Policy → List Rule → List ℕ → List Logged → List Refused
refused_in p rules ends calls = flat_map (refused_of p rules ends) calls

-- ---- which of them are told together

abbrev pub same_reason : Reason → Reason → Bool
same_reason Foreign Foreign = true
same_reason (Entry a) (Entry b) = a == b
same_reason Default Default = true
same_reason a b = false

-- they are of one call, with one verdict, for one reason
abbrev pub is_alike : Refused → Refused → Bool
is_alike a b =
    token_of a.arch == token_of b.arch && a.nr == b.nr && a.verdict == b.verdict && same_reason a.why b.why

-- those that are like none before them
abbrev pub firsts_behind : List Refused → List Refused → List Refused
firsts_behind before [] = []
firsts_behind before (x ∷ xs) = (if list_any (λ b. is_alike b x) before then [] else x ∷ []) ++ firsts_behind (before ++ x ∷ []) xs

-- ---- how they are told

abbrev pub why_text : Reason → List ℕ
why_text Foreign = codes "foreign"
why_text (Entry entry) = codes "entry " ++ decimal entry
why_text Default = codes "default"

abbrev pub name_of : Arch → ℕ → List ℕ
name_of arch nr = unwrap_or (name_in (table_of arch) nr) (codes "a call")

-- a tracer or a listener decides on the call
abbrev pub is_left_call : Refused → Bool
is_left_call x = is_left x.verdict

abbrev pub fate_text : Bool → List ℕ
fate_text left = if left then codes "left " else codes "refused "

-- the call, the verdict and why
abbrev pub call_text : Refused → List ℕ
call_text x =
    fate_text (is_left x.verdict) ++ name_of x.arch x.nr ++ codes ", number " ++ decimal x.nr
    ++ codes " of " ++ machine_name x.arch ++ codes ": "
    ++ action_text x.verdict ++ codes ", "

abbrev pub times_text : ℕ → List ℕ
times_text n = codes ", " ++ decimal n ++ codes " times" ++ line_feed ∷ []

-- the log, the number of the line, and the line
abbrev pub place_text : Refused → List ℕ
place_text x = codes "  " ++ x.log ++ codes ":" ++ decimal x.number ++ codes ": " ++ x.line ++ line_feed ∷ []

-- the line of a call with its verdict and why, and how often; and the first line that shows it
abbrev pub refusal_text : List Refused → Refused → List ℕ
refusal_text all x =
    call_text x ++ why_text x.why ++ times_text (count_by (is_alike x) all) ++ place_text x

abbrev pub left_text : ℕ → List ℕ
left_text left = if left == 0 then [] else codes ", " ++ decimal left ++ codes " left to a tracer or a listener"

abbrev pub refused_text : ℕ → ℕ → List ℕ
refused_text refused calls = decimal refused ++ codes " of " ++ decimal calls ++ codes " records refused"

abbrev pub count_text : ℕ → ℕ → ℕ → List ℕ
count_text refused left calls = refused_text refused calls ++ left_text left ++ line_feed ∷ []

-- how many of the calls are refused, and how many are left to a tracer or a listener
abbrev pub counts_text : List Refused → ℕ → List ℕ
counts_text all calls = count_text (length all - count_by is_left_call all) (count_by is_left_call all) calls

-- each call that is refused or left once, with how often it is; how many records these are; and if it is asked for, what is not used
abbrev pub replay_text : Policy → List Rule → List ℕ → Bool → List Logged → List ℕ
replay_text p rules ends unused calls =
    let refused = refused_in p rules ends calls in
    flat_map (refusal_text refused) (firsts_behind [] refused) ++ counts_text refused (length calls)
    ++ (if unused then unused_text rules ends calls else [])

-- ---- what is answered

-- what the profile says of a call's record carries the call out
abbrev pub LetsThrough : Policy → List ℕ → Type 0
LetsThrough p r = (v : ℕ) × Says p r v × Through v

-- the call that the line tells, if it tells one, is carried out
abbrev pub LineIsThrough : Arch → Policy → List ℕ → Type 0
LineIsThrough native p line = IfSome (shown_in native line) (λ call. LetsThrough p (words_of_call call))

abbrev pub TextIsThrough : Arch → Policy → List ℕ → Type 0
TextIsThrough native p text = All (LineIsThrough native p) (lines_of text)

-- one of the files is no log, and the line that says so is told
pub record RefusesLog (native : Arch) (logs : List (List ℕ × List ℕ)) (told : Told) : Type 0 where
  pub name : List ℕ
  pub first : first_none native logs ≡ Some name
  pub tells : RefusesBy (codes "refused log " ++ name
      ++ codes ": it is no log of strace -f -n -e raw=all: no line tells a call, or one has an argument that is no number") told

-- The logs were played through the profile that the bundle means. It is done if each record is carried out and each line is read, and no
-- otherwise.
pub record Replays (native : Arch) (bundle : List ℕ) (logs : List (List ℕ × List ℕ)) (unused : Bool) (told : Told) : Type 0 where
  pub policy : Policy
  pub rules : List Rule
  pub ends : List ℕ
  pub read : IsReadAs native bundle policy rules ends
  pub are_logs : first_none native logs ≡ None
  pub tells : told.bytes.items ≡ replay_text policy rules ends unused (calls_in native logs) ++ unread_text native logs
  pub end_is : EndsBy (All (TextIsThrough native policy) (map (λ log. log.1) logs) × (are_read native logs ≡ true)) told.end

-- The bundle is refused, or a file that is no log. Or the logs, each by its name and its text, were played through the bundle.
abbrev pub TellsReplayed : Arch → Bool → List ℕ → List (List ℕ × List ℕ) → Told → Type 0
TellsReplayed native unused bundle logs told =
    RefusesBundle native bundle told ⊎ (RefusesLog native logs told ⊎ Replays native bundle logs unused told)
