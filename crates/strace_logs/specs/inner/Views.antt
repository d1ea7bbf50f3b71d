-- What is held of calls, without where it lies in memory.
use Rattle.std.specs.Prelude.{ℕ, Bool, List, Option, map}
use Rattle.std.specs.Option.{option_map}
use denote.Ref.{Bor}
use Rattle.call_record.specs.Record.{words}
use Rattle.strace_logs.specs.Logged.{Logged}
use Rattle.strace_logs.specs.Replayed.{Refused}
use Rattle.strace_logs.specs.declared.logged.LogCall.{LogCall}
use Rattle.strace_logs.specs.declared.refusals.RefusedCall.{RefusedCall}
use Rattle.strace_logs.specs.declared.unused.Use.{Use}

abbrev pub logged : LogCall → Logged
logged x = record { arch = x.arch; words = words x.record; log = x.log.now; number = x.number; line = x.line.now }

abbrev pub all_logged : List LogCall → List Logged
all_logged calls = map logged calls

abbrev pub refused : RefusedCall → Refused
refused x = record { arch = x.arch; nr = x.nr; verdict = x.verdict; why = x.why; log = x.log.now; number = x.number; line = x.line.now }

abbrev pub all_refused : List RefusedCall → List Refused
all_refused calls = map refused calls

abbrev pub names_now : List (Option (Bor (List ℕ))) → List (Option (List ℕ))
names_now names = map (λ name. option_map (λ n. n.now) name) names

abbrev pub use_now : Use → List ℕ × Bool
use_now one = (one.name.now, one.is_used)

abbrev pub uses_now : List Use → List (List ℕ × Bool)
uses_now uses = map use_now uses
