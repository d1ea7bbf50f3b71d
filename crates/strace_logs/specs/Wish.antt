-- What the words of `learn` ask for.
use Rattle.std.specs.Prelude.{ℕ, ◌≡◌, ◌≢◌, ◌+◌, ◌||◌, Bool, false, codes, List, [], ◌∷◌, Option, Some, None, unwrap_or}
use Rattle.std.specs.List.{All, filter_map, flat_map, last_or}
use Rattle.std.specs.Str.{bytes_eq}
use Rattle.call_record.specs.Verdict.{errno, kill_process, log}
use Rattle.strace_logs.specs.declared.lists.Otherwise.{Otherwise}
use Rattle.strace_logs.specs.declared.lists.Otherwise.TheVariants.{Errno, Enosys, Log, Kill}
use Rattle.strace_logs.specs.declared.lists.Runtime.{Runtime}
use Rattle.strace_logs.specs.declared.lists.Runtime.TheVariants.{Crun, Runc, Bubblewrap, Docker, Podman}

-- the word for a runtime
abbrev pub runtime_word : Runtime → List ℕ
runtime_word Crun = codes "crun"
runtime_word Runc = codes "runc"
runtime_word Bubblewrap = codes "bwrap"
runtime_word Docker = codes "docker"
runtime_word Podman = codes "podman"

-- the word for what becomes of the calls that no log shows
abbrev pub otherwise_word : Otherwise → List ℕ
otherwise_word Errno = codes "errno"
otherwise_word Enosys = codes "enosys"
otherwise_word Log = codes "log"
otherwise_word Kill = codes "kill"

-- the verdict that it is of them: EPERM is 1, and ENOSYS 38 (errno(3))
abbrev pub rest_word : Otherwise → ℕ
rest_word Errno = errno + 1
rest_word Enosys = errno + 38
rest_word Log = log
rest_word Kill = kill_process

-- One thing that words ask for. It is a log by its name, a call of which values are kept, a runtime, or what becomes of the
-- other calls.
pub data Item : Type 0 where
  Reads : List ℕ → Item
  Keeps : List ℕ → Item
  For : Runtime → Item
  Else : Otherwise → Item

-- its words
abbrev pub words_of : Item → List (List ℕ)
words_of (Reads log) = log ∷ []
words_of (Keeps call) = codes "keep" ∷ call ∷ []
words_of (For runtime) = codes "for" ∷ runtime_word runtime ∷ []
words_of (Else otherwise) = codes "else" ∷ otherwise_word otherwise ∷ []

-- a word that another one stands behind
abbrev pub is_mark : List ℕ → Bool
is_mark word = bytes_eq word (codes "keep") || bytes_eq word (codes "for") || bytes_eq word (codes "else")

-- the things of each kind; any word but those is the name of a log
abbrev pub log_of : Item → Option (List ℕ)
log_of (Reads log) = Some log
log_of other = None

abbrev pub IsPlain : List ℕ → Type 0
IsPlain log = is_mark log ≡ false

abbrev pub runtime_of : Item → Option Runtime
runtime_of (For runtime) = Some runtime
runtime_of other = None

abbrev pub otherwise_of : Item → Option Otherwise
otherwise_of (Else otherwise) = Some otherwise
otherwise_of other = None

-- The words ask for things, one behind the other, and these are the logs, in order, one at least. The last runtime counts, and the last
-- word for the other calls, which fail with EPERM where no word says more.
pub record AskFor (words logs : List (List ℕ)) (runtime : Option Runtime) (otherwise : Otherwise) : Type 0 where
  pub items : List Item
  pub are : words ≡ flat_map words_of items
  pub names : filter_map log_of items ≡ logs
  pub plain : All IsPlain logs
  pub some : logs ≢ []
  pub last : last_or None (filter_map runtime_of items) ≡ runtime
  pub rest : unwrap_or (last_or None (filter_map otherwise_of items)) Errno ≡ otherwise
