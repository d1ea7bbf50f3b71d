-- Groups of calls, as systemd 257 has them: the names that stand for each, of calls and of other groups.
use Rattle.std.specs.Prelude.{ℕ, nat_eq, Bool, true, false, codes, if◌then◌else◌, List, [], ◌∷◌, ◌++◌, map}
use Rattle.std.specs.List.{flat_map, starts_with}
use Rattle.std.specs.Str.{bytes_eq}
use denote.Ref.{Bor}
use Rattle.call_groups.specs.declared.names.TheConstants.{BASIC_IO_TO_DEBUG, DEFAULTS, DEFAULTS_TO_AIO, EVENTS}
use Rattle.call_groups.specs.declared.names.TheConstants.{FILES, FILES_LATER, IPC_TO_MODULE}
use Rattle.call_groups.specs.declared.later_names.TheConstants.{MOUNT_TO_NETWORK, OBSOLETE_TO_PKEY, PRIVILEGED, PROCESS_TO_REBOOT}
use Rattle.call_groups.specs.declared.later_names.TheConstants.{RESOURCES_TO_SETUID, SERVICES, SERVICES_TO_TIMER, SIGNAL_TO_SYNC}

abbrev pub Text : Type 0
Text = List ℕ

-- a text, wherever it lies in memory
abbrev pub now_of : Bor Text → Text
now_of text = text.now

-- a group, and names that stand for it
abbrev pub RowEntry : Type 0
RowEntry = Bor Text × Bor (List (Bor Text))

-- the same without where the texts lie in memory
abbrev pub PlainRow : Type 0
PlainRow = Text × List Text

abbrev pub row : RowEntry → PlainRow
row e = (e.0.now, map now_of e.1.now)

-- ---- the tables

unfoldable pub defaults : List PlainRow
defaults = map (λ e. (e.0.now, map (λ name. name.now) e.1.now)) DEFAULTS.now

unfoldable pub defaults_to_aio : List PlainRow
defaults_to_aio = map (λ e. (e.0.now, map (λ name. name.now) e.1.now)) DEFAULTS_TO_AIO.now

unfoldable pub basic_io_to_debug : List PlainRow
basic_io_to_debug = map (λ e. (e.0.now, map (λ name. name.now) e.1.now)) BASIC_IO_TO_DEBUG.now

unfoldable pub files : List PlainRow
files = map (λ e. (e.0.now, map (λ name. name.now) e.1.now)) FILES.now

unfoldable pub files_later : List PlainRow
files_later = map (λ e. (e.0.now, map (λ name. name.now) e.1.now)) FILES_LATER.now

unfoldable pub events : List PlainRow
events = map (λ e. (e.0.now, map (λ name. name.now) e.1.now)) EVENTS.now

unfoldable pub ipc_to_module : List PlainRow
ipc_to_module = map (λ e. (e.0.now, map (λ name. name.now) e.1.now)) IPC_TO_MODULE.now

unfoldable pub mount_to_network : List PlainRow
mount_to_network = map (λ e. (e.0.now, map (λ name. name.now) e.1.now)) MOUNT_TO_NETWORK.now

unfoldable pub obsolete_to_pkey : List PlainRow
obsolete_to_pkey = map (λ e. (e.0.now, map (λ name. name.now) e.1.now)) OBSOLETE_TO_PKEY.now

unfoldable pub privileged : List PlainRow
privileged = map (λ e. (e.0.now, map (λ name. name.now) e.1.now)) PRIVILEGED.now

unfoldable pub process_to_reboot : List PlainRow
process_to_reboot = map (λ e. (e.0.now, map (λ name. name.now) e.1.now)) PROCESS_TO_REBOOT.now

unfoldable pub resources_to_setuid : List PlainRow
resources_to_setuid = map (λ e. (e.0.now, map (λ name. name.now) e.1.now)) RESOURCES_TO_SETUID.now

unfoldable pub signal_to_sync : List PlainRow
signal_to_sync = map (λ e. (e.0.now, map (λ name. name.now) e.1.now)) SIGNAL_TO_SYNC.now

unfoldable pub services : List PlainRow
services = map (λ e. (e.0.now, map (λ name. name.now) e.1.now)) SERVICES.now

unfoldable pub services_to_timer : List PlainRow
services_to_timer = map (λ e. (e.0.now, map (λ name. name.now) e.1.now)) SERVICES_TO_TIMER.now

-- ---- what a group is

-- the names that rows have for a group
abbrev pub names_of : Text → PlainRow → List Text
names_of group r = if bytes_eq r.0 group then r.1 else []

abbrev pub names_in : List PlainRow → Text → List Text
names_in rows group = flat_map (names_of group) rows

-- those of the tables, a third at a time, and of all
abbrev pub names_until_files : Text → List Text
names_until_files group =
    names_in defaults group ++ (names_in defaults_to_aio group ++ (names_in basic_io_to_debug group
    ++ (names_in files group ++ names_in files_later group)))

abbrev pub names_until_privileged : Text → List Text
names_until_privileged group =
    names_in events group ++ (names_in ipc_to_module group ++ (names_in mount_to_network group
    ++ (names_in obsolete_to_pkey group ++ names_in privileged group)))

abbrev pub names_until_timer : Text → List Text
names_until_timer group =
    names_in process_to_reboot group ++ (names_in resources_to_setuid group ++ (names_in signal_to_sync group
    ++ (names_in services group ++ names_in services_to_timer group)))

abbrev pub own_names : Text → List Text
own_names group = names_until_files group ++ (names_until_privileged group ++ names_until_timer group)

-- there is a group of that name, if names stand for it
abbrev pub has_some : List Text → Bool
has_some [] = false
has_some (name ∷ names) = true

abbrev pub is_known : Text → Bool
is_known group = has_some (own_names group)

-- a name that stands for a group begins with an @
abbrev pub is_group : Text → Bool
is_group name = starts_with nat_eq name (codes "@")

-- a name, or what stands for the group that it names
abbrev pub written_out : Text → List Text
written_out name = if is_group name then own_names name else name ∷ []

abbrev pub all_written_out : List Text → List Text
all_written_out names = flat_map written_out names

-- The calls of a group. A group in it may have a group in turn, and that one has none.
abbrev pub calls_of : Text → List Text
calls_of group = all_written_out (all_written_out (own_names group))

-- those of several groups
abbrev pub calls_of_all : List Text → List Text
calls_of_all groups = flat_map calls_of groups
