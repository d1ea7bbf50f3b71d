-- The reading of a bundle, step by step, to the first fault.
use Rattle.std.specs.Prelude.{ℕ, ◌==◌, nat_lt, nat_le, List, [], ◌∷◌, ◌++◌, length, map, bit_and, Bool, Result, Ok, Err, Option, Some}
use Rattle.std.specs.Prelude.{None, if◌then◌else◌}
use Rattle.std.specs.Option.{ok_or}
use Rattle.std.specs.List.{list_any}
use Rattle.std.specs.Str.{bytes_eq}
use Rattle.serde_json.specs.Data.{Data}
use Rattle.machines.specs.declared.arch.Arch.{Arch}
use Rattle.machines.specs.declared.arch.Family.{Family}
use Rattle.machines.specs.declared.arch.Family.TheVariants.{Chosen, Whole}
use Rattle.machines.specs.Arch.{family_of}
use Rattle.profile.specs.declared.conditions.Op.{Op}
use Rattle.profile.specs.Operator.{mask_of}
use Rattle.profile_json.specs.declared.action.Action.{Action}
use Rattle.profile_json.specs.Keys as key
use Rattle.profile_json.specs.Fault.{Fault, version, no_seccomp, wrong_type, missing_key, unknown_action, unknown_arch, native_missing}
use Rattle.profile_json.specs.Fault.{unknown_call, empty_names, errno_not_taken, errno_range, unknown_op, bad_index, repeated_index}
use Rattle.profile_json.specs.Fault.{stray_datum, unsupported_key, too_many}
use Rattle.profile_json.specs.Parts.{CondParts, EntryParts}
use Rattle.profile_json.specs.Lookup.{Member, missing, other_type, holds, member, or_default, object, text, whole, list}
use Rattle.profile_json.specs.Names.{editions, action_named, takes_data, verdict_of, filter_flags, op_named, arch_named, is_known}
use Rattle.profile_json.specs.Names.{most_entries, most_names}
use Rattle.machines.specs.Arch.{same_arch}
use Rattle.profile_json.specs.Rules.{or_native}
use Rattle.profile_json.specs.CallName.{short_name}
use Rattle.profile_json.specs.inner.Outcome.{◌>>=◌}

-- ---- members

abbrev pub typed : {A : Type 0} → Option A → Result A Fault
typed o = ok_or o wrong_type

-- a member that has to be there, and the fault where it is missing
abbrev pub needed : {A : Type 0} → Fault → Member A → Result A Fault
needed f missing = Err f
needed f other_type = Err wrong_type
needed f (holds x) = Ok x

abbrev pub if_there : {A : Type 0} → Member A → Result (Option A) Fault
if_there missing = Ok None
if_there other_type = Err wrong_type
if_there (holds x) = Ok (Some x)

abbrev pub is_empty : {A : Type 0} → List A → Bool
is_empty xs = length xs == 0

-- what is in front, and then what was read
abbrev pub with_front : {A : Type 0} → List A → Result (List A) Fault → Result (List A) Fault
with_front front reading = reading >>= (λ xs. Ok (front ++ xs))

-- each value of a list, read
abbrev pub each : {A : Type 0} → (Data → Result A Fault) → List Data → Result (List A) Fault
each read [] = Ok []
each read (d ∷ ds) = read d >>= (λ x. with_front (x ∷ []) (each read ds))

-- ---- root

unfoldable pub version_of : Family → Data → Result (Unit {0}) Fault
version_of family t = do
  v ← needed missing_key (member text key.oci_version t)
  if list_any (λ e. bytes_eq e v) (editions family) then Ok tt else Err version

unfoldable pub seccomp_of : Data → Result Data Fault
seccomp_of t = do
  l ← needed no_seccomp (member object key.linux t)
  needed no_seccomp (member object key.seccomp l)

unfoldable pub root_of : Family → Data → Result Data Fault
root_of family t = do
  root ← typed (object t)
  v ← version_of family root
  seccomp_of root

-- ---- actions

unfoldable pub action_at : Family → List ℕ → Data → Result Action Fault
action_at family k d = do
  name ← needed missing_key (member text k d)
  ok_or (action_named family name) unknown_action

abbrev pub errno_in : Action → Member ℕ → Result ℕ Fault
errno_in a missing = Ok 1
errno_in a other_type = Err wrong_type
errno_in a (holds n) = if takes_data a then (if nat_le n 4095 then Ok n else Err errno_range) else Err errno_not_taken

unfoldable pub verdict_at : Family → List ℕ → List ℕ → Data → Result ℕ Fault
verdict_at family action_key errno_key d = do
  a ← action_at family action_key d
  n ← errno_in a (member whole errno_key d)
  Ok (verdict_of a n)

unfoldable pub default_of : Family → Data → Result ℕ Fault
default_of family s = verdict_at family key.default_action key.default_errno_ret s

unfoldable pub entry_verdict : Family → Data → Result ℕ Fault
entry_verdict family d = verdict_at family key.action key.errno_ret d

-- ---- flags and the listener

abbrev pub empty : {A : Type 0} → Member (List A) → Result (Unit {0}) Fault
empty m = typed (or_default [] m) >>= (λ xs. if is_empty xs then Ok tt else Err unsupported_key)

unfoldable pub unused_of : Data → Result (Unit {0}) Fault
unused_of s = do
  b ← empty (member list key.flags s)
  c ← empty (member text key.listener_path s)
  empty (member text key.listener_metadata s)

unfoldable pub flag_of : Data → Result (Unit {0}) Fault
flag_of d = do
  name ← typed (text d)
  if list_any (λ f. bytes_eq f name) filter_flags then Ok tt else Err unsupported_key

abbrev pub flags_in : List Data → Result (Unit {0}) Fault
flags_in [] = Ok tt
flags_in (d ∷ ds) = flag_of d >>= (λ u. flags_in ds)

unfoldable pub flags_of : Data → Result (Unit {0}) Fault
flags_of s = do
  ds ← typed (or_default [] (member list key.flags s))
  flags_in ds

abbrev pub metadata_for : List ℕ → List ℕ → Result (Unit {0}) Fault
metadata_for path metadata = if is_empty path then (if is_empty metadata then Ok tt else Err unsupported_key) else Ok tt

unfoldable pub listener_of : Data → Result (Unit {0}) Fault
listener_of s = do
  path ← typed (or_default [] (member text key.listener_path s))
  metadata ← typed (or_default [] (member text key.listener_metadata s))
  metadata_for path metadata

unfoldable pub named_of : Data → Result (Unit {0}) Fault
named_of s = do
  b ← flags_of s
  listener_of s

abbrev pub keys_of : Family → Data → Result (Unit {0}) Fault
keys_of Chosen s = unused_of s
keys_of Whole s = named_of s

-- ---- machines

unfoldable pub arch_of : Family → Data → Result Arch Fault
arch_of family d = do
  name ← typed (text d)
  ok_or (arch_named family name) unknown_arch

abbrev pub archs_or_native : Arch → List Data → Result (List Arch) Fault
archs_or_native native ds = each (arch_of (family_of native)) ds >>= (λ archs. Ok (or_native native archs))

unfoldable pub archs_of : Arch → Data → Result (List Arch) Fault
archs_of native s = do
  ds ← typed (or_default [] (member list key.architectures s))
  archs ← archs_or_native native ds
  if list_any (same_arch native) archs then Ok archs else Err native_missing

-- ---- conditions

-- the datum of a condition: the second value counts under MASKED_EQ alone
unfoldable pub index_at : List CondParts → Data → Result ℕ Fault
index_at front d = do
  i ← needed missing_key (member whole key.index d)
  if nat_lt i 6 then (if list_any (λ j. j == i) (map (λ c. c.index) front) then Err repeated_index else Ok i) else Err bad_index

unfoldable pub op_at : Data → Result Op Fault
op_at d = do
  name ← needed missing_key (member text key.op d)
  ok_or (op_named name) unknown_op

unfoldable pub cond_of : ℕ → Op → ℕ → ℕ → Result CondParts Fault
cond_of index op value two =
    if bit_and (mask_of op two) (mask_of op value) == mask_of op two
    then Ok (record { index = index; op = op; value = value; datum = mask_of op two })
    else Err stray_datum

-- the condition of a member of `args`, after the conditions in front
unfoldable pub arg_of : List CondParts → Data → Result CondParts Fault
arg_of front d = do
  o ← typed (object d)
  index ← index_at front o
  value ← needed missing_key (member whole key.value o)
  two ← typed (or_default 0 (member whole key.value_two o))
  op ← op_at o
  cond_of index op value two

abbrev pub args_after : List CondParts → List Data → Result (List CondParts) Fault
args_after front [] = Ok front
args_after front (d ∷ ds) = arg_of front d >>= (λ c. args_after (front ++ c ∷ []) ds)

unfoldable pub args_of : Data → Result (List CondParts) Fault
args_of d = do
  ds ← typed (or_default [] (member list key.args d))
  args_after [] ds

-- ---- entries

unfoldable pub name_of : Family → Data → Result (List ℕ) Fault
name_of family d = do
  name ← typed (text d)
  if is_known family name then Ok name else Err (unknown_call (short_name name))

unfoldable pub names_of : Family → Data → Result (List (List ℕ)) Fault
names_of family d = do
  ds ← needed missing_key (member list key.names d)
  if is_empty ds then Err empty_names else (if nat_lt (most_names family) (length ds) then Err too_many else each (name_of family) ds)

unfoldable pub entry_of : Family → Data → Result EntryParts Fault
entry_of family d = do
  o ← typed (object d)
  names ← names_of family o
  word ← entry_verdict family o
  conds ← args_of o
  Ok (record { names = names; conds = conds; word = word })

unfoldable pub entries_of : Family → Data → Result (List EntryParts) Fault
entries_of family s = do
  ds ← typed (or_default [] (member list key.syscalls s))
  if nat_lt (most_entries family) (length ds) then Err too_many else each (entry_of family) ds

-- ---- the whole

-- what is read before the rules are made
pub record Said : Type 0 where
  pub default_word : ℕ
  pub archs : List Arch
  pub entries : List EntryParts

unfoldable pub said_of : Arch → Data → Result Said Fault
said_of native s = do
  word ← default_of (family_of native) s
  r ← keys_of (family_of native) s
  archs ← archs_of native s
  entries ← entries_of (family_of native) s
  Ok (record { default_word = word; archs = archs; entries = entries })
