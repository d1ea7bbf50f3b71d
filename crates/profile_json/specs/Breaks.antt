-- Which rules a bundle breaks: a line for each way in which a refusal comes about. No order is in it.
use Rattle.std.specs.Prelude.{◌≡◌, ◌≢◌, ℕ, ◌<◌, ◌≤◌, List, [], length, map, bit_and, false, Some, None, IsSome, slice_get}
use Rattle.std.specs.List.{Contains}
use Rattle.std.specs.Str.{IsUtf8}
use Rattle.serde_json.specs.Read.{read}
use Rattle.serde_json.specs.Data.{Data}
use Rattle.machines.specs.declared.arch.Arch.{Arch}
use Rattle.machines.specs.declared.arch.Family.{Family}
use Rattle.machines.specs.declared.arch.Family.TheVariants.{Chosen, Whole}
use Rattle.machines.specs.Arch.{family_of}
use Rattle.profile.specs.declared.conditions.Op.{Op}
use Rattle.profile.specs.declared.rules.Rule.{Rule}
use Rattle.profile.specs.Operator.{mask_of}
use Rattle.profile.specs.Rule.{Clash}
use Rattle.profile.specs.Policy.{most_rules}
use Rattle.profile.specs.Build.{KeepsOnce}
use Rattle.profile_json.specs.declared.action.Action.{Action}
use Rattle.profile_json.specs.Keys as key
use Rattle.profile_json.specs.Fault.{Fault, syntax, version, no_seccomp, wrong_type, missing_key, unknown_action, unknown_arch}
use Rattle.profile_json.specs.Fault.{native_missing, unknown_call, empty_names, errno_not_taken, errno_range, unknown_op, bad_index}
use Rattle.profile_json.specs.Fault.{repeated_index, stray_datum, overlap, unsupported_key, too_many}
use Rattle.profile_json.specs.Parts.{EntryParts, rule_parts}
use Rattle.profile_json.specs.Lookup.{Member, missing, other_type, holds, member, or_default, object, text, whole, list}
use Rattle.profile_json.specs.Names.{editions, action_named, takes_data, filter_flags, op_named, arch_named, is_known}
use Rattle.profile_json.specs.Names.{most_entries, most_names}
use Rattle.profile.specs.Machines.{in_order}
use Rattle.profile_json.specs.Rules.{rules_under, rules_of}
use Rattle.profile_json.specs.CallName.{short_name}
use Rattle.profile_json.specs.Meaning.{IsText, IsSeccomp, NamesAction, ListsArchs, EntryMeans, EntriesMean}

-- a member that has to be there is not, or is of another type
pub data NeededBreaks {A : Type 0} (m : Member A) : Fault → Type 0 where
  is_missing : m ≡ missing → NeededBreaks m missing_key
  is_other : m ≡ other_type → NeededBreaks m wrong_type

pub data RootBreaks (family : Family) (t : Data) : Fault → Type 0 where
  no_object : object t ≡ None → RootBreaks family t wrong_type
  version_text : (f : Fault) → IsSome (object t) → NeededBreaks (member text key.oci_version t) f → RootBreaks family t f
  version_other : (v : List ℕ) → member text key.oci_version t ≡ holds v → ¬ Contains (editions family) v → RootBreaks family t version
  linux_missing : IsSome (object t) → member object key.linux t ≡ missing → RootBreaks family t no_seccomp
  linux_other : member object key.linux t ≡ other_type → RootBreaks family t wrong_type
  seccomp_missing : (l : Data) → member object key.linux t ≡ holds l → member object key.seccomp l ≡ missing
      → RootBreaks family t no_seccomp
  seccomp_other : (l : Data) → member object key.linux t ≡ holds l → member object key.seccomp l ≡ other_type
      → RootBreaks family t wrong_type

-- the action under a key
pub data ActionBreaks (family : Family) (k : List ℕ) (d : Data) : Fault → Type 0 where
  action_text : (f : Fault) → NeededBreaks (member text k d) f → ActionBreaks family k d f
  action_unknown : (name : List ℕ) → member text k d ≡ holds name → action_named family name ≡ None → ActionBreaks family k d unknown_action

-- the verdict of the action under one key, with the data under another
pub data VerdictBreaks (family : Family) (action_key errno_key : List ℕ) (d : Data) : Fault → Type 0 where
  action : (f : Fault) → ActionBreaks family action_key d f → VerdictBreaks family action_key errno_key d f
  errno_other : member whole errno_key d ≡ other_type → VerdictBreaks family action_key errno_key d wrong_type
  not_taken : (a : Action) (n : ℕ) → NamesAction family action_key d a → takes_data a ≡ false → member whole errno_key d ≡ holds n
      → VerdictBreaks family action_key errno_key d errno_not_taken
  large : (n : ℕ) → member whole errno_key d ≡ holds n → 4095 < n → VerdictBreaks family action_key errno_key d errno_range

-- a key whose member may be missing or empty alone
pub data EmptyBreaks {A : Type 0} (m : Member (List A)) : Fault → Type 0 where
  is_other : or_default [] m ≡ None → EmptyBreaks m wrong_type
  not_empty : (xs : List A) → or_default [] m ≡ Some xs → xs ≢ [] → EmptyBreaks m unsupported_key

-- flags or a listener are used
pub data UseBreaks (s : Data) : Fault → Type 0 where
  flags : (f : Fault) → EmptyBreaks (member list key.flags s) f → UseBreaks s f
  path : (f : Fault) → EmptyBreaks (member text key.listener_path s) f → UseBreaks s f
  metadata : (f : Fault) → EmptyBreaks (member text key.listener_metadata s) f → UseBreaks s f

-- a flag is none, or metadata stand there without a listener
pub data ListenerBreaks (s : Data) : Fault → Type 0 where
  flags_other : or_default [] (member list key.flags s) ≡ None → ListenerBreaks s wrong_type
  flag_other : (ds : List Data) (d : Data) → or_default [] (member list key.flags s) ≡ Some ds → Contains ds d → text d ≡ None
      → ListenerBreaks s wrong_type
  no_flag : (ds : List Data) (d : Data) (name : List ℕ) → or_default [] (member list key.flags s) ≡ Some ds → Contains ds d
      → text d ≡ Some name → ¬ Contains filter_flags name → ListenerBreaks s unsupported_key
  path_other : or_default [] (member text key.listener_path s) ≡ None → ListenerBreaks s wrong_type
  metadata_other : or_default [] (member text key.listener_metadata s) ≡ None → ListenerBreaks s wrong_type
  no_listener : (metadata : List ℕ) → or_default [] (member text key.listener_path s) ≡ Some []
      → or_default [] (member text key.listener_metadata s) ≡ Some metadata → metadata ≢ [] → ListenerBreaks s unsupported_key

abbrev pub KeysBreak : Family → Data → Fault → Type 0
KeysBreak Chosen s = UseBreaks s
KeysBreak Whole s = ListenerBreaks s

pub data ArchsBreak (s : Data) (native : Arch) : Fault → Type 0 where
  no_list : or_default [] (member list key.architectures s) ≡ None → ArchsBreak s native wrong_type
  no_text : (ds : List Data) (d : Data) → or_default [] (member list key.architectures s) ≡ Some ds → Contains ds d → text d ≡ None
      → ArchsBreak s native wrong_type
  unknown : (ds : List Data) (d : Data) (name : List ℕ) → or_default [] (member list key.architectures s) ≡ Some ds → Contains ds d
      → text d ≡ Some name → arch_named (family_of native) name ≡ None → ArchsBreak s native unknown_arch
  not_native : (archs : List Arch) → ListsArchs s native archs → ¬ Contains archs native → ArchsBreak s native native_missing

-- a member of `args`
pub data ArgBreaks (d : Data) : Fault → Type 0 where
  no_object : object d ≡ None → ArgBreaks d wrong_type
  index_whole : (f : Fault) → IsSome (object d) → NeededBreaks (member whole key.index d) f → ArgBreaks d f
  index_large : (n : ℕ) → member whole key.index d ≡ holds n → 6 ≤ n → ArgBreaks d bad_index
  value_whole : (f : Fault) → IsSome (object d) → NeededBreaks (member whole key.value d) f → ArgBreaks d f
  second_other : member whole key.value_two d ≡ other_type → ArgBreaks d wrong_type
  op_text : (f : Fault) → IsSome (object d) → NeededBreaks (member text key.op d) f → ArgBreaks d f
  op_unknown : (name : List ℕ) → member text key.op d ≡ holds name → op_named name ≡ None → ArgBreaks d unknown_op
  stray : (name : List ℕ) (o : Op) (value second : ℕ) → member text key.op d ≡ holds name → op_named name ≡ Some o
      → member whole key.value d ≡ holds value → or_default 0 (member whole key.value_two d) ≡ Some second
      → bit_and (mask_of o second) (mask_of o value) ≢ mask_of o second → ArgBreaks d stray_datum

pub data ArgsBreak (d : Data) : Fault → Type 0 where
  no_list : or_default [] (member list key.args d) ≡ None → ArgsBreak d wrong_type
  in_arg : (ds : List Data) (x : Data) (f : Fault) → or_default [] (member list key.args d) ≡ Some ds → Contains ds x → ArgBreaks x f
      → ArgsBreak d f
  twice : (ds : List Data) (i j : ℕ) (x y : Data) (n : ℕ) → or_default [] (member list key.args d) ≡ Some ds → i < j
      → slice_get ds i ≡ Some x → slice_get ds j ≡ Some y
      → member whole key.index x ≡ holds n → member whole key.index y ≡ holds n → ArgsBreak d repeated_index

-- a member of `names`
pub data NameBreaks (family : Family) (x : Data) : Fault → Type 0 where
  no_text : text x ≡ None → NameBreaks family x wrong_type
  unknown : (name : List ℕ) → text x ≡ Some name → is_known family name ≡ false → NameBreaks family x (unknown_call (short_name name))

-- `names` as a whole
pub data NamesListBreaks (family : Family) (d : Data) : Fault → Type 0 where
  no_list : (f : Fault) → NeededBreaks (member list key.names d) f → NamesListBreaks family d f
  none : member list key.names d ≡ holds [] → NamesListBreaks family d empty_names
  many : (ds : List Data) → member list key.names d ≡ holds ds → most_names family < length ds → NamesListBreaks family d too_many

pub data NamesBreak (family : Family) (d : Data) : Fault → Type 0 where
  in_list : (f : Fault) → NamesListBreaks family d f → NamesBreak family d f
  in_name : (ds : List Data) (x : Data) (f : Fault) → member list key.names d ≡ holds ds → Contains ds x → NameBreaks family x f
      → NamesBreak family d f

pub data EntryBreaks (family : Family) (d : Data) : Fault → Type 0 where
  no_object : object d ≡ None → EntryBreaks family d wrong_type
  names : (f : Fault) → IsSome (object d) → NamesBreak family d f → EntryBreaks family d f
  word : (f : Fault) → IsSome (object d) → VerdictBreaks family key.action key.errno_ret d f → EntryBreaks family d f
  args : (f : Fault) → IsSome (object d) → ArgsBreak d f → EntryBreaks family d f

-- Under this name both entries have rules with unlike verdicts, and one record matches both.
pub record ClashUnder (machines : List Arch) (x y : EntryParts) (name : List ℕ) : Type 0 where
  pub in_first : Contains x.names name
  pub in_second : Contains y.names name
  pub first : Rule
  pub first_is : Contains (rules_under machines x name) (rule_parts first)
  pub second : Rule
  pub second_is : Contains (rules_under machines y name) (rule_parts second)
  pub clash : Clash first second

-- the list as a whole, or two of its entries
pub data ListBreaks (s : Data) (native : Arch) : Fault → Type 0 where
  no_list : or_default [] (member list key.syscalls s) ≡ None → ListBreaks s native wrong_type
  many : (ds : List Data) → or_default [] (member list key.syscalls s) ≡ Some ds → most_entries (family_of native) < length ds
      → ListBreaks s native too_many
  many_rules : (archs : List Arch) (entries : List EntryParts) (said kept : List Rule) → ListsArchs s native archs
      → EntriesMean (family_of native) s entries
      → map rule_parts said ≡ rules_of (in_order (family_of native) archs) entries → KeepsOnce said kept → most_rules < length kept
      → ListBreaks s native too_many
  overlapping : (archs : List Arch) (ds : List Data) (i j : ℕ) (d e : Data) (x y : EntryParts) (name : List ℕ) → ListsArchs s native archs
      → or_default [] (member list key.syscalls s) ≡ Some ds → i < j → slice_get ds i ≡ Some d → slice_get ds j ≡ Some e
      → EntryMeans (family_of native) d x → EntryMeans (family_of native) e y → ClashUnder (in_order (family_of native) archs) x y name
      → ListBreaks s native (overlap (short_name name) i j)

pub data EntriesBreak (s : Data) (native : Arch) : Fault → Type 0 where
  in_list : (f : Fault) → ListBreaks s native f → EntriesBreak s native f
  in_entry : (ds : List Data) (d : Data) (f : Fault) → or_default [] (member list key.syscalls s) ≡ Some ds → Contains ds d
      → EntryBreaks (family_of native) d f → EntriesBreak s native f

-- the rules that the object under linux.seccomp breaks
pub data SeccompBreaks (s : Data) (native : Arch) : Fault → Type 0 where
  default_word : (f : Fault) → VerdictBreaks (family_of native) key.default_action key.default_errno_ret s f → SeccompBreaks s native f
  keys : (f : Fault) → KeysBreak (family_of native) s f → SeccompBreaks s native f
  archs : (f : Fault) → ArchsBreak s native f → SeccompBreaks s native f
  entries : (f : Fault) → EntriesBreak s native f → SeccompBreaks s native f

-- the rules that a bundle breaks
pub data ValueBreaks (t : Data) (native : Arch) : Fault → Type 0 where
  root : (f : Fault) → RootBreaks (family_of native) t f → ValueBreaks t native f
  seccomp : (s : Data) (f : Fault) → IsSeccomp t s → SeccompBreaks s native f → ValueBreaks t native f

-- the rules that the bytes break: they are no text of a value, or the value breaks one
pub data Breaks (bytes : List ℕ) (native : Arch) : Fault → Type 0 where
  no_value : (IsUtf8 bytes → read bytes ≡ None) → Breaks bytes native syntax
  in_value : (t : Data) (f : Fault) → IsText bytes t → ValueBreaks t native f → Breaks bytes native f
