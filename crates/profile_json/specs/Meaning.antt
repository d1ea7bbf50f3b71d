-- What a bundle means (OCI Runtime Specification 1.0.2 to 1.2.1, config-linux, Seccomp).
use Rattle.std.specs.Prelude.{◌≡◌, ℕ, ◌<◌, ◌≤◌, List, [], length, map, bit_and, true, Some, IsSome}
use Rattle.std.specs.List.{All, AllZip, Contains}
use Rattle.std.specs.Str.{IsUtf8}
use Rattle.serde_json.specs.Read.{read}
use Rattle.serde_json.specs.Data.{Data}
use Rattle.machines.specs.declared.arch.Arch.{Arch}
use Rattle.machines.specs.declared.arch.Family.{Family}
use Rattle.machines.specs.declared.arch.Family.TheVariants.{Chosen, Whole}
use Rattle.machines.specs.Arch.{family_of}
use Rattle.profile.specs.declared.rules.Rule.{Rule}
use Rattle.profile.specs.Operator.{are_distinct, mask_of}
use Rattle.profile.specs.Policy.{Policy, IsClear, most_rules}
use Rattle.profile.specs.Build.{KeepsOnce}
use Rattle.profile_json.specs.declared.action.Action.{Action}
use Rattle.profile_json.specs.Keys as key
use Rattle.profile_json.specs.Parts.{CondParts, EntryParts, rule_parts}
use Rattle.profile_json.specs.Lookup.{missing, holds, member, or_default, object, text, whole, list}
use Rattle.profile_json.specs.Names.{editions, action_named, takes_data, verdict_of, filter_flags, op_named, arch_named, is_known}
use Rattle.profile_json.specs.Names.{most_entries, most_names}
use Rattle.profile.specs.Machines.{in_order}
use Rattle.profile_json.specs.Rules.{or_native, rules_of}

-- the text of these bytes is the value t
abbrev pub IsText : List ℕ → Data → Type 0
IsText bytes t = IsUtf8 bytes × (read bytes ≡ Some t)

-- the object s stands under linux.seccomp of t
abbrev pub IsSeccomp : Data → Data → Type 0
IsSeccomp t s = (l : Data) × (member object key.linux t ≡ holds l) × (member object key.seccomp l ≡ holds s)

-- t is a bundle of an edition that is read, with the object s under linux.seccomp
pub record RootMeans (family : Family) (t s : Data) : Type 0 where
  pub root : IsSome (object t)
  pub version : List ℕ
  pub version_is : member text key.oci_version t ≡ holds version
  pub edition : Contains (editions family) version
  pub seccomp : IsSeccomp t s

-- the member under a key names the action a
abbrev pub NamesAction : Family → List ℕ → Data → Action → Type 0
NamesAction family k d a = (name : List ℕ) × (member text k d ≡ holds name) × (action_named family name ≡ Some a)

-- the data that an action gets: the number under a key, which ERRNO and TRACE alone take, or 1
pub data ErrnoMeans (k : List ℕ) (d : Data) (a : Action) : ℕ → Type 0 where
  none : member whole k d ≡ missing → ErrnoMeans k d a 1
  given : (n : ℕ) → member whole k d ≡ holds n → takes_data a ≡ true → n ≤ 4095 → ErrnoMeans k d a n

-- the verdict of the action under one key, with the data under another
pub record VerdictMeans (family : Family) (action_key errno_key : List ℕ) (d : Data) (word : ℕ) : Type 0 where
  pub action : Action
  pub action_is : NamesAction family action_key d action
  pub errno : ℕ
  pub errno_is : ErrnoMeans errno_key d action errno
  pub verdict_is : word ≡ verdict_of action errno

-- neither flags nor a listener are used
pub record UsesNone (s : Data) : Type 0 where
  pub no_flags : or_default [] (member list key.flags s) ≡ Some []
  pub no_path : or_default [] (member text key.listener_path s) ≡ Some []
  pub no_metadata : or_default [] (member text key.listener_metadata s) ≡ Some []

-- a text that names a flag
abbrev pub NamesFlag : Data → Type 0
NamesFlag d = (name : List ℕ) × (text d ≡ Some name) × Contains filter_flags name

-- flags and a listener are named, and metadata only for a listener
pub record NamesListener (s : Data) : Type 0 where
  pub flags : List Data
  pub flags_are : or_default [] (member list key.flags s) ≡ Some flags
  pub named : All NamesFlag flags
  pub path : List ℕ
  pub path_is : or_default [] (member text key.listener_path s) ≡ Some path
  pub metadata : List ℕ
  pub metadata_is : or_default [] (member text key.listener_metadata s) ≡ Some metadata
  pub for_listener : path ≡ [] → metadata ≡ []

-- the keys of how a filter is loaded, which change no verdict: only machines of whole tables read them
abbrev pub KeysMean : Family → Data → Type 0
KeysMean Chosen s = UsesNone s
KeysMean Whole s = NamesListener s

-- a text that names the machine a of a family
abbrev pub NamesArch : Family → Data → Arch → Type 0
NamesArch family d a = (name : List ℕ) × (text d ≡ Some name) × (arch_named family name ≡ Some a)

-- the machines that are listed, in the order of the text: the native one alone where there is none
pub record ListsArchs (s : Data) (native : Arch) (archs : List Arch) : Type 0 where
  pub values : List Data
  pub values_are : or_default [] (member list key.architectures s) ≡ Some values
  pub named : List Arch
  pub names : AllZip (NamesArch (family_of native)) values named
  pub archs_are : archs ≡ or_native native named

-- the condition that a member of `args` says. The second value counts under MASKED_EQ alone.
pub record ArgMeans (d : Data) (c : CondParts) : Type 0 where
  pub is_object : IsSome (object d)
  pub index_is : member whole key.index d ≡ holds c.index
  pub index_small : c.index < 6
  pub value_is : member whole key.value d ≡ holds c.value
  pub second : ℕ
  pub second_is : or_default 0 (member whole key.value_two d) ≡ Some second
  pub op_name : List ℕ
  pub op_text : member text key.op d ≡ holds op_name
  pub op_is : op_named op_name ≡ Some c.op
  pub datum_is : c.datum ≡ mask_of c.op second
  pub no_stray : bit_and c.datum (mask_of c.op c.value) ≡ c.datum

-- the conditions of an entry, each on an argument of its own
pub record ArgsMean (d : Data) (conds : List CondParts) : Type 0 where
  pub values : List Data
  pub values_are : or_default [] (member list key.args d) ≡ Some values
  pub each : AllZip ArgMeans values conds
  pub apart : are_distinct (map (λ c. c.index) conds) ≡ true

-- the call names of an entry: at least one and at most 128, in whole tables 512, each in the table of some machine
pub record NamesMean (family : Family) (d : Data) (names : List (List ℕ)) : Type 0 where
  pub values : List Data
  pub values_are : member list key.names d ≡ holds values
  pub some : 0 < length values
  pub few : length values ≤ most_names family
  pub each : AllZip (λ value name. (text value ≡ Some name) × (is_known family name ≡ true)) values names

pub record EntryMeans (family : Family) (d : Data) (e : EntryParts) : Type 0 where
  pub is_object : IsSome (object d)
  pub names : NamesMean family d e.names
  pub verdict_is : VerdictMeans family key.action key.errno_ret d e.word
  pub args : ArgsMean d e.conds

-- the entries, at most 256, in whole tables 1,024
pub record EntriesMean (family : Family) (s : Data) (entries : List EntryParts) : Type 0 where
  pub values : List Data
  pub values_are : or_default [] (member list key.syscalls s) ≡ Some values
  pub few : length values ≤ most_entries family
  pub each : AllZip (EntryMeans family) values entries

-- what the object under linux.seccomp says of machines and calls
pub record CallsMean (s : Data) (native : Arch) (p : Policy) : Type 0 where
  pub keys : KeysMean (family_of native) s
  pub archs : List Arch
  pub lists_archs : ListsArchs s native archs
  pub native_is : p.native ≡ native
  pub native_listed : Contains archs native
  pub machines_are : p.machines ≡ in_order (family_of native) archs
  pub entries : List EntryParts
  pub entries_are : EntriesMean (family_of native) s entries
  -- one rule for each entry, name and listed machine that has the name
  pub said : List Rule
  pub said_is : map rule_parts said ≡ rules_of p.machines entries
  -- equal ones once, at the first place, and not too many
  pub kept : KeepsOnce said p.rules
  pub few : length p.rules ≤ most_rules
  -- no record is given unlike verdicts
  pub clear : IsClear p.rules

-- The bundle t, read for a native machine, means the profile p.
pub record Means (t : Data) (native : Arch) (p : Policy) : Type 0 where
  pub seccomp : Data
  pub root : RootMeans (family_of native) t seccomp
  pub default_is : VerdictMeans (family_of native) key.default_action key.default_errno_ret seccomp p.default_word
  pub calls : CallsMean seccomp native p
