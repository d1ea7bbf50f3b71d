-- Where a fault stands: `Breaks`, told by place.
use Rattle.std.specs.Prelude.{◌≡◌, ◌⊎◌, ℕ, ◌<◌, List, [], Some, None, IsSome, slice_get}
use Rattle.std.specs.Str.{IsUtf8}
use Rattle.serde_json.specs.Read.{read}
use Rattle.serde_json.specs.Data.{Data}
use Rattle.machines.specs.declared.arch.Arch.{Arch}
use Rattle.machines.specs.declared.arch.Family.{Family}
use Rattle.machines.specs.Arch.{family_of}
use Rattle.profile_json.specs.declared.refusal.Part.{Part}
use Rattle.profile_json.specs.declared.refusal.Part.TheVariants as part
use Rattle.profile_json.specs.declared.refusal.Place.{Place}
use Rattle.profile_json.specs.declared.refusal.Place.TheVariants as place
use Rattle.profile_json.specs.Keys as key
use Rattle.profile_json.specs.Fault.{Fault, syntax, wrong_type, repeated_index}
use Rattle.profile_json.specs.Lookup.{holds, member, or_default, object, whole, list}
use Rattle.profile_json.specs.Meaning.{IsText, IsSeccomp}
use Rattle.profile_json.specs.Breaks.{RootBreaks, VerdictBreaks, KeysBreak, ArchsBreak, NameBreaks, NamesListBreaks, ArgBreaks, ListBreaks}

-- the value at this place of a list of names breaks a rule
abbrev pub NameBreaksAt : Family → List Data → ℕ → Fault → Type 0
NameBreaksAt family ds i f = (x : Data) × (slice_get ds i ≡ Some x) × NameBreaks family x f

-- of the values of a list before this place one names the argument n
abbrev pub IsNamedBefore : List Data → ℕ → ℕ → Type 0
IsNamedBefore ds i n = (j : ℕ) × (y : Data) × (j < i) × (slice_get ds j ≡ Some y) × (member whole key.index y ≡ holds n)

-- the value names an argument that one before it names
abbrev pub RepeatsIndex : List Data → ℕ → Data → Type 0
RepeatsIndex ds i x = (n : ℕ) × (member whole key.index x ≡ holds n) × IsNamedBefore ds i n

-- the value at this place of a list of conditions breaks a rule
abbrev pub ArgBreaksAt : List Data → ℕ → Fault → Type 0
ArgBreaksAt ds i f = (x : Data) × (slice_get ds i ≡ Some x) × (ArgBreaks x f ⊎ ((f ≡ repeated_index) × RepeatsIndex ds i x))

-- the rule that an object breaks at one of the members of an entry
abbrev pub MemberBreaksAt : Family → Data → Part → Fault → Type 0
MemberBreaksAt family d part.Itself f = ⊥
MemberBreaksAt family d part.Names f = NamesListBreaks family d f
MemberBreaksAt family d (part.Name i) f = (ds : List Data) × (member list key.names d ≡ holds ds) × NameBreaksAt family ds i f
MemberBreaksAt family d part.Verdict f = VerdictBreaks family key.action key.errno_ret d f
MemberBreaksAt family d part.Args f = (or_default [] (member list key.args d) ≡ None) × (f ≡ wrong_type)
MemberBreaksAt family d (part.Arg i) f = (ds : List Data) × (or_default [] (member list key.args d) ≡ Some ds) × ArgBreaksAt ds i f

-- the rule that an entry breaks, at one of its members
abbrev pub EntryBreaksAt : Family → Data → Part → Fault → Type 0
EntryBreaksAt family d part.Itself f = (object d ≡ None) × (f ≡ wrong_type)
EntryBreaksAt family d p f = IsSome (object d) × MemberBreaksAt family d p f

-- a place that names one of these values, which breaks a rule
abbrev pub AnEntryBreaksAt : Family → List Data → Place → Fault → Type 0
AnEntryBreaksAt family ds (place.Entry i p) f = (d : Data) × (slice_get ds i ≡ Some d) × EntryBreaksAt family d p f
AnEntryBreaksAt family ds _ f = ⊥

-- the rule that the object under linux.seccomp breaks at a place
abbrev pub SeccompBreaksAt : Data → Arch → Place → Fault → Type 0
SeccompBreaksAt s native place.Text f = ⊥
SeccompBreaksAt s native place.Root f = ⊥
SeccompBreaksAt s native place.Default f = VerdictBreaks (family_of native) key.default_action key.default_errno_ret s f
SeccompBreaksAt s native place.Keys f = KeysBreak (family_of native) s f
SeccompBreaksAt s native place.Machines f = ArchsBreak s native f
SeccompBreaksAt s native place.Entries f = ListBreaks s native f
SeccompBreaksAt s native (place.Entry i p) f =
    (ds : List Data) × (or_default [] (member list key.syscalls s) ≡ Some ds) × AnEntryBreaksAt (family_of native) ds (place.Entry i p) f

-- the rule that the bytes break at a place
abbrev pub BreaksAt : List ℕ → Arch → Place → Fault → Type 0
BreaksAt bytes native place.Text f = (IsUtf8 bytes → read bytes ≡ None) × (f ≡ syntax)
BreaksAt bytes native place.Root f = (t : Data) × IsText bytes t × RootBreaks (family_of native) t f
BreaksAt bytes native at f =
    (t : Data) × (s : Data) × IsText bytes t × IsSeccomp t s × SeccompBreaksAt s native at f
