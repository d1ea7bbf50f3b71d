-- The path of the object or list of a bundle in which a fault stands.
use Rattle.std.specs.Prelude.{ℕ, List, [], ◌++◌, codes}
use Rattle.std.specs.Fmt.{decimal}
use Rattle.profile_json.specs.declared.refusal.Part.{Part}
use Rattle.profile_json.specs.declared.refusal.Part.TheVariants as part
use Rattle.profile_json.specs.declared.refusal.Place.{Place}
use Rattle.profile_json.specs.declared.refusal.Place.TheVariants as place

abbrev pub part_path : Part → List ℕ
part_path part.Itself = []
part_path part.Names = codes ".names"
part_path (part.Name at) = codes ".names[" ++ (decimal at ++ codes "]")
part_path part.Verdict = []
part_path part.Args = codes ".args"
part_path (part.Arg at) = codes ".args[" ++ (decimal at ++ codes "]")

abbrev pub entry_path : ℕ → Part → List ℕ
entry_path entry p = codes "linux.seccomp.syscalls[" ++ (decimal entry ++ (codes "]" ++ part_path p))

-- the text and its root have no path
abbrev pub path : Place → List ℕ
path place.Text = []
path place.Root = []
path place.Default = codes "linux.seccomp"
path place.Keys = codes "linux.seccomp"
path place.Machines = codes "linux.seccomp"
path place.Entries = codes "linux.seccomp.syscalls"
path (place.Entry entry p) = entry_path entry p
