-- What a text is that no command reads as a bundle, in a line.
use Rattle.std.specs.Prelude.{ℕ, ◌≡◌, List, Option, Some, None, codes}
use Rattle.machines.specs.declared.arch.Arch.{Arch}
use Rattle.machines.specs.declared.arch.Family.{Family}
use Rattle.machines.specs.declared.arch.Family.TheVariants.{Chosen, Whole}
use Rattle.machines.specs.Arch.{family_of}
use Rattle.section.specs.Texts.{IsKind}
use Rattle.section.specs.declared.kinds.Kind.{Kind}
use Rattle.section.specs.declared.kinds.Kind.TheVariants.{Bundle, Section, EnginesOwn, Kubernetes}
use Rattle.section.specs.declared.kinds.Kind.TheVariants.{KubernetesList, Yaml, NoConfig, Unlike, Large}

-- the line that says what a text of a kind is, if it is neither a bundle nor a section
abbrev pub line_of : Kind → Option (List ℕ)
line_of Bundle = None
line_of Section = None
line_of EnginesOwn = Some (codes "ccell: this is an engine's own profile: ccell adapt MACHINE FILE for docker, for podman or for containerd works out what a container gets\n")
line_of Kubernetes = Some (codes "ccell: this is an object of Kubernetes: ccell adapt MACHINE FILE makes a profile of it\n")
line_of KubernetesList = Some (codes "ccell: this is a list of objects and no config: kubectl get with one name and -o json writes one object\n")
line_of Yaml = Some (codes "ccell: this is YAML, which is not read: kubectl get -o json writes the same object as JSON\n")
line_of NoConfig = Some (codes "ccell: this is no config and no profile: none of linux, ociVersion and defaultAction stands at its top\n")
line_of Unlike = Some (codes "ccell: runtimes and engines do not take this text alike, so it is taken as none\n")
line_of Large = Some (codes "ccell: this text has more than 4194304 bytes, so it is not read\n")

abbrev pub IsRemarkOf : Family → List ℕ → Option (List ℕ) → Type 0
IsRemarkOf Chosen bytes line = line ≡ None
IsRemarkOf Whole bytes line = (kind : Kind) × IsKind bytes kind × (line ≡ line_of kind)

-- Where all calls of Linux are meant, such a text gets the line of its kind. Where the chosen lists are, none does.
abbrev pub IsRemark : Arch → List ℕ → Option (List ℕ) → Type 0
IsRemark native bytes line = IsRemarkOf (family_of native) bytes line
