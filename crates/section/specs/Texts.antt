-- The bundle that a file is taken as, of its bytes.
use Rattle.std.specs.Prelude.{ℕ, ◌≡◌, ◌≢◌, ◌⊎◌, List, [], ◌++◌, codes}
use Rattle.serde_json.specs.Data.{Data}
use Rattle.machines.specs.declared.arch.Arch.{Arch}
use Rattle.machines.specs.declared.arch.Family.{Family}
use Rattle.machines.specs.declared.arch.Family.TheVariants.{Chosen, Whole}
use Rattle.machines.specs.Arch.{family_of}
use Rattle.profile_json.specs.Meaning.{IsText}
use Rattle.section.specs.Kinds.{kind_of, kind_of_other_text}
use Rattle.section.specs.Unlike.{AreLinesOf, IsLarge, IsReadable}
use Rattle.section.specs.declared.kinds.Kind.{Kind}
use Rattle.section.specs.declared.kinds.Kind.TheVariants.{Bundle, Section, EnginesOwn, Kubernetes}
use Rattle.section.specs.declared.kinds.Kind.TheVariants.{KubernetesList, Yaml, NoConfig, Unlike, Large}

-- all readers take the text alike, or they do not
abbrev pub IsAlikeText : List ℕ → Type 0
IsAlikeText bytes = AreLinesOf bytes []

abbrev pub IsUnlikeText : List ℕ → Type 0
IsUnlikeText bytes = (lines : List ℕ) × AreLinesOf bytes lines × (lines ≢ [])

-- what the text of the bytes is, by its value, or by how it begins if it is no JSON
abbrev pub IsPlainKind : List ℕ → Kind → Type 0
IsPlainKind bytes kind =
    ((t : Data) × IsText bytes t × (kind ≡ kind_of t)) ⊎ (((t : Data) → ¬ IsText bytes t) × (kind ≡ kind_of_other_text bytes))

-- so of a text that all readers take alike
abbrev pub IsReadKind : List ℕ → Kind → Type 0
IsReadKind bytes kind = (IsAlikeText bytes × IsPlainKind bytes kind) ⊎ (IsUnlikeText bytes × (kind ≡ Unlike))

-- and of one with no more bytes than are read
abbrev pub IsKind : List ℕ → Kind → Type 0
IsKind bytes kind = (IsLarge bytes × (kind ≡ Large)) ⊎ (IsReadable bytes × IsReadKind bytes kind)

-- the bundle in which a section stands
abbrev pub in_bundle : List ℕ → List ℕ
in_bundle section = codes "{\"ociVersion\":\"1.0.2\",\"linux\":{\"seccomp\":" ++ section ++ codes "}}"

-- the bundle as which bytes of a kind are taken
abbrev pub bundle_of : Kind → List ℕ → List ℕ
bundle_of Section bytes = in_bundle bytes
bundle_of Bundle bytes = bytes
bundle_of EnginesOwn bytes = bytes
bundle_of Kubernetes bytes = bytes
bundle_of KubernetesList bytes = bytes
bundle_of Yaml bytes = bytes
bundle_of NoConfig bytes = bytes
bundle_of Unlike bytes = []
bundle_of Large bytes = []

-- Where the chosen lists of calls are meant, a file is a bundle, whatever stands in it. Where all calls of Linux are, a section is
-- taken as the bundle in which it stands. A text that is too large, or that readers do not take alike, is taken as the empty text, which
-- no bundle is.
abbrev pub IsTakenAs : Family → List ℕ → List ℕ → Type 0
IsTakenAs Chosen bytes bundle = bundle ≡ bytes
IsTakenAs Whole bytes bundle = (kind : Kind) × IsKind bytes kind × (bundle ≡ bundle_of kind bytes)

abbrev pub IsBundleText : Arch → List ℕ → List ℕ → Type 0
IsBundleText native bytes bundle = IsTakenAs (family_of native) bytes bundle
