-- What a section tells of machines that it does not list. The OCI Runtime Specification has no such member, and engines pass it over.
use Rattle.std.specs.Prelude.{ℕ, ◌≡◌, ◌⊎◌, Bool, true, false, List, Option, Some, None, codes}
use Rattle.std.specs.Str.{bytes_eq}
use Rattle.serde_json.specs.Data.{Data}
use Rattle.serde_json.specs.Find.{get}
use Rattle.profile_json.specs.Keys as key
use Rattle.profile_json.specs.Lookup.{text}
use Rattle.profile_json.specs.Meaning.{IsText}

-- the key of the member
abbrev pub others_key : List ℕ
others_key = codes "x-ccell-otherMachines"

abbrev pub allow_name : List ℕ
allow_name = codes "SCMP_ACT_ALLOW"

-- a value passes a test, if there is one
abbrev pub passes_if : {A : Type 0} → (A → Bool) → Option A → Bool
passes_if test None = false
passes_if test (Some x) = test x

-- the value is the name of ALLOW
abbrev pub is_allow : Data → Bool
is_allow d = passes_if (λ name. bytes_eq name allow_name) (text d)

-- so is the member of a section, of what stands under `linux`, and of a bundle
abbrev pub in_section : Data → Bool
in_section s = passes_if is_allow (get others_key s)

abbrev pub in_linux : Data → Bool
in_linux l = passes_if in_section (get key.seccomp l)

abbrev pub in_bundle : Data → Bool
in_bundle t = passes_if in_linux (get key.linux t)

-- the text of the bytes is a bundle whose section tells that the calls of other machines are allowed
abbrev pub AllowsOthers : List ℕ → Type 0
AllowsOthers bytes = (t : Data) × IsText bytes t × (in_bundle t ≡ true)

-- whether it is
abbrev pub Tells : List ℕ → Bool → Type 0
Tells bytes b =
    ((t : Data) × IsText bytes t × (b ≡ in_bundle t)) ⊎ (((t : Data) → ¬ IsText bytes t) × (b ≡ false))
