-- What the words behind a configuration's name ask for.
use Rattle.std.specs.Prelude.{ℕ, ◌≡◌, ◌≢◌, ◌-◌, ◌^◌, nat_lt, bit_or, Bool, true, false, codes, if◌then◌else◌}
use Rattle.std.specs.Prelude.{filter, fold, length, map, position}
use Rattle.std.specs.Prelude.{List, [], ◌∷◌, ◌++◌, Option, Some, None, option_and_then, option_map, option_to_list, unwrap_or}
use Rattle.std.specs.Char.{is_ascii_digit}
use Rattle.std.specs.List.{filter_map}
use Rattle.std.specs.Str.{bytes_eq}
use Rattle.std.specs.Str.Parse.{digits_value}
use Rattle.texts.specs.Digits.{are_digits}
use Rattle.texts.specs.Splits.{split_at}
use Rattle.engines.specs.declared.settling.choice.Choice.{Choice}
use Rattle.engines.specs.declared.settling.choice.Choice.TheVariants.{First, Looser, Stricter, LikeLibseccomp}
use Rattle.engines.specs.declared.capabilities.Engine.{Engine}
use Rattle.engines.specs.declared.capabilities.Engine.TheVariants.{Docker, Podman, Containerd}
use Rattle.engines.specs.declared.capabilities.TheConstants.{CAPABILITIES}
use Rattle.engines.specs.declared.kernels.Kernel.{Kernel}
use Rattle.engines.specs.declared.kernels.TheConstants.{TABLES}
use Rattle.engines.specs.declared.words.Container.{Container}
use Rattle.engines.specs.declared.words.Wanted.{Wanted}

-- the name of a choice
abbrev pub choice_name : Choice → List ℕ
choice_name First = codes "first"
choice_name Looser = codes "looser"
choice_name Stricter = codes "stricter"
choice_name LikeLibseccomp = codes "like-libseccomp"

-- the name of an engine
abbrev pub engine_name : Engine → List ℕ
engine_name Docker = codes "docker"
engine_name Podman = codes "podman"
engine_name Containerd = codes "containerd"

-- The bit of a capability by its name, which stands at its number (capabilities(7)). `all` stands for each bit.
unfoldable pub capability_called : List ℕ → Option ℕ
capability_called name =
    if bytes_eq name (codes "all") then Some (2 ^ 64 - 1)
    else option_map (λ number. 2 ^ number) (position (λ c. bytes_eq c.now name) CAPABILITIES.now)

-- the number of decimal digits, where 32 bits hold it
unfoldable pub number_at : List ℕ → Option ℕ
number_at text =
    if are_digits is_ascii_digit text then (if nat_lt (digits_value 10 text) (2 ^ 32) then Some (digits_value 10 text) else None)
    else None

-- the edition of a kernel by two numbers
abbrev pub edition_of : List ℕ × List ℕ → Option Kernel
edition_of parts =
    option_and_then (λ first. option_map (λ second. record { major = first; minor = second }) (number_at parts.1)) (number_at parts.0)

-- an edition of a kernel: a number, a dot and a number
unfoldable pub edition_called : List ℕ → Option Kernel
edition_called text = option_and_then edition_of (split_at 46 text)

-- One thing that words ask for. It is that the bundle may say less, that refusals are logged, which entry counts, an engine,
-- bits of capabilities, or a kernel.
pub data Item : Type 0 where
  Widens : Item
  Logs : Item
  Chooses : Choice → Item
  For : Engine → Item
  With : List ℕ → Item
  On : Kernel → Item

-- these words ask for it
abbrev pub IsItem : Item → List (List ℕ) → Type 0
IsItem Widens words = words ≡ codes "widen" ∷ []
IsItem Logs words = words ≡ codes "log" ∷ []
IsItem (Chooses choice) words = words ≡ choice_name choice ∷ []
IsItem (For engine) words = words ≡ codes "for" ∷ engine_name engine ∷ []
IsItem (With bits) words =
    (names : List (List ℕ)) × (words ≡ codes "cap" ∷ names) × (names ≢ []) × (map capability_called names ≡ map Some bits)
IsItem (On kernel) words = (name : List ℕ) × (words ≡ codes "kernel" ∷ name ∷ []) × (edition_called name ≡ Some kernel)

-- the words ask for these things, one behind the other
abbrev pub AreItems : List Item → List (List ℕ) → Type 0
AreItems [] words = words ≡ []
AreItems (item ∷ items) words =
    (first : List (List ℕ)) × (rest : List (List ℕ)) × (words ≡ first ++ rest) × IsItem item first × AreItems items rest

-- the things of each kind
abbrev pub is_widening : Item → Bool
is_widening Widens = true
is_widening other = false

abbrev pub is_logging : Item → Bool
is_logging Logs = true
is_logging other = false

abbrev pub choice_of : Item → Option Choice
choice_of (Chooses choice) = Some choice
choice_of other = None

abbrev pub engine_of : Item → Option Engine
engine_of (For engine) = Some engine
engine_of other = None

-- any of the bits
abbrev pub bits_of : Item → Option ℕ
bits_of (With bits) = Some (fold bit_or 0 bits)
bits_of other = None

abbrev pub kernel_of : Item → Option Kernel
kernel_of (On kernel) = Some kernel
kernel_of other = None

-- how often a thing stands that may stand once
abbrev pub times : Bool → ℕ
times stands = if stands then 1 else 0

-- the container of an engine; without one there are neither capabilities nor a kernel
abbrev pub IsContainer : Option Engine → Option ℕ → Option Kernel → Option Container → Type 0
IsContainer (Some engine) bits kernel container =
    container ≡ Some (record { capabilities = record { engine = engine; more = unwrap_or bits 0 }; kernel = unwrap_or kernel TABLES })
IsContainer None None None container = container ≡ None
IsContainer None bits kernel container = ⊥

-- The words ask for things, each kind of which stands once at most, and together they ask for this.
pub record AskFor (words : List (List ℕ)) (wanted : Wanted) : Type 0 where
  pub items : List Item
  pub are : AreItems items words
  pub widens : length (filter is_widening items) ≡ times wanted.may_widen
  pub logs : length (filter is_logging items) ≡ times wanted.logs
  pub choices : filter_map choice_of items ≡ option_to_list wanted.choice
  pub engine : Option Engine
  pub engines : filter_map engine_of items ≡ option_to_list engine
  pub bits : Option ℕ
  pub capabilities : filter_map bits_of items ≡ option_to_list bits
  pub kernel : Option Kernel
  pub kernels : filter_map kernel_of items ≡ option_to_list kernel
  pub container : IsContainer engine bits kernel wanted.container
