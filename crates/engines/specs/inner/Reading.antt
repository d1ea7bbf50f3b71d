-- How the words behind a configuration's name are read.
use Rattle.std.specs.Prelude.{ℕ, bit_or, Bool, true, false, codes, List, [], ◌∷◌, if◌then◌else◌}
use Rattle.std.specs.Prelude.{Option, Some, None, is_some, option_and_then, option_map, unwrap_or}
use Rattle.std.specs.Str.{bytes_eq}
use Rattle.profile_json.specs.Names.{named}
use Rattle.engines.specs.declared.settling.choice.Choice.{Choice}
use Rattle.engines.specs.declared.settling.choice.Choice.TheVariants.{First, Looser, Stricter, LikeLibseccomp}
use Rattle.engines.specs.declared.capabilities.Engine.{Engine}
use Rattle.engines.specs.declared.capabilities.Engine.TheVariants.{Docker, Podman, Containerd}
use Rattle.engines.specs.declared.kernels.Kernel.{Kernel}
use Rattle.engines.specs.declared.kernels.TheConstants.{TABLES}
use Rattle.engines.specs.declared.words.Awaits.{Awaits}
use Rattle.engines.specs.declared.words.Awaits.TheVariants as await
use Rattle.engines.specs.declared.words.Container.{Container}
use Rattle.engines.specs.declared.words.Wanted.{Wanted}
use Rattle.engines.specs.declared.words.Words.{Words}
use Rattle.engines.specs.Words.{capability_called, edition_called}

-- the choice and the engine of a name
unfoldable pub choice_called : List ℕ → Option Choice
choice_called = named (
    (codes "first", First) ∷
    (codes "looser", Looser) ∷
    (codes "stricter", Stricter) ∷
    (codes "like-libseccomp", LikeLibseccomp) ∷ [])

unfoldable pub engine_called : List ℕ → Option Engine
engine_called = named (
    (codes "docker", Docker) ∷
    (codes "podman", Podman) ∷
    (codes "containerd", Containerd) ∷ [])

-- the words, unless something stood before
abbrev pub unless : Bool → Words → Option Words
unless true words = None
unless false words = Some words

abbrev pub with_choice : Words → List ℕ → Option Words
with_choice words word =
    option_and_then (λ choice. unless (is_some words.choice) (record words { choice = Some choice })) (choice_called word)

-- with a word that begins a thing
unfoldable pub with_word : Words → List ℕ → Option Words
with_word words word =
    let free = record words { awaits = await.Word } in
    if bytes_eq word (codes "widen") then unless words.may_widen (record free { may_widen = true })
    else if bytes_eq word (codes "log") then unless words.logs (record free { logs = true })
    else if bytes_eq word (codes "for") then unless (is_some words.engine) (record words { awaits = await.Engine })
    else if bytes_eq word (codes "cap") then unless (is_some words.more) (record words { awaits = await.Capability })
    else if bytes_eq word (codes "kernel") then unless (is_some words.kernel) (record words { awaits = await.Kernel })
    else with_choice free word

abbrev pub with_engine : Words → List ℕ → Option Words
with_engine words word = option_map (λ engine. record words { engine = Some engine; awaits = await.Word }) (engine_called word)

abbrev pub with_kernel : Words → List ℕ → Option Words
with_kernel words word = option_map (λ kernel. record words { kernel = Some kernel; awaits = await.Word }) (edition_called word)

abbrev pub with_bits : Words → ℕ → Words
with_bits words bits = record words { more = Some (bit_or (unwrap_or words.more 0) bits); awaits = await.More }

-- with a capability, or with what stands behind the last one
abbrev pub capability_or : (Words → List ℕ → Option Words) → Words → List ℕ → Option ℕ → Option Words
capability_or otherwise words word (Some bits) = Some (with_bits words bits)
capability_or otherwise words word None = otherwise words word

abbrev pub with_next_by : Awaits → Words → List ℕ → Option Words
with_next_by await.Word words word = with_word words word
with_next_by await.Engine words word = with_engine words word
with_next_by await.Kernel words word = with_kernel words word
with_next_by await.Capability words word = capability_or (λ ws w. None) words word (capability_called word)
with_next_by await.More words word = capability_or with_word words word (capability_called word)

abbrev pub with_next : Words → List ℕ → Option Words
with_next words word = with_next_by words.awaits words word

-- with each word
abbrev pub with_all : Option Words → List (List ℕ) → Option Words
with_all words [] = words
with_all words (word ∷ rest) = with_all (option_and_then (λ ws. with_next ws word) words) rest

abbrev pub container_of : Option Engine → Option ℕ → Option Kernel → Option (Option Container)
container_of (Some engine) more kernel =
    Some (Some (record { capabilities = record { engine = engine; more = unwrap_or more 0 }; kernel = unwrap_or kernel TABLES }))
container_of None None None = Some None
container_of None more kernel = None

-- whether the words may end
abbrev pub may_end : Awaits → Bool
may_end await.Word = true
may_end await.More = true
may_end other = false

abbrev pub wanted_by : Words → Option Container → Wanted
wanted_by words container = record { may_widen = words.may_widen; logs = words.logs; choice = words.choice; container = container }

abbrev pub finished : Words → Option Wanted
finished words =
    if may_end words.awaits then option_map (λ container. wanted_by words container) (container_of words.engine words.more words.kernel)
    else None

abbrev pub no_words : Words
no_words =
    record { may_widen = false; logs = false; choice = None; engine = None; more = None; kernel = None; awaits = await.Word }

unfoldable pub asked : List (List ℕ) → Option Wanted
asked words = option_and_then finished (with_all (Some no_words) words)
