-- Which constants of the kernel's headers an argument of a call takes.
use Rattle.std.specs.Prelude.{ℕ, ◌&&◌, ◌==◌, Bool, true, false, if◌then◌else◌, List, [], ◌∷◌, map, Option, Some, None}
use Rattle.std.specs.Str.{bytes_eq}
use denote.Ref.{Bor}
use Rattle.call_tables.specs.Table.{Table}
use Rattle.call_words.specs.Constants as words
use Rattle.call_words.specs.declared.constant_names.kinds.Kind.{Kind}
use Rattle.call_words.specs.declared.constant_names.kinds.Kind.TheVariants.{Family, Cloning, Personality, Prctl, Ioctl}
use Rattle.call_words.specs.declared.constant_names.kinds.Kind.TheVariants.{Protection, Mapping, Advice, Opening, Tracing}
use Rattle.call_words.specs.declared.constant_names.kinds.TheConstants.{TAKEN}

-- a call's name, the place of an argument, and the kind of constants that it takes
abbrev pub Row : Type 0
Row = List ℕ × ℕ × Kind

-- rows without where their names lie in memory
abbrev pub plain : List (Bor (List ℕ) × ℕ × Kind) → List Row
plain = map (λ e. (e.0.now, e.1, e.2))

-- the rows of the table, in its order
unfoldable pub taken : List Row
taken = map (λ e. (e.0.now, e.1, e.2)) TAKEN.now

abbrev pub is_for : List ℕ → ℕ → Row → Bool
is_for call argument row = (row.1 == argument) && bytes_eq row.0 call

-- the kind beside the first such row
abbrev pub kind_in : List ℕ → ℕ → List Row → Option Kind
kind_in call argument [] = None
kind_in call argument (row ∷ rows) = if is_for call argument row then Some row.2 else kind_in call argument rows

-- the kind of constants that an argument of a call takes
abbrev pub kind_of : List ℕ → ℕ → Option Kind
kind_of call argument = kind_in call argument taken

-- bits of several constants of these kinds may stand in one number
abbrev pub are_bits : Kind → Bool
are_bits Family = false
are_bits Cloning = true
are_bits Personality = true
are_bits Prctl = false
are_bits Ioctl = false
are_bits Protection = true
are_bits Mapping = true
are_bits Advice = false
are_bits Opening = true
are_bits Tracing = false

-- the constants of a kind: each name with its number
abbrev pub constants : Kind → Table
constants Family = words.families
constants Cloning = words.cloning
constants Personality = words.personalities
constants Prctl = words.prctl
constants Ioctl = words.ioctl
constants Protection = words.protections
constants Mapping = words.mappings
constants Advice = words.advice
constants Opening = words.opening
constants Tracing = words.tracing
