-- What code gives on a record, from a place on.
use Rattle.std.specs.Prelude.{◌≡◌, ◌≤◌, ◌<◌, ◌/◌, ⊤, ℕ, List, Option, Some, None, length, slice_get, slice_index}
use Rattle.std.specs.List.{All}
use Rattle.std.specs.Option.{option_map}
use Rattle.call_record.specs.Words.{IsRecord}
use Rattle.bpf_insn.specs.declared.instruction.Insn.{Insn}
use Rattle.bpf_insn.specs.Machine.{Registers, ending, start}
use Rattle.rule_compile.specs.declared.label.Target.{Target}
use Rattle.rule_compile.specs.declared.label.Target.TheVariants.{Place, Return}
use Rattle.rule_compile.specs.declared.outline.Block.{Block}
use Rattle.rule_compile.specs.declared.question.Subject.{Subject}
use Rattle.rule_compile.specs.declared.ranges.Leaf.{Leaf}
use Rattle.rule_compile.specs.declared.ranges.Leaf.TheVariants as leaf
use Rattle.rule_compile.specs.declared.ranges.Range.{Range}
use Rattle.rule_compile.specs.declared.written.Written.{Written}
use Rattle.rule_compile.specs.Decides.{Decides, IsWithin}
use Rattle.rule_compile.specs.Questions.{bits}
use Rattle.rule_compile.specs.inner.Code.{IsTarget, position}
use Rattle.rule_compile.specs.inner.Left.{IsOffset}

-- A holds a number, X is 0, and no scratch word is written
abbrev pub holding : ℕ → Registers
holding a = record start { a = a }

-- the verdict that code gives from a position on, where A holds a number
abbrev pub gives_from : List Insn → ℕ → ℕ → List ℕ → Option ℕ
gives_from code pc a r = option_map (λ (end : ℕ × ℕ). end.0) (ending code pc (holding a) r)

-- the same from a target on
abbrev pub runs : List Insn → Target → ℕ → List ℕ → Option ℕ
runs code (Place place) a r = gives_from code (position code place) a r
runs code (Return word) a r = Some word

-- A holds the word at this offset of the record, or anything
abbrev pub IsLoaded : Option ℕ → ℕ → List ℕ → Type 0
IsLoaded None a r = ⊤
IsLoaded (Some offset) a r = a ≡ slice_index r (offset / 4)

-- what is loaded is a word of the record
abbrev pub AreOffsets : Option ℕ → Type 0
AreOffsets None = ⊤
AreOffsets (Some offset) = IsOffset offset

-- from the target on, each record gets what is decided
abbrev pub Leads : List Block → List Insn → Option ℕ → Target → Leaf → Type 0
Leads blocks code loaded to leaf =
    (a : ℕ) (r : List ℕ) (v : ℕ) → IsRecord r → IsLoaded loaded a r → Decides blocks r v leaf → runs code to a r ≡ Some v

-- from the target on, each record gets what the range decides that has the number in A
abbrev pub LeadsIn : List Block → List Insn → Option ℕ → Target → Range → Type 0
LeadsIn blocks code loaded to range =
    (a : ℕ) (r : List ℕ) (v : ℕ) → IsRecord r → IsLoaded loaded a r → IsWithin range a → Decides blocks r v range.leaf
    → runs code to a r ≡ Some v

abbrev pub AreLed : List Block → List Insn → Option ℕ → List Range → Target → Type 0
AreLed blocks code loaded ranges to = All (LeadsIn blocks code loaded to) ranges

-- the same of a number in A that no range of a list has
abbrev pub LeadsElse : List Block → List Insn → Option ℕ → List Range → Target → Leaf → Type 0
LeadsElse blocks code loaded ranges to leaf =
    (a : ℕ) (r : List ℕ) (v : ℕ) → IsRecord r → IsLoaded loaded a r → All (λ x. IsWithin x a → ⊥) ranges → Decides blocks r v leaf
    → runs code to a r ≡ Some v

-- from the target on, each record gets what the range decides that has its word at this offset
abbrev pub LeadsByWord : List Block → List Insn → ℕ → List Range → Target → Type 0
LeadsByWord blocks code offset ranges to =
    All (λ x. (a : ℕ) (r : List ℕ) (v : ℕ) → IsRecord r → IsWithin x (slice_index r (offset / 4)) → Decides blocks r v x.leaf
    → runs code to a r ≡ Some v) ranges

-- the same by bits of a word
abbrev pub LeadsByBits : List Block → List Insn → Subject → List Range → Target → Type 0
LeadsByBits blocks code subject ranges to =
    All (λ x. (a : ℕ) (r : List ℕ) (v : ℕ) → IsRecord r → IsWithin x (bits subject r) → Decides blocks r v x.leaf
    → runs code to a r ≡ Some v) ranges

-- Single numbers are picked out of ranges. From the target on, each record gets what its range decides. If A holds a number of none of the
-- ranges, the record gets what the rest decides.
pub record PicksOut (blocks : List Block) (code : List Insn) (loaded : Option ℕ) (ranges : List Range) (rest : Range) (to : Target)
    : Type 0 where
  pub led : AreLed blocks code loaded ranges to
  pub others : LeadsElse blocks code loaded ranges to rest.leaf

-- a verdict, or one of the first so many blocks
abbrev pub IsBefore : ℕ → Leaf → Type 0
IsBefore count (leaf.Verdict w) = ⊤
IsBefore count (leaf.Block place) = place < count

abbrev pub AreBefore : ℕ → List Range → Type 0
AreBefore count ranges = All (λ range. IsBefore count range.leaf) ranges

-- each block that is written stands in the code
abbrev pub AreIn : List Insn → List Written → Type 0
AreIn code written = All (λ w. IsTarget code w.target) written

-- and the code gives what it decides from there on
pub record AreWritten (blocks : List Block) (code : List Insn) (written : List Written) : Type 0 where
  pub placed : AreIn code written
  pub few : length written ≤ length blocks
  pub leads : (place : ℕ) (w : Written) → slice_get written place ≡ Some w → Leads blocks code None w.target (leaf.Block place)
