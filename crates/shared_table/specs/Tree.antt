-- A tree of filters. Each names the one below it, which stands before it, and its place is its load number. The list of a
-- task is the way down from the place that the task holds.
use Rattle.std.specs.Prelude.{ℕ, ◌≡◌, ◌<◌, ◌≤◌, ◌^◌, Bool, true, List, [], ◌∷◌, ◌++◌, Option, Some, None, get_or, length, map, slice_get}
use Rattle.std.specs.List.{list_all}
use Rattle.bpf_insn.specs.declared.instruction.Insn.{Insn}
use Rattle.bpf_interp.specs.Fixed.{is_fixed_allow}
use Rattle.processes.specs.Kernel.{is_oldest_part}
use Rattle.processes.specs.Stores.{loads_in, program_filter, size_beside}
use Rattle.processes.specs.Tasks.{Filter}
use Rattle.shared_table.specs.declared.node.Node.{Node}
use Rattle.shared_table.specs.Numbers.{is_in}

-- a program with its load number
abbrev pub Step : Type 0
Step = ℕ × List Insn

-- the programs on a way down, the newest first
abbrev pub Way : Type 0
Way = List Step

-- the way from a place, and none from no place
abbrev pub way_at : List Way → ℕ → Way
way_at ways place = get_or ways place []

abbrev pub way_below : List Way → Option ℕ → Way
way_below ways None = []
way_below ways (Some place) = way_at ways place

-- the way down from each filter, in the order of the filters: it begins with the filter, and goes on below it
abbrev pub ways_from : List Way → List Node → List Way
ways_from ways [] = ways
ways_from ways (n ∷ ns) = ways_from (ways ++ ((length ways, n.program) ∷ way_below ways n.below) ∷ []) ns

abbrev pub way_from : List Node → ℕ → Way
way_from nodes place = way_at (ways_from [] nodes) place

-- the filters on a way
abbrev pub filters_on : Way → List Filter
filters_on way = map (λ k. program_filter k.0 k.1) way

-- each program on a way allows the calls of this number on a machine, whatever else the record holds
abbrev pub all_allow : ℕ → Way → ℕ → Bool
all_allow arch way nr = list_all (λ k. is_fixed_allow k.1 arch nr) way

-- What a filter keeps is what it and all below it have. It keeps how many they are and how much room they take. It also
-- keeps the numbers below 512 that all of them allow on the machine with this token.
pub record IsKept (arch : ℕ) (way : Way) (n : Node) : Type 0 where
  pub depth : n.depth ≡ length way
  pub size : n.size ≡ size_beside (filters_on way)
  pub small : n.size ≤ 32772
  pub allowed : (nr : ℕ) → nr < 512 → is_in n.allowed.parts nr ≡ all_allow arch way nr

-- a way is what is left of another further down, by their load numbers
abbrev pub IsLeft : Way → Way → Type 0
IsLeft low way = is_oldest_part (loads_in (filters_on low)) (loads_in (filters_on way)) ≡ true

-- a place is further down than another: it stands before it, and its way is what is left of the other's
pub record IsFurther (nodes : List Node) (place low : ℕ) : Type 0 where
  pub before : low < place
  pub left : IsLeft (way_from nodes low) (way_from nodes place)

-- a tree: there is a first filter, each filter's parent stands before it, it jumps further down, and it keeps what its way
-- has
pub record IsTree (arch : ℕ) (nodes : List Node) : Type 0 where
  pub some : 1 ≤ length nodes
  pub few : length nodes ≤ 2 ^ 32
  pub before : (i p : ℕ) (n : Node) → slice_get nodes i ≡ Some n → n.below ≡ Some p → p < i
  pub jumps : (i p : ℕ) (n : Node) → slice_get nodes i ≡ Some n → n.jump ≡ Some p → IsFurther nodes i p
  pub kept : (i : ℕ) (n : Node) → slice_get nodes i ≡ Some n → IsKept arch (way_from nodes i) n
