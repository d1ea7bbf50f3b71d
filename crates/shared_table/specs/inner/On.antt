-- A filter that is to stand in front of a place, and where a walk goes on from one.
use Rattle.std.specs.Prelude.{ℕ, ◌≡◌, ◌<◌, ◌≤◌, List, [], ◌∷◌, Option, Some, IfSome, length}
use Rattle.bpf_insn.specs.declared.instruction.Insn.{Insn}
use Rattle.shared_table.specs.declared.node.Node.{Node}
use Rattle.shared_table.specs.Tree.{IsKept, IsLeft, way_below, way_from, ways_from}

pub record IsOn (arch : ℕ) (nodes : List Node) (place : ℕ) (program : List Insn) (n : Node) : Type 0 where
  pub program_is : n.program ≡ program
  pub before : (p : ℕ) → n.below ≡ Some p → p < length nodes
  pub way : way_below (ways_from [] nodes) n.below ≡ way_from nodes place
  pub jumps : (p : ℕ) → n.jump ≡ Some p → (p < length nodes) × IsLeft (way_from nodes p) (way_from nodes place)
  pub kept : IsKept arch ((length nodes, program) ∷ way_from nodes place) n

-- it goes on at a place before this one, or ends; what is left of the way is the way from there, and deep enough
pub record GoesOn (nodes : List Node) (place depth : ℕ) (next : Option ℕ) : Type 0 where
  pub before : IfSome next (λ p. p < place)
  pub left : IsLeft (way_below (ways_from [] nodes) next) (way_from nodes place)
  pub deep : depth ≤ length (way_below (ways_from [] nodes) next)
