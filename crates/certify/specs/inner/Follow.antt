-- What the node of a place does, and where it leads.
use Rattle.std.specs.Prelude.{◌≡◌, ◌+◌, ◌≤◌, ℕ, List, [], ◌∷◌, ◌++◌, All, Option, Some, None, length, true, false}
use Rattle.call_record.specs.Words.{IsRecord}
use Rattle.bpf_insn.specs.declared.instruction.Insn.{Insn}
use Rattle.bpf_insn.specs.Machine.{verdict_of}
use Rattle.profile.specs.Policy.{Policy}
use Rattle.cert_state.specs.declared.literal.Lit.{Lit}
use Rattle.cert_state.specs.declared.literal.Regs.{Regs}
use Rattle.cert_state.specs.Literals.{Holds, IsLit}
use Rattle.cert_state.specs.Sharp.{sharp_fact}
use Rattle.cert_state.specs.Transfer.{transfer}
use Rattle.cert_form.specs.declared.node.Kind.{Kind}
use Rattle.cert_form.specs.declared.node.Kind.TheVariants.{Step, Split, Return}
use Rattle.cert_check.specs.Agree.{Agrees}
use Rattle.cert_check.specs.Rules.{no_node}
use Rattle.certify.specs.declared.paths.Paths.{Paths}
use Rattle.certify.specs.declared.place.Next.{Next}
use Rattle.certify.specs.declared.place.Place.{Place}
use Rattle.certify.specs.inner.Cuts.{AreHalves}
use Rattle.certify.specs.inner.Led.{AreLed}
use Rattle.certify.specs.inner.Places.{AreInside, AreKept, ArePaths, IsAdded, IsGrown, KeepsAt, known_at}

-- a place was added at this position, with this in the registers, which knows what another one does
pub record IsStep (old new : Paths) (from : Place) (pc : ℕ) (regs : Regs) (kind : Kind) : Type 0 where
  pub to : ℕ
  pub kind_is : kind ≡ Step to no_node
  pub added : IsAdded old new from (record { pc = pc; regs = regs; learned = None }) to

-- two places were added, one after the other
pub record AreTwo (old new : Paths) (from : Place) (one other : Next) (first second : ℕ) : Type 0 where
  pub middle : Paths
  pub are_paths : ArePaths middle
  pub first_is : IsAdded old middle from one first
  pub second_is : IsAdded middle new from other second

-- where a comparison leads: what is known there is told by the facts of its edges
abbrev pub way : Place → Insn → ℕ → Option Lit → Next
way from i skip learned = record { pc = from.pc + 1 + skip; regs = transfer from.regs i; learned = learned }

pub record IsFork (old new : Paths) (from : Place) (i : Insn) (kind : Kind) : Type 0 where
  pub first : ℕ
  pub second : ℕ
  pub kind_is : kind ≡ Step first second
  pub two : AreTwo old new from (way from i i.jt (sharp_fact (known_at old.entries.items from) from.regs i true))
      (way from i i.jf (sharp_fact (known_at old.entries.items from) from.regs i false)) first second

-- what is known at a place was cut in two
pub record IsCut (old new : Paths) (from : Place) (kind : Kind) : Type 0 where
  pub one : Lit
  pub other : Lit
  pub first : ℕ
  pub second : ℕ
  pub kind_is : kind ≡ Split one other first second
  pub one_is : IsLit one
  pub other_is : IsLit other
  pub halves : AreHalves one other
  pub two : AreTwo old new from (record { pc = from.pc; regs = from.regs; learned = Some one })
      (record { pc = from.pc; regs = from.regs; learned = Some other }) first second

-- a return of a verdict that is settled
pub record IsReturn (policy : Policy) (old new : Paths) (from : Place) (word : ℕ) (kind : Kind) : Type 0 where
  pub kind_is : kind ≡ Return
  pub same : new ≡ old
  pub agrees : Agrees policy [] [] (known_at old.entries.items from) word

-- each record of which is true what is known gets this verdict
abbrev pub GivesThere : List Insn → List Lit → ℕ → Type 0
GivesThere p known word = (r : List ℕ) → IsRecord r → All (λ l. Holds l r) known → verdict_of p r ≡ Some word

-- the node of a place keeps the rules, and the places that were added are led to
pub record IsFollowed (policy : Policy) (p : List Insn) (old new : Paths) (from : Place) (kind : Kind) : Type 0 where
  pub inside : AreInside p new
  pub grown : IsGrown old new
  pub kept : KeepsAt policy p new (length old.kinds.items) from kind
  pub led : AreLed p old → AreLed p new

-- one place more has a node, which does this
pub record IsGiven (old new : Paths) (kind : Kind) : Type 0 where
  pub entries : new.entries.items ≡ old.entries.items
  pub places : new.places.items ≡ old.places.items
  pub kinds : new.kinds.items ≡ old.kinds.items ++ kind ∷ []

-- paths of a program, of which the first places have nodes that keep the rules
pub record AreSound (policy : Policy) (p : List Insn) (all : Paths) : Type 0 where
  pub paths : ArePaths all
  pub inside : AreInside p all
  pub kept : AreKept policy p all
  pub some : length all.kinds.items ≤ length all.places.items
