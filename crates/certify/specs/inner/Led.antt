-- The runs that come to a place: each record of which is true what the place knows.
use Rattle.std.specs.Prelude.{◌≡◌, ℕ, List, All}
use Rattle.std.specs.Option.{option_map}
use Rattle.call_record.specs.Words.{IsRecord}
use Rattle.bpf_insn.specs.declared.instruction.Insn.{Insn}
use Rattle.bpf_insn.specs.Machine.{Registers, ending, verdict_of}
use Rattle.cert_state.specs.declared.literal.Lit.{Lit}
use Rattle.cert_state.specs.declared.literal.Regs.{Regs}
use Rattle.cert_state.specs.Literals.{Holds}
use Rattle.cert_state.specs.States.{Inside}
use Rattle.certify.specs.Telling.{TellsFrom}
use Rattle.certify.specs.declared.paths.Paths.{Paths}
use Rattle.certify.specs.declared.place.Place.{Place}
use Rattle.certify.specs.inner.Places.{known_at}

-- the program gives a record what it gives from a position on, with registers that are as is known
pub record RunsTo (p : List Insn) (r : List ℕ) (pc : ℕ) (regs : Regs) (known : List Lit) : Type 0 where
  pub registers : Registers
  pub inside : Inside regs known r registers
  pub gives : verdict_of p r ≡ option_map (λ (end : ℕ × ℕ). end.0) (ending p pc registers r)

-- each record comes to a position of which is true what is known there, and from there on each comparison tells all that it asks
pub record IsLed (p : List Insn) (pc : ℕ) (regs : Regs) (known : List Lit) : Type 0 where
  pub runs : (r : List ℕ) → IsRecord r → All (λ l. Holds l r) known → RunsTo p r pc regs known
  pub telling : TellsFrom p pc regs

-- so it is at each place
abbrev pub AreLed : List Insn → Paths → Type 0
AreLed p paths = All (λ (place : Place). IsLed p place.pc place.regs (known_at paths.entries.items place)) paths.places.items
