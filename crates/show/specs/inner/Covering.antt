-- How many instructions run from a position of a program on, on a call of which the machine and the number are known.
use Rattle.std.specs.Prelude.{ℕ, ◌≡◌, ◌+◌, ◌≤◌, ◌⊎◌, List, length, Some, slice_get}
use Rattle.bpf_insn.specs.declared.instruction.Insn.{Insn}
use Rattle.bpf_insn.specs.Machine.{Registers, ending}
use Rattle.call_record.specs.declared.layout.Record.{Record}
use Rattle.call_record.specs.Record.{words}
use Rattle.show.specs.declared.leading.Holds.{Holds}
use Rattle.show.specs.declared.leading.Holds.TheVariants.{Number, Machine, Other}
use Rattle.show.specs.declared.spans.Span.{Span}
use Rattle.show.specs.declared.spans.Spans.{Spans}
use Rattle.show.specs.inner.Leading.{Held}

-- from the position on so many run, where this is known of A
abbrev pub SpanFrom : List Insn → ℕ → ℕ → ℕ → Holds → Span → Type 0
SpanFrom p arch nr pc h span =
    (r : Record) (s : Registers) (word n : ℕ) → r.arch ≡ arch → r.nr ≡ nr → Held arch nr h s.a
    → ending p pc s (words r) ≡ Some (word, n) → (span.least ≤ n) × (n ≤ span.most)

-- the same with one instruction more in front, where the run goes on in one of two ways
pub record IsWithOne (one other span : Span) : Type 0 where
  pub first : span.least ≤ one.least + 1
  pub second : span.least ≤ other.least + 1
  pub most : (n : ℕ) → n ≤ 4096 → (n ≤ one.most) ⊎ (n ≤ other.most) → n + 1 ≤ span.most

-- whatever is known of it
pub record AreSpans (p : List Insn) (arch nr pc : ℕ) (spans : Spans) : Type 0 where
  pub number : SpanFrom p arch nr pc Number spans.number
  pub machine : SpanFrom p arch nr pc Machine spans.machine
  pub other : SpanFrom p arch nr pc Other spans.other

-- a table has these for the last positions of a program, the last one first
pub record Covers (p : List Insn) (arch nr : ℕ) (table : List Spans) : Type 0 where
  pub short : length p ≤ 4096
  pub each : (j pc : ℕ) (spans : Spans) → slice_get table j ≡ Some spans → j + pc + 1 ≡ length p → AreSpans p arch nr pc spans
