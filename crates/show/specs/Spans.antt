-- How many instructions of a filter run on a call, over all that its record may hold beside its machine and number.
use Rattle.std.specs.Prelude.{ℕ, ◌≡◌, ◌≤◌, List}
use Rattle.bpf_insn.specs.declared.instruction.Insn.{Insn}
use Rattle.bpf_insn.specs.Machine.{Gives}
use Rattle.call_record.specs.declared.layout.Record.{Record}
use Rattle.call_record.specs.Record.{words}
use Rattle.show.specs.declared.spans.Span.{Span}

-- no run on a record of such a call has fewer instructions than the least, and none has more than the most
abbrev pub IsSpan : List Insn → ℕ → ℕ → Span → Type 0
IsSpan p arch nr span =
    (r : Record) (word n : ℕ) → r.arch ≡ arch → r.nr ≡ nr → Gives p (words r) word n → (span.least ≤ n) × (n ≤ span.most)
