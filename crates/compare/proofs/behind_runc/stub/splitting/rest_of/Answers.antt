use Rattle.std.proofs.Common.{◌≡◌, ◌<◌, ◌≤◌, ℕ, List, length, drop, ◌*◌, ap, ◌∙◌, arith}
use Rattle.bpf_insn.specs.declared.instruction.Insn.{Insn}
use Rattle.bpf_insn.specs.Bytes.{insns_of}
use Rattle.bpf_insn.proofs.BytesLemmas.{within}
use Rattle.kernel_check.specs.Lent.{accepted_insns}
use Rattle.compare.proofs.StubRunLaws.{insns_of-drop}
use Rattle.compare.proofs.behind_runc.stub.splitting.rest_of.Goals as goal

-- the bytes of the instructions before a position are there
reach : (bytes : List ℕ) (p : List Insn) (begin : ℕ) → insns_of bytes ≡ p → begin < length p → 8 * begin ≤ length bytes
reach bytes p begin all less =
    let inside : begin < length (insns_of bytes) = omega (arith, ap length all, less) in
    omega (arith, within bytes begin inside)

-- what the bytes behind a position spell
spelled : (bytes : List ℕ) (p : List Insn) (begin : ℕ) → insns_of bytes ≡ p → begin < length p → insns_of (drop (8 * begin) bytes) ≡ drop begin p
spelled bytes p begin all less =
    let inside : begin < length (insns_of bytes) = omega (arith, ap length all, less) in
    insns_of-drop bytes begin inside ∙ ap (drop begin) all

pub bytes_behind-requires : goal.bytes_behind-requires
bytes_behind-requires c =
    reach c.bytes.result.now (accepted_insns c.args.filter.now) c.args.begin (c.bytes.ensures.read ∙ c.program.ensures.same) c.requires

pub returns-in-Ok-accept-clause-rest : goal.returns-in-Ok-accept-clause-rest
returns-in-Ok-accept-clause-rest c =
    let here : insns_of c.bytes_behind.result.now ≡ drop c.args.begin (accepted_insns c.args.filter.now) =
    ap insns_of c.bytes_behind.ensures
    ∙ spelled c.bytes.result.now (accepted_insns c.args.filter.now) c.args.begin (c.bytes.ensures.read ∙ c.program.ensures.same) c.requires in
    c.in-Ok-accept.ensures.same ∙ (c.in-Ok.ensures.read ∙ here)
