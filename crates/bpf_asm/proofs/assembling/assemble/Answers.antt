use Rattle.std.proofs.Common.{◌≡◌, ◌++◌, length, take, drop, arith, ap, ◌∙◌}
use Rattle.std.proofs.lemmas.Grind.{common_steps}
use Rattle.std.proofs.lemmas.List.{take_at}
use Rattle.std.proofs.lemmas.Result.{err_from_is_err_and}
use Rattle.bpf_insn.specs.Bytes.{spelling}
use Rattle.bpf_asm.proofs.Texts.{only_bytes, only_memory}
use Rattle.bpf_asm.proofs.assembling.assemble.Goals as goal

pub returns-in_err-insns-clause-only : goal.returns-in_err-insns-clause-only
returns-in_err-insns-clause-only c =
    let told = err_from_is_err_and c.from_residual.result c.from_residual.ensures.1 in
    λ bytes are whole e.
    rw (told.1, told.2) (only_memory c.args.text.now c.in_err-insns.field-0.0 bytes c.in_err-insns.ensures.fault are whole e)

pub returns-clause-only : goal.returns-clause-only
returns-clause-only c =
    let v = c.in_ok-bytes.bytes in
    let out = c.encode_into.new.out in
    let same_length : length out ≡ v.len = grind (arith, common_steps) in
    let given : take v.len (out ++ drop (length out) v.items) ≡ spelling c.in_ok-insns.insns.items =
    take_at out (drop (length out) v.items) v.len same_length ∙ c.encode_into.ensures.spelled ∙ ap spelling c.deref.ensures.value
    in
    λ bytes are whole e. only_bytes c.args.text.now c.in_ok-insns.insns.items (take v.len (out ++ drop (length out) v.items)) bytes
    c.in_ok-insns.ensures.each c.in_ok-insns.ensures.listed given are whole e
