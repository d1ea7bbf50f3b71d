use Rattle.std.proofs.Common.{◌≡◌}
use Rattle.std.specs.Prelude.{Some, slice_get}
use Rattle.bpf_insn.specs.declared.code.Operation.TheVariants.{LoadWord}
use Rattle.bpf_insn.specs.Code.{operation_of}
use Rattle.bpf_insn.specs.Program.{insns}
use Rattle.compare.proofs.StubRunLaws.{begins}
use Rattle.aside.proofs.front.begins_with_load.Goals as goal

pub returns-in-Some-LoadWord : goal.returns-in-Some-LoadWord
returns-in-Some-LoadWord c _ =
    let found : slice_get (insns c.args.program.now) 0 ≡ Some c.get.result = cc in
    let is : operation_of c.get.result.code ≡ Some LoadWord = cc in
    begins (insns c.args.program.now) 0 c.get.result found is
