use Rattle.std.proofs.Common.{◌≡◌}
use Rattle.std.specs.Prelude.{Some, slice_get}
use Rattle.kernel_check.specs.Lent.{accepted_insns}
use Rattle.bpf_insn.specs.declared.code.Operation.TheVariants.{LoadWord}
use Rattle.bpf_insn.specs.Code.{operation_of}
use Rattle.compare.proofs.StubRunLaws.{begins}
use Rattle.compare.proofs.behind_runc.stub.splitting.begins_with_load.Goals as goal

pub returns-in-Some-LoadWord : goal.returns-in-Some-LoadWord
returns-in-Some-LoadWord c _ =
    let found : slice_get (accepted_insns c.args.filter.now) c.args.begin ≡ Some c.get.result = cc in
    let is : operation_of c.get.result.code ≡ Some LoadWord = cc in
    begins (accepted_insns c.args.filter.now) c.args.begin c.get.result found is
