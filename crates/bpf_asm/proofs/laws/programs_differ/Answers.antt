use Rattle.bpf_insn.specs.Program.{insns}
use Rattle.bpf_asm.proofs.Texts.{listing_injective}
use Rattle.bpf_asm.proofs.laws.programs_differ.Goals as goal

pub returns : goal.returns
returns c =
    listing_injective (insns c.args.first.now) (insns c.args.second.now) c.bytes-first.ensures.fields c.bytes-second.ensures.fields
