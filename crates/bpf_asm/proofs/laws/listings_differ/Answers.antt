use Rattle.bpf_asm.proofs.Texts.{listing_injective}
use Rattle.bpf_asm.proofs.laws.listings_differ.Goals as goal

pub returns : goal.returns
returns c = listing_injective
