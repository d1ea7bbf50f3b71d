-- A certificate shows that a bundle's meaning is the filter's.
use Rattle.std.proofs.Common.{ℕ, List}
use Rattle.machines.specs.declared.arch.Arch.{Arch}
use Rattle.bpf_insn.specs.declared.fault.ViewError.TheVariants.{NotMultipleOf8}
use Rattle.cert_check.specs.declared.fault.CheckError.TheVariants.{View}
use Rattle.profile.specs.Policy.{Policy}
use Rattle.maker.specs.Finding.{IsBundle, IsYes}
use Rattle.recover.specs.Recovered.{IsRecovered}

pub recovered_by : (native : Arch) (bundle filter cert : List ℕ) → ((policy : Policy) × IsBundle native bundle policy × IsYes policy filter cert)
    → IsRecovered native bundle filter
recovered_by native bundle filter cert h = record {
  policy = h.0;
  means = h.1;
  program = h.2.kept (View NotMultipleOf8);
  accepted = h.2.accepted;
  right = h.2.right;
}
