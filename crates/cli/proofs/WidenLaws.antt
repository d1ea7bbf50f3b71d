-- A profile and what was learned of logs, together.
use Rattle.std.proofs.Common.{◌≡◌, ℕ, Bool, false, true, List, [], ◌∷◌, refl, subst}
use Rattle.std.specs.Prelude.{Option, not}
use Rattle.machines.specs.declared.arch.Arch.{Arch}
use Rattle.section.specs.Texts.{IsBundleText}
use Rattle.strace_logs.specs.Learned.{IsLearned}
use Rattle.strace_logs.specs.declared.lists.Otherwise.{Otherwise}
use Rattle.strace_logs.specs.declared.lists.Runtime.{Runtime}
use Rattle.together.specs.Combined.{IsCombined}
use Rattle.together.specs.declared.way.Way.TheVariants.{Laxest}
use Rattle.wording.specs.declared.told.Told.{Told}
use Rattle.cli.specs.Combined.{TellsCombined}
use Rattle.cli.specs.Widened.{TellsWidened}

pub widened_of : (native : Arch) (file bundle learned : List ℕ) (texts : List (List ℕ)) (runtime : Option Runtime) (otherwise : Otherwise)
    (bundles : List (List ℕ)) (told : Told) → bundles ≡ learned ∷ bundle ∷ [] → IsBundleText native file bundle
    → IsLearned native texts runtime otherwise learned → TellsCombined native Laxest bundles told
    → TellsWidened native file texts runtime otherwise told
widened_of native file bundle learned texts runtime otherwise bundles told same taken is combined = λ done. record {
  bundle = bundle;
  taken = taken;
  learned = learned;
  is = is;
  both = subst (λ (bs : List (List ℕ)). IsCombined native Laxest bs told.bytes.items) same (combined done);
}
