-- Laws of the machines as values.
use Rattle.std.proofs.Common.{◌≡◌, ◌^◌, ◌<◌, List, [], ◌∷◌, get_or, refl, sym, ap, ◌∙◌, arith}
use Rattle.std.specs.Bool.{Decides}
use Rattle.std.proofs.lemmas.Bool.Decides.{Decides-eqb, Decides-like}
use Rattle.machines.specs.declared.arch.Arch.{Arch}
use Rattle.machines.specs.declared.arch.Arch.TheVariants.{X86_64, Aarch64, LinuxX86_64, LinuxX86, LinuxX32, LinuxAarch64, LinuxArm, LinuxRiscv64, LinuxPpc64le, LinuxLoongarch64, LinuxS390x, LinuxS390}
use Rattle.machines.specs.Arch.{token_of, place_of, same_arch}

pub token_of-fits : (arch : Arch) → token_of arch < 2 ^ 32
token_of-fits X86_64 = omega arith
token_of-fits Aarch64 = omega arith
token_of-fits LinuxX86_64 = omega arith
token_of-fits LinuxX86 = omega arith
token_of-fits LinuxX32 = omega arith
token_of-fits LinuxAarch64 = omega arith
token_of-fits LinuxArm = omega arith
token_of-fits LinuxRiscv64 = omega arith
token_of-fits LinuxPpc64le = omega arith
token_of-fits LinuxLoongarch64 = omega arith
token_of-fits LinuxS390x = omega arith
token_of-fits LinuxS390 = omega arith

-- ---- machines are told apart by their places

all : List Arch
all =
    X86_64 ∷ Aarch64 ∷ LinuxX86_64 ∷ LinuxX32 ∷ LinuxX86 ∷ LinuxAarch64 ∷ LinuxArm ∷ LinuxRiscv64 ∷ LinuxPpc64le ∷ LinuxLoongarch64
    ∷ LinuxS390x ∷ LinuxS390 ∷ []

at_place : (a : Arch) → get_or all (place_of a) X86_64 ≡ a
unfolding all
at_place X86_64 = refl
at_place Aarch64 = refl
at_place LinuxX86_64 = refl
at_place LinuxX86 = refl
at_place LinuxX32 = refl
at_place LinuxAarch64 = refl
at_place LinuxArm = refl
at_place LinuxRiscv64 = refl
at_place LinuxPpc64le = refl
at_place LinuxLoongarch64 = refl
at_place LinuxS390x = refl
at_place LinuxS390 = refl

pub Decides-same_arch : (a b : Arch) → Decides (same_arch a b) (a ≡ b)
Decides-same_arch a b =
    Decides-like (same_arch a b) (λ same. sym (at_place a) ∙ ap (λ k. get_or all k X86_64) same ∙ at_place b) (ap place_of)
    (Decides-eqb (place_of a) (place_of b))
