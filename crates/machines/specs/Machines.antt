-- The machines: the constants of the kernel's <linux/audit.h>, and the names of the OCI Runtime
-- Specification (config-linux, Seccomp, architectures).
use Rattle.std.specs.Prelude.{ℕ, List, codes}

-- AUDIT_ARCH_X86_64
abbrev pub x86_64_token : ℕ
x86_64_token = 0xc000003e

-- AUDIT_ARCH_AARCH64
abbrev pub aarch64_token : ℕ
aarch64_token = 0xc00000b7

-- AUDIT_ARCH_I386
abbrev pub x86_token : ℕ
x86_token = 0x40000003

-- AUDIT_ARCH_ARM
abbrev pub arm_token : ℕ
arm_token = 0x40000028

-- AUDIT_ARCH_RISCV64
abbrev pub riscv64_token : ℕ
riscv64_token = 0xc00000f3

-- AUDIT_ARCH_PPC64LE
abbrev pub ppc64le_token : ℕ
ppc64le_token = 0xc0000015

-- AUDIT_ARCH_LOONGARCH64
abbrev pub loongarch64_token : ℕ
loongarch64_token = 0xc0000102

-- AUDIT_ARCH_S390X
abbrev pub s390x_token : ℕ
s390x_token = 0x80000016

-- AUDIT_ARCH_S390
abbrev pub s390_token : ℕ
s390_token = 0x16

abbrev pub x86_64_scmp : List ℕ
x86_64_scmp = codes "SCMP_ARCH_X86_64"

abbrev pub aarch64_scmp : List ℕ
aarch64_scmp = codes "SCMP_ARCH_AARCH64"

abbrev pub x86_scmp : List ℕ
x86_scmp = codes "SCMP_ARCH_X86"

abbrev pub x32_scmp : List ℕ
x32_scmp = codes "SCMP_ARCH_X32"

abbrev pub arm_scmp : List ℕ
arm_scmp = codes "SCMP_ARCH_ARM"

abbrev pub riscv64_scmp : List ℕ
riscv64_scmp = codes "SCMP_ARCH_RISCV64"

abbrev pub ppc64le_scmp : List ℕ
ppc64le_scmp = codes "SCMP_ARCH_PPC64LE"

abbrev pub loongarch64_scmp : List ℕ
loongarch64_scmp = codes "SCMP_ARCH_LOONGARCH64"

abbrev pub s390x_scmp : List ℕ
s390x_scmp = codes "SCMP_ARCH_S390X"

abbrev pub s390_scmp : List ℕ
s390_scmp = codes "SCMP_ARCH_S390"
