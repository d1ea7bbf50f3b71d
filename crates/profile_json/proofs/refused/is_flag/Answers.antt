use Rattle.std.proofs.Common.{refl}
use Rattle.profile_json.proofs.Lists.{is_other}
use Rattle.profile_json.proofs.refused.is_flag.Goals as goal

pub returns-in_default : goal.returns-in_default
returns-in_default c =
    rw (
      is_other _ _ c.in_default.not-SECCOMP_FILTER_FLAG_TSYNC,
      is_other _ _ c.in_default.not-SECCOMP_FILTER_FLAG_LOG,
      is_other _ _ c.in_default.not-SECCOMP_FILTER_FLAG_SPEC_ALLOW,
      is_other _ _ c.in_default.not-SECCOMP_FILTER_FLAG_WAIT_KILLABLE_RECV,
    ) refl
