-- The keys of a bundle (OCI Runtime Specification 1.0.2: config, Specification version; config-linux, Seccomp). `errnoRet`,
-- `defaultErrnoRet`, `listenerPath` and `listenerMetadata` come from later editions; they are read under each edition that is read,
-- which is this project's own rule.
use Rattle.std.specs.Prelude.{ℕ, List, codes}

abbrev pub oci_version : List ℕ
oci_version = codes "ociVersion"

abbrev pub linux : List ℕ
linux = codes "linux"

abbrev pub seccomp : List ℕ
seccomp = codes "seccomp"

abbrev pub default_action : List ℕ
default_action = codes "defaultAction"

abbrev pub default_errno_ret : List ℕ
default_errno_ret = codes "defaultErrnoRet"

abbrev pub flags : List ℕ
flags = codes "flags"

abbrev pub listener_path : List ℕ
listener_path = codes "listenerPath"

abbrev pub listener_metadata : List ℕ
listener_metadata = codes "listenerMetadata"

abbrev pub architectures : List ℕ
architectures = codes "architectures"

abbrev pub syscalls : List ℕ
syscalls = codes "syscalls"

abbrev pub names : List ℕ
names = codes "names"

abbrev pub action : List ℕ
action = codes "action"

abbrev pub errno_ret : List ℕ
errno_ret = codes "errnoRet"

abbrev pub args : List ℕ
args = codes "args"

abbrev pub index : List ℕ
index = codes "index"

abbrev pub value : List ℕ
value = codes "value"

abbrev pub value_two : List ℕ
value_two = codes "valueTwo"

abbrev pub op : List ℕ
op = codes "op"
