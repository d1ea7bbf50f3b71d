-- What a value is that stands in a file which is taken as a bundle.
use Rattle.std.specs.Prelude.{ℕ, ◌||◌, Bool, false, nat_eq, List, Option, Some, None, codes, is_some, option_and_then, if◌then◌else◌}
use Rattle.std.specs.List.{list_any, starts_with}
use Rattle.serde_json.specs.Data.{Data}
use Rattle.serde_json.specs.Find.{get}
use Rattle.profile_json.specs.Keys as key
use Rattle.profile_json.specs.Lookup.{list}
use Rattle.section.specs.declared.kinds.Kind.{Kind}
use Rattle.section.specs.declared.kinds.Kind.TheVariants.{Bundle, Section, EnginesOwn, Kubernetes, KubernetesList, Yaml, NoConfig}

-- it is an object that has a member under the key
abbrev pub has : List ℕ → Data → Bool
has key d = is_some (get key d)

-- an entry that counts in some containers alone
abbrev pub is_conditional : Data → Bool
is_conditional d = has (codes "includes") d || has (codes "excludes") d

abbrev pub some_conditional : Option (List Data) → Bool
some_conditional None = false
some_conditional (Some entries) = list_any is_conditional entries

abbrev pub has_conditional : Data → Bool
has_conditional t = some_conditional (option_and_then list (get key.syscalls t))

-- An engine's own profile. Engines leave entries out of it, container by container, and name machines in another way.
abbrev pub is_engines_own : Data → Bool
is_engines_own t = has (codes "archMap") t || has_conditional t

-- a default verdict stands in the object under `spec`
abbrev pub has_default : Option Data → Bool
has_default None = false
has_default (Some spec) = has key.default_action spec

abbrev pub is_kubernetes : Data → Bool
is_kubernetes t = has_default (get (codes "spec") t)

-- what has a default verdict at its top
abbrev pub kind_by_itself : Data → Kind
kind_by_itself t = if is_engines_own t then EnginesOwn else Section

-- what has neither that nor a member `linux`
abbrev pub kind_of_other : Data → Kind
kind_of_other t =
    if is_kubernetes t then Kubernetes
    else if has key.oci_version t then Bundle
    else if has (codes "items") t then KubernetesList
    else NoConfig

-- A config has a member `linux` or `ociVersion` at its top, a profile by itself a default verdict, an object of Kubernetes one under
-- `spec`. What has none of these is no config.
abbrev pub kind_of : Data → Kind
kind_of t =
    if has key.linux t then Bundle else if has key.default_action t then kind_by_itself t else kind_of_other t

-- the text begins as an object of Kubernetes does in YAML
abbrev pub is_yaml : List ℕ → Bool
is_yaml bytes =
    starts_with nat_eq bytes (codes "apiVersion:") || (starts_with nat_eq bytes (codes "kind:") || starts_with nat_eq bytes (codes "---"))

-- what a text is that is no JSON
abbrev pub kind_of_other_text : List ℕ → Kind
kind_of_other_text bytes = if is_yaml bytes then Yaml else Bundle
