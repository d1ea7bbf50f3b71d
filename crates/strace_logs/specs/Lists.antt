-- The names that a bundle gets beside those of the logs, each list for a reason that is told.
use Rattle.std.specs.Prelude.{ℕ, Bool, false, ◌||◌, List, Option, Some, None}
use Rattle.std.specs.List.{list_any}
use Rattle.std.specs.Str.{bytes_eq}
use Rattle.strace_logs.specs.declared.lists.Runtime.{Runtime}
use Rattle.strace_logs.specs.declared.lists.Runtime.TheVariants.{Crun, Runc, Bubblewrap, Docker, Podman}
use Rattle.strace_logs.specs.declared.lists.TheConstants.{NEEDED, FALLBACKS, THREADS, OF_CRUN}
use Rattle.strace_logs.specs.declared.lists.TheConstants.{OF_RUNC, OF_BUBBLEWRAP, OF_TINI, OF_INITS}

-- a call that a program needs and no log shows
unfoldable pub is_needed : List ℕ → Bool
is_needed name = list_any (λ other. bytes_eq other.now name) NEEDED.now

-- a call that makes threads
unfoldable pub makes_threads : List ℕ → Bool
makes_threads name = list_any (λ other. bytes_eq other.now name) THREADS.now

-- a call for which programs fall back on older ones
unfoldable pub is_fallen_back : List ℕ → Bool
is_fallen_back name = list_any (λ other. bytes_eq other.now name) FALLBACKS.now

unfoldable pub is_of_crun : List ℕ → Bool
is_of_crun name = list_any (λ other. bytes_eq other.now name) OF_CRUN.now

unfoldable pub is_of_runc : List ℕ → Bool
is_of_runc name = list_any (λ other. bytes_eq other.now name) OF_RUNC.now

unfoldable pub is_of_bubblewrap : List ℕ → Bool
is_of_bubblewrap name = list_any (λ other. bytes_eq other.now name) OF_BUBBLEWRAP.now

unfoldable pub is_of_tini : List ℕ → Bool
is_of_tini name = list_any (λ other. bytes_eq other.now name) OF_TINI.now

unfoldable pub is_of_inits : List ℕ → Bool
is_of_inits name = list_any (λ other. bytes_eq other.now name) OF_INITS.now

-- docker has runc, and may put tini before the program; podman has crun, and may put catatonit, tini or dumb-init there
abbrev pub is_of_docker : List ℕ → Bool
is_of_docker name = is_of_runc name || is_of_tini name

abbrev pub is_of_podman : List ℕ → Bool
is_of_podman name = is_of_crun name || is_of_inits name

-- a call that a runtime makes itself between the load of a filter and the program, or that process before the program
abbrev pub is_of_runtime : Option Runtime → List ℕ → Bool
is_of_runtime None name = false
is_of_runtime (Some Crun) name = is_of_crun name
is_of_runtime (Some Runc) name = is_of_runc name
is_of_runtime (Some Bubblewrap) name = is_of_bubblewrap name
is_of_runtime (Some Docker) name = is_of_docker name
is_of_runtime (Some Podman) name = is_of_podman name

-- the name is one of the lists
abbrev pub is_listed : Option Runtime → List ℕ → Bool
is_listed runtime name = is_needed name || makes_threads name || is_fallen_back name || is_of_runtime runtime name
