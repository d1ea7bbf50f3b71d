-- What is told is of those so far.
use Rattle.std.proofs.Common.{◌≡◌, ◌++◌, take}
use Rattle.std.specs.Prelude.{map, string_bytes}
use Rattle.std.specs.List.{flat_map}
use Rattle.explain.specs.Audit.{origin_line}
use Rattle.explain.specs.inner.Origins.{origin_of}
use Rattle.explain.proofs.audited.origins.put_origins.Given as goal

abbrev pub invariant-loop-origin : goal.invariant-loop-origin
invariant-loop-origin l =
    string_bytes l.text ≡ string_bytes l.fn.text ++ flat_map (origin_line l.event) (map origin_of (take l.origin-index l.origins))
