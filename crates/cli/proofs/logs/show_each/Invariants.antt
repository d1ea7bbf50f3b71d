-- The logs so far were read.
use Rattle.std.proofs.Common.{◌≡◌, map, take}
use Rattle.cli.specs.inner.Telling.{ShowEach}
use Rattle.cli.proofs.logs.show_each.Given as goal

abbrev pub invariant-loop-name : goal.invariant-loop-name
invariant-loop-name g l = record {
  same : g.F.Files.folder l.files ≡ g.F.Files.folder l.fn.files;
  shown : ShowEach (g.F.Files.folder l.fn.files) l.fn.native (map (λ n. n.now) (take l.name-index l.names)) l.shown;
}
