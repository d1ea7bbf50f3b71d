-- The files so far were read.
use Rattle.std.proofs.Common.{◌≡◌, map, take}
use Rattle.cli.specs.Dispatch.{HaveBundles}
use Rattle.cli.proofs.files.read_bundles.Given as goal

abbrev pub invariant-loop-name : goal.invariant-loop-name
invariant-loop-name g l = record {
  same : g.F.Files.folder l.files ≡ g.F.Files.folder l.fn.files;
  read : HaveBundles l.fn.native (g.F.Files.folder l.fn.files) (map (λ n. n.now) (take l.name-index l.names)) (map (λ t. t.items) l.texts.items);
}
