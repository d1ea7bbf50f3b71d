-- Each text so far has its bundle.
use Rattle.std.proofs.Common.{◌≡◌, length, map, take}
use Rattle.cli.specs.Running.{InTurn, IsBundleOf}
use Rattle.cli.proofs.run.bundles_of.Given as goal

abbrev pub invariant-loop-place : goal.invariant-loop-place
invariant-loop-place l = record {
  each : InTurn (IsBundleOf l.native) 1 (map (λ t. t.items) (take l.place l.texts)) l.list.items;
  count : length l.list.items ≡ l.place;
}
