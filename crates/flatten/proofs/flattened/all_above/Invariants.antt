use Rattle.std.proofs.Common.{◌≤◌, length, map, take}
use Rattle.flatten.specs.Unflat.{most_from}
use Rattle.flatten.specs.inner.Turns as spec
use Rattle.flatten.proofs.flattened.all_above.Given as goal

abbrev pub invariant-loop-place : goal.invariant-loop-place
invariant-loop-place l = record {
  so_far : spec.AnswersAs (map (λ f. f.items) (take l.place l.filters)) l.program.items;
  plain : spec.ArePlain l.program.items;
  small : length l.program.items ≤ 4096;
  most : length l.program.items ≤ most_from 1 (map (λ f. f.items) (take l.place l.filters));
}
