use Rattle.std.proofs.Common.{◌≡◌, take}
use Rattle.std.specs.Prelude.{map}
use Rattle.byte_order.specs.Turned.{read_as}
use Rattle.byte_order.proofs.turned.each_read_as.Given as goal

abbrev pub invariant-loop-file : goal.invariant-loop-file
invariant-loop-file l =
    map (λ f. f.items) l.filters.items ≡ map (read_as l.native) (map (λ f. f.items) (take l.file-index l.files))
