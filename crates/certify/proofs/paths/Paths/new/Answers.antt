use Rattle.std.proofs.Common.{◌∙◌, ap}
use Rattle.std.specs.Prelude.{◌++◌, ◌∷◌, []}
use Rattle.certify.specs.inner.Places.{first_place}
use Rattle.certify.proofs.PathLaws.{first_paths}
use Rattle.certify.proofs.paths.Paths.new.Goals as goal

pub returns-clause-paths : goal.returns-clause-paths
returns-clause-paths c =
    first_paths (record { entries = c.new.result; places = c.push.new.self; kinds = c.new-2.result }) c.new.ensures.items
    (c.in_ok-push.ensures.items ∙ ap (λ xs. xs ++ first_place ∷ []) c.new-places.ensures.items)
