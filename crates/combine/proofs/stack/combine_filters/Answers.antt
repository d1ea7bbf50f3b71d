use Rattle.std.proofs.Common.{Global, List, Vec, map, string_bytes, subst, ℕ}
use Rattle.differ.proofs.BranchLaws.{ok_weaker}
use Rattle.together.specs.Combined.{IsCombined}
use Rattle.together.specs.declared.way.Way.TheVariants.{Strictest}
use Rattle.combine.proofs.StackLaws.{of_stack}
use Rattle.combine.proofs.stack.combine_filters.Goals as goal

-- the bytes of a vector
abbrev bytes : Vec ℕ Global → List ℕ
bytes b = b.items

pub returns-clause-stacked : goal.returns-clause-stacked
returns-clause-stacked c =
    let filters : List (List ℕ) = map bytes c.args.filters.now in
    let bundles : List (Vec ℕ Global) = c.in_ok-bundles.bundles.items in
    ok_weaker c.combine.result _ _ (λ made combined.
    of_stack c.args.native filters (map bytes bundles) (string_bytes made) c.in_ok-bundles.ensures.recovered
    (subst (λ (bs : List (Vec ℕ Global)). IsCombined c.args.native Strictest (map bytes bs) (string_bytes made)) c.deref.ensures.value combined))
    c.combine.ensures.combined
