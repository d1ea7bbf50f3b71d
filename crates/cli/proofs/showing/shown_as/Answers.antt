use Rattle.std.proofs.Common.{inl, inr}
use Rattle.cli.proofs.ReviewLaws.{if_ok}
use Rattle.cli.proofs.showing.shown_as.Goals as goal

pub returns-then-eq : goal.returns-then-eq
returns-then-eq c = if_ok c.costs.result _ _ (λ told is. inr is) c.costs.ensures

pub returns : goal.returns
returns c = if_ok c.annotated.result _ _ (λ told is. inl is) c.annotated.ensures
