use Rattle.std.proofs.Common.{List, inr, subst}
use Rattle.std.specs.Prelude.{false}
use Rattle.compare.specs.declared.behind_runc.stub.calls.Calls.{Calls}
use Rattle.compare.specs.Behind.{AreFoundBehind}
use Rattle.aside.proofs.FrontLaws.{if_ok}
use Rattle.aside.proofs.counterexamples.counterexamples_in.Goals as goal

pub of_found-requires : goal.of_found-requires
of_found-requires c = c.requires c.in-Refuting.found c.in-Refuting.is

pub returns-in_ok-passed-in-Refuting : goal.returns-in_ok-passed-in-Refuting
returns-in_ok-passed-in-Refuting c =
    if_ok c.of_found.result _ _
    (λ all are. inr (
      c.in-Refuting.found,
      c.in-Refuting.is,
      subst (λ (passed : List Calls). AreFoundBehind c.args.document.now.native c.args.document.now.bytes c.args.filter.now passed false c.in-Refuting.found all.items)
          c.in_ok-passed-in-Refuting.ensures are,
    ))
    c.of_found.ensures
