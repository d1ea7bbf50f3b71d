use Rattle.std.proofs.Common.{◌≡◌, ℕ, ◌∷◌, [], ◌≤◌, length, refl, ap, sym, ◌∙◌}
use Rattle.call_record.specs.Verdict.{strictest_of}
use Rattle.call_record.proofs.StrictestLemmas.{strictest_of-front}
use Rattle.processes.specs.Tasks.{program_judge}
use Rattle.shared_table.specs.Tree.{Way, way_below, way_from, ways_from}
use Rattle.shared_table.proofs.Ways.{way_is, way_past}
use Rattle.shared_table.proofs.Verdicts.{ended, verdicts_on}
use Rattle.shared_table.proofs.tree.Tree.walked.Goals as goal
use Rattle.shared_table.proofs.tree.Tree.walked.Goals.{in-Some-next+in_default-node_at, in_default-next}

pub returns-in_default : goal.returns-in_default
unfolding strictest_of
returns-in_default c =
    let nodes = c.args.self.now.nodes.items in
    let past : length nodes ≤ c.args.place = rw c.in_default.is at c.node_at.ensures in
    rw (way_past nodes c.args.place past) refl

pub down-init : goal.down-init
down-init c =
    let tree = c.args.self.now in
    rw (way_is tree.arch tree.nodes.items c.args.place c.in-Some.first.now tree.tree c.in-Some.ensures, c.verdict-word.ensures) refl

pub down-preserved : goal.down-preserved
down-preserved c =
    let tree = c.args.self.now in
    let nodes = tree.nodes.items in
    let r = c.args.rec.now in
    let m = c.in-Some-node_at.node.now in
    let word : ℕ = (program_judge m.program).verdict r in
    let rest : Way = way_below (ways_from [] nodes) m.below in
    let there : verdicts_on r (way_below (ways_from [] nodes) c.down.next) ≡ word ∷ verdicts_on r rest =
    ap (λ o. verdicts_on r (way_below (ways_from [] nodes) o)) c.in-Some-next.is
    ∙ ap (verdicts_on r) (way_is tree.arch nodes c.in-Some-next.at m tree.tree c.in-Some-node_at.ensures) in
    rw (c.stricter-word.ensures, c.verdict.ensures)
    (strictest_of-front c.down.word word (verdicts_on r rest) ∙ ap (λ ws. strictest_of (c.down.word ∷ ws)) (sym there) ∙ c.down.invariant)

pub returns : goal.returns
returns c =
    let nodes = c.args.self.now.nodes.items in
    let r = c.args.rec.now in
    let all : ℕ = strictest_of (verdicts_on r (way_from nodes c.args.place)) in
    let left : Way = way_below (ways_from [] nodes) c.down.next in
    c.stricter.ensures ∙ elim c.match-next.branch [
      | in-Some-next+in_default-node_at w ↦
          let past : length nodes ≤ w.in-Some-next.at = rw w.in_default-node_at.is at w.node_at-in-Some-next.ensures in
          let none : left ≡ [] = ap (way_below (ways_from [] nodes)) w.in-Some-next.is ∙ way_past nodes w.in-Some-next.at past in
          ended r left c.down.word all none c.down.invariant
      | in_default-next w ↦
          let none : left ≡ [] = ap (way_below (ways_from [] nodes)) w.in_default-next.is in
          ended r left c.down.word all none c.down.invariant
    ]
