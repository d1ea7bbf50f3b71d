use Rattle.std.proofs.Common.{ℕ, List, [], ◌∷◌, ◌++◌, ap, subst, sym, take, ◌∙◌}
use Rattle.std.proofs.lemmas.List.{take_more}
use Rattle.std.specs.Prelude.{string_bytes}
use Rattle.maker.specs.declared.evidence.evidence.Counterexample.{Counterexample}
use Rattle.compare.specs.Counterexamples.{AreLines}
use Rattle.compare.proofs.CounterexampleLineLaws.{one_more}
use Rattle.compare.proofs.counterexamples.lines.lines_of.Goals as goal

pub loop-found-preserved : goal.loop-found-preserved
loop-found-preserved c =
    let all = c.args.all.now in
    let i = c.loop-found.found-index in
    let found = c.found-item.result in
    let more = take_more all i found c.loop-found-test.true ∙ ap (λ (x : Counterexample). take i all ++ x ∷ []) (sym c.found-item.is) in
    let text = c.in_ok-push_str.ensures.bytes ∙ ap (λ (t : List ℕ). string_bytes c.loop-found.text ++ t) c.deref.ensures in
    subst (λ (some : List Counterexample). AreLines some (string_bytes c.push_str.new.self)) (sym more)
    (subst (λ (t : List ℕ). AreLines (take i all ++ found ∷ []) t) (sym text)
    (one_more (take i all) found (string_bytes c.loop-found.text) (string_bytes c.in_ok-line.line) c.loop-found.invariant c.in_ok-line.ensures))
