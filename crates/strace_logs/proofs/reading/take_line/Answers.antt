use Rattle.std.proofs.Common.{[], ◌∷◌, ◌++◌, sym}
use Rattle.strace_logs.specs.Taken.{AreTaken, Grows, IsCovered}
use Rattle.wording.proofs.Results.{if_ok_always, if_ok_both}
use Rattle.strace_logs.proofs.Taken.{taken_more, taken_none}
use Rattle.strace_logs.proofs.reading.take_line.Goals as goal

pub returns-in-None : goal.returns-in-None
returns-in-None c = λ lines taken.
    if_ok_always (λ _. AreTaken c.args.native (lines ++ c.args.line.now ∷ []) c.args.calls.now.seen.items)
    (λ _. taken_none c.args.native lines c.args.line.now c.args.calls.now.seen.items (sym c.in-None.ensures) taken) c.pass_over.result

pub returns-in-Some : goal.returns-in-Some
returns-in-Some c = λ lines taken.
    let call = c.in-Some.call in
    let old = c.args.calls.now.seen.items in
    let new = c.see.new.calls.seen.items in
    if_ok_both (λ _. Grows old new call.arch call.nr) (λ _. IsCovered new (call.arch, call.nr, call.args))
    (λ _. AreTaken c.args.native (lines ++ c.args.line.now ∷ []) new)
    (λ _ grows covered. taken_more c.args.native lines c.args.line.now old new call.arch call.nr call.args (sym c.in-Some.ensures) grows covered taken)
    c.see.result c.see.ensures.grown c.see.ensures.covered
