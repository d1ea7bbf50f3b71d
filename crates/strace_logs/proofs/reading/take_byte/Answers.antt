use Rattle.std.proofs.Common.{◌≡◌, ℕ, List, [], ◌∷◌, ◌++◌, sym, subst}
use Rattle.strace_logs.specs.Taken.{AreTaken, HasCome}
use Rattle.strace_logs.proofs.Come.{byte_came, line_came}
use Rattle.wording.proofs.Results.{if_ok_both}
use Rattle.std.proofs.lemmas.Bool.{ne_eqb}
use Rattle.strace_logs.proofs.reading.take_byte.Goals as goal

pub returns-then-byte-eq-LINE_FEED : goal.returns-then-byte-eq-LINE_FEED
returns-then-byte-eq-LINE_FEED c = λ before text come.
    let native = c.args.native in
    let old = c.args.calls.now.seen.items in
    let new = c.end_line.new.calls.seen.items in
    let part = c.args.progress.now.part.items in
    let left = c.end_line.new.progress.part.items in
    if_ok_both (λ _. AreTaken native ((before ++ come.lines) ++ part ∷ []) new) (λ _. left ≡ [])
    (λ _. HasCome native before (text ++ c.args.byte ∷ []) left new)
    (λ _ taken none.
    subst (λ (l : List ℕ). HasCome native before (text ++ c.args.byte ∷ []) l new) (sym none)
    (subst (λ (b : ℕ). HasCome native before (text ++ b ∷ []) [] new) (sym c.if-byte-eq-LINE_FEED.true)
    (line_came native before text part old new come taken)))
    c.end_line.result (c.end_line.ensures.taken (before ++ come.lines) come.taken) c.end_line.ensures.part

pub returns : goal.returns
returns c = λ before text come.
    subst (λ (l : List ℕ). HasCome c.args.native before (text ++ c.args.byte ∷ []) l c.args.calls.now.seen.items) (sym c.in_ok-push.ensures.items)
    (byte_came c.args.native before text c.args.progress.now.part.items c.args.calls.now.seen.items c.args.byte
    (ne_eqb c.args.byte 10 c.if-byte-eq-LINE_FEED.false) come)
