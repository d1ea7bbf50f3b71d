use Rattle.std.proofs.Common.{◌≡◌, ℕ, List, [], ◌∷◌, ◌++◌, ◌+◌, take, append_assoc, append-nil, get_or, sym, ap, subst, ◌∙◌}
use Rattle.std.proofs.lemmas.List.{take_all, take_more}
use Rattle.strace_logs.specs.Taken.{HasCome}
use Rattle.strace_logs.proofs.reading.take_bytes.Goals as goal

pub loop-byte-init : goal.loop-byte-init
loop-byte-init c = λ before text come.
    subst (λ (t : List ℕ). HasCome c.args.native before t c.args.progress.now.part.items c.args.calls.now.seen.items) (sym (append-nil text)) come

pub loop-byte-preserved : goal.loop-byte-preserved
loop-byte-preserved c = λ before text come.
    let bytes = c.args.bytes.now in
    let i = c.loop-byte.byte-index in
    let grown = take_more bytes i 0 c.loop-byte-test.true in
    let joined : text ++ take (i + 1) bytes ≡ (text ++ take i bytes) ++ get_or bytes i 0 ∷ [] =
    ap (λ (l : List ℕ). text ++ l) grown ∙ sym (append_assoc text (take i bytes) (get_or bytes i 0 ∷ [])) in
    subst (λ (t : List ℕ). HasCome c.args.native before t c.take_byte.new.progress.part.items c.take_byte.new.calls.seen.items) (sym joined)
    (c.in_ok-take_byte.ensures before (text ++ take i bytes) (c.loop-byte.invariant before text come))

pub returns : goal.returns
returns c = λ before text come.
    subst (λ (l : List ℕ). HasCome c.args.native before (text ++ l) c.loop-byte.progress.part.items c.loop-byte.calls.seen.items)
    (take_all c.loop-byte.byte-index c.args.bytes.now c.loop-byte-test.false) (c.loop-byte.invariant before text come)
