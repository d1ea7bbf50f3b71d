use Rattle.std.proofs.Common.{◌≡◌, ◌+◌, ◌*◌, ℕ, List, Result, Ok, Err, ap, sym, subst, ◌∙◌, arith}
use Rattle.std.specs.Prelude.{IfErr}
use Rattle.std.proofs.lemmas.Result.{IfOk-weaker}
use Rattle.cert_form.specs.declared.fault.FormError.{FormError}
use Rattle.cert_form.specs.Faults.{HasBadPart, IsBadChained}
use Rattle.cert_form.specs.Reading.{long_at, node_end, place_of}
use Rattle.cert_form.specs.inner.Standing.{Fails}
use Rattle.cert_form.proofs.StandLaws.{weaker}
use Rattle.cert_form.proofs.PlaceLaws.{next_place}
use Rattle.cert_form.proofs.chained.judge_placed.Goals as goal

pub returns-then-read_long-at-clause-fault : goal.returns-then-read_long-at-clause-fault
returns-then-read_long-at-clause-fault c =
    HasBadPart.offset c.args.i (omega (arith, c.requires.table, c.requires.one)) c.requires.form c.requires.one
    (λ e. c.if-read_long-at.true (c.read_long-2.ensures
    ∙ (ap (λ k. long_at c.args.bytes.now (16 + 14 * k + 4 * c.args.i)) c.read_long.ensures ∙ (e ∙ sym c.requires.place))))

pub returns-clause-end : goal.returns-clause-end
returns-clause-end c =
    IfOk-weaker c.judge_chained.result (λ end. end ≡ node_end c.args.bytes.now c.args.at)
    (λ end. end ≡ place_of c.args.bytes.now (c.args.i + 1))
    (λ end e. e ∙ (ap (λ k. node_end c.args.bytes.now k) c.requires.place ∙ sym (next_place c.args.bytes.now c.args.i)))
    c.judge_chained.ensures.end

fault : (r : Result ℕ FormError) (bytes : List ℕ) (end end' : ℕ) {Bad Whole : Type 0} → end ≡ end' → (Bad → Whole)
    → IfErr r (λ e. Fails e bytes end Bad) → IfErr r (λ e. Fails e bytes end' Whole)
fault (Ok x) bytes end end' same f p = tt
fault (Err e) bytes end end' same f p = weaker e bytes end end' (omega (arith, same)) f p

pub returns-clause-fault : goal.returns-clause-fault
returns-clause-fault c =
    fault c.judge_chained.result c.args.bytes.now _ _
    (ap (λ k. node_end c.args.bytes.now k) c.requires.place ∙ sym (next_place c.args.bytes.now c.args.i))
    (λ bad. HasBadPart.chained c.args.i (omega (arith, c.requires.table)) c.requires.form c.requires.one
    (subst (λ k. IsBadChained c.args.bytes.now k) c.requires.place bad))
    c.judge_chained.ensures.fault
