use Rattle.std.proofs.Common.{◌≡◌, arith}
use Rattle.std.specs.Prelude.{◌≢◌}
use Rattle.std.proofs.lemmas.Result.{err_from_is_err_and}
use Rattle.cert_form.specs.Views.{nodes_of}
use Rattle.cert_form.specs.Reading.{version_of}
use Rattle.cert_form.proofs.SpellingLaws.{nodes_are, not_other, only_memory}
use Rattle.cert_form.proofs.ViewLaws.{head_listed, nodes_listed, head_chained, nodes_chained, spells_listed, spells_chained}
use Rattle.cert_form.proofs.view.CertView.read.Goals as goal

pub returns-in_err-judge_head-clause-only : goal.returns-in_err-judge_head-clause-only
returns-in_err-judge_head-clause-only c = λ ns s.
    let p = err_from_is_err_and c.from_residual.result c.from_residual.ensures.1 in
    rw (p.1, p.2) (only_memory c.args.bytes.now ns c.in_err-judge_head.field-0.0 s c.in_err-judge_head.ensures.fault.0)

pub returns-in_err-offsets-clause-only : goal.returns-in_err-offsets-clause-only
returns-in_err-offsets-clause-only c = λ ns s.
    let p = err_from_is_err_and c.from_residual-in_err-offsets.result c.from_residual-in_err-offsets.ensures.1 in
    rw (p.1, p.2) (only_memory c.args.bytes.now ns c.in_err-offsets.field-0.0 s c.in_err-offsets.ensures.fault)

pub invariant_of-result : goal.invariant_of-result
invariant_of-result c =
    let form : version_of c.args.bytes.now ≡ 1 = omega (arith, c.read_long.ensures, c.if-read_long-eq1.true) in
    record {
      head = head_listed c.args.bytes.now c.in_ok-judge_head.ensures.sound form;
      there = nodes_listed c.args.bytes.now c.in_ok-offsets.offsets.items form c.in_ok-offsets.ensures.nodes;
    }

pub returns-then-read_long-eq1-clause-found : goal.returns-then-read_long-eq1-clause-found
unfolding nodes_of
returns-then-read_long-eq1-clause-found c =
    spells_listed c.args.bytes.now c.in_ok-offsets.offsets.items (λ i. omega (arith, c.type_inv.bytes i)) c.in_ok-judge_head.ensures.sound
    (omega (arith, c.read_long.ensures, c.if-read_long-eq1.true)) c.in_ok-offsets.ensures.nodes c.in_ok-offsets.ensures.end

pub returns-then-read_long-eq1-clause-only : goal.returns-then-read_long-eq1-clause-only
unfolding nodes_of
returns-then-read_long-eq1-clause-only c = λ ns s. nodes_are c.args.bytes.now ns s

pub returns-in_err-judge_all-clause-only : goal.returns-in_err-judge_all-clause-only
returns-in_err-judge_all-clause-only c = λ ns s.
    let p = err_from_is_err_and c.from_residual-in_err-judge_all.result c.from_residual-in_err-judge_all.ensures.1 in
    rw (p.1, p.2) (only_memory c.args.bytes.now ns c.in_err-judge_all.field-0.0 s c.in_err-judge_all.ensures.fault)

pub invariant_of-result-2 : goal.invariant_of-result-2
invariant_of-result-2 c =
    let bytes = c.args.bytes.now in
    let form : version_of bytes ≢ 1 = λ e. c.if-read_long-eq1.false (omega (arith, c.read_long.ensures, e)) in
    let all = c.in_ok-judge_all.ensures in
    record {
      head = head_chained bytes c.in_ok-judge_head.ensures.sound (omega (arith, all.table)) all.entries;
      there = nodes_chained bytes c.new.result.items form all.table all.nodes;
    }

pub returns-clause-found : goal.returns-clause-found
unfolding nodes_of
returns-clause-found c =
    let all = c.in_ok-judge_all.ensures in
    spells_chained c.args.bytes.now (λ i. omega (arith, c.type_inv.bytes i)) c.in_ok-judge_head.ensures.sound
    (λ e. c.if-read_long-eq1.false (omega (arith, c.read_long.ensures, e))) all.counted all.entries all.table all.nodes all.end

pub returns-clause-only : goal.returns-clause-only
unfolding nodes_of
returns-clause-only c = λ ns s. nodes_are c.args.bytes.now ns s

pub returns-in_err-offsets-clause-version : goal.returns-in_err-offsets-clause-version
returns-in_err-offsets-clause-version c = not_other c.from_residual-in_err-offsets.result c.args.bytes.now c.in_ok-judge_head.ensures.sound

pub returns-in_err-judge_all-clause-version : goal.returns-in_err-judge_all-clause-version
returns-in_err-judge_all-clause-version c = not_other c.from_residual-in_err-judge_all.result c.args.bytes.now
    c.in_ok-judge_head.ensures.sound

pub returns-in_err-judge_head-clause-version : goal.returns-in_err-judge_head-clause-version
returns-in_err-judge_head-clause-version c =
    let p = err_from_is_err_and c.from_residual.result c.from_residual.ensures.1 in
    rw (p.1, p.2) c.in_err-judge_head.ensures.version
