use Rattle.std.proofs.Common.{◌∙◌, sym, lit<}
use Rattle.std.specs.Prelude.{None, Some}
use Rattle.std.proofs.lemmas.Str.Pattern.{strip_suffix_char}
use Rattle.bpf_asm.proofs.Parts.{bracketed_at-closed, bracketed_at-open}
use Rattle.bpf_asm.proofs.arguments.bracketed.Goals as goal

pub returns-in_err-strip_suffix : goal.returns-in_err-strip_suffix
returns-in_err-strip_suffix c =
    let open_end = strip_suffix_char 93 c.args.rest.now None c.in_err-strip_suffix.ensures.cases (lit< tt) in
    c.from_residual.ensures ∙ sym (bracketed_at-open c.args.rest.now open_end)

pub returns : goal.returns
returns c =
    let ended = strip_suffix_char 93 c.args.rest.now (Some c.in_ok-strip_suffix.field-0) c.in_ok-strip_suffix.ensures.cases (lit< tt) in
    c.decimal.ensures ∙ sym (bracketed_at-closed c.args.rest.now c.in_ok-strip_suffix.field-0.now ended)
