use Rattle.std.proofs.Common.{◌∙◌, sym, refl, rules, lit<}
use Rattle.std.specs.Prelude.{[], ◌∷◌, None}
use Rattle.std.proofs.lemmas.Str.Pattern.{strip_prefix_char}
use Rattle.texts.proofs.Splits.{behind_absent}
use Rattle.bpf_asm.proofs.Parts.{part_at-number}
use Rattle.bpf_asm.proofs.arguments.read_part.Goals as goal

pub returns-in-Some-hexadecimal : goal.returns-in-Some-hexadecimal
returns-in-Some-hexadecimal c =
    let mark = strip_prefix_char 35 c.args.text.now None c.in_default.ensures.cases (lit< tt) in
    let bracket = strip_prefix_char 91 c.args.text.now None c.in_default-strip_prefix.ensures.cases (lit< tt) in
    let scratch = behind_absent (77 ∷ 91 ∷ []) c.args.text.now c.in_default-strip_prefix-2.ensures.cases in
    let read =
    part_at-number c.args.text.now (sym c.eq.ensures ∙ c.if-eq.false) (sym c.eq-2.ensures ∙ c.if-eq-2.false) mark bracket scratch in
    rw (read, ← c.in-Some-hexadecimal.ensures) refl

pub returns-in-None : goal.returns-in-None
returns-in-None c =
    let mark = strip_prefix_char 35 c.args.text.now None c.in_default.ensures.cases (lit< tt) in
    let bracket = strip_prefix_char 91 c.args.text.now None c.in_default-strip_prefix.ensures.cases (lit< tt) in
    let scratch = behind_absent (77 ∷ 91 ∷ []) c.args.text.now c.in_default-strip_prefix-2.ensures.cases in
    let read =
    part_at-number c.args.text.now (sym c.eq.ensures ∙ c.if-eq.false) (sym c.eq-2.ensures ∙ c.if-eq-2.false) mark bracket scratch in
    rw (read, ← c.in-None.ensures) (search rules)
