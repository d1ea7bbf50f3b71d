use Rattle.std.proofs.Common.{sym, subst, ◌∙◌, length}
use Rattle.std.proofs.lemmas.Option.{slice_get-get_or, none-some}
use Rattle.std.proofs.lemmas.Bool.{iff_false}
use Rattle.kernel_check.specs.Lent.{accepted_insns}
use Rattle.cert_state.specs.Entailment.{IsDead}
use Rattle.certify.specs.inner.Places.{IsPlace, known_at}
use Rattle.certify.proofs.FitLaws.{no_shares}
use Rattle.certify.proofs.FollowLaws.{dead_followed, from_inside}
use Rattle.certify.proofs.GrowLaws.{all_at}
use Rattle.certify.proofs.following.follow.Goals as goal

pub returns-then-dead-clause-followed : goal.returns-then-dead-clause-followed
returns-then-dead-clause-followed c =
    let es = c.args.paths.now.entries.items in
    let is : IsDead (known_at es c.args.from) = subst IsDead c.known.ensures (c.dead.ensures.0 c.if-dead.true) in
    dead_followed c.args.profile.now (accepted_insns c.args.program.now) c.args.paths.now c.requires.paths c.requires.inside c.args.from
    c.requires.from is

pub returns-in_default-clause-told : goal.returns-in_default-clause-told
returns-in_default-clause-told c = λ led.
    let p = accepted_insns c.args.program.now in
    let low = from_inside c.args.profile.now p c.args.paths.now c.requires.paths c.requires.inside c.args.from c.requires.from in
    none-some _ (sym c.in_default.ensures ∙ slice_get-get_or p c.args.from.pc (record { code = 0; jt = 0; jf = 0; k = 0 }) low)

pub at_insn-requires-clause-place : goal.at_insn-requires-clause-place
at_insn-requires-clause-place c =
    all_at (IsPlace c.args.paths.now.entries.items) c.args.paths.now.places.items (length c.args.paths.now.kinds.items) c.args.from
    c.requires.paths.places c.requires.from

pub at_insn-requires-clause-alive : goal.at_insn-requires-clause-alive
at_insn-requires-clause-alive c = λ is. iff_false c.dead.ensures c.if-dead.false (subst IsDead (sym c.known.ensures) is)

-- ---- of a profile without conditions

pub returns-then-dead-clause-shares : goal.returns-then-dead-clause-shares
returns-then-dead-clause-shares c = λ nodes meant takes some.
    no_shares c.args.profile.now (accepted_insns c.args.program.now) c.args.paths.now nodes some

pub returns-in_default-clause-memory : goal.returns-in_default-clause-memory
returns-in_default-clause-memory c = λ nodes meant takes some fits.
    let p = accepted_insns c.args.program.now in
    let low = from_inside c.args.profile.now p c.args.paths.now c.requires.paths c.requires.inside c.args.from c.requires.from in
    absurd (none-some _ (sym c.in_default.ensures ∙ slice_get-get_or p c.args.from.pc (record { code = 0; jt = 0; jf = 0; k = 0 }) low))
