use Rattle.std.proofs.lemmas.Result.{err_from_is_err_and}
use Rattle.kernel_check.specs.Lent.{accepted_insns}
use Rattle.certify.specs.inner.Meant.{IsMeant}
use Rattle.certify.proofs.FitLaws.{first_room}
use Rattle.certify.proofs.SoundLaws.{first_led, first_sound}
use Rattle.certify.proofs.TellingLaws.{steady_telling}
use Rattle.certify.proofs.ToldLaws.{of_right}
use Rattle.certify.proofs.WayLaws.{accepted_is}
use Rattle.certify.proofs.following.by_paths.Goals as goal

pub follow_all-requires : goal.follow_all-requires
follow_all-requires c = record {
  sound = first_sound c.args.profile.now (accepted_insns c.args.program.now) c.in_ok-paths.paths (accepted_is c.args.program.now)
      c.in_ok-paths.ensures.paths c.in_ok-paths.ensures.places c.in_ok-paths.ensures.kinds;
}

pub returns-in_err-follow_all-clause-truly : goal.returns-in_err-follow_all-clause-truly
returns-in_err-follow_all-clause-truly c =
    let p = err_from_is_err_and c.from_residual-in_err-follow_all.result c.from_residual-in_err-follow_all.ensures.1 in
    rw (p.1, p.2) c.in_err-follow_all.ensures.truly

pub returns-in_err-follow_all-clause-told : goal.returns-in_err-follow_all-clause-told
returns-in_err-follow_all-clause-told c = λ telling.
    let p = err_from_is_err_and c.from_residual-in_err-follow_all.result c.from_residual-in_err-follow_all.ensures.1 in
    rw (p.1, p.2) (c.in_err-follow_all.ensures.told
    (first_led (accepted_insns c.args.program.now) c.in_ok-paths.paths telling c.in_ok-paths.ensures.places))

pub returns-in_err-follow_all-clause-never : goal.returns-in_err-follow_all-clause-never
returns-in_err-follow_all-clause-never c = λ telling right.
    of_right c.args.profile.now (accepted_insns c.args.program.now) right _ (returns-in_err-follow_all-clause-told c telling)

pub returns-in_err-follow_all-clause-steady : goal.returns-in_err-follow_all-clause-steady
returns-in_err-follow_all-clause-steady c = λ steady.
    returns-in_err-follow_all-clause-told c (steady_telling (accepted_insns c.args.program.now) steady)

-- ---- of a profile without conditions

pub returns-in_err-follow_all-clause-memory : goal.returns-in_err-follow_all-clause-memory
returns-in_err-follow_all-clause-memory c = λ plain shape.
    let policy = c.args.profile.now in
    let program = accepted_insns c.args.program.now in
    let meant : IsMeant policy program = record { profile = c.rules.ensures.is_profile; plain = plain; shape = shape } in
    let start = c.in_ok-paths.paths in
    let room = first_room policy program meant start c.in_ok-paths.ensures.places c.in_ok-paths.ensures.kinds in
    let q = err_from_is_err_and c.from_residual-in_err-follow_all.result c.from_residual-in_err-follow_all.ensures.1 in
    rw (q.1, q.2) (c.in_err-follow_all.ensures.memory meant room)
