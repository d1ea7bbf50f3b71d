use Rattle.std.proofs.Common.{◌≡◌, sym, ◌∙◌, ap, arith, length, length-append, [], ◌∷◌}
use Rattle.std.specs.Prelude.{Some, slice_get}
use Rattle.kernel_check.specs.Lent.{accepted_insns}
use Rattle.std.proofs.lemmas.Result.{err_from_is_err_and}
use Rattle.certify.proofs.FitLaws.{next_fits, next_of, room_after}
use Rattle.certify.proofs.SoundLaws.{next_led, next_sound}
use Rattle.certify.proofs.following.follow_next.Goals as goal

pub returns-clause-sound : goal.returns-clause-sound
returns-clause-sound c =
    let old = c.args.paths.now in
    let here : slice_get old.places.items (length old.kinds.items) ≡ Some c.in-Some.from = sym c.next_place.ensures ∙ c.in-Some.is in
    next_sound c.args.profile.now (accepted_insns c.args.program.now) old c.follow.new.paths c.give.new.self c.in-Some.from
    c.in_ok-kind.kind
    c.requires.sound here c.in_ok-kind.ensures.paths c.in_ok-kind.ensures.followed c.in_ok-give.ensures.given

pub returns-clause-led : goal.returns-clause-led
returns-clause-led c =
    let old = c.args.paths.now in
    let here : slice_get old.places.items (length old.kinds.items) ≡ Some c.in-Some.from = sym c.next_place.ensures ∙ c.in-Some.is in
    next_led c.args.profile.now (accepted_insns c.args.program.now) old c.follow.new.paths c.give.new.self c.in-Some.from c.in_ok-kind.kind
    c.requires.sound here c.in_ok-kind.ensures.paths c.in_ok-kind.ensures.followed c.in_ok-give.ensures.given

-- ---- of a profile without conditions

pub returns-clause-room : goal.returns-clause-room
returns-clause-room c = λ meant room.
    let old = c.args.paths.now in
    let policy = c.args.profile.now in
    let p = accepted_insns c.args.program.now in
    let here : slice_get old.places.items (length old.kinds.items) ≡ Some c.in-Some.from = sym c.next_place.ensures ∙ c.in-Some.is in
    let next = next_of policy p old c.in-Some.from room here in
    room_after policy p old c.follow.new.paths c.give.new.self c.in-Some.from c.in_ok-kind.kind next c.requires.sound.paths
    c.in_ok-kind.ensures.followed.grown (c.in_ok-kind.ensures.shares next.nodes meant next.takes next.some) c.in_ok-give.ensures.given

pub returns-in_err-kind-clause-memory : goal.returns-in_err-kind-clause-memory
returns-in_err-kind-clause-memory c = λ meant room.
    let old = c.args.paths.now in
    let policy = c.args.profile.now in
    let p = accepted_insns c.args.program.now in
    let here : slice_get old.places.items (length old.kinds.items) ≡ Some c.in-Some.from = sym c.next_place.ensures ∙ c.in-Some.is in
    let next = next_of policy p old c.in-Some.from room here in
    let q = err_from_is_err_and c.from_residual.result c.from_residual.ensures.1 in
    rw (q.1, q.2) (c.in_err-kind.ensures.memory next.nodes meant next.takes next.some (next_fits policy p old c.in-Some.from next))

pub returns-clause-one_more : goal.returns-clause-one_more
returns-clause-one_more c = λ is.
    let given = c.in_ok-give.ensures.given in
    let grown = c.in_ok-kind.ensures.followed.grown in
    omega (
      arith,
      ap length given.kinds,
      length-append c.follow.new.paths.kinds.items (c.in_ok-kind.kind ∷ []),
      ap length grown.kinds,
    )
