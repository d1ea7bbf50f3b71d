use Rattle.std.proofs.Common.{◌≡◌, ℕ, List, Err, get_or, rules}
use Rattle.differ.specs.Left.{AreNeverUnlike, AreUnlikeAt}
use Rattle.differ.proofs.WalkLaws.{none_weaker}
use Rattle.widths.proofs.UnlikeLaws.{never_unlike, unlike_not_like, unsettled_from}
use Rattle.widths.proofs.unread_bits.on_call.past_on.Goals as goal

pub returns-in_err-unlike_at-clause-unsettled : goal.returns-in_err-unlike_at-clause-unsettled
returns-in_err-unlike_at-clause-unsettled c =
    let is : c.from_residual-in_err-unlike_at.result ≡ Err c.in_err-unlike_at.field-0.0 = search rules in
    rw is
    (unsettled_from c.args.profile.now c.args.token c.args.nr c.in_ok-memory.memory.limited c.in_err-unlike_at.field-0.0
    c.in_ok-memory.ensures c.in_err-unlike_at.ensures.stopped)

pub returns-in-None-clause-none : goal.returns-in-None-clause-none
returns-in-None-clause-none c =
    let never : AreNeverUnlike c.args.direction c.bits_of-bits.result 0 c.bits_of-bits.result c.in_ok-one.one c.in_ok-other.other =
    rw c.in-None.is at c.in_ok-unlike_at.ensures.none in
    never_unlike c.args.profile.now c.args.token c.args.nr c.args.direction c.bits_of-bits.result c.in_ok-one.one c.in_ok-other.other c.all_bits-whole.result
    c.reads_of-read.result c.rules.ensures.is_profile.clear c.bits_of-bits.ensures.is c.all_bits-whole.ensures c.reads_of-read.ensures
    c.in_ok-one.ensures c.in_ok-other.ensures never

pub returns-clause-none : goal.returns-clause-none
returns-clause-none c =
    let args : List ℕ = c.in-Some.args in
    let found : AreUnlikeAt c.args.direction c.bits_of-bits.result 0 c.bits_of-bits.result c.in_ok-one.one c.in_ok-other.other (λ i. get_or args i 0) =
    rw c.in-Some.is at c.in_ok-unlike_at.ensures.found in
    none_weaker c.past_by.result _ _ (λ like. absurd (
    unlike_not_like c.args.profile.now c.args.token c.args.nr c.args.direction c.bits_of-bits.result c.in_ok-one.one c.in_ok-other.other c.all_bits-whole.result
    c.reads_of-read.result c.record_of-call.result args c.rules.ensures.is_profile.clear c.bits_of-bits.ensures.is c.all_bits-whole.ensures
    c.reads_of-read.ensures c.in_ok-one.ensures c.in_ok-other.ensures c.record_of-call.ensures.arch c.record_of-call.ensures.nr
    c.record_of-call.ensures.args c.words_are_a_record.ensures found like)) c.past_by.ensures.none
