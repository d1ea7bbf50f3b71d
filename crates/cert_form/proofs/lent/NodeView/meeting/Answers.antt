use Rattle.std.proofs.Common.{◌≡◌, [], List, ℕ, sym, subst, ◌∙◌, arith}
use Rattle.cert_form.specs.Reading.{chain_place, claims_left, long_at, version_of}
use Rattle.cert_form.specs.Views.{AreLast, certificate_of, claims_from, claims_of}
use Rattle.cert_form.proofs.ReadLaws.{claims_are, no_claims}
use Rattle.cert_form.specs.Views.{numbers_of}
use Rattle.cert_form.proofs.NumberLaws.{none_shared, shared_left}
use Rattle.cert_form.proofs.lent.NodeView.meeting.Goals as goal

none : (bytes : List ℕ) (place : ℕ) → version_of bytes ≡ 1 → AreLast (claims_left bytes 0) (claims_left bytes place)
none bytes place one = ([], no_claims bytes 0 one ∙ sym (no_claims bytes place one))

pub returns-then-read_long-eq1-clause-here : goal.returns-then-read_long-eq1-clause-here
unfolding certificate_of claims_of
returns-then-read_long-eq1-clause-here c =
    none c.args.self.now.bytes.now _ (omega (arith, c.read_long.ensures, c.if-read_long-eq1.true))

pub returns-then-read_long-eq1-clause-there : goal.returns-then-read_long-eq1-clause-there
unfolding certificate_of claims_of
returns-then-read_long-eq1-clause-there c = λ same.
    let theirs = c.args.other.now.bytes.now in
    let place : ℕ = long_at theirs (chain_place theirs c.args.other.now.at) in
    subst (λ bytes. AreLast (claims_left c.args.self.now.bytes.now 0) (claims_left bytes place)) same
    (none c.args.self.now.bytes.now place (omega (arith, c.read_long.ensures, c.if-read_long-eq1.true)))

pub returns-clause-there : goal.returns-clause-there
unfolding certificate_of
returns-clause-there c = λ same.
    subst (AreLast (claims_from c.args.self.now c.meeting.result)) c.chain-2.ensures.claims
    (subst (λ bytes. AreLast (claims_left c.args.self.now.bytes.now c.meeting.result) (claims_left bytes c.chain-2.result)) same
    (rw (
      claims_are c.args.self.now.bytes.now c.meeting.result (λ one. c.if-read_long-eq1.false (omega (arith, c.read_long.ensures, one))),
      claims_are c.args.self.now.bytes.now c.chain-2.result (λ one. c.if-read_long-eq1.false (omega (arith, c.read_long.ensures, one))),
    )
    c.meeting.ensures.second))

pub returns-then-read_long-eq1-clause-shared : goal.returns-then-read_long-eq1-clause-shared
unfolding certificate_of numbers_of
returns-then-read_long-eq1-clause-shared c = λ same.
    let mine = c.args.self.now.bytes.now in
    none_shared mine 0 (long_at mine (chain_place mine c.args.self.now.at)) (numbers_of c.args.other.now)
    (omega (arith, c.read_long.ensures, c.if-read_long-eq1.true))

pub returns-clause-shared : goal.returns-clause-shared
unfolding certificate_of
returns-clause-shared c = λ same.
    shared_left c.args.self.now.bytes.now c.args.other.now.bytes.now c.meeting.result c.chain.result c.chain-2.result
    (numbers_of c.args.self.now) (numbers_of c.args.other.now) (λ one. c.if-read_long-eq1.false (omega (arith, c.read_long.ensures, one))) same
    c.chain.ensures.numbers c.chain-2.ensures.numbers c.meeting.ensures.shared
