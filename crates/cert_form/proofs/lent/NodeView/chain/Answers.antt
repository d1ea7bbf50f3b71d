use Rattle.std.proofs.Common.{◌≡◌, refl, sym, ◌∙◌, arith}
use Rattle.cert_form.specs.Reading.{version_of}
use Rattle.cert_form.specs.Views.{certificate_of, claims_of, numbers_of}
use Rattle.cert_form.proofs.NumberLaws.{no_numbers}
use Rattle.cert_form.proofs.ReadLaws.{known_claimed, mets_claimed, no_claims, outs_claimed}
use Rattle.cert_form.proofs.lent.NodeView.chain.Goals as goal

pub returns-then-read_long-eq1-clause-claims : goal.returns-then-read_long-eq1-clause-claims
unfolding certificate_of claims_of
returns-then-read_long-eq1-clause-claims c =
    let one : version_of c.args.self.now.bytes.now ≡ 1 = omega (arith, c.read_long.ensures, c.if-read_long-eq1.true) in
    no_claims c.args.self.now.bytes.now 0 one ∙ sym (no_claims c.args.self.now.bytes.now _ one)

pub returns-then-read_long-eq1-clause-known : goal.returns-then-read_long-eq1-clause-known
returns-then-read_long-eq1-clause-known c = known_claimed c.args.self.now

pub returns-then-read_long-eq1-clause-out : goal.returns-then-read_long-eq1-clause-out
returns-then-read_long-eq1-clause-out c = outs_claimed c.args.self.now

pub returns-then-read_long-eq1-clause-met : goal.returns-then-read_long-eq1-clause-met
returns-then-read_long-eq1-clause-met c = mets_claimed c.args.self.now

pub returns-clause-claims : goal.returns-clause-claims
unfolding certificate_of claims_of
returns-clause-claims c = rw (c.read_long-2.ensures, c.chain_place_of-place.ensures) refl

pub returns-clause-known : goal.returns-clause-known
returns-clause-known c = known_claimed c.args.self.now

pub returns-clause-out : goal.returns-clause-out
returns-clause-out c = outs_claimed c.args.self.now

pub returns-clause-met : goal.returns-clause-met
returns-clause-met c = mets_claimed c.args.self.now

pub returns-then-read_long-eq1-clause-numbers : goal.returns-then-read_long-eq1-clause-numbers
unfolding certificate_of numbers_of
returns-then-read_long-eq1-clause-numbers c =
    let one : version_of c.args.self.now.bytes.now ≡ 1 = omega (arith, c.read_long.ensures, c.if-read_long-eq1.true) in
    no_numbers c.args.self.now.bytes.now 0 one ∙ sym (no_numbers c.args.self.now.bytes.now _ one)

pub returns-clause-numbers : goal.returns-clause-numbers
unfolding certificate_of numbers_of
returns-clause-numbers c = rw (c.read_long-2.ensures, c.chain_place_of-place.ensures) refl
