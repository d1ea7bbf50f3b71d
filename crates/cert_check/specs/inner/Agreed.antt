-- Verdicts that the profile was seen to say of all that a chain states.
use Rattle.std.specs.Prelude.{ℕ, ◌<◌, List, Option, IfSome, slice_index_or}
use Rattle.profile.specs.Policy.{Policy}
use Rattle.cert_form.specs.declared.node.Claim.{Claim}
use Rattle.cert_form.specs.Nodes.{literals_in, mets_in, outs_in}
use Rattle.cert_form.specs.Reading.{claims_left}
use Rattle.cert_check.specs.Agree.{Agrees}
use Rattle.cert_check.specs.declared.agreed.Answer.{Answer}
use Rattle.cert_check.specs.declared.agreed.Agreed.{Agreed}

-- the profile agrees with v where all is known, out and met that is claimed
abbrev pub AgreesOn : Policy → ℕ → List Claim → Type 0
AgreesOn policy v claims = Agrees policy (outs_in claims) (mets_in claims) (literals_in claims) v

-- each answer that is kept is so of its chain in the certificate
abbrev pub AreAgreed : Policy → List ℕ → Agreed → Type 0
AreAgreed policy bytes agreed =
    (k : ℕ) (d : Option Answer) → k < 64
    → IfSome (slice_index_or agreed.answers k d) (λ answer. AgreesOn policy answer.word (claims_left bytes answer.chain))
