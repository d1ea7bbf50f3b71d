-- What follows on a way on from a node.
use Rattle.std.specs.Prelude.{ℕ, Bool, IsTrue, List, All}
use Rattle.cert_state.specs.declared.literal.Lit.{Lit}
use Rattle.cert_form.specs.Views.{claims_from, says}
use Rattle.cert_check.specs.declared.passage.Passage.{Passage}
use Rattle.cert_check.specs.inner.Followed.{AllFollow, AreBut, FollowsBy}
use Rattle.cert_check.specs.inner.Ways.{edge_of}

-- It is told whether the claims there follow from one place of the chain on and up to another, if these rules were out. If
-- so, each does or is one of the last. If not, not each does.
abbrev pub RestFollows : Passage → List ℕ → List Lit → ℕ × ℕ → Bool → Type 0
RestFollows p out known asked told =
    (IsTrue told → AreBut (FollowsBy p.profile.now out (says p.node.now).met known) (claims_from p.there.now asked.1)
    (claims_from p.there.now asked.0))
    × (All (FollowsBy p.profile.now out (says p.node.now).met known) (claims_from p.there.now asked.0) → IsTrue told)

-- all that the node there claims follows
abbrev pub ClaimsFollow : Passage → Type 0
ClaimsFollow p = AllFollow p.profile.now (says p.node.now) (edge_of p.way.now) (says p.there.now)
