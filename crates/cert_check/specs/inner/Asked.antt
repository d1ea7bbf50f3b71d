-- What an agreement goes by.
use Rattle.std.specs.Prelude.{ℕ, List}
use Rattle.cert_state.specs.declared.literal.Lit.{Lit}
use Rattle.cert_state.specs.declared.state.State.{Ghosts}
use Rattle.cert_check.specs.declared.judging.Agreement.{Agreement}
use Rattle.cert_check.specs.inner.Claimed.{mets_of, outs_of}

-- the rules that are said to be out, the conditions that are said to be met, and what is known of the record
module _ {S : Type 0} {state : Ghosts S} (a : Agreement S state) where
  abbrev pub out_of : List ℕ
  out_of = outs_of a.outs.node

  abbrev pub met_of : List (ℕ × ℕ)
  met_of = mets_of a.mets.node

  abbrev pub known_of : List Lit
  known_of = state.known a.facts.now.state.now
