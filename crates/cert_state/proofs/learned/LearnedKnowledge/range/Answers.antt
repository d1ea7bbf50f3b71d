use Rattle.std.proofs.Common.{List, ℕ, Option, Some, None, sym, subst}
use Rattle.std.specs.Prelude.{MatchOption}
use Rattle.cert_state.specs.declared.literal.Lit.{Lit}
use Rattle.cert_state.specs.Points.{HasNoPoint, IsRange}
use Rattle.cert_state.specs.Learned.{known_of, lits_of, own_of}
use Rattle.cert_state.proofs.LearnedLaws.{no_point_known, place_has, place_is, range_known}
use Rattle.cert_state.proofs.learned.LearnedKnowledge.range.Goals as goal

-- what a list says of a word
abbrev Says : List Lit → ℕ → Option (ℕ × ℕ) → Type 0
Says ls w r = MatchOption r (HasNoPoint ls w) (λ p. IsRange ls w p.0 p.1)

says_all : (own known : List Lit) (w : ℕ) (r : Option (ℕ × ℕ)) → (HasNoPoint own w → HasNoPoint known w)
    → ((lo hi : ℕ) → IsRange own w lo hi → IsRange known w lo hi) → Says own w r → Says known w r
says_all own known w None none some h = none h
says_all own known w (Some p) none some h = some p.0 p.1 h

pub returns : goal.returns
returns c =
    let learned = c.args.self.now in
    let w = c.args.word in
    let x = c.index.result.now in
    let has = place_has learned w x c.requires c.index.ensures in
    let is = place_is learned w x c.requires c.index.ensures in
    let own = subst (λ (ks : List Lit). Says ks w c.range.result) (sym has)
    (subst (λ v. Says (lits_of x) v c.range.result) is c.range.ensures) in
    says_all (own_of learned w) (known_of learned) w c.range.result (no_point_known learned w c.requires)
    (λ lo hi. range_known learned w lo hi c.requires) own
