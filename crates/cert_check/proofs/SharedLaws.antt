-- Claims that are new on the way to a node, and those that its chain shares with the node before.
use Rattle.std.proofs.Common.{◌≡◌, ℕ, Bool, true, false, not, Some, None, List, [], ◌∷◌, ◌<◌, ◌++◌, refl, sym, ◌∙◌, subst, inl, inr, ◌⊎◌, arith, ap}
use Rattle.std.specs.Prelude.{◌↔◌, All, Contains, IsTrue, Option, length, option_to_list, slice_get}
use Rattle.std.specs.Option.{is_some}
use Rattle.std.proofs.lemmas.Bool.{cases_eq, ne_eqb}
use Rattle.std.proofs.lemmas.List.Elements.{All-nil, All-cons, All-head, All-tail, All-weaker, All-contains}
use Rattle.std.proofs.lemmas.List.Elements.{Contains-append_left, Contains-append_right}
use Rattle.profile.specs.declared.rules.Rule.{Rule}
use Rattle.profile.specs.Policy.{Policy}
use Rattle.cert_state.specs.declared.literal.Lit.{Lit}
use Rattle.cert_state.specs.Entailment.{Entails}
use Rattle.cert_form.specs.declared.node.Claim.{Claim}
use Rattle.cert_form.specs.declared.node.Claim.TheVariants.{Knows, Out, Met}
use Rattle.cert_form.specs.Nodes.{PlainNode, literals_in, mets_in, outs_in}
use Rattle.cert_form.specs.declared.lent.NodeView.{NodeView}
use Rattle.cert_form.specs.Reading.{claims_in, claims_left, has_entries, version_of}
use Rattle.cert_form.specs.Views.{AreLast, certificate_of, claims_from, claims_of, is_chained, says}
use Rattle.cert_form.proofs.NumberLaws.{stated_by_some}
use Rattle.cert_form.proofs.ReadLaws.{claims_are, known_claimed, last_of, mets_claimed, no_claims, none_at_0, outs_claimed}
use Rattle.cert_check.specs.Rules.{Edge, IsMetBy, IsOutOn, known_on}
use Rattle.cert_check.specs.inner.Followed.{AllFollow, AreBut, FollowsBy, IsFact, IsPlaced, StopsAt}
use Rattle.cert_check.proofs.Elements.{each_of, element_at, of_some}
use Rattle.cert_check.proofs.OutsLaws.{cases, first, later}

-- ---- claims asked one by one

-- all are left, one more is so, or none is left
pub all_left : (P : Claim → Type 0) (left all : List Claim) → left ≡ all → AreBut P left all
all_left P left all e = each_of (λ claim. P claim ⊎ Contains left claim) all (λ claim has. inr (subst (λ cs. Contains cs claim) (sym e) has))

pub one_more : (P : Claim → Type 0) (claim : Claim) (left rest all : List Claim) → left ≡ claim ∷ rest → P claim → AreBut P left all
    → AreBut P rest all
one_more P claim left rest all e is so = All-weaker (λ c. P c ⊎ Contains left c) (λ c. P c ⊎ Contains rest c) step all so where
  step : (c : Claim) → P c ⊎ Contains left c → P c ⊎ Contains rest c
  step c (inl h) = inl h
  step c (inr has) = elim (cases claim left rest e c has) [ inl same ↦ inl (subst P same is) | inr waits ↦ inr waits ]

pub none_left : (P : Claim → Type 0) (left last all : List Claim) → left ≡ [] → AreBut P left all → AreBut P last all
none_left P left last all e so = All-weaker (λ c. P c ⊎ Contains left c) (λ c. P c ⊎ Contains last c) step all so where
  step : (c : Claim) → P c ⊎ Contains left c → P c ⊎ Contains last c
  step c (inl h) = inl h
  step c (inr has) = absurd (omega (arith, (subst (λ cs. Contains cs c) e has).1))

-- ---- what stands among claims

pub in_literals : (cs : List Claim) (l : Lit) → Contains cs (Knows l) → Contains (literals_in cs) l
in_literals [] l has = absurd (omega (arith, has.1))
in_literals (Knows k ∷ cs) l has = elim (cases (Knows k) (Knows k ∷ cs) cs refl (Knows l) has) [
  | inl same ↦ first k (k ∷ literals_in cs) (literals_in cs) refl l (let e : Knows k ≡ Knows l = same in cc)
  | inr waits ↦ later k (k ∷ literals_in cs) (literals_in cs) refl l (in_literals cs l waits)
]
in_literals (Out i ∷ cs) l has = elim (cases (Out i) (Out i ∷ cs) cs refl (Knows l) has) [
  | inl same ↦ absurd (let e : Out i ≡ Knows l = same in cc)
  | inr waits ↦ in_literals cs l waits
]
in_literals (Met i j ∷ cs) l has = elim (cases (Met i j) (Met i j ∷ cs) cs refl (Knows l) has) [
  | inl same ↦ absurd (let e : Met i j ≡ Knows l = same in cc)
  | inr waits ↦ in_literals cs l waits
]

pub in_outs : (cs : List Claim) (p : ℕ) → Contains cs (Out p) → Contains (outs_in cs) p
in_outs [] p has = absurd (omega (arith, has.1))
in_outs (Out i ∷ cs) p has = elim (cases (Out i) (Out i ∷ cs) cs refl (Out p) has) [
  | inl same ↦ first i (i ∷ outs_in cs) (outs_in cs) refl p (let e : Out i ≡ Out p = same in cc)
  | inr waits ↦ later i (i ∷ outs_in cs) (outs_in cs) refl p (in_outs cs p waits)
]
in_outs (Knows k ∷ cs) p has = elim (cases (Knows k) (Knows k ∷ cs) cs refl (Out p) has) [
  | inl same ↦ absurd (let e : Knows k ≡ Out p = same in cc)
  | inr waits ↦ in_outs cs p waits
]
in_outs (Met i j ∷ cs) p has = elim (cases (Met i j) (Met i j ∷ cs) cs refl (Out p) has) [
  | inl same ↦ absurd (let e : Met i j ≡ Out p = same in cc)
  | inr waits ↦ in_outs cs p waits
]

pub in_mets : (cs : List Claim) (p q : ℕ) → Contains cs (Met p q) → Contains (mets_in cs) (p, q)
in_mets [] p q has = absurd (omega (arith, has.1))
in_mets (Met i j ∷ cs) p q has = elim (cases (Met i j) (Met i j ∷ cs) cs refl (Met p q) has) [
  | inl same ↦ first (i, j) ((i, j) ∷ mets_in cs) (mets_in cs) refl (p, q) (let e : Met i j ≡ Met p q = same in cc)
  | inr waits ↦ later (i, j) ((i, j) ∷ mets_in cs) (mets_in cs) refl (p, q) (in_mets cs p q waits)
]
in_mets (Knows k ∷ cs) p q has = elim (cases (Knows k) (Knows k ∷ cs) cs refl (Met p q) has) [
  | inl same ↦ absurd (let e : Knows k ≡ Met p q = same in cc)
  | inr waits ↦ in_mets cs p q waits
]
in_mets (Out i ∷ cs) p q has = elim (cases (Out i) (Out i ∷ cs) cs refl (Met p q) has) [
  | inl same ↦ absurd (let e : Out i ≡ Met p q = same in cc)
  | inr waits ↦ in_mets cs p q waits
]

-- ---- what follows

-- a chain states what a node says
record States (claims : List Claim) (n : PlainNode) : Type 0 where
  known : literals_in claims ≡ n.known
  out : outs_in claims ≡ n.out
  met : mets_in claims ≡ n.met

states : (node : NodeView) → is_chained node ≡ true → States (claims_of node) (says node)
states node chained = record { known = known_claimed node chained; out = outs_claimed node; met = mets_claimed node }

module _ (policy : Policy) (n : PlainNode) (e : Edge) where
  abbrev Follows : Claim → Type 0
  Follows (Knows l) = Entails (known_on n e) l
  Follows (Out place) = IsOutOn policy n e place
  Follows (Met place own) = IsMetBy policy n.met (known_on n e) (place, own)

  -- by what the node before claims, or by what is known alone
  by_all : (claim : Claim) → FollowsBy policy n.out n.met (known_on n e) claim ↔ Follows claim
  by_all (Knows l) = (λ is. is, λ is. is)
  by_all (Out place) = (
    λ is. record { rule = is.rule; stands = is.stands; reason = is.reason },
    λ is. record { rule = is.rule; stands = is.stands; reason = is.reason },
  )
  by_all (Met place own) = (λ is. is, λ is. is)

  shown : (claim : Claim) → FollowsBy policy [] [] (known_on n e) claim → Follows claim
  shown (Knows l) is = is
  shown (Out place) is = elim is.reason [
    | inl has ↦ absurd (omega (arith, has.1))
    | inr so ↦ record { rule = is.rule; stands = is.stands; reason = inr so }
  ]
  shown (Met place own) is = elim is.reason [
    | inl has ↦ absurd (omega (arith, has.1))
    | inr so ↦ record { rule = is.rule; stands = is.stands; cond = is.cond; its = is.its; reason = inr so }
  ]

  by_fact : (claim : Claim) → IsFact e.fact claim → Follows claim
  by_fact (Knows l) is =
      let one : Contains (l ∷ []) l = (0, omega arith, refl) in
      inl (subst (λ (o : Option Lit). Contains (n.known ++ option_to_list o) l) (sym is) (Contains-append_right n.known (l ∷ []) l one))
  by_fact (Out place) is = absurd is
  by_fact (Met place own) is = absurd is

  -- a claim of the node before
  before : (mine : List Claim) → States mine n → (claim : Claim) → Contains mine claim → IsPlaced policy claim → Follows claim
  before mine states (Knows l) has placed =
      inl (Contains-append_left n.known (option_to_list e.fact) l (subst (λ ls. Contains ls l) states.known (in_literals mine l has)))
  before mine states (Out place) has placed =
      let got = element_at policy.rules place placed in
      record { rule = got.0; stands = got.1; reason = inl (subst (λ ps. Contains ps place) states.out (in_outs mine place has)) }
  before mine states (Met place own) has placed =
      let its = of_some (λ (rule : Rule). own < length rule.conds.items) (slice_get policy.rules place) placed in
      let got = element_at its.0.conds.items own its.2 in
      record {
        rule = its.0;
        stands = its.1;
        cond = got.0;
        its = got.1;
        reason = inl (subst (λ ps. Contains ps (place, own)) states.met (in_mets mine place own has));
      }

  all_literals : (cs : List Claim) → All Follows cs → All (Entails (known_on n e)) (literals_in cs)
  all_literals [] h = All-nil (Entails (known_on n e))
  all_literals (Knows l ∷ cs) h =
      All-cons (Entails (known_on n e)) l (literals_in cs) (All-head Follows (Knows l) cs h)
      (all_literals cs (All-tail Follows (Knows l) cs h))
  all_literals (Out i ∷ cs) h = all_literals cs (All-tail Follows (Out i) cs h)
  all_literals (Met i j ∷ cs) h = all_literals cs (All-tail Follows (Met i j) cs h)

  all_outs : (cs : List Claim) → All Follows cs → All (IsOutOn policy n e) (outs_in cs)
  all_outs [] h = All-nil (IsOutOn policy n e)
  all_outs (Out i ∷ cs) h =
      All-cons (IsOutOn policy n e) i (outs_in cs) (All-head Follows (Out i) cs h) (all_outs cs (All-tail Follows (Out i) cs h))
  all_outs (Knows l ∷ cs) h = all_outs cs (All-tail Follows (Knows l) cs h)
  all_outs (Met i j ∷ cs) h = all_outs cs (All-tail Follows (Met i j) cs h)

  all_mets : (cs : List Claim) → All Follows cs → All (IsMetBy policy n.met (known_on n e)) (mets_in cs)
  all_mets [] h = All-nil (IsMetBy policy n.met (known_on n e))
  all_mets (Met i j ∷ cs) h =
      All-cons (IsMetBy policy n.met (known_on n e)) (i, j) (mets_in cs) (All-head Follows (Met i j) cs h)
      (all_mets cs (All-tail Follows (Met i j) cs h))
  all_mets (Knows l ∷ cs) h = all_mets cs (All-tail Follows (Knows l) cs h)
  all_mets (Out i ∷ cs) h = all_mets cs (All-tail Follows (Out i) cs h)

  all_but : (P : Claim → Type 0) (last all : List Claim) → ((claim : Claim) → P claim → Follows claim)
      → ((claim : Claim) → Contains last claim → Follows claim) → AreBut P last all → All Follows all
  all_but P last all so rest but = All-weaker (λ c. P c ⊎ Contains last c) Follows (λ c h. elim h [ inl is ↦ so c is | inr has ↦ rest c has ]) all but

  -- the claims of the node there are the fact of the edge, those that are shown, those that follow, and those that both share
  follow : (m : PlainNode) (mine theirs new left last : List Claim) → States mine n → States theirs m
      → All (λ claim. Contains mine claim × IsPlaced policy claim) last
      → AreBut (IsFact e.fact) new theirs → AreBut (FollowsBy policy [] [] (known_on n e)) left new
      → AreBut (FollowsBy policy n.out n.met (known_on n e)) last left → AllFollow policy n e m
  follow m mine theirs new left last here there shared facts shows rest =
      let of_last : (claim : Claim) → Contains last claim → Follows claim = λ claim has.
      let is = All-contains (λ c. Contains mine c × IsPlaced policy c) last claim shared has in before mine here claim is.0 is.1 in
      let of_left : All Follows left = all_but (FollowsBy policy n.out n.met (known_on n e)) last left (λ c is. (by_all c).0 is) of_last rest in
      let of_new : All Follows new = all_but (FollowsBy policy [] [] (known_on n e)) left new shown (λ claim has.
      All-contains Follows left claim of_left has) shows in
      let all : All Follows theirs = all_but (IsFact e.fact) new theirs by_fact (λ claim has. All-contains Follows new claim of_new has) facts in
      record {
        literals = subst (All (Entails (known_on n e))) there.known (all_literals theirs all);
        outs = subst (All (IsOutOn policy n e)) there.out (all_outs theirs all);
        mets = subst (All (IsMetBy policy n.met (known_on n e))) there.met (all_mets theirs all);
      }

  -- and each follows, where all that the node there claims does
  each_follows : (m : PlainNode) (theirs : List Claim) → States theirs m → AllFollow policy n e m → (claim : Claim) → Contains theirs claim
      → Follows claim
  each_follows m theirs there h (Knows l) has =
      All-contains (Entails (known_on n e)) m.known l h.literals (subst (λ ls. Contains ls l) there.known (in_literals theirs l has))
  each_follows m theirs there h (Out place) has =
      All-contains (IsOutOn policy n e) m.out place h.outs (subst (λ ps. Contains ps place) there.out (in_outs theirs place has))
  each_follows m theirs there h (Met place own) has =
      All-contains (IsMetBy policy n.met (known_on n e)) m.met (place, own) h.mets
      (subst (λ ps. Contains ps (place, own)) there.met (in_mets theirs place own has))

-- the same of nodes of one certificate, by the places where the new claims begin, those that are not shown, and the shared ones
pub all_follow : (policy : Policy) (node there : NodeView) (e : Edge) (from left shared : ℕ) → certificate_of node ≡ certificate_of there
    → is_chained there ≡ true
    → All (λ claim. Contains (claims_of node) claim × IsPlaced policy claim) (claims_from there shared)
    → AreBut (IsFact e.fact) (claims_from there from) (claims_of there)
    → AreBut (FollowsBy policy [] [] (known_on (says node) e)) (claims_from there left) (claims_from there from)
    → AreBut (FollowsBy policy (says node).out (says node).met (known_on (says node) e)) (claims_from there shared) (claims_from there left)
    → AllFollow policy (says node) e (says there)
all_follow policy node there e from left shared same chained last facts shows rest =
    follow policy (says node) e (says there) (claims_of node) (claims_of there) (claims_from there from) (claims_from there left) (claims_from there shared)
    (states node (ap has_entries same ∙ chained)) (states there chained) last facts shows rest

pub rest_follow : (policy : Policy) (node there : NodeView) (e : Edge) (from left : ℕ) → is_chained there ≡ true
    → AreLast (claims_from there from) (claims_of there) → AreLast (claims_from there left) (claims_from there from)
    → AllFollow policy (says node) e (says there)
    → All (FollowsBy policy (says node).out (says node).met (known_on (says node) e)) (claims_from there left)
rest_follow policy node there e from left chained last its h =
    let among = last_of (claims_from there left) (claims_from there from) (claims_of there) its last in
    each_of (FollowsBy policy (says node).out (says node).met (known_on (says node) e)) (claims_from there left) (λ claim has.
    (by_all policy (says node) e claim).1 (each_follows policy (says node) e (says there) (claims_of there) (states there chained) h claim
    (subst (λ cs. Contains cs claim) among.1 (Contains-append_right among.0 (claims_from there left) claim has))))

-- the shared claims are those of the node before, and the profile has their rules
pub are_shared : (policy : Policy) (node there : NodeView) (shared : ℕ) → certificate_of node ≡ certificate_of there
    → AreLast (claims_from node shared) (claims_of node) → All (IsPlaced policy) (claims_in (certificate_of node))
    → All (λ claim. Contains (claims_of node) claim × IsPlaced policy claim) (claims_from there shared)
are_shared policy node there shared same last placed =
    subst (All (λ claim. Contains (claims_of node) claim × IsPlaced policy claim)) (ap (λ bytes. claims_left bytes shared) same)
    (each_of (λ claim. Contains (claims_of node) claim × IsPlaced policy claim) (claims_from node shared) (λ claim has.
    let is = subst (λ cs. Contains cs claim) last.1 (Contains-append_right last.0 (claims_from node shared) claim has) in
    (is, All-contains (IsPlaced policy) (claims_in (certificate_of node)) claim placed (stated_by_some node claim is))))

-- behind the last entry nothing is claimed
pub none_at_end : (bytes : List ℕ) → claims_left bytes 0 ≡ []
none_at_end bytes = elim (cases_eq (version_of bytes) 1) [
  | inl one ↦ no_claims bytes 0 one
  | inr other ↦ claims_are bytes 0 other ∙ none_at_0 bytes
]

-- without entries a node claims nothing but literals
none_listed : (bytes : List ℕ) (place : ℕ) → has_entries bytes ≡ false → claims_left bytes place ≡ []
unfolding has_entries
none_listed bytes place listed = elim (cases_eq (version_of bytes) 1) [
  | inl one ↦ no_claims bytes place one
  | inr other ↦ absurd (let e : true ≡ false = sym (rw (ne_eqb (version_of bytes) 1 other) refl) ∙ listed in cc)
]

none_claimed : (node : NodeView) → is_chained node ≡ false → claims_of node ≡ []
unfolding claims_of certificate_of
none_claimed node listed = none_listed node.bytes.now _ listed

pub literals_follow : (policy : Policy) (n : PlainNode) (e : Edge) (there : NodeView) → is_chained there ≡ false
    → All (Entails (known_on n e)) (says there).known → AllFollow policy n e (says there)
literals_follow policy n e there listed h =
    let none = none_claimed there listed in
    record {
      literals = h;
      outs = subst (All (IsOutOn policy n e)) (sym (ap outs_in none) ∙ outs_claimed there) (All-nil (IsOutOn policy n e));
      mets = subst (All (IsMetBy policy n.met (known_on n e))) (sym (ap mets_in none) ∙ mets_claimed there)
          (All-nil (IsMetBy policy n.met (known_on n e)));
    }

-- what is left after one claim are the last of what was left
pub last_again : (claim : Claim) (left rest all : List Claim) → left ≡ claim ∷ rest → AreLast left all → AreLast rest all
last_again claim left rest all e last = last_of rest left all (claim ∷ [], sym e) last

-- where all are so, the last ones are
pub last_so : (P : Claim → Type 0) (last all : List Claim) → AreLast last all → All P all → All P last
last_so P last all is so = each_of P last (λ claim has.
    All-contains P all claim so (subst (λ cs. Contains cs claim) is.1 (Contains-append_right is.0 last claim has)))

-- whether a search found none tells whether all are so
pub told_by : (P : Claim → Type 0) (node : NodeView) (from end : ℕ) (stop : Option ℕ) (none : Bool) → is_some stop ≡ not none
    → StopsAt P node from end stop
    → (IsTrue none → AreBut P (claims_from node end) (claims_from node from)) × (All P (claims_from node from) → IsTrue none)
told_by P node from end None true e so = (λ _. so, λ _. refl)
told_by P node from end None false e so = absurd (let x : false ≡ true = e in cc)
told_by P node from end (Some at) true e so = absurd (let x : true ≡ false = e in cc)
told_by P node from end (Some at) false e so = (λ t. let x : false ≡ true = t in cc, λ all. absurd (so.2 all))
