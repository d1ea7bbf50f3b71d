-- A certificate has one work, of which that at the first nodes is a part.
use Rattle.std.proofs.Common.{◌≡◌, ◌≢◌, ℕ, zero, suc, ◌+◌, ◌<◌, ◌≤◌, Bool, true, List, length, refl, sym, ◌∙◌, ap, subst, inl, inr, arith}
use Rattle.std.specs.Prelude.{◌↔◌, IsTrue, IfErr, IfOk, Option, Some, None, Result, Ok, Err, slice_get}
use Rattle.std.proofs.lemmas.Bool.{cases_lt}
use Rattle.std.proofs.lemmas.Option.{same_Some}
use Rattle.profile.specs.declared.rules.Rule.{Rule}
use Rattle.profile.specs.Policy.{Policy}
use Rattle.cert_state.specs.declared.literal.Lit.{Lit}
use Rattle.cert_state.specs.Points.{IsRange}
use Rattle.cert_form.specs.declared.node.Kind.{Kind}
use Rattle.cert_form.specs.declared.node.Kind.TheVariants.{Step, Split, Return, Dead}
use Rattle.cert_form.specs.Nodes.{PlainNode}
use Rattle.cert_form.specs.declared.fault.FormError.{FormError}
use Rattle.cert_form.specs.declared.fault.FormError.TheVariants.{OutOfMemory}
use Rattle.cert_form.specs.Faults.{Faulty}
use Rattle.cert_form.specs.Reading.{version_of}
use Rattle.cert_form.specs.Spelling.{Spells}
use Rattle.cert_work.specs.Work.{AreAsked, AreWithin, IsAsked, IsWithin, IsWorkAt, IsWorkOf, Pays, PaysOne}
use Rattle.cert_work.specs.Work.{most_work, stated_next, weights_between}

-- a word has one range
one_range : (known : List Lit) (a b c d : ℕ) → IsRange known 0 a b → IsRange known 0 c d → (a ≡ c) × (b ≡ d)
one_range known a b c d one other =
    let low = one.between c other.least in
    let high = one.between d other.greatest in
    let back_low = other.between a one.least in
    let back_high = other.between b one.greatest in
    (omega (arith, low.0, back_low.0), omega (arith, high.1, back_high.1))

one_asked : (known : List Lit) (a b c d : ℕ) → AreAsked known a b → AreAsked known c d → (a ≡ c) × (b ≡ d)
one_asked known a b c d (inl one) (inl other) = one_range known a b c d one.range other.range
one_asked known a b c d (inl one) (inr other) = absurd (other.0 a b one)
one_asked known a b c d (inr one) (inl other) = absurd (one.0 c d other)
one_asked known a b c d (inr one) (inr other) = (one.1 ∙ sym other.1, one.2 ∙ sym other.2)

module _ (rules : List Rule) where
  one_is_asked : (known : List Lit) (kind : Kind) (w v : ℕ) → IsAsked rules known kind w → IsAsked rules known kind v → w ≡ v
  one_is_asked known Return w v (a, b, asked, is) (c, d, same, too) =
      let both = one_asked known a b c d asked same in
      is ∙ (ap (λ k. weights_between k b rules) both.0 ∙ (ap (λ k. weights_between c k rules) both.1 ∙ sym too))
  one_is_asked known (Step first second) w v one other = one ∙ sym other
  one_is_asked known (Split x y first second) w v one other = one ∙ sym other
  one_is_asked known Dead w v one other = one ∙ sym other

  module _ (ns : List PlainNode) where
    one_work_at : (n : PlainNode) (w v : ℕ) → IsWorkAt rules ns n w → IsWorkAt rules ns n v → w ≡ v
    one_work_at n w v one other =
        let same = one_is_asked n.known n.kind one.asked other.asked one.is_asked other.is_asked in
        one.sum ∙ (ap (λ k. length n.known + (stated_next rules ns n.kind + k)) same ∙ sym other.sum)

    one_work_of : (k w v : ℕ) → IsWorkOf rules ns k w → IsWorkOf rules ns k v → w ≡ v
    one_work_of zero w v one other = one ∙ sym other
    one_work_of (suc k) w v (before, own, n, so_far, at, here, sum) (earlier, its, m, until, there, too, total) =
        let node : n ≡ m = same_Some n m (sym at ∙ there) in
        let first : before ≡ earlier = one_work_of k before earlier so_far until in
        let last : own ≡ its = one_work_at m own its (subst (λ x. IsWorkAt rules ns x own) node here) too in
        omega (arith, first, last, sum, total)

    -- the work at the first nodes is no more than that at more nodes
    up_to : (m k w : ℕ) → IsWorkOf rules ns m w → k ≤ m → (u : ℕ) × IsWorkOf rules ns k u × (u ≤ w)
    up_to zero k w work most =
        let same : zero ≡ k = omega (arith, most) in
        (w, subst (λ j. IsWorkOf rules ns j w) same work, omega arith)
    up_to (suc m) k w work most =
        elim (cases_lt k (suc m)) [
          | inl below ↦
              let before = work.0 in
              let part = up_to m k before work.3 (omega (arith, below)) in
              (part.0, part.1, omega (arith, part.2, work.6))
          | inr above ↦
              let same : suc m ≡ k = omega (arith, most, above) in
              (w, subst (λ j. IsWorkOf rules ns j w) same work, omega arith)
        ]

    -- the work at a node of this kind
    pub work_at : (n : PlainNode) (kind : Kind) (asked : ℕ) → kind ≡ n.kind → IsAsked rules n.known kind asked
        → IsWorkAt rules ns n (asked + length n.known + stated_next rules ns kind)
    work_at n kind asked same is_asked = record {
      asked = asked;
      is_asked = subst (λ k. IsAsked rules n.known k asked) same is_asked;
      sum = ap (λ k. asked + length n.known + stated_next rules ns k) same ∙ omega arith;
    }

    -- one node more
    pub one_more : (k w own left rest : ℕ) (n : PlainNode) → IsWorkOf rules ns k w → slice_get ns k ≡ Some n → IsWorkAt rules ns n own
        → left + w ≡ most_work → rest + own ≡ left → (v : ℕ) × IsWorkOf rules ns (k + 1) v × (rest + v ≡ most_work)
    one_more k w own left rest n so_far at here sum paid =
        let next : suc k ≡ k + 1 = omega arith in (
          w + own,
          subst (λ (j : ℕ). IsWorkOf rules ns j (w + own)) next (w, own, n, so_far, at, here, refl),
          omega (arith, sum, paid),
        )

    -- the work at all nodes
    pub all_within : (k w left : ℕ) → IsWorkOf rules ns k w → left + w ≡ most_work → k ≡ length ns → AreWithin rules ns
    all_within k w left so_far sum same = (w, subst (λ j. IsWorkOf rules ns j w) same so_far, omega (arith, sum))

    -- what does not suffice for a node does not for all
    pub past : (k w own left : ℕ) (n : PlainNode) → IsWorkOf rules ns k w → slice_get ns k ≡ Some n → IsWorkAt rules ns n own
        → left + w ≡ most_work → left < own → k < length ns → AreWithin rules ns → ⊥
    past k w own left n so_far at here sum short inside (all, work, most) =
        let part = up_to (length ns) (suc k) all work (omega (arith, inside)) in
        let same : w + own ≡ part.0 = one_work_of (suc k) (w + own) part.0 (w, own, n, so_far, at, here, refl) part.1 in
        absurd (omega (arith, sum, short, same, part.2, most))

-- what is paid of a cost is paid of one of its kind
pub pays_one : (Cost : ℕ → Type 0) (left cost : ℕ) (result : Option ℕ) → Cost cost → Pays left cost result → PaysOne left Cost result
pays_one Cost left cost None is short = (cost, is, short)
pays_one Cost left cost (Some r) is paid = (cost, is, paid)

-- the same after a part of the cost was paid
pub pays_rest : (Cost : ℕ → Type 0) (budget left spent rest : ℕ) (result : Option ℕ) → left + spent ≡ budget → Cost (spent + rest)
    → Pays left rest result → PaysOne budget Cost result
pays_rest Cost budget left spent rest None before is short = (spent + rest, is, omega (arith, before, short))
pays_rest Cost budget left spent rest (Some r) before is paid = (spent + rest, is, omega (arith, before, paid))

-- what is told of bytes that are no certificate
pub none_within : {E : Type 0} (policy : Policy) (cert : List ℕ) (e : FormError) (result : Result Bool E)
    → IfOk result (λ within. (within ≡ true) × (e ≢ OutOfMemory)) → ((ns : List PlainNode) → Spells cert ns → e ≡ OutOfMemory)
    → IfOk result (λ within. IsTrue within ↔ IsWithin policy cert)
none_within policy cert e (Ok within) told only = (λ yes. λ ns spells. absurd (told.1 (only ns spells)), λ is. told.0)
none_within policy cert e (Err other) told only = tt

pub memory_ran_out : {E : Type 0} (cert : List ℕ) (e : FormError) (result : Result Bool E) → IfErr result (λ _. e ≡ OutOfMemory)
    → Faulty e cert → IfErr result (λ _. version_of cert ≡ 1)
memory_ran_out cert e (Ok within) told fault = tt
memory_ran_out cert e (Err other) told fault = subst (λ x. Faulty x cert) told fault
