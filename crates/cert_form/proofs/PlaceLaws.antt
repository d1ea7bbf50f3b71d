-- Where the nodes stand, and what it means that the bytes end before.
use Rattle.std.proofs.Common.{◌≡◌, ℕ, suc, ◌+◌, ◌*◌, ◌<◌, ◌≤◌, Bool, true, false, cond, eqb, List, length, refl, ap, subst, inr, arith}
use Rattle.std.specs.Prelude.{◌≢◌}
use Rattle.std.proofs.lemmas.Bool.{ne_eqb}
use Rattle.cert_form.specs.declared.fault.FormError.{FormError}
use Rattle.cert_form.specs.declared.fault.FormError.TheVariants.{BadMagic, BadVersion, Truncated, BadNode, BadCount, Trailing, OutOfMemory}
use Rattle.cert_form.specs.Reading.{version_of, node_count, chain_count, chain_place, own_count, own_end, tail_place, node_end}
use Rattle.cert_form.specs.Reading.{first_place, place_of}
use Rattle.cert_form.specs.Faults.{EndsEarly, HasBadPart, HasBadCount, IsBadListed, Faulty}
use Rattle.cert_form.specs.inner.Standing.{Fails, FailsListed}
use Rattle.cert_form.proofs.ReadLaws.{chain_place-after}

pub next_place : (bytes : List ℕ) (i : ℕ) → place_of bytes (i + 1) ≡ node_end bytes (place_of bytes i)
unfolding place_of
next_place bytes i = let e : i + 1 ≡ suc i = omega arith in rw e refl

pub first_chained : (bytes : List ℕ) → version_of bytes ≢ 1 → place_of bytes 0 ≡ 16 + 14 * chain_count bytes + 4 * node_count bytes
unfolding place_of first_place
first_chained bytes form = rw (ne_eqb (version_of bytes) 1 form) refl

pub first_listed : (bytes : List ℕ) → version_of bytes ≡ 1 → place_of bytes 0 ≡ 12
unfolding place_of first_place
first_listed bytes one = rw one refl

-- a node ends behind its place
pub ends_after : (bytes : List ℕ) (at : ℕ) → at + 17 ≤ node_end bytes at
unfolding tail_place
ends_after bytes at = omega (arith, by_form (eqb (version_of bytes) 1)) where
  by_form : (b : Bool) → at + 17 ≤ cond b (own_end bytes at) (chain_place bytes at + 4)
  by_form true = omega arith
  by_form false = omega (arith, chain_place-after bytes at)

-- bytes that end before the first node
pub early : (bytes : List ℕ) → version_of bytes ≢ 1 → 1 ≤ node_count bytes
    → length bytes < 16 + 14 * chain_count bytes + 4 * node_count bytes → EndsEarly bytes
early bytes form some short = inr (0, some, omega (arith, short, first_chained bytes form, ends_after bytes (place_of bytes 0)))

-- a fault of parts is one of the bytes
pub is_faulty : (e : FormError) (bytes : List ℕ) (end : ℕ) → (length bytes < end → EndsEarly bytes)
    → Fails e bytes end (HasBadPart bytes) → Faulty e bytes
is_faulty Truncated bytes end f short = f short
is_faulty BadNode bytes end f bad = bad
is_faulty BadMagic bytes end f bad = absurd bad
is_faulty BadVersion bytes end f bad = absurd bad
is_faulty BadCount bytes end f bad = absurd bad
is_faulty Trailing bytes end f bad = absurd bad
is_faulty OutOfMemory bytes end f bad = absurd bad

-- the same for a node of form 1
pub listed_weaker : (e : FormError) (bytes : List ℕ) (at end end' : ℕ) → end ≤ end' → FailsListed e bytes at end
    → FailsListed e bytes at end'
listed_weaker Truncated bytes at end end' h short = omega (arith, h, short)
listed_weaker BadNode bytes at end end' h bad = bad
listed_weaker BadCount bytes at end end' h bad = bad
listed_weaker BadMagic bytes at end end' h bad = absurd bad
listed_weaker BadVersion bytes at end end' h bad = absurd bad
listed_weaker Trailing bytes at end end' h bad = absurd bad
listed_weaker OutOfMemory bytes at end end' h bad = absurd bad

pub listed_faulty : (e : FormError) (bytes : List ℕ) (i at : ℕ) → version_of bytes ≡ 1 → i < node_count bytes → at ≡ place_of bytes i
    → FailsListed e bytes at (node_end bytes at) → Faulty e bytes
listed_faulty Truncated bytes i at form less e short = inr (i, less, omega (arith, short, ap (λ k. node_end bytes k) e))
listed_faulty BadNode bytes i at form less e bad = HasBadPart.listed i form less (subst (λ k. IsBadListed bytes k) e bad)
listed_faulty BadCount bytes i at form less e bad =
    HasBadCount.own_literals i form less (omega (arith, bad.0, e)) (omega (arith, bad.1, ap (λ k. own_count bytes k) e))
listed_faulty BadMagic bytes i at form less e bad = absurd bad
listed_faulty BadVersion bytes i at form less e bad = absurd bad
listed_faulty Trailing bytes i at form less e bad = absurd bad
listed_faulty OutOfMemory bytes i at form less e bad = absurd bad
