-- The tail of a node: what is judged sound is spelled so, and what is spelled is read and is not bad.
use Rattle.std.proofs.Common.{◌≡◌, ℕ, zero, suc, ◌+◌, ◌<◌, ◌≤◌, ◌^◌, List, [], ◌++◌, length, refl, arith}
use Rattle.std.proofs.lemmas.List.{length-append}
use Rattle.byteorder.specs.Endian.{little_bytes}
use Rattle.cert_state.specs.declared.literal.Lit.{Lit}
use Rattle.cert_form.specs.declared.node.Kind.{Kind}
use Rattle.cert_form.specs.declared.node.Kind.TheVariants.{Step, Split, Return, Dead}
use Rattle.cert_form.specs.Spelling.{literal, tail, kind_number, IsKind}
use Rattle.cert_form.specs.Reading.{long_at, literal_at, kind_at, tail_length}
use Rattle.cert_form.specs.Faults.{IsBadTail}
use Rattle.cert_form.specs.inner.Standing.{Stands, IsLiteralThere, IsTailThere}
use Rattle.cert_form.proofs.StandLaws.{AreBytes, both, front, back, moved, ended, none_stands, long_stands, long_is, long_below}
use Rattle.cert_form.proofs.PartLaws.{length-literal, literal_is, literal_not_bad}

pub step_there : (bytes : List ℕ) (at : ℕ) → AreBytes bytes → at + 8 ≤ length bytes → IsTailThere bytes 0 at
unfolding kind_at
step_there bytes at small room =
    let second : Stands bytes (at + 4) (little_bytes 4 (long_at bytes (at + 4))) (at + 8) =
    ended bytes (at + 4) _ (at + 4 + 4) (at + 8) (long_stands bytes (at + 4) small (omega arith)) (omega arith) in
    record {
      stands = both bytes at (little_bytes 4 (long_at bytes at)) (at + 4) (at + 4) (little_bytes 4 (long_at bytes (at + 4))) (at + 8)
          (long_stands bytes at small (omega arith)) second refl;
      good = (long_below bytes at small, long_below bytes (at + 4) small);
      same = refl;
    }

pub split_there : (bytes : List ℕ) (at : ℕ) → AreBytes bytes → at + 28 ≤ length bytes → IsLiteralThere bytes at
    → IsLiteralThere bytes (at + 10)
    → IsTailThere bytes 1 at
unfolding kind_at
split_there bytes at small room p q =
    let a : List ℕ = literal (literal_at bytes at) in
    let b : List ℕ = literal (literal_at bytes (at + 10)) in
    let first : Stands bytes (at + 20) (little_bytes 4 (long_at bytes (at + 20))) (at + 24) =
    ended bytes (at + 20) _ (at + 20 + 4) (at + 24) (long_stands bytes (at + 20) small (omega arith)) (omega arith) in
    let second : Stands bytes (at + 24) (little_bytes 4 (long_at bytes (at + 24))) (at + 28) =
    ended bytes (at + 24) _ (at + 24 + 4) (at + 28) (long_stands bytes (at + 24) small (omega arith)) (omega arith) in
    let literals : Stands bytes at (a ++ b) (at + 20) =
    both bytes at a (at + 10) (at + 10) b (at + 20) p.stands
    (ended bytes (at + 10) b (at + 10 + 10) (at + 20) q.stands (omega arith)) refl in
    let three : Stands bytes at (a ++ b ++ little_bytes 4 (long_at bytes (at + 20))) (at + 24) =
    both bytes at (a ++ b) (at + 20) (at + 20) _ (at + 24) literals first refl in
    record {
      stands = both bytes at (a ++ b ++ little_bytes 4 (long_at bytes (at + 20))) (at + 24) (at + 24) _ (at + 28) three second refl;
      good = (p.good, q.good, long_below bytes (at + 20) small, long_below bytes (at + 24) small);
      same = refl;
    }

pub none_there : (bytes : List ℕ) (at kind : ℕ) → at ≤ length bytes → 1 < kind → kind ≤ 3 → IsTailThere bytes kind at
unfolding kind_at
none_there bytes at zero room some few = absurd (omega arith)
none_there bytes at (suc zero) room some few = absurd (omega arith)
none_there bytes at (suc (suc zero)) room some few =
    record { stands = ended bytes at [] at (at + 0) (none_stands bytes at room) (omega arith); good = tt; same = refl }
none_there bytes at (suc (suc (suc zero))) room some few =
    record { stands = ended bytes at [] at (at + 0) (none_stands bytes at room) (omega arith); good = tt; same = refl }
none_there bytes at (suc (suc (suc (suc kind)))) room some few = absurd (omega arith)

-- the other way round
pub length-tail : (k : Kind) → length (tail k) ≡ tail_length (kind_number k)
length-tail (Step first second) = refl
length-tail (Split a b first second) =
    let ab : List ℕ = literal a ++ literal b in
    let abf : List ℕ = ab ++ little_bytes 4 first in
    omega (
      arith,
      length-append abf (little_bytes 4 second),
      length-append ab (little_bytes 4 first),
      length-append (literal a) (literal b),
      length-literal a,
      length-literal b,
    )
length-tail Return = refl
length-tail Dead = refl

pub kind_below : (k : Kind) → kind_number k ≤ 3
kind_below (Step first second) = omega arith
kind_below (Split a b first second) = omega arith
kind_below Return = omega arith
kind_below Dead = omega arith

-- the literals and the numbers of a Split
split_literals : (bytes : List ℕ) (at : ℕ) (a b : Lit) (first second end : ℕ) → Stands bytes at (tail (Split a b first second)) end
    → Stands bytes at (literal a) (at + 10) × Stands bytes (at + 10) (literal b) (at + 20)
split_literals bytes at a b first second end s =
    let ab : List ℕ = literal a ++ literal b in
    let f = front bytes at ab (little_bytes 4 first) _ (front bytes at (ab ++ little_bytes 4 first) (little_bytes 4 second) end s) in
    let g = front bytes at (literal a) (literal b) (at + length ab) f in
    let h = back bytes at (literal a) (literal b) (at + length ab) f in (
      ended bytes at (literal a) (at + length (literal a)) (at + 10) g (omega (arith, length-literal a)),
      moved bytes (at + length (literal a)) (at + 10) (literal b) (at + 20)
          (ended bytes (at + length (literal a)) (literal b) (at + length ab) (at + 20) h
          (omega (arith, length-append (literal a) (literal b), length-literal a, length-literal b)))
          (omega (arith, length-literal a)),
    )

split_numbers : (bytes : List ℕ) (at : ℕ) (a b : Lit) (first second end : ℕ) → Stands bytes at (tail (Split a b first second)) end
    → first < 2 ^ 32 → second < 2 ^ 32 → (long_at bytes (at + 20) ≡ first) × (long_at bytes (at + 24) ≡ second)
split_numbers bytes at a b first second end s h k =
    let ab : List ℕ = literal a ++ literal b in
    let len : length ab ≡ 20 = omega (arith, length-append (literal a) (literal b), length-literal a, length-literal b) in
    let f = back bytes at ab (little_bytes 4 first) _ (front bytes at (ab ++ little_bytes 4 first) (little_bytes 4 second) end s) in
    let g = back bytes at (ab ++ little_bytes 4 first) (little_bytes 4 second) end s in (
      long_is bytes (at + 20) first _ (moved bytes (at + length ab) (at + 20) _ _ f (omega (arith, len))) h,
      long_is bytes (at + 24) second end (moved bytes (at + length (ab ++ little_bytes 4 first)) (at + 24) _ end g
          (omega (arith, len, length-append ab (little_bytes 4 first)))) k,
    )

pub tail_is : (bytes : List ℕ) (at : ℕ) (k : Kind) (end : ℕ) → Stands bytes at (tail k) end → IsKind k
    → kind_at bytes (kind_number k) at ≡ k
unfolding kind_at
tail_is bytes at (Step first second) end s h =
    let e : long_at bytes at ≡ first = long_is bytes at first _ (front bytes at (little_bytes 4 first) (little_bytes 4 second) end s) h.0 in
    let f : long_at bytes (at + 4) ≡ second = long_is bytes (at + 4) second end
    (back bytes at (little_bytes 4 first) (little_bytes 4 second) end s) h.1 in
    rw (e, f) refl
tail_is bytes at (Split a b first second) end s h =
    let ls = split_literals bytes at a b first second end s in
    let ns = split_numbers bytes at a b first second end s h.2 h.3 in
    rw (literal_is bytes at a (at + 10) ls.0 h.0, literal_is bytes (at + 10) b (at + 20) ls.1 h.1, ns.0, ns.1) refl
tail_is bytes at Return end s h = refl
tail_is bytes at Dead end s h = refl

pub tail_not_bad : (bytes : List ℕ) (at : ℕ) (k : Kind) (end : ℕ) → Stands bytes at (tail k) end → IsKind k
    → IsBadTail bytes (kind_number k) at → ⊥
tail_not_bad bytes at (Step first second) end s h (IsBadTail.first one bad) = omega (arith, one)
tail_not_bad bytes at (Step first second) end s h (IsBadTail.second one bad) = omega (arith, one)
tail_not_bad bytes at (Split a b first second) end s h (IsBadTail.first one bad) =
    literal_not_bad bytes at a (at + 10) (split_literals bytes at a b first second end s).0 h.0 bad
tail_not_bad bytes at (Split a b first second) end s h (IsBadTail.second one bad) =
    literal_not_bad bytes (at + 10) b (at + 20) (split_literals bytes at a b first second end s).1 h.1 bad
tail_not_bad bytes at Return end s h (IsBadTail.first one bad) = omega (arith, one)
tail_not_bad bytes at Return end s h (IsBadTail.second one bad) = omega (arith, one)
tail_not_bad bytes at Dead end s h (IsBadTail.first one bad) = omega (arith, one)
tail_not_bad bytes at Dead end s h (IsBadTail.second one bad) = omega (arith, one)
