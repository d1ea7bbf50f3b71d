-- Tests that are negated.
use Rattle.std.proofs.Common.{◌≡◌, ◌↔◌, Bool, true, false, not, refl}

pub not_so : (b : Bool) → not b ≡ true → b ≡ true → ⊥
not_so true untrue is = let e : false ≡ true = untrue in cc
not_so false untrue is = let e : false ≡ true = is in cc

pub so : (b : Bool) → not b ≡ false → b ≡ true
so true untrue = refl
so false untrue = absurd (let e : true ≡ false = untrue in cc)

-- one thing, and not another for which b stands
pub only : (b : Bool) (P Q : Type 0) → P → ((b ≡ true) ↔ Q) → (not b ≡ true) ↔ (P × (Q → ⊥))
only true P Q p is = (λ untrue. let e : false ≡ true = untrue in cc, λ both. absurd (both.1 (is.0 refl)))
only false P Q p is = (λ _. (p, λ q. let e : false ≡ true = is.1 q in cc), λ _. refl)
