-- What is known in full is settled. If each word of a record is stated, a return of the verdict that the profile says of the
-- record agrees by what is known. The listed machines are of one family, so that each number of a token is one machine's own. Of
-- machines of two families a number may be one's own and foreign to the other.
use Rattle.std.specs.Prelude.{◌<◌, ℕ, List, [], All, Contains}
use Rattle.call_record.specs.Words.{IsRecord, word}
use Rattle.profile.specs.Policy.{Policy, InOrder}
use Rattle.profile.specs.Said.{said}
use Rattle.cert_state.specs.declared.literal.Lit.{Lit}
use Rattle.cert_state.specs.declared.literal.Lit.TheVariants.{Bits}
use Rattle.cert_state.specs.Literals.{Holds, all_bits}
use Rattle.cert_check.specs.Agree.{Agrees}

-- each word of the record is stated as a whole
abbrev pub AreStated : List Lit → List ℕ → Type 0
AreStated known r = (w : ℕ) → w < 16 → Contains known (Bits w all_bits (word r w))

abbrev pub StatedIsSettled : Type 0
StatedIsSettled =
    (policy : Policy) (known : List Lit) (r : List ℕ) → InOrder policy.machines → IsRecord r
    → All (λ l. Holds l r) known → AreStated known r → Agrees policy [] [] known (said policy r)
