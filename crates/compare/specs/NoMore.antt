-- When a profile allows no more than another.
use Rattle.std.specs.Prelude.{◌≡◌, ℕ, List, false}
use Rattle.call_record.specs.Fate.{is_further}
use Rattle.call_record.specs.Words.{IsRecord}
use Rattle.profile.specs.Policy.{Policy, Says}

-- No call goes further by the new profile than by the old one: none is let through that was not, and none is left to a tracer or a listener
-- that was refused.
abbrev pub AllowsNoMore : Policy → Policy → Type 0
AllowsNoMore new old = (r : List ℕ) → IsRecord r → (v w : ℕ) → Says old r v → Says new r w → is_further w v ≡ false
