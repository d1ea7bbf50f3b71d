use Rattle.std.proofs.Common.{◌≡◌, ◌+◌, ◌<◌, ◌≤◌, ◌*◌, ℕ, length, Result, Ok, Err, List, ap, subst, arith}
use Rattle.std.specs.Prelude.{◌≢◌, OnOk, IfErr}
use Rattle.cert_form.specs.declared.fault.FormError.{FormError}
use Rattle.cert_form.specs.Faults.{IsBadChained}
use Rattle.cert_form.specs.Reading.{ones, short_at, version_of, chain_place}
use Rattle.cert_form.specs.inner.Standing.{Fails, HasBadStated, AreStatedThere, IsScratchThere}
use Rattle.cert_form.proofs.StandLaws.{AreBytes, weaker}
use Rattle.cert_form.proofs.ScratchLaws.{stated_place, scratch_there, no_scratch_there}
use Rattle.cert_form.proofs.chained.judge_scratch.Goals as goal

pub returns-then-read_long-eq2-clause-sound : goal.returns-then-read_long-eq2-clause-sound
returns-then-read_long-eq2-clause-sound c =
    no_scratch_there c.args.bytes.now c.args.at c.requires (omega (arith, c.read_long.ensures, c.if-read_long-eq2.true))

pub returns-then-at-bytes-clause-fault : goal.returns-then-at-bytes-clause-fault
returns-then-at-bytes-clause-fault c =
    omega (
      arith,
      stated_place c.args.bytes.now c.args.at (λ two. c.if-read_long-eq2.false (omega (arith, c.read_long.ensures, two))),
      c.if-at-bytes.true,
    )

sound : (r : Result Unit FormError) (bytes : List ℕ) (at bits : ℕ) → AreBytes bytes → at + 18 ≤ length bytes → version_of bytes ≢ 2
    → bits ≡ short_at bytes (at + 16)
    → OnOk r (AreStatedThere bytes (at + 18) bits 16) → OnOk r (IsScratchThere bytes at)
sound (Ok x) bytes at bits small room other e p = scratch_there bytes at small room other
    (subst (λ b. AreStatedThere bytes (at + 18) b 16) e p)
sound (Err e) bytes at bits small room other same p = tt

pub returns-clause-sound : goal.returns-clause-sound
returns-clause-sound c =
    sound c.judge_values.result c.args.bytes.now c.args.at c.read_short.result (λ i. omega (arith, c.type_inv.bytes i))
    (omega (arith, c.if-at-bytes.false))
    (λ two. c.if-read_long-eq2.false (omega (arith, c.read_long.ensures, two))) c.read_short.ensures c.judge_values.ensures.sound

fault : (r : Result Unit FormError) (bytes : List ℕ) (at bits : ℕ) → version_of bytes ≢ 2 → bits ≡ short_at bytes (at + 16)
    → IfErr r (λ e. Fails e bytes (at + 18 + 6 * ones bits 16) (HasBadStated bytes (at + 18) bits))
    → IfErr r (λ e. Fails e bytes (chain_place bytes at) (IsBadChained bytes at))
fault (Ok x) bytes at bits other same p = tt
fault (Err e) bytes at bits other same p =
    weaker e bytes (at + 18 + 6 * ones bits 16) (chain_place bytes at)
    (omega (arith, stated_place bytes at other, ap (λ b. ones b 16) same))
    (λ bad. IsBadChained.stated bad.0 other (subst (λ b. bad.0 < ones b 16) same bad.1) bad.2) p

pub returns-clause-fault : goal.returns-clause-fault
returns-clause-fault c =
    fault c.judge_values.result c.args.bytes.now c.args.at c.read_short.result
    (λ two. c.if-read_long-eq2.false (omega (arith, c.read_long.ensures, two))) c.read_short.ensures c.judge_values.ensures.fault
