-- A line that is written in parts.
use Rattle.std.proofs.Common.{◌≡◌, ℕ, suc, ◌+◌, ◌<◌, List, [], ◌∷◌, ◌++◌, length, length-append, take, refl, ap, sym, subst, ◌∙◌, arith}
use Rattle.std.specs.Prelude.{Option, Result, Ok, Err}
use Rattle.std.specs.Io.KnownBytes.{Appends}
use Rattle.std.proofs.lemmas.List.{take-append-le}
use Rattle.texts.proofs.SinkLemmas.{Appends-then, has_failed}
use Rattle.texts.specs.Failures.{Failures}
use Rattle.texts.specs.Sink.{Writes, Wrote}
use Rattle.texts.specs.declared.streams.fault.WriteFault.{WriteFault}
use Rattle.texts.specs.declared.streams.fault.WriteFault.TheVariants.{Write, OutOfMemory}
use Rattle.cli.specs.Stop.{Reports}

take_past : (xs ys : List ℕ) (n : ℕ) → take (length xs + n) (xs ++ ys) ≡ xs ++ take n ys
take_past [] ys n = let e : 0 + n ≡ n = omega arith in ap (λ k. take k ys) e
take_past (x ∷ xs) ys n =
    let e : suc (length xs) + n ≡ suc (length xs + n) = omega arith in
    ap (λ k. take k (x ∷ (xs ++ ys))) e ∙ ap (λ l. x ∷ l) (take_past xs ys n)

module _ {S : Type 0} (held : S → Option (List ℕ)) (failures : S → Failures) where
  -- the line was handed over whole
  pub reported : (old new : S) (bytes line : List ℕ) (result : Result (Unit {0}) WriteFault) → bytes ≡ line
      → Writes held failures old new bytes result → Reports held failures old new line
  reported old new bytes line result e h = (result, subst (λ b. Writes held failures old new b result) e h)

  -- a part failed, and the rest was not asked for
  failed_at : (old new : S) (xs ys : List ℕ) (f : WriteFault) → Writes {T = Unit {0}} held failures old new xs (Err f)
      → Reports held failures old new (xs ++ ys)
  failed_at old new xs ys (Write out) h =
      let within : out < length xs = h.1 in
      let same : take out (xs ++ ys) ≡ take out xs = take-append-le out xs ys (omega arith) in
      (Err (Write out), (subst (λ l. Appends (held old) (held new) l) (sym same) h.0, omega (arith, length-append xs ys), h.2))
  failed_at old new xs ys OutOfMemory h = absurd h

  pub part_failed : (old new : S) (bytes xs ys : List ℕ) (f : WriteFault) → bytes ≡ xs
      → Writes {T = Unit {0}} held failures old new bytes (Err f) → Reports held failures old new (xs ++ ys)
  part_failed old new bytes xs ys f e h =
      failed_at old new xs ys f (subst (λ b. Writes {T = Unit {0}} held failures old new b (Err f)) e h)

  -- a part was written, and then the rest
  after : (old mid new : S) (xs ys : List ℕ) → Wrote held failures old mid xs → Reports held failures mid new ys
      → Reports held failures old new (xs ++ ys)
  after old mid new xs ys h (Ok u, g) =
      (Ok u, (Appends-then (held old) (held mid) (held new) xs ys (xs ++ ys) refl h.0 g.0, g.1 ∙ h.1))
  after old mid new xs ys h (Err (Write out), g) =
      let within : out < length ys = g.1 in
      let all : Appends (held old) (held new) (take (length xs + out) (xs ++ ys)) =
      Appends-then (held old) (held mid) (held new) xs (take out ys) (take (length xs + out) (xs ++ ys)) (take_past xs ys out) h.0 g.0 in (
        Err (Write (length xs + out)),
        (all, omega (arith, length-append xs ys), has_failed (failures old) (failures mid) (failures new) h.1 g.2),
      )
  after old mid new xs ys h (Err OutOfMemory, g) = absurd g

  pub part_written : (old mid new : S) (bytes xs ys : List ℕ) → bytes ≡ xs → Wrote held failures old mid bytes
      → Reports held failures mid new ys → Reports held failures old new (xs ++ ys)
  part_written old mid new bytes xs ys e h g =
      after old mid new xs ys (subst (λ b. Wrote held failures old mid b) e h) g
