-- What is kept of a line that is too long is no command either.
use Rattle.std.proofs.Common.{◌≡◌, ℕ, ◌≤◌, ◌<◌, inl, inr, List, [], ◌∷◌, ◌++◌, length, refl, ap, sym, subst, ◌∙◌, arith, length-append}
use Rattle.std.specs.Prelude.{◌⊎◌, Option, Some, None}
use Rattle.std.proofs.lemmas.Bool.{cases_lt}
use Rattle.std.proofs.lemmas.List.{length-take, take-append-le, take_all}
use Rattle.machines.specs.declared.arch.Arch.{Arch}
use Rattle.machines.specs.declared.arch.Family.{Family}
use Rattle.machines.specs.declared.arch.Family.TheVariants.{Chosen, Whole}
use Rattle.machines.specs.Arch.{family_of}
use Rattle.script.specs.Commands as script
use Rattle.script.specs.Grammar.{LineIs}
use Rattle.processes.specs.declared.outcome.Response.{Response}
use Rattle.lifecycle.specs.Commands.{Command}
use Rattle.session.specs.declared.bundles.Bundles.{Bundles}
use Rattle.session.specs.Commands.{CommandIs, LineMeans}
use Rattle.session.specs.Responses.{Parted}
use Rattle.session.specs.inner.Cuts.{kept_of}

kept_all : (part : List ℕ) → length part ≤ 70001 → kept_of part ≡ part
kept_all part h = take_all 70001 part h

-- what is no command
line_long : (native : Arch) (part : List ℕ) (o : Option script.Command) → 70001 < length part → LineIs native (kept_of part) o
    → LineIs native part o
line_long native part (Some asked) long h = absurd (omega (arith, h.short, length-take 70001 part))
line_long native part None long h = λ asked g. omega (arith, g.short)

-- has no response
whole_long : (family : Family) (part call : List ℕ) (response : Option Response) → 70001 < length part
    → Parted family (kept_of part) call response → (call ≡ kept_of part) × (response ≡ None) × Parted family part part None
whole_long Chosen part call None long h = (h, refl, refl)
whole_long Chosen part call (Some response) long h = absurd h
whole_long Whole part call None long h = (h.0, refl, (refl, λ other response g. omega (arith, g.short)))
whole_long Whole part call (Some response) long h = absurd (omega (arith, h.short, length-take 70001 part))

is_long : (bundles : Bundles) (part : List ℕ) (c : Option Command) → 70001 < length part → CommandIs bundles (kept_of part) c
    → CommandIs bundles part c
is_long bundles part c long h =
    let whole = whole_long (family_of bundles.native) part h.call h.response long h.parts in record {
      call = part;
      response = None;
      parts = whole.2;
      asked = h.asked;
      is = line_long bundles.native part h.asked long (subst (λ (line : List ℕ). LineIs bundles.native line h.asked) whole.0 h.is);
      meant = subst (λ (r : Option Response). LineMeans bundles h.asked r c) whole.1 h.meant;
    }

-- it is the same command
pub kept_is : (bundles : Bundles) (part : List ℕ) (c : Option Command) → CommandIs bundles (kept_of part) c → CommandIs bundles part c
kept_is bundles part c h = by_length (cases_lt 70001 (length part)) where
  by_length : (70001 < length part) ⊎ (length part ≤ 70001) → CommandIs bundles part c
  by_length (inl long) = is_long bundles part c long h
  by_length (inr le) = subst (λ (line : List ℕ). CommandIs bundles line c) (kept_all part le) h

-- one byte more, where there is room
pub kept-more : (part items : List ℕ) (byte : ℕ) → items ≡ kept_of part → length items ≤ 70000
    → items ++ byte ∷ [] ≡ kept_of (part ++ byte ∷ [])
kept-more part items byte e few =
    let short : length part ≤ 70000 = omega (arith, length-take 70001 part, ap length e) in
    let all : kept_of (part ++ byte ∷ []) ≡ part ++ byte ∷ [] = kept_all (part
    ++ byte ∷ []) (omega (arith, length-append part (byte ∷ []))) in
    ap (λ (t : List ℕ). t ++ byte ∷ []) (e ∙ kept_all part (omega arith)) ∙ sym all

-- and where there is none
pub kept-full : (part items : List ℕ) (byte : ℕ) → items ≡ kept_of part → 70000 < length items → items ≡ kept_of (part ++ byte ∷ [])
kept-full part items byte e many =
    e ∙ sym (take-append-le 70001 part (byte ∷ []) (omega (arith, length-take 70001 part, ap length e)))

pub kept-nil : length (kept_of []) ≡ 0
kept-nil = ap length (kept_all [] (omega arith))

pub kept-none : (part : List ℕ) → length (kept_of part) ≡ 0 → part ≡ []
kept-none part e = none part (omega (arith, length-take 70001 part)) where
  none : (part : List ℕ) → length part ≡ 0 → part ≡ []
  none [] e = refl
  none (b ∷ part) e = absurd (omega arith)
