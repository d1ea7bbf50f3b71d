use Rattle.std.proofs.Common.{Global, List, Vec, map, string_bytes, subst, ℕ}
use Rattle.std.proofs.lemmas.Result.{err_from_is_err_and}
use Rattle.profile.specs.Policy.{Policy}
use Rattle.together.specs.Combined.{MeansTogether}
use Rattle.combine.specs.Uncombined.{IsUndrafted}
use Rattle.combine.proofs.UncombinedLaws.{undrafted_is}
use Rattle.combine.proofs.combined.combine.Goals as goal

-- the bytes of a vector
abbrev bytes : Vec ℕ Global → List ℕ
bytes b = b.items

pub returns-clause-combined : goal.returns-clause-combined
returns-clause-combined c =
    let profiles : List Policy = c.in_ok-profiles.profiles.items in (
      profiles,
      c.in_ok-profiles.ensures.read,
      subst (λ (ps : List Policy). MeansTogether c.args.native c.args.way ps (string_bytes c.in_ok-made.made)) c.deref-2.ensures.value c.in_ok-made.ensures.together,
    )

pub returns-in_err-bundle-clause-reason : goal.returns-in_err-bundle-clause-reason
returns-in_err-bundle-clause-reason c =
    let profiles : List Policy = c.in_ok-profiles.profiles.items in
    let p = err_from_is_err_and c.from_residual-in_err-bundle.result c.from_residual-in_err-bundle.ensures.1 in
    rw (p.1, p.2) (undrafted_is c.args.native c.args.way (map bytes c.args.bundles.now) profiles c.in_err-bundle.field-0.0 c.in_ok-profiles.ensures.read
    (subst (λ (ps : List Policy). IsUndrafted c.args.native ps c.in_err-bundle.field-0.0) c.deref.ensures.value c.in_err-bundle.ensures))
