use Rattle.std.proofs.Common.{◌≡◌, ◌∙◌, ◌+◌, ◌<◌, Global, IfSome, List, Some, Vec, ap, length, map, option_map, refl, slice_get, sym, subst, take, arith, ℕ}
use Rattle.std.specs.List.{AllZip}
use Rattle.std.proofs.lemmas.List.{length-map, length-take-le, take_all, take-map}
use Rattle.std.proofs.lemmas.Option.{slice_get-map, slice_get_read}
use Rattle.profile.specs.Policy.{Policy}
use Rattle.profile_json.specs.Breaks.{Breaks}
use Rattle.profile_json.specs.Fault.{fault_of}
use Rattle.together.specs.Combined.{IsBundle}
use Rattle.together.proofs.BundleLaws.{zip_length, zip_more}
use Rattle.together.proofs.bundles.profiles_of.Goals as goal

-- the bytes of a vector
abbrev bytes : Vec ℕ Global → List ℕ
bytes b = b.items

pub loop-bundle-preserved : goal.loop-bundle-preserved
loop-bundle-preserved c =
    let i = c.loop-bundle.bundle-index in
    let bundles : List (Vec ℕ Global) = c.args.bundles.now in
    let lt : i < length bundles = omega arith in
    let profile : Policy = c.in-Ok.profile in
    let one : IsBundle c.args.native c.bundle-item.result.items profile =
    subst (λ (bs : List ℕ). IsBundle c.args.native bs profile) c.deref.ensures.value c.in-Ok.ensures.read in
    subst (AllZip (IsBundle c.args.native) (map bytes (take (i + 1) bundles))) (sym c.in_ok-push-in-Ok.ensures.items)
    (zip_more bytes (IsBundle c.args.native) bundles c.loop-bundle.profiles.items i c.bundle-item.result profile lt c.bundle-item.is
    c.loop-bundle.invariant one)

pub returns-clause-read : goal.returns-clause-read
returns-clause-read c =
    let bundles : List (Vec ℕ Global) = c.args.bundles.now in
    subst (λ (bs : List (Vec ℕ Global)). AllZip (IsBundle c.args.native) (map bytes bs) c.loop-bundle.profiles.items)
    (take_all c.loop-bundle.bundle-index bundles (omega arith)) c.loop-bundle.invariant

pub returns-in-Err-clause-fault : goal.returns-in-Err-clause-fault
returns-in-Err-clause-fault c =
    let i = c.loop-bundle.bundle-index in
    let bundles : List (Vec ℕ Global) = c.args.bundles.now in
    let lt : i < length bundles = omega arith in
    let profiles : List Policy = c.loop-bundle.profiles.items in
    let so_far : length (map bytes (take i bundles)) ≡ length profiles = zip_length (IsBundle c.args.native) _ _ c.loop-bundle.invariant in
    let taken : length (map bytes (take i bundles)) ≡ i = length-map (take i bundles) bytes ∙ length-take-le i bundles (omega arith) in
    let place : c.len.result ≡ i = omega arith in
    let stands : slice_get (map bytes bundles) i ≡ Some c.bundle-item.result.items =
    slice_get-map bytes bundles i ∙ ap (option_map bytes) (slice_get_read bundles (length bundles) i c.bundle-item.result refl lt c.bundle-item.is) in
    c.refused_at.ensures c.args.native (map bytes bundles) c.bundle-item.result.items profiles
    (subst (λ k. slice_get (map bytes bundles) k ≡ Some c.bundle-item.result.items) (sym place) stands)
    (subst (λ l. AllZip (IsBundle c.args.native) l profiles) (sym (ap (λ k. take k (map bytes bundles)) place ∙ take-map bytes i bundles))
    c.loop-bundle.invariant)
    (subst (λ (bs : List ℕ). IfSome (fault_of c.in-Err.error) (Breaks bs c.args.native)) c.deref.ensures.value c.in-Err.ensures.fault)
