use Rattle.std.proofs.Common.{◌≡◌, ◌+◌, ◌<◌, ◌++◌, ◌∷◌, [], Global, List, Some, Vec, length, map, option_map, refl, slice_get, sym, ◌∙◌, ap, subst, take, arith, ℕ}
use Rattle.std.specs.List.{AllZip}
use Rattle.std.proofs.lemmas.List.{length-map, length-take-le, map-append, take_all}
use Rattle.std.proofs.lemmas.Option.{slice_get-map, slice_get_read}
use Rattle.std.proofs.lemmas.Result.{err_from_is_err_and}
use Rattle.recover.specs.Recovered.{IsRecovered}
use Rattle.together.proofs.BundleLaws.{zip_length, zip_more}
use Rattle.combine.proofs.stack.bundles_of.Goals as goal

-- the bytes of a vector
abbrev bytes : Vec ℕ Global → List ℕ
bytes b = b.items

pub loop-filter-preserved : goal.loop-filter-preserved
loop-filter-preserved c =
    let i = c.loop-filter.filter-index in
    let filters : List (Vec ℕ Global) = c.args.filters.now in
    let bundles : List (Vec ℕ Global) = c.loop-filter.bundles.items in
    let bundle : Vec ℕ Global = c.in_ok-bundle_of.field-0 in
    let lt : i < length filters = omega arith in
    let one : IsRecovered c.args.native (bytes bundle) c.filter-item.result.items =
    subst (λ (fs : List ℕ). IsRecovered c.args.native (bytes bundle) fs) c.deref.ensures.value c.in_ok-bundle_of.ensures.recovered in
    let more : map bytes c.push.new.self.items ≡ map bytes bundles ++ bytes bundle ∷ [] =
    ap (map bytes) c.in_ok-push.ensures.items ∙ map-append bytes bundles (bundle ∷ []) in
    subst (AllZip (λ filter given. IsRecovered c.args.native given filter) (map bytes (take (i + 1) filters))) (sym more)
    (zip_more bytes (λ filter given. IsRecovered c.args.native given filter) filters (map bytes bundles) i c.filter-item.result (bytes bundle) lt
    c.filter-item.is c.loop-filter.invariant one)

pub returns-clause-recovered : goal.returns-clause-recovered
returns-clause-recovered c =
    let filters : List (Vec ℕ Global) = c.args.filters.now in
    subst (λ (fs : List (Vec ℕ Global)). AllZip (λ filter given. IsRecovered c.args.native given filter) (map bytes fs) (map bytes c.loop-filter.bundles.items))
    (take_all c.loop-filter.filter-index filters (omega arith)) c.loop-filter.invariant

pub returns-in_err-bundle_of-clause-reason : goal.returns-in_err-bundle_of-clause-reason
returns-in_err-bundle_of-clause-reason c =
    let p = err_from_is_err_and c.from_residual.result c.from_residual.ensures.1 in
    let i = c.loop-filter.filter-index in
    let filters : List (Vec ℕ Global) = c.args.filters.now in
    let lt : i < length filters = omega arith in
    let so_far : length (map bytes (take i filters)) ≡ length (map bytes c.loop-filter.bundles.items) =
    zip_length (λ filter given. IsRecovered c.args.native given filter) _ _ c.loop-filter.invariant in
    let made : length (map bytes c.loop-filter.bundles.items) ≡ length c.loop-filter.bundles.items = length-map c.loop-filter.bundles.items bytes in
    let taken : length (map bytes (take i filters)) ≡ i = length-map (take i filters) bytes ∙ length-take-le i filters (omega arith) in
    let place : c.len-place.result ≡ i = omega arith in
    let stands : slice_get (map bytes filters) i ≡ Some c.filter-item.result.items =
    slice_get-map bytes filters i ∙ ap (option_map bytes) (slice_get_read filters (length filters) i c.filter-item.result refl lt c.filter-item.is) in
    rw (p.1, p.2) (c.in_err-bundle_of.ensures.reason (map bytes filters)
    (ap (slice_get (map bytes filters)) place ∙ stands ∙ ap Some (sym c.deref.ensures.value)))
