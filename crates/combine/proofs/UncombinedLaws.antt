-- Why nothing is drafted is why bundles are not combined.
use Rattle.std.proofs.Common.{◌≡◌, ℕ, List, [], ◌∷◌, refl, subst}
use Rattle.std.specs.List.{AllZip}
use Rattle.machines.specs.declared.arch.Arch.{Arch}
use Rattle.profile.specs.Policy.{Policy}
use Rattle.together.specs.Combined.{IsBundle}
use Rattle.together.specs.declared.way.Way.{Way}
use Rattle.combine.specs.declared.uncombined.Uncombined.{Uncombined}
use Rattle.combine.specs.declared.uncombined.Uncombined.TheVariants as why
use Rattle.combine.specs.Uncombined.{IsUncombined, IsUndrafted}

none_of_none : (native : Arch) (bundles : List (List ℕ)) → AllZip (IsBundle native) bundles [] → bundles ≡ []
none_of_none native [] are = refl
none_of_none native (b ∷ bs) are = absurd are

pub undrafted_is : (native : Arch) (way : Way) (bundles : List (List ℕ)) (ps : List Policy) (e : Uncombined)
    → AllZip (IsBundle native) bundles ps → IsUndrafted native ps e → IsUncombined native way bundles e
undrafted_is native way bundles ps why.Nothing are h = none_of_none native bundles (subst (AllZip (IsBundle native) bundles) h are)
undrafted_is native way bundles ps (why.Refused place error) are h = absurd h
undrafted_is native way bundles ps (why.Filter place unsaid) are h = absurd h
undrafted_is native way bundles ps (why.Together unsaid) are h = tt
undrafted_is native way bundles ps (why.Unread error) are h = h
undrafted_is native way bundles ps (why.Unlike found) are h = absurd h
undrafted_is native way bundles ps (why.Crowded call) are h = absurd h
undrafted_is native way bundles ps why.TooLong are h = tt
undrafted_is native way bundles ps why.OutOfMemory are h = tt
